-- The call of joining: what the joined rule is, and the promises of it.
use Rattle.std.proofs.Common.{◌≡◌, ℕ, ◌≤◌, List, ◌∷◌, length, drop, false, Ok, Err, Some, None, Option, Result, sym, ap, ◌∙◌, subst, inl, inr, arith}
use Rattle.std.proofs.lemmas.List.{length-take-le}
use Rattle.guards.specs.Algebra.{Model, Laws}
use Rattle.automata.specs.Joining.{JoinMeaning}
use Rattle.automata.specs.Limits.{most_moves}
use Rattle.automata.specs.Machine.{Machine}
use Rattle.automata.specs.Refusals.{Told, told}
use Rattle.automata.specs.Sheet.{joining, accepted_call, Sheet, made_unless}
use Rattle.automata.specs.declared.joins.JoinBy.{JoinBy}
use Rattle.automata.specs.declared.moves.Move.{Move}
use Rattle.automata.specs.declared.refusals.Refused.{Refused}
use Rattle.automata.proofs.AcceptedCalls.{join_passed}
use Rattle.automata.proofs.JoinMeanings.{join_means}
use Rattle.automata.proofs.Sheets.{rules_kept}
use Rattle.machines.specs.Calls.{Outcome}
use Rattle.machines.specs.JoinCall.{joined_rule, joining_why, clause_machine, JoinedAs, JoiningRuns, JoinKept}
use Rattle.machines.specs.Runs.{rule_machine, with_nothing, with_checked}
use Rattle.machines.specs.Sizes.{is_short}
use Rattle.machines.specs.declared.clauses.CheckedClause.{CheckedClause}
use Rattle.machines.specs.declared.clauses.Rule.{Rule}
use Rattle.machines.specs.declared.clauses.Unjoined.{Unjoined}
use Rattle.machines.proofs.CallRuns.{accepted_runs, refused_runs, sized_why, sized_none}

module _ {E G : Type 0} (alg : Model E G) (laws : Laws alg) (rule : Rule) (clause : CheckedClause) (way : JoinBy) (before clause_table after : List (Move G)) (sizes : List (ℕ × ℕ)) where
  abbrev R : Machine G
  R = rule_machine rule before

  abbrev N : Machine G
  N = clause_machine clause clause_table

  abbrev why : Option (Told E)
  why = joining_why alg rule clause way before clause_table sizes

  -- where joining is not refused, no size is too small
  pub sized : why ≡ None → is_short sizes ≡ false
  sized none = (sized_none (is_short sizes) _ none).0

  -- what is written means what it should
  pub joined_as : why ≡ None → (new : Rule) → rule_machine new after ≡ joined_rule alg R N way → new.counts.moves ≤ most_moves → drop new.counts.moves after ≡ drop new.counts.moves before → most_moves ≤ length after →
      JoinedAs alg rule clause way before clause_table after new
  joined_as none new is few tail long = record {
    is = is;
    moves = sym (length-take-le new.counts.moves after (omega (arith, few, long))) ∙ ap (λ S. length S.moves) is;
    tail = tail;
    meaning = subst (λ S. JoinMeaning alg R N way S) (sym is) (join_means alg laws R N way (join_passed alg R N way (sized_none (is_short sizes) _ none).1));
  }

  abbrev Answer : Result Rule (Refused Unjoined E) → Type 0
  Answer r = Outcome why (JoinedAs alg rule clause way before clause_table after) (record { rule = rule; clause = clause }) (after ≡ before) r

  joining_runs : (r : Result Rule (Refused Unjoined E)) → Answer r → JoiningRuns alg rule clause way before clause_table after r
  joining_runs (Ok new) h =
      let made : Sheet G = with_nothing (joined_rule alg R N way) in
      accepted_runs alg (joining way) (with_checked R clause_table clause) (with_nothing (rule_machine new after))
      (ap (λ o. made_unless o made) (sized_none (is_short sizes) _ h.0).1 ∙ ap (λ S. Ok (with_nothing S)) (sym h.1.is))
  joining_runs (Err back) h =
      let made : Sheet G = with_nothing (joined_rule alg R N way) in
      refused_runs alg (joining way) (told back.why) (with_checked R clause_table clause) (with_checked (rule_machine back.value.rule after) clause_table back.value.clause)
      (ap (λ t. with_checked (rule_machine back.value.rule t) clause_table back.value.clause) h.2 ∙ ap (λ u. with_checked (rule_machine u.rule before) clause_table u.clause) h.1)
      (elim (sized_why (is_short sizes) _ (told back.why) h.0) [ inl short ↦ inl short | inr s ↦ inr (ap (λ o. made_unless o made) s.1) ])

  join_kept : (r : Result Rule (Refused Unjoined E)) → Answer r → JoinKept alg rule clause way before clause_table after r
  join_kept (Ok new) h fs comes = rules_kept alg laws (accepted_call (joining way) ∷ fs) (with_nothing (rule_machine new after)) (joining_runs (Ok new) h fs comes)
  join_kept (Err back) h fs comes =
      rules_kept alg laws fs (with_checked (rule_machine back.value.rule after) clause_table back.value.clause) (joining_runs (Err back) h fs comes).0

  -- the promises hold of a rule that is made, and of one that is handed back
  pub joined_kept : why ≡ None → (new : Rule) → rule_machine new after ≡ joined_rule alg R N way → new.counts.moves ≤ most_moves → drop new.counts.moves after ≡ drop new.counts.moves before → most_moves ≤ length after →
      JoinKept alg rule clause way before clause_table after (Ok new)
  joined_kept none new is few tail long = join_kept (Ok new) (none, joined_as none new is few tail long)

  pub unjoined_kept : (back : Refused Unjoined E) → why ≡ Some (told back.why) → back.value ≡ record { rule = rule; clause = clause } → after ≡ before → JoinKept alg rule clause way before clause_table after (Err back)
  unjoined_kept back refused same unchanged = join_kept (Err back) (refused, same, unchanged)
