-- The promises of every sheet that comes by calls.
use Rattle.std.proofs.Common.{◌≡◌, List, [], ◌∷◌, Some, None, Ok, Option, refl, ap, subst}
use Rattle.std.specs.Option.{option_map}
use Rattle.std.proofs.lemmas.Bool.Decides.{same_from_decides, Decides-like}
use Rattle.guards.specs.Algebra.{Model, Laws}
use Rattle.automata.specs.Automaton.{accepted}
use Rattle.automata.specs.Book.{draft_after, draft, DayAfter, InDraft, InBook}
use Rattle.automata.specs.Checking.{checked}
use Rattle.automata.specs.Faults.{machine_why, join_why}
use Rattle.automata.specs.Machine.{Machine, LeadsTo, InRange}
use Rattle.automata.specs.Product.{product}
use Rattle.automata.specs.Promises.{RulesKept, RulesMatch, LeastOfKind}
use Rattle.automata.specs.Reduction.{reduced}
use Rattle.automata.specs.Refusals.{Told}
use Rattle.automata.specs.Running.{automaton}
use Rattle.automata.specs.Sheet.{Call, opening, adding, marking, writing, checking, joining, discarding, turning, Fed, accepted_call, refused_call, nothing, open_clause, checked_clause, Sheet, made_unless, of_open, after, Comes}
use Rattle.automata.specs.Writing.{blank, with_state, with_ending, with_move, turned, state_why, ending_why, move_why}
use Rattle.automata.proofs.AcceptedCalls.{ok_same, made_ok, of_nothing_ok, of_open_ok, of_checked_ok, of_clause_ok, ending_passed, move_passed, machine_passed, join_passed}
use Rattle.automata.proofs.Automata.{least, own_states, match_once}
use Rattle.automata.proofs.HeldClauses.{Held, blank_in, with_state_in, with_ending_in, with_move_in, checked_held}
use Rattle.automata.proofs.MachineRuns.{run_leads, automaton_accepts}
use Rattle.automata.proofs.StandingRules.{Stands, new_stands, turned_stands, joined_stands}
use Rattle.automata.proofs.Words.{told_apart}

-- the rule accepts the days D, and the hand holds what the draft says
record Holds {E G : Type 0} (alg : Model E G) (D : List E → Type 0) (draft : Option (Machine G)) (s : Sheet G) : Type 0 where
  rule : Stands alg D s.rule
  hand : Held alg draft s.hand

module _ {E G : Type 0} (alg : Model E G) (laws : Laws alg) where
  -- a call that writes on the open clause
  written_holds : (D : List E → Type 0) (o : Option (Machine G)) (why : Machine G → Option (Told E)) (make : Machine G → Machine G) → ((M : Machine G) → why M ≡ None → InRange alg M → InRange alg (make M)) →
      (r s : Sheet G) → Holds alg D o r → of_open r.hand (λ M. made_unless (why M) (record { rule = r.rule; hand = open_clause (make M) })) ≡ Ok s → Holds alg D (option_map make o) s
  written_holds D o why make inside r s h e =
      let t = of_open_ok r.hand (λ M. made_unless (why M) (record { rule = r.rule; hand = open_clause (make M) })) s e in
      let M = t.0 in
      let made = made_ok (why M) (record { rule = r.rule; hand = open_clause (make M) }) s t.2 in
      let held = subst (Held alg o) t.1 h.hand in
      subst (Holds alg D (option_map make o)) made.1 (record { rule = h.rule; hand = (ap (option_map make) held.0, inside M made.0 held.1) })

  -- one accepted call
  call_holds : (c : Call G) (D : List E → Type 0) (o : Option (Machine G)) (r s : Sheet G) → Holds alg D o r → after alg r c ≡ Ok s → Holds alg (λ w. DayAfter c (D w) (InDraft alg o w)) (draft_after c o) s
  call_holds opening D o r s h e =
      let x : Sheet G = record { rule = r.rule; hand = open_clause blank } in
      subst (Holds alg D (Some blank)) (ok_same {Y = Told E} x s (of_nothing_ok r.hand (Ok x) s e)) (record { rule = h.rule; hand = (refl, blank_in alg) })
  call_holds adding D o r s h e = written_holds D o state_why with_state (λ M _. with_state_in alg M) r s h e
  call_holds (marking q) D o r s h e = written_holds D o (ending_why q) (with_ending q) (λ M none. with_ending_in alg q M (ending_passed {E = E} q M none)) r s h e
  call_holds (writing v) D o r s h e = written_holds D o (move_why v) (with_move v) (λ M none. with_move_in alg v M (move_passed {E = E} v M none)) r s h e
  call_holds checking D o r s h e =
      let t = of_open_ok r.hand (λ M. made_unless (machine_why alg M) (record { rule = r.rule; hand = checked_clause (checked alg M) })) s e in
      let M = t.0 in
      let made = made_ok (machine_why alg M) (record { rule = r.rule; hand = checked_clause (checked alg M) }) s t.2 in
      subst (Holds alg D o) made.1 (record { rule = h.rule; hand = checked_held alg laws o M (subst (Held alg o) t.1 h.hand) (machine_passed alg M made.0).1 })
  call_holds (joining way) D o r s h e =
      let t = of_checked_ok r.hand (λ N. made_unless (join_why alg r.rule N way) (record { rule = reduced alg (product alg r.rule N way); hand = nothing })) s e in
      let N = t.0 in
      let made = made_ok (join_why alg r.rule N way) (record { rule = reduced alg (product alg r.rule N way); hand = nothing }) s t.2 in
      let held = subst (Held alg o) t.1 h.hand in
      subst (Holds alg (λ w. DayAfter {G = G} (joining way) (D w) (InDraft alg o w)) None) made.1
      (record { rule = joined_stands alg laws D (InDraft alg o) r.rule N way h.rule held.0 held.1 (join_passed alg r.rule N way made.0); hand = refl })
  call_holds discarding D o r s h e =
      let x : Sheet G = record { rule = r.rule; hand = nothing } in
      subst (Holds alg D None) (ok_same {Y = Told E} x s (of_clause_ok r.hand (Ok x) s e)) (record { rule = h.rule; hand = refl })
  call_holds turning D o r s h e =
      subst (Holds alg (λ w. D w → ⊥) o) (ok_same {Y = Told E} (record { rule = turned r.rule; hand = r.hand }) s e) (record { rule = turned_stands alg laws D r.rule h.rule; hand = h.hand })

  comes_holds : (fs : List (Fed E G)) (s : Sheet G) → Comes alg fs s → Holds alg (InBook alg fs) (draft fs) s
  comes_holds [] s e = subst (Holds alg (λ w. Unit {0}) None) e (record { rule = new_stands alg laws; hand = refl })
  comes_holds (accepted_call c ∷ fs) s (r, before, e) = call_holds c (InBook alg fs) (draft fs) r s (comes_holds fs r before) e
  comes_holds (refused_call c why ∷ fs) s (before, e) = comes_holds fs s before

  stands : (fs : List (Fed E G)) (s : Sheet G) → Comes alg fs s → Stands alg (InBook alg fs) s.rule
  stands fs s c = (comes_holds fs s c).rule

  pub rules_kept : RulesKept alg
  rules_kept fs s c =
      let r = stands fs s c in
      let R = s.rule in
      record {
        proper = r.proper;
        days = λ w d. let a = automaton_accepts alg laws R r.proper 0 w r.proper.in_range.some d in (λ h. (r.days w d).0 (a.1 h), λ h. a.0 ((r.days w d).1 h));
        least = λ N valid same. least alg.domain (automaton alg R) r.reduced N valid (λ w d. same_from_decides (accepted (automaton alg R) 0 w) (accepted N N.start w) (r.days w d) (same w d));
        told = λ p q hp hq other. told_apart alg laws R r.proper p q hp hq r.few r.reduced other;
      }

  pub least_of_kind : {Q : Type 0} → LeastOfKind alg Q
  least_of_kind fs s c start next endings same =
      let r = stands fs s c in
      let own = own_states alg.domain (automaton alg s.rule) r.reduced next endings start (λ w d. same_from_decides _ _ (r.days w d) (same w d)) in
      record {
        day = own.0;
        leads = λ i h.
            let a = own.1 i h in
            (a.0, subst (LeadsTo alg s.rule 0 (own.0 i)) a.1 (run_leads alg laws s.rule r.proper 0 (own.0 i) r.proper.in_range.some a.0));
        own = own.2;
      }

  pub rules_match : RulesMatch alg
  rules_match fs gs s t c d same =
      let r = stands fs s c in
      let q = stands gs t d in
      match_once alg.domain (automaton alg s.rule) (automaton alg t.rule) r.reduced q.reduced (λ w day.
      same_from_decides (accepted (automaton alg s.rule) 0 w) (accepted (automaton alg t.rule) 0 w)
      (Decides-like _ (same w day).0 (same w day).1 (automaton_accepts alg laws s.rule r.proper 0 w r.proper.in_range.some day))
      (automaton_accepts alg laws t.rule q.proper 0 w q.proper.in_range.some day))
