-- The call of joining: when it refuses, what it makes, and what that means.
use Rattle.std.specs.Prelude.{◌≡◌, ℕ, List, [], ◌∷◌, length, drop, Some, None, Option, Result, MatchResult}
use Rattle.guards.specs.Algebra.{Model}
use Rattle.automata.specs.Faults.{refuse_if, join_why}
use Rattle.automata.specs.Joining.{JoinMeaning}
use Rattle.automata.specs.Limits.{most_states}
use Rattle.automata.specs.Machine.{Machine}
use Rattle.automata.specs.Product.{product}
use Rattle.automata.specs.Promises.{Kept}
use Rattle.automata.specs.Reduction.{reduced}
use Rattle.automata.specs.Refusals.{Told, tell, told}
use Rattle.automata.specs.Sheet.{joining, Fed, accepted_call, Comes}
use Rattle.automata.specs.declared.joins.JoinBy.{JoinBy}
use Rattle.automata.specs.declared.moves.Move.{Move}
use Rattle.automata.specs.declared.refusals.Refusal.{Refusal}
use Rattle.automata.specs.declared.refusals.Refused.{Refused}
use Rattle.machines.specs.Sizes.{is_short}
use Rattle.machines.specs.Runs.{rule_machine, with_checked, with_nothing, Runs}
use Rattle.tables.specs.Values.{Within, machine}
use Rattle.machines.specs.declared.clauses.CheckedClause.{CheckedClause}
use Rattle.tables.specs.declared.counts.Counts.{Counts}
use Rattle.machines.specs.declared.clauses.Rule.{Rule}
use Rattle.machines.specs.declared.clauses.Unjoined.{Unjoined}
use Rattle.tables.specs.declared.endings.Endings.{Endings}

-- the clause with its table
abbrev pub clause_machine : {G : Type 0} → CheckedClause → List (Move G) → Machine G
clause_machine clause table = machine clause.counts clause.endings table

module _ {E G : Type 0} (alg : Model E G) where
  -- the rule that joining the clause N to the rule R makes
  abbrev pub joined_rule : Machine G → Machine G → JoinBy → Machine G
  joined_rule R N way = reduced alg (product alg R N way)

module _ {E G : Type 0} (alg : Model E G) (rule : Rule) (clause : CheckedClause) (way : JoinBy) (before clause_table : List (Move G)) where
  -- why joining is refused: a size is too small, or else rule and clause decide
  abbrev pub joining_why : List (ℕ × ℕ) → Option (Told E)
  joining_why sizes = refuse_if (is_short sizes) (tell 1 []) (join_why alg (rule_machine rule before) (clause_machine clause clause_table) way)

  -- the counts and endings of the joined rule, whose moves are written from place 0, and the rest of the table as it was; or the refusal, and the table as it was
  abbrev pub Rejoined : List (ℕ × ℕ) → List (Move G) → Result (Counts × Endings) (Refusal E) → Type 0
  Rejoined sizes after r =
      MatchResult r
      (λ d. (joining_why sizes ≡ None) × (machine d.0 d.1 after ≡ joined_rule alg (rule_machine rule before) (clause_machine clause clause_table) way) × Within most_states d.0 d.1 × (drop d.0.moves after ≡ drop d.0.moves before))
      (λ why. (joining_why sizes ≡ Some (told why)) × (after ≡ before))

  -- the joined rule with its table is what the definition makes of rule and clause; places past its moves are as they were
  pub record JoinedAs (after : List (Move G)) (new : Rule) : Type 0 where
    pub is : rule_machine new after ≡ joined_rule alg (rule_machine rule before) (clause_machine clause clause_table) way
    pub moves : new.counts.moves ≡ length (joined_rule alg (rule_machine rule before) (clause_machine clause clause_table) way).moves
    pub tail : drop new.counts.moves after ≡ drop new.counts.moves before
    pub meaning : JoinMeaning alg (rule_machine rule before) (clause_machine clause clause_table) way (rule_machine new after)

  abbrev pub JoiningRuns : List (Move G) → Result Rule (Refused Unjoined E) → Type 0
  JoiningRuns after r =
      Runs alg (joining way) (with_checked (rule_machine rule before) clause_table clause) (λ new. with_nothing (rule_machine new after)) (λ back. with_checked (rule_machine back.rule after) clause_table back.clause) r

  -- the promises hold of the rule that is made, by whatever calls rule and clause come
  abbrev pub JoinKept : List (Move G) → Result Rule (Refused Unjoined E) → Type 0
  JoinKept after r =
      (fs : List (Fed E G)) → Comes alg fs (with_checked (rule_machine rule before) clause_table clause)
      → MatchResult r (λ new. Kept alg (accepted_call (joining way) ∷ fs) (rule_machine new after)) (λ back. Kept alg fs (rule_machine back.value.rule after))
