-- The law upon runs: the sheet that a call leaves comes by the calls before it and this one, accepted or refused as it was.
use Rattle.std.specs.Prelude.{ℕ, List, ◌∷◌, Ok, Err, Result}
use Rattle.guards.specs.Algebra.{Model}
use Rattle.automata.specs.Machine.{Machine}
use Rattle.automata.specs.Refusals.{Told, told}
use Rattle.automata.specs.Sheet.{Call, opening, adding, marking, writing, checking, discarding, turning, Fed, accepted_call, refused_call, InHand, nothing, open_clause, checked_clause, Sheet, Comes}
use Rattle.automata.specs.declared.moves.Move.{Move}
use Rattle.automata.specs.declared.refusals.Refused.{Refused}
use Rattle.tables.specs.Values.{machine}
use Rattle.machines.specs.declared.clauses.CheckedClause.{CheckedClause}
use Rattle.machines.specs.declared.clauses.OpenClause.{OpenClause}
use Rattle.machines.specs.declared.clauses.Rule.{Rule}

-- the sheet of these values with their tables
module _ {G : Type 0} where
  abbrev pub rule_machine : Rule → List (Move G) → Machine G
  rule_machine rule table = machine rule.counts rule.endings table

  abbrev pub with_nothing : Machine G → Sheet G
  with_nothing R = record { rule = R; hand = nothing }

  abbrev pub with_open : Machine G → List (Move G) → OpenClause → Sheet G
  with_open R table c = record { rule = R; hand = open_clause (machine c.counts c.endings table) }

  abbrev pub with_checked : Machine G → List (Move G) → CheckedClause → Sheet G
  with_checked R table d = record { rule = R; hand = checked_clause (machine d.counts d.endings table) }

module _ {E G : Type 0} (alg : Model E G) where
  -- by whatever calls the sheet at entry comes, the sheet at exit comes by these and this call
  abbrev pub Accepted : Call G → Sheet G → Sheet G → Type 0
  Accepted call entry exit = (fs : List (Fed E G)) → Comes alg fs entry → Comes alg (accepted_call call ∷ fs) exit

  abbrev pub Refusing : Call G → Told E → Sheet G → Sheet G → Type 0
  Refusing call why entry exit = (fs : List (Fed E G)) → Comes alg fs entry → Comes alg (refused_call call why ∷ fs) exit

  -- so for a call on a moved value: the sheet before it, and the sheet after it with what it made or handed back
  abbrev pub Runs : {T U : Type 0} → Call G → Sheet G → (U → Sheet G) → (T → Sheet G) → Result U (Refused T E) → Type 0
  Runs call entry made back (Ok new) = Accepted call entry (made new)
  Runs call entry made back (Err refused) = Refusing call (told refused.why) entry (back refused.value)

  -- the calls that are handed neither the rule nor its table keep to the law with any rule; tables that they are not handed are any tables
  abbrev pub OpeningRuns : OpenClause → Type 0
  OpeningRuns c = (R : Machine G) (table : List (Move G)) → Accepted opening (with_nothing R) (with_open R table c)

  abbrev pub AddingRuns : OpenClause → Result (OpenClause × ℕ) (Refused OpenClause E) → Type 0
  AddingRuns c r = (R : Machine G) (table : List (Move G)) → Runs adding (with_open R table c) (λ a. with_open R table a.0) (with_open R table) r

  abbrev pub MarkingRuns : OpenClause → ℕ → Result OpenClause (Refused OpenClause E) → Type 0
  MarkingRuns c state r = (R : Machine G) (table : List (Move G)) → Runs (marking state) (with_open R table c) (with_open R table) (with_open R table) r

  abbrev pub WritingRuns : OpenClause → Move G → List (Move G) → List (Move G) → Result OpenClause (Refused OpenClause E) → Type 0
  WritingRuns c line before after r = (R : Machine G) → Runs (writing line) (with_open R before c) (with_open R after) (with_open R after) r

  abbrev pub CheckingRuns : OpenClause → List (Move G) → List (Move G) → Result CheckedClause (Refused OpenClause E) → Type 0
  CheckingRuns c before after r = (R : Machine G) → Runs checking (with_open R before c) (with_checked R after) (with_open R after) r

  abbrev pub TurningRuns : Rule → Rule → Type 0
  TurningRuns rule turned =
      (table : List (Move G)) (hand : InHand G) → Accepted turning (record { rule = rule_machine rule table; hand = hand }) (record { rule = rule_machine turned table; hand = hand })

  abbrev pub OpenDiscardingRuns : OpenClause → Type 0
  OpenDiscardingRuns c = (R : Machine G) (table : List (Move G)) → Accepted discarding (with_open R table c) (with_nothing R)

  abbrev pub CheckedDiscardingRuns : CheckedClause → Type 0
  CheckedDiscardingRuns d = (R : Machine G) (table : List (Move G)) → Accepted discarding (with_checked R table d) (with_nothing R)
