-- Turning over: the machine that accepts exactly the other days.
use Rattle.std.specs.Prelude.{List}
use Rattle.guards.specs.Algebra.{Model}
use Rattle.automata.specs.Machine.{Machine, Day, Accepts, Proper}
use Rattle.tables.specs.Values.{machine}
use Rattle.machines.specs.declared.clauses.Rule.{Rule}
use Rattle.automata.specs.declared.moves.Move.{Move}

module _ {E G : Type 0} (alg : Model E G) where
  -- of every day, just one of the two accepts it
  abbrev pub OtherDays : Machine G → Machine G → Type 0
  OtherDays M N = (w : List E) → Day alg w → (Accepts alg N 0 w → Accepts alg M 0 w → ⊥) × ((Accepts alg M 0 w → ⊥) → Accepts alg N 0 w)

  -- with any table that makes the rule proper, so is the turned rule, and it accepts exactly the other days
  abbrev pub TurnMeaning : Rule → Rule → Type 0
  TurnMeaning rule turned =
      (table : List (Move G)) → Proper alg (machine rule.counts rule.endings table)
      → Proper alg (machine turned.counts turned.endings table) × OtherDays (machine rule.counts rule.endings table) (machine turned.counts turned.endings table)
