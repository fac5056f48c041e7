-- Writing a clause: what each call makes of it, and when the call refuses; and the rule of a new sheet, and a rule turned.
use Rattle.std.specs.Prelude.{ℕ, ◌+◌, false, not, ◌&&◌, ◌||◌, [], ◌∷◌, ◌++◌, length, None, Option, ◌==◌, nat_le, nat_lt}
use Rattle.guards.specs.Algebra.{Model}
use Rattle.automata.specs.Faults.{refuse_if}
use Rattle.automata.specs.Limits.{most_written, most_moves}
use Rattle.automata.specs.Machine.{Machine}
use Rattle.automata.specs.Refusals.{Told, tell}
use Rattle.automata.specs.declared.moves.Move.{Move}

module _ {G : Type 0} where
  -- state 0 alone
  abbrev pub blank : Machine G
  blank = record { count = 1; endings = λ q. false; moves = [] }

  -- one state more
  abbrev pub with_state : Machine G → Machine G
  with_state M = record { count = M.count + 1; endings = M.endings; moves = M.moves }

  -- that state is an ending too
  abbrev pub with_ending : ℕ → Machine G → Machine G
  with_ending state M = record { count = M.count; endings = λ q. M.endings q || (q == state); moves = M.moves }

  -- that move comes last
  abbrev pub with_move : Move G → Machine G → Machine G
  with_move v M = record { count = M.count; endings = M.endings; moves = M.moves ++ (v ∷ []) }

  -- the endings are the other states
  abbrev pub turned : Machine G → Machine G
  turned M = record { count = M.count; endings = λ q. nat_lt q M.count && not (M.endings q); moves = M.moves }

-- one state, an ending, with the whole guard to itself
abbrev pub new_rule : {E G : Type 0} → Model E G → Machine G
new_rule alg = record { count = 1; endings = λ q. (q == 0); moves = record { from = 0; guard = alg.whole; to = 0 } ∷ [] }

-- why a call on the clause is refused
module _ {E G : Type 0} where
  abbrev pub state_why : Machine G → Option (Told E)
  state_why M = refuse_if (nat_le most_written M.count) (tell 2 []) None

  abbrev pub ending_why : ℕ → Machine G → Option (Told E)
  ending_why state M = refuse_if (nat_le M.count state) (tell 3 (state ∷ [])) None

  abbrev pub move_why : Move G → Machine G → Option (Told E)
  move_why v M =
      refuse_if (nat_le M.count v.from) (tell 3 (v.from ∷ []))
      (refuse_if (nat_le M.count v.to) (tell 3 (v.to ∷ [])) (refuse_if (nat_le most_moves (length M.moves)) (tell 4 []) None))
