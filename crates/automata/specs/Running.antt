-- How a machine runs: its next state, the walk along entries, and the machine as an automaton.
use Rattle.std.specs.Prelude.{ℕ, ◌+◌, Bool, ◌&&◌, ◌||◌, List, [], ◌∷◌, None, Some, Ok, Err, Option, Result, ◌==◌, nat_le, find}
use Rattle.std.specs.Option.{option_map, unwrap_or}
use Rattle.guards.specs.Algebra.{Model}
use Rattle.automata.specs.Automaton.{Automaton}
use Rattle.automata.specs.Machine.{Machine}
use Rattle.automata.specs.declared.moves.Move.{Move}

-- on with the state, or the place where there is none
abbrev pub onward : Option ℕ → ℕ → (ℕ → Result ℕ ℕ) → Result ℕ ℕ
onward None place more = Err place
onward (Some q) place more = more q

-- entries followed from a state: the state reached, or the place of the first entry without a next state
abbrev pub walk : {E : Type 0} → (ℕ → E → Option ℕ) → ℕ → ℕ → List E → Result ℕ ℕ
walk step place q [] = Ok q
walk step place q (e ∷ es) = onward (step q e) place (λ r. walk step (place + 1) r es)

module _ {E G : Type 0} (alg : Model E G) where
  -- the move goes from p and admits the entry
  abbrev pub taken_by : ℕ → E → Move G → Bool
  taken_by p e v = v.from == p && alg.admits v.guard e

  -- where the first such move in table order leads
  abbrev pub next : List (Move G) → ℕ → E → Option ℕ
  next moves p e = option_map (λ v. v.to) (find (taken_by p e) moves)

  -- a state without a next state stays
  abbrev pub automaton : Machine G → Automaton E
  automaton M = record { count = M.count; start = 0; next = λ p e. unwrap_or (next M.moves p e) p; endings = M.endings }

-- the move names a state that is not below the count
abbrev pub stray : {G : Type 0} → ℕ → Move G → Bool
stray count v = nat_le count v.from || nat_le count v.to
