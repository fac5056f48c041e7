-- The call of running: what it answers for a day, and what that means.
use Rattle.std.specs.Prelude.{ℕ, ◌<◌, ◌≤◌, Bool, cond, List, [], ◌∷◌, length, take, Ok, Err, Decides, Result, MatchResult, nat_lt}
use Rattle.guards.specs.Algebra.{Model}
use Rattle.std.specs.List.{list_any}
use Rattle.automata.specs.Running.{walk, next, stray}
use Rattle.tables.specs.Endings.{holds}
use Rattle.automata.specs.Limits.{most_moves}
use Rattle.automata.specs.Machine.{Day, LeadsTo, Accepts, Proper}
use Rattle.automata.specs.Refusals.{Told, tell}
use Rattle.tables.specs.Values.{machine}
use Rattle.tables.specs.declared.counts.Counts.{Counts}
use Rattle.tables.specs.declared.endings.Endings.{Endings}
use Rattle.automata.specs.declared.moves.Move.{Move}
use Rattle.automata.specs.declared.refusals.Refusal.{Refusal}
use Rattle.automata.specs.declared.refusals.Refusal.TheVariants.{NoMove}

-- the state reached, or the refusal with the place
abbrev pub led : {E : Type 0} → Result ℕ ℕ → Result ℕ (Refusal E)
led (Ok q) = Ok q
led (Err place) = Err (NoMove place)

-- the state reached with whether it is an ending, or refusal 9 with the place
abbrev pub ended : {E : Type 0} → Endings → Result ℕ ℕ → Result (ℕ × Bool) (Told E)
ended endings (Ok q) = Ok (q, holds endings q)
ended endings (Err place) = Err (tell 9 (place ∷ []))

module _ {E G : Type 0} (alg : Model E G) (counts : Counts) (endings : Endings) (table : List (Move G)) (day : List E) where
  abbrev moves : List (Move G)
  moves = take counts.moves table

  -- what running answers
  abbrev pub ran : Result (ℕ × Bool) (Told E)
  ran =
      cond (nat_lt (length table) most_moves) (Err (tell 1 []))
      (cond (list_any (stray counts.states) moves) (Err (tell 8 [])) (ended endings (walk (next alg moves) 0 0 day)))

  -- on a proper machine and a day, running answers the state that the day leads to, and yes exactly where it is accepted
  abbrev pub RunMeaning : Result (ℕ × Bool) (Refusal E) → Type 0
  RunMeaning r =
      Proper alg (machine counts endings table) → most_moves ≤ length table → Day alg day
      → MatchResult r (λ p. LeadsTo alg (machine counts endings table) 0 day p.0 × (p.0 < counts.states) × Decides p.1 (Accepts alg (machine counts endings table) 0 day)) (λ _. ⊥)
