-- Placing: the moves of the reached states of a machine, under their new numbers.
use Rattle.std.specs.Prelude.{◌≡◌, ℕ, ◌<◌, ◌≤◌, Bool, true, false, ◌⊎◌, List, [], ◌∷◌, ◌++◌, map, length, Result, MatchResult}
use Rattle.guards.specs.Algebra.{Model}
use Rattle.automata.specs.Checking.{checked, live, number, rest_fits, sink}
use Rattle.automata.specs.Machine.{Machine}
use Rattle.automata.specs.declared.moves.Move.{Move}
use Rattle.tables.specs.Lists.{Held}

module _ {E G : Type 0} (alg : Model E G) (M : Machine G) where
  -- a move of state p, under the new numbers
  abbrev pub renumbered : ℕ → Move G → Move G
  renumbered p v = record { from = number alg M p; guard = v.guard; to = number alg M v.to }

  -- the live moves of state p
  abbrev pub lines_of : ℕ → List (Move G)
  lines_of p = map (renumbered p) (live alg M p)

  -- a move to the sink from state p for each guard
  abbrev pub sunk : ℕ → List G → List (Move G)
  sunk p gs = map (λ g. record { from = number alg M p; guard = g; to = sink alg M }) gs

  -- the rest of state p has room at every stage
  abbrev pub fits_at : ℕ → Bool
  fits_at p = rest_fits alg (alg.whole ∷ []) (live alg M p)

-- the rests fit, and the moves stand behind those held; or one of the two has no room
abbrev pub Places : {G F : Type 0} → Bool → List (Move G) → Held (Move G) → Held (Move G) → Result (Unit {0}) F → Type 0
Places fits more old new r =
    MatchResult r (λ _. (fits ≡ true) × (new ≡ record { items = old.items ++ more; room = old.room })) (λ _. (fits ≡ false) ⊎ (old.room < length (old.items ++ more)))

-- the moves are those of the checked machine, whose count is given; or they have no room
abbrev pub AllPlaced : {E G F : Type 0} → Model E G → Machine G → Held (Move G) → Held (Move G) → Result ℕ F → Type 0
AllPlaced alg M old new r =
    MatchResult r (λ n. (n ≡ (checked alg M).count) × (new.items ≡ (checked alg M).moves) × (length new.items ≤ old.room)) (λ _. old.room < length (checked alg M).moves)
