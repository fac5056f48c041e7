-- Rest lists: what is left of guards without others, in a list of limited length.
use Rattle.std.specs.Prelude.{◌≡◌, ◌<◌, ◌≤◌, true, false, [], ◌∷◌, List, length, Result, MatchResult}
use Rattle.guards.specs.Algebra.{Model}
use Rattle.automata.specs.Checking.{rest_fits, rest_of, without}
use Rattle.automata.specs.Limits.{most_parts}
use Rattle.automata.specs.declared.moves.Move.{Move}

module _ {E G F : Type 0} (alg : Model E G) where
  -- each guard has given way to its parts without b; or they have no room
  abbrev pub Narrows : G → List G → List G → Result (Unit {0}) F → Type 0
  Narrows b old new r = MatchResult r (λ _. (length new ≤ most_parts) × (new ≡ without alg b old)) (λ _. most_parts < length (without alg b old))

  -- it is what the moves leave of the whole guard; or that has no room at some stage
  abbrev pub Leaves : List (Move G) → List G → Result (Unit {0}) F → Type 0
  Leaves vs new r =
      MatchResult r (λ _. (rest_fits alg (alg.whole ∷ []) vs ≡ true) × (new ≡ rest_of alg (alg.whole ∷ []) vs)) (λ _. rest_fits alg (alg.whole ∷ []) vs ≡ false)
