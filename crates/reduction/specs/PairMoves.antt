-- The moves of a pair that are left.
use Rattle.std.specs.Prelude.{List, [], ◌∷◌, ◌++◌, map, filter}
use Rattle.guards.specs.Algebra.{Model}
use Rattle.automata.specs.Product.{joins, met, pair_moves}
use Rattle.automata.specs.declared.moves.Move.{Move}
use Rattle.automata.specs.declared.pairs.PairMove.{PairMove}
use Rattle.automata.specs.declared.pairs.StatePair.{StatePair}

-- by the moves ws of the clause for the first move of the rule, and by all of them for those behind it
abbrev pub moves_left : {E G : Type 0} → Model E G → List (Move G) → StatePair → List (Move G) → List (Move G) → List (PairMove G)
moves_left alg vs x [] ws = []
moves_left alg vs x (u ∷ us) ws = map (met alg u) (filter (joins alg x u) ws) ++ pair_moves alg us vs x
