-- The product of two machines: the pairs of states that are reached, their moves, and the endings by a word of joining.
use Rattle.std.specs.Prelude.{ℕ, ◌*◌, Bool, false, not, ◌&&◌, ◌||◌, List, map, length, is_some, filter, ◌==◌, slice_index_or}
use Rattle.std.specs.List.{flat_map}
use Rattle.guards.specs.Algebra.{Model}
use Rattle.automata.specs.Machine.{Machine}
use Rattle.automata.specs.Search.{place_of, reached}
use Rattle.automata.specs.declared.joins.JoinBy.{JoinBy}
use Rattle.automata.specs.declared.joins.JoinBy.TheVariants.{Both, Either, Except}
use Rattle.automata.specs.declared.moves.Move.{Move}
use Rattle.automata.specs.declared.pairs.PairMove.{PairMove}
use Rattle.automata.specs.declared.pairs.StatePair.{StatePair}

abbrev pub same_pair : StatePair → StatePair → Bool
same_pair x y = x.rule == y.rule && x.clause == y.clause

abbrev pub start_pair : StatePair
start_pair = record { rule = 0; clause = 0 }

-- whether a pair is an ending, by whether its states are
abbrev pub chosen : JoinBy → Bool → Bool → Bool
chosen Both a b = a && b
chosen Either a b = a || b
chosen Except a b = a && not b

module _ {E G : Type 0} (alg : Model E G) where
  -- the two moves go from the states of the pair, and their meet admits something
  abbrev pub joins : StatePair → Move G → Move G → Bool
  joins x u v = (u.from == x.rule && v.from == x.clause) && is_some (alg.sample (alg.meet u.guard v.guard))

  abbrev pub met : Move G → Move G → PairMove G
  met u v = record { guard = alg.meet u.guard v.guard; to = record { rule = u.to; clause = v.to } }

  -- the moves of a pair, by those of the rule and then those of the clause, in table order
  abbrev pub pair_moves : List (Move G) → List (Move G) → StatePair → List (PairMove G)
  pair_moves us vs x = flat_map (λ u. map (met u) (filter (joins x u) vs)) us

  abbrev pub pair_targets : List (Move G) → List (Move G) → StatePair → List StatePair
  pair_targets us vs x = map (λ a. a.to) (pair_moves us vs x)

module _ {E G : Type 0} (alg : Model E G) (M N : Machine G) where
  -- the pairs reached from the starts, breadth first
  abbrev pub pairs : List StatePair
  pairs = reached same_pair (pair_targets alg M.moves N.moves) (M.count * N.count) start_pair

  abbrev pub pair_number : StatePair → ℕ
  pair_number x = place_of same_pair x pairs

  abbrev pub product_moves : StatePair → List (Move G)
  product_moves x = map (λ a. record { from = pair_number x; guard = a.guard; to = pair_number a.to }) (pair_moves alg M.moves N.moves x)

  abbrev pub product : JoinBy → Machine G
  product way = record {
    count = length pairs;
    endings = λ j. slice_index_or (map (λ x. chosen way (M.endings x.rule) (N.endings x.clause)) pairs) j false;
    moves = flat_map product_moves pairs;
  }
