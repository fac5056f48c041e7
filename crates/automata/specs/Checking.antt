-- Checking: the machine that a check makes of a clause as written, and when it refuses.
use Rattle.std.specs.Prelude.{ℕ, ◌+◌, ◌<◌, Bool, false, cond, ◌&&◌, List, [], ◌∷◌, ◌++◌, map, length, is_some as option_is_some, filter, ◌==◌, nat_eq, nat_le, slice_index_or}
use Rattle.std.specs.List.{flat_map, list_all, list_any}
use Rattle.guards.specs.Algebra.{Model}
use Rattle.guards.specs.Lists.{is_some}
use Rattle.automata.specs.Limits.{most_moves, most_parts}
use Rattle.automata.specs.Machine.{Machine, Day, Accepts, LeadsTo, Proper}
use Rattle.automata.specs.Search.{place_of, reached}
use Rattle.automata.specs.declared.moves.Move.{Move}

module _ {E G : Type 0} (alg : Model E G) where
  -- every guard of the list gives way to its parts without g
  abbrev pub without : G → List G → List G
  without g gs = flat_map (λ h. alg.parts h g) gs

  -- the rest that the moves leave of the guards, each move in turn
  abbrev pub rest_of : List G → List (Move G) → List G
  rest_of gs [] = gs
  rest_of gs (v ∷ vs) = rest_of (without v.guard gs) vs

  -- the list has room at every stage
  abbrev pub rest_fits : List G → List (Move G) → Bool
  rest_fits gs [] = nat_le (length gs) most_parts
  rest_fits gs (v ∷ vs) = nat_le (length gs) most_parts && rest_fits (without v.guard gs) vs

  -- the move goes from p and admits something
  abbrev pub is_live : ℕ → Move G → Bool
  is_live p v = v.from == p && option_is_some (alg.sample v.guard)

  -- where the live moves from p lead, in table order
  abbrev pub targets : List (Move G) → ℕ → List ℕ
  targets vs p = map (λ v. v.to) (filter (is_live p) vs)

module _ {E G : Type 0} (alg : Model E G) (M : Machine G) where
  -- the live moves from p, in table order
  abbrev pub live : ℕ → List (Move G)
  live p = filter (is_live alg p) M.moves

  abbrev pub successors : ℕ → List ℕ
  successors = targets alg M.moves

  -- the states reached from 0, breadth first
  abbrev pub order : List ℕ
  order = reached nat_eq successors M.count 0

  -- the new number of a reached state
  abbrev pub number : ℕ → ℕ
  number p = place_of nat_eq p order

  -- the guards of the entries that no move from p admits
  abbrev pub rest : ℕ → List G
  rest p = rest_of alg (alg.whole ∷ []) (live p)

  -- the sink is there only if some rest is not empty; it comes last
  abbrev pub has_sink : Bool
  has_sink = list_any (λ p. is_some (rest p)) order

  abbrev pub sink : ℕ
  sink = length order

  -- what state p places: its live moves, then its rest, which goes to the sink
  abbrev pub placed : ℕ → List (Move G)
  placed p =
      map (λ v. record { from = number p; guard = v.guard; to = number v.to }) (live p)
      ++ map (λ g. record { from = number p; guard = g; to = sink }) (rest p)

  abbrev pub checked : Machine G
  checked = record {
    count = length order + cond has_sink 1 0;
    endings = λ k. slice_index_or (map M.endings order) k false;
    moves = flat_map placed order ++ cond has_sink (record { from = sink; guard = alg.whole; to = sink } ∷ []) [];
  }

  -- every rest has room at every stage, and so have the moves
  abbrev pub check_fits : Bool
  check_fits = list_all (λ p. rest_fits alg (alg.whole ∷ []) (live p)) order && nat_le (length checked.moves) most_moves

-- N is complete and deterministic, accepts what M accepts, and has no state that no day reaches
pub record CheckMeaning {E G : Type 0} (alg : Model E G) (M N : Machine G) : Type 0 where
  pub proper : Proper alg N
  pub keeps : (w : List E) → Day alg w → (Accepts alg M 0 w → Accepts alg N 0 w) × (Accepts alg N 0 w → Accepts alg M 0 w)
  pub reaches : (q : ℕ) → q < N.count → (w : List E) × Day alg w × LeadsTo alg N 0 w q
