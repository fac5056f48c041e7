-- A checked machine in its table: none of its moves strays, and it keeps the limits.
use Rattle.std.proofs.Common.{◌≡◌, ℕ, ◌+◌, ◌<◌, ◌≤◌, Bool, true, false, cond, eqb, [], ◌∷◌, List, map, length, get_or, refl, ap, subst, inl, inr, arith}
use lib.ListN.{length-map}
use Rattle.std.proofs.lemmas.Bool.{both_ways, cases_lt, cond-true, lt-leb, or_from}
use Rattle.std.proofs.lemmas.List.{get_or_past}
use Rattle.std.specs.List.{flat_map, list_any}
use Rattle.guards.specs.Algebra.{Model, Laws}
use Rattle.guards.specs.Lists.{Member, is_some}
use Rattle.automata.specs.Checking.{checked, has_sink, live, number, order, placed, rest, sink}
use Rattle.automata.specs.Limits.{most_states, most_written}
use Rattle.automata.specs.Machine.{Machine, InRange}
use Rattle.automata.specs.Running.{stray}
use Rattle.automata.specs.declared.moves.Move.{Move}
use Rattle.automata.proofs.LiveMoves.{live_reached, order_searched}
use Rattle.automata.proofs.Members.{joined_member, map_member, member_cases, member_some, none_any, some_any}
use Rattle.automata.proofs.Places.{number_tells, place_at}
use Rattle.completion.specs.Placing.{renumbered, sunk}

-- an answer that is read as true has a place
pub read_below : {X : Type 0} (f : X → Bool) (xs : List X) (k : ℕ) → get_or (map f xs) k false ≡ true → k < length xs
read_below f xs k h = elim (cases_lt k (length xs)) [ inl lt ↦ lt | inr past ↦ absurd (both_ways (get_or (map f xs) k false) (get_or_past (map f xs) k false (omega (arith, length-map xs f))) h) ]

module _ {E G : Type 0} (alg : Model E G) (laws : Laws alg) (M : Machine G) (range : InRange alg M) where
  abbrev count : ℕ
  count = (checked alg M).count

  abbrev Inside : Move G → Type 0
  Inside v = (v.from < count) × (v.to < count)

  number_inside : (p : ℕ) → Member p (order alg M) → number alg M p < count
  number_inside p m = omega (arith, (place_at eqb number_tells p p (order alg M) m).0)

  sink_inside : has_sink alg M ≡ true → sink alg M < count
  sink_inside h = let one : ◌≡◌ {A = ℕ} (cond (has_sink alg M) 1 0) 1 = cond-true (has_sink alg M) 1 0 h in omega arith

  line_inside : (p : ℕ) (v : Move G) → Member p (order alg M) → Member v (live alg M p) → Inside (renumbered alg M p v)
  line_inside p v m k = (number_inside p m, number_inside v.to (live_reached alg laws M range p v m k))

  sunk_inside : (p : ℕ) (g : G) → Member p (order alg M) → Member g (rest alg M p) → Inside (record { from = number alg M p; guard = g; to = sink alg M })
  sunk_inside p g m k = (number_inside p m, sink_inside (some_any (λ q. is_some (rest alg M q)) p (order alg M) m (member_some g (rest alg M p) k)))

  placed_inside : (p : ℕ) (v : Move G) → Member p (order alg M) → Member v (placed alg M p) → Inside v
  placed_inside p v m k = elim (member_cases v (map (renumbered alg M p) (live alg M p)) (sunk alg M p (rest alg M p)) k) [
    | inl a ↦ let u = map_member (renumbered alg M p) v (live alg M p) a in subst Inside u.2 (line_inside p u.0 m u.1)
    | inr b ↦ let u = map_member (λ g. record { from = number alg M p; guard = g; to = sink alg M }) v (rest alg M p) b in subst Inside u.2 (sunk_inside p u.0 m u.1)
  ]

  own_inside : (v : Move G) (t : Bool) → has_sink alg M ≡ t → Member v (cond t (record { from = sink alg M; guard = alg.whole; to = sink alg M } ∷ []) []) → Inside v
  own_inside v true h (inl is) = subst Inside is (sink_inside h, sink_inside h)
  own_inside v true h (inr z) = absurd z
  own_inside v false h m = absurd m

  move_inside : (v : Move G) → Member v (checked alg M).moves → Inside v
  move_inside v m = elim (member_cases v (flat_map (placed alg M) (order alg M)) (cond (has_sink alg M) (record { from = sink alg M; guard = alg.whole; to = sink alg M } ∷ []) []) m) [
    | inl a ↦ let u = joined_member (placed alg M) v (order alg M) a in placed_inside u.0 v u.1 u.2
    | inr b ↦ own_inside v (has_sink alg M) refl b
  ]

  pub checked_strays : list_any (stray count) (checked alg M).moves ≡ false
  checked_strays = none_any (stray count) (checked alg M).moves (λ v m. let i = move_inside v m in or_from _ _ (lt-leb count v.from i.0) (lt-leb count v.to i.1))

  pub checked_some : 0 < count
  checked_some = let first = (order_searched alg laws M range).first in omega (arith, ap length first.1)

  -- the sink is at most one state more
  pub checked_few : length (order alg M) ≤ most_written → count ≤ most_states
  checked_few few = go (has_sink alg M)
    where
      go : (t : Bool) → length (order alg M) + cond t 1 0 ≤ most_states
      go true = omega arith
      go false = omega arith
