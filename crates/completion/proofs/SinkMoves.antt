-- The placed moves that lead to the sink: there are some just if a state leaves a rest.
use Rattle.std.proofs.Common.{◌≡◌, ℕ, ◌+◌, ◌<◌, ◌≤◌, Bool, true, false, cond, ◌||◌, eqb, [], ◌∷◌, ◌++◌, List, map, length, refl, ap, ◌∙◌, ap₂, inl, inr, arith}
use Rattle.std.proofs.lemmas.Bool.{eq-eqb, ne_eqb}
use Rattle.std.proofs.lemmas.List.Folds.{list_any-append}
use Rattle.std.specs.Bool.{then_some}
use Rattle.std.specs.Int.{from_bool}
use Rattle.std.specs.List.{flat_map, list_any}
use Rattle.std.specs.Option.{option_to_list}
use Rattle.guards.specs.Algebra.{Model, Laws}
use Rattle.guards.specs.Lists.{Member, is_some}
use Rattle.automata.specs.Checking.{checked, has_sink, live, number, order, placed, rest, sink}
use Rattle.automata.specs.Machine.{Machine, InRange}
use Rattle.automata.specs.declared.moves.Move.{Move}
use Rattle.automata.proofs.LiveMoves.{live_reached}
use Rattle.automata.proofs.Members.{map_member, none_any}
use Rattle.automata.proofs.Places.{number_tells, place_at}
use Rattle.tables.specs.Lists.{Held}
use Rattle.completion.specs.Placing.{renumbered, sunk}

pub from_bool_few : (t : Bool) → from_bool t ≤ 1
from_bool_few true = omega arith
from_bool_few false = omega arith

module _ {E G : Type 0} (alg : Model E G) (laws : Laws alg) (M : Machine G) (range : InRange alg M) where
  abbrev pub leads : Move G → Bool
  leads v = eqb v.to (sink alg M)

  lines_lead : (p : ℕ) → Member p (order alg M) → list_any leads (map (renumbered alg M p) (live alg M p)) ≡ false
  lines_lead p m = none_any leads (map (renumbered alg M p) (live alg M p)) (λ w k.
      let u = map_member (renumbered alg M p) w (live alg M p) k in
      let lt : number alg M u.0.to < sink alg M = (place_at eqb number_tells u.0.to u.0.to (order alg M) (live_reached alg laws M range p u.0 m u.1)).0 in
      ne_eqb w.to (sink alg M) (λ e. omega (arith, e, ap (λ (v : Move G). v.to) u.2)))

  sunk_lead : (p : ℕ) (gs : List G) → list_any leads (sunk alg M p gs) ≡ is_some gs
  sunk_lead p [] = refl
  sunk_lead p (g ∷ gs) = ap (λ t. t || list_any leads (sunk alg M p gs)) (eq-eqb (sink alg M) (sink alg M) refl)

  states_lead : (ps : List ℕ) → ((p : ℕ) → Member p ps → Member p (order alg M)) → list_any leads (flat_map (placed alg M) ps) ≡ list_any (λ p. is_some (rest alg M p)) ps
  states_lead [] within = refl
  states_lead (p ∷ ps) within =
      list_any-append leads (placed alg M p) (flat_map (placed alg M) ps)
      ∙ ap₂ ◌||◌ (list_any-append leads (map (renumbered alg M p) (live alg M p)) (sunk alg M p (rest alg M p)) ∙ ap₂ ◌||◌ (lines_lead p (within p (inl refl))) (sunk_lead p (rest alg M p)))
      (states_lead ps (λ q m. within q (inr m)))

  some_lead : list_any leads (flat_map (placed alg M) (order alg M)) ≡ has_sink alg M
  some_lead = states_lead (order alg M) (λ p m. m)

  -- behind what the states place, with the sink's own move if one of the moves leads to the sink
  module _ (old : Held (Move G)) (all : old.items ≡ flat_map (placed alg M) (order alg M)) (leading : Bool) (answer : leading ≡ list_any leads old.items) (own : Move G) (is : own ≡ record { from = sink alg M; guard = alg.whole; to = sink alg M }) where
    is_leading : leading ≡ has_sink alg M
    is_leading = answer ∙ ap (list_any leads) all ∙ some_lead

    moves_all : old.items ++ option_to_list (then_some leading own) ≡ (checked alg M).moves
    moves_all = ap₂ ◌++◌ all (go leading ∙ ap (λ t. cond t (own ∷ []) []) is_leading ∙ ap (λ w. cond (has_sink alg M) (w ∷ []) []) is)
      where
        go : (t : Bool) → option_to_list (then_some t own) ≡ cond t (own ∷ []) []
        go true = refl
        go false = refl

    pub sink_placed : (last count : ℕ) → last ≡ sink alg M → count ≡ from_bool leading → (new : Held (Move G)) → new ≡ record { items = old.items ++ option_to_list (then_some leading own); room = old.room }
        → length new.items ≤ new.room → (last + count ≡ (checked alg M).count) × (new.items ≡ (checked alg M).moves) × (length new.items ≤ old.room)
    sink_placed last count at one new made fits = (
      ap₂ ◌+◌ at (one ∙ ap from_bool is_leading ∙ go (has_sink alg M)),
      ap (λ h. h.items) made ∙ moves_all,
      omega (arith, fits, ap (λ h. h.room) made),
    )
      where
        go : (t : Bool) → from_bool t ≡ cond t 1 0
        go true = refl
        go false = refl

    pub sink_unplaced : old.room < length (old.items ++ option_to_list (then_some leading own)) → old.room < length (checked alg M).moves
    sink_unplaced short = omega (arith, short, ap length moves_all)
