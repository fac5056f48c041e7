-- Placing the reached states one by one.
use Rattle.std.proofs.Common.{◌≡◌, ℕ, ◌<◌, false, ◌⊎◌, ◌++◌, List, length, get_or, take, drop, sym, ap, ap₂, ◌∙◌, inl, inr, arith}
use Rattle.std.proofs.lemmas.List.{append_assoc}
use Rattle.std.specs.List.{flat_map, list_all}
use Rattle.guards.specs.Algebra.{Model}
use Rattle.automata.specs.Checking.{placed, rest}
use Rattle.automata.specs.Machine.{Machine}
use Rattle.automata.specs.declared.moves.Move.{Move}
use Rattle.automata.proofs.Appending.{append_short}
use Rattle.automata.proofs.Loops.{every_miss}
use Rattle.automata.proofs.Places.{read_itself}
use Rattle.tables.specs.Lists.{Held}
use Rattle.completion.specs.Placing.{fits_at, lines_of, sunk}

-- behind what stands in front, a state's lines and then its rest are what it places
pub state_built : {E G : Type 0} (alg : Model E G) (M : Machine G) (p : ℕ) (front built : List (Move G)) (gs : List G)
    → built ≡ front ++ lines_of alg M p → gs ≡ rest alg M p → built ++ sunk alg M p gs ≡ front ++ placed alg M p
state_built alg M p front built gs lines is =
    ap₂ (λ xs ys. xs ++ sunk alg M p ys) lines is ∙ append_assoc front (lines_of alg M p) (sunk alg M p (rest alg M p))

-- where the state at place i is not placed, the states are not
pub state_unplaced : {E G : Type 0} (alg : Model E G) (M : Machine G) (states : List ℕ) (i : ℕ) (old held : Held (Move G))
    → held ≡ record { items = old.items ++ flat_map (placed alg M) (take i states); room = old.room } → list_all (fits_at alg M) (drop i states) ≡ list_all (fits_at alg M) states → i < length states
    → (p : ℕ) → p ≡ get_or states i 0 → (fits_at alg M p ≡ false) ⊎ (held.room < length (held.items ++ placed alg M p)) → (list_all (fits_at alg M) states ≡ false) ⊎ (old.room < length (old.items ++ flat_map (placed alg M) states))
state_unplaced alg M states i old held at fits lt p is why =
    let read = read_itself states i 0 p lt is in
    elim why [
      | inl miss ↦ inl (sym (every_miss (fits_at alg M) states i (list_all (fits_at alg M) states) fits p lt read miss))
      | inr short ↦ inr (append_short (placed alg M) old.items states i held.items (ap (λ h. h.items) at) p old.room lt read (omega (arith, short, ap (λ h. h.room) at)))
    ]
