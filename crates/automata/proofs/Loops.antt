-- A loop over what is left of a list that asks whether every element passes a test.
use Rattle.std.proofs.Common.{◌≡◌, ℕ, ◌+◌, ◌<◌, ◌≤◌, Bool, false, ◌&&◌, List, ◌∷◌, length, get_or, drop, Some, None, Ok, Err, Option, Result, sym, ap, ◌∙◌}
use Rattle.std.proofs.lemmas.List.{at_drop_more, at_drop_all}
use Rattle.std.specs.List.{list_all}
use Rattle.automata.specs.Running.{onward, walk}

-- a function of what is left, at the element x that was read at i
pub at_read_more : {X Y : Type 0} (F : List X → Y) (xs : List X) (i : ℕ) (x : X) → i < length xs → x ≡ get_or xs i x → F (drop i xs) ≡ F (x ∷ drop (i + 1) xs)
at_read_more F xs i x lt read = at_drop_more F xs i x lt ∙ ap (λ y. F (y ∷ drop (i + 1) xs)) (sym read)

-- a loop that goes on while every one passes: what is left gives the answer
module _ {X : Type 0} (test : X → Bool) (xs : List X) (i : ℕ) (answer : Bool) (inv : list_all test (drop i xs) ≡ answer) where
  every_at : (x : X) → i < length xs → x ≡ get_or xs i x → (t : Bool) → test x ≡ t → (t && list_all test (drop (i + 1) xs)) ≡ answer
  every_at x lt read t is = ap (λ s. s && list_all test (drop (i + 1) xs)) (sym is) ∙ sym (at_read_more (list_all test) xs i x lt read) ∙ inv

  pub every_miss : (x : X) → i < length xs → x ≡ get_or xs i x → test x ≡ false → false ≡ answer
  every_miss x lt read = every_at x lt read false
