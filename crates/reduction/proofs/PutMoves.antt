-- Loops that put what each element that is left gives behind the others.
use Rattle.std.proofs.Common.{◌≡◌, ℕ, ◌<◌, ◌≤◌, List, [], ◌∷◌, ◌++◌, map, length, sym, ap, ◌∙◌, arith, length-append}
use Rattle.std.proofs.lemmas.List.{append_assoc}

module _ {X Y : Type 0} (f : X → Y) (put answer : List Y) (x : X) (left more : List X) (is : left ≡ x ∷ more) (inv : put ++ map f left ≡ answer) where
  pub put_turn : (y : Y) → y ≡ f x → (put ++ (y ∷ [])) ++ map f more ≡ answer
  put_turn y e = ap (λ z. (put ++ (z ∷ [])) ++ map f more) e ∙ append_assoc put (f x ∷ []) (map f more) ∙ ap (λ xs. put ++ map f xs) (sym is) ∙ inv

  -- where one has no room, the whole has none
  pub short_put : (room : ℕ) → room ≤ length put → room < length answer
  short_put room full = omega (arith, ap length (sym inv), length-append put (map f left), ap (λ xs. length (map f xs)) is)
