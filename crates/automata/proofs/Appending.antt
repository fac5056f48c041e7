-- Loops that append to a buffer what each element of a list gives.
use Rattle.std.proofs.Common.{◌≡◌, ℕ, ◌+◌, ◌<◌, Bool, true, false, cond, List, [], ◌∷◌, ◌++◌, map, length, get_or, take, drop, filter, sym, refl, ap, ◌∙◌, ap₂, inl, inr, arith, length-append}
use Rattle.std.specs.List.{flat_map}
use Rattle.guards.specs.Lists.{Member}
use Rattle.std.proofs.lemmas.List.{append_assoc, take_more, take-append-drop, flat_map_more}

pub joined_append : {X Y : Type 0} (f : X → List Y) (xs ys : List X) → flat_map f (xs ++ ys) ≡ flat_map f xs ++ flat_map f ys
joined_append f [] ys = refl
joined_append f (x ∷ xs) ys = ap (λ zs. f x ++ zs) (joined_append f xs ys) ∙ sym (append_assoc (f x) (flat_map f xs) (flat_map f ys))

pub joined_kept : {X Y : Type 0} (test : X → Bool) (f : X → Y) (xs : List X) → flat_map (λ x. cond (test x) (f x ∷ []) []) xs ≡ map f (filter test xs)
joined_kept test f [] = refl
joined_kept test f (x ∷ xs) = go (test x) (joined_kept test f xs)
  where
    go : (t : Bool) → flat_map (λ x. cond (test x) (f x ∷ []) []) xs ≡ map f (filter test xs)
        → cond t (f x ∷ []) [] ++ flat_map (λ x. cond (test x) (f x ∷ []) []) xs ≡ map f (cond t (x ∷ filter test xs) (filter test xs))
    go true h = ap (λ ys. f x ∷ ys) h
    go false h = h

-- functions that give the same of each element
pub map_same : {X Y : Type 0} (f g : X → Y) (xs : List X) → ((x : X) → Member x xs → f x ≡ g x) → map f xs ≡ map g xs
map_same f g [] same = refl
map_same f g (x ∷ xs) same = ap₂ (λ y ys. y ∷ ys) (same x (inl refl)) (map_same f g xs (λ z m. same z (inr m)))

-- at the element x, which stands at place i: the buffer's front is what came before the loop and what the elements before i gave
module _ {X Y : Type 0} (f : X → List Y) (front : List Y) (xs : List X) (i : ℕ) (built : List Y) (inv : built ≡ front ++ flat_map f (take i xs)) where
  -- with what x gives it is what the elements up to i gave
  pub append_more : (x : X) → i < length xs → x ≡ get_or xs i x → built ++ f x ≡ front ++ flat_map f (take (i + 1) xs)
  append_more x lt read =
      ap (λ ys. ys ++ f x) inv ∙ append_assoc front (flat_map f (take i xs)) (f x)
      ∙ ap (λ ys. front ++ ys) (flat_map_more f [] (take i xs) x ∙ sym (ap (flat_map f) (take_more xs i x lt ∙ ap (λ y. take i xs ++ (y ∷ [])) (sym read))))

  -- where that has no room, the whole has none
  pub append_short : (x : X) (room : ℕ) → i < length xs → x ≡ get_or xs i x → room < length (built ++ f x) → room < length (front ++ flat_map f xs)
  append_short x room lt read short =
      omega (
        arith,
        ap length (append_more x lt read),
        length-append front (flat_map f (take (i + 1) xs)),
        length-append front (flat_map f xs),
        ap length (joined_append f (take (i + 1) xs) (drop (i + 1) xs)),
        length-append (flat_map f (take (i + 1) xs)) (flat_map f (drop (i + 1) xs)),
        ap (λ ys. length (flat_map f ys)) (take-append-drop (i + 1) xs),
      )
