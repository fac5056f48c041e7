-- How many of a list pass a test, and what each element of a list keeps.
use Rattle.std.specs.Prelude.{◌≡◌, ℕ, zero, suc, ◌+◌, Bool, true, false, cond, ◌&&◌, List, [], ◌∷◌, ◌++◌, map, Some, count_by, refl}
use Rattle.std.proofs.Common.{sym, ◌∙◌, arith}
use Rattle.std.specs.List.{slice_get}
use Rattle.std.proofs.lemmas.List.Sums.{sum_by-cons, sum_by-append}

pub count_cons : {X : Type 0} (p : X → Bool) (x : X) (xs : List X) → count_by p (x ∷ xs) ≡ cond (p x) 1 0 + count_by p xs
count_cons p x xs = sum_by-cons (λ y. cond (p y) 1 0) x xs

pub count_append : {X : Type 0} (p : X → Bool) (xs ys : List X) → count_by p (xs ++ ys) ≡ count_by p xs + count_by p ys
count_append p xs ys = sum_by-append (λ y. cond (p y) 1 0) xs ys

-- at most one element
pub count_if : {X : Type 0} (p : X → Bool) (t : Bool) (x : X) → count_by p (cond t (x ∷ []) []) ≡ cond (t && p x) 1 0
count_if p true x = omega arith
count_if p false x = refl

-- a test that asks for c too
pub count_map : {X Y : Type 0} (p : Y → Bool) (f : X → Y) (c : Bool) (q : X → Bool) (xs : List X) → ((x : X) → p (f x) ≡ (c && q x)) → count_by p (map f xs) ≡ cond c (count_by q xs) 0
count_map p f true q [] h = refl
count_map p f false q [] h = refl
count_map p f true q (x ∷ xs) h =
    count_cons p (f x) (map f xs) ∙ rw (h x, count_map p f true q xs h) (sym (count_cons q x xs))
count_map p f false q (x ∷ xs) h =
    count_cons p (f x) (map f xs) ∙ rw (h x, count_map p f false q xs h) refl

-- each element passes
abbrev pub Each : {X : Type 0} → (X → Type 0) → List X → Type 0
Each {X} P xs = (k : ℕ) (x : X) → slice_get xs k ≡ Some x → P x

pub each_none : {X : Type 0} (P : X → Type 0) → Each P []
each_none P k x h = absurd cc

pub each_cons : {X : Type 0} (P : X → Type 0) (y : X) (ys : List X) → P y → Each P ys → Each P (y ∷ ys)
each_cons P y ys h hs zero x e = let s : y ≡ x = cc in rw s at h
each_cons P y ys h hs (suc k) x e = hs k x e

pub each_append : {X : Type 0} (P : X → Type 0) (xs ys : List X) → Each P xs → Each P ys → Each P (xs ++ ys)
each_append P [] ys h k = k
each_append P (x ∷ xs) ys h k = each_cons P x (xs ++ ys) (h 0 x refl) (each_append P xs ys (λ i. h (suc i)) k)

pub each_map : {X Y : Type 0} (P : Y → Type 0) (f : X → Y) (xs : List X) → Each (λ x. P (f x)) xs → Each P (map f xs)
each_map P f [] h = each_none P
each_map P f (x ∷ xs) h = each_cons P (f x) (map f xs) (h 0 x refl) (each_map P f xs (λ i. h (suc i)))
