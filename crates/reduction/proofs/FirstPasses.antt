-- The elements of a list that pass a test, by the place of the first.
use Rattle.std.proofs.Common.{◌≡◌, ℕ, suc, ◌+◌, ◌<◌, Bool, true, false, cond, not, ltb, List, [], ◌∷◌, length, get_or, drop, Some, None, filter, position, sym, refl, ap, ◌∙◌, one-add, add-one, arith, drop-cons}
use Rattle.std.specs.List.{position_or_len}
use Rattle.std.proofs.lemmas.Bool.{cond-true, cond-false, ltb-true, ltb-false}
use Rattle.std.proofs.lemmas.List.{drop_all}
use Rattle.std.proofs.lemmas.List.Sums.{passes_at_first}

module _ {X : Type 0} (test : X → Bool) where
  -- none passes before the first that does
  skip_failing : (xs : List X) → filter test (drop (position_or_len test xs) xs) ≡ filter test xs
  skip_failing [] = refl
  skip_failing (x ∷ xs) = go (test x) refl (skip_failing xs)
    where
      go : (t : Bool) → test x ≡ t → filter test (drop (position_or_len test xs) xs) ≡ filter test xs
          → filter test (drop (cond (not t) (1 + position_or_len test xs) 0) (x ∷ xs)) ≡ cond t (x ∷ filter test xs) (filter test xs)
      go true e h = ap (λ t. cond t (x ∷ filter test xs) (filter test xs)) e
      go false e h = ap (λ k. filter test (drop k (x ∷ xs))) (one-add (position_or_len test xs)) ∙ h

  place_is : (i n : ℕ) (t : Bool) → Some i ≡ cond t (Some n) None → (t ≡ true) × (i ≡ n)
  place_is i n true h = (refl, cc)
  place_is i n false h = let z : ◌≡◌ {A = ℕ} 0 1 = cc in absurd (omega arith)

  pub first_passes : (xs : List X) (i : ℕ) (x : X) → Some i ≡ position test xs → x ≡ get_or xs i x → filter test xs ≡ x ∷ filter test (drop (i + 1) xs)
  first_passes xs i x found read =
      let n = position_or_len test xs in
      let at = place_is i n (ltb n (length xs)) found in
      let lt : n < length xs = ltb-true n (length xs) at.0 in
      let here : x ≡ get_or xs n x = read ∙ ap (λ k. get_or xs k x) at.1 in
      sym (skip_failing xs) ∙ ap (filter test) (drop-cons xs n x lt ∙ ap (λ y. y ∷ drop (suc n) xs) (sym here))
      ∙ cond-true (test x) (x ∷ filter test (drop (suc n) xs)) (filter test (drop (suc n) xs)) (ap test here ∙ passes_at_first test xs x lt)
      ∙ ap (λ k. x ∷ filter test (drop k xs)) (sym (add-one n) ∙ ap (λ k. k + 1) (sym at.1))

  no_place : (n : ℕ) (t : Bool) → cond t (Some n) None ≡ None → t ≡ false
  no_place n true h = let z : ◌≡◌ {A = ℕ} 0 1 = cc in absurd (omega arith)
  no_place n false h = refl

  pub none_passes : (xs : List X) → position test xs ≡ None → filter test xs ≡ []
  none_passes xs none =
      let n = position_or_len test xs in
      sym (skip_failing xs) ∙ ap (filter test) (drop_all n xs (ltb-false n (length xs) (no_place n (ltb n (length xs)) none)))

  -- where no element passes, there is no place
  pub no_first : (xs : List X) → ((x : X) → test x ≡ false) → position test xs ≡ None
  no_first xs fails = cond-false (ltb (position_or_len test xs) (length xs)) (Some (position_or_len test xs)) None (all xs)
    where
      all : (ys : List X) → ltb (position_or_len test ys) (length ys) ≡ false
      all [] = refl
      all (y ∷ ys) = ap (λ t. ltb (cond (not t) (1 + position_or_len test ys) 0) (length (y ∷ ys))) (fails y) ∙ grind (arith, all ys)
