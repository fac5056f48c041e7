-- The states of a set of endings, over a limit n.
use Rattle.std.proofs.Common.{◌≡◌, ℕ, ◌+◌, ◌-◌, ◌^◌, ◌<◌, ◌≤◌, Bool, true, false, cond, not, ◌&&◌, ◌||◌, eqb, ltb, List, [], ◌∷◌, ◌++◌, map, length, get_or, take, sym, refl, ap, ◌∙◌, inl, inr, arith}
use mathlib.Core.Bool.{or-false}
use lib.Bits.{bit_or, bit_xor}
use lib.ListN.{length-map}
use Rattle.std.proofs.lemmas.List.{get_or_append_left, get_or_past, get_or_push, length_push, length-take-le, map_more}
use Rattle.std.proofs.lemmas.Bool.{cases_order, eq-eqb, ne_eqb}
use Rattle.std.proofs.lemmas.Bool.Decides.{nat_tests}
use Rattle.guards.specs.Bits.{has}
use Rattle.guards.specs.BitsLemmas.{has_or, has_xor, has_one, has_ones}

-- one state more
pub insert_holds : (n mask state k : ℕ) → state < n → (ltb k n && has (bit_or mask (2 ^ state)) (2 ^ k)) ≡ ((ltb k n && has mask (2 ^ k)) || eqb k state)
insert_holds n mask state k h =
    ap (λ t. ltb k n && t) (has_or k mask (2 ^ state) ∙ ap (λ t. has mask (2 ^ k) || t) (has_one state k)) ∙ go (has mask (2 ^ k))
  where
    go : (t : Bool) → (ltb k n && (t || eqb k state)) ≡ ((ltb k n && t) || eqb k state)
    go true = grind (arith, nat_tests)
    go false = grind (arith, nat_tests)

-- the states below the count change sides
pub complement_holds : (n mask count k : ℕ) → count ≤ n
    → (ltb k n && has (bit_xor mask (2 ^ count - 1)) (2 ^ k)) ≡ cond (ltb k count) (not (ltb k n && has mask (2 ^ k))) (ltb k n && has mask (2 ^ k))
complement_holds n mask count k h =
    ap (λ t. ltb k n && t) (has_xor k mask (2 ^ count - 1) ∙ ap (λ t. cond t (not (has mask (2 ^ k))) (has mask (2 ^ k))) (has_ones count k)) ∙ go (has mask (2 ^ k))
  where
    go : (t : Bool) → (ltb k n && cond (ltb k count) (not t) t) ≡ cond (ltb k count) (not (ltb k n && t)) (ltb k n && t)
    go true = grind (arith, nat_tests)
    go false = grind (arith, nat_tests)

-- one answer more, at the place i
pub answers_more : (ys : List Bool) (b : Bool) (i k : ℕ) → length ys ≡ i → cond b (get_or ys k false || eqb k i) (get_or ys k false) ≡ get_or (ys ++ (b ∷ [])) k false
answers_more ys b i k len = elim (cases_order k i) [
  | inl same ↦
      let past = get_or_past ys k false (omega arith) in
      ap (λ t. cond b (t || eqb k i) t) past ∙ ap (λ t. cond b t false) (eq-eqb k i same) ∙ only b ∙ sym (get_or_push ys b false k (len ∙ sym same))
  | inr (inl lt) ↦
      ap (λ t. cond b (get_or ys k false || t) (get_or ys k false)) (ne_eqb k i (λ e. omega arith)) ∙ kept b (get_or ys k false) ∙ sym (get_or_append_left ys (b ∷ []) false k (omega arith))
  | inr (inr gt) ↦
      ap (λ t. cond b (get_or ys k false || t) (get_or ys k false)) (ne_eqb k i (λ e. omega arith)) ∙ kept b (get_or ys k false) ∙ get_or_past ys k false (omega arith)
      ∙ sym (get_or_past (ys ++ (b ∷ [])) k false (omega (arith, length_push ys b)))
]
  where
    only : (t : Bool) → cond t true false ≡ t
    only true = refl
    only false = refl

    kept : (t u : Bool) → cond t (u || false) u ≡ u
    kept true u = or-false u
    kept false u = refl

-- one element of an order more, read at the place i
pub reordered_more : {X : Type 0} (test : X → Bool) (order : List X) (d : X) (i k : ℕ) → i < length order → (was : Bool) → was ≡ get_or (map test (take i order)) k false → (x : X) → x ≡ get_or order i d
    → cond (test x) (was || eqb k i) was ≡ get_or (map test (take (i + 1) order)) k false
reordered_more test order d i k lt was inv x read =
    ap (λ t. cond (test x) (t || eqb k i) t) inv ∙ answers_more (map test (take i order)) (test x) i k (length-map (take i order) test ∙ length-take-le i order (omega arith))
    ∙ ap (λ y. get_or (map test (take i order) ++ (test y ∷ [])) k false) read ∙ sym (ap (λ ys. get_or ys k false) (map_more test order i d lt))
