-- The tests that the code makes on whole numbers, and the definitions bit by bit.
use Rattle.std.specs.Prelude.{◌≡◌, ℕ, ◌^◌, ◌≤◌, Bool, true, false, not, ◌&&◌, ◌||◌, leb, ◌==◌, bit_and, nat_le, refl}
use Rattle.std.proofs.Common.{sym, ap, ap₂, ◌∙◌, arith}
use Rattle.std.specs.Bool.{beq}
use Rattle.std.proofs.lemmas.Nat.{and_le_l, and_le_r}
use Rattle.std.proofs.lemmas.Bool.{and_parts, and_from, eq-eqb, eqb-true, le-leb, leb-true, leb-false, lt-leb, both_ways}
use Rattle.guards.specs.Bits.{has}
use Rattle.guards.specs.Flags.{flags, weights, within, is_pattern, pattern_row, agrees, flags_admit, compatible, flags_overlap}
use Rattle.std.specs.List.{list_all}
use Rattle.guards.specs.declared.flags.FlagRow.{FlagRow}
use Rattle.guards.specs.declared.flags.FlagPattern.{FlagPattern}
use Rattle.guards.specs.BitsLemmas.{has_and}
use Rattle.guards.specs.FlagBits.{every_same, all_every, at_weights, same_bit, eqb_bits}

-- no bit of the value lies outside care
within_test : (c v : ℕ) → v ≤ 31 → (bit_and v c == v) ≡ list_all (within (flags c v)) weights
within_test c v hv =
    eqb_bits (bit_and v c) v (omega (arith, and_le_l v c)) hv
    ∙ every_same (same_bit (bit_and v c) v) (within (flags c v)) weights
    (at_weights (λ w. same_bit (bit_and v c) v w ≡ within (flags c v) w) (λ k. ap (λ t. beq t (has v (2 ^ k))) (has_and k v c) ∙ go (has v (2 ^ k)) (has c (2 ^ k))))
  where
    go : (v c : Bool) → beq (v && c) v ≡ (not v || c)
    go true true = refl
    go true false = refl
    go false c = refl

-- the code's test of a row
pub pattern_test : (g : FlagRow) → is_pattern g ≡ (nat_le g.care 31 && bit_and g.value g.care == g.value)
pattern_test g = go (nat_le g.value 31) (bit_and g.value g.care == g.value) refl refl
  where
    go : (s t : Bool) → nat_le g.value 31 ≡ s → (bit_and g.value g.care == g.value) ≡ t
        → (nat_le g.care 31 && (s && list_all (within g) weights)) ≡ (nat_le g.care 31 && t)
    go true t h k = ap (λ u. nat_le g.care 31 && u) (sym (within_test g.care g.value (leb-true g.value 31 h)) ∙ k)
    go false false h k = refl
    go false true h k =
        ap (λ u. u && false) large ∙ sym (ap (λ u. u && true) large)
      where
        large : leb g.care 31 ≡ false
        large = lt-leb g.care 31 (omega (arith, leb-false g.value 31 h, eqb-true (bit_and g.value g.care) g.value k, and_le_r g.value g.care))

-- what the numbers of a guard keep to
pub record Made (g : FlagRow) : Type 0 where
  pub care : g.care ≤ 31
  pub value : g.value ≤ 31
  pub inside : (k : ℕ) → (has g.value (2 ^ k) && has g.care (2 ^ k)) ≡ has g.value (2 ^ k)

pub made : (g : FlagRow) → is_pattern g ≡ true → Made g
made g h =
    let p = and_parts (nat_le g.care 31) (nat_le g.value 31 && list_all (within g) weights) h in
    let q = and_parts (nat_le g.value 31) (list_all (within g) weights) p.1 in
    let hv = leb-true g.value 31 q.0 in
    let e = eqb-true (bit_and g.value g.care) g.value (within_test g.care g.value hv ∙ q.1) in
    record { care = leb-true g.care 31 p.0; value = hv; inside = λ k. sym (has_and k g.value g.care) ∙ ap (λ n. has n (2 ^ k)) e }

pub make : (g : FlagRow) → Made g → is_pattern g ≡ true
make g m =
    and_from _ _ (le-leb g.care 31 m.care) (and_from _ _ (le-leb g.value 31 m.value)
    (all_every (within g) weights (at_weights (λ w. within g w ≡ true) (λ k. go (has g.value (2 ^ k)) (has g.care (2 ^ k)) (m.inside k)))))
  where
    go : (v c : Bool) → (v && c) ≡ v → (not v || c) ≡ true
    go true c h = h
    go false c h = refl

-- the code's test of an entry
pub admit_test : (g : FlagRow) (e : ℕ) → is_pattern g ≡ true → flags_admit g e ≡ (nat_le e 31 && bit_and e g.care == g.value)
admit_test g e h = ap (λ t. t && (nat_le e 31 && list_all (agrees g e) weights)) h ∙ go (nat_le e 31) refl
  where
    bits : (e c v : Bool) → (v && c) ≡ v → beq (e && c) v ≡ (not c || beq e v)
    bits true true v h = refl
    bits false true v h = refl
    bits true false true h = absurd (both_ways false refl h)
    bits true false false h = refl
    bits false false true h = absurd (both_ways false refl h)
    bits false false false h = refl

    at : (k : ℕ) → same_bit (bit_and e g.care) g.value (2 ^ k) ≡ agrees g e (2 ^ k)
    at k =
        ap (λ t. beq t (has g.value (2 ^ k))) (has_and k e g.care)
        ∙ bits (has e (2 ^ k)) (has g.care (2 ^ k)) (has g.value (2 ^ k)) ((made g h).inside k)

    go : (t : Bool) → nat_le e 31 ≡ t → (t && list_all (agrees g e) weights) ≡ (t && bit_and e g.care == g.value)
    go true small =
        sym (eqb_bits (bit_and e g.care) g.value (omega (arith, and_le_l e g.care, leb-true e 31 small)) (made g h).value
        ∙ every_same (same_bit (bit_and e g.care) g.value) (agrees g e) weights (at_weights (λ w. same_bit (bit_and e g.care) g.value w ≡ agrees g e w) at))
    go false small = refl

-- the code's test of two values on the shared care bits
abbrev pub shared_test : FlagRow → FlagRow → Bool
shared_test a b = bit_and a.value (bit_and a.care b.care) == bit_and b.value (bit_and a.care b.care)

pub overlap_test : (a b : FlagRow) → is_pattern a ≡ true → is_pattern b ≡ true → flags_overlap a b ≡ shared_test a b
overlap_test a b ha hb =
    ap₂ (λ s t. s && (t && list_all (compatible a b) weights)) ha hb
    ∙ sym (eqb_bits x y (omega (arith, and_le_l a.value shared, (made a ha).value)) (omega (arith, and_le_l b.value shared, (made b hb).value))
    ∙ every_same (same_bit x y) (compatible a b) weights (at_weights (λ w. same_bit x y w ≡ compatible a b w) at))
  where
    shared : ℕ
    shared = bit_and a.care b.care

    x : ℕ
    x = bit_and a.value shared

    y : ℕ
    y = bit_and b.value shared

    bits : (v w s : Bool) → beq (v && s) (w && s) ≡ (not s || beq v w)
    bits true true true = refl
    bits true true false = refl
    bits true false true = refl
    bits true false false = refl
    bits false true true = refl
    bits false true false = refl
    bits false false true = refl
    bits false false false = refl

    at : (k : ℕ) → same_bit x y (2 ^ k) ≡ compatible a b (2 ^ k)
    at k =
        ap₂ beq (has_and k a.value shared) (has_and k b.value shared)
        ∙ ap (λ t. beq (has a.value (2 ^ k) && t) (has b.value (2 ^ k) && t)) (has_and k a.care b.care)
        ∙ bits (has a.value (2 ^ k)) (has b.value (2 ^ k)) (has a.care (2 ^ k) && has b.care (2 ^ k))

-- the numbers of a pattern make a guard
pub pattern_made : (g : FlagPattern) → is_pattern (pattern_row g) ≡ true
pattern_made g = pattern_test (pattern_row g) ∙ and_from _ _ (le-leb g.care 31 g.small) (eq-eqb (bit_and g.value g.care) g.value g.within)

-- t is the code's answer at the rows that a and b were read as
pub overlaps : (x y a b : FlagRow) → x ≡ a → y ≡ b → is_pattern a ≡ true → is_pattern b ≡ true → (t : Bool) → t ≡ shared_test x y → flags_overlap a b ≡ t
overlaps x y a b xa yb ha hb t h = overlap_test a b ha hb ∙ sym (h ∙ ap₂ shared_test xa yb)
