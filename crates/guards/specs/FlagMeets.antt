-- What a guard on flags admits, and what the meet of two admits.
use Rattle.std.specs.Prelude.{◌≡◌, ℕ, ◌^◌, ◌≤◌, Bool, true, false, cond, not, ◌&&◌, ◌||◌, bit_or, refl}
use Rattle.std.proofs.Common.{sym, ap, ap₂, ◌∙◌, arith}
use Rattle.std.specs.Bool.{beq}
use Rattle.std.proofs.Math.Bool.{and-false}
use Rattle.std.proofs.lemmas.Nat.{or_lt}
use Rattle.std.proofs.lemmas.Bool.{and_from, le-leb, both_ways}
use Rattle.guards.specs.Bits.{has}
use Rattle.guards.specs.Flags.{no_flags, weights, is_flags, is_pattern, agrees, flags_admit, compatible, joined, flags_meet}
use Rattle.std.specs.List.{list_all}
use Rattle.guards.specs.declared.flags.FlagRow.{FlagRow}
use Rattle.guards.specs.BitsLemmas.{has_or}
use Rattle.guards.specs.FlagBits.{every_same, all_every, every_and, at_weights}
use Rattle.guards.specs.FlagTests.{made, make}

-- what a row admits if its numbers make a guard
abbrev pub matches : FlagRow → ℕ → Bool
matches g e = is_flags e && list_all (agrees g e) weights

pub admits_made : (g : FlagRow) (e : ℕ) {t : Bool} → is_pattern g ≡ t → flags_admit g e ≡ (t && matches g e)
admits_made g e h = ap (λ t. t && matches g e) h

-- the value itself is admitted
pub value_admitted : (g : FlagRow) → is_pattern g ≡ true → flags_admit g g.value ≡ true
value_admitted g h =
    admits_made g g.value h
    ∙ and_from _ _ (le-leb g.value 31 (made g h).value)
    (all_every (agrees g g.value) weights (at_weights (λ w. agrees g g.value w ≡ true) (λ k. go (has g.care (2 ^ k)) (has g.value (2 ^ k)))))
  where
    go : (c v : Bool) → (not c || beq v v) ≡ true
    go true true = refl
    go true false = refl
    go false v = refl

pub or_small : (a b : ℕ) → a ≤ 31 → b ≤ 31 → bit_or a b ≤ 31
or_small a b h k = omega (arith, or_lt 5 a b (omega arith) (omega arith))

share : (l p q : Bool) → (l && (p && q)) ≡ ((l && p) && (l && q))
share true p q = refl
share false p q = refl

-- ---- the meet

module _ (a b : FlagRow) (ha : is_pattern a ≡ true) (hb : is_pattern b ≡ true) where
  joined_made : is_pattern (joined a b) ≡ true
  joined_made = make (joined a b) record {
    care = or_small a.care b.care (made a ha).care (made b hb).care;
    value = or_small a.value b.value (made a ha).value (made b hb).value;
    inside = λ k. ap₂ ◌&&◌ (has_or k a.value b.value) (has_or k a.care b.care)
        ∙ go (has a.value (2 ^ k)) (has a.care (2 ^ k)) (has b.value (2 ^ k)) (has b.care (2 ^ k)) ((made a ha).inside k) ((made b hb).inside k)
        ∙ sym (has_or k a.value b.value);
  }
    where
      go : (v c w d : Bool) → (v && c) ≡ v → (w && d) ≡ w → ((v || w) && (c || d)) ≡ (v || w)
      go true true w d h k = refl
      go true false w d h k = absurd (both_ways false refl h)
      go false true true d h k = refl
      go false true false d h k = refl
      go false false w d h k = k

  -- the values agree and the entry agrees with both joined, where it agrees with each
  joined_agrees : (e : ℕ) → (list_all (compatible a b) weights && list_all (agrees (joined a b) e) weights) ≡ (list_all (agrees a e) weights && list_all (agrees b e) weights)
  joined_agrees e =
      sym (every_and (compatible a b) (agrees (joined a b) e) weights)
      ∙ every_same (λ w. compatible a b w && agrees (joined a b) e w) (λ w. agrees a e w && agrees b e w) weights
      (at_weights (λ w. (compatible a b w && agrees (joined a b) e w) ≡ (agrees a e w && agrees b e w)) at)
      ∙ every_and (agrees a e) (agrees b e) weights
    where
      go : (ca va cb vb e : Bool) → (va && ca) ≡ va → (vb && cb) ≡ vb
          → ((not (ca && cb) || beq va vb) && (not (ca || cb) || beq e (va || vb))) ≡ ((not ca || beq e va) && (not cb || beq e vb))
      go true true true true true h k = refl
      go true true true true false h k = refl
      go true true true false true h k = refl
      go true true true false false h k = refl
      go true true false true e h k = absurd (both_ways false refl k)
      go true true false false true h k = refl
      go true true false false false h k = refl
      go true false true true true h k = refl
      go true false true true false h k = refl
      go true false true false true h k = refl
      go true false true false false h k = refl
      go true false false true e h k = absurd (both_ways false refl k)
      go true false false false true h k = refl
      go true false false false false h k = refl
      go false true cb vb e h k = absurd (both_ways false refl h)
      go false false true vb e h k = refl
      go false false false vb e h k = refl

      at : (k : ℕ) → (compatible a b (2 ^ k) && agrees (joined a b) e (2 ^ k)) ≡ (agrees a e (2 ^ k) && agrees b e (2 ^ k))
      at k =
          ap₂ (λ c v. compatible a b (2 ^ k) && (not c || beq (has e (2 ^ k)) v)) (has_or k a.care b.care) (has_or k a.value b.value)
          ∙ go (has a.care (2 ^ k)) (has a.value (2 ^ k)) (has b.care (2 ^ k)) (has b.value (2 ^ k)) (has e (2 ^ k)) ((made a ha).inside k) ((made b hb).inside k)

  joined_matches : (e : ℕ) → (list_all (compatible a b) weights && matches (joined a b) e) ≡ (matches a e && matches b e)
  joined_matches e =
      swap (list_all (compatible a b) weights) (is_flags e) (list_all (agrees (joined a b) e) weights)
      ∙ ap (λ t. is_flags e && t) (joined_agrees e)
      ∙ share (is_flags e) (list_all (agrees a e) weights) (list_all (agrees b e) weights)
    where
      swap : (p l q : Bool) → (p && (l && q)) ≡ (l && (p && q))
      swap true l q = refl
      swap false true q = refl
      swap false false q = refl

pub meet_admits : (a b : FlagRow) (e : ℕ) → flags_admit (flags_meet a b) e ≡ (flags_admit a e && flags_admit b e)
meet_admits a b e = go (is_pattern a) (is_pattern b) (list_all (compatible a b) weights) refl refl refl
  where
    go : (s t u : Bool) → is_pattern a ≡ s → is_pattern b ≡ t → list_all (compatible a b) weights ≡ u
        → flags_admit (cond (s && (t && u)) (joined a b) no_flags) e ≡ ((s && matches a e) && (t && matches b e))
    go true true true ha hb c =
        admits_made (joined a b) e (joined_made a b ha hb) ∙ ap (λ t. t && matches (joined a b) e) (sym c) ∙ joined_matches a b ha hb e
    go true true false ha hb c = ap (λ t. t && matches (joined a b) e) (sym c) ∙ joined_matches a b ha hb e
    go true false u ha hb c = sym (and-false (matches a e))
    go false t u ha hb c = refl
