-- Guards on flags with one bit more: what fixing it admits.
use Rattle.std.specs.Prelude.{◌≡◌, ℕ, ◌^◌, ◌≤◌, Bool, true, false, cond, not, ◌&&◌, ◌||◌, List, [], ◌∷◌, bit_or}
use Rattle.std.proofs.Math.Path.{refl}
use Rattle.std.proofs.Common.{sym, ap, ap₂, ◌∙◌, arith}
use Rattle.std.specs.Bool.{beq}
use Rattle.std.proofs.Math.Bool.{and-true, and_assoc}
use Rattle.std.specs.List.{AllByRecursion, list_all}
use Rattle.std.proofs.lemmas.Bool.{both_ways}
use Rattle.guards.specs.Bits.{has}
use Rattle.guards.specs.Flags.{weights, is_flags, is_pattern, agrees, flags_admit, fixed}
use Rattle.guards.specs.declared.flags.FlagRow.{FlagRow}
use Rattle.guards.specs.BitsLemmas.{has_or}
use Rattle.guards.specs.FlagBits.{every_same, every_and, at_weights}
use Rattle.guards.specs.FlagMeets.{admits_made, or_small}
use Rattle.guards.specs.FlagTests.{made, make}

-- a number that is one of the five bits
pub record Weight (w : ℕ) : Type 0 where
  pub small : w ≤ 31
  pub or : (a b : ℕ) → has (bit_or a b) w ≡ (has a w || has b w)
  -- a test at the bits of w is a test at w
  pub only : (t : ℕ → Bool) → list_all (λ v. not (has w v) || t v) weights ≡ t w
  -- what w has not is not at a bit of w
  pub clear : (t : ℕ → Bool) → t w ≡ false → AllByRecursion (λ v. (has w v && t v) ≡ false) weights

-- each is one bit, and no bit of those after it
abbrev pub Weights : List ℕ → Type 0
Weights [] = Unit {0}
Weights (w ∷ ws) = Weight w × AllByRecursion (λ v. has w v ≡ false) ws × Weights ws

pub weights_good : Weights weights
weights_good = (
  record { small = omega arith; or = has_or 4; only = λ t. and-true (t 16); clear = λ t h. (h, (refl, (refl, (refl, (refl, tt))))) },
  (refl, (refl, (refl, (refl, tt)))),
  (
    record { small = omega arith; or = has_or 3; only = λ t. and-true (t 8); clear = λ t h. (refl, (h, (refl, (refl, (refl, tt))))) },
    (refl, (refl, (refl, tt))),
    (
      record { small = omega arith; or = has_or 2; only = λ t. and-true (t 4); clear = λ t h. (refl, (refl, (h, (refl, (refl, tt))))) },
      (refl, (refl, tt)),
      (
        record { small = omega arith; or = has_or 1; only = λ t. and-true (t 2); clear = λ t h. (refl, (refl, (refl, (h, (refl, tt))))) },
        (refl, tt),
        (record { small = omega arith; or = has_or 0; only = λ t. and-true (t 1); clear = λ t h. (refl, (refl, (refl, (refl, (h, tt))))) }, tt, tt),
      ),
    ),
  ),
)

all_both : (P Q R : ℕ → Type 0) → ((w : ℕ) → P w → Q w → R w) → (ws : List ℕ) → AllByRecursion P ws → AllByRecursion Q ws → AllByRecursion R ws
all_both P Q R f [] p q = tt
all_both P Q R f (w ∷ ws) p q = (f w p.0 q.0, all_both P Q R f ws p.1 q.1)

-- ---- one bit more

module _ (g : FlagRow) (w : ℕ) (on : Bool) (made_g : is_pattern g ≡ true) (weight : Weight w) where
  -- the bits of the value, with the bit fixed
  fixed_value : (k : ℕ) → has (fixed g w on).value (2 ^ k) ≡ cond on (has g.value (2 ^ k) || has w (2 ^ k)) (has g.value (2 ^ k))
  fixed_value k = go on
    where
      go : (t : Bool) → has (cond t (bit_or g.value w) g.value) (2 ^ k) ≡ cond t (has g.value (2 ^ k) || has w (2 ^ k)) (has g.value (2 ^ k))
      go true = has_or k g.value w
      go false = refl

  pub fixed_made : is_pattern (fixed g w on) ≡ true
  fixed_made = make (fixed g w on) record {
    care = or_small g.care w (made g made_g).care weight.small;
    value = small on;
    inside = λ k. ap₂ ◌&&◌ (fixed_value k) (has_or k g.care w) ∙ go on (has g.value (2 ^ k)) (has g.care (2 ^ k)) (has w (2 ^ k)) ((made g made_g).inside k) ∙ sym (fixed_value k);
  }
    where
      small : (t : Bool) → cond t (bit_or g.value w) g.value ≤ 31
      small true = or_small g.value w (made g made_g).value weight.small
      small false = (made g made_g).value

      go : (t v c b : Bool) → (v && c) ≡ v → (cond t (v || b) v && (c || b)) ≡ cond t (v || b) v
      go true true true b h = refl
      go true true false b h = absurd (both_ways false refl h)
      go true false true true h = refl
      go true false true false h = refl
      go true false false true h = refl
      go true false false false h = refl
      go false true true b h = refl
      go false true false b h = absurd (both_ways false refl h)
      go false false c b h = refl

  -- with a bit that g does not care for, the entries of g that have it so
  fixed_agrees : (e : ℕ) → has g.care w ≡ false → list_all (agrees (fixed g w on) e) weights ≡ (list_all (agrees g e) weights && beq (has e w) on)
  fixed_agrees e free =
      every_same (agrees (fixed g w on) e) (λ v. agrees g e v && (not (has w v) || beq (has e v) on)) weights
      (all_both (λ v. (has w v && has g.care v) ≡ false) (λ v. (has w v && has g.care v) ≡ false → agrees (fixed g w on) e v ≡ (agrees g e v && (not (has w v) || beq (has e v) on)))
      (λ v. agrees (fixed g w on) e v ≡ (agrees g e v && (not (has w v) || beq (has e v) on))) (λ v p f. f p) weights (weight.clear (has g.care) free)
      (at_weights (λ v. (has w v && has g.care v) ≡ false → agrees (fixed g w on) e v ≡ (agrees g e v && (not (has w v) || beq (has e v) on))) at))
      ∙ every_and (agrees g e) (λ v. not (has w v) || beq (has e v) on) weights
      ∙ ap (λ t. list_all (agrees g e) weights && t) (weight.only (λ v. beq (has e v) on))
    where
      go : (t v c b e : Bool) → (v && c) ≡ v → (b && c) ≡ false → (not (c || b) || beq e (cond t (v || b) v)) ≡ ((not c || beq e v) && (not b || beq e t))
      go t v true true e h k = absurd (both_ways true k refl)
      go t true false b e h k = absurd (both_ways false refl h)
      go true true true false e h k = sym (and-true (beq e true))
      go true false true false e h k = sym (and-true (beq e false))
      go false v true false e h k = sym (and-true (beq e v))
      go true false false true e h k = refl
      go false false false true e h k = refl
      go t false false false e h k = refl

      at : (k : ℕ) → (has w (2 ^ k) && has g.care (2 ^ k)) ≡ false → agrees (fixed g w on) e (2 ^ k) ≡ (agrees g e (2 ^ k) && (not (has w (2 ^ k)) || beq (has e (2 ^ k)) on))
      at k h =
          ap₂ (λ c v. not c || beq (has e (2 ^ k)) v) (has_or k g.care w) (fixed_value k)
          ∙ go on (has g.value (2 ^ k)) (has g.care (2 ^ k)) (has w (2 ^ k)) (has e (2 ^ k)) ((made g made_g).inside k) h

  pub fixed_admits : (e : ℕ) → has g.care w ≡ false → flags_admit (fixed g w on) e ≡ (flags_admit g e && beq (has e w) on)
  fixed_admits e free =
      admits_made (fixed g w on) e fixed_made
      ∙ ap (λ t. is_flags e && t) (fixed_agrees e free)
      ∙ sym (and_assoc (is_flags e) (list_all (agrees g e) weights) (beq (has e w) on))
      ∙ ap (λ t. t && beq (has e w) on) (sym (admits_made g e made_g))
