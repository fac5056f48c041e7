-- The bits of numbers: what `&`, `|`, `^`, `!`, `1 << k` and `(1 << n) - 1` do to each.
use Rattle.std.specs.Prelude.{◌≡◌, ℕ, zero, suc, ◌+◌, ◌-◌, ◌*◌, ◌%◌, ◌^◌, ◌<◌, min, max, cond, not, ◌&&◌, ◌||◌, ◌==◌, bit_and, bit_or, bit_xor, nat_eq, nat_lt}
use Rattle.std.proofs.Common.{sym, ap, ap₂, ◌∙◌, ⊎_elim, arith, w8}
use Rattle.std.specs.Int.{bit_at}
use Rattle.std.proofs.lemmas.Nat.{pow_pos}
use Rattle.std.proofs.lemmas.Nat.Bits.{and_pow, bit_at-lt, bit_at_and, bit_at_or, bit_at_xor, bit_at_not, bit_at-pow_same, bit_at-pow_other, bit_at_ones, bit_at_ones_above}
use Rattle.std.proofs.lemmas.Bool.{cases_lt, cases_eq, eq-eqb, ne_eqb, lt-ltb, le-ltb}
use Rattle.std.proofs.lemmas.Bool.Decides.{nat_tests}
use Rattle.guards.specs.Bits.{has}

pub has_bit : (k n : ℕ) → has n (2 ^ k) ≡ (bit_at n k == 1)
has_bit k n = go (bit_at n k) (bit_and n (2 ^ k)) (2 ^ k) (bit_at-lt n k) (pow_pos k) (and_pow n k)
  where
    go : (d x w : ℕ) → d < 2 → 0 < w → x ≡ d * w → not (x == 0) ≡ (d == 1)
    go zero x w h p e = let z : x ≡ 0 = omega arith in grind (arith, nat_tests)
    go (suc zero) x w h p e = let z : x ≡ w = omega arith in grind (arith, nat_tests)
    go (suc (suc d)) x w h p e = absurd (omega arith)

pub has_and : (k a b : ℕ) → has (bit_and a b) (2 ^ k) ≡ (has a (2 ^ k) && has b (2 ^ k))
has_and k a b =
    has_bit k (bit_and a b)
    ∙ go (bit_at a k) (bit_at b k) (bit_at (bit_and a b) k) (bit_at-lt a k) (bit_at-lt b k) (bit_at_and a b k)
    ∙ sym (ap₂ ◌&&◌ (has_bit k a) (has_bit k b))
  where
    go : (x y z : ℕ) → x < 2 → y < 2 → z ≡ min x y → (z == 1) ≡ (x == 1 && y == 1)
    go x y z h k e = grind (arith, nat_tests)

pub has_or : (k a b : ℕ) → has (bit_or a b) (2 ^ k) ≡ (has a (2 ^ k) || has b (2 ^ k))
has_or k a b =
    has_bit k (bit_or a b)
    ∙ go (bit_at a k) (bit_at b k) (bit_at (bit_or a b) k) (bit_at-lt a k) (bit_at-lt b k) (bit_at_or a b k)
    ∙ sym (ap₂ ◌||◌ (has_bit k a) (has_bit k b))
  where
    go : (x y z : ℕ) → x < 2 → y < 2 → z ≡ max x y → (z == 1) ≡ (x == 1 || y == 1)
    go x y z h k e = grind (arith, nat_tests)

pub has_xor : (k a b : ℕ) → has (bit_xor a b) (2 ^ k) ≡ cond (has b (2 ^ k)) (not (has a (2 ^ k))) (has a (2 ^ k))
has_xor k a b =
    has_bit k (bit_xor a b)
    ∙ go (bit_at a k) (bit_at b k) (bit_at (bit_xor a b) k) (bit_at-lt a k) (bit_at-lt b k) (bit_at_xor a b k)
    ∙ sym (ap₂ (λ x y. cond y (not x) x) (has_bit k a) (has_bit k b))
  where
    go : (x y z : ℕ) → x < 2 → y < 2 → z ≡ (x + y) % 2 → (z == 1) ≡ cond (y == 1) (not (x == 1)) (x == 1)
    go x y z h k e = grind (arith, nat_tests)

-- what `!` does to the bits of a byte
pub has_not : (k n : ℕ) → k < 8 → n < 2 ^ 8 → has (255 - n) (2 ^ k) ≡ not (has n (2 ^ k))
has_not k n few small =
    has_bit k (255 - n) ∙ go (bit_at n k) (bit_at (255 - n) k) (bit_at-lt n k) (bit_at_not w8 n k small few) ∙ sym (ap not (has_bit k n))
  where
    go : (x z : ℕ) → x < 2 → z ≡ 1 - x → (z == 1) ≡ not (x == 1)
    go x z h e = grind (arith, nat_tests)

-- a power of two has one bit
pub has_one : (i k : ℕ) → has (2 ^ i) (2 ^ k) ≡ (k == i)
has_one i k =
    has_bit k (2 ^ i)
    ∙ ⊎_elim
    (λ e. ap (λ x. nat_eq (bit_at (2 ^ x) k) 1) (sym e) ∙ ap (λ x. nat_eq x 1) (bit_at-pow_same k) ∙ sym (eq-eqb k i e))
    (λ n. ap (λ x. nat_eq x 1) (bit_at-pow_other i k n) ∙ sym (ne_eqb k i n))
    (cases_eq k i)

-- one less than a power of two has all bits below it
pub has_ones : (n k : ℕ) → has (2 ^ n - 1) (2 ^ k) ≡ nat_lt k n
has_ones n k =
    has_bit k (2 ^ n - 1)
    ∙ ⊎_elim
    (λ l. ap (λ x. nat_eq x 1) (bit_at_ones n k l) ∙ sym (lt-ltb k n l))
    (λ l. ap (λ x. nat_eq x 1) (bit_at_ones_above n k l) ∙ sym (le-ltb k n l))
    (cases_lt k n)
