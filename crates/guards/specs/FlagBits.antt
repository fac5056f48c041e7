-- Tests over the five bits of a number, and that the five bits tell numbers apart.
use Rattle.std.specs.Prelude.{◌≡◌, ℕ, ◌/◌, ◌%◌, ◌^◌, ◌<◌, ◌≤◌, Bool, true, false, ◌&&◌, List, [], ◌∷◌, ◌==◌, refl}
use Rattle.std.proofs.Common.{sym, ap, ap₂, ◌∙◌, arith}
use Rattle.std.specs.Bool.{beq}
use Rattle.std.specs.Int.{bit_at}
use Rattle.std.proofs.lemmas.Nat.Bits.{bit_at-lt}
use Rattle.std.specs.List.{AllByRecursion, list_all}
use Rattle.std.proofs.lemmas.Bool.{and_parts, eq-eqb, ne_eqb, both_ways}
use Rattle.std.proofs.lemmas.Bool.Decides.{nat_tests}
use Rattle.guards.specs.Tests.{and_swap}
use Rattle.guards.specs.Bits.{has}
use Rattle.guards.specs.Flags.{weights}
use Rattle.guards.specs.BitsLemmas.{has_bit}

pub every_same : (p q : ℕ → Bool) (ws : List ℕ) → AllByRecursion (λ w. p w ≡ q w) ws → list_all p ws ≡ list_all q ws
every_same p q [] h = refl
every_same p q (w ∷ ws) h = ap₂ ◌&&◌ h.0 (every_same p q ws h.1)

pub every_all : (p : ℕ → Bool) (ws : List ℕ) → list_all p ws ≡ true → AllByRecursion (λ w. p w ≡ true) ws
every_all p [] h = tt
every_all p (w ∷ ws) h = let b = and_parts (p w) (list_all p ws) h in (b.0, every_all p ws b.1)

pub all_every : (p : ℕ → Bool) (ws : List ℕ) → AllByRecursion (λ w. p w ≡ true) ws → list_all p ws ≡ true
all_every p [] h = refl
all_every p (w ∷ ws) h = ap₂ ◌&&◌ h.0 (all_every p ws h.1)

pub every_and : (p q : ℕ → Bool) (ws : List ℕ) → list_all (λ w. p w && q w) ws ≡ (list_all p ws && list_all q ws)
every_and p q [] = refl
every_and p q (w ∷ ws) = ap (λ t. (p w && q w) && t) (every_and p q ws) ∙ and_swap (p w) (q w) (list_all p ws) (list_all q ws)

-- what holds of two powers of two for each of the five weights
pub at_weights : (P : ℕ → Type 0) → ((k : ℕ) → P (2 ^ k)) → AllByRecursion P weights
at_weights P h = (h 4, (h 3, (h 2, (h 1, (h 0, tt)))))

-- ---- all five

same_digit : (k x y : ℕ) → has x (2 ^ k) ≡ has y (2 ^ k) → bit_at x k ≡ bit_at y k
same_digit k x y h = go (bit_at x k) (bit_at y k) (bit_at-lt x k) (bit_at-lt y k) (sym (has_bit k x) ∙ h ∙ has_bit k y)
  where
    go : (c d : ℕ) → c < 2 → d < 2 → (c == 1) ≡ (d == 1) → c ≡ d
    go c d h k e = grind (arith, nat_tests)

-- two numbers of five bits with the same bits are the same
pub same_number : (x y : ℕ) → x ≤ 31 → y ≤ 31 → AllByRecursion (λ w. has x w ≡ has y w) weights → x ≡ y
same_number x y hx hy h =
    let a : x / 16 % 2 ≡ y / 16 % 2 = same_digit 4 x y h.0 in
    let b : x / 8 % 2 ≡ y / 8 % 2 = same_digit 3 x y h.1.0 in
    let c : x / 4 % 2 ≡ y / 4 % 2 = same_digit 2 x y h.1.1.0 in
    let d : x / 2 % 2 ≡ y / 2 % 2 = same_digit 1 x y h.1.1.1.0 in
    let e : x / 1 % 2 ≡ y / 1 % 2 = same_digit 0 x y h.1.1.1.1.0 in
    omega arith

beq_true : (x y : Bool) → beq x y ≡ true → x ≡ y
beq_true true true h = refl
beq_true true false h = absurd (both_ways false refl h)
beq_true false true h = absurd (both_ways false refl h)
beq_true false false h = refl

beq_same : (x : Bool) → beq x x ≡ true
beq_same true = refl
beq_same false = refl

-- x and y are the same at the bit of that weight
abbrev pub same_bit : ℕ → ℕ → ℕ → Bool
same_bit x y w = beq (has x w) (has y w)

all_same : (x y : ℕ) (ws : List ℕ) → AllByRecursion (λ w. same_bit x y w ≡ true) ws → AllByRecursion (λ w. has x w ≡ has y w) ws
all_same x y [] h = tt
all_same x y (w ∷ ws) h = (beq_true (has x w) (has y w) h.0, all_same x y ws h.1)

-- equality of two numbers of five bits, bit by bit
pub eqb_bits : (x y : ℕ) → x ≤ 31 → y ≤ 31 → (x == y) ≡ list_all (same_bit x y) weights
eqb_bits x y hx hy = go (list_all (same_bit x y) weights) refl
  where
    go : (t : Bool) → list_all (same_bit x y) weights ≡ t → (x == y) ≡ t
    go true h = eq-eqb x y (same_number x y hx hy (all_same x y weights (every_all (same_bit x y) weights h)))
    go false h =
        ne_eqb x y (λ e. both_ways (list_all (same_bit x y) weights) h (all_every (same_bit x y) weights
        (at_weights (λ w. same_bit x y w ≡ true) (λ k. ap (λ z. same_bit x z (2 ^ k)) (sym e) ∙ beq_same (has x (2 ^ k))))))
