-- The parts that are left before and after a part is given.
use Rattle.std.proofs.Common.{◌≡◌, ℕ, zero, suc, ◌+◌, ◌<◌, ◌^◌, List, [], ◌∷◌, ◌++◌, length, take, drop, Some, None, Option, refl, sym, ap, ◌∙◌, arith}
use Rattle.std.specs.Option.{MatchOption, SomeIff}
use Rattle.std.specs.List.{slice_get}
use Rattle.std.specs.Iterator.{YieldsFirst, MakesProgress, item_count}
use Rattle.std.proofs.lemmas.List.{at_drop_all, append-nil, length-take, take_all}
use Rattle.guards.specs.Algebra.{left_from, numbered}

none_left : (G : Type 0) (n most : ℕ) → ◌≡◌ {A = List G} (drop n (take most [])) []
none_left G zero zero = refl
none_left G zero (suc most) = refl
none_left G (suc n) zero = refl
none_left G (suc n) (suc most) = refl

part_at : {G : Type 0} (ps : List G) (n most : ℕ) → n < most
    → MatchOption (slice_get ps n) ((drop n (take most ps) ≡ []) × (drop (suc n) (take most ps) ≡ [])) (λ p. drop n (take most ps) ≡ p ∷ drop (suc n) (take most ps))
part_at {G} [] n most h = (none_left G n most, none_left G (suc n) most)
part_at (p ∷ ps) zero (suc most) h = refl
part_at (p ∷ ps) zero zero h = absurd (omega arith)
part_at (p ∷ ps) (suc n) zero h = absurd (omega arith)
part_at (p ∷ ps) (suc n) (suc most) h = part_at ps n most (omega arith)

step : {G : Type 0} (ps : List G) (n most : ℕ) (next : Option ℕ) → SomeIff next (n + 1 < most) (n + 1) → n < most
    → YieldsFirst (λ s. s) (drop n (take most ps)) (slice_get ps n) (left_from (take most ps) next)
step {G} ps n most next s b = go next (slice_get ps n) s (part_at ps n most b)
  where
    left : List G
    left = drop n (take most ps)

    rest : List G
    rest = drop (suc n) (take most ps)

    one_more : (k : ℕ) → k ≡ n + 1 → k ≡ suc n
    one_more k h = omega (arith, h)

    go : (next : Option ℕ) (r : Option G) → SomeIff next (n + 1 < most) (n + 1) → MatchOption r ((left ≡ []) × (rest ≡ [])) (λ p. left ≡ p ∷ rest)
        → YieldsFirst (λ s. s) left r (left_from (take most ps) next)
    go None None s e = (e.0, refl)
    go None (Some p) s e = e ∙ ap (λ l. p ∷ l) (at_drop_all (λ l. l) (take most ps) (suc n) (omega (arith, s, length-take most ps)))
    go (Some k) None s e = (e.0, ap (λ i. drop i (take most ps)) (one_more k s.1) ∙ e.1)
    go (Some k) (Some p) s e = e ∙ ap (λ i. p ∷ drop i (take most ps)) (sym (one_more k s.1))

-- the part of that number is the first that is left, and `next` numbers the others
pub part_given : {G : Type 0} (ps : List G) (n : ℕ) (next : Option ℕ) → SomeIff next (n + 1 < 2 ^ 64) (n + 1) → n < 2 ^ 64
    → YieldsFirst (λ s. s) (drop n (numbered ps)) (slice_get ps n) (left_from (numbered ps) next)
unfolding numbered
part_given ps n next s b = step ps n (2 ^ 64) next s b

-- a list that gives its first gets shorter
pub progress : {G : Type 0} (can : List G → Type 0) (any : (s : List G) → can s) (s t : List G) (r : Option G) → YieldsFirst (λ s. s) s r t → MakesProgress can (item_count (λ s. s)) s r t
progress can any s t None h = record { on = λ _. tt; keeps = tt; rests = λ f. tt }
progress can any s t (Some x) h = record { on = λ _. (any t, tt, omega (arith, ap length h)); keeps = any t; rests = λ f. tt }

-- ---- a loop that has taken the parts xs, and has `left` before it
-- fewer parts than numbers are all the parts
pub all_parts : {G : Type 0} (ps xs left : List G) → numbered ps ≡ xs ++ left → left ≡ [] → length xs < 2 ^ 64 → xs ≡ ps
unfolding numbered
all_parts ps xs left h none few = all_taken ps xs _ (h ∙ ap (λ l. xs ++ l) none ∙ append-nil xs) few
  where
    all_taken : {G : Type 0} (ps xs : List G) (most : ℕ) → take most ps ≡ xs → length xs < most → xs ≡ ps
    all_taken ps xs most h few = sym h ∙ take_all most ps (omega (arith, ap length h, few, length-take most ps))
