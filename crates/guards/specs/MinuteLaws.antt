-- The algebra of minutes keeps the laws.
use Rattle.std.specs.Prelude.{◌≡◌, ℕ, ◌+◌, ◌-◌, min, max, Bool, true, false, cond, not, ◌&&◌, [], ◌∷◌, ◌++◌, Some, None, count_by, nat_lt, refl}
use Rattle.std.proofs.Common.{ap, ap₂, subst, ◌∙◌, arith}
use Rattle.std.proofs.lemmas.Bool.{and_left, and_right}
use Rattle.std.proofs.lemmas.Bool.Decides.{nat_tests}
use Rattle.guards.specs.Algebra.{Laws}
use Rattle.guards.specs.Rows.{ReadAsEmpty}
use Rattle.guards.specs.Minutes.{minutes, no_minutes, overlap, is_range, minutes_admit, minutes_sample, below, above, minutes_parts, minutes_model}
use Rattle.guards.specs.declared.minutes.MinuteRow.{MinuteRow}
use Rattle.guards.specs.Counting.{count_append, count_if, Each, each_none, each_cons, each_append}

-- the guard admits something
abbrev Live : MinuteRow → Type 0
Live g = (e : ℕ) × (minutes_admit g e ≡ true)

-- a guard with numbers that make one admits its first minute
first_admitted : (g : MinuteRow) → is_range g ≡ true → minutes_admit g g.first ≡ true
first_admitted g h = grind (arith, nat_tests)

none_admitted : (g : MinuteRow) (e : ℕ) → is_range g ≡ false → minutes_admit g e ≡ false
none_admitted g e h = grind (arith, nat_tests)

sample_none : (g : MinuteRow) → minutes_sample g ≡ None → (e : ℕ) → minutes_admit g e ≡ false
sample_none g h e = go (is_range g) refl h
  where
    go : (t : Bool) → is_range g ≡ t → cond t (Some g.first) None ≡ None → minutes_admit g e ≡ false
    go true r h = absurd cc
    go false r h = none_admitted g e r

sample_some : (g : MinuteRow) (e : ℕ) → minutes_sample g ≡ Some e → minutes_admit g e ≡ true
sample_some g e h = go (is_range g) refl h
  where
    go : (t : Bool) → is_range g ≡ t → cond t (Some g.first) None ≡ Some e → minutes_admit g e ≡ true
    go true r h = let s : g.first ≡ e = cc in subst (λ x. minutes_admit g x ≡ true) s (first_admitted g r)
    go false r h = absurd cc

parts_once : (a b : MinuteRow) (e : ℕ) → count_by (λ p. minutes_admit p e) (minutes_parts a b) ≡ cond (minutes_admit a e && not (minutes_admit b e)) 1 0
parts_once a b e = go (is_range a) (is_range b) refl refl
  where
    P : MinuteRow → Bool
    P p = minutes_admit p e

    low : ℕ
    low = cond (nat_lt a.first b.first && P (minutes a.first (min a.last (b.first - 1)))) 1 0

    high : ℕ
    high = cond (nat_lt b.last a.last && P (minutes (max a.first (b.last + 1)) a.last)) 1 0

    go : (s t : Bool) → is_range a ≡ s → is_range b ≡ t
        → count_by P (cond s (cond t (below a b ++ above a b) (a ∷ [])) []) ≡ cond (P a && not (P b)) 1 0
    go true true h k = count_append P (below a b) (above a b) ∙ ap₂ ◌+◌ (count_if P _ _) (count_if P _ _) ∙ grind (arith, nat_tests)
    go true false h k = grind (arith, nat_tests)
    go false t h k = grind (arith, nat_tests)

parts_some : (a b : MinuteRow) → Each Live (minutes_parts a b)
parts_some a b = go (is_range a) (is_range b) refl refl
  where
    one : (t : Bool) (g : MinuteRow) → (t ≡ true → is_range g ≡ true) → Each Live (cond t (g ∷ []) [])
    one true g h = each_cons Live g [] (g.first, first_admitted g (h refl)) (each_none Live)
    one false g h = each_none Live

    go : (s t : Bool) → is_range a ≡ s → is_range b ≡ t → Each Live (cond s (cond t (below a b ++ above a b) (a ∷ [])) [])
    go true true h k = each_append Live (below a b) (above a b) (one _ _ (λ l. grind (arith, nat_tests))) (one _ _ (λ l. grind (arith, nat_tests)))
    go true false h k = each_cons Live a [] (a.first, first_admitted a h) (each_none Live)
    go false t h k = each_none Live

pub minute_laws : Laws minutes_model
minute_laws = record {
  inhabited = (0, refl);
  whole_admits = λ e. grind (arith, nat_tests);
  inside = λ g e h. grind (arith, nat_tests);
  meet_admits = λ a b e. grind (arith, nat_tests);
  sample_none = sample_none;
  sample_some = sample_some;
  parts_once = parts_once;
  parts_some = parts_some;
}

pub minutes_read_as_empty : (row : MinuteRow) → is_range row ≡ false → ReadAsEmpty minutes_model is_range no_minutes row
minutes_read_as_empty row h = record {
  admits = λ e. none_admitted row e h;
  meet_left = λ b.
      ap (λ t. cond t (overlap row b) no_minutes) (and_left (is_range row && is_range b) (is_range (overlap row b)) (and_left (is_range row) (is_range b) h));
  meet_right = λ a.
      ap (λ t. cond t (overlap a row) no_minutes) (and_left (is_range a && is_range row) (is_range (overlap a row)) (and_right (is_range a) (is_range row) h));
  sample = ap (λ t. cond t (Some row.first) None) h;
  parts_of = λ b. ap (λ t. cond t (cond (is_range b) (below row b ++ above row b) (row ∷ [])) []) h;
  parts_without = λ a k. ap₂ (λ s t. cond s (cond t (below a row ++ above a row) (a ∷ [])) []) k h;
}
