-- The algebra of flags keeps the laws.
use Rattle.std.specs.Prelude.{◌≡◌, ℕ, Bool, true, false, cond, not, ◌&&◌, [], ◌∷◌, Some, None, count_by, refl}
use Rattle.std.proofs.Common.{sym, ap, ap₂, subst, ◌∙◌}
use Rattle.std.proofs.Math.Bool.{and-true}
use Rattle.std.proofs.lemmas.Bool.{and_parts, and_left, and_right, both_ways}
use Rattle.guards.specs.Algebra.{Laws}
use Rattle.guards.specs.Rows.{ReadAsEmpty}
use Rattle.guards.specs.Flags.{no_flags, weights, is_flags, is_pattern, agrees, flags_admit, compatible, flags_overlap, joined, flags_sample, split, flags_parts, flags_model}
use Rattle.std.specs.List.{list_all}
use Rattle.guards.specs.declared.flags.FlagRow.{FlagRow}
use Rattle.guards.specs.Counting.{count_if, Each, each_none, each_cons}
use Rattle.guards.specs.FlagMeets.{matches, admits_made, value_admitted, meet_admits}
use Rattle.guards.specs.FlagRests.{Live, split_once, split_live}

sample_none : (g : FlagRow) → flags_sample g ≡ None → (e : ℕ) → flags_admit g e ≡ false
sample_none g h e = go (is_pattern g) refl h
  where
    go : (t : Bool) → is_pattern g ≡ t → cond t (Some g.value) None ≡ None → flags_admit g e ≡ false
    go true m h = absurd cc
    go false m h = admits_made g e m

sample_some : (g : FlagRow) (e : ℕ) → flags_sample g ≡ Some e → flags_admit g e ≡ true
sample_some g e h = go (is_pattern g) refl h
  where
    go : (t : Bool) → is_pattern g ≡ t → cond t (Some g.value) None ≡ Some e → flags_admit g e ≡ true
    go true m h = let s : g.value ≡ e = cc in subst (λ x. flags_admit g x ≡ true) s (value_admitted g m)
    go false m h = absurd cc

module _ (a b : FlagRow) where
  -- a guard left whole admits nothing of the other
  alone : (e : ℕ) → flags_overlap a b ≡ false → count_by (λ p. flags_admit p e) (a ∷ []) ≡ cond (flags_admit a e && not (flags_admit b e)) 1 0
  alone e h = count_if P true a ∙ go (P a) (P b) (sym (meet_admits a b e) ∙ ap (λ t. flags_admit (cond t (joined a b) no_flags) e) h)
    where
      P : FlagRow → Bool
      P p = flags_admit p e

      go : (x y : Bool) → (x && y) ≡ false → ◌≡◌ {A = ℕ} (cond x 1 0) (cond (x && not y) 1 0)
      go true true h = absurd (both_ways true h refl)
      go true false h = refl
      go false y h = refl

  parts_once : (e : ℕ) → count_by (λ p. flags_admit p e) (flags_parts a b) ≡ cond (flags_admit a e && not (flags_admit b e)) 1 0
  parts_once e = go (is_pattern a) (flags_overlap a b) refl refl
    where
      P : FlagRow → Bool
      P p = flags_admit p e

      go : (s t : Bool) → is_pattern a ≡ s → flags_overlap a b ≡ t → count_by P (cond s (cond t (split a b a weights) (a ∷ [])) []) ≡ cond (P a && not (P b)) 1 0
      go true true ha o =
          let p = and_parts (is_pattern a) (is_pattern b && list_all (compatible a b) weights) o in
          let q = and_parts (is_pattern b) (list_all (compatible a b) weights) p.1 in
          split_once a b e ha q.0 q.1
      go true false ha o = alone e o
      go false t ha o = sym (ap (λ t. cond (t && not (P b)) 1 0) (admits_made a e ha))

  parts_some : Each Live (flags_parts a b)
  parts_some = go (is_pattern a) (flags_overlap a b) refl
    where
      go : (s t : Bool) → is_pattern a ≡ s → Each Live (cond s (cond t (split a b a weights) (a ∷ [])) [])
      go true true ha = split_live a b ha
      go true false ha = each_cons Live a [] (a.value, value_admitted a ha) (each_none Live)
      go false t ha = each_none Live

pub flag_laws : Laws flags_model
flag_laws = record {
  inhabited = (0, refl);
  whole_admits = λ e. and-true (is_flags e);
  inside = λ g e h. (and_parts (is_flags e) (list_all (agrees g e) weights) (and_parts (is_pattern g) (matches g e) h).1).0;
  meet_admits = meet_admits;
  sample_none = sample_none;
  sample_some = sample_some;
  parts_once = parts_once;
  parts_some = parts_some;
}

pub flags_read_as_empty : (row : FlagRow) → is_pattern row ≡ false → ReadAsEmpty flags_model is_pattern no_flags row
flags_read_as_empty row h = record {
  admits = λ e. and_left (is_pattern row) _ h;
  meet_left = λ b. ap (λ t. cond t (joined row b) no_flags) (and_left (is_pattern row) _ h);
  meet_right = λ a. ap (λ t. cond t (joined a row) no_flags) (and_right (is_pattern a) _ (and_left (is_pattern row) _ h));
  sample = ap (λ t. cond t (Some row.value) None) h;
  parts_of = λ b. ap (λ t. cond t (cond (flags_overlap row b) (split row b row weights) (row ∷ [])) []) h;
  parts_without = λ a k.
      ap₂ (λ s t. cond s (cond t (split a row a weights) (a ∷ [])) []) k (and_right (is_pattern a) _ (and_left (is_pattern row) _ h));
}
