-- What the parts of a rest of flags admit.
use Rattle.std.specs.Prelude.{◌≡◌, ℕ, ◌+◌, ◌^◌, Bool, true, false, cond, not, ◌&&◌, ◌||◌, List, [], ◌∷◌, count_by}
use Rattle.std.proofs.Math.Path.{refl}
use Rattle.std.proofs.Common.{sym, ap, ap₂, ◌∙◌}
use Rattle.std.specs.Bool.{beq}
use Rattle.std.specs.List.{AllByRecursion, list_all}
use Rattle.std.proofs.lemmas.Bool.{both_ways}
use Rattle.guards.specs.Bits.{has}
use Rattle.guards.specs.Flags.{weights, is_flags, is_pattern, agrees, flags_admit, compatible, fresh, fixed, split}
use Rattle.guards.specs.declared.flags.FlagRow.{FlagRow}
use Rattle.guards.specs.Counting.{count_cons, Each, each_none, each_cons}
use Rattle.guards.specs.FlagBits.{every_same, every_and, at_weights}
use Rattle.guards.specs.FlagMeets.{admits_made, value_admitted}
use Rattle.guards.specs.FlagFixed.{Weights, weights_good, fixed_made, fixed_admits}

-- the guard admits something
abbrev pub Live : FlagRow → Type 0
Live g = (e : ℕ) × (flags_admit g e ≡ true)

-- ---- the fresh bits

module _ (a b : FlagRow) where
  -- at a fresh bit the entry is as in b
  abbrev matched : ℕ → ℕ → Bool
  matched e w = not (fresh a b w) || beq (has e w) (has b.value w)

  -- what a does not care for, g does not care for
  abbrev Free : FlagRow → List ℕ → Type 0
  Free g ws = AllByRecursion (λ w. has a.care w ≡ false → has g.care w ≡ false) ws

  free_more : (g : FlagRow) (w : ℕ) (on : Bool) (ws : List ℕ) → AllByRecursion (λ v. has w v ≡ false) ws → Weights ws → Free g ws → Free (fixed g w on) ws
  free_more g w on [] p q f = tt
  free_more g w on (v ∷ ws) p q f = ((λ h. q.0.or g.care w ∙ ap₂ ◌||◌ (f.0 h) p.0), free_more g w on ws p.1 q.2 f.1)

  is_free : (w : ℕ) → fresh a b w ≡ true → has a.care w ≡ false
  is_free w h = go (has b.care w) (has a.care w) h
    where
      go : (x y : Bool) → (x && not y) ≡ true → y ≡ false
      go true true h = absurd (both_ways false refl h)
      go true false h = refl
      go false y h = absurd (both_ways false refl h)

  -- an entry of g is in just one part, unless it is as in b at each fresh bit
  split_count : (e : ℕ) (ws : List ℕ) (g : FlagRow) → Weights ws → is_pattern g ≡ true → Free g ws
      → count_by (λ p. flags_admit p e) (split a b g ws) ≡ cond (flags_admit g e && not (list_all (matched e) ws)) 1 0
  unfolding split
  split_count e [] g q made_g f = none (flags_admit g e)
    where
      none : (t : Bool) → ◌≡◌ {A = ℕ} 0 (cond (t && false) 1 0)
      none true = refl
      none false = refl
  split_count e (w ∷ ws) g q made_g f = go (fresh a b w) refl (split_count e ws)
    where
      P : FlagRow → Bool
      P p = flags_admit p e

      v : Bool
      v = has b.value w

      sum : (x h v m : Bool) → cond (x && beq h (not v)) 1 0 + cond ((x && beq h v) && not m) 1 0 ≡ cond (x && not (beq h v && m)) 1 0
      sum true true true true = refl
      sum true true true false = refl
      sum true true false m = refl
      sum true false true m = refl
      sum true false false true = refl
      sum true false false false = refl
      sum false h v m = refl

      go : (t : Bool) → fresh a b w ≡ t
          → ((g : FlagRow) → Weights ws → is_pattern g ≡ true → Free g ws → count_by P (split a b g ws) ≡ cond (P g && not (list_all (matched e) ws)) 1 0)
          → count_by P (cond t (fixed g w (not v) ∷ split a b (fixed g w v) ws) (split a b g ws)) ≡ cond (P g && not ((not t || beq (has e w) v) && list_all (matched e) ws)) 1 0
      go true h ih =
          let free = f.0 (is_free w h) in
          count_cons P (fixed g w (not v)) (split a b (fixed g w v) ws)
          ∙ ap₂ (λ s n. cond s 1 0 + n) (fixed_admits g w (not v) made_g q.0 e free) (ih (fixed g w v) q.2 (fixed_made g w v made_g q.0) (free_more g w v ws q.1 q.2 f.1))
          ∙ ap (λ s. cond (P g && beq (has e w) (not v)) 1 0 + cond (s && not (list_all (matched e) ws)) 1 0) (fixed_admits g w v made_g q.0 e free)
          ∙ sum (P g) (has e w) v (list_all (matched e) ws)
      go false h ih = ih g q.2 made_g f.1

  free_self : (ws : List ℕ) → Free a ws
  free_self [] = tt
  free_self (w ∷ ws) = ((λ h. h), free_self ws)

  -- where a and b agree on the shared bits, an entry of a that is as in b at each fresh bit is an entry of b
  matched_admits : (e : ℕ) → is_pattern a ≡ true → is_pattern b ≡ true → list_all (compatible a b) weights ≡ true
      → (flags_admit a e && not (list_all (matched e) weights)) ≡ (flags_admit a e && not (flags_admit b e))
  matched_admits e ha hb agree =
      ap (λ t. t && not (list_all (matched e) weights)) (admits_made a e ha)
      ∙ go (is_flags e) (list_all (agrees a e) weights) (list_all (matched e) weights) (list_all (agrees b e) weights) same
      ∙ sym (ap₂ (λ s t. s && not t) (admits_made a e ha) (admits_made b e hb))
    where
      before : ℕ → Bool
      before w = compatible a b w && (agrees a e w && matched e w)

      after : ℕ → Bool
      after w = compatible a b w && (agrees a e w && agrees b e w)

      bits : (ca va cb vb e : Bool)
          → ((not (ca && cb) || beq va vb) && ((not ca || beq e va) && (not (cb && not ca) || beq e vb)))
          ≡ ((not (ca && cb) || beq va vb) && ((not ca || beq e va) && (not cb || beq e vb)))
      bits true true true true true = refl
      bits true true true true false = refl
      bits true true true false e = refl
      bits true false true true e = refl
      bits true false true false true = refl
      bits true false true false false = refl
      bits true va false vb e = refl
      bits false va true vb e = refl
      bits false va false vb e = refl

      split_up : (q : ℕ → Bool) → list_all (λ w. compatible a b w && (agrees a e w && q w)) weights ≡ (list_all (agrees a e) weights && list_all q weights)
      split_up q =
          every_and (compatible a b) (λ w. agrees a e w && q w) weights
          ∙ ap₂ ◌&&◌ agree (every_and (agrees a e) q weights)

      same : (list_all (agrees a e) weights && list_all (matched e) weights) ≡ (list_all (agrees a e) weights && list_all (agrees b e) weights)
      same =
          sym (split_up (matched e))
          ∙ every_same before after weights (at_weights (λ w. before w ≡ after w) (λ k. bits (has a.care (2 ^ k)) (has a.value (2 ^ k)) (has b.care (2 ^ k)) (has b.value (2 ^ k)) (has e (2 ^ k))))
          ∙ split_up (agrees b e)

      go : (f p m n : Bool) → (p && m) ≡ (p && n) → ((f && p) && not m) ≡ ((f && p) && not (f && n))
      go true true m n h = ap not h
      go true false m n h = refl
      go false p m n h = refl

  pub split_once : (e : ℕ) → is_pattern a ≡ true → is_pattern b ≡ true → list_all (compatible a b) weights ≡ true
      → count_by (λ p. flags_admit p e) (split a b a weights) ≡ cond (flags_admit a e && not (flags_admit b e)) 1 0
  split_once e ha hb agree = split_count e weights a weights_good ha (free_self weights) ∙ ap (λ t. cond t 1 0) (matched_admits e ha hb agree)

  live_from : (ws : List ℕ) (g : FlagRow) → Weights ws → is_pattern g ≡ true → Each Live (split a b g ws)
  unfolding split
  live_from [] g q made_g = each_none Live
  live_from (w ∷ ws) g q made_g = go (fresh a b w) (live_from ws)
    where
      v : Bool
      v = has b.value w

      go : (t : Bool) → ((g : FlagRow) → Weights ws → is_pattern g ≡ true → Each Live (split a b g ws))
          → Each Live (cond t (fixed g w (not v) ∷ split a b (fixed g w v) ws) (split a b g ws))
      go true ih =
          each_cons Live (fixed g w (not v)) (split a b (fixed g w v) ws)
          ((fixed g w (not v)).value, value_admitted (fixed g w (not v)) (fixed_made g w (not v) made_g q.0))
          (ih (fixed g w v) q.2 (fixed_made g w v made_g q.0))
      go false ih = ih g q.2 made_g

  pub split_live : is_pattern a ≡ true → Each Live (split a b a weights)
  split_live ha = live_from weights a weights_good ha
