-- The part of a number in the rest of flags, from bit to bit.
use Rattle.std.proofs.Common.{◌≡◌, ℕ, zero, suc, ◌+◌, ◌-◌, ◌<◌, ◌≤◌, ◌^◌, Bool, true, false, cond, not, ◌&&◌, List, ◌∷◌, length, get_or, drop, Some, None, Option, sym, ap, ◌∙◌, arith, bit_and}
use Rattle.std.specs.List.{All, slice_get}
use Rattle.std.proofs.lemmas.List.{at_drop_more, at_drop_all}
use Rattle.std.proofs.lemmas.List.Elements.{All-from_recursion}
use Rattle.guards.specs.Bits.{has}
use Rattle.guards.specs.BitsLemmas.{has_and, has_not}
use Rattle.guards.specs.Flags.{fresh, fixed, pattern_row, split, weights}
use Rattle.guards.specs.declared.flags.FlagRow.{FlagRow}
use Rattle.guards.specs.declared.flags.FlagPattern.{FlagPattern}

later : {X : Type 0} (x : X) (xs : List X) (n : ℕ) → (n ≡ 0 → ⊥) → slice_get (x ∷ xs) n ≡ slice_get xs (n - 1)
later x xs zero h = absurd (h (omega arith))
later x xs (suc n) h = ap (slice_get xs) (omega arith)

-- the bits that q cares for and p does not, at each of the weights
pub bits_apart : (p q : FlagPattern) → All (λ w. has (bit_and q.care (255 - p.care)) w ≡ fresh (pattern_row p) (pattern_row q) w) weights
bits_apart p q = All-from_recursion (λ w. has (bit_and q.care (255 - p.care)) w ≡ fresh (pattern_row p) (pattern_row q) w) weights
    (at 4 (omega arith), (at 3 (omega arith), (at 2 (omega arith), (at 1 (omega arith), (at 0 (omega arith), tt)))))
  where
    at : (k : ℕ) → k < 8 → has (bit_and q.care (255 - p.care)) (2 ^ k) ≡ (has q.care (2 ^ k) && not (has p.care (2 ^ k)))
    at k few = has_and k q.care (255 - p.care) ∙ ap (λ t. has q.care (2 ^ k) && t) (has_not k p.care few (omega (arith, p.small)))

-- g is a with the fresh bits so far as in b, and o is what the bits from place i on give
module _ (a b g : FlagRow) (ws : List ℕ) (i : ℕ) (h : i < length ws) (n : ℕ) (o : Option FlagRow) (inv : slice_get (split a b g (drop i ws)) n ≡ o) where
  abbrev w : ℕ
  w = get_or ws i 0

  -- the parts from this bit on
  abbrev from : Bool → List FlagRow
  from t = cond t (fixed g w (not (has b.value w)) ∷ split a b (fixed g w (has b.value w)) (drop (i + 1) ws)) (split a b g (drop (i + 1) ws))

  at : (t : Bool) → fresh a b w ≡ t → slice_get (from t) n ≡ o
  unfolding split
  at t f = sym (at_drop_more (λ s. slice_get (split a b g s) n) ws i 0 h ∙ ap (λ u. slice_get (from u) n) f) ∙ inv

  -- the part is this bit's
  pub part_here : fresh a b w ≡ true → n ≡ 0 → Some (fixed g w (not (has b.value w))) ≡ o
  part_here f z = sym (ap (slice_get (from true)) z) ∙ at true f

  -- the part is a later bit's
  pub part_later : fresh a b w ≡ true → (n ≡ 0 → ⊥) → slice_get (split a b (fixed g w (has b.value w)) (drop (i + 1) ws)) (n - 1) ≡ o
  part_later f z = sym (later _ _ n z) ∙ at true f

  -- this bit has no part
  pub part_stale : fresh a b w ≡ false → slice_get (split a b g (drop (i + 1) ws)) n ≡ o
  part_stale f = at false f

-- past the last bit no part is left
pub part_none : (a b g : FlagRow) (ws : List ℕ) (i n : ℕ) (o : Option FlagRow) → length ws ≤ i → slice_get (split a b g (drop i ws)) n ≡ o → None ≡ o
unfolding split
part_none a b g ws i n o h inv = sym (at_drop_all (λ s. slice_get (split a b g s) n) ws i h) ∙ inv
