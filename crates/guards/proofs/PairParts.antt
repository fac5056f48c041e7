-- The part of a number in the rest of a pair, from its two runs.
use Rattle.std.proofs.Common.{◌≡◌, ℕ, zero, suc, ◌-◌, ◌≤◌, min, Bool, true, false, cond, ◌&&◌, List, [], ◌∷◌, ◌++◌, map, length, is_some, Some, None, Option, refl, sym, ap, ap₂, ◌∙◌, arith}
use lib.ListN.{length-map}
use Rattle.std.specs.Option.{option_map}
use Rattle.std.proofs.lemmas.Bool.{both_ways}
use Rattle.std.proofs.lemmas.Option.{slice_get-map}
use Rattle.std.specs.List.{slice_get}
use Rattle.guards.specs.Algebra.{Model}
use Rattle.guards.specs.Pair.{both, both_some, first_parts, pair_parts}
use Rattle.guards.specs.declared.pair.Both.{Both}

nth_front : {X : Type 0} (xs ys : List X) (k : ℕ) (x : X) → slice_get xs k ≡ Some x → slice_get (xs ++ ys) k ≡ Some x
nth_front [] ys k x h = absurd (both_ways false refl (ap is_some h))
nth_front (y ∷ xs) ys zero x h = h
nth_front (y ∷ xs) ys (suc k) x h = nth_front xs ys k x h

nth_beyond : {X : Type 0} (xs : List X) (k : ℕ) → slice_get xs k ≡ None → length xs ≤ k
nth_beyond [] k h = omega arith
nth_beyond (x ∷ xs) zero h = absurd (both_ways true (ap is_some h) refl)
nth_beyond (x ∷ xs) (suc k) h = let i = nth_beyond xs k h in omega arith

nth_behind : {X : Type 0} (xs ys : List X) (k : ℕ) → length xs ≤ k → slice_get (xs ++ ys) k ≡ slice_get ys (k - length xs)
nth_behind [] ys k h = ap (slice_get ys) (omega arith)
nth_behind (x ∷ xs) ys zero h = absurd (omega arith)
nth_behind (x ∷ xs) ys (suc k) h = nth_behind xs ys k (omega arith) ∙ ap (slice_get ys) (omega arith)

both_live : {X Y : Type 0} (x : Option X) (y : Option Y) → is_some (both_some x y) ≡ (is_some x && is_some y)
both_live None y = refl
both_live (Some x) None = refl
both_live (Some x) (Some y) = refl

-- both sides of a admit something
module _ {E₁ G₁ E₂ G₂ : Type 0} (m : Model E₁ G₁) (n : Model E₂ G₂) (a b : Both G₁ G₂) (k : ℕ)
    (live : is_some (both_some (m.sample a.first) (n.sample a.second)) ≡ true) where
  parts : (t : Bool) → is_some (m.sample (m.meet a.first b.first)) ≡ t
      → pair_parts m n a b ≡ first_parts m n a b ++ cond t (map (both (m.meet a.first b.first)) (n.parts a.second b.second)) []
  parts t h = ap₂ (λ s t. cond s (first_parts m n a b ++ cond t (map (both (m.meet a.first b.first)) (n.parts a.second b.second)) []) []) (sym (both_live (m.sample a.first) (n.sample a.second)) ∙ live) h

  -- a part of the first run
  pub rest_first : (p : G₁) → Some p ≡ slice_get (m.parts a.first b.first) k → Some (both p a.second) ≡ slice_get (pair_parts m n a b) k
  rest_first p found =
      sym (ap (λ ps. slice_get ps k) (parts (is_some (m.sample (m.meet a.first b.first))) refl)
      ∙ nth_front (first_parts m n a b) _ k (both p a.second) (slice_get-map (λ p. both p a.second) (m.parts a.first b.first) k ∙ ap (option_map (λ p. both p a.second)) (sym found)))

  module _ (none : slice_get (m.parts a.first b.first) k ≡ None) where
    -- the second run, from its own place
    late_parts : (t : Bool) → is_some (m.sample (m.meet a.first b.first)) ≡ t
        → slice_get (pair_parts m n a b) k ≡ slice_get (cond t (map (both (m.meet a.first b.first)) (n.parts a.second b.second)) []) (k - length (m.parts a.first b.first))
    late_parts t h =
        let same = length-map (m.parts a.first b.first) (λ p. both p a.second) in
        ap (λ ps. slice_get ps k) (parts t h)
        ∙ nth_behind (first_parts m n a b) _ k (omega (arith, same, nth_beyond (m.parts a.first b.first) k none))
        ∙ ap (λ l. slice_get (cond t (map (both (m.meet a.first b.first)) (n.parts a.second b.second)) []) (k - l)) same

    pub rest_none : is_some (m.sample (m.meet a.first b.first)) ≡ false → None ≡ slice_get (pair_parts m n a b) k
    rest_none dead = sym (late_parts false dead)

    pub rest_second : is_some (m.sample (m.meet a.first b.first)) ≡ true → (before : ℕ) → before ≡ min (length (m.parts a.first b.first)) k
        → (late : Option G₂) → late ≡ slice_get (n.parts a.second b.second) (k - before) → option_map (both (m.meet a.first b.first)) late ≡ slice_get (pair_parts m n a b) k
    rest_second live before counted late answer =
        let all : before ≡ length (m.parts a.first b.first) = omega (arith, counted, nth_beyond (m.parts a.first b.first) k none) in
        ap (option_map (both (m.meet a.first b.first))) (answer ∙ ap (λ l. slice_get (n.parts a.second b.second) (k - l)) all)
        ∙ sym (late_parts true live ∙ slice_get-map (both (m.meet a.first b.first)) (n.parts a.second b.second) (k - length (m.parts a.first b.first)))
