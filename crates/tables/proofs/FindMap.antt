-- What `find_map` answers over a chain of iterators: what its question finds first in the chain's list.
use Rattle.std.proofs.Common.{◌≡◌, ℕ, zero, suc, ◌+◌, ◌<◌, true, List, [], ◌∷◌, ◌++◌, map, length, drop, Some, None, Option, refl, ap, ◌∙◌, subst, arith}
use Rattle.std.proofs.lemmas.Iterator.{YieldsList}
use Rattle.std.proofs.lemmas.Iterator.Consumers.{YieldsList-so_far, YieldsList-end}
use Rattle.std.proofs.lemmas.List.{take-append-drop}
use Rattle.std.specs.Fn.{Called}
use Rattle.std.specs.Iterator.{DrainsIf}
use Rattle.std.specs.Iterator.Runs.{Run, SomeRun, YieldsRun, AllItemsGive, IsFirstToGive}
use Rattle.std.specs.List.{slice_get, enumerate_from}
use Rattle.std.specs.Option.{MatchOption, IfSome, IsSomeAnd}
use Rattle.guards.specs.Lists.{first_some, or_else}
use denote.Param.Members.{Mut}

-- a question that takes the place from the item finds what one to the place and the item finds
pub first_numbered : {X Y : Type 0} (ask : ℕ → X → Option Y) (j i : ℕ) (xs : List X) → first_some (λ _ p. ask p.0 p.1) j (enumerate_from i xs) ≡ first_some ask i xs
first_numbered ask j i [] = refl
first_numbered ask j i (x ∷ xs) = ap (or_else (ask i x)) (first_numbered ask (j + 1) (i + 1) xs)

-- the same past the first n items
skipped_from : {X Y : Type 0} (ask : ℕ → X → Option Y) (j i n : ℕ) (xs : List X) → first_some (λ _ p. ask p.0 p.1) j (drop n (enumerate_from i xs)) ≡ first_some ask (i + n) (drop n xs)
skipped_from ask j i zero xs = first_numbered ask j i xs ∙ ap (λ k. first_some ask k xs) (omega arith)
skipped_from ask j i (suc n) [] = refl
skipped_from ask j i (suc n) (x ∷ xs) = skipped_from ask j (i + 1) n xs ∙ ap (λ k. first_some ask k (drop n xs)) (omega arith)

pub first_skipped : {X Y : Type 0} (ask : ℕ → X → Option Y) (j n : ℕ) (xs : List X) → first_some (λ _ p. ask p.0 p.1) j (drop n (enumerate_from 0 xs)) ≡ first_some ask n (drop n xs)
first_skipped ask j n xs = skipped_from ask j 0 n xs ∙ ap (λ k. first_some ask k (drop n xs)) (omega arith)

module _ {A B C F : Type 0} (v : A → B) (g : Mut F (A × Unit {0}) (Option C)) (h : B → Option C) (f : F) (computes : (x : A) (r : Option C) (q : F) → Called g f (x, tt) r q → (q ≡ f) × (r ≡ h (v x))) where
  abbrev first : ℕ → List B → Option C
  first = first_some (λ _ y. h y)

  none_found : (i : ℕ) (xs : List A) → ((k : ℕ) → IfSome (slice_get xs k) (λ x. Called g f (x, tt) None f)) → None ≡ first i (map v xs)
  none_found i [] all = refl
  none_found i (x ∷ xs) all = none_found (i + 1) xs (λ k. all (suc k)) ∙ ap (λ o. or_else o (first (i + 1) (map v xs))) (computes x None f (all 0)).1

  one_found : (i n : ℕ) (y : C) (xs : List A) (more : List B) → IsSomeAnd (slice_get xs n) (λ x. Called g f (x, tt) (Some y) f) → ((k : ℕ) → k < n → IsSomeAnd (slice_get xs k) (λ x. Called g f (x, tt) None f))
      → Some y ≡ first i (map v xs ++ more)
  one_found i n y [] more at before = absurd at
  one_found i zero y (x ∷ xs) more at before = ap (λ o. or_else o (first (i + 1) (map v xs ++ more))) (computes x (Some y) f at).1
  one_found i (suc n) y (x ∷ xs) more at before =
      one_found (i + 1) n y xs more at (λ k lt. before (suc k) (omega arith))
      ∙ ap (λ o. or_else o (first (i + 1) (map v xs ++ more))) (computes x None f (before 0 (omega arith))).1

module _ {S A : Type 0} {steps : S → Option A → S → Type 0} {s : S} where
  -- what a run from s gave
  run_gave : (p : Run steps) → p.from ≡ s → DrainsIf steps (p.whole ≡ true) s p.items × ((k : ℕ) → p.at k ≡ slice_get p.items k)
  unfolding YieldsRun
  run_gave p from = subst (λ z. DrainsIf steps (p.whole ≡ true) z p.items × ((k : ℕ) → p.at k ≡ slice_get p.items k)) from p.gave

module _ {S A B C F : Type 0} {steps : S → Option A → S → Type 0} {v : A → B} {g : Mut F (A × Unit {0}) (Option C)} {s : S} {all : List B} (h : B → Option C) (f : F) where
  -- from its clause `runs`, what the chain yields, and what the closure computes
  pub find_map_from_yields_List : (r : Option C)
      → SomeRun steps s (λ p. MatchOption r ((p.whole ≡ true) × AllItemsGive p g f None) (λ y. (i : ℕ) × (i < p.len) × (p.len ≡ i + 1) × IsFirstToGive p g f (Some y) None i))
      → YieldsList steps v s all → ((x : A) (o : Option C) (q : F) → Called g f (x, tt) o q → (q ≡ f) × (o ≡ h (v x))) → r ≡ first_some (λ _ y. h y) 0 all
  find_map_from_yields_List None run road computes =
      let p = run.0 in
      let gave = run_gave p run.1 in
      let end = gave.0.2 run.2.0 in
      let none : (k : ℕ) → IfSome (p.at k) (λ x. Called g f (x, tt) None f) = run.2.1 (λ x r q k. (computes x.0 r q k).0) in
      none_found v g h f computes 0 p.items (λ k. subst (λ o. IfSome o (λ x. Called g f (x, tt) None f)) (gave.1 k) (none k))
      ∙ ap (first v g h f computes 0) (YieldsList-end road p.items gave.0.0 gave.0.1 None end.0 refl end.1).0
  find_map_from_yields_List (Some y) run road computes =
      let p = run.0 in
      let i = run.2.0 in
      let gave = run_gave p run.1 in
      let some : IsSomeAnd (p.at i) (λ x. Called g f (x, tt) (Some y) f) × ((k : ℕ) → k < i → IsSomeAnd (p.at k) (λ x. Called g f (x, tt) None f)) = run.2.3 (λ x r q k. (computes x.0 r q k).0) in
      let more = drop (length p.items) all in
      one_found v g h f computes 0 i y p.items more (subst (λ o. IsSomeAnd o (λ x. Called g f (x, tt) (Some y) f)) (gave.1 i) some.0)
      (λ k lt. subst (λ o. IsSomeAnd o (λ x. Called g f (x, tt) None f)) (gave.1 k) (some.1 k lt))
      ∙ ap (λ ys. first v g h f computes 0 (ys ++ more)) (YieldsList-so_far road p.items gave.0.0 gave.0.1) ∙ ap (first v g h f computes 0) (take-append-drop (length p.items) all)
