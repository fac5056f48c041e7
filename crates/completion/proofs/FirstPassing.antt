-- What `find` leaves of a slice's iterator: the elements behind the first that passes.
use Rattle.std.proofs.Common.{◌≡◌, Bool, true, false, cond, [], ◌∷◌, List, filter, Some, None, Option, sym, ap, ◌∙◌, subst}
use Rattle.std.proofs.lemmas.List.{nil_from_length}
use Rattle.std.specs.Fn.{CalledAt}
use Rattle.std.specs.Iterator.{FindsItem, Yields, YieldsFirst, YieldsFirstRef}
use Rattle.std.specs.List.{FoldsTo}
use Rattle.std.specs.Option.{IfSome, MatchOption, option_copied}
use Rattle.std.specs.Slice.Iter.{iter_rest, iter_steps}
use Rattle.std.specs.declared.slice.Iter.{Iter}
use denote.Param.Members.{Mut}
use denote.Ref.{Bor}

module _ {A F : Type 0} (g : Mut F (Bor (Bor A) × Unit {0}) Bool) (test : A → Bool) (f : F) (computes : (x : Bor A) (b : Bool) (q : F) → CalledAt g f x b q → (q ≡ f) × (b ≡ test x.now)) where
  abbrev passing : Iter A → List A
  passing s = filter test (iter_rest s)

  passes : (x : A) (xs : List A) → true ≡ test x → filter test (x ∷ xs) ≡ x ∷ filter test xs
  passes x xs h = ap (λ t. cond t (x ∷ filter test xs) (filter test xs)) (sym h)

  misses : (x : A) (xs : List A) → false ≡ test x → filter test (x ∷ xs) ≡ filter test xs
  misses x xs h = ap (λ t. cond t (x ∷ filter test xs) (filter test xs)) (sym h)

  first_from : (xs : List (Bor A)) (s t u : Iter A) (j : F) (r : Option (Bor A)) → Yields iter_steps s xs t → iter_steps t r u → FoldsTo (λ p x q. CalledAt g p x false q) f xs j
      → IfSome r (λ x. (h : F) × CalledAt g j x true h) → YieldsFirstRef passing s r u
  first_from [] s t u j None y p c m =
      let none = ap (filter test) (nil_from_length (iter_rest t) p.0) in
      (ap passing y ∙ none, ap passing p.1 ∙ none)
  first_from [] s t u j (Some x) y p c m = ap passing y ∙ ap (filter test) p ∙ passes x.now (iter_rest u) (computes x true m.0 (subst (λ k. CalledAt g k x true m.0) (sym c) m.1)).1
  first_from (x ∷ xs) s t u j r y p c m =
      let miss = computes x false c.0 c.1 in
      let here : passing s ≡ passing y.0 = ap (filter test) y.1 ∙ misses x.now (iter_rest y.0) miss.1 in
      subst (λ ys. MatchOption r ((ys ≡ []) × (passing u ≡ [])) (λ x. ys ≡ x.now ∷ passing u)) (sym here)
      (first_from xs y.0 t u j r y.2 p (subst (λ k. FoldsTo (λ p x q. CalledAt g p x false q) k xs j) miss.0 c.2) m)

  pub first_passing : (s u : Iter A) (r : Option (Bor A)) → FindsItem iter_steps g s f r u → YieldsFirstRef passing s r u
  first_passing s u r d = first_from d.0 s d.2.0 u d.1 r d.2.1 d.2.2 d.3 d.4

-- the same, where the element is copied
pub copied_first : {A : Type 0} (r : Option (Bor A)) (left more : List A) → MatchOption r ((left ≡ []) × (more ≡ [])) (λ x. left ≡ x.now ∷ more) → YieldsFirst (λ s. s) left (option_copied r) more
copied_first None left more h = h
copied_first (Some x) left more h = h
