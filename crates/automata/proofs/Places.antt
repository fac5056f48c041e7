-- Places of members in a list, and of nodes that a test tells apart.
use Rattle.std.proofs.Common.{◌≡◌, ℕ, zero, suc, ◌<◌, Bool, true, false, cond, eqb, List, [], ◌∷◌, length, get_or, Some, sym, refl, ap, ◌∙◌, subst, inl, inr, arith}
use Rattle.std.specs.List.{slice_get}
use Rattle.std.proofs.lemmas.List.{get_or_default}
use Rattle.std.proofs.lemmas.Bool.{cases_Bool, both_ways, cond-true, cond-false, eq-eqb, eqb-true}
use Rattle.guards.specs.Lists.{Member}
use Rattle.automata.specs.Search.{Tells, place_of, NoRepeat}

module _ {X : Type 0} where
  pub member_place : (x : X) (xs : List X) → Member x xs → (k : ℕ) × (slice_get xs k ≡ Some x)
  member_place x [] m = absurd m
  member_place x (y ∷ xs) (inl e) = (0, ap Some e)
  member_place x (y ∷ xs) (inr m) = let r = member_place x xs m in (suc r.0, r.1)

  pub member_get_or : (xs : List X) (i : ℕ) (d : X) → i < length xs → Member (get_or xs i d) xs
  member_get_or [] i d h = absurd (omega arith)
  member_get_or (x ∷ xs) zero d h = inl refl
  member_get_or (x ∷ xs) (suc i) d h = inr (member_get_or xs i d (omega arith))

  -- what was read at a place is a member
  pub member_read : (xs : List X) (i : ℕ) (x : X) → i < length xs → x ≡ get_or xs i x → Member x xs
  member_read xs i x lt read = subst (λ (y : X). Member y xs) (sym read) (member_get_or xs i x lt)

  -- what was read by one default is read by itself
  pub read_itself : (xs : List X) (i : ℕ) (d x : X) → i < length xs → x ≡ get_or xs i d → x ≡ get_or xs i x
  read_itself xs i d x lt read = read ∙ get_or_default xs i d x lt

pub number_tells : Tells eqb
number_tells = record { itself = λ n. eq-eqb n n refl; equal = eqb-true }

-- the place of a node
module _ {X : Type 0} (same : X → X → Bool) (tells : Tells same) where
  pub place_at : (x d : X) (xs : List X) → Member x xs → (place_of same x xs < length xs) × (get_or xs (place_of same x xs) d ≡ x)
  place_at x d [] m = absurd m
  place_at x d (y ∷ xs) m =
      (elim (same x y) as (λ b. same x y ≡ b → (cond b 0 (suc (place_of same x xs)) < length (y ∷ xs)) × (get_or (y ∷ xs) (cond b 0 (suc (place_of same x xs))) d ≡ x)) [
        | true ↦ λ t. (omega arith, sym (tells.equal x y t))
        | false ↦ λ f. elim m [
          | inl e ↦ absurd (both_ways (same x y) f (ap (same x) e ∙ tells.itself x))
          | inr n ↦ let r = place_at x d xs n in (omega (arith, r.0), r.1)
        ]
      ]) refl

  pub place_own : (x y : X) (xs : List X) → Member x xs → Member y xs → place_of same x xs ≡ place_of same y xs → x ≡ y
  place_own x y xs m n e = sym (place_at x x xs m).1 ∙ ap (λ i. get_or xs i x) e ∙ (place_at y x xs n).1

  pub at_place : (xs : List X) (i : ℕ) (d : X) → NoRepeat xs → i < length xs → place_of same (get_or xs i d) xs ≡ i
  at_place [] i d n h = absurd (omega arith)
  at_place (x ∷ xs) zero d n h = cond-true (same x x) 0 (suc (place_of same x xs)) (tells.itself x)
  at_place (x ∷ xs) (suc i) d n h =
      let y = get_or xs i d in
      let m : Member y xs = member_get_or xs i d (omega arith) in
      elim (cases_Bool (same y x)) [
        | inl t ↦ absurd (n.0 (subst (λ (v : X). Member v xs) (tells.equal y x t) m))
        | inr f ↦ cond-false (same y x) 0 (suc (place_of same y xs)) f ∙ ap suc (at_place xs i d n.1 (omega arith))
      ]

  pub first_place : (x : X) (xs rest : List X) → xs ≡ x ∷ rest → place_of same x xs ≡ 0
  first_place x xs rest e = ap (place_of same x) e ∙ cond-true (same x x) 0 (suc (place_of same x rest)) (tells.itself x)
