-- The states that a reduction keeps, by any test of which are apart: they are in order and apart, and stand for all others.
use Rattle.std.proofs.Common.{◌≡◌, ℕ, zero, suc, ◌<◌, ◌≤◌, Bool, true, false, cond, eqb, ◌⊎◌, List, [], ◌∷◌, ◌++◌, length, get_or, sym, refl, ap, ◌∙◌, subst, inl, inr, arith}
use Rattle.std.proofs.lemmas.List.{length-append}
use Rattle.std.proofs.lemmas.Bool.{cases_eq, cases_Bool, both_ways, cond-true, cond-false}
use Rattle.std.specs.List.{list_all}
use Rattle.guards.specs.Lists.{Member}
use Rattle.automata.specs.Reduction.{kept, class_of, KeptStates}
use Rattle.automata.specs.Search.{place_of}
use Rattle.automata.proofs.Members.{member_left, member_right, member_cases, every_each, not_every}
use Rattle.automata.proofs.Places.{member_get_or, number_tells, place_at}

-- each is lower than those after it, and apart from them
abbrev pub InOrder : (ℕ → ℕ → Bool) → List ℕ → Type 0
InOrder apart [] = Unit {0}
InOrder apart (x ∷ xs) = ((y : ℕ) → Member y xs → (x < y) × (apart x y ≡ true)) × InOrder apart xs

module _ (apart : ℕ → ℕ → Bool) where
  in_order_push : (ks : List ℕ) (i : ℕ) → InOrder apart ks → ((r : ℕ) → Member r ks → (r < i) × (apart r i ≡ true)) → InOrder apart (ks ++ (i ∷ []))
  in_order_push [] i o h = (λ y m. absurd m, tt)
  in_order_push (x ∷ ks) i o h = (
    λ y m. elim (member_cases y ks (i ∷ []) m) [
      | inl a ↦ o.0 y a
      | inr (inl e) ↦ subst (λ (v : ℕ). (x < v) × (apart x v ≡ true)) e (h x (inl refl))
      | inr (inr z) ↦ absurd z
    ],
    in_order_push ks i o.1 (λ r m. h r (inr m)),
  )

  in_order_pair : (ks : List ℕ) → InOrder apart ks → (r s : ℕ) → Member r ks → Member s ks → r < s → apart r s ≡ true
  in_order_pair [] o r s m n h = absurd m
  in_order_pair (x ∷ ks) o r s (inl e) (inl f) h = absurd (omega arith)
  in_order_pair (x ∷ ks) o r s (inl e) (inr n) h = subst (λ (v : ℕ). apart v s ≡ true) e (o.0 s n).1
  in_order_pair (x ∷ ks) o r s (inr m) (inl f) h = absurd (omega (arith, (o.0 r m).0))
  in_order_pair (x ∷ ks) o r s (inr m) (inr n) h = in_order_pair ks o.1 r s m n h

  in_order_first : (ks : List ℕ) → InOrder apart ks → Member 0 ks → get_or ks 0 0 ≡ 0
  in_order_first [] o m = absurd m
  in_order_first (x ∷ ks) o (inl e) = e
  in_order_first (x ∷ ks) o (inr m) = absurd (omega (arith, (o.0 0 m).0))

  pub in_order_at : (ks : List ℕ) → InOrder apart ks → (i j : ℕ) → i < j → j < length ks → apart (get_or ks i 0) (get_or ks j 0) ≡ true
  in_order_at [] o i j h l = absurd (omega arith)
  in_order_at (x ∷ ks) o i zero h l = absurd (omega arith)
  in_order_at (x ∷ ks) o zero (suc j) h l = (o.0 (get_or ks j 0) (member_get_or ks j 0 (omega arith))).1
  in_order_at (x ∷ ks) o (suc i) (suc j) h l = in_order_at ks o.1 i j (omega arith) (omega arith)

  -- the state i is kept, or it is not
  kept_cases : (i : ℕ) → ((list_all (λ r. apart r i) (kept apart i) ≡ true) × (kept apart (suc i) ≡ kept apart i ++ (i ∷ []))) ⊎ ((list_all (λ r. apart r i) (kept apart i) ≡ false) × (kept apart (suc i) ≡ kept apart i))
  unfolding kept
  kept_cases i = elim (cases_Bool (list_all (λ r. apart r i) (kept apart i))) [
    | inl t ↦ inl (t, cond-true (list_all (λ r. apart r i) (kept apart i)) (kept apart i ++ (i ∷ [])) (kept apart i) t)
    | inr f ↦ inr (f, cond-false (list_all (λ r. apart r i) (kept apart i)) (kept apart i ++ (i ∷ [])) (kept apart i) f)
  ]

  pub kept_below : (n r : ℕ) → Member r (kept apart n) → r < n
  unfolding kept
  kept_below zero r m = absurd m
  kept_below (suc n) r m = elim (kept_cases n) [
    | inl c ↦ elim (member_cases r (kept apart n) (n ∷ []) (subst (λ (ks : List ℕ). Member r ks) c.1 m)) [
      | inl a ↦ omega (arith, kept_below n r a)
      | inr (inl e) ↦ omega arith
      | inr (inr z) ↦ absurd z
    ]
    | inr c ↦ omega (arith, kept_below n r (subst (λ (ks : List ℕ). Member r ks) c.1 m))
  ]

  pub kept_order : (n : ℕ) → InOrder apart (kept apart n)
  unfolding kept
  kept_order zero = tt
  kept_order (suc n) = elim (kept_cases n) [
    | inl c ↦ subst (InOrder apart) (sym c.1) (in_order_push (kept apart n) n (kept_order n) (λ r m. (kept_below n r m, every_each (λ r. apart r n) r (kept apart n) c.0 m)))
    | inr c ↦ subst (InOrder apart) (sym c.1) (kept_order n)
  ]

  pub kept_few : (n : ℕ) → length (kept apart n) ≤ n
  unfolding kept
  kept_few zero = omega arith
  kept_few (suc n) = elim (kept_cases n) [
    | inl c ↦ omega (arith, kept_few n, ap length c.1, length-append (kept apart n) (n ∷ []))
    | inr c ↦ omega (arith, kept_few n, ap length c.1)
  ]

  -- the class of a state from which some state of the list is not apart
  pub class_near : (ks : List ℕ) (q r : ℕ) → Member r ks → apart r q ≡ false → (class_of apart ks q < length ks) × (apart (get_or ks (class_of apart ks q) 0) q ≡ false)
  class_near [] q r m h = absurd m
  class_near (x ∷ ks) q r m h =
      (elim (apart x q) as (λ b. apart x q ≡ b → (cond b (suc (class_of apart ks q)) 0 < length (x ∷ ks)) × (apart (get_or (x ∷ ks) (cond b (suc (class_of apart ks q)) 0) 0) q ≡ false)) [
        | true ↦ λ t. elim m [
          | inl e ↦ absurd (both_ways (apart r q) h (subst (λ (v : ℕ). apart v q ≡ true) e t))
          | inr n ↦ let i = class_near ks q r n h in (omega (arith, i.0), i.1)
        ]
        | false ↦ λ f. (omega arith, f)
      ]) refl

  module _ (itself : (q : ℕ) → apart q q ≡ false) where
    -- each state has a kept one at or below it from which it is not apart
    kept_near : (n q : ℕ) → q < n → (r : ℕ) × Member r (kept apart n) × (r < suc q) × (apart r q ≡ false)
    kept_near zero q h = absurd (omega arith)
    kept_near (suc n) q h = elim (cases_eq q n) [
      | inr other ↦
          let r = kept_near n q (omega arith) in
          let into : Member r.0 (kept apart (suc n)) = elim (kept_cases n) [
            | inl c ↦ subst (λ (ks : List ℕ). Member r.0 ks) (sym c.1) (member_left r.0 (kept apart n) (n ∷ []) r.1)
            | inr c ↦ subst (λ (ks : List ℕ). Member r.0 ks) (sym c.1) r.1
          ] in
          (r.0, into, r.2, r.3)
      | inl e ↦ subst (λ (v : ℕ). (r : ℕ) × Member r (kept apart (suc n)) × (r < suc v) × (apart r v ≡ false)) (sym e) (elim (kept_cases n) [
        | inl c ↦ (n, subst (λ (ks : List ℕ). Member n ks) (sym c.1) (member_right n (kept apart n) (n ∷ []) (inl refl)), omega arith, itself n)
        | inr c ↦
            let r = not_every (λ r. apart r n) (kept apart n) c.0 in
            (r.0, subst (λ (ks : List ℕ). Member r.0 ks) (sym c.1) r.1, omega (arith, kept_below n r.0 r.1), r.2)
      ])
    ]

    pub kept_states : (n : ℕ) → KeptStates apart n (kept apart n)
    kept_states n = record { below = kept_below n; pairwise = in_order_pair (kept apart n) (kept_order n); each = kept_near n }

    -- a kept state is the first of its class
    class_at : (ks : List ℕ) → InOrder apart ks → (j : ℕ) → j < length ks → class_of apart ks (get_or ks j 0) ≡ j
    class_at [] o j h = absurd (omega arith)
    class_at (x ∷ ks) o zero h = cond-false (apart x x) (suc (class_of apart ks x)) 0 (itself x)
    class_at (x ∷ ks) o (suc j) h =
        let y = get_or ks j 0 in
        let l : j < length ks = omega arith in
        cond-true (apart x y) (suc (class_of apart ks y)) 0 (o.0 y (member_get_or ks j 0 l)).1 ∙ ap suc (class_at ks o.1 j l)

    module _ (n : ℕ) where
      pub class_in : (q : ℕ) → q < n → class_of apart (kept apart n) q < length (kept apart n)
      class_in q h = let r = kept_near n q h in (class_near (kept apart n) q r.0 r.1 r.3).0

      pub class_first : (q : ℕ) → q < n → apart (get_or (kept apart n) (class_of apart (kept apart n) q) 0) q ≡ false
      class_first q h = let r = kept_near n q h in (class_near (kept apart n) q r.0 r.1 r.3).1

      pub class_kept : (j : ℕ) → j < length (kept apart n) → class_of apart (kept apart n) (get_or (kept apart n) j 0) ≡ j
      class_kept = class_at (kept apart n) (kept_order n)

      -- a kept state is read back at its class
      pub kept_class : (r : ℕ) → Member r (kept apart n) → get_or (kept apart n) (class_of apart (kept apart n) r) 0 ≡ r
      kept_class r m =
          let ks = kept apart n in
          let i = place_at eqb number_tells r 0 ks m in
          ap (λ j. get_or ks j 0) (ap (class_of apart ks) (sym i.1) ∙ class_kept (place_of eqb r ks) i.0) ∙ i.1

      -- state 0 is kept first
      pub first_kept : 0 < n → get_or (kept apart n) 0 0 ≡ 0
      first_kept h = let r = kept_near n 0 h in in_order_first (kept apart n) (kept_order n) (subst (λ (v : ℕ). Member v (kept apart n)) (omega arith) r.1)
