-- Breadth-first search finds each node that is reached once, and nothing else; and the steps of its loop.
use Rattle.std.proofs.Common.{◌≡◌, ℕ, zero, suc, ◌+◌, ◌<◌, ◌≤◌, Bool, ◌⊎◌, List, [], ◌∷◌, ◌++◌, length, get_or, drop, sym, refl, ap, ◌∙◌, subst, inl, inr, add-one, arith}
use Rattle.std.proofs.lemmas.List.{append-nil, append_assoc, length-append, length_push, nil_from_length, drop_at, drop_all}
use Rattle.std.proofs.lemmas.Bool.{cases_Bool, both_ways, cond-true, cond-false}
use Rattle.std.specs.List.{list_any}
use Rattle.guards.specs.Lists.{Member}
use Rattle.automata.specs.Search.{Tells, add, add_all, visit_next, visit, reached, NoRepeat, Reaches, Searched}
use Rattle.automata.specs.Search.Reaches.{itself, after}
use Rattle.automata.proofs.Loops.{at_read_more}
use Rattle.automata.proofs.Members.{member_left, member_right, member_cases, no_repeat_push, pigeonhole, any_some, some_any}

-- the visits: over where no node is left, and one node in turn
module _ {X : Type 0} (same : X → X → Bool) (successors : X → List X) where
  pub visit_done : (fuel i : ℕ) (found : List X) → length found ≤ i → visit same successors fuel i found ≡ found
  unfolding visit
  visit_done zero i found h = refl
  visit_done (suc fuel) i found h = ap (λ rest. visit_next same successors rest (visit same successors fuel (suc i)) found) (drop_all i found h)

  pub visit_step : (fuel less i : ℕ) (found : List X) (x : X) → fuel ≡ suc less → i < length found → x ≡ get_or found i x →
      visit same successors fuel i found ≡ visit same successors less (i + 1) (add_all same found (successors x))
  unfolding visit
  visit_step fuel less i found x e lt read =
      ap (λ (n : ℕ). visit same successors n i found) e
      ∙ rw add-one (at_read_more (λ rest. visit_next same successors rest (visit same successors less (suc i)) found) found i x lt read)

  -- fuel that suffices gives the same as more of it
  pub visit_enough : (fuel more i : ℕ) (found : List X) → fuel ≤ more → length (visit same successors fuel i found) ≤ i + fuel →
      visit same successors more i found ≡ visit same successors fuel i found
  unfolding visit
  visit_enough zero more i found le h = visit_done more i found (omega arith)
  visit_enough (suc fuel) zero i found le h = absurd (omega arith)
  visit_enough (suc fuel) (suc more) i found le h = by_rest (drop i found) (λ all. visit_enough fuel more (suc i) all (omega arith)) h
    where
      by_rest : (rest : List X) → ((all : List X) → length (visit same successors fuel (suc i) all) ≤ suc i + fuel → visit same successors more (suc i) all ≡ visit same successors fuel (suc i) all) →
          length (visit_next same successors rest (visit same successors fuel (suc i)) found) ≤ i + suc fuel →
          visit_next same successors rest (visit same successors more (suc i)) found ≡ visit_next same successors rest (visit same successors fuel (suc i)) found
      by_rest [] ih h = refl
      by_rest (x ∷ rest) ih h = ih (add_all same found (successors x)) (omega arith)

module _ {X : Type 0} (same : X → X → Bool) (tells : Tells same) where
  add_cases : (found : List X) (y : X) → (Member y found × (add same found y ≡ found)) ⊎ ((Member y found → ⊥) × (add same found y ≡ found ++ (y ∷ [])))
  add_cases found y = elim (cases_Bool (list_any (same y) found)) [
    | inl t ↦ let r = any_some (same y) found t in inl (rw (tells.equal y r.0 r.2) r.1, cond-true (list_any (same y) found) found (found ++ (y ∷ [])) t)
    | inr f ↦ inr (λ m. both_ways (list_any (same y) found) f (some_any (same y) y found m (tells.itself y)), cond-false (list_any (same y) found) found (found ++ (y ∷ [])) f)
  ]

  -- the new nodes stand behind those found
  pub add_all_begins : (found ys : List X) → (zs : List X) × (add_all same found ys ≡ found ++ zs)
  add_all_begins found [] = ([], sym (append-nil found))
  add_all_begins found (y ∷ ys) =
      let r = add_all_begins (add same found y) ys in
      elim (add_cases found y) [
        | inl c ↦ (r.0, r.1 ∙ ap (λ (v : List X). v ++ r.0) c.1)
        | inr c ↦ (y ∷ r.0, r.1 ∙ ap (λ (v : List X). v ++ r.0) c.1 ∙ append_assoc found (y ∷ []) r.0)
      ]

  pub add_all_has : (found ys : List X) (y : X) → Member y ys → Member y (add_all same found ys)
  add_all_has found [] y m = absurd m
  add_all_has found (x ∷ ys) y (inr m) = add_all_has (add same found x) ys y m
  add_all_has found (x ∷ ys) y (inl e) =
      let r = add_all_begins (add same found x) ys in
      rw r.1 (member_left y (add same found x) r.0 (elim (add_cases found x) [
        | inl c ↦ rw c.1 (rw e at c.0)
        | inr c ↦ rw c.1 (member_right y found (x ∷ []) (inl e))
      ]))

  pub add_all_only : (found ys : List X) (y : X) → Member y (add_all same found ys) → Member y found ⊎ Member y ys
  add_all_only found [] y m = inl m
  add_all_only found (x ∷ ys) y m = elim (add_all_only (add same found x) ys y m) [
    | inr b ↦ inr (inr b)
    | inl a ↦ elim (add_cases found x) [
      | inl c ↦ inl (rw c.1 at a)
      | inr c ↦ elim (member_cases y found (x ∷ []) (rw c.1 at a)) [ inl p ↦ inl p | inr q ↦ elim q [ inl e ↦ inr (inl e) | inr z ↦ absurd z ] ]
    ]
  ]

  pub add_all_once : (found ys : List X) → NoRepeat found → NoRepeat (add_all same found ys)
  add_all_once found [] n = n
  add_all_once found (y ∷ ys) n =
      add_all_once (add same found y) ys (elim (add_cases found y) [ inl c ↦ rw c.1 n | inr c ↦ rw c.1 (no_repeat_push found y n c.0) ])

  module _ (successors : X → List X) where
    -- what is found stays in front
    pub visit_begins : (fuel i : ℕ) (found : List X) → (zs : List X) × (visit same successors fuel i found ≡ found ++ zs)
    unfolding visit
    visit_begins zero i found = ([], sym (append-nil found))
    visit_begins (suc fuel) i found = by_rest (drop i found) (visit_begins fuel (suc i))
      where
        by_rest : (rest : List X) → ((all : List X) → (zs : List X) × (visit same successors fuel (suc i) all ≡ all ++ zs)) →
            (zs : List X) × (visit_next same successors rest (visit same successors fuel (suc i)) found ≡ found ++ zs)
        by_rest [] ih = ([], sym (append-nil found))
        by_rest (x ∷ rest) ih =
            let a = add_all_begins found (successors x) in
            let r = ih (add_all same found (successors x)) in
            (a.0 ++ r.0, r.1 ∙ ap (λ (v : List X). v ++ r.0) a.1 ∙ append_assoc found a.0 r.0)

-- what has been found while the nodes of `done` have been visited
record Searching {X : Type 0} (successors : X → List X) (x : X) (done found : List X) : Type 0 where
  first : (rest : List X) × (found ≡ x ∷ rest)
  once : NoRepeat found
  closed : (y z : X) → Member y done → Member z (successors y) → Member z found
  only : (y : X) → Member y found → Reaches successors x y

-- U is closed under successors
module _ {X : Type 0} (same : X → X → Bool) (tells : Tells same) (successors : X → List X) (U : List X) (inside : (y z : X) → Member y U → Member z (successors y) → Member z U) (x : X) (x_in : Member x U) where
  reaches_in : (y : X) → Reaches successors x y → Member y U
  reaches_in y itself = x_in
  reaches_in z (after {y} r m) = inside y z (reaches_in y r) m

  -- one node visited
  searching_more : (done found : List X) (y : X) → Member y found → Searching successors x done found → Searching successors x (done ++ (y ∷ [])) (add_all same found (successors y))
  searching_more done found y m s =
      let a = add_all_begins same tells found (successors y) in
      record {
        first = (s.first.0 ++ a.0, a.1 ∙ ap (λ (v : List X). v ++ a.0) s.first.1);
        once = add_all_once same tells found (successors y) s.once;
        closed = λ u z k l. elim (member_cases u done (y ∷ []) k) [
          | inl b ↦ rw a.1 (member_left z found a.0 (s.closed u z b l))
          | inr b ↦ elim b [ inl e ↦ add_all_has same tells found (successors y) z (rw e l) | inr n ↦ absurd n ]
        ];
        only = λ z k. elim (add_all_only same tells found (successors y) z k) [ inl b ↦ s.only z b | inr b ↦ after (s.only y m) b ];
      }

  -- all visited
  searching_all : (done rest found : List X) → found ≡ done ++ rest → rest ≡ [] → Searching successors x done found → Searched successors x found
  searching_all done rest found e none s = record {
    first = s.first;
    once = s.once;
    closed = λ y z m k. s.closed y z (subst (λ (v : List X). Member y v) (e ∙ ap (λ (v : List X). done ++ v) none ∙ append-nil done) m) k;
    only = s.only;
  }

  visit_searched : (fuel i : ℕ) (done rest found : List X) → found ≡ done ++ rest → length done ≡ i → length U ≤ fuel + i → Searching successors x done found → Searched successors x (visit same successors fuel i found)
  unfolding visit
  visit_searched zero i done rest found e l f s =
      let short = pigeonhole found U s.once (λ y m. reaches_in y (s.only y m)) in
      searching_all done rest found e (nil_from_length rest (omega (arith, length-append done rest, ap length e))) s
  visit_searched (suc fuel) i done [] found e l f s =
      rw (ap (drop i) e ∙ drop_at done [] i l) (searching_all done [] found e refl s)
  visit_searched (suc fuel) i done (y ∷ rest) found e l f s =
      let a = add_all_begins same tells found (successors y) in
      rw (ap (drop i) e ∙ drop_at done (y ∷ rest) i l)
      (visit_searched fuel (suc i) (done ++ (y ∷ [])) (rest ++ a.0) (add_all same found (successors y))
      (a.1 ∙ ap (λ (v : List X). v ++ a.0) e ∙ append_assoc done (y ∷ rest) a.0 ∙ sym (append_assoc done (y ∷ []) (rest ++ a.0)))
      (omega (arith, length_push done y)) (omega arith) (searching_more done found y (rw e (member_right y done (y ∷ rest) (inl refl))) s))

  pub reached_searched : (fuel : ℕ) → length U ≤ fuel → Searched successors x (reached same successors fuel x)
  reached_searched fuel f =
      visit_searched fuel 0 [] (x ∷ []) (x ∷ []) refl refl (omega arith) (record {
        first = ([], refl);
        once = (λ m. m, tt);
        closed = λ y z m k. absurd m;
        only = λ y m. elim m [ inl e ↦ subst (λ (v : X). Reaches successors x v) e itself | inr n ↦ absurd n ];
      })

  -- more fuel changes nothing
  pub reached_enough : (fuel more : ℕ) → length U ≤ fuel → fuel ≤ more → reached same successors more x ≡ reached same successors fuel x
  reached_enough fuel more f le =
      let s = reached_searched fuel f in
      let short = pigeonhole (reached same successors fuel x) U s.once (λ y m. reaches_in y (s.only y m)) in
      visit_enough same successors fuel more 0 (x ∷ []) le (omega arith)
