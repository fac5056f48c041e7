-- Members of lists, lists without repeats, and the pigeonhole.
use Rattle.std.proofs.Common.{◌≡◌, ℕ, zero, suc, ◌+◌, ◌<◌, ◌≤◌, Bool, true, false, cond, ◌||◌, ltb, ◌⊎◌, List, [], ◌∷◌, ◌++◌, map, length, count_by, filter, sym, refl, ap, ◌∙◌, subst, inl, inr, arith}
use Rattle.std.specs.List.{flat_map as joined, list_all, list_any}
use Rattle.std.proofs.lemmas.List.{length-map}
use Rattle.std.proofs.lemmas.Bool.{cases_eq, or_cases, or_left, or_right, and_parts, and_from, and_cases, both_ways, true≢false, false≢true, or_from, or_parts, lt-ltb}
use Rattle.guards.specs.Lists.{Member, is_some}
use Rattle.guards.specs.Counting.{count_cons}
use Rattle.automata.specs.Search.{NoRepeat}

module _ {X : Type 0} where
  pub member_left : (x : X) (xs ys : List X) → Member x xs → Member x (xs ++ ys)
  member_left x [] ys m = absurd m
  member_left x (y ∷ xs) ys (inl e) = inl e
  member_left x (y ∷ xs) ys (inr m) = inr (member_left x xs ys m)

  pub member_right : (x : X) (xs ys : List X) → Member x ys → Member x (xs ++ ys)
  member_right x [] ys m = m
  member_right x (y ∷ xs) ys m = inr (member_right x xs ys m)

  pub member_cases : (x : X) (xs ys : List X) → Member x (xs ++ ys) → Member x xs ⊎ Member x ys
  member_cases x [] ys m = inr m
  member_cases x (y ∷ xs) ys (inl e) = inl (inl e)
  member_cases x (y ∷ xs) ys (inr m) = elim (member_cases x xs ys m) [ inl a ↦ inl (inr a) | inr b ↦ inr b ]

  pub member_some : (x : X) (xs : List X) → Member x xs → is_some xs ≡ true
  member_some x [] m = absurd m
  member_some x (y ∷ xs) m = refl

  pub some_member : (xs : List X) → is_some xs ≡ true → (x : X) × Member x xs
  some_member [] h = absurd (false≢true h)
  some_member (x ∷ xs) h = (x, inl refl)

  pub no_repeat_push : (xs : List X) (y : X) → NoRepeat xs → (Member y xs → ⊥) → NoRepeat (xs ++ (y ∷ []))
  no_repeat_push [] y n new = (λ m. m, tt)
  no_repeat_push (x ∷ xs) y n new = (
    λ m. elim (member_cases x xs (y ∷ []) m) [ inl a ↦ n.0 a | inr b ↦ elim b [ inl e ↦ new (inl (sym e)) | inr z ↦ z ] ],
    no_repeat_push xs y n.1 (λ m. new (inr m)),
  )

  -- the list without the member x
  without : (x : X) (ys : List X) → Member x ys → List X
  without x [] m = absurd m
  without x (y ∷ ys) (inl e) = ys
  without x (y ∷ ys) (inr m) = y ∷ without x ys m

  length_without : (x : X) (ys : List X) (m : Member x ys) → length ys ≡ suc (length (without x ys m))
  unfolding without
  length_without x [] m = absurd m
  length_without x (y ∷ ys) (inl e) = refl
  length_without x (y ∷ ys) (inr m) = ap suc (length_without x ys m)

  member_without : (x z : X) (ys : List X) (m : Member x ys) → (x ≡ z → ⊥) → Member z ys → Member z (without x ys m)
  unfolding without
  member_without x z [] m other k = absurd m
  member_without x z (y ∷ ys) (inl e) other (inl f) = absurd (other (sym e ∙ f))
  member_without x z (y ∷ ys) (inl e) other (inr k) = k
  member_without x z (y ∷ ys) (inr m) other (inl f) = inl f
  member_without x z (y ∷ ys) (inr m) other (inr k) = inr (member_without x z ys m other k)

  -- a list without repeats is no longer than one that has all its members
  pub pigeonhole : (xs ys : List X) → NoRepeat xs → ((x : X) → Member x xs → Member x ys) → length xs ≤ length ys
  pigeonhole [] ys n within = omega arith
  pigeonhole (x ∷ xs) ys n within =
      let m : Member x ys = within x (inl refl) in
      let rest : (z : X) → Member z xs → Member z (without x ys m) = λ z k. member_without x z ys m (λ e. n.0 (rw e k)) (within z (inr k)) in
      omega (arith, length_without x ys m, pigeonhole xs (without x ys m) n.1 rest)

module _ {X Y : Type 0} (f : X → Y) where
  pub member_map : (x : X) (xs : List X) → Member x xs → Member (f x) (map f xs)
  member_map x [] m = absurd m
  member_map x (y ∷ xs) (inl e) = inl (ap f e)
  member_map x (y ∷ xs) (inr m) = inr (member_map x xs m)

  pub map_member : (y : Y) (xs : List X) → Member y (map f xs) → (x : X) × Member x xs × (f x ≡ y)
  map_member y [] m = absurd m
  map_member y (x ∷ xs) (inl e) = (x, inl refl, e)
  map_member y (x ∷ xs) (inr m) = let r = map_member y xs m in (r.0, inr r.1, r.2)

  pub no_repeat_map : (xs : List X) → NoRepeat xs → ((x z : X) → Member x xs → Member z xs → f x ≡ f z → x ≡ z) → NoRepeat (map f xs)
  no_repeat_map [] n apart = tt
  no_repeat_map (x ∷ xs) n apart = (
    λ m. let r = map_member (f x) xs m in n.0 (subst (λ (v : X). Member v xs) (apart r.0 x (inr r.1) (inl refl) r.2) r.1),
    no_repeat_map xs n.1 (λ u v a b e. apart u v (inr a) (inr b) e),
  )

module _ {X Y : Type 0} (f : X → List Y) where
  pub member_joined : (x : X) (y : Y) (xs : List X) → Member x xs → Member y (f x) → Member y (joined f xs)
  member_joined x y [] m k = absurd m
  member_joined x y (z ∷ xs) (inl e) k = member_left y (f z) (joined f xs) (rw e k)
  member_joined x y (z ∷ xs) (inr m) k = member_right y (f z) (joined f xs) (member_joined x y xs m k)

  pub joined_member : (y : Y) (xs : List X) → Member y (joined f xs) → (x : X) × Member x xs × Member y (f x)
  joined_member y [] m = absurd m
  joined_member y (x ∷ xs) m =
      elim (member_cases y (f x) (joined f xs) m) [ inl a ↦ (x, inl refl, a) | inr b ↦ let r = joined_member y xs b in (r.0, inr r.1, r.2) ]

module _ {X : Type 0} (test : X → Bool) where
  pub member_kept : (x : X) (xs : List X) → Member x xs → test x ≡ true → Member x (filter test xs)
  member_kept x [] m t = absurd m
  member_kept x (y ∷ xs) m t =
      (elim (test y) as (λ b. test y ≡ b → Member x (cond b (y ∷ filter test xs) (filter test xs))) [
        | true ↦ λ h. elim m [ inl e ↦ inl e | inr n ↦ inr (member_kept x xs n t) ]
        | false ↦ λ h. elim m [ inl e ↦ absurd (both_ways (test y) h (ap test e ∙ t)) | inr n ↦ member_kept x xs n t ]
      ]) refl

  pub kept_member : (x : X) (xs : List X) → Member x (filter test xs) → Member x xs × (test x ≡ true)
  kept_member x [] m = absurd m
  kept_member x (y ∷ xs) m =
      (elim (test y) as (λ b. test y ≡ b → Member x (cond b (y ∷ filter test xs) (filter test xs)) → Member x (y ∷ xs) × (test x ≡ true)) [
        | true ↦ λ h k. elim k [ inl e ↦ (inl e, ap test (sym e) ∙ h) | inr n ↦ let r = kept_member x xs n in (inr r.0, r.1) ]
        | false ↦ λ h k. let r = kept_member x xs k in (inr r.0, r.1)
      ]) refl m

  pub none_any : (xs : List X) → ((x : X) → Member x xs → test x ≡ false) → list_any test xs ≡ false
  none_any [] h = refl
  none_any (x ∷ xs) h = or_from (test x) (list_any test xs) (h x (inl refl)) (none_any xs (λ y m. h y (inr m)))

  pub none_each : (x : X) (xs : List X) → list_any test xs ≡ false → Member x xs → test x ≡ false
  none_each x [] h m = absurd m
  none_each x (y ∷ xs) h (inl e) = ap test (sym e) ∙ (or_parts (test y) (list_any test xs) h).0
  none_each x (y ∷ xs) h (inr m) = none_each x xs (or_parts (test y) (list_any test xs) h).1 m

  pub any_some : (xs : List X) → list_any test xs ≡ true → (x : X) × Member x xs × (test x ≡ true)
  any_some [] h = absurd (false≢true h)
  any_some (x ∷ xs) h =
      elim (or_cases (test x) (list_any test xs) h) [ inl a ↦ (x, inl refl, a) | inr b ↦ let r = any_some xs b in (r.0, inr r.1, r.2) ]

  pub some_any : (x : X) (xs : List X) → Member x xs → test x ≡ true → list_any test xs ≡ true
  some_any x [] m h = absurd m
  some_any x (y ∷ xs) (inl e) h = or_left (test y) (list_any test xs) (ap test e ∙ h)
  some_any x (y ∷ xs) (inr m) h = or_right (test y) (list_any test xs) (some_any x xs m h)

  pub any_counted : (xs : List X) → list_any test xs ≡ ltb 0 (count_by test xs)
  any_counted [] = refl
  any_counted (x ∷ xs) =
      rw (count_cons test x xs) (elim (test x) as (λ b. (b || list_any test xs) ≡ ltb 0 (cond b 1 0 + count_by test xs)) [
        | true ↦ sym (lt-ltb 0 (1 + count_by test xs) (omega arith))
        | false ↦ any_counted xs ∙ ap (ltb 0) (omega arith)
      ])

  pub every_each : (x : X) (xs : List X) → list_all test xs ≡ true → Member x xs → test x ≡ true
  every_each x [] h m = absurd m
  every_each x (y ∷ xs) h (inl e) = ap test (sym e) ∙ (and_parts (test y) (list_all test xs) h).0
  every_each x (y ∷ xs) h (inr m) = every_each x xs (and_parts (test y) (list_all test xs) h).1 m

  pub each_every : (xs : List X) → ((x : X) → Member x xs → test x ≡ true) → list_all test xs ≡ true
  each_every [] h = refl
  each_every (y ∷ xs) h = and_from (test y) (list_all test xs) (h y (inl refl)) (each_every xs (λ x m. h x (inr m)))

  pub not_every : (xs : List X) → list_all test xs ≡ false → (x : X) × Member x xs × (test x ≡ false)
  not_every [] h = absurd (true≢false h)
  not_every (x ∷ xs) h =
      elim (and_cases (test x) (list_all test xs) h) [ inl a ↦ (x, inl refl, a) | inr b ↦ let r = not_every xs b in (r.0, inr r.1, r.2) ]

-- the numbers below n, the highest first
abbrev pub below : ℕ → List ℕ
below zero = []
below (suc n) = n ∷ below n

pub length_below : (n : ℕ) → length (below n) ≡ n
length_below zero = refl
length_below (suc n) = ap suc (length_below n)

pub member_below : (i n : ℕ) → i < n → Member i (below n)
member_below i zero h = absurd (omega arith)
member_below i (suc n) h = elim (cases_eq i n) [ inl e ↦ inl (sym e) | inr d ↦ inr (member_below i n (omega arith)) ]

pub below_member : (i n : ℕ) → Member i (below n) → i < n
below_member i zero m = absurd m
below_member i (suc n) (inl e) = omega arith
below_member i (suc n) (inr m) = omega (arith, below_member i n m)

pub no_repeat_below : (n : ℕ) → NoRepeat (below n)
no_repeat_below zero = tt
no_repeat_below (suc n) = (λ m. omega (arith, below_member n n m), no_repeat_below n)

-- an injection from the numbers below n into the members of a list
pub injection : {X : Type 0} (n : ℕ) (xs : List X) (f : ℕ → X) → ((i : ℕ) → i < n → Member (f i) xs) → ((i j : ℕ) → i < n → j < n → f i ≡ f j → i ≡ j) → n ≤ length xs
injection {X} n xs f into apart =
    let once = no_repeat_map f (below n) (no_repeat_below n) (λ i j a b e. apart i j (below_member i n a) (below_member j n b) e) in
    let within : (x : X) → Member x (map f (below n)) → Member x xs =
    λ x m. let r = map_member f x (below n) m in subst (λ (v : X). Member v xs) r.2 (into r.0 (below_member r.0 n r.1)) in
    omega (arith, length-map (below n) f, length_below n, pigeonhole (map f (below n)) xs once within)

-- an injection from the numbers below n into the numbers below m
pub injection_below : (n m : ℕ) (f : ℕ → ℕ) → ((i : ℕ) → i < n → f i < m) → ((i j : ℕ) → i < n → j < n → f i ≡ f j → i ≡ j) → n ≤ m
injection_below n m f into apart = omega (arith, length_below m, injection n (below m) f (λ i h. member_below (f i) m (into i h)) apart)
