-- Rounds of separation on any table: what separates two states in a round, either way round, and in one round at most.
use Rattle.std.proofs.Common.{◌≡◌, ℕ, zero, suc, ◌<◌, ◌≤◌, true, false, cond, not, ◌&&◌, ◌||◌, eqb, is_some, Some, None, sym, refl, ap, ◌∙◌, subst, ap₂, inl, inr, arith}
use Rattle.std.proofs.lemmas.Bool.{cases_eq, cases_lt, cases_Bool, eqb-false, ne_eqb, and_parts, and_from, both_ways, or_cases, or_left, or_right, false≢true, not-true, not_from_false, cond-true, cond-false}
use Rattle.std.proofs.lemmas.Bool.Decides.{same_from_decides, Decides-eqb}
use Rattle.guards.specs.Algebra.{Model, Laws}
use Rattle.guards.specs.Lists.{Member}
use Rattle.automata.specs.Machine.{Machine}
use Rattle.automata.specs.Rounds.{differ, some_fit, round, separated, separated_below, round_of}
use Rattle.automata.specs.declared.moves.Move.{Move}
use Rattle.automata.proofs.Fitting.{differ_swap, FitMoves, Fit, some_fit_moves, fit_decides, some_fit_swap}

eqb_swap : (p q : ℕ) → eqb p q ≡ eqb q p
eqb_swap p q = let d = Decides-eqb q p in same_from_decides (eqb p q) (eqb q p) (Decides-eqb p q) (λ h. sym (d.0 h), λ e. d.1 (sym e))

module _ {E G : Type 0} (alg : Model E G) (M : Machine G) where
  -- separated below k: in one of the rounds below k
  pub below_some : (k p q : ℕ) → separated_below alg M k p q ≡ true → (j : ℕ) × (j < k) × (separated alg M j p q ≡ true)
  unfolding round
  below_some zero p q h = absurd (false≢true h)
  below_some (suc k) p q h = elim (or_cases (separated_below alg M k p q) (separated alg M k p q) h) [
    | inl a ↦ let r = below_some k p q a in (r.0, omega arith, r.2)
    | inr b ↦ (k, omega arith, b)
  ]

  pub some_below : (k j p q : ℕ) → j < k → separated alg M j p q ≡ true → separated_below alg M k p q ≡ true
  unfolding round
  some_below zero j p q h s = absurd (omega arith)
  some_below (suc k) j p q h s = elim (cases_eq j k) [
    | inl e ↦ or_right (separated_below alg M k p q) (separated alg M k p q) (subst (λ (i : ℕ). separated alg M i p q ≡ true) e s)
    | inr n ↦ or_left (separated_below alg M k p q) (separated alg M k p q) (some_below k j p q (omega arith) s)
  ]

  pub none_below : (k p q : ℕ) → ((j : ℕ) → j < k → separated alg M j p q ≡ false) → separated_below alg M k p q ≡ false
  none_below k p q none = elim (cases_Bool (separated_below alg M k p q)) [
    | inl t ↦ let j = below_some k p q t in absurd (both_ways (separated alg M j.0 p q) (none j.0 j.1) j.2)
    | inr f ↦ f
  ]

  pub below_none : (k j p q : ℕ) → j < k → separated_below alg M k p q ≡ false → separated alg M j p q ≡ false
  below_none k j p q h none = elim (cases_Bool (separated alg M j p q)) [
    | inl t ↦ absurd (both_ways (separated_below alg M k p q) none (some_below k j p q h t))
    | inr f ↦ f
  ]

  pub below_more : (j k p q : ℕ) → j ≤ k → separated_below alg M j p q ≡ true → separated_below alg M k p q ≡ true
  below_more j k p q h s = let r = below_some j p q s in some_below k r.0 p q (omega arith) r.2

  -- in one round at most
  pub separated_new : (k p q : ℕ) → separated alg M k p q ≡ true → separated_below alg M k p q ≡ false
  unfolding round
  separated_new zero p q s = refl
  separated_new (suc k) p q s = not-true _ (and_parts _ _ (and_parts _ _ s).1).0

  pub separated_once : (j k p q : ℕ) → separated alg M j p q ≡ true → separated alg M k p q ≡ true → j ≡ k
  separated_once j k p q s t = elim (cases_lt j k) [
    | inl h ↦ absurd (both_ways (separated_below alg M k p q) (separated_new k p q t) (some_below k j p q h s))
    | inr h ↦ elim (cases_eq j k) [
      | inl e ↦ e
      | inr n ↦ absurd (both_ways (separated_below alg M j p q) (separated_new j p q s) (some_below j k p q (omega arith) t))
    ]
  ]

  -- never a state from itself
  pub separated_other : (k p q : ℕ) → separated alg M k p q ≡ true → p ≡ q → ⊥
  unfolding round
  separated_other zero p q s = eqb-false p q (not-true _ (and_parts _ _ s).0)
  separated_other (suc k) p q s = eqb-false p q (not-true _ (and_parts _ _ s).0)

  pub below_itself : (k q : ℕ) → separated_below alg M k q q ≡ false
  below_itself k q = none_below k q q (λ j h. elim (cases_Bool (separated alg M j q q)) [ inl t ↦ absurd (separated_other j q q t refl) | inr f ↦ f ])

  -- in round 0 by the endings
  pub separated_endings : (p q : ℕ) → separated alg M 0 p q ≡ true → differ (M.endings p) (M.endings q) ≡ true
  unfolding round
  separated_endings p q s = (and_parts _ _ s).1

  pub endings_separated : (p q : ℕ) → (p ≡ q → ⊥) → differ (M.endings p) (M.endings q) ≡ true → separated alg M 0 p q ≡ true
  unfolding round
  endings_separated p q n d = and_from _ _ (not_from_false _ (ne_eqb p q n)) d

  -- in a later round by moves to states that are separated in the round before
  separated_fits : (k p q : ℕ) → separated alg M (suc k) p q ≡ true → some_fit alg M.moves (separated alg M k) p q ≡ true
  unfolding round
  separated_fits k p q s =
      let f = some_fit alg M.moves (separated alg M k) p q in
      let new = not (separated_below alg M k p q || separated alg M k p q) in
      (and_parts new f (and_parts (not (eqb p q)) (new && f) s).1).1

  pub separated_moves : (k p q : ℕ) → separated alg M (suc k) p q ≡ true → (u : Move G) × (v : Move G) × Member u M.moves × Member v M.moves × FitMoves alg (separated alg M k) p q u v
  separated_moves k p q s = some_fit_moves alg (separated alg M k) p q M.moves (separated_fits k p q s)

  -- the round of two states
  pub round_of_is : (n k p q : ℕ) → k < n → separated alg M k p q ≡ true → round_of alg M n p q ≡ Some k
  unfolding round_of
  round_of_is zero k p q h s = absurd (omega arith)
  round_of_is (suc n) k p q h s = elim (cases_Bool (separated alg M n p q)) [
    | inl t ↦ cond-true (separated alg M n p q) (Some n) (round_of alg M n p q) t ∙ ap Some (separated_once n k p q t s)
    | inr f ↦ elim (cases_eq k n) [
      | inl e ↦ absurd (both_ways (separated alg M n p q) f (subst (λ (i : ℕ). separated alg M i p q ≡ true) e s))
      | inr d ↦ cond-false (separated alg M n p q) (Some n) (round_of alg M n p q) f ∙ round_of_is n k p q (omega arith) s
    ]
  ]

  pub round_of_none : (n p q : ℕ) → separated_below alg M n p q ≡ false → round_of alg M n p q ≡ None
  unfolding round_of
  round_of_none zero p q none = refl
  round_of_none (suc n) p q none =
      cond-false (separated alg M n p q) (Some n) (round_of alg M n p q) (below_none (suc n) n p q (omega arith) none)
      ∙ round_of_none n p q (none_below n p q (λ j h. below_none (suc n) j p q (omega arith) none))

  pub round_of_some : (n k p q : ℕ) → round_of alg M n p q ≡ Some k → (k < n) × (separated alg M k p q ≡ true)
  round_of_some n k p q is = elim (cases_Bool (separated_below alg M n p q)) [
    | inl t ↦
        let j = below_some n p q t in
        let one = round_of_is n j.0 p q j.1 j.2 in
        let e : j.0 ≡ k = cc in
        (subst (λ (i : ℕ). i < n) e j.1, subst (λ (i : ℕ). separated alg M i p q ≡ true) e j.2)
    | inr f ↦
        let none = round_of_none n p q f in
        let z : ◌≡◌ {A = ℕ} 0 1 = cc in
        absurd (omega arith)
  ]

  pub some_round_of : (n p q : ℕ) → is_some (round_of alg M n p q) ≡ separated_below alg M n p q
  some_round_of n p q = elim (cases_Bool (separated_below alg M n p q)) [
    | inl t ↦ let j = below_some n p q t in ap is_some (round_of_is n j.0 p q j.1 j.2) ∙ sym t
    | inr f ↦ ap is_some (round_of_none n p q f) ∙ sym f
  ]

module _ {E G : Type 0} (alg : Model E G) (laws : Laws alg) (M : Machine G) where
  pub separated_fit : (k p q : ℕ) → separated alg M (suc k) p q ≡ true → Fit alg (separated alg M k) p q M.moves
  separated_fit k p q s = (fit_decides alg laws (separated alg M k) M.moves p q).0 (separated_fits alg M k p q s)

  pub fit_separated : (k p q : ℕ) → (p ≡ q → ⊥) → separated_below alg M (suc k) p q ≡ false → Fit alg (separated alg M k) p q M.moves → separated alg M (suc k) p q ≡ true
  unfolding round
  fit_separated k p q n new f = and_from _ _ (not_from_false _ (ne_eqb p q n)) (and_from _ _ (not_from_false _ new) ((fit_decides alg laws (separated alg M k) M.moves p q).1 f))

  -- either way round
  round_swap : (k p q : ℕ) → (separated_below alg M k p q ≡ separated_below alg M k q p) × (separated alg M k p q ≡ separated alg M k q p)
  unfolding round
  round_swap zero p q = (refl, ap₂ (λ a b. not a && b) (eqb_swap p q) (differ_swap (M.endings p) (M.endings q)))
  round_swap (suc k) p q =
      let h = round_swap k p q in
      let e = ap₂ ◌||◌ h.0 h.1 in
      (e, ap₂ (λ a b. not a && b) (eqb_swap p q) (ap₂ (λ a b. not a && b) e (some_fit_swap alg laws (separated alg M k) (λ i j. (round_swap k i j).1) M.moves p q)))

  pub separated_swap : (k p q : ℕ) → separated alg M k p q ≡ separated alg M k q p
  separated_swap k p q = (round_swap k p q).1

  pub below_swap : (k p q : ℕ) → separated_below alg M k p q ≡ separated_below alg M k q p
  below_swap k p q = (round_swap k p q).0

  pub round_of_swap : (n p q : ℕ) → round_of alg M n p q ≡ round_of alg M n q p
  unfolding round_of
  round_of_swap zero p q = refl
  round_of_swap (suc n) p q = ap₂ (λ a b. cond a (Some n) b) (separated_swap n p q) (round_of_swap n p q)
