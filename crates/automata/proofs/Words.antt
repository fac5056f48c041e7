-- The word of two states: on any table it has no more entries than its round, and on a proper machine it is a shortest day that just one of them accepts.
use Rattle.std.proofs.Common.{◌≡◌, ℕ, zero, suc, ◌<◌, ◌≤◌, min, max, Bool, true, false, ◌⊎◌, List, length, Some, None, Decides, Option, sym, refl, ap, ◌∙◌, subst, ap₂, inl, inr, arith}
use Rattle.std.proofs.lemmas.Bool.{cases_lt, cases_Bool, false≢true}
use Rattle.guards.specs.Algebra.{Model, Laws}
use Rattle.automata.specs.Automaton.{accepted, Reduced}
use Rattle.automata.specs.Limits.{most_states, most_rounds, most_word}
use Rattle.automata.specs.Machine.{Machine, Day, Proper}
use Rattle.automata.specs.Rounds.{differ, separated, round_of}
use Rattle.automata.specs.Running.{automaton}
use Rattle.automata.specs.Telling.{first_step, go_on, word, word_in, word_of, JustOne, Shortest}
use Rattle.automata.specs.declared.telling.WordStep.{WordStep}
use Rattle.automata.proofs.FirstSteps.{first_step_of, fit_step}
use Rattle.automata.proofs.Fitting.{differ_swap, differ_same}
use Rattle.automata.proofs.MachineRuns.{automaton_accepts}
use Rattle.automata.proofs.Moore.{moore, separated_in_time}
use Rattle.automata.proofs.SeparatedDays.{just_one, just_one_more, separated_decides}
use Rattle.automata.proofs.Separating.{below_some, separated_endings, separated_swap, separated_fit, round_of_is, round_of_some, round_of_swap}

min_max : (p q : ℕ) → ((min p q ≡ p) × (max p q ≡ q)) ⊎ ((min p q ≡ q) × (max p q ≡ p))
min_max p q = elim (cases_lt p q) [ inl h ↦ inl (omega arith, omega arith) | inr h ↦ inr (omega arith, omega arith) ]

-- where each of two tests decides, so does whether just one of them holds
differ_decides : {P Q : Type 0} (a b : Bool) → Decides a P → Decides b Q → Decides (differ a b) ((P × (Q → ⊥)) ⊎ ((P → ⊥) × Q))
differ_decides true true da db = (λ h. absurd (false≢true h), λ s. elim s [ inl x ↦ absurd (x.1 (db.0 refl)) | inr x ↦ absurd (x.0 (da.0 refl)) ])
differ_decides true false da db = (λ h. inl (da.0 refl, λ y. false≢true (db.1 y)), λ s. refl)
differ_decides false true da db = (λ h. inr (λ x. false≢true (da.1 x), db.0 refl), λ s. refl)
differ_decides false false da db = (λ h. absurd (false≢true h), λ s. elim s [ inl x ↦ da.1 x.0 | inr x ↦ db.1 x.1 ])

-- on any table
module _ {E G : Type 0} (alg : Model E G) (M : Machine G) where
  pub word_length : (k p q : ℕ) → length (word alg M k p q) ≤ k
  unfolding word
  word_length zero p q = omega arith
  word_length (suc k) p q = by (first_step alg M.moves (separated alg M k) (min p q) (max p q)) (word_length k)
    where
      by : (o : Option (WordStep E)) → ((i j : ℕ) → length (word alg M k i j) ≤ k) → length (go_on o (word alg M k)) ≤ suc k
      by None short = omega arith
      by (Some s) short = omega (arith, short s.left s.right)

  pub word_some : (p q : ℕ) (w : List E) → word_of alg M p q ≡ Some w → (k : ℕ) × (k < most_rounds) × (separated alg M k p q ≡ true) × (w ≡ word alg M k p q)
  word_some p q w h = by (round_of alg M most_rounds p q) refl h
    where
      by : (o : Option ℕ) → round_of alg M most_rounds p q ≡ o → word_in alg M o p q ≡ Some w → (k : ℕ) × (k < most_rounds) × (separated alg M k p q ≡ true) × (w ≡ word alg M k p q)
      by None is h = let z : ◌≡◌ {A = ℕ} 0 1 = cc in absurd (omega arith)
      by (Some k) is h = let r = round_of_some alg M most_rounds k p q is in (k, r.0, r.1, cc)

  pub word_fits : (p q : ℕ) (w : List E) → word_of alg M p q ≡ Some w → length w ≤ most_word
  word_fits p q w h = let r = word_some p q w h in omega (arith, word_length r.0 p q, ap length r.3)

module _ {E G : Type 0} (alg : Model E G) (laws : Laws alg) (M : Machine G) where
  -- either way round
  word_swap : (k p q : ℕ) → word alg M k p q ≡ word alg M k q p
  unfolding word
  word_swap zero p q = refl
  word_swap (suc k) p q = ap₂ (λ i j. go_on (first_step alg M.moves (separated alg M k) i j) (word alg M k)) (omega arith) (omega arith)

  pub word_of_swap : (p q : ℕ) → word_of alg M p q ≡ word_of alg M q p
  word_of_swap p q = ap (λ o. word_in alg M o p q) (round_of_swap alg laws M most_rounds p q) ∙ by (round_of alg M most_rounds q p)
    where
      by : (o : Option ℕ) → word_in alg M o p q ≡ word_in alg M o q p
      by None = refl
      by (Some k) = ap Some (word_swap k p q)

-- a day of k entries that just one of the two states accepts
abbrev DayOf : {E G : Type 0} → Model E G → Machine G → ℕ → ℕ → ℕ → List E → Type 0
DayOf alg M k p q w = Day alg w × (length w ≡ k) × (just_one alg M p q w ≡ true)

module _ {E G : Type 0} (alg : Model E G) (laws : Laws alg) (M : Machine G) (proper : Proper alg M) where
  day_swap : (k p q : ℕ) (w : List E) → DayOf alg M k q p w → DayOf alg M k p q w
  day_swap k p q w (d, l, one) = (d, l, differ_swap (accepted (automaton alg M) p w) (accepted (automaton alg M) q w) ∙ one)

  word_more : (k p q : ℕ) → separated alg M (suc k) p q ≡ true → ((i j : ℕ) → separated alg M k i j ≡ true → DayOf alg M k i j (word alg M k i j)) →
      DayOf alg M (suc k) p q (go_on (first_step alg M.moves (separated alg M k) p q) (word alg M k))
  word_more k p q s later =
      let f = fit_step alg laws M (separated alg M k) p q (separated_fit alg laws M k p q s) in
      let t = f.0 in
      let o = first_step_of alg laws M (separated alg M k) p q t f.1 in
      let l = o.left_leads in
      let w = word alg M k t.left t.right in
      let r = later t.left t.right o.holds in
      subst (DayOf alg M (suc k) p q) (sym (ap (λ o. go_on o (word alg M k)) f.1))
      ((laws.inside l.0.guard t.sample l.3, r.0), ap suc r.1, just_one_more alg laws M proper p q t.sample t.left t.right w l o.right_leads r.2)

  pub word_day : (k p q : ℕ) → separated alg M k p q ≡ true → DayOf alg M k p q (word alg M k p q)
  unfolding word
  word_day zero p q s = (tt, refl, separated_endings alg M p q s)
  word_day (suc k) p q s =
      let told : ℕ → ℕ → List E = λ i j. go_on (first_step alg M.moves (separated alg M k) i j) (word alg M k) in
      elim (min_max p q) [
        | inl e ↦ subst (DayOf alg M (suc k) p q) (sym (ap₂ told e.0 e.1)) (word_more k p q s (word_day k))
        | inr e ↦ subst (DayOf alg M (suc k) p q) (sym (ap₂ told e.0 e.1))
            (day_swap (suc k) p q (told q p) (word_more k q p (separated_swap alg laws M (suc k) q p ∙ s) (word_day k)))
      ]

  module _ (p q : ℕ) (hp : p < M.count) (hq : q < M.count) where
    pub just_one_decides : (w : List E) → Day alg w → Decides (just_one alg M p q w) (JustOne alg M p q w)
    just_one_decides w d =
        differ_decides (accepted (automaton alg M) p w) (accepted (automaton alg M) q w) (automaton_accepts alg laws M proper p w hp d) (automaton_accepts alg laws M proper q w hq d)

    pub word_shortest : (k : ℕ) → separated alg M k p q ≡ true → Shortest alg M p q (word alg M k p q)
    word_shortest k s =
        let r = word_day k p q s in
        let least = (separated_decides alg laws M proper k p q hp hq).0 s in
        record {
          day = r.0;
          one = (just_one_decides (word alg M k p q) r.0).0 r.2;
          shortest = λ v d one. omega (arith, r.1, least.shortest v d ((just_one_decides v d).1 one));
          short = omega (arith, r.1, moore alg laws M proper k p q hp hq s);
        }

    -- what is told is a shortest day
    pub told_shortest : (w : List E) → word_of alg M p q ≡ Some w → Shortest alg M p q w
    told_shortest w h = let r = word_some alg M p q w h in subst (Shortest alg M p q) (sym r.3) (word_shortest r.0 r.2)

    module _ (small : M.count ≤ most_states) where
      -- states that accept different days are told apart
      pub day_told : (v : List E) → Day alg v → just_one alg M p q v ≡ true → (w : List E) × (word_of alg M p q ≡ Some w) × Shortest alg M p q w
      day_told v d one =
          let j = below_some alg M most_rounds p q (separated_in_time alg laws M proper small p q hp hq v d one) in
          let k = j.0 in
          (word alg M k p q, ap (λ o. word_in alg M o p q) (round_of_is alg M most_rounds k p q j.1 j.2), word_shortest k j.2)

      -- and those that are not told apart accept the same days
      pub untold_same : word_of alg M p q ≡ None → (w : List E) → Day alg w → accepted (automaton alg M) p w ≡ accepted (automaton alg M) q w
      untold_same none w d = differ_same _ _ (elim (cases_Bool (just_one alg M p q w)) [
        | inl one ↦ let t = day_told w d one in let some = t.1 in let z : ◌≡◌ {A = ℕ} 0 1 = cc in absurd (omega arith)
        | inr f ↦ f
      ])

      -- each two states of a reduced machine are told apart
      pub told_apart : Reduced alg.domain (automaton alg M) → (p ≡ q → ⊥) → (w : List E) × (word_of alg M p q ≡ Some w) × Shortest alg M p q w
      told_apart red other =
          let a = red.apart p q hp hq other in
          elim (cases_Bool (just_one alg M p q a.0)) [ inl one ↦ day_told a.0 a.1 one | inr f ↦ absurd (a.2 (differ_same _ _ f)) ]
