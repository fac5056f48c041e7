-- Two states of a proper machine are separated in round k exactly where the shortest day that just one of them accepts has k entries.
use Rattle.std.proofs.Common.{◌≡◌, ℕ, zero, suc, ◌<◌, ◌≤◌, Bool, true, ◌⊎◌, List, [], ◌∷◌, length, Decides, unwrap_or, sym, refl, ap, ◌∙◌, ap₂, inl, inr, arith}
use Rattle.std.proofs.lemmas.Bool.{cases_lt, cases_Bool, both_ways}
use Rattle.guards.specs.Algebra.{Model, Laws}
use Rattle.automata.specs.Automaton.{accepted}
use Rattle.automata.specs.Machine.{Machine, Day, Leads, Proper}
use Rattle.automata.specs.Rounds.{differ, separated, separated_below}
use Rattle.automata.specs.Running.{automaton}
use Rattle.automata.proofs.Fitting.{differ_split, same_differ, Fit}
use Rattle.automata.proofs.MachineRuns.{leads_next, step_leads, automaton_valid}
use Rattle.automata.proofs.Separating.{below_some, some_below, below_more, separated_new, separated_other, separated_endings, endings_separated, separated_fit, fit_separated}

-- just one of the two states accepts the day
abbrev pub just_one : {E G : Type 0} → Model E G → Machine G → ℕ → ℕ → List E → Bool
just_one alg M p q w = differ (accepted (automaton alg M) p w) (accepted (automaton alg M) q w)

module _ {E G : Type 0} (alg : Model E G) (M : Machine G) where
  -- a day of less than k entries
  abbrev pub ShorterDay : ℕ → ℕ → ℕ → Type 0
  ShorterDay k p q = (w : List E) × Day alg w × (length w < k) × (just_one alg M p q w ≡ true)

  -- the shortest has k entries
  pub record ShortestHas (k p q : ℕ) : Type 0 where
    pub some : (w : List E) × Day alg w × (length w ≡ k) × (just_one alg M p q w ≡ true)
    pub shortest : (w : List E) → Day alg w → just_one alg M p q w ≡ true → k ≤ length w

module _ {E G : Type 0} (alg : Model E G) (laws : Laws alg) (M : Machine G) (proper : Proper alg M) where
  pub leads_step : (p : ℕ) (e : E) (q : ℕ) → Leads alg M p e q → (automaton alg M).next p e ≡ q
  leads_step p e q l = ap (λ o. unwrap_or o p) (leads_next alg laws M proper.deterministic p e q l)

  -- one entry before a day that just one of two states accepts
  pub just_one_more : (p q : ℕ) (e : E) (r s : ℕ) (w : List E) → Leads alg M p e r → Leads alg M q e s → just_one alg M r s w ≡ true → just_one alg M p q (e ∷ w) ≡ true
  just_one_more p q e r s w lp lq one = ap₂ (λ i j. just_one alg M i j w) (leads_step p e r lp) (leads_step q e s lq) ∙ one

  pub separated_day : (k p q : ℕ) → separated alg M k p q ≡ true → (w : List E) × Day alg w × (length w ≡ k) × (just_one alg M p q w ≡ true)
  separated_day zero p q s = ([], tt, refl, separated_endings alg M p q s)
  separated_day (suc k) p q s =
      let f = separated_fit alg laws M k p q s in
      let e = f.entry in
      let u = f.left in
      let v = f.right in
      let r = separated_day k u.to v.to f.holds in (
        e ∷ r.0,
        (laws.inside u.guard e f.left_admits, r.1),
        ap suc r.2,
        just_one_more p q e u.to v.to r.0 (u, f.left_in, f.left_from, f.left_admits, refl) (v, f.right_in, f.right_from, f.right_admits, refl) r.3,
      )

  -- a move before states that are separated in round j
  moves_separated : (j p q : ℕ) (e : E) → p < M.count → q < M.count → alg.domain e ≡ true → separated alg M j ((automaton alg M).next p e) ((automaton alg M).next q e) ≡ true →
      separated_below alg M (suc (suc j)) p q ≡ true
  moves_separated j p q e hp hq d s =
      let next = (automaton alg M).next in
      let l = step_leads alg laws M proper p e hp d in
      let r = step_leads alg laws M proper q e hq d in
      let other : p ≡ q → ⊥ = λ i. separated_other alg M j (next p e) (next q e) s (ap (λ i. next i e) i) in
      let f : Fit alg (separated alg M j) p q M.moves = record {
        entry = e;
        left = l.0;
        right = r.0;
        left_in = l.1;
        right_in = r.1;
        left_from = l.2;
        right_from = r.2;
        left_admits = l.3;
        right_admits = r.3;
        holds = ap₂ (separated alg M j) l.4 r.4 ∙ s;
      } in
      elim (cases_Bool (separated_below alg M (suc j) p q)) [
        | inl b ↦ below_more alg M (suc j) (suc (suc j)) p q (omega arith) b
        | inr b ↦ some_below alg M (suc (suc j)) (suc j) p q (omega arith) (fit_separated alg laws M j p q other b f)
      ]

  pub day_separated : (w : List E) (p q : ℕ) → p < M.count → q < M.count → Day alg w → just_one alg M p q w ≡ true → separated_below alg M (suc (length w)) p q ≡ true
  day_separated [] p q hp hq d one =
      let other : p ≡ q → ⊥ = λ i. both_ways _ (same_differ (M.endings p) (M.endings q) (ap M.endings i)) one in
      some_below alg M 1 0 p q (omega arith) (endings_separated alg M p q other one)
  day_separated (e ∷ w) p q hp hq d one =
      let next = (automaton alg M).next in
      let valid = automaton_valid alg laws M proper in
      let j = below_some alg M (suc (length w)) (next p e) (next q e) (day_separated w (next p e) (next q e) (valid.next_in p e hp d.0) (valid.next_in q e hq d.0) d.1 one) in
      below_more alg M (suc (suc j.0)) (suc (suc (length w))) p q (omega arith) (moves_separated j.0 p q e hp hq d.0 j.2)

  module _ (k p q : ℕ) (hp : p < M.count) (hq : q < M.count) where
    pub below_decides : Decides (separated_below alg M k p q) (ShorterDay alg M k p q)
    below_decides = (
      λ s. let j = below_some alg M k p q s in let r = separated_day j.0 p q j.2 in (r.0, r.1, omega arith, r.3),
      λ t. below_more alg M (suc (length t.0)) k p q (omega arith) (day_separated t.0 p q hp hq t.1 t.3),
    )

    pub separated_decides : Decides (separated alg M k p q) (ShortestHas alg M k p q)
    separated_decides = (
      λ s. record {
        some = separated_day k p q s;
        shortest = λ w d one. elim (cases_lt (length w) k) [
          | inl h ↦ absurd (both_ways (separated_below alg M k p q) (separated_new alg M k p q s) (below_decides.1 (w, d, h, one)))
          | inr h ↦ h
        ];
      },
      λ t.
          let w = t.some in
          let j = below_some alg M (suc (length w.0)) p q (day_separated w.0 p q hp hq w.1 w.3) in
          let v = separated_day j.0 p q j.2 in
          let e : j.0 ≡ k = omega (arith, t.shortest v.0 v.1 v.3, w.2, v.2, j.1) in
          ap (λ i. separated alg M i p q) (sym e) ∙ j.2,
    )

  -- of two states that are separated below k any third is separated from one
  pub below_split : (k p r q : ℕ) → p < M.count → r < M.count → q < M.count → separated_below alg M k p q ≡ true → (separated_below alg M k p r ≡ true) ⊎ (separated_below alg M k r q ≡ true)
  below_split k p r q hp hr hq s =
      let t = (below_decides k p q hp hq).0 s in
      let w = t.0 in
      let says : ℕ → Bool = λ i. accepted (automaton alg M) i w in
      elim (differ_split (says p) (says r) (says q) t.3) [
        | inl a ↦ inl ((below_decides k p r hp hr).1 (w, t.1, t.2, a))
        | inr a ↦ inr ((below_decides k r q hr hq).1 (w, t.1, t.2, a))
      ]
