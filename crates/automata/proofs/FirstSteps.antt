-- The first step of a word: an entry that leads two states to states of which a relation holds, found wherever moves fit.
use Rattle.std.proofs.Common.{◌≡◌, ℕ, ◌+◌, Bool, true, ◌&&◌, eqb, List, [], ◌∷◌, Some, None, Option, sym, refl, ap, ◌∙◌, subst, inl, inr, arith}
use Rattle.std.specs.Option.{option_map}
use Rattle.std.proofs.lemmas.Bool.{cases_Bool, and_parts, and_from, eq-eqb, eqb-true, cond-true, cond-false}
use Rattle.guards.specs.Algebra.{Model, Laws}
use Rattle.guards.specs.Lists.{Member, or_else, first_some}
use Rattle.automata.specs.Machine.{Machine, Leads}
use Rattle.automata.specs.Telling.{step_by, first_step}
use Rattle.automata.specs.declared.telling.WordStep.{WordStep}
use Rattle.automata.specs.declared.moves.Move.{Move}
use Rattle.automata.proofs.FirstSome.{mapped_some}
use Rattle.automata.proofs.Fitting.{Fit, meet_parts, meet_from}
use Rattle.automata.proofs.Samples.{sampled}

-- what a question to each element finds first is the answer of one, and where it finds nothing each has none
module _ {X Y : Type 0} (ask : X → Option Y) where
  pub found_answer : (xs : List X) (i : ℕ) (y : Y) → first_some (λ _ x. ask x) i xs ≡ Some y → (x : X) × Member x xs × (ask x ≡ Some y)
  found_answer [] i y h = let z : ◌≡◌ {A = ℕ} 0 1 = cc in absurd (omega arith)
  found_answer (x ∷ xs) i y h = by (ask x) refl h (found_answer xs (i + 1) y)
    where
      by : (o : Option Y) → ask x ≡ o → or_else o (first_some (λ _ x. ask x) (i + 1) xs) ≡ Some y →
          (first_some (λ _ x. ask x) (i + 1) xs ≡ Some y → (z : X) × Member z xs × (ask z ≡ Some y)) → (z : X) × Member z (x ∷ xs) × (ask z ≡ Some y)
      by (Some z) is h later = (x, inl refl, is ∙ h)
      by None is h later = let r = later h in (r.0, inr r.1, r.2)

  pub some_answer : (x : X) (xs : List X) (i : ℕ) (y : Y) → Member x xs → ask x ≡ Some y → (z : Y) × (first_some (λ _ x. ask x) i xs ≡ Some z)
  some_answer x [] i y m h = absurd m
  some_answer x (v ∷ xs) i y m h = by (ask v) refl m (λ n. some_answer x xs (i + 1) y n h)
    where
      by : (o : Option Y) → ask v ≡ o → Member x (v ∷ xs) → (Member x xs → (z : Y) × (first_some (λ _ x. ask x) (i + 1) xs ≡ Some z)) → (z : Y) × (or_else o (first_some (λ _ x. ask x) (i + 1) xs) ≡ Some z)
      by (Some z) is m later = (z, refl)
      by None is (inl e) later = let none = ap ask (sym e) ∙ is in let z : ◌≡◌ {A = ℕ} 0 1 = cc in absurd (omega arith)
      by None is (inr n) later = later n

-- the entry leads from p and from q to states of which R holds
pub record StepOf {E G : Type 0} (alg : Model E G) (M : Machine G) (R : ℕ → ℕ → Bool) (p q : ℕ) (s : WordStep E) : Type 0 where
  pub left_leads : Leads alg M p s.sample s.left
  pub right_leads : Leads alg M q s.sample s.right
  pub holds : R s.left s.right ≡ true

-- a step by a move of p and a move of q, with the entry e
abbrev step_with : {E G : Type 0} → Move G → Move G → E → WordStep E
step_with u v e = record { sample = e; left = u.to; right = v.to }

module _ {E G : Type 0} (alg : Model E G) (laws : Laws alg) (M : Machine G) (R : ℕ → ℕ → Bool) (p q : ℕ) where
  step_of : (u v : Move G) → Member u M.moves → Member v M.moves → (s : WordStep E) → step_by alg R p q u v ≡ Some s → StepOf alg M R p q s
  step_of u v um vm s h =
      let froms = eqb u.from p && eqb v.from q in
      let test = froms && R u.to v.to in
      let g = alg.meet u.guard v.guard in
      elim (cases_Bool test) [
        | inl t ↦
            let m = mapped_some (step_with u v) (alg.sample g) s (sym (cond-true test (option_map (step_with u v) (alg.sample g)) None t) ∙ h) in
            let e = m.0 in
            let admits = meet_parts alg laws u.guard v.guard e (laws.sample_some g e m.1) in
            let parts = and_parts froms (R u.to v.to) t in
            let from = and_parts (eqb u.from p) (eqb v.from q) parts.0 in
            subst (StepOf alg M R p q) m.2 (record {
              left_leads = (u, um, eqb-true u.from p from.0, admits.0, refl);
              right_leads = (v, vm, eqb-true v.from q from.1, admits.1, refl);
              holds = parts.1;
            })
        | inr f ↦
            let none : None ≡ Some s = sym (cond-false test (option_map (step_with u v) (alg.sample g)) None f) ∙ h in
            let z : ◌≡◌ {A = ℕ} 0 1 = cc in
            absurd (omega arith)
      ]

  pub first_step_of : (s : WordStep E) → first_step alg M.moves R p q ≡ Some s → StepOf alg M R p q s
  first_step_of s h =
      let a = found_answer (λ u. first_some (λ _ v. step_by alg R p q u v) 0 M.moves) M.moves 0 s h in
      let u = a.0 in
      let b = found_answer (step_by alg R p q u) M.moves 0 s a.2 in
      step_of u b.0 a.1 b.1 s b.2

  pub fit_step : Fit alg R p q M.moves → (s : WordStep E) × (first_step alg M.moves R p q ≡ Some s)
  fit_step f =
      let u = f.left in
      let v = f.right in
      let g = alg.meet u.guard v.guard in
      let froms = eqb u.from p && eqb v.from q in
      let e = sampled alg laws g f.entry (meet_from alg laws u.guard v.guard f.entry f.left_admits f.right_admits) in
      let t = and_from froms (R u.to v.to) (and_from (eqb u.from p) (eqb v.from q) (eq-eqb u.from p f.left_from) (eq-eqb v.from q f.right_from)) f.holds in
      let is : step_by alg R p q u v ≡ Some (step_with u v e.0) = cond-true (froms && R u.to v.to) (option_map (step_with u v) (alg.sample g)) None t ∙ ap (option_map (step_with u v)) e.1 in
      let inner = some_answer (step_by alg R p q u) v M.moves 0 (step_with u v e.0) f.right_in is in
      some_answer (λ u. first_some (λ _ v. step_by alg R p q u v) 0 M.moves) u M.moves 0 inner.0 f.left_in inner.1
