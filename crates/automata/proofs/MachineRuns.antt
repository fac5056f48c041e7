-- Runs of a proper machine: a day leads from each state to just one, the walk answers it, and so does the automaton.
use Rattle.std.proofs.Common.{◌≡◌, ℕ, ◌+◌, ◌<◌, Bool, true, false, cond, ◌&&◌, eqb, List, [], ◌∷◌, Some, None, Ok, Decides, option_map, unwrap_or, sym, refl, ap, ◌∙◌, subst, inl, inr}
use Rattle.std.proofs.lemmas.Bool.{and_parts, and_from, both_ways, eq-eqb, eqb-true, cond-false}
use Rattle.std.specs.List.{find}
use Rattle.guards.specs.Algebra.{Model, Laws}
use Rattle.guards.specs.Lists.{Member}
use Rattle.automata.specs.Automaton.{run, accepted, Valid}
use Rattle.automata.specs.Machine.{Machine, Day, Leads, LeadsTo, Accepts, Deterministic, Proper}
use Rattle.automata.specs.Running.{onward, walk, next, automaton}
use Rattle.automata.specs.declared.moves.Move.{Move}
use Rattle.automata.proofs.Automata.{run_in}

-- where one passes, the first that passes is found
pub found_some : {X Y : Type 0} (test : X → Bool) (get : X → Y) (x : X) (xs : List X) → Member x xs → test x ≡ true → (y : X) × Member y xs × (test y ≡ true) × (option_map get (find test xs) ≡ Some (get y))
found_some test get x [] m t = absurd m
found_some {X} test get x (z ∷ xs) m t =
    (elim (test z) as (λ b. test z ≡ b → (y : X) × Member y (z ∷ xs) × (test y ≡ true) × (option_map get (cond b (Some z) (find test xs)) ≡ Some (get y))) [
      | true ↦ λ h. (z, inl refl, h, refl)
      | false ↦ λ h. elim m [
        | inl e ↦ absurd (both_ways (test z) h (ap test e ∙ t))
        | inr n ↦ let r = found_some test get x xs n t in (r.0, inr r.1, r.2, r.3)
      ]
    ]) refl

-- where none passes, none is found
pub found_nothing : {X Y : Type 0} (test : X → Bool) (get : X → Y) (xs : List X) → ((x : X) → Member x xs → test x ≡ false) → option_map get (find test xs) ≡ None
found_nothing test get [] none = refl
found_nothing test get (x ∷ xs) none =
    ap (option_map get) (cond-false (test x) (Some x) (find test xs) (none x (inl refl))) ∙ found_nothing test get xs (λ y m. none y (inr m))

module _ {E G : Type 0} (alg : Model E G) (laws : Laws alg) (M : Machine G) where
  pub leads_once : Deterministic alg M → (p : ℕ) (e : E) (q r : ℕ) → Leads alg M p e q → Leads alg M p e r → q ≡ r
  leads_once one p e q r (u, um, up, ua, uq) (v, vm, vp, va, vr) =
      sym uq ∙ one u v um vm (up ∙ sym vp) e (laws.meet_admits u.guard v.guard e ∙ and_from (alg.admits u.guard e) (alg.admits v.guard e) ua va) ∙ vr

  -- where a move leads, the next state is that
  pub leads_next : Deterministic alg M → (p : ℕ) (e : E) (q : ℕ) → Leads alg M p e q → next alg M.moves p e ≡ Some q
  leads_next one p e q (v, vm, vp, va, vq) =
      let fits : Move G → Bool = λ u. eqb u.from p && alg.admits u.guard e in
      let f = found_some fits (λ u. u.to) v M.moves vm (and_from (eqb v.from p) (alg.admits v.guard e) (eq-eqb v.from p vp) va) in
      let u = f.0 in
      let t = and_parts (eqb u.from p) (alg.admits u.guard e) f.2 in
      f.3 ∙ ap Some (leads_once one p e u.to q (u, f.1, eqb-true u.from p t.0, t.1, refl) (v, vm, vp, va, vq))

module _ {E G : Type 0} (alg : Model E G) (laws : Laws alg) (M : Machine G) (proper : Proper alg M) where
  -- the automaton's next state, on a domain entry
  pub step_leads : (p : ℕ) (e : E) → p < M.count → alg.domain e ≡ true → Leads alg M p e ((automaton alg M).next p e)
  step_leads p e h d =
      let c = proper.complete p e h d in
      subst (λ (q : ℕ). Leads alg M p e q) (sym (ap (λ o. unwrap_or o p) (leads_next alg laws M proper.deterministic p e c.0 c.1))) c.1

  pub step_is : (p : ℕ) (e : E) → p < M.count → alg.domain e ≡ true → next alg M.moves p e ≡ Some ((automaton alg M).next p e)
  step_is p e h d = leads_next alg laws M proper.deterministic p e ((automaton alg M).next p e) (step_leads p e h d)

  pub automaton_valid : Valid alg.domain (automaton alg M)
  automaton_valid = record {
    start_in = proper.in_range.some;
    next_in = λ q e h d. let l = step_leads q e h d in subst (λ (r : ℕ). r < M.count) l.4 (proper.in_range.to_in l.0 l.1);
  }

  pub run_leads : (p : ℕ) (w : List E) → p < M.count → Day alg w → LeadsTo alg M p w (run (automaton alg M).next p w)
  run_leads p [] h d = refl
  run_leads p (e ∷ w) h d =
      let q = (automaton alg M).next p e in (q, step_leads p e h d.0, run_leads q w (automaton_valid.next_in p e h d.0) d.1)

  pub run_only : (p : ℕ) (w : List E) (r : ℕ) → p < M.count → Day alg w → LeadsTo alg M p w r → r ≡ run (automaton alg M).next p w
  run_only p [] r h d e = sym e
  run_only p (e ∷ w) r h d (q, l, rest) =
      let s = (automaton alg M).next p e in
      run_only s w r (automaton_valid.next_in p e h d.0) d.1 (subst (λ (v : ℕ). LeadsTo alg M v w r) (leads_once alg laws M proper.deterministic p e q s l (step_leads p e h d.0)) rest)

  pub walk_run : (i p : ℕ) (w : List E) → p < M.count → Day alg w → walk (next alg M.moves) i p w ≡ Ok (run (automaton alg M).next p w)
  walk_run i p [] h d = refl
  walk_run i p (e ∷ w) h d =
      ap (λ o. onward o i (λ r. walk (next alg M.moves) (i + 1) r w)) (step_is p e h d.0)
      ∙ walk_run (i + 1) ((automaton alg M).next p e) w (automaton_valid.next_in p e h d.0) d.1

  pub automaton_accepts : (p : ℕ) (w : List E) → p < M.count → Day alg w → Decides (accepted (automaton alg M) p w) (Accepts alg M p w)
  automaton_accepts p w h d = (
    λ t. (run (automaton alg M).next p w, run_leads p w h d, t),
    λ a. ap M.endings (sym (run_only p w a.0 h d a.1)) ∙ a.2,
  )

  -- the walk along a day answers the one state that the day leads to, which tells whether the day is accepted
  pub walk_day : (i p : ℕ) (w : List E) → p < M.count → Day alg w → (q : ℕ)
      × (walk (next alg M.moves) i p w ≡ Ok q)
      × (q < M.count)
      × LeadsTo alg M p w q
      × ((r : ℕ) → LeadsTo alg M p w r → r ≡ q)
      × Decides (M.endings q) (Accepts alg M p w)
  walk_day i p w h d = (
    run (automaton alg M).next p w,
    walk_run i p w h d,
    run_in alg.domain (automaton alg M) automaton_valid p w h d,
    run_leads p w h d,
    λ r. run_only p w r h d,
    automaton_accepts p w h d,
  )
