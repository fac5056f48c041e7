-- Checking a clause without clashes gives a proper machine that accepts the same days, and each of whose states a day reaches.
use Rattle.std.proofs.Common.{◌≡◌, ℕ, ◌<◌, true, false, eqb, List, [], ◌∷◌, ◌++◌, map, length, Some, None, Decides, Option, sym, refl, ap, ◌∙◌, inl, inr, arith}
use Rattle.std.proofs.ByRecursion.{All-push}
use Rattle.std.proofs.lemmas.List.{length-map, get_or-map, get_or_past}
use Rattle.std.proofs.lemmas.Bool.{cases_Bool, cases_lt, both_ways}
use Rattle.guards.specs.Algebra.{Model, Laws}
use Rattle.guards.specs.Lists.{Member, is_some}
use Rattle.automata.specs.Automaton.{run}
use Rattle.automata.specs.Checking.{live, successors, order, number, rest, sink, checked, CheckMeaning}
use Rattle.automata.specs.Machine.{Machine, Day, Accepts, InRange, Deterministic, Proper}
use Rattle.automata.proofs.Automata.{run_append}
use Rattle.automata.proofs.CheckedNodes.{Node, place, step, ends, checked_numbered}
use Rattle.automata.proofs.LiveMoves.{live_move, live_leads, live_step, taken, not_taken, rest_not_taken, order_searched}
use Rattle.automata.proofs.MachineRuns.{leads_next}
use Rattle.automata.proofs.Members.{some_member, map_member, any_some}
use Rattle.automata.proofs.Numbered.{numbered_proper, numbered_accepts, numbered_reaches, reaches_run}
use Rattle.automata.proofs.Places.{number_tells, place_at, first_place}
use Rattle.automata.proofs.RestMeanings.{rest_some}

module _ {E G : Type 0} (alg : Model E G) (laws : Laws alg) (M : Machine G) (range : InRange alg M) (one : Deterministic alg M) where
  start_first : (rest : List ℕ) × (order alg M ≡ 0 ∷ rest)
  start_first = (order_searched alg laws M range).first

  start_in : Member 0 (order alg M)
  start_in = rw start_first.1 (inl refl)

  start_place : number alg M 0 ≡ 0
  start_place = first_place eqb number_tells 0 (order alg M) start_first.0 start_first.1

  ends_are : (x : Option ℕ) → Node alg M x → (checked alg M).endings (place alg M x) ≡ ends alg M x
  ends_are (Some p) m =
      let r = place_at eqb number_tells p p (order alg M) m in
      get_or-map M.endings (order alg M) (number alg M p) p false r.0 ∙ ap M.endings r.1
  ends_are None h = get_or_past (map M.endings (order alg M)) (sink alg M) false (omega (arith, length-map (order alg M) M.endings))

  ends_in : (q : ℕ) → (checked alg M).endings q ≡ true → q < (checked alg M).count
  ends_in q t = elim (cases_lt q (length (order alg M))) [
    | inl lt ↦ omega arith
    | inr ge ↦ absurd (both_ways _ (get_or_past (map M.endings (order alg M)) q false (omega (arith, length-map (order alg M) M.endings))) t)
  ]

  checked_proper : Proper alg (checked alg M)
  checked_proper = numbered_proper alg laws (checked_numbered alg laws M range one) (Some 0) start_in ends_in

  sink_stays : (w : List E) → run (step alg M) None w ≡ None
  sink_stays [] = refl
  sink_stays (e ∷ w) = sink_stays w

  -- the steps on nodes accept what the clause accepts
  clause_accepts : (w : List E) (p : ℕ) → Decides (ends alg M (run (step alg M) (Some p) w)) (Accepts alg M p w)
  clause_accepts [] p = (λ t. (p, refl, t), λ a. ap M.endings a.1 ∙ a.2)
  clause_accepts (e ∷ w) p = (
    λ t. elim (cases_Bool (taken alg laws M p e)) [
      | inl y ↦
          let u = any_some (λ v. alg.admits v.guard e) (live alg M p) y in
          let v = u.0 in
          let a = (clause_accepts w v.to).0 (sym (ap (λ o. ends alg M (run (step alg M) o w)) (live_step alg laws M one p v e u.1 u.2)) ∙ t) in
          (a.0, (v.to, live_leads alg laws M p v e u.1 u.2, a.1), a.2)
      | inr n ↦ absurd (both_ways _ (ap (λ o. ends alg M (run (step alg M) o w)) (not_taken alg laws M p e n) ∙ ap (ends alg M) (sink_stays w)) t)
    ],
    λ a. let l = a.1 in ap (λ o. ends alg M (run (step alg M) o w)) (leads_next alg laws M one p e l.0 l.1) ∙ (clause_accepts w l.0).1 (a.0, l.2, a.2),
  )

  -- a day leads to each reached state, and one more entry to the sink
  state_way : (p : ℕ) → Member p (order alg M) → (w : List E) × Day alg w × (run (step alg M) (Some 0) w ≡ Some p)
  state_way p m = reaches_run alg.domain (successors alg M) (step alg M) Some 0 (λ p q _ k.
      let u = map_member (λ v. v.to) q (live alg M p) k in
      let a = (live_move alg laws M p u.0 u.1).2 in
      (a.0, laws.inside u.0.guard a.0 a.1, live_step alg laws M one p u.0 a.0 u.1 a.1 ∙ ap Some u.2)) p ((order_searched alg laws M range).only p m)

  way : (x : Option ℕ) → Node alg M x → (w : List E) × Day alg w × (run (step alg M) (Some 0) w ≡ x)
  way (Some p) m = state_way p m
  way None h =
      let r = any_some (λ p. is_some (rest alg M p)) (order alg M) h in
      let p = r.0 in
      let g = some_member (rest alg M p) r.2 in
      let a = rest_some alg laws (live alg M p) g.0 g.1 in
      let e = a.0 in
      let w = state_way p r.1 in (
        w.0 ++ (e ∷ []),
        All-push (λ e. alg.domain e ≡ true) w.0 e w.1 (laws.inside g.0 e a.1),
        run_append (step alg M) (Some 0) w.0 (e ∷ []) ∙ ap (λ o. step alg M o e) w.2 ∙ not_taken alg laws M p e (rest_not_taken alg laws M p g.0 e g.1 a.1),
      )

  checked_accepts : (w : List E) → Day alg w → Decides (ends alg M (run (step alg M) (Some 0) w)) (Accepts alg (checked alg M) 0 w)
  checked_accepts w d = rw start_place at (numbered_accepts alg laws (checked_numbered alg laws M range one) checked_proper (ends alg M) ends_are w (Some 0) start_in d)

  pub checked_means : CheckMeaning alg M (checked alg M)
  checked_means = record {
    proper = checked_proper;
    keeps = λ w d. let a = checked_accepts w d in let c = clause_accepts w 0 in (λ h. a.0 (c.1 h), λ h. c.0 (a.1 h));
    reaches = λ q h. rw start_place at (numbered_reaches alg laws (checked_numbered alg laws M range one) (Some 0) start_in way q h);
  }
