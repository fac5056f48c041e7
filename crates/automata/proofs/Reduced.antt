-- The reduced machine: it is proper, accepts the same days, has no more states, and each two of its states accept different days.
use Rattle.std.proofs.Common.{◌≡◌, ℕ, ◌<◌, ◌≤◌, Bool, true, false, eqb, List, [], ◌∷◌, ◌++◌, map, length, get_or, filter, sym, refl, ap, ◌∙◌, subst, subst₂, inl, inr, arith}
use Rattle.std.proofs.ByRecursion.{All-append}
use Rattle.std.proofs.lemmas.List.{length-map, get_or-map, get_or_past}
use Rattle.std.proofs.lemmas.Bool.{cases_eq, cases_lt, cases_order, both_ways, eq-eqb, eqb-true}
use Rattle.guards.specs.Algebra.{Model, Laws}
use Rattle.std.specs.List.{list_any}
use Rattle.guards.specs.Lists.{Member}
use Rattle.automata.specs.Automaton.{run, accepted, Reduced}
use Rattle.automata.specs.Limits.{most_states, most_rounds}
use Rattle.automata.specs.Machine.{Machine, Day, Leads, LeadsTo, InRange, Complete, Deterministic, Proper}
use Rattle.automata.specs.Reduction.{kept, class_of, redirected, reduced}
use Rattle.automata.specs.Rounds.{separated_below}
use Rattle.automata.specs.Running.{automaton}
use Rattle.automata.specs.declared.moves.Move.{Move}
use Rattle.automata.proofs.Automata.{run_append, run_in}
use Rattle.automata.proofs.Fitting.{same_differ}
use Rattle.automata.proofs.KeptStates.{in_order_at, kept_below, kept_order, kept_few, class_in, class_first, class_kept, kept_class, first_kept}
use Rattle.automata.proofs.MachineRuns.{step_leads, automaton_valid, run_only}
use Rattle.automata.proofs.Members.{member_map, map_member, member_kept, kept_member, any_some, some_any}
use Rattle.automata.proofs.Moore.{same_days}
use Rattle.automata.proofs.Places.{member_get_or}
use Rattle.automata.proofs.SeparatedDays.{below_decides, leads_step}
use Rattle.automata.proofs.Separating.{below_itself}

-- the kept states, the one that stands for class j, and the class of a state
abbrev all_kept : {E G : Type 0} → Model E G → Machine G → List ℕ
all_kept alg M = kept (separated_below alg M most_rounds) M.count

abbrev first_of : {E G : Type 0} → Model E G → Machine G → ℕ → ℕ
first_of alg M j = get_or (all_kept alg M) j 0

abbrev class : {E G : Type 0} → Model E G → Machine G → ℕ → ℕ
class alg M q = class_of (separated_below alg M most_rounds) (all_kept alg M) q

pub reduced_few : {E G : Type 0} (alg : Model E G) (M : Machine G) → (reduced alg M).count ≤ M.count
reduced_few alg M = kept_few (separated_below alg M most_rounds) M.count

module _ {E G : Type 0} (alg : Model E G) (M : Machine G) where
  -- the moves of the reduced machine are those of the kept states, redirected
  old_move : (v : Move G) → Member v (reduced alg M).moves → (u : Move G) × Member u M.moves × Member u.from (all_kept alg M) × (redirected (separated_below alg M most_rounds) (all_kept alg M) u ≡ v)
  old_move v m =
      let ks = all_kept alg M in
      let stays : Move G → Bool = λ v. list_any (λ r. eqb r v.from) ks in
      let a = map_member (redirected (separated_below alg M most_rounds) ks) v (filter stays M.moves) m in
      let u = a.0 in
      let b = kept_member stays u M.moves a.1 in
      let r = any_some (λ r. eqb r u.from) ks b.1 in
      (u, b.0, subst (λ (v : ℕ). Member v ks) (eqb-true r.0 u.from r.2) r.1, a.2)

  new_move : (u : Move G) → Member u M.moves → Member u.from (all_kept alg M) → Member (redirected (separated_below alg M most_rounds) (all_kept alg M) u) (reduced alg M).moves
  new_move u m from =
      let ks = all_kept alg M in
      let stays : Move G → Bool = λ v. list_any (λ r. eqb r v.from) ks in
      member_map (redirected (separated_below alg M most_rounds) ks) u (filter stays M.moves)
      (member_kept stays u M.moves m (some_any (λ r. eqb r u.from) u.from ks from (eq-eqb u.from u.from refl)))

module _ {E G : Type 0} (alg : Model E G) (laws : Laws alg) (M : Machine G) (proper : Proper alg M) (small : M.count ≤ most_states) where
  first_in : (j : ℕ) → j < length (all_kept alg M) → first_of alg M j < M.count
  first_in j h = kept_below (separated_below alg M most_rounds) M.count (first_of alg M j) (member_get_or (all_kept alg M) j 0 h)

  class_below : (q : ℕ) → q < M.count → class alg M q < length (all_kept alg M)
  class_below = class_in (separated_below alg M most_rounds) (below_itself alg M most_rounds) M.count

  -- the state that stands for a class accepts the days of each state in it
  first_days : (q : ℕ) → q < M.count → (w : List E) → Day alg w → accepted (automaton alg M) (first_of alg M (class alg M q)) w ≡ accepted (automaton alg M) q w
  first_days q h = same_days alg laws M proper small (first_of alg M (class alg M q)) q (first_in (class alg M q) (class_below q h)) h (class_first (separated_below alg M most_rounds) (below_itself alg M most_rounds) M.count q h)

  class_of_first : (j : ℕ) → j < length (all_kept alg M) → class alg M (first_of alg M j) ≡ j
  class_of_first = class_kept (separated_below alg M most_rounds) (below_itself alg M most_rounds) M.count

  some_kept : 0 < length (all_kept alg M)
  some_kept = omega (arith, class_below 0 proper.in_range.some)

  reduced_leads : (j : ℕ) (e : E) (q : ℕ) → j < length (all_kept alg M) → Leads alg M (first_of alg M j) e q → Leads alg (reduced alg M) j e (class alg M q)
  reduced_leads j e q h (v, m, from, admits, to) = (
    redirected (separated_below alg M most_rounds) (all_kept alg M) v,
    new_move alg M v m (subst (λ (i : ℕ). Member i (all_kept alg M)) (sym from) (member_get_or (all_kept alg M) j 0 h)),
    ap (class alg M) from ∙ class_of_first j h,
    admits,
    ap (class alg M) to,
  )

  reduced_in_range : InRange alg (reduced alg M)
  reduced_in_range = record {
    some = some_kept;
    endings_in = λ j t. elim (cases_lt j (length (all_kept alg M))) [
      | inl h ↦ h
      | inr h ↦ absurd (both_ways (get_or (map M.endings (all_kept alg M)) j false) (get_or_past (map M.endings (all_kept alg M)) j false (omega (arith, length-map (all_kept alg M) M.endings))) t)
    ];
    from_in = λ v m. let o = old_move alg M v m in subst (λ (i : ℕ). i < length (all_kept alg M)) (ap (λ v. v.from) o.3) (class_below o.0.from (proper.in_range.from_in o.0 o.1));
    to_in = λ v m. let o = old_move alg M v m in subst (λ (i : ℕ). i < length (all_kept alg M)) (ap (λ v. v.to) o.3) (class_below o.0.to (proper.in_range.to_in o.0 o.1));
  }

  reduced_complete : Complete alg (reduced alg M)
  reduced_complete j e h d =
      let q = (automaton alg M).next (first_of alg M j) e in
      (class alg M q, reduced_leads j e q h (step_leads alg laws M proper (first_of alg M j) e (first_in j h) d))

  reduced_deterministic : Deterministic alg (reduced alg M)
  reduced_deterministic u v mu mv =
      let a = old_move alg M u mu in
      let b = old_move alg M v mv in
      let own = kept_class (separated_below alg M most_rounds) (below_itself alg M most_rounds) M.count in
      subst₂ (λ (x y : Move G). x.from ≡ y.from → (e : E) → alg.admits (alg.meet x.guard y.guard) e ≡ true → x.to ≡ y.to) a.3 b.3
      (λ from e both. ap (class alg M) (proper.deterministic a.0 b.0 a.1 b.1 (sym (own a.0.from a.2) ∙ ap (first_of alg M) from ∙ own b.0.from b.2) e both))

  pub reduced_proper : Proper alg (reduced alg M)
  reduced_proper = record { in_range = reduced_in_range; complete = reduced_complete; deterministic = reduced_deterministic }

  -- a state of the reduced machine accepts the days of the state that stands for it
  accepts_like : (w : List E) (j : ℕ) → j < length (all_kept alg M) → Day alg w → accepted (automaton alg (reduced alg M)) j w ≡ accepted (automaton alg M) (first_of alg M j) w
  accepts_like [] j h d = get_or-map M.endings (all_kept alg M) j 0 false h
  accepts_like (e ∷ w) j h d =
      let p = first_of alg M j in
      let q = (automaton alg M).next p e in
      let hq = (automaton_valid alg laws M proper).next_in p e (first_in j h) d.0 in
      ap (λ i. accepted (automaton alg (reduced alg M)) i w) (leads_step alg laws (reduced alg M) reduced_proper j e (class alg M q) (reduced_leads j e q h (step_leads alg laws M proper p e (first_in j h) d.0)))
      ∙ accepts_like w (class alg M q) (class_below q hq) d.1
      ∙ first_days q hq w d.1

  pub reduced_days : (w : List E) → Day alg w → accepted (automaton alg (reduced alg M)) 0 w ≡ accepted (automaton alg M) 0 w
  reduced_days w d =
      accepts_like w 0 some_kept d ∙ ap (λ i. accepted (automaton alg M) i w) (first_kept (separated_below alg M most_rounds) (below_itself alg M most_rounds) M.count proper.in_range.some)

  apart_by : (i j : ℕ) → i < j → i < length (all_kept alg M) → j < length (all_kept alg M) → (w : List E) × Day alg w × (accepted (automaton alg (reduced alg M)) i w ≡ accepted (automaton alg (reduced alg M)) j w → ⊥)
  apart_by i j h hi hj =
      let p = first_of alg M i in
      let q = first_of alg M j in
      let s = in_order_at (separated_below alg M most_rounds) (all_kept alg M) (kept_order (separated_below alg M most_rounds) M.count) i j h hj in
      let t = (below_decides alg laws M proper most_rounds p q (first_in i hi) (first_in j hj)).0 s in
      let w = t.0 in
      (w, t.1, λ e. both_ways _ (same_differ (accepted (automaton alg M) p w) (accepted (automaton alg M) q w) (sym (accepts_like w i hi t.1) ∙ e ∙ accepts_like w j hj t.1)) t.3)

  reduced_apart : (i j : ℕ) → i < length (all_kept alg M) → j < length (all_kept alg M) → (i ≡ j → ⊥) → (w : List E) × Day alg w × (accepted (automaton alg (reduced alg M)) i w ≡ accepted (automaton alg (reduced alg M)) j w → ⊥)
  reduced_apart i j hi hj other = elim (cases_order i j) [
    | inl e ↦ absurd (other e)
    | inr (inl h) ↦ apart_by i j h hi hj
    | inr (inr h) ↦ let a = apart_by j i h hj hi in (a.0, a.1, λ e. a.2 (sym e))
  ]

  module _ (reached : (q : ℕ) → q < M.count → (w : List E) × Day alg w × LeadsTo alg M 0 w q) where
    reduced_reached : (j : ℕ) → j < length (all_kept alg M) → (w : List E) × Day alg w × (run (automaton alg (reduced alg M)).next 0 w ≡ j)
    reduced_reached j h =
        let p = first_of alg M j in
        let a = reached p (first_in j h) in
        let w = a.0 in
        let A = automaton alg M in
        let N = automaton alg (reduced alg M) in
        let i = run N.next 0 w in
        let hi : i < length (all_kept alg M) = run_in alg.domain N (automaton_valid alg laws (reduced alg M) reduced_proper) 0 w some_kept a.1 in
        let same : (v : List E) → Day alg v → accepted N i v ≡ accepted N j v = λ v d.
        ap N.endings (sym (run_append N.next 0 w v))
        ∙ reduced_days (w ++ v) (All-append (λ e. alg.domain e ≡ true) w v a.1 d)
        ∙ ap M.endings (run_append A.next 0 w v)
        ∙ ap (λ q. accepted A q v) (sym (run_only alg laws M proper 0 w p proper.in_range.some a.1 a.2))
        ∙ sym (accepts_like v j h d) in
        (w, a.1, elim (cases_eq i j) [ inl e ↦ e | inr other ↦ let x = reduced_apart i j hi h other in absurd (x.2 (same x.0 x.1)) ])

    pub reduced_reduced : Reduced alg.domain (automaton alg (reduced alg M))
    reduced_reduced = record { valid = automaton_valid alg laws (reduced alg M) reduced_proper; reached = reduced_reached; apart = reduced_apart }
