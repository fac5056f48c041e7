-- What turning a proper machine over means.
use Rattle.std.proofs.Common.{◌≡◌, ℕ, ◌<◌, Bool, true, false, cond, not, ltb, List, [], ◌∷◌, sym, refl, ◌∙◌, subst, inl, inr}
use Rattle.std.proofs.lemmas.Bool.{cases_lt, lt-ltb, le-ltb, cond-true, cond-false, both_ways, not_from_true, not_from_false}
use Rattle.guards.specs.Algebra.{Model, Laws}
use Rattle.tables.specs.Endings.{holds}
use Rattle.automata.specs.Machine.{Machine, LeadsTo, Proper}
use Rattle.machines.specs.Turning.{OtherDays}
use Rattle.tables.specs.Values.{machine}
use Rattle.tables.specs.declared.counts.Counts.{Counts}
use Rattle.machines.specs.declared.clauses.Rule.{Rule}
use Rattle.tables.specs.declared.endings.Endings.{Endings}
use Rattle.automata.specs.declared.moves.Move.{Move}
use Rattle.automata.proofs.MachineRuns.{walk_day}

-- where entries lead does not depend on the endings
leads_alike : {E G : Type 0} (alg : Model E G) (counts : Counts) (e f : Endings) (table : List (Move G)) (w : List E) (p q : ℕ)
    → LeadsTo alg (machine counts e table) p w q → LeadsTo alg (machine counts f table) p w q
leads_alike alg counts e f table [] p q l = l
leads_alike alg counts e f table (x ∷ w) p q l = (l.0, l.1, leads_alike alg counts e f table w l.0 q l.2)

module _ {E G : Type 0} (alg : Model E G) (laws : Laws alg) (counts : Counts) (e f : Endings) (table : List (Move G))
    (below : (k : ℕ) → holds f k ≡ true → k < counts.states) (turned : (k : ℕ) → k < counts.states → holds f k ≡ not (holds e k))
    (proper : Proper alg (machine counts e table)) where
  abbrev M : Machine G
  M = machine counts e table

  abbrev N : Machine G
  N = machine counts f table

  turned_proper : Proper alg N
  turned_proper = record {
    in_range = record {
      some = proper.in_range.some;
      endings_in = below;
      from_in = proper.in_range.from_in;
      to_in = proper.in_range.to_in;
    };
    complete = proper.complete;
    deterministic = proper.deterministic;
  }

  other_days : OtherDays alg M N
  other_days w d =
      let s = walk_day alg laws M proper 0 0 w proper.in_range.some d in (
        λ a b. never s.0 s.2 (s.4 a.0 (leads_alike alg counts f e table w 0 a.0 a.1)) (s.4 b.0 b.1) a.2 b.2,
        λ out. (s.0, leads_alike alg counts e f table w 0 s.0 s.3, turned s.0 s.2 ∙ not_from_false (holds e s.0) (refused (holds e s.0) (λ t. out (s.5.0 t)))),
      )
    where
      -- the day leads to one state, which is no ending of both
      never : (q : ℕ) → q < counts.states → {p r : ℕ} → p ≡ q → r ≡ q → holds f p ≡ true → holds e r ≡ true → ⊥
      never q small pq rq t u =
          both_ways (holds f q) (turned q small ∙ not_from_true (holds e q) (subst (λ (k : ℕ). holds e k ≡ true) rq u)) (subst (λ (k : ℕ). holds f k ≡ true) pq t)

      refused : (t : Bool) → (t ≡ true → ⊥) → t ≡ false
      refused true h = absurd (h refl)
      refused false h = refl

-- the endings that complementing gives: other endings below the count, and none past it
pub turn_means : {E G : Type 0} (alg : Model E G) (laws : Laws alg) (rule : Rule) (f : Endings) → ((k : ℕ) → holds f k ≡ cond (ltb k rule.counts.states) (not (holds rule.endings k)) (holds rule.endings k))
    → (table : List (Move G)) → Proper alg (machine rule.counts rule.endings table)
    → Proper alg (machine rule.counts f table) × OtherDays alg (machine rule.counts rule.endings table) (machine rule.counts f table)
turn_means alg laws rule f complement table proper =
    (turned_proper alg laws rule.counts rule.endings f table below turned proper, other_days alg laws rule.counts rule.endings f table below turned proper)
  where
    turned : (k : ℕ) → k < rule.counts.states → holds f k ≡ not (holds rule.endings k)
    turned k lt = complement k ∙ cond-true (ltb k rule.counts.states) (not (holds rule.endings k)) (holds rule.endings k) (lt-ltb k rule.counts.states lt)

    below : (k : ℕ) → holds f k ≡ true → k < rule.counts.states
    below k h = elim (cases_lt k rule.counts.states) [
      | inl lt ↦ lt
      | inr past ↦ rule.within.3 k (sym (complement k ∙ cond-false (ltb k rule.counts.states) (not (holds rule.endings k)) (holds rule.endings k) (le-ltb k rule.counts.states past)) ∙ h)
    ]
