-- The reached states of a clause in its table: they are states, as many at most, and a search finds them in order.
use Rattle.std.proofs.Common.{◌≡◌, ℕ, ◌<◌, ◌≤◌, eqb, length, ap, arith}
use Rattle.guards.specs.Algebra.{Model}
use Rattle.guards.specs.Lists.{Member}
use Rattle.automata.specs.Checking.{is_live, live, successors, order}
use Rattle.automata.specs.Limits.{most_states}
use Rattle.automata.specs.Machine.{InRange}
use Rattle.automata.specs.Search.{reached, Reaches, Searched}
use Rattle.automata.specs.Search.Reaches.{itself, after}
use Rattle.automata.proofs.Members.{below, length_below, map_member, kept_member, member_below, pigeonhole}
use Rattle.automata.proofs.Places.{number_tells}
use Rattle.automata.proofs.Searching.{reached_searched, reached_enough}
use Rattle.automata.proofs.Strays.{in_range}
use Rattle.tables.specs.Machines.{machine_of}
use Rattle.tables.specs.declared.machines.Machine.{Machine}

module _ {E G : Type 0} (alg : Model E G) (d : Machine G) where
  pub ranged : InRange alg (machine_of d)
  ranged = in_range alg (machine_of d) d.some d.below d.no_stray

  successor_below : (p q : ℕ) → Member q (successors alg (machine_of d) p) → q < d.states
  successor_below p q m =
      let u = map_member (λ v. v.to) q (live alg (machine_of d) p) m in
      rw u.2 at (ranged.to_in u.0 (kept_member (is_live alg p) u.0 d.moves.now u.1).0)

  searched : Searched (successors alg (machine_of d)) 0 (order alg (machine_of d))
  searched =
      reached_searched eqb number_tells (successors alg (machine_of d)) (below d.states) (λ p q _ m. member_below q d.states (successor_below p q m)) 0 (member_below 0 d.states d.some) d.states
      (omega (arith, length_below d.states))

  reaches_below : (p : ℕ) → Reaches (successors alg (machine_of d)) 0 p → p < d.states
  reaches_below p itself = d.some
  reaches_below q (after {y = p} r m) = successor_below p q m

  pub reached_below : (p : ℕ) → Member p (order alg (machine_of d)) → p < most_states
  reached_below p m = omega (arith, reaches_below p (searched.only p m), d.few)

  pub reached_few : length (order alg (machine_of d)) ≤ d.states
  reached_few =
      omega (
        arith,
        pigeonhole (order alg (machine_of d)) (below d.states) searched.once (λ p m. member_below p d.states (reaches_below p (searched.only p m))),
        length_below d.states,
      )

  -- with room for the most states, a search finds them in order
  pub reached_order : reached eqb (successors alg (machine_of d)) most_states 0 ≡ order alg (machine_of d)
  reached_order =
      reached_enough eqb number_tells (successors alg (machine_of d)) (below d.states) (λ p q _ m. member_below q d.states (successor_below p q m)) 0 (member_below 0 d.states d.some) d.states most_states
      (omega (arith, length_below d.states)) d.few

  pub all_fit : length (reached eqb (successors alg (machine_of d)) most_states 0) ≤ most_states
  all_fit = omega (arith, ap length reached_order, reached_few, d.few)
