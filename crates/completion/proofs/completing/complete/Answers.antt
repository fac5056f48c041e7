use Rattle.std.proofs.Common.{length, sym, ap, ap₂, ◌∙◌, arith}
use Rattle.std.specs.List.{list_any}
use Rattle.automata.specs.Running.{stray}
use Rattle.tables.specs.Endings.{holds}
use Rattle.tables.specs.Machines.{machine_of}
use Rattle.completion.proofs.CheckedTables.{checked_strays, checked_some, checked_few, read_below}
use Rattle.completion.proofs.ReachedStates.{ranged, reached_few}
use Rattle.completion.proofs.completing.complete.Goals as goal

pub invariant_of-result : goal.invariant_of-result
invariant_of-result g c =
    let s = c.new-reached.result in
    let m = g.A.Algebra.model s.graph.alg.now in
    let laws = g.met.A.Algebra.lawful s.graph.alg.now in
    let M = machine_of s.graph.clause.now in
    let range = ranged m s.graph.clause.now in
    let sink = c.in_ok-states.ensures in
    let clause = c.new-reached.ensures in
    record {
      some = omega (arith, sink.0, checked_some m laws M range);
      few = omega (arith, sink.0, checked_few m laws M range (omega (arith, reached_few m s.graph.clause.now, ap (λ gr. gr.clause.now.states) clause, c.requires.few)));
      few_moves = omega (arith, ap length c.into_slice.ensures, sink.2, ap (λ h. h.room) c.in_ok-place_states.ensures.1, ap (λ h. h.room) c.with_room-moves.ensures);
      below = λ k h. omega (arith, sink.0, read_below (holds c.args.clause.now.endings) c.found.result.now k (sym (c.reordered.ensures k) ∙ h), ap length c.found.ensures, ap length s.all);
      no_stray = ap₂ (λ n vs. list_any (stray n) vs) sink.0 (c.into_slice.ensures ∙ sink.1) ∙ checked_strays m laws M range;
    }
