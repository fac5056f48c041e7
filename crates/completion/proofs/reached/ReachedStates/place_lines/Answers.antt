use Rattle.std.proofs.Common.{◌++◌, map, refl, sym, ap, ◌∙◌, subst}
use Rattle.guards.specs.Lists.{Member}
use Rattle.automata.proofs.LiveMoves.{live_reached}
use Rattle.completion.proofs.PlacedLines.{next_found, next_placed}
use Rattle.completion.proofs.ReachedStates.{ranged}
use Rattle.tables.specs.Machines.{machine_of}
use Rattle.completion.specs.Placing.{renumbered}
use Rattle.completion.proofs.reached.ReachedStates.place_lines.Goals as goal

pub loop-line-init : goal.loop-line-init
loop-line-init g c =
    let s = c.args.self.now in
    let m = g.A.Algebra.model s.graph.alg.now in
    let M = machine_of s.graph.clause.now in
    let left = c.into_iter-line-iterator.ensures.into_iter_gives ∙ c.live_moves-line-items.ensures in
    record {
      room = refl;
      items = ap (λ vs. c.args.moves.now.items ++ map (renumbered m M c.args.state) vs) left;
      inside = λ v k. subst (Member v.to) (sym s.all) (live_reached m (g.met.A.Algebra.lawful s.graph.alg.now) M (ranged m s.graph.clause.now) c.args.state v (subst (Member c.args.state) s.all c.requires) (subst (Member v) left k));
    }

pub number-requires : goal.number-requires
number-requires g c =
    let s = c.args.self.now in
    next_found (g.A.Algebra.model s.graph.alg.now) (machine_of s.graph.clause.now) s.work.found c.args.state c.args.moves.now _ _ _ c.loop-line.invariant c.in-Some.line _ c.in-Some.ensures.steps

pub loop-line-preserved : goal.loop-line-preserved
loop-line-preserved g c =
    let s = c.args.self.now in
    let m = g.A.Algebra.model s.graph.alg.now in
    let M = machine_of s.graph.clause.now in
    let line = c.in-Some.line in
    next_placed m M s.work.found c.args.state c.args.moves.now _ _ _ c.loop-line.invariant line _ c.in-Some.ensures.steps
    (record { from = c.number-from.result; guard = line.guard; to = c.number.result }) (λ i. record { from = c.number-from.ensures i; guard = line.guard; to = c.number.ensures i }) c.push.new.self c.in_ok-push.ensures.1
