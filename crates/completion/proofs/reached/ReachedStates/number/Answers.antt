use Rattle.std.proofs.Common.{subst}
use Rattle.guards.specs.Lists.{Member}
use Rattle.completion.proofs.ReachedStates.{reached_below}
use Rattle.completion.proofs.reached.ReachedStates.number.Goals as goal

pub place_of-requires-clause-inside : goal.place_of-requires-clause-inside
place_of-requires-clause-inside g c =
    let s = c.args.self.now in
    reached_below (g.A.Algebra.model s.graph.alg.now) s.graph.clause.now c.args.state (subst (Member c.args.state) s.all c.requires)
