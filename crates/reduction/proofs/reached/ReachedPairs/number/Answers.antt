use Rattle.reduction.proofs.PairsReached.{found_inside}
use Rattle.reduction.proofs.reached.ReachedPairs.number.Goals as goal

pub place_of-requires-clause-inside : goal.place_of-requires-clause-inside
place_of-requires-clause-inside g c =
    let s = c.args.self.now.graph in
    found_inside (g.A.Algebra.model s.alg.now) (g.met.A.Algebra.lawful s.alg.now) s.rule.now s.clause.now c.args.self.now.work.found c.args.self.now.all c.args.found.to c.requires
