use Rattle.machines.proofs.Turned.{turn_means}
use Rattle.machines.proofs.clauses.Rule.turn.Goals as goal

pub returns-clause-meaning : goal.returns-clause-meaning
returns-clause-meaning g c = turn_means (g.A.Algebra.model c.args.alg.now) (g.met.A.Algebra.lawful c.args.alg.now) c.args.self c.complement.result c.complement.ensures
