use Rattle.std.proofs.Common.{rules, Ok}
use Rattle.machines.proofs.RunMeanings.{ran_means}
use Rattle.machines.proofs.clauses.Rule.run.Goals as goal

pub returns-in_err-machine-clause-meaning : goal.returns-in_err-machine-clause-meaning
returns-in_err-machine-clause-meaning g c =
    ran_means (g.A.Algebra.model c.args.alg.now) (g.met.A.Algebra.lawful c.args.alg.now) c.args.self.now.counts c.args.self.now.endings c.args.table.now c.args.day.now c.from_residual-in_err-machine.result (search rules)

pub returns-in_err-state-clause-meaning : goal.returns-in_err-state-clause-meaning
returns-in_err-state-clause-meaning g c =
    ran_means (g.A.Algebra.model c.args.alg.now) (g.met.A.Algebra.lawful c.args.alg.now) c.args.self.now.counts c.args.self.now.endings c.args.table.now c.args.day.now c.from_residual-in_err-state.result (search rules)

pub returns-clause-meaning : goal.returns-clause-meaning
returns-clause-meaning g c =
    ran_means (g.A.Algebra.model c.args.alg.now) (g.met.A.Algebra.lawful c.args.alg.now) c.args.self.now.counts c.args.self.now.endings c.args.table.now c.args.day.now (Ok (c.in_ok-state.state, c.contains.result)) (search rules)
