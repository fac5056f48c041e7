use Rattle.std.proofs.Common.{rules}
use Rattle.machines.proofs.ToldStates.{told_shortest}
use Rattle.machines.proofs.clauses.Rule.tell_apart.Goals as goal

pub returns-in_err-machine-clause-told : goal.returns-in_err-machine-clause-told
returns-in_err-machine-clause-told g c =
    told_shortest (g.A.Algebra.model c.args.alg.now) (g.met.A.Algebra.lawful c.args.alg.now) c.args.self.now c.args.table.now c.args.first c.args.second c.args.word.now c.args.marks.now c.args.word.now c.from_residual-in_err-machine.result (search rules) (search rules)

pub returns-clause-told : goal.returns-clause-told
returns-clause-told g c =
    told_shortest (g.A.Algebra.model c.args.alg.now) (g.met.A.Algebra.lawful c.args.alg.now) c.args.self.now c.args.table.now c.args.first c.args.second c.args.word.now c.args.marks.now c.place_word.new.word c.place_word.result (search rules) (search rules)
