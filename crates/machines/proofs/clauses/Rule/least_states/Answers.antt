use Rattle.automata.proofs.Sheets.{least_of_kind}
use Rattle.machines.proofs.clauses.Rule.least_states.Goals as goal

pub returns-clause-least : goal.returns-clause-least
returns-clause-least g c = least_of_kind (g.A.Algebra.model c.args.alg.now) (g.met.A.Algebra.lawful c.args.alg.now)
