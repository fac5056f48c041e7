use Rattle.std.proofs.Common.{rules, tests}
use Rattle.std.proofs.lemmas.Iterator.{YieldsList-from_slice, YieldsList-from_map}
use Rattle.std.proofs.lemmas.Iterator.Consumers.{YieldsList-at}
use Rattle.automata.specs.Checking.{number, sink}
use Rattle.tables.specs.Machines.{machine_of}
use Rattle.completion.proofs.reached.ReachedStates.place_rest.Goals as goal

pub returns : goal.returns
returns g c =
    let m = g.A.Algebra.model c.args.self.now.graph.alg.now in
    let M = machine_of c.args.self.now.graph.clause.now in
    c.extend.ensures.appends _ (YieldsList-from_map _ (λ h. record { from = number m M c.args.state; guard = h; to = sink m M }) (YieldsList-at c.map.ensures.source (YieldsList-from_slice c.args.guards.now cc))
    c.map.ensures.closure (λ x r q k. search (rules, tests))).runs
