use Rattle.automata.specs.Checking.{live}
use Rattle.tables.specs.Machines.{machine_of}
use Rattle.completion.proofs.Stages.{Stage}
use Rattle.completion.proofs.rests.Rest.leave.Given as goal

abbrev pub invariant-loop-line : goal.invariant-loop-line
invariant-loop-line g l =
    let m = g.A.Algebra.model l.graph.alg.now in
    Stage m (live m (machine_of l.graph.clause.now) l.fn.state) l.line-iterator l.self
