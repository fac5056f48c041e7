use Rattle.tables.specs.Machines.{machine_of}
use Rattle.completion.specs.Placing.{lines_of}
use Rattle.completion.proofs.PlacedLines.{Placing}
use Rattle.completion.proofs.reached.ReachedStates.place_lines.Given as goal

abbrev pub invariant-loop-line : goal.invariant-loop-line
invariant-loop-line g l =
    let m = g.A.Algebra.model l.self.graph.alg.now in
    let M = machine_of l.self.graph.clause.now in
    Placing m M l.self.work.found l.fn.state l.initial.moves (lines_of m M l.fn.state) l.moves l.line-iterator
