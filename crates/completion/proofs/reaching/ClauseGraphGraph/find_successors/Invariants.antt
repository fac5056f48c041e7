use Rattle.std.proofs.Common.{◌≡◌, eqb}
use Rattle.automata.specs.Checking.{targets}
use Rattle.automata.specs.Search.{add_all}
use Rattle.completion.proofs.Targets.{Finding}
use Rattle.completion.proofs.reaching.ClauseGraphGraph.find_successors.Given as goal

abbrev pub invariant-loop-line : goal.invariant-loop-line
invariant-loop-line g l = record {
  finding : Finding (add_all eqb l.initial.work.found (targets (g.A.Algebra.model l.fn.self.alg.now) l.fn.self.clause.now.moves.now l.fn.node)) l.work.found l.line-iterator;
  visited : l.work.visited ≡ l.initial.work.visited;
}
