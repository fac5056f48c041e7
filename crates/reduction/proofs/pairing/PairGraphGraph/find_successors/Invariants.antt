use Rattle.std.proofs.Common.{◌≡◌, map}
use Rattle.guards.specs.Lists.{Member}
use Rattle.automata.specs.Product.{pair_targets, same_pair}
use Rattle.automata.specs.Search.{add_all}
use Rattle.automata.specs.declared.pairs.PairMove.{PairMove}
use Rattle.tables.specs.Nodes.{PairInside}
use Rattle.reduction.proofs.pairing.PairGraphGraph.find_successors.Given as goal

-- what the moves that are left add is the answer, and they lead to pairs of states
abbrev pub invariant-loop-found : goal.invariant-loop-found
invariant-loop-found g l =
    (add_all same_pair l.work.found (map (λ a. a.to) l.found-iterator)
    ≡ add_all same_pair l.initial.work.found (pair_targets (g.A.Algebra.model l.fn.self.alg.now) l.fn.self.rule.now.moves.now l.fn.self.clause.now.moves.now l.fn.node))
    × (l.work.visited ≡ l.initial.work.visited)
    × ((a : PairMove _) → Member a l.found-iterator → PairInside a.to)
