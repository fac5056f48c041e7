use Rattle.std.proofs.Common.{◌≡◌, ℕ, ◌-◌, ◌≤◌}
use Rattle.automata.specs.Limits.{most_states}
use Rattle.automata.specs.Search.{reached, visit}
use Rattle.tables.proofs.searching.search.Given as goal

-- what visiting the nodes that are left finds is the answer
abbrev pub invariant-loop-node : goal.invariant-loop-node
invariant-loop-node g l =
    (fuel : ℕ) → most_states ≤ fuel
    → visit g.G.Node.Node.same (g.G.Graph.successors l.graph) (fuel - l.work.visited) l.work.visited l.work.found ≡ reached g.G.Node.Node.same (g.G.Graph.successors l.graph) fuel l.fn.start

abbrev pub decreases-loop-node : goal.decreases-loop-node
decreases-loop-node g l = most_states - l.work.visited
