use Rattle.std.proofs.Common.{◌≡◌, ◌≤◌, length, take}
use Rattle.std.specs.List.{flat_map}
use Rattle.automata.specs.Limits.{most_moves}
use Rattle.automata.specs.Product.{product_moves}
use Rattle.tables.specs.Machines.{machine_of}
use Rattle.reduction.proofs.reached.ReachedPairs.place_moves.Given as goal

abbrev pub invariant-loop-pair : goal.invariant-loop-pair
invariant-loop-pair g l =
    let s = l.self.graph in
    let moves = product_moves (g.A.Algebra.model s.alg.now) (machine_of s.rule.now) (machine_of s.clause.now) in
    (l.out ≡ record { items = flat_map moves (take l.pair-index l.pair-items); room = most_moves }) × (length l.out.items ≤ most_moves)
