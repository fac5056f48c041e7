use Rattle.std.proofs.Common.{◌≡◌, ◌≤◌, ◌++◌, map, length}
use Rattle.guards.specs.Lists.{Member}
use Rattle.automata.specs.Product.{pair_number, product_moves}
use Rattle.automata.specs.declared.pairs.PairMove.{PairMove}
use Rattle.tables.specs.Machines.{machine_of}
use Rattle.reduction.proofs.reached.ReachedPairs.put_moves.Given as goal

-- the moves that are put and those that are left are all, and those that are left lead to found pairs
abbrev pub invariant-loop-found : goal.invariant-loop-found
invariant-loop-found g l =
    let s = l.self.graph in
    let alg = g.A.Algebra.model s.alg.now in
    let number = pair_number alg (machine_of s.rule.now) (machine_of s.clause.now) in
    (l.out.items ++ map (λ a. record { from = number l.fn.pair; guard = a.guard; to = number a.to }) l.found-iterator
    ≡ l.initial.out.items ++ product_moves alg (machine_of s.rule.now) (machine_of s.clause.now) l.fn.pair)
    × (l.out.room ≡ l.initial.out.room)
    × (length l.out.items ≤ l.out.room)
    × ((a : PairMove _) → Member a l.found-iterator → Member a.to l.self.work.found)
