use Rattle.std.proofs.Common.{◌≡◌, length}
use Rattle.reduction.specs.PairMoves.{moves_left}
use Rattle.reduction.proofs.pair_moves.PairMovesIterator.next.Given as goal

abbrev pub invariant-loop-rule_line : goal.invariant-loop-rule_line
invariant-loop-rule_line g l =
    let s = l.self-inside in
    let begun = l.initial.self-inside in
    moves_left (g.A.Algebra.model s.alg.now) s.clause_moves.now s.pair s.rule_left.now s.clause_left.now
    ≡ moves_left (g.A.Algebra.model begun.alg.now) begun.clause_moves.now begun.pair begun.rule_left.now begun.clause_left.now

abbrev pub decreases-loop-rule_line : goal.decreases-loop-rule_line
decreases-loop-rule_line g l = length l.self-inside.rule_left.now
