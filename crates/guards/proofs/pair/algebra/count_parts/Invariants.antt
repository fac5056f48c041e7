-- The numbers so far have parts.
use Rattle.std.proofs.Common.{◌≤◌, length}
use Rattle.guards.proofs.pair.algebra.count_parts.Given as goal

abbrev pub invariant-loop-number : goal.invariant-loop-number
invariant-loop-number g l = l.number ≤ length ((g.A.Algebra.model l.alg).parts l.a l.b)
