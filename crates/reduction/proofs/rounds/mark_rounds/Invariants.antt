use Rattle.std.proofs.Common.{◌+◌}
use Rattle.tables.specs.Machines.{machine_of}
use Rattle.reduction.specs.Rounds.{RoundMarks}
use Rattle.reduction.proofs.rounds.mark_rounds.Given as goal

abbrev pub invariant-loop-round : goal.invariant-loop-round
invariant-loop-round g l = RoundMarks (g.A.Algebra.model l.alg) (machine_of l.machine) (l.round + 1) l.marks
