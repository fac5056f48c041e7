use Rattle.std.proofs.Common.{arith}
use Rattle.reduction.proofs.RoundsTold.{first_marks, more_marks, settled_marks}
use Rattle.reduction.proofs.rounds.mark_rounds.Goals as goal

pub loop-round-init : goal.loop-round-init
loop-round-init g c = first_marks (g.A.Algebra.model c.args.alg.now) c.args.machine.now c.new-marks.result c.new-marks.ensures

pub returns-then-not-mark : goal.returns-then-not-mark
returns-then-not-mark g c =
    settled_marks (g.A.Algebra.model c.args.alg.now) c.args.machine.now c.loop-round.round c.loop-round.marks c.mark.new.marks (omega arith) c.loop-round.invariant c.mark.ensures.next
    (c.mark.ensures.same c.if-not-mark.true)

pub loop-round-preserved : goal.loop-round-preserved
loop-round-preserved g c =
    more_marks (g.A.Algebra.model c.args.alg.now) c.args.machine.now c.loop-round.round c.loop-round.marks c.mark.new.marks c.loop-round.invariant c.mark.ensures.next
