use Rattle.std.proofs.Common.{◌≡◌, length}
use Rattle.reduction.specs.Reducing.{kept_states}
use Rattle.reduction.proofs.classes.Classes.new.Given as goal

abbrev pub invariant-loop-state : goal.invariant-loop-state
invariant-loop-state l = (l.classes.kept ≡ record { items = kept_states l.fn.marks l.state; room = length l.fn.buffer }) × (l.classes.marks.now ≡ l.fn.marks)
