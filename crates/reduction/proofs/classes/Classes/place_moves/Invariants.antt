use Rattle.std.proofs.Common.{◌≤◌, take}
use Rattle.reduction.specs.Placed.{Placed}
use Rattle.reduction.specs.Reducing.{moves_kept}
use Rattle.reduction.proofs.classes.Classes.place_moves.Given as goal

abbrev pub invariant-loop-line : goal.invariant-loop-line
invariant-loop-line g l = Placed (moves_kept l.self.marks.now l.self.kept.items (take l.line-index l.moves)) l.initial.table l.table l.count × (l.count ≤ l.line-index)
