use Rattle.std.proofs.Common.{◌≡◌, ◌≤◌, ◌++◌, length}
use Rattle.tables.proofs.lists.SliceVec.extend.Given as goal

abbrev pub invariant-loop-item : goal.invariant-loop-item
invariant-loop-item g l = record {
  appended : l.self ≡ record { items = l.initial.self.items ++ l.yielded; room = l.initial.self.room };
  fits : length l.self.items ≤ l.self.room;
}
