use Rattle.std.proofs.Common.{◌≡◌, ◌≤◌, length, take}
use Rattle.automata.specs.Checking.{without}
use Rattle.automata.specs.Limits.{most_parts}
use Rattle.completion.proofs.rests.put_parts.Given as goal

abbrev pub invariant-loop-a : goal.invariant-loop-a
invariant-loop-a g l = record {
  put : l.list ≡ record { items = without (g.A.Algebra.model l.alg) l.b (take l.a-index l.guards); room = most_parts };
  fits : length l.list.items ≤ most_parts;
}
