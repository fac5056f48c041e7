use Rattle.std.proofs.Common.{◌≡◌, ℕ, ◌/◌, ◌%◌, ◌<◌, get_or}
use Rattle.automata.specs.Limits.{most_states}
use Rattle.tables.specs.Endings.{holds}
use Rattle.reduction.specs.Marks.{first_round, marked_round}
use Rattle.reduction.proofs.marks.PairMarks.new.Given as goal

abbrev pub invariant-loop-place : goal.invariant-loop-place
invariant-loop-place l = (k : ℕ) → k < l.place → marked_round (get_or l.mark-items k 0) ≡ first_round (holds l.endings) (k / most_states) (k % most_states)
