use Rattle.std.proofs.Common.{◌≡◌, false, take}
use Rattle.std.specs.List.{list_any}
use Rattle.automata.specs.Rounds.{fit}
use Rattle.reduction.specs.Marks.{in_round}
use Rattle.reduction.specs.Rounds.{NextMarks}
use Rattle.reduction.proofs.rounds.NextRound.mark_by.Given as goal

abbrev pub invariant-loop-second : goal.invariant-loop-second
invariant-loop-second g l =
    NextMarks l.self.round (λ p q. list_any (fit (g.A.Algebra.model l.self.alg.now) (in_round l.initial.marks l.self.round) p q l.first) (take l.second-index l.second-items)) l.initial.marks l.marks
    × (l.found ≡ false → l.marks ≡ l.initial.marks)
