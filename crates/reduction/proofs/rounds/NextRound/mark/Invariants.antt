use Rattle.std.proofs.Common.{◌≡◌, false, take}
use Rattle.std.specs.List.{list_any}
use Rattle.automata.specs.Rounds.{fit}
use Rattle.reduction.specs.Marks.{in_round}
use Rattle.reduction.specs.Rounds.{NextMarks}
use Rattle.reduction.proofs.rounds.NextRound.mark.Given as goal

abbrev pub invariant-loop-first : goal.invariant-loop-first
invariant-loop-first g l =
    NextMarks l.self.round (λ p q. list_any (λ u. list_any (fit (g.A.Algebra.model l.self.alg.now) (in_round l.initial.marks l.self.round) p q u) l.self.machine.now.moves.now) (take l.first-index l.first-items)) l.initial.marks l.marks
    × (l.found ≡ false → l.marks ≡ l.initial.marks)
