use Rattle.std.proofs.Common.{sym, ◌∙◌}
use Rattle.reduction.proofs.NextRounds.{pair_marked}
use Rattle.reduction.proofs.rounds.NextRound.mark_pair.Goals as goal

pub returns-then-found-clause-next : goal.returns-then-found-clause-next
returns-then-found-clause-next g c =
    pair_marked (g.A.Algebra.model c.args.self.now.alg.now) c.args.self.now.round c.args.first.now c.args.second.now c.args.marks.now c.set.new.self (sym c.separates-found.ensures ∙ c.if-found.true) c.set.ensures
