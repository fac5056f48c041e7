use Rattle.std.proofs.Common.{◌∙◌}
use Rattle.std.proofs.lemmas.Bool.{or_parts}
use Rattle.automata.specs.Rounds.{fit}
use Rattle.reduction.proofs.NextRounds.{next_more, next_all}
use Rattle.reduction.proofs.rounds.NextRound.mark_by.Goals as goal

pub loop-second-preserved : goal.loop-second-preserved
loop-second-preserved g c = (
  next_more c.args.self.now.round (λ R p q v. fit (g.A.Algebra.model c.args.self.now.alg.now) R p q c.args.first.now v) c.args.self.now.machine.now.moves.now c.loop-second.second-index c.args.marks.now c.loop-second.marks
      c.loop-second.invariant.0 c.second-item.result c.mark_pair-found.new.marks c.loop-second-test.true c.second-item.is c.mark_pair-found.ensures.next,
  λ none. let parts = or_parts c.loop-second.found c.mark_pair-found.result none in c.mark_pair-found.ensures.same parts.1 ∙ c.loop-second.invariant.1 parts.0,
)

pub returns-clause-next : goal.returns-clause-next
returns-clause-next g c =
    next_all c.args.self.now.round (λ R p q v. fit (g.A.Algebra.model c.args.self.now.alg.now) R p q c.args.first.now v) c.args.self.now.machine.now.moves.now c.loop-second.second-index c.args.marks.now c.loop-second.marks
    c.loop-second.invariant.0 c.loop-second-test.false
