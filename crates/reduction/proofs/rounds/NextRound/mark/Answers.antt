use Rattle.std.proofs.Common.{◌∙◌}
use Rattle.std.proofs.lemmas.Bool.{or_parts}
use Rattle.std.specs.List.{list_any}
use Rattle.automata.specs.Rounds.{fit}
use Rattle.reduction.proofs.NextRounds.{next_more, next_all}
use Rattle.reduction.proofs.rounds.NextRound.mark.Goals as goal

pub loop-first-preserved : goal.loop-first-preserved
loop-first-preserved g c = (
  next_more c.args.self.now.round (λ R p q u. list_any (fit (g.A.Algebra.model c.args.self.now.alg.now) R p q u) c.args.self.now.machine.now.moves.now) c.args.self.now.machine.now.moves.now c.loop-first.first-index c.args.marks.now
      c.loop-first.marks c.loop-first.invariant.0 c.first-item.result c.mark_by-found.new.marks c.loop-first-test.true c.first-item.is c.mark_by-found.ensures.next,
  λ none. let parts = or_parts c.loop-first.found c.mark_by-found.result none in c.mark_by-found.ensures.same parts.1 ∙ c.loop-first.invariant.1 parts.0,
)

pub returns-clause-next : goal.returns-clause-next
returns-clause-next g c =
    next_all c.args.self.now.round (λ R p q u. list_any (fit (g.A.Algebra.model c.args.self.now.alg.now) R p q u) c.args.self.now.machine.now.moves.now) c.args.self.now.machine.now.moves.now c.loop-first.first-index c.args.marks.now
    c.loop-first.marks c.loop-first.invariant.0 c.loop-first-test.false
