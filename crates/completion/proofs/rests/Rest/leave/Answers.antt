use Rattle.std.proofs.lemmas.Result.{MatchResult-from_err}
use Rattle.completion.proofs.Stages.{stage_next, stage_short}
use Rattle.completion.proofs.rests.Rest.leave.Goals as goal

pub returns-in_err-narrow : goal.returns-in_err-narrow
returns-in_err-narrow g c =
    MatchResult-from_err _ _ _ c.from_residual-in_err-narrow.ensures.0
    (λ _. stage_short (g.A.Algebra.model c.args.graph.now.alg.now) _ _ _ c.loop-line.invariant c.in-Some.line _ c.in-Some.ensures.steps c.in_err-narrow.ensures)
