use Rattle.std.proofs.Common.{ap, ◌∙◌}
use Rattle.std.proofs.lemmas.Iterator.Consumers.{YieldsList-from_first}
use Rattle.std.proofs.lemmas.Result.{MatchResult-from_err}
use Rattle.completion.proofs.Narrowing.{parts_put, parts_short}
use Rattle.completion.proofs.rests.put_parts.Goals as goal

pub returns-in_err-extend-clause-narrows : goal.returns-in_err-extend-clause-narrows
returns-in_err-extend-clause-narrows g c =
    let none = c.in_err-extend.ensures.appends _ (YieldsList-from_first (λ x. x) (λ s. s) _ c.new.ensures).runs in
    MatchResult-from_err _ _ _ c.from_residual.ensures.0
    (λ _. parts_short (g.A.Algebra.model c.args.alg.now) c.args.b c.args.guards.now c.loop-a.a-index c.loop-a.list c.loop-a.invariant.put c.a-item.result c.loop-a-test.true c.a-item.is none.0)

pub returns-in_err-extend-clause-room : goal.returns-in_err-extend-clause-room
returns-in_err-extend-clause-room g c =
    (c.in_err-extend.ensures.appends _ (YieldsList-from_first (λ x. x) (λ s. s) _ c.new.ensures).runs).1 ∙ ap (λ h. h.room) c.loop-a.invariant.put

pub loop-a-preserved : goal.loop-a-preserved
loop-a-preserved g c =
    parts_put (g.A.Algebra.model c.args.alg.now) c.args.b c.args.guards.now c.loop-a.a-index c.loop-a.list c.loop-a.invariant.put c.a-item.result c.loop-a-test.true c.a-item.is
    c.extend.new.self (c.in_ok-extend.ensures.appends _ (YieldsList-from_first (λ x. x) (λ s. s) _ c.new.ensures).runs) c.in_ok-extend.ensures.fits
