use Rattle.std.proofs.Common.{sym, ap, ◌∙◌, arith}
use Rattle.std.proofs.Common.{length}
use Rattle.reduction.proofs.MovesLeft.{next_left, none_left}
use Rattle.reduction.proofs.pair_moves.PairMovesIterator.next.Goals as goal

pub returns-in-Some-first_joined-clause-steps : goal.returns-in-Some-first_joined-clause-steps
returns-in-Some-first_joined-clause-steps g c =
    let s = c.loop-rule_line.self-inside in
    sym c.self.view_is ∙ sym c.loop-rule_line.invariant
    ∙ next_left (g.A.Algebra.model s.alg.now) s.clause_moves.now s.pair c.in-Some.rule_line.now s.rule_left.now c.in-Some.rule_later.now s.clause_left.now c.in-Some.ensures.cases.0
    c.in-Some-first_joined.place c.index-self-place.result c.met-found.result c.in-Some-first_joined.ensures c.index-self-place.is c.met-found.ensures

pub returns-in-Some-first_joined-clause-goes : goal.returns-in-Some-first_joined-clause-goes
returns-in-Some-first_joined-clause-goes g c =
    let e = returns-in-Some-first_joined-clause-steps g c in
    record { on = λ _. (tt, tt, omega (arith, ap length e)); keeps = tt; rests = λ _. tt }

pub loop-rule_line-preserved : goal.loop-rule_line-preserved
loop-rule_line-preserved g c =
    let s = c.loop-rule_line.self-inside in
    none_left (g.A.Algebra.model s.alg.now) s.clause_moves.now s.pair c.in-Some.rule_line.now s.rule_left.now c.in-Some.rule_later.now s.clause_left.now c.in-Some.ensures.cases.0
    (sym c.in_default-first_joined.ensures) ∙ c.loop-rule_line.invariant
