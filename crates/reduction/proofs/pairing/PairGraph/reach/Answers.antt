use Rattle.std.proofs.Common.{◌≡◌, ◌<◌, length, MatchResult, rules, arith, subst}
use Rattle.automata.specs.Limits.{most_states, mark_bytes}
use Rattle.automata.specs.Product.{pairs}
use Rattle.automata.specs.declared.refusals.Refusal.TheVariants.{TooManyPairs}
use Rattle.tables.specs.Machines.{machine_of}
use Rattle.reduction.proofs.PairsReached.{pairs_found}
use Rattle.reduction.proofs.Refused.{refused_as}
use Rattle.reduction.proofs.pairing.PairGraph.reach.Goals as goal

pub returns : goal.returns
returns g c =
    let s = c.args.self.now in
    let alg = g.A.Algebra.model s.alg.now in
    let xs = pairs alg (machine_of s.rule.now) (machine_of s.clause.now) in
    let all = pairs_found alg (g.met.A.Algebra.lawful s.alg.now) s.rule.now s.clause.now in
    refused_as (λ _. c.search.new.work.found ≡ xs) (most_states < length xs) _ TooManyPairs (λ e f h. search rules) c.search.result c.map_err.result c.map_err.ensures.cases
    (subst (λ ys. MatchResult c.search.result (λ _. c.search.new.work.found ≡ ys) (λ _. most_states < length ys)) all (c.search.ensures mark_bytes (omega arith)))
