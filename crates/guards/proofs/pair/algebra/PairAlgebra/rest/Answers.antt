use Rattle.std.proofs.Common.{sym, ◌∙◌, ap, ap₂, is_some}
use Rattle.std.specs.Option.{option_map}
use Rattle.guards.specs.Pair.{both}
use Rattle.guards.proofs.PairParts.{rest_second}
use Rattle.guards.proofs.pair.algebra.PairAlgebra.rest.Goals as goal

pub returns-in_err-second : goal.returns-in_err-second
returns-in_err-second g c =
    let m = g.L.Algebra.model c.args.self.now.first in
    let a = c.args.a in
    let none = sym c.rest.ensures ∙ c.in_default.is in
    c.from_residual-in_err-second.ensures ∙ ap (option_map (both (m.meet a.first c.args.b.first))) (sym c.in_err-second.was)
    ∙ rest_second m (g.R.Algebra.model c.args.self.now.second) a c.args.b c.args.part (ap is_some (sym c.sample.ensures ∙ c.in_ok-sample.was)) none
    (ap is_some (ap m.sample (sym c.meet-met.ensures) ∙ sym c.sample-2.ensures ∙ c.in_ok-sample-2.was)) c.count_parts-firsts.result
    c.count_parts-firsts.ensures c.rest-2.result c.rest-2.ensures

pub returns : goal.returns
returns g c =
    let m = g.L.Algebra.model c.args.self.now.first in
    let a = c.args.a in
    let none = sym c.rest.ensures ∙ c.in_default.is in
    ap₂ (λ x o. option_map (both x) o) c.meet-met.ensures (sym c.in_ok-second.was)
    ∙ rest_second m (g.R.Algebra.model c.args.self.now.second) a c.args.b c.args.part (ap is_some (sym c.sample.ensures ∙ c.in_ok-sample.was)) none
    (ap is_some (ap m.sample (sym c.meet-met.ensures) ∙ sym c.sample-2.ensures ∙ c.in_ok-sample-2.was)) c.count_parts-firsts.result
    c.count_parts-firsts.ensures c.rest-2.result c.rest-2.ensures
