use Rattle.std.proofs.Common.{length, ap, arith}
use Rattle.reduction.proofs.ProductsBuilt.{built}
use Rattle.reduction.proofs.products.build_product.Goals as goal

pub invariant_of-result : goal.invariant_of-result
invariant_of-result g c =
    let placed = c.in_ok-moves.ensures in
    let b = built (g.A.Algebra.model c.args.alg.now) (g.met.A.Algebra.lawful c.args.alg.now) c.args.rule.now c.args.clause.now c.args.way c.reach.new.work.found c.found.result.now
    c.in_ok-reach.ensures c.found.ensures c.count-states.result c.pair_endings-endings.result c.in_ok-moves.moves.now c.count-states.ensures.is c.pair_endings-endings.ensures placed.0
    c.count-states.ensures.few (omega (arith, ap length placed.0, placed.1)) in
    record { some = b.some; few = c.count-states.ensures.few; few_moves = omega (arith, ap length placed.0, placed.1); below = b.below; no_stray = b.no_stray }

pub returns : goal.returns
returns g c =
    let placed = c.in_ok-moves.ensures in
    let b = built (g.A.Algebra.model c.args.alg.now) (g.met.A.Algebra.lawful c.args.alg.now) c.args.rule.now c.args.clause.now c.args.way c.reach.new.work.found c.found.result.now
    c.in_ok-reach.ensures c.found.ensures c.count-states.result c.pair_endings-endings.result c.in_ok-moves.moves.now c.count-states.ensures.is c.pair_endings-endings.ensures placed.0
    c.count-states.ensures.few (omega (arith, ap length placed.0, placed.1)) in
    (b.allowed, b.is)
