use Rattle.std.proofs.Common.{rules, tests, arith}
use Rattle.std.proofs.lemmas.Iterator.{YieldsList-from_slice}
use Rattle.std.proofs.lemmas.Iterator.Adapters.{YieldsList-from_once}
use Rattle.std.proofs.lemmas.Iterator.Search.{any_from_yields_List}
use Rattle.std.proofs.lemmas.Result.{MatchResult-from_err}
use Rattle.tables.specs.Machines.{machine_of}
use Rattle.completion.proofs.ReachedStates.{ranged, reached_few}
use Rattle.completion.proofs.SinkMoves.{leads, from_bool_few, sink_placed, sink_unplaced}
use Rattle.completion.proofs.reached.ReachedStates.place_sink.Goals as goal

pub returns-in_err-extend : goal.returns-in_err-extend
returns-in_err-extend g c =
    let graph = c.args.self.now.graph in
    let m = g.A.Algebra.model graph.alg.now in
    let laws = g.met.A.Algebra.lawful graph.alg.now in
    let M = machine_of graph.clause.now in
    let range = ranged m graph.clause.now in
    let answer = any_from_yields_List (leads m laws M range) _ _ _ c.any-leads.ensures.ran (YieldsList-from_slice c.args.moves.now.items cc) (λ x b q k. search (rules, tests)) in
    MatchResult-from_err _ _ _ c.from_residual.ensures.0 (λ _. sink_unplaced m laws M range c.args.moves.now c.requires c.any-leads.result answer
    _ (λ i. record { from = c.sink-sink.ensures i; guard = c.whole.ensures i; to = c.sink-sink.ensures i })
    (rw c.then_some-own.ensures at (c.in_err-extend.ensures.appends _ (YieldsList-from_once c.then_some-own.result c.into_iter.ensures.into_iter_gives.0).runs)).0)

pub overflow_add-result : goal.overflow_add-result
overflow_add-result g c =
    let graph = c.args.self.now.graph in
    omega (arith, c.sink-sink.ensures, c.from.ensures, from_bool_few c.any-leads.result, reached_few (g.A.Algebra.model graph.alg.now) graph.clause.now, graph.clause.now.few)

pub returns : goal.returns
returns g c =
    let graph = c.args.self.now.graph in
    let m = g.A.Algebra.model graph.alg.now in
    let laws = g.met.A.Algebra.lawful graph.alg.now in
    let M = machine_of graph.clause.now in
    let range = ranged m graph.clause.now in
    let answer = any_from_yields_List (leads m laws M range) _ _ _ c.any-leads.ensures.ran (YieldsList-from_slice c.args.moves.now.items cc) (λ x b q k. search (rules, tests)) in
    sink_placed m laws M range c.args.moves.now c.requires c.any-leads.result answer
    _ (λ i. record { from = c.sink-sink.ensures i; guard = c.whole.ensures i; to = c.sink-sink.ensures i })
    _ _ c.sink-sink.ensures c.from.ensures c.extend.new.self
    (rw c.then_some-own.ensures at (c.in_ok-extend.ensures.appends _ (YieldsList-from_once c.then_some-own.result c.into_iter.ensures.into_iter_gives.0).runs))
    c.in_ok-extend.ensures.fits
