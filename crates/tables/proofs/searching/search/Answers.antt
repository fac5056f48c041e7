use Rattle.std.proofs.Common.{◌≡◌, ◌<◌, length, ap, ◌∙◌, arith}
use Rattle.std.proofs.lemmas.Result.{MatchResult-from_err}
use Rattle.automata.specs.Limits.{most_states}
use Rattle.automata.specs.Search.{reached}
use Rattle.tables.proofs.SearchLoop.{visit_more, visit_short, visit_all}
use Rattle.tables.proofs.searching.search.Goals as goal

pub loop-node-preserved : goal.loop-node-preserved
loop-node-preserved g c fuel enough =
    let visits = c.in-Some.ensures.visits in
    visit_more g.G.Node.Node.same g.met.G.Node.Node.tells (g.G.Graph.successors c.args.graph.now) fuel c.loop-node.work _ (c.loop-node.invariant fuel enough)
    c.in-Some.node visits.0 (omega (arith, c.in-Some.ensures.few)) c.visit.new.self visits.1 c.find_successors.new.work c.in_ok-find_successors.ensures

pub returns-in_err-find_successors : goal.returns-in_err-find_successors
returns-in_err-find_successors g c fuel enough =
    let visits = c.in-Some.ensures.visits in
    let answer = reached g.G.Node.Node.same (g.G.Graph.successors c.args.graph.now) fuel c.args.start in
    MatchResult-from_err _ (λ _. c.find_successors.new.work.found ≡ answer) (λ _. most_states < length answer) c.from_residual-in_err-find_successors.ensures.0
    (λ _. visit_short g.G.Node.Node.same g.met.G.Node.Node.tells (g.G.Graph.successors c.args.graph.now) fuel c.loop-node.work _ (c.loop-node.invariant fuel enough)
    c.in-Some.node visits.0 (omega (arith, c.in-Some.ensures.few)) c.visit.new.self visits.1 most_states c.in_err-find_successors.ensures)

pub returns : goal.returns
returns g c fuel enough =
    let visits = c.in_default.ensures.visits in
    ap (λ w. w.found) visits.1
    ∙ visit_all g.G.Node.Node.same g.met.G.Node.Node.tells (g.G.Graph.successors c.args.graph.now) fuel c.loop-node.work _ (c.loop-node.invariant fuel enough) visits.0
