use Rattle.std.proofs.Common.{refl, ap, ◌∙◌}
use Rattle.std.proofs.lemmas.Result.{MatchResult-from_err}
use Rattle.completion.proofs.Targets.{all_left, next_inside, next_found, next_short}
use Rattle.completion.proofs.reaching.ClauseGraphGraph.find_successors.Goals as goal

pub loop-line-init : goal.loop-line-init
loop-line-init g c =
    let machine = c.args.self.now.clause.now in
    record {
      finding = all_left (g.A.Algebra.model c.args.self.now.alg.now) machine.states machine.moves.now c.args.node c.args.work.now.found _ machine.no_stray machine.few
          (c.into_iter-line-iterator.ensures.into_iter_gives ∙ c.live_moves-line-items.ensures);
      visited = refl;
    }

pub add-requires : goal.add-requires
add-requires g c = next_inside _ _ _ c.loop-line.invariant.finding c.in-Some.line _ c.in-Some.ensures.steps

pub loop-line-preserved : goal.loop-line-preserved
loop-line-preserved g c =
    let added = c.in_ok-add.ensures in
    record {
      finding = next_found _ _ _ c.loop-line.invariant.finding c.in-Some.line _ c.in-Some.ensures.steps c.add.new.self.found (ap (λ w. w.found) added);
      visited = ap (λ w. w.visited) added ∙ c.loop-line.invariant.visited;
    }

pub returns-in_err-add : goal.returns-in_err-add
returns-in_err-add g c =
    MatchResult-from_err _ _ _ c.from_residual.ensures.0 (λ _. next_short _ _ _ c.loop-line.invariant.finding c.in-Some.line _ c.in-Some.ensures.steps c.in_err-add.ensures)
