use Rattle.std.proofs.Common.{◌≡◌, ◌<◌, map, length, sym, refl, ap, ◌∙◌, subst, inl, inr}
use Rattle.std.proofs.lemmas.Result.{MatchResult-from_err}
use Rattle.guards.specs.Lists.{Member}
use Rattle.automata.specs.Limits.{most_states}
use Rattle.automata.specs.Product.{pair_targets, same_pair}
use Rattle.automata.specs.Search.{add_all}
use Rattle.automata.proofs.ReachedPairs.{pair_tells}
use Rattle.reduction.proofs.PairsReached.{add_turn, short_turn, targets_inside}
use Rattle.reduction.proofs.pairing.PairGraphGraph.find_successors.Goals as goal

pub loop-found-init : goal.loop-found-init
loop-found-init g c =
    let s = c.args.self.now in
    let all = c.into_iter-found-iterator.ensures.into_iter_gives ∙ c.moves-found-items.ensures in (
      ap (λ xs. add_all same_pair c.args.work.now.found (map (λ a. a.to) xs)) all,
      refl,
      λ a m. targets_inside (g.A.Algebra.model s.alg.now) (g.met.A.Algebra.lawful s.alg.now) s.rule.now s.clause.now c.args.node a (subst (Member a) all m),
    )

pub add-requires : goal.add-requires
add-requires g c = c.loop-found.invariant.2 c.in-Some.found (subst (Member c.in-Some.found) (sym c.in-Some.ensures.steps) (inl refl))

pub loop-found-preserved : goal.loop-found-preserved
loop-found-preserved g c = (
  ap (λ w. add_all same_pair w.found (map (λ a. a.to) c.next.new.self)) c.in_ok-add.ensures
      ∙ add_turn same_pair pair_tells (λ a. a.to) c.loop-found.work.found _ c.in-Some.found c.loop-found.found-iterator c.next.new.self c.in-Some.ensures.steps c.loop-found.invariant.0,
  ap (λ w. w.visited) c.in_ok-add.ensures ∙ c.loop-found.invariant.1,
  λ a m. c.loop-found.invariant.2 a (subst (Member a) (sym c.in-Some.ensures.steps) (inr m)),
)

pub returns-in_err-add : goal.returns-in_err-add
returns-in_err-add g c =
    let s = c.args.self.now in
    let answer = add_all same_pair c.args.work.now.found (pair_targets (g.A.Algebra.model s.alg.now) s.rule.now.moves.now s.clause.now.moves.now c.args.node) in
    MatchResult-from_err _ (λ _. c.add.new.self ≡ record { found = answer; visited = c.args.work.now.visited }) (λ _. most_states < length answer) c.from_residual.ensures.0
    (λ _. short_turn same_pair pair_tells (λ a. a.to) c.loop-found.work.found answer c.in-Some.found c.loop-found.found-iterator c.next.new.self c.in-Some.ensures.steps c.loop-found.invariant.0
    most_states c.in_err-add.ensures)
