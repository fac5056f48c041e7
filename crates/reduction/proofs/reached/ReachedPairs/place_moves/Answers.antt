use Rattle.std.proofs.Common.{◌≡◌, ◌<◌, ◌≤◌, [], length, get_or, ap, subst, arith}
use Rattle.std.proofs.lemmas.List.{get_or_default}
use Rattle.std.proofs.lemmas.Result.{MatchResult-from_err}
use Rattle.std.specs.List.{flat_map}
use Rattle.guards.specs.Lists.{Member}
use Rattle.automata.specs.Limits.{most_moves}
use Rattle.automata.specs.Product.{product_moves, start_pair}
use Rattle.automata.proofs.Appending.{append_short}
use Rattle.automata.proofs.Places.{member_get_or}
use Rattle.tables.specs.Machines.{machine_of}
use Rattle.reduction.proofs.reached.ReachedPairs.place_moves.Goals as goal

pub put_moves-requires-clause-found : goal.put_moves-requires-clause-found
put_moves-requires-clause-found g c =
    let x = get_or c.found-pair-items.result.now c.loop-pair.pair-index start_pair in
    subst (Member x) c.found-pair-items.ensures (member_get_or c.found-pair-items.result.now c.loop-pair.pair-index start_pair c.loop-pair-test.true)

pub returns-in_err-put_moves : goal.returns-in_err-put_moves
returns-in_err-put_moves g c =
    let s = c.args.self.now.graph in
    let f = product_moves (g.A.Algebra.model s.alg.now) (machine_of s.rule.now) (machine_of s.clause.now) in
    let xs = c.found-pair-items.result.now in
    let i = c.loop-pair.pair-index in
    let x = get_or xs i start_pair in
    let all = flat_map f c.args.self.now.work.found in
    let so_far = c.loop-pair.invariant.0 in
    MatchResult-from_err _ (λ moves. (moves.now ≡ all) × (length all ≤ most_moves)) (λ _. most_moves < length all) c.from_residual.ensures.0
    (λ _. omega (
      arith,
      append_short f [] xs i c.loop-pair.out.items (ap (λ out. out.items) so_far) x c.loop-pair.out.room c.loop-pair-test.true (get_or_default xs i start_pair x c.loop-pair-test.true)
          c.in_err-put_moves.ensures.appends.0,
      ap (λ out. out.room) so_far,
      ap (λ ys. length (flat_map f ys)) c.found-pair-items.ensures,
    ))
