use Rattle.std.proofs.Common.{◌≡◌, ◌<◌, ◌++◌, map, length, sym, refl, ap, ◌∙◌, subst, inl, inr, arith}
use Rattle.std.proofs.lemmas.List.{length_push}
use Rattle.std.proofs.lemmas.Result.{MatchResult-from_err}
use Rattle.guards.specs.Lists.{Member}
use Rattle.automata.specs.Product.{pair_number, product_moves, same_pair}
use Rattle.automata.specs.Search.{place_of}
use Rattle.tables.specs.Machines.{machine_of}
use Rattle.reduction.proofs.PairsReached.{found_inside, targets_found}
use Rattle.reduction.proofs.PutMoves.{put_turn, short_put}
use Rattle.reduction.proofs.reached.ReachedPairs.put_moves.Goals as goal

pub place_of-from-requires-clause-inside : goal.place_of-from-requires-clause-inside
place_of-from-requires-clause-inside g c =
    let s = c.args.self.now.graph in
    found_inside (g.A.Algebra.model s.alg.now) (g.met.A.Algebra.lawful s.alg.now) s.rule.now s.clause.now c.args.self.now.work.found c.args.self.now.all c.args.pair c.requires.found

pub loop-found-init : goal.loop-found-init
loop-found-init g c =
    let s = c.args.self.now.graph in
    let alg = g.A.Algebra.model s.alg.now in
    let number = pair_number alg (machine_of s.rule.now) (machine_of s.clause.now) in
    let all = c.into_iter-found-iterator.ensures.into_iter_gives ∙ c.moves-found-items.ensures in (
      ap (λ xs. c.args.out.now.items ++ map (λ a. record { from = number c.args.pair; guard = a.guard; to = number a.to }) xs) all,
      refl,
      c.requires.within,
      λ a m. targets_found alg (g.met.A.Algebra.lawful s.alg.now) s.rule.now s.clause.now c.args.self.now.work.found c.args.self.now.all c.args.pair a c.requires.found (subst (Member a) all m),
    )

pub number-requires : goal.number-requires
number-requires g c = c.loop-found.invariant.3 c.in-Some.found (subst (Member c.in-Some.found) (sym c.in-Some.ensures.steps) (inl refl))

pub loop-found-preserved : goal.loop-found-preserved
loop-found-preserved g c =
    let s = c.args.self.now.graph in
    let number = pair_number (g.A.Algebra.model s.alg.now) (machine_of s.rule.now) (machine_of s.clause.now) in
    let from = c.place_of-from.ensures ∙ ap (place_of same_pair c.args.pair) c.args.self.now.all in
    let put = c.in_ok-push.ensures.1 in (
      ap (λ out. out.items ++ map (λ a. record { from = number c.args.pair; guard = a.guard; to = number a.to }) c.next.new.self) put
          ∙ put_turn (λ a. record { from = number c.args.pair; guard = a.guard; to = number a.to }) c.loop-found.out.items _ c.in-Some.found c.loop-found.found-iterator c.next.new.self c.in-Some.ensures.steps
          c.loop-found.invariant.0 c.number.result (c.number.ensures ∙ ap (λ n. record { from = n; guard = c.in-Some.found.guard; to = number c.in-Some.found.to }) from),
      ap (λ out. out.room) put ∙ c.loop-found.invariant.1,
      omega (arith, c.in_ok-push.ensures.0, ap (λ out. length out.items) put, ap (λ out. out.room) put, length_push c.loop-found.out.items c.number.result),
      λ a m. c.loop-found.invariant.3 a (subst (Member a) (sym c.in-Some.ensures.steps) (inr m)),
    )

pub returns-in_err-push-clause-appends : goal.returns-in_err-push-clause-appends
returns-in_err-push-clause-appends g c =
    let s = c.args.self.now.graph in
    let alg = g.A.Algebra.model s.alg.now in
    let number = pair_number alg (machine_of s.rule.now) (machine_of s.clause.now) in
    let old = c.args.out.now in
    let all = old.items ++ product_moves alg (machine_of s.rule.now) (machine_of s.clause.now) c.args.pair in
    let short = c.in_err-push.ensures in
    MatchResult-from_err _ (λ _. c.push.new.self ≡ record { items = all; room = old.room }) (λ _. (old.room < length all) × (c.push.new.self.room ≡ old.room)) c.from_residual.ensures.0
    (λ _. (
      short_put (λ a. record { from = number c.args.pair; guard = a.guard; to = number a.to }) c.loop-found.out.items all c.in-Some.found c.loop-found.found-iterator c.next.new.self c.in-Some.ensures.steps
          c.loop-found.invariant.0 old.room (omega (arith, short.0, c.loop-found.invariant.1)),
      ap (λ out. out.room) short.1 ∙ c.loop-found.invariant.1,
    ))
