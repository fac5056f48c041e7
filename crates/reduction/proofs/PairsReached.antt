-- The pairs that a rule and a clause reach: the loop over the moves of one, and what a search finds.
use Rattle.std.proofs.Common.{◌≡◌, ℕ, ◌+◌, ◌*◌, ◌<◌, ◌≤◌, Bool, List, [], ◌∷◌, map, length, sym, ap, ◌∙◌, subst, arith, length-append}
use lib.ListN.{length-map}
use Rattle.std.proofs.lemmas.Nat.{mul-add-lt, mul-le}
use Rattle.guards.specs.Algebra.{Model, Laws}
use Rattle.guards.specs.Lists.{Member}
use Rattle.automata.specs.Limits.{mark_bytes}
use Rattle.automata.specs.Machine.{Machine}
use Rattle.automata.specs.Product.{pair_moves, pair_targets, pairs, same_pair, start_pair}
use Rattle.automata.specs.Search.{Tells, add_all, reached}
use Rattle.automata.specs.declared.pairs.PairMove.{PairMove}
use Rattle.automata.specs.declared.pairs.StatePair.{StatePair}
use Rattle.automata.proofs.Members.{below, length_below, map_member, member_below, member_map, no_repeat_map, pigeonhole}
use Rattle.automata.proofs.ReachedPairs.{pairs_closed, pairs_in, pairs_searched, target_in}
use Rattle.automata.proofs.Searching.{add_all_begins, visit_enough}
use Rattle.tables.specs.Machines.{machine_of}
use Rattle.tables.specs.Nodes.{PairInside, row_own}
use Rattle.tables.specs.declared.machines.Machine.{Machine as TableMachine}

-- a loop that adds what each of the elements that are left gives
module _ {X N : Type 0} (same : N → N → Bool) (tells : Tells same) (f : X → N) (found answer : List N) (x : X) (left more : List X) (is : left ≡ x ∷ more) (inv : add_all same found (map f left) ≡ answer) where
  pub add_turn : add_all same (add_all same found (f x ∷ [])) (map f more) ≡ answer
  add_turn = ap (λ xs. add_all same found (map f xs)) (sym is) ∙ inv

  -- where one has no room, the whole has none
  pub short_turn : (room : ℕ) → room < length (add_all same found (f x ∷ [])) → room < length answer
  short_turn room short =
      let next = add_all same found (f x ∷ []) in
      let more_found = add_all_begins same tells next (map f more) in
      omega (arith, ap length (sym more_found.1 ∙ add_turn), length-append next more_found.0)

module _ {E G : Type 0} (alg : Model E G) (laws : Laws alg) (rule clause : TableMachine G) where
  abbrev M : Machine G
  M = machine_of rule

  abbrev N : Machine G
  N = machine_of clause

  -- the moves of pairs lead to pairs of states
  pub targets_inside : (x : StatePair) (a : PairMove G) → Member a (pair_moves alg M.moves N.moves x) → PairInside a.to
  targets_inside x a m =
      let b = target_in alg laws M N rule.some clause.some rule.no_stray clause.no_stray x a.to (member_map (λ (a : PairMove G). a.to) a (pair_moves alg M.moves N.moves x) m) in
      (omega (arith, b.0, rule.few), omega (arith, b.1, clause.few))

  -- there are no more pairs than two states have
  pairs_few : length (pairs alg M N) ≤ M.count * N.count
  pairs_few =
      let place : StatePair → ℕ = λ x. x.rule * N.count + x.clause in
      let xs = pairs alg M N in
      let inside = pairs_in alg laws M N rule.some clause.some rule.no_stray clause.no_stray in
      let once = no_repeat_map place xs (pairs_searched alg laws M N rule.some clause.some rule.no_stray clause.no_stray).once (λ x y m k e. row_own N.count x y (inside x m).1 (inside y k).1 e) in
      let within : (n : ℕ) → Member n (map place xs) → Member n (below (M.count * N.count)) = λ n m.
      let r = map_member place n xs m in
      let b = inside r.0 r.1 in
      member_below n (M.count * N.count) (omega (arith, r.2, mul-add-lt r.0.rule N.count r.0.clause M.count b.0 b.1)) in
      omega (arith, length-map xs place, length_below (M.count * N.count), pigeonhole (map place xs) (below (M.count * N.count)) once within)

  -- a search by as much fuel as there are marks finds the pairs
  pub pairs_found : reached same_pair (pair_targets alg M.moves N.moves) mark_bytes start_pair ≡ pairs alg M N
  pairs_found =
      visit_enough same_pair (pair_targets alg M.moves N.moves) (M.count * N.count) mark_bytes 0 (start_pair ∷ []) (mul-le M.count N.count 64 64 rule.few clause.few) (omega (arith, pairs_few))

  module _ (found : List StatePair) (all : found ≡ pairs alg M N) where
    pub found_inside : (x : StatePair) → Member x found → PairInside x
    found_inside x m =
        let b = pairs_in alg laws M N rule.some clause.some rule.no_stray clause.no_stray x (subst (Member x) all m) in
        (omega (arith, b.0, rule.few), omega (arith, b.1, clause.few))

    -- the moves of a found pair lead to found pairs
    pub targets_found : (x : StatePair) (a : PairMove G) → Member x found → Member a (pair_moves alg M.moves N.moves x) → Member a.to found
    targets_found x a m k =
        subst (Member a.to) (sym all) (pairs_closed alg laws M N rule.some clause.some rule.no_stray clause.no_stray x a (subst (Member x) all m) k)
