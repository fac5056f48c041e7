-- Pairs of states: the moves of a pair are meets of moves, and the search finds each reached pair once.
use Rattle.std.proofs.Common.{◌≡◌, ℕ, zero, suc, ◌*◌, ◌<◌, true, false, ◌&&◌, eqb, List, map, length, is_some, filter, refl, ap, ◌∙◌, subst, arith}
use Rattle.std.specs.List.{flat_map, list_any}
use Rattle.std.proofs.lemmas.List.{length-append, length-map}
use Rattle.std.proofs.lemmas.Bool.{and_parts, and_from, eq-eqb, eqb-true}
use Rattle.guards.specs.Algebra.{Model, Laws}
use Rattle.guards.specs.Lists.{Member}
use Rattle.automata.specs.Machine.{Machine}
use Rattle.automata.specs.Product.{same_pair, start_pair, joins, met, pair_moves, pair_targets, pairs}
use Rattle.automata.specs.Running.{stray}
use Rattle.automata.specs.Search.{Tells, Searched, Reaches}
use Rattle.automata.specs.Search.Reaches.{itself, after}
use Rattle.automata.specs.declared.moves.Move.{Move}
use Rattle.automata.specs.declared.pairs.PairMove.{PairMove}
use Rattle.automata.specs.declared.pairs.StatePair.{StatePair}
use Rattle.automata.proofs.Members.{member_map, map_member, member_joined, joined_member, member_kept, kept_member, none_each, below, length_below, member_below}
use Rattle.automata.proofs.Samples.{sampled, admitted}
use Rattle.automata.proofs.Searching.{reached_searched}
use Rattle.automata.proofs.Strays.{between}

abbrev pub pair : ℕ → ℕ → StatePair
pair p q = record { rule = p; clause = q }

pub pair_tells : Tells same_pair
pair_tells = record {
  itself = λ x. and_from _ _ (eq-eqb x.rule x.rule refl) (eq-eqb x.clause x.clause refl);
  equal = λ x y h. let b = and_parts (eqb x.rule y.rule) (eqb x.clause y.clause) h in λ i. pair (eqb-true x.rule y.rule b.0 i) (eqb-true x.clause y.clause b.1 i);
}

-- all pairs of a number below n and one below m
all_pairs : ℕ → ℕ → List StatePair
all_pairs n m = flat_map (λ p. map (pair p) (below m)) (below n)

length_all_pairs : (n m : ℕ) → length (all_pairs n m) ≡ n * m
unfolding all_pairs
length_all_pairs zero m = omega arith
length_all_pairs (suc n) m = length-append (map (pair n) (below m)) (all_pairs n m) ∙ omega (arith, length-map (below m) (pair n), length_below m, length_all_pairs n m)

member_all_pairs : (n m : ℕ) (x : StatePair) → x.rule < n → x.clause < m → Member x (all_pairs n m)
unfolding all_pairs
member_all_pairs n m x h k =
    member_joined (λ p. map (pair p) (below m)) x.rule x (below n) (member_below x.rule n h) (member_map (pair x.rule) x.clause (below m) (member_below x.clause m k))

-- the pair's move a is the meet of u and v, which go from the pair's states
pub record MetBy {E G : Type 0} (alg : Model E G) (us vs : List (Move G)) (x : StatePair) (a : PairMove G) (u v : Move G) : Type 0 where
  pub rule_in : Member u us
  pub clause_in : Member v vs
  pub rule_from : u.from ≡ x.rule
  pub clause_from : v.from ≡ x.clause
  pub live : (e : E) × (alg.admits (alg.meet u.guard v.guard) e ≡ true)
  pub is : met alg u v ≡ a

module _ {E G : Type 0} (alg : Model E G) (laws : Laws alg) (us vs : List (Move G)) (x : StatePair) where
  abbrev met_with : Move G → List (PairMove G)
  met_with u = map (met alg u) (filter (joins alg x u) vs)

  pub pair_move : (a : PairMove G) → Member a (pair_moves alg us vs x) → (u : Move G) × (v : Move G) × MetBy alg us vs x a u v
  pair_move a m =
      let j = joined_member met_with a us m in
      let u = j.0 in
      let k = map_member (met alg u) a (filter (joins alg x u) vs) j.2 in
      let v = k.0 in
      let t = kept_member (joins alg x u) v vs k.1 in
      let b = and_parts (eqb u.from x.rule && eqb v.from x.clause) (is_some (alg.sample (alg.meet u.guard v.guard))) t.1 in
      let c = and_parts (eqb u.from x.rule) (eqb v.from x.clause) b.0 in (
        u,
        v,
        record {
          rule_in = j.1;
          clause_in = t.0;
          rule_from = eqb-true u.from x.rule c.0;
          clause_from = eqb-true v.from x.clause c.1;
          live = admitted alg laws (alg.meet u.guard v.guard) b.1;
          is = k.2;
        },
      )

  pub move_pair : (u v : Move G) (e : E) → Member u us → Member v vs → u.from ≡ x.rule → v.from ≡ x.clause → alg.admits (alg.meet u.guard v.guard) e ≡ true → Member (met alg u v) (pair_moves alg us vs x)
  move_pair u v e um vm uf vf a =
      member_joined met_with u (met alg u v) us um (member_map (met alg u) v (filter (joins alg x u) vs) (member_kept (joins alg x u) v vs vm
      (and_from _ _ (and_from _ _ (eq-eqb u.from x.rule uf) (eq-eqb v.from x.clause vf)) (ap is_some (sampled alg laws (alg.meet u.guard v.guard) e a).1))))

-- neither machine has a stray move, and both have a start
module _ {E G : Type 0} (alg : Model E G) (laws : Laws alg) (M N : Machine G) (some_rule : 0 < M.count) (some_clause : 0 < N.count)
    (no_rule : list_any (stray M.count) M.moves ≡ false) (no_clause : list_any (stray N.count) N.moves ≡ false) where
  abbrev next_pairs : StatePair → List StatePair
  next_pairs = pair_targets alg M.moves N.moves

  -- where the moves of a pair lead, the states are below the counts
  pub target_in : (x y : StatePair) → Member y (next_pairs x) → (y.rule < M.count) × (y.clause < N.count)
  target_in x y m =
      let k = map_member (λ a. a.to) y (pair_moves alg M.moves N.moves x) m in
      let o = pair_move alg laws M.moves N.moves x k.0 k.1 in
      let u = o.0 in
      let v = o.1 in
      subst (λ (z : StatePair). (z.rule < M.count) × (z.clause < N.count)) (ap (λ (a : PairMove G). a.to) o.2.is ∙ k.2) (
        (between M.count u (none_each (stray M.count) u M.moves no_rule o.2.rule_in)).1,
        (between N.count v (none_each (stray N.count) v N.moves no_clause o.2.clause_in)).1,
      )

  -- the list of pairs has each reached pair once, and nothing else
  pub pairs_searched : Searched next_pairs start_pair (pairs alg M N)
  pairs_searched =
      let all = all_pairs M.count N.count in
      reached_searched same_pair pair_tells next_pairs all
      (λ x y _ k. let b = target_in x y k in member_all_pairs M.count N.count y b.0 b.1)
      start_pair (member_all_pairs M.count N.count start_pair some_rule some_clause) (M.count * N.count) (omega (arith, length_all_pairs M.count N.count))

  -- its pairs are of states
  pub pairs_in : (x : StatePair) → Member x (pairs alg M N) → (x.rule < M.count) × (x.clause < N.count)
  pairs_in x m = by x (pairs_searched.only x m)
    where
      by : (x : StatePair) → Reaches next_pairs start_pair x → (x.rule < M.count) × (x.clause < N.count)
      by x itself = (some_rule, some_clause)
      by x (after {y} r k) = target_in y x k

  -- and it has the targets of each
  pub pairs_closed : (x : StatePair) (a : PairMove G) → Member x (pairs alg M N) → Member a (pair_moves alg M.moves N.moves x) → Member a.to (pairs alg M N)
  pairs_closed x a m k = pairs_searched.closed x a.to m (member_map (λ a. a.to) a (pair_moves alg M.moves N.moves x) k)
