-- The product of two machines without stray moves has none.
use Rattle.std.proofs.Common.{◌≡◌, ◌<◌, false, length, subst}
use Rattle.std.proofs.lemmas.Bool.{lt-leb, or_from}
use Rattle.guards.specs.Algebra.{Model, Laws}
use Rattle.std.specs.List.{list_any}
use Rattle.automata.specs.Machine.{Machine}
use Rattle.automata.specs.Product.{same_pair, pair_moves, pairs, pair_number, product_moves, product}
use Rattle.automata.specs.Running.{stray}
use Rattle.automata.specs.declared.joins.JoinBy.{JoinBy}
use Rattle.automata.specs.declared.moves.Move.{Move}
use Rattle.automata.specs.declared.pairs.PairMove.{PairMove}
use Rattle.automata.proofs.Members.{joined_member, map_member, none_any}
use Rattle.automata.proofs.Places.{place_at}
use Rattle.automata.proofs.ReachedPairs.{pair_tells, pairs_closed}

pub product_no_stray : {E G : Type 0} (alg : Model E G) → Laws alg → (M N : Machine G) → 0 < M.count → 0 < N.count → list_any (stray M.count) M.moves ≡ false → list_any (stray N.count) N.moves ≡ false
    → (way : JoinBy) → list_any (stray (product alg M N way).count) (product alg M N way).moves ≡ false
product_no_stray {G = G} alg laws M N some_rule some_clause no_rule no_clause way =
    let xs = pairs alg M N in
    let count = length xs in
    none_any (stray count) (product alg M N way).moves (λ v m.
    let j = joined_member (product_moves alg M N) v xs m in
    let x = j.0 in
    let number : PairMove G → Move G = λ a. record { from = pair_number alg M N x; guard = a.guard; to = pair_number alg M N a.to } in
    let k = map_member number v (pair_moves alg M.moves N.moves x) j.2 in
    let a = k.0 in
    subst (λ (w : Move G). stray count w ≡ false) k.2 (or_from _ _
    (lt-leb count (pair_number alg M N x) (place_at same_pair pair_tells x x xs j.1).0)
    (lt-leb count (pair_number alg M N a.to) (place_at same_pair pair_tells a.to x xs (pairs_closed alg laws M N some_rule some_clause no_rule no_clause x a j.1 k.1)).0)))
