-- States and pairs of states as nodes of a search.
use Rattle.std.specs.Prelude.{◌≡◌, ℕ, ◌+◌, ◌*◌, ◌<◌, nat_eq}
use Rattle.std.proofs.Common.{◌/◌, ◌%◌, sym, ap, ◌∙◌, arith}
use Rattle.std.proofs.lemmas.Nat.{div-mul-add, mod-mul-add}
use Rattle.automata.specs.Limits.{most_states, mark_bytes}
use Rattle.automata.specs.Product.{same_pair}
use Rattle.automata.specs.Search.{Tells}
use Rattle.automata.specs.declared.pairs.StatePair.{StatePair}
use Rattle.automata.proofs.Places.{number_tells}
use Rattle.automata.proofs.ReachedPairs.{pair, pair_tells}

-- where the mark of two states stands: row by row
abbrev pub pair_place : ℕ → ℕ → ℕ
pair_place p q = p * most_states + q

abbrev pub PairInside : StatePair → Type 0
PairInside x = (x.rule < most_states) × (x.clause < most_states)

pub state_tells : Tells nat_eq
state_tells = number_tells

pub state_marked : (p : ℕ) → p < most_states → p < mark_bytes
state_marked p h = omega (arith, h)

pub same_pair_tells : Tells same_pair
same_pair_tells = pair_tells

-- in rows of w places, two pairs at one place are the same
pub row_own : (w : ℕ) (x y : StatePair) → x.clause < w → y.clause < w → x.rule * w + x.clause ≡ y.rule * w + y.clause → x ≡ y
row_own w x y h k e =
    let rules : x.rule ≡ y.rule = sym (div-mul-add x.rule w x.clause h) ∙ ap (λ n. n / w) e ∙ div-mul-add y.rule w y.clause k in
    let clauses : x.clause ≡ y.clause = sym (mod-mul-add x.rule w x.clause h) ∙ ap (λ n. n % w) e ∙ mod-mul-add y.rule w y.clause k in
    λ i. pair (rules i) (clauses i)

pub pair_own : (x y : StatePair) → PairInside x → PairInside y → pair_place x.rule x.clause ≡ pair_place y.rule y.clause → x ≡ y
pair_own x y h k = row_own 64 x y h.1 k.1

pub pair_marked : (x : StatePair) → PairInside x → pair_place x.rule x.clause < mark_bytes
pair_marked x h = omega (arith, h.0, h.1)
