-- A round that separates no two states is the last that could: no later round separates any, on a table whose moves lead to states.
use Rattle.std.proofs.Common.{◌≡◌, ℕ, zero, suc, ◌<◌, ◌≤◌, false, Some, sym, refl, ap, ◌∙◌, inl, inr, arith}
use Rattle.std.proofs.lemmas.Bool.{cases_eq, cases_order, cases_Bool, cases_lt, both_ways, cond-false}
use Rattle.guards.specs.Algebra.{Model, Laws}
use Rattle.guards.specs.Lists.{Member}
use Rattle.automata.specs.Machine.{Machine}
use Rattle.automata.specs.Rounds.{separated, separated_below, round_of}
use Rattle.automata.specs.declared.moves.Move.{Move}
use Rattle.automata.proofs.Separating.{below_some, some_below, none_below, below_none, separated_moves, separated_other, separated_swap}

-- no two states below the count are separated in round k
abbrev pub Settled : {E G : Type 0} → Model E G → Machine G → ℕ → Type 0
Settled alg M k = (p q : ℕ) → p < M.count → q < M.count → separated alg M k p q ≡ false

-- it is enough that no lower state is separated from a higher one
pub settled_half : {E G : Type 0} (alg : Model E G) → Laws alg → (M : Machine G) (k : ℕ) → ((p q : ℕ) → p < q → q < M.count → separated alg M k p q ≡ false) → Settled alg M k
settled_half alg laws M k half p q hp hq = elim (cases_order p q) [
  | inl e ↦ elim (cases_Bool (separated alg M k p q)) [ inl t ↦ absurd (separated_other alg M k p q t e) | inr f ↦ f ]
  | inr (inl h) ↦ half p q h hq
  | inr (inr h) ↦ separated_swap alg laws M k p q ∙ half q p h hp
]

module _ {E G : Type 0} (alg : Model E G) (M : Machine G) (to_in : (v : Move G) → Member v M.moves → v.to < M.count) where
  settled_next : (k : ℕ) → Settled alg M k → Settled alg M (suc k)
  settled_next k s p q hp hq = elim (cases_Bool (separated alg M (suc k) p q)) [
    | inl t ↦
        let f = separated_moves alg M k p q t in
        let u = f.0 in
        let v = f.1 in
        absurd (both_ways (separated alg M k u.to v.to) (s u.to v.to (to_in u f.2) (to_in v f.3)) f.4.holds)
    | inr f ↦ f
  ]

  pub settled_later : (k j : ℕ) → k ≤ j → Settled alg M k → Settled alg M j
  settled_later zero zero h s = s
  settled_later (suc k) zero h s = absurd (omega arith)
  settled_later k (suc j) h s = elim (cases_eq k (suc j)) [
    | inl e ↦ λ p q hp hq. ap (λ i. separated alg M i p q) (sym e) ∙ s p q hp hq
    | inr n ↦ settled_next j (settled_later k j (omega arith) s)
  ]

  -- so the rounds below k tell as much as the rounds below any later one
  pub settled_below : (k j : ℕ) → k ≤ j → Settled alg M k → (p q : ℕ) → p < M.count → q < M.count → separated_below alg M j p q ≡ separated_below alg M k p q
  settled_below k j le s p q hp hq = elim (cases_Bool (separated_below alg M k p q)) [
    | inl t ↦ let i = below_some alg M k p q t in some_below alg M j i.0 p q (omega arith) i.2 ∙ sym t
    | inr f ↦ none_below alg M j p q (λ i h. elim (cases_lt i k) [ inl l ↦ below_none alg M k i p q l f | inr l ↦ settled_later k i l s p q hp hq ]) ∙ sym f
  ]

  pub settled_round : (k j : ℕ) → k ≤ j → Settled alg M k → (p q : ℕ) → p < M.count → q < M.count → round_of alg M j p q ≡ round_of alg M k p q
  unfolding round_of
  settled_round zero zero h s p q hp hq = refl
  settled_round (suc k) zero h s p q hp hq = absurd (omega arith)
  settled_round k (suc j) h s p q hp hq = elim (cases_eq k (suc j)) [
    | inl e ↦ ap (λ i. round_of alg M i p q) (sym e)
    | inr n ↦ cond-false (separated alg M j p q) (Some j) (round_of alg M j p q) (settled_later k j (omega arith) s p q hp hq) ∙ settled_round k j (omega arith) s p q hp hq
  ]
