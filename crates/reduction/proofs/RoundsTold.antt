-- The marks of separation tell the rounds: after round 0, after one round more, and once a round separates nothing.
use Rattle.std.proofs.Common.{◌≡◌, ℕ, suc, ◌+◌, ◌<◌, Bool, true, false, cond, not, ◌&&◌, ◌||◌, eqb, List, [], ◌∷◌, is_some, Some, None, Option, sym, refl, ap, ◌∙◌, subst, ap₂, inl, inr, add-one, arith}
use Rattle.std.proofs.lemmas.Bool.{cases_Bool, both_ways, eqb-true, eq-eqb, ne_eqb}
use Rattle.guards.specs.Algebra.{Model}
use Rattle.std.specs.List.{list_any}
use Rattle.guards.specs.Lists.{Member}
use Rattle.automata.specs.Limits.{most_states, most_rounds}
use Rattle.automata.specs.Machine.{Machine}
use Rattle.automata.specs.Rounds.{differ, fit, some_fit, round, separated, separated_below, round_of}
use Rattle.automata.specs.declared.moves.Move.{Move}
use Rattle.automata.proofs.Fitting.{differ_itself}
use Rattle.automata.proofs.Members.{none_each}
use Rattle.automata.proofs.Separating.{round_of_is, round_of_some, some_round_of}
use Rattle.automata.proofs.Settled.{Settled, settled_round}
use Rattle.automata.proofs.Strays.{between}
use Rattle.automata.specs.Running.{stray}
use Rattle.tables.specs.Machines.{machine_of}
use Rattle.tables.specs.declared.machines.Machine.{Machine as TableMachine}
use Rattle.reduction.specs.Marks.{first_round, in_round, is_round, round_at}
use Rattle.reduction.specs.Rounds.{later_round, NextMarks, RoundMarks}

-- two tests that agree on each element
any_same : {X : Type 0} (f g : X → Bool) (xs : List X) → ((x : X) → Member x xs → f x ≡ g x) → list_any f xs ≡ list_any g xs
any_same f g [] same = refl
any_same f g (x ∷ xs) same = ap₂ ◌||◌ (same x (inl refl)) (any_same f g xs (λ y m. same y (inr m)))

later_case : (k : ℕ) (other fits below : Bool) (o : Option ℕ) → is_some o ≡ below → later_round k (other && fits) o ≡ cond (other && (not below && fits)) (Some (suc k)) o
later_case k other fits below None e = ap (λ n. cond (other && fits) (Some n) None) (add-one k) ∙ ap (λ b. cond (other && (not b && fits)) (Some (suc k)) None) e
later_case k true fits below (Some j) e = ap (λ b. cond (not b && fits) (Some (suc k)) (Some j)) e
later_case k false fits below (Some j) e = refl

module _ {E G : Type 0} (alg : Model E G) (M : Machine G) where
  -- a round is the one of the states that it separates
  round_tells : (n k p q : ℕ) → k < n → is_round k (round_of alg M n p q) ≡ separated alg M k p q
  round_tells n k p q lt = elim (cases_Bool (separated alg M k p q)) [
    | inl t ↦ ap (is_round k) (round_of_is alg M n k p q lt t) ∙ eq-eqb k k refl ∙ sym t
    | inr f ↦ by f (round_of alg M n p q) refl ∙ sym f
  ]
    where
      by : separated alg M k p q ≡ false → (o : Option ℕ) → round_of alg M n p q ≡ o → is_round k o ≡ false
      by f None is = refl
      by f (Some j) is = ne_eqb j k (λ e. both_ways (separated alg M k p q) f (subst (λ (i : ℕ). separated alg M i p q ≡ true) e (round_of_some alg M n j p q is).1))

  -- the states that marks put in a round are those that it separates
  pub told_in : (n k : ℕ) (marks : List ℕ) → RoundMarks alg M n marks → k < n → (p q : ℕ) → p < M.count → q < M.count → in_round marks k p q ≡ separated alg M k p q
  told_in n k marks told lt p q small fits = ap (is_round k) (told p q small fits) ∙ round_tells n k p q lt

  -- one round more
  later_told : (k p q : ℕ) → later_round k (not (eqb p q) && some_fit alg M.moves (separated alg M k) p q) (round_of alg M (suc k) p q) ≡ round_of alg M (suc (suc k)) p q
  unfolding round round_of
  later_told k p q =
      later_case k (not (eqb p q)) (some_fit alg M.moves (separated alg M k) p q) (separated_below alg M (suc k) p q) (round_of alg M (suc k) p q) (some_round_of alg M (suc k) p q)

  -- a round that marks nothing separates nothing
  unmarked : (n : ℕ) (marks : List ℕ) → RoundMarks alg M n marks → RoundMarks alg M (n + 1) marks → Settled alg M n
  unmarked n marks told more p q small fits = elim (cases_Bool (separated alg M n p q)) [
    | inl t ↦
        let is : round_of alg M n p q ≡ Some n = sym (told p q small fits) ∙ more p q small fits ∙ round_of_is alg M (n + 1) n p q (omega arith) t in
        absurd (omega (arith, (round_of_some alg M n n p q is).0))
    | inr f ↦ f
  ]

module _ {E G : Type 0} (alg : Model E G) (machine : TableMachine G) where
  abbrev M : Machine G
  M = machine_of machine

  -- its moves lead to states
  pub to_in : (v : Move G) → Member v M.moves → v.to < M.count
  to_in v m = (between M.count v (none_each (stray M.count) v M.moves machine.no_stray m)).1

  -- the moves fit by the marks of a round as they do by the states that it separates
  fit_told : (n k p q : ℕ) (marks : List ℕ) → RoundMarks alg M n marks → k < n → some_fit alg M.moves (in_round marks k) p q ≡ some_fit alg M.moves (separated alg M k) p q
  fit_told n k p q marks told lt =
      any_same _ _ M.moves (λ u um. any_same (fit alg (in_round marks k) p q u) (fit alg (separated alg M k) p q u) M.moves (λ v vm.
      ap (λ t. (eqb u.from p && eqb v.from q) && (t && is_some (alg.sample (alg.meet u.guard v.guard)))) (told_in alg M n k marks told lt u.to v.to (to_in u um) (to_in v vm))))

  pub more_marks : (k : ℕ) (before after : List ℕ) → RoundMarks alg M (k + 1) before → NextMarks k (some_fit alg M.moves (in_round before k)) before after → RoundMarks alg M (k + 1 + 1) after
  more_marks k before after told next p q small fits =
      next p q ∙ ap₂ (λ t o. later_round k (not (eqb p q) && t) o) (fit_told (k + 1) k p q before told (omega arith)) (told p q small fits ∙ ap (λ n. round_of alg M n p q) (add-one k))
      ∙ later_told alg M k p q ∙ ap (λ n. round_of alg M n p q) (omega arith)

  -- the marks of round 0
  pub first_marks : (marks : List ℕ) → ((p q : ℕ) → p < most_states → q < most_states → round_at marks p q ≡ first_round M.endings p q) → RoundMarks alg M (0 + 1) marks
  unfolding round round_of
  first_marks marks told p q small fits =
      let apart = differ (M.endings p) (M.endings q) in
      told p q (omega (arith, machine.few)) (omega (arith, machine.few)) ∙ elim (cases_Bool (eqb p q)) [
        | inl e ↦
            let same : apart ≡ false = ap (λ r. differ (M.endings p) (M.endings r)) (sym (eqb-true p q e)) ∙ differ_itself (M.endings p) in
            ap (λ t. cond t (Some 0) None) same ∙ ap₂ (λ s t. cond (not s && t) (Some 0) None) (sym e) (sym same)
        | inr n ↦ ap (λ s. cond (not s && apart) (Some 0) None) (sym n)
      ]

  -- once a round marks nothing, the marks tell all rounds that count
  pub settled_marks : (k : ℕ) (before after : List ℕ) → k + 1 < most_rounds → RoundMarks alg M (k + 1) before → NextMarks k (some_fit alg M.moves (in_round before k)) before after → after ≡ before
      → RoundMarks alg M most_rounds after
  settled_marks k before after small told next same p q hp hq =
      let again = more_marks k before after told next in
      let kept = subst (λ (ms : List ℕ). RoundMarks alg M (k + 1) ms) (sym same) told in
      kept p q hp hq ∙ sym (settled_round alg M to_in (k + 1) most_rounds (omega arith) (unmarked alg M (k + 1) after kept again) p q hp hq)
