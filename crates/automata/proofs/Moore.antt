-- A proper machine of n states separates no two of them later than in round n - 2.
use Rattle.std.proofs.Common.{◌≡◌, ℕ, zero, suc, ◌+◌, ◌<◌, ◌≤◌, true, false, List, [], ◌∷◌, length, sym, refl, ◌∙◌, subst, inl, inr, arith}
use Rattle.std.proofs.lemmas.Bool.{cases_eq, cases_Bool, both_ways}
use Rattle.guards.specs.Algebra.{Model, Laws}
use Rattle.std.specs.List.{list_all}
use Rattle.guards.specs.Lists.{Member}
use Rattle.automata.specs.Automaton.{accepted}
use Rattle.automata.specs.Limits.{most_states, most_rounds}
use Rattle.automata.specs.Machine.{Machine, Day, Proper}
use Rattle.automata.specs.Rounds.{separated, separated_below}
use Rattle.automata.specs.Running.{automaton}
use Rattle.automata.specs.Search.{NoRepeat}
use Rattle.automata.proofs.Fitting.{differ_same}
use Rattle.automata.proofs.Members.{pigeonhole, below, length_below, member_below, every_each, not_every}
use Rattle.automata.proofs.SeparatedDays.{just_one, day_separated, below_split}
use Rattle.automata.proofs.Separating.{below_some, some_below, below_more, separated_new, below_itself, below_swap, separated_fit}

-- different states, each two of them separated below k
pub record ApartStates {E G : Type 0} (alg : Model E G) (M : Machine G) (k : ℕ) (xs : List ℕ) : Type 0 where
  pub inside : (x : ℕ) → Member x xs → x < M.count
  pub once : NoRepeat xs
  pub apart : (x y : ℕ) → Member x xs → Member y xs → (x ≡ y → ⊥) → separated_below alg M k x y ≡ true

module _ {E G : Type 0} (alg : Model E G) (laws : Laws alg) (M : Machine G) (proper : Proper alg M) where
  swapped : (k p q : ℕ) → separated_below alg M k p q ≡ true → separated_below alg M k q p ≡ true
  swapped k p q s = below_swap alg laws M k q p ∙ s

  -- a state that is separated from all of them joins
  join : (k x : ℕ) (xs : List ℕ) → ApartStates alg M k xs → x < M.count → ((y : ℕ) → Member y xs → separated_below alg M (suc k) x y ≡ true) → ApartStates alg M (suc k) (x ∷ xs)
  join k x xs a hx new = record {
    inside = λ y m. elim m [ inl e ↦ subst (λ (v : ℕ). v < M.count) e hx | inr n ↦ a.inside y n ];
    once = (λ m. both_ways (separated_below alg M (suc k) x x) (below_itself alg M (suc k) x) (new x m), a.once);
    apart = λ y z m n other. elim m [
      | inl e ↦ elim n [
        | inl f ↦ absurd (other (sym e ∙ f))
        | inr o ↦ subst (λ (v : ℕ). separated_below alg M (suc k) v z ≡ true) e (new z o)
      ]
      | inr o ↦ elim n [
        | inl f ↦ swapped (suc k) z y (subst (λ (v : ℕ). separated_below alg M (suc k) v y ≡ true) f (new y o))
        | inr r ↦ below_more alg M k (suc k) y z (omega arith) (a.apart y z o r other)
      ]
    ];
  }

  -- so does one that round k is the first to separate from some member
  join_now : (k x r : ℕ) (xs : List ℕ) → ApartStates alg M k xs → x < M.count → Member r xs → separated_below alg M k x r ≡ false → separated_below alg M (suc k) x r ≡ true → ApartStates alg M (suc k) (x ∷ xs)
  join_now k x r xs a hx m before now =
      join k x xs a hx (λ y n. elim (cases_eq r y) [
        | inl e ↦ subst (λ (v : ℕ). separated_below alg M (suc k) x v ≡ true) e now
        | inr other ↦ elim (below_split alg laws M proper k r x y (a.inside r m) hx (a.inside y n) (a.apart r y m n other)) [
          | inl s ↦ absurd (both_ways (separated_below alg M k x r) before (swapped k r x s))
          | inr s ↦ below_more alg M k (suc k) x y (omega arith) s
        ]
      ])

  -- one of two states that are separated in round k joins
  join_one : (k p q : ℕ) (xs : List ℕ) → ApartStates alg M k xs → p < M.count → q < M.count → separated alg M k p q ≡ true → (x : ℕ) × ApartStates alg M (suc k) (x ∷ xs)
  join_one k p q xs a hp hq s = elim (cases_Bool (list_all (λ r. separated_below alg M k p r) xs)) [
    | inl all ↦ (p, join k p xs a hp (λ y m. below_more alg M k (suc k) p y (omega arith) (every_each (λ r. separated_below alg M k p r) y xs all m)))
    | inr some ↦
        let n = not_every (λ r. separated_below alg M k p r) xs some in
        let r = n.0 in
        let hr = a.inside r n.1 in
        elim (below_split alg laws M proper (suc k) p r q hp hr hq (some_below alg M (suc k) k p q (omega arith) s)) [
          | inl now ↦ (p, join_now k p r xs a hp n.1 n.2 now)
          | inr now ↦ elim (cases_Bool (separated_below alg M k q r)) [
            | inr before ↦ (q, join_now k q r xs a hq n.1 before (swapped (suc k) r q now))
            | inl before ↦ absurd (elim (below_split alg laws M proper k q p r hq hp hr before) [
              | inl t ↦ both_ways (separated_below alg M k p q) (separated_new alg M k p q s) (swapped k q p t)
              | inr t ↦ both_ways (separated_below alg M k p r) n.2 t
            ])
          ]
        ]
  ]

  -- where two states are separated in round k there are k + 2 states each two of which are separated by then
  apart_states : (k p q : ℕ) → p < M.count → q < M.count → separated alg M k p q ≡ true → (xs : List ℕ) × (length xs ≡ k + 2) × ApartStates alg M (suc k) xs
  apart_states zero p q hp hq s =
      let one : ApartStates alg M 0 (q ∷ []) = record {
        inside = λ x m. elim m [ inl e ↦ subst (λ (v : ℕ). v < M.count) e hq | inr n ↦ absurd n ];
        once = (λ m. m, tt);
        apart = λ x y m n other. elim m [ inl e ↦ elim n [ inl f ↦ absurd (other (sym e ∙ f)) | inr z ↦ absurd z ] | inr z ↦ absurd z ];
      } in (
        p ∷ q ∷ [],
        refl,
        join 0 p (q ∷ []) one hp (λ y m. elim m [
          | inl e ↦ subst (λ (v : ℕ). separated_below alg M 1 p v ≡ true) e (some_below alg M 1 0 p q (omega arith) s)
          | inr z ↦ absurd z
        ]),
      )
  apart_states (suc k) p q hp hq s =
      let f = separated_fit alg laws M k p q s in
      let u = f.left in
      let v = f.right in
      let a = apart_states k u.to v.to (proper.in_range.to_in u f.left_in) (proper.in_range.to_in v f.right_in) f.holds in
      let x = join_one (suc k) p q a.0 a.2 hp hq s in
      (x.0 ∷ a.0, omega (arith, a.1), x.1)

  pub moore : (k p q : ℕ) → p < M.count → q < M.count → separated alg M k p q ≡ true → k + 2 ≤ M.count
  moore k p q hp hq s =
      let a = apart_states k p q hp hq s in
      let few = pigeonhole a.0 (below M.count) a.2.once (λ x m. member_below x M.count (a.2.inside x m)) in
      omega (arith, a.1, length_below M.count)

  module _ (small : M.count ≤ most_states) (p q : ℕ) (hp : p < M.count) (hq : q < M.count) where
    -- a round that counts separates two states if any day tells them apart
    pub separated_in_time : (w : List E) → Day alg w → just_one alg M p q w ≡ true → separated_below alg M most_rounds p q ≡ true
    separated_in_time w d one =
        let j = below_some alg M (suc (length w)) p q (day_separated alg laws M proper w p q hp hq d one) in
        let m = moore j.0 p q hp hq j.2 in
        some_below alg M most_rounds j.0 p q (omega arith) j.2

    -- else they accept the same days
    pub same_days : separated_below alg M most_rounds p q ≡ false → (w : List E) → Day alg w → accepted (automaton alg M) p w ≡ accepted (automaton alg M) q w
    same_days never w d = differ_same _ _ (elim (cases_Bool (just_one alg M p q w)) [
      | inl one ↦ absurd (both_ways (separated_below alg M most_rounds p q) never (separated_in_time w d one))
      | inr f ↦ f
    ])
