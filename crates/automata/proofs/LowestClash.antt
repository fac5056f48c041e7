-- The lowest clash of a list of moves is the lowest, and moves without a clash are deterministic.
use Rattle.std.proofs.Common.{◌≡◌, ℕ, ◌+◌, ◌<◌, true, List, drop, Some, None, Option, sym, ap, ◌∙◌, subst, inl, inr, arith}
use Rattle.std.specs.Option.{option_map}
use Rattle.std.specs.List.{slice_get}
use Rattle.std.proofs.iter.SplitParts.{each_way}
use Rattle.std.proofs.lemmas.Option.{MatchOption-at_some, MatchOption-at_none}
use Rattle.std.proofs.lemmas.Bool.{cases_eq, cases_order, cases_lt, and_parts, and_from, eq-eqb, ne_eqb, not_from_false, cond-true}
use Rattle.guards.specs.Algebra.{Model, Laws}
use Rattle.automata.specs.Clashes.{clash, second_clash, lowest_clash, ClashAt, Lowest}
use Rattle.automata.specs.Machine.{Machine, Deterministic}
use Rattle.automata.specs.declared.moves.Move.{Move}
use Rattle.automata.proofs.FirstSome.{mapped_some, mapped_none, NoAnswer, FirstAnswer, first_some_is}
use Rattle.automata.proofs.Places.{member_place}
use Rattle.automata.proofs.Samples.{sampled}

module _ {E G : Type 0} (alg : Model E G) (moves : List (Move G)) where
  abbrev ask_second : Move G → ℕ → Move G → Option (ℕ × E)
  ask_second u j v = option_map (λ e. (j, e)) (clash alg u v)

  abbrev ask_first : ℕ → Move G → Option (ℕ × ℕ × E)
  ask_first i u = option_map (λ p. (i, p.0, p.1)) (second_clash alg u (i + 1) (drop (i + 1) moves))

  -- a move that finds no later one clashes with none
  no_second : (i : ℕ) → ((u : Move G) → slice_get moves i ≡ Some u → ask_first i u ≡ None) → (j : ℕ) (e : E) → ClashAt alg moves i j e → ⊥
  no_second i none j e c =
      let u = c.first in
      let silent : second_clash alg u (i + 1) (drop (i + 1) moves) ≡ None = mapped_none (λ p. (i, p.0, p.1)) _ (none u c.first_at) in
      let all = MatchOption-at_none (NoAnswer (ask_second u) moves (i + 1)) (FirstAnswer (ask_second u) moves (i + 1)) silent (first_some_is (ask_second u) moves (i + 1)) in
      let out : clash alg u c.second ≡ None = mapped_none (λ e. (j, e)) (clash alg u c.second) (all j c.second (omega (arith, c.ordered)) c.second_at) in
      let some = c.sample in
      let z : ◌≡◌ {A = ℕ} 0 1 = cc in
      omega arith

  -- the first move that finds a later one, and the first that it finds
  low_at : (i : ℕ) (u : Move G) → slice_get moves i ≡ Some u → ((k : ℕ) (v : Move G) → k < i → slice_get moves k ≡ Some v → ask_first k v ≡ None) →
      (q : ℕ × E) → FirstAnswer (ask_second u) moves (i + 1) q → Lowest alg moves (Some (i, q.0, q.1))
  low_at i u at before q s =
      let b = mapped_some (λ e. (s.place, e)) (clash alg u s.element) q s.answer in
      subst (λ (r : ℕ × E). Lowest alg moves (Some (i, r.0, r.1))) b.2 (
        record { first = u; second = s.element; first_at = at; second_at = s.read; ordered = omega (arith, s.from); sample = b.1 },
        λ k j e c. elim (cases_order i k) [
          | inr (inl lt) ↦ inl lt
          | inr (inr gt) ↦ absurd (no_second k (λ v. before k v gt) j e c)
          | inl same ↦ inr (same, elim (cases_lt j s.place) [ inr le ↦ le | inl lt ↦ absurd (never k j e c same lt) ])
        ],
      )
    where
      never : (k j : ℕ) (e : E) → ClashAt alg moves k j e → i ≡ k → j < s.place → ⊥
      never k j e c same lt =
          let out = mapped_none (λ e. (j, e)) (clash alg u c.second) (s.before j c.second (omega (arith, c.ordered)) lt c.second_at) in
          let is : c.first ≡ u = cc in
          let z : ◌≡◌ {A = ℕ} 0 1 = cc in
          omega arith

  low : (p : ℕ × ℕ × E) → FirstAnswer ask_first moves 0 p → Lowest alg moves (Some p)
  low p f =
      let i = f.place in
      let u = f.element in
      let a = mapped_some (λ q. (i, q.0, q.1)) (second_clash alg u (i + 1) (drop (i + 1) moves)) p f.answer in
      let s = MatchOption-at_some (NoAnswer (ask_second u) moves (i + 1)) (FirstAnswer (ask_second u) moves (i + 1)) a.0 a.1 (first_some_is (ask_second u) moves (i + 1)) in
      subst (λ (r : ℕ × ℕ × E). Lowest alg moves (Some r)) a.2 (low_at i u f.read (λ k v lt. f.before k v (omega arith) lt) a.0 s)

  pub lowest_clash_is : Lowest alg moves (lowest_clash alg moves)
  lowest_clash_is =
      each_way (lowest_clash alg moves) (NoAnswer ask_first moves 0) (Lowest alg moves None) (FirstAnswer ask_first moves 0) (λ p. Lowest alg moves (Some p))
      (λ none i j e c. no_second i (λ u. none i u (omega arith)) j e c) low (first_some_is ask_first moves 0)

  pub lowest_from : (r : Option (ℕ × ℕ × E)) → r ≡ lowest_clash alg moves → Lowest alg moves r
  lowest_from r is = subst (Lowest alg moves) (sym is) lowest_clash_is

module _ {E G : Type 0} (alg : Model E G) (laws : Laws alg) (M : Machine G) where
  clashes : (u v : Move G) → u.from ≡ v.from → (u.to ≡ v.to → ⊥) → (e : E) → alg.admits u.guard e ≡ true → alg.admits v.guard e ≡ true → (s : E) × (clash alg u v ≡ Some s)
  clashes u v from apart e a b =
      let meet = alg.meet u.guard v.guard in
      let s = sampled alg laws meet e (laws.meet_admits u.guard v.guard e ∙ and_from _ _ a b) in
      (s.0, cond-true _ (alg.sample meet) None (and_from _ _ (eq-eqb u.from v.from from) (not_from_false _ (ne_eqb u.to v.to apart))) ∙ s.1)

  pub no_clash_deterministic : lowest_clash alg M.moves ≡ None → Deterministic alg M
  no_clash_deterministic none u v mu mv from e both = elim (cases_eq u.to v.to) [
    | inl same ↦ same
    | inr apart ↦
        let i = member_place u M.moves mu in
        let j = member_place v M.moves mv in
        let b = and_parts (alg.admits u.guard e) (alg.admits v.guard e) (sym (laws.meet_admits u.guard v.guard e) ∙ both) in
        elim (cases_order i.0 j.0) [
          | inl same ↦ let one : u ≡ v = cc (i.1, j.1) in ap (λ (w : Move G). w.to) one
          | inr (inl lt) ↦ absurd (never i.0 j.0 u v i.1 j.1 lt (clashes u v from apart e b.0 b.1))
          | inr (inr gt) ↦ absurd (never j.0 i.0 v u j.1 i.1 gt (clashes v u (sym from) (λ t. apart (sym t)) e b.1 b.0))
        ]
  ]
    where
      never : (i j : ℕ) (u v : Move G) → slice_get M.moves i ≡ Some u → slice_get M.moves j ≡ Some v → i < j → (s : E) × (clash alg u v ≡ Some s) → ⊥
      never i j u v at bt lt c =
          MatchOption-at_none (Lowest alg M.moves None) (λ p. Lowest alg M.moves (Some p)) none (lowest_clash_is alg M.moves) i j c.0
          (record { first = u; second = v; first_at = at; second_at = bt; ordered = lt; sample = c.1 })
