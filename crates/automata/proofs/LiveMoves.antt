-- The live moves of a clause: the entries that they take, the rest that they leave, and the states that they reach.
use Rattle.std.proofs.Common.{◌≡◌, ℕ, Bool, true, false, not, ◌&&◌, eqb, is_some, Some, None, sym, refl, ap, ◌∙◌, inl, inr, arith}
use Rattle.std.proofs.lemmas.Bool.{cases_Bool, both_ways, and_parts, and_from, eq-eqb, eqb-true, not-true}
use Rattle.guards.specs.Algebra.{Model, Laws}
use Rattle.std.specs.List.{list_any}
use Rattle.guards.specs.Lists.{Member}
use Rattle.automata.specs.Checking.{live, successors, order, rest}
use Rattle.automata.specs.Machine.{Machine, Leads, InRange, Deterministic}
use Rattle.automata.specs.Running.{next}
use Rattle.automata.specs.Search.{Searched}
use Rattle.automata.specs.declared.moves.Move.{Move}
use Rattle.automata.proofs.MachineRuns.{found_nothing, leads_next}
use Rattle.automata.proofs.Members.{member_map, map_member, member_kept, kept_member, some_any, below, length_below, member_below}
use Rattle.automata.proofs.Places.{number_tells}
use Rattle.automata.proofs.RestMeanings.{rest_any}
use Rattle.automata.proofs.Samples.{sampled, admitted}
use Rattle.automata.proofs.Searching.{reached_searched}

module _ {E G : Type 0} (alg : Model E G) (laws : Laws alg) (M : Machine G) where
  abbrev keeps_live : ℕ → Move G → Bool
  keeps_live p v = eqb v.from p && is_some (alg.sample v.guard)

  pub live_move : (p : ℕ) (v : Move G) → Member v (live alg M p) → Member v M.moves × (v.from ≡ p) × ((e : E) × (alg.admits v.guard e ≡ true))
  live_move p v m =
      let k = kept_member (keeps_live p) v M.moves m in
      let t = and_parts (eqb v.from p) (is_some (alg.sample v.guard)) k.1 in
      (k.0, eqb-true v.from p t.0, admitted alg laws v.guard t.1)

  pub move_live : (p : ℕ) (v : Move G) (e : E) → Member v M.moves → v.from ≡ p → alg.admits v.guard e ≡ true → Member v (live alg M p)
  move_live p v e m from a =
      member_kept (keeps_live p) v M.moves m (and_from _ _ (eq-eqb v.from p from) (ap is_some (sampled alg laws v.guard e a).1))

  pub live_leads : (p : ℕ) (v : Move G) (e : E) → Member v (live alg M p) → alg.admits v.guard e ≡ true → Leads alg M p e v.to
  live_leads p v e m a = let l = live_move p v m in (v, l.0, l.1, a, refl)

  pub live_step : Deterministic alg M → (p : ℕ) (v : Move G) (e : E) → Member v (live alg M p) → alg.admits v.guard e ≡ true → next alg M.moves p e ≡ Some v.to
  live_step one p v e m a = leads_next alg laws M one p e v.to (live_leads p v e m a)

  -- a live move from p admits the entry
  abbrev pub taken : ℕ → E → Bool
  taken p e = list_any (λ v. alg.admits v.guard e) (live alg M p)

  pub not_taken : (p : ℕ) (e : E) → taken p e ≡ false → next alg M.moves p e ≡ None
  not_taken p e f = found_nothing (λ v. eqb v.from p && alg.admits v.guard e) (λ v. v.to) M.moves (λ v m.
      elim (cases_Bool (eqb v.from p && alg.admits v.guard e)) [
        | inr n ↦ n
        | inl y ↦
            let t = and_parts (eqb v.from p) (alg.admits v.guard e) y in
            absurd (both_ways (taken p e) f (some_any (λ v. alg.admits v.guard e) v (live alg M p) (move_live p v e m (eqb-true v.from p t.0) t.1) t.1))
      ])

  -- an entry that a guard of the rest admits is taken by no live move
  pub rest_not_taken : (p : ℕ) (g : G) (e : E) → Member g (rest alg M p) → alg.admits g e ≡ true → taken p e ≡ false
  rest_not_taken p g e m a =
      not-true (taken p e) (and_parts (alg.domain e) (not (taken p e)) (sym (rest_any alg laws (live alg M p) e) ∙ some_any (λ h. alg.admits h e) g (rest alg M p) m a)).1

  pub order_searched : InRange alg M → Searched (successors alg M) 0 (order alg M)
  order_searched range =
      reached_searched eqb number_tells (successors alg M) (below M.count) (λ p q _ m.
      let u = map_member (λ v. v.to) q (live alg M p) m in
      rw u.2 at (member_below u.0.to M.count (range.to_in u.0 (live_move p u.0 u.1).0)))
      0 (member_below 0 M.count range.some) M.count (omega (arith, length_below M.count))

  -- the target of a live move of a reached state is reached
  pub live_reached : InRange alg M → (p : ℕ) (v : Move G) → Member p (order alg M) → Member v (live alg M p) → Member v.to (order alg M)
  live_reached range p v m k = (order_searched range).closed p v.to m (member_map (λ u. u.to) v (live alg M p) k)
