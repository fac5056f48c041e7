-- The states of the checked machine are numbered nodes: the reached states, and the sink.
use Rattle.std.proofs.Common.{◌≡◌, ℕ, ◌<◌, Bool, true, false, cond, eqb, List, [], ◌∷◌, map, length, get_or, Some, None, Option, sym, refl, ap, ◌∙◌, subst, inl, inr, arith}
use Rattle.std.specs.List.{flat_map}
use Rattle.std.proofs.lemmas.Bool.{cases_Bool, cases_lt, cond-true, cond-false, and_from, not_from_false}
use Rattle.guards.specs.Algebra.{Model, Laws}
use Rattle.guards.specs.Lists.{Member, is_some}
use Rattle.automata.specs.Checking.{live, order, number, rest, has_sink, sink, placed, checked}
use Rattle.automata.specs.Machine.{Machine, InRange, Deterministic}
use Rattle.automata.specs.Running.{next}
use Rattle.automata.specs.declared.moves.Move.{Move}
use Rattle.automata.proofs.LiveMoves.{live_move, live_step, live_reached, taken, not_taken, rest_not_taken, order_searched}
use Rattle.automata.proofs.Members.{member_some, member_left, member_right, member_cases, member_map, map_member, joined_member, member_joined, any_some, some_any}
use Rattle.automata.proofs.Numbered.{MoveOf, Numbered}
use Rattle.automata.proofs.Places.{member_get_or, number_tells, place_at, place_own, at_place}
use Rattle.automata.proofs.RestMeanings.{rest_any, rest_some}

-- the nodes of the checked machine are the reached states, and None, the sink
module _ {E G : Type 0} (alg : Model E G) (M : Machine G) where
  abbrev pub Node : Option ℕ → Type 0
  Node (Some p) = Member p (order alg M)
  Node None = has_sink alg M ≡ true

  abbrev pub place : Option ℕ → ℕ
  place (Some p) = number alg M p
  place None = sink alg M

  -- what becomes of a live move, of a guard of a rest, and the sink's own move
  abbrev kept : ℕ → Move G → Move G
  kept p v = record { from = number alg M p; guard = v.guard; to = number alg M v.to }

  abbrev sunk : ℕ → G → Move G
  sunk p g = record { from = number alg M p; guard = g; to = sink alg M }

  abbrev stays : Move G
  stays = record { from = sink alg M; guard = alg.whole; to = sink alg M }

  abbrev sinks : List (Move G)
  sinks = cond (has_sink alg M) (stays ∷ []) []

  abbrev moves_of : Option ℕ → List (Move G)
  moves_of (Some p) = placed alg M p
  moves_of None = stays ∷ []

  abbrev pub step : Option ℕ → E → Option ℕ
  step (Some p) e = next alg M.moves p e
  step None e = None

  abbrev pub ends : Option ℕ → Bool
  ends (Some p) = M.endings p
  ends None = false

  abbrev Of : Option ℕ → Move G → Type 0
  Of = MoveOf alg Node place step

module _ {E G : Type 0} (alg : Model E G) (laws : Laws alg) (M : Machine G) (range : InRange alg M) (one : Deterministic alg M) where
  kept_of : (p : ℕ) (v : Move G) → Member p (order alg M) → Member v (live alg M p) → Of alg M (Some p) (kept alg M p v)
  kept_of p v m k = record {
    from = refl;
    to = λ e a. subst (λ (o : Option ℕ). Node alg M o × (number alg M v.to ≡ place alg M o)) (sym (live_step alg laws M one p v e k a)) (live_reached alg laws M range p v m k, refl);
    live = (live_move alg laws M p v k).2;
  }

  sunk_of : (p : ℕ) (g : G) → Member p (order alg M) → Member g (rest alg M p) → Of alg M (Some p) (sunk alg M p g)
  sunk_of p g m k = record {
    from = refl;
    to = λ e a. subst (λ (o : Option ℕ). Node alg M o × (sink alg M ≡ place alg M o)) (sym (not_taken alg laws M p e (rest_not_taken alg laws M p g e k a)))
        (some_any (λ p. is_some (rest alg M p)) p (order alg M) m (member_some g (rest alg M p) k), refl);
    live = rest_some alg laws (live alg M p) g k;
  }

  move_of : (x : Option ℕ) (v : Move G) → Node alg M x → Member v (moves_of alg M x) → Of alg M x v
  move_of (Some p) v m k = elim (member_cases v (map (kept alg M p) (live alg M p)) (map (sunk alg M p) (rest alg M p)) k) [
    | inl a ↦ let u = map_member (kept alg M p) v (live alg M p) a in subst (Of alg M (Some p)) u.2 (kept_of p u.0 m u.1)
    | inr b ↦ let u = map_member (sunk alg M p) v (rest alg M p) b in subst (Of alg M (Some p)) u.2 (sunk_of p u.0 m u.1)
  ]
  move_of None v m (inl is) = let d = laws.inhabited in subst (Of alg M None) is (record { from = refl; to = λ e a. (m, refl); live = (d.0, laws.whole_admits d.0 ∙ d.1) })
  move_of None v m (inr z) = absurd z

  move_some : (x : Option ℕ) (e : E) → Node alg M x → alg.domain e ≡ true → (v : Move G) × Member v (moves_of alg M x) × (alg.admits v.guard e ≡ true)
  move_some None e m d = (stays alg M, inl refl, laws.whole_admits e ∙ d)
  move_some (Some p) e m d =
      let kepts = map (kept alg M p) (live alg M p) in
      let sunks = map (sunk alg M p) (rest alg M p) in
      elim (cases_Bool (taken alg laws M p e)) [
        | inl t ↦
            let u = any_some (λ v. alg.admits v.guard e) (live alg M p) t in
            let v = kept alg M p u.0 in
            (v, member_left v kepts sunks (member_map (kept alg M p) u.0 (live alg M p) u.1), u.2)
        | inr f ↦
            let u = any_some (λ g. alg.admits g e) (rest alg M p) (rest_any alg laws (live alg M p) e ∙ and_from _ _ d (not_from_false _ f)) in
            let v = sunk alg M p u.0 in
            (v, member_right v kepts sunks (member_map (sunk alg M p) u.0 (rest alg M p) u.1), u.2)
      ]

  pub checked_numbered : Numbered alg (checked alg M) (Node alg M) (place alg M) (moves_of alg M) (step alg M)
  checked_numbered = record { inside = inside; own = own; each = each; out = out; into = into; move_of = move_of; some = move_some }
    where
      place_in : (p : ℕ) → Member p (order alg M) → number alg M p < length (order alg M)
      place_in p m = (place_at eqb number_tells p p (order alg M) m).0

      inside : (x : Option ℕ) → Node alg M x → place alg M x < (checked alg M).count
      inside (Some p) m = omega (arith, place_in p m)
      inside None h = let c : ◌≡◌ {A = ℕ} (cond (has_sink alg M) 1 0) 1 = cond-true (has_sink alg M) 1 0 h in omega arith

      own : (x y : Option ℕ) → Node alg M x → Node alg M y → place alg M x ≡ place alg M y → x ≡ y
      own (Some p) (Some q) m k e = ap Some (place_own eqb number_tells p q (order alg M) m k e)
      own (Some p) None m k e = absurd (omega (arith, place_in p m))
      own None (Some q) m k e = absurd (omega (arith, place_in q k))
      own None None m k e = refl

      each : (q : ℕ) → q < (checked alg M).count → (x : Option ℕ) × Node alg M x × (place alg M x ≡ q)
      each q h = elim (cases_lt q (length (order alg M))) [
        | inl lt ↦ (Some (get_or (order alg M) q 0), member_get_or (order alg M) q 0 lt, at_place eqb number_tells (order alg M) q 0 (order_searched alg laws M range).once lt)
        | inr ge ↦ elim (cases_Bool (has_sink alg M)) [
          | inl t ↦ (None, t, let c : ◌≡◌ {A = ℕ} (cond (has_sink alg M) 1 0) 1 = cond-true (has_sink alg M) 1 0 t in omega arith)
          | inr f ↦ let c : ◌≡◌ {A = ℕ} (cond (has_sink alg M) 1 0) 0 = cond-false (has_sink alg M) 1 0 f in absurd (omega arith)
        ]
      ]

      if_sink : (b : Bool) (v : Move G) → Member v (cond b (stays alg M ∷ []) []) → (b ≡ true) × Member v (stays alg M ∷ [])
      if_sink true v m = (refl, m)
      if_sink false v m = absurd m

      out : (v : Move G) → Member v (checked alg M).moves → (x : Option ℕ) × Node alg M x × Member v (moves_of alg M x)
      out v m = elim (member_cases v (flat_map (placed alg M) (order alg M)) (sinks alg M) m) [
        | inl a ↦ let r = joined_member (placed alg M) v (order alg M) a in (Some r.0, r.1, r.2)
        | inr b ↦ let r = if_sink (has_sink alg M) v b in (None, r.0, r.1)
      ]

      into : (x : Option ℕ) (v : Move G) → Node alg M x → Member v (moves_of alg M x) → Member v (checked alg M).moves
      into (Some p) v m k = member_left v (flat_map (placed alg M) (order alg M)) (sinks alg M) (member_joined (placed alg M) p v (order alg M) m k)
      into None v h k = member_right v (flat_map (placed alg M) (order alg M)) (sinks alg M) (subst (λ (b : Bool). Member v (cond b (stays alg M ∷ []) [])) (sym h) k)
