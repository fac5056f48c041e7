-- The product of two proper machines is proper, accepts the days that its way of joining tells, and has no state that no day reaches.
use Rattle.std.proofs.Common.{◌≡◌, ℕ, ◌<◌, Bool, true, false, List, [], ◌∷◌, map, length, unwrap_or, sym, refl, ap, ◌∙◌, subst, inl, inr, arith}
use Rattle.std.proofs.lemmas.List.{length-map, get_or-map, get_or_past}
use Rattle.std.proofs.lemmas.Bool.{cases_lt, and_parts, and_from, both_ways}
use Rattle.std.proofs.lemmas.Bool.Decides.{same_from_decides}
use Rattle.guards.specs.Algebra.{Model, Laws}
use Rattle.guards.specs.Lists.{Member}
use Rattle.automata.specs.Automaton.{run, accepted}
use Rattle.automata.specs.Machine.{Machine, Day, Leads, LeadsTo, Deterministic, Proper}
use Rattle.automata.specs.Product.{same_pair, start_pair, met, pair_moves, pair_targets, pairs, pair_number, product_moves, chosen, product}
use Rattle.automata.specs.Running.{automaton}
use Rattle.automata.specs.Search.{Searched}
use Rattle.automata.specs.declared.joins.JoinBy.{JoinBy}
use Rattle.automata.specs.declared.moves.Move.{Move}
use Rattle.automata.specs.declared.pairs.PairMove.{PairMove}
use Rattle.automata.specs.declared.pairs.StatePair.{StatePair}
use Rattle.automata.proofs.MachineRuns.{leads_next, step_leads, automaton_accepts}
use Rattle.automata.proofs.Members.{member_map, map_member}
use Rattle.automata.proofs.Numbered.{MoveOf, Numbered, numbered_joined, numbered_proper, numbered_accepts, numbered_reaches, reaches_run}
use Rattle.automata.proofs.Places.{place_at, first_place}
use Rattle.automata.proofs.ReachedPairs.{pair, pair_tells, pair_move, move_pair, pairs_searched, pairs_in, pairs_closed}
use Rattle.automata.proofs.Strays.{no_stray}

-- where a move leads, the automaton goes
automaton_next : {E G : Type 0} (alg : Model E G) → Laws alg → (M : Machine G) → Deterministic alg M → (p : ℕ) (e : E) (q : ℕ) → Leads alg M p e q → (automaton alg M).next p e ≡ q
automaton_next alg laws M one p e q l = ap (λ o. unwrap_or o p) (leads_next alg laws M one p e q l)

module _ {E G : Type 0} (alg : Model E G) (M N : Machine G) where
  pub product_count : (way : JoinBy) → (product alg M N way).count ≡ length (pairs alg M N)
  product_count way = refl

  -- both machines take the entry
  abbrev step : StatePair → E → StatePair
  step x e = pair ((automaton alg M).next x.rule e) ((automaton alg N).next x.clause e)

  abbrev Node : StatePair → Type 0
  Node x = Member x (pairs alg M N)

  abbrev moves_of : StatePair → List (PairMove G)
  moves_of = pair_moves alg M.moves N.moves

  abbrev numbered : StatePair → PairMove G → Move G
  numbered x a = record { from = pair_number alg M N x; guard = a.guard; to = pair_number alg M N a.to }

  run_pair : (w : List E) (x : StatePair) → run step x w ≡ pair (run (automaton alg M).next x.rule w) (run (automaton alg N).next x.clause w)
  run_pair [] x = refl
  run_pair (e ∷ w) x = run_pair w (step x e)

module _ {E G : Type 0} (alg : Model E G) (laws : Laws alg) (M N : Machine G) (rule : Proper alg M) (clause : Proper alg N) where
  searched : Searched (pair_targets alg M.moves N.moves) start_pair (pairs alg M N)
  searched = pairs_searched alg laws M N rule.in_range.some clause.in_range.some (no_stray alg M rule.in_range) (no_stray alg N clause.in_range)

  inside : (x : StatePair) → Node alg M N x → (x.rule < M.count) × (x.clause < N.count)
  inside = pairs_in alg laws M N rule.in_range.some clause.in_range.some (no_stray alg M rule.in_range) (no_stray alg N clause.in_range)

  closed : (x : StatePair) (a : PairMove G) → Node alg M N x → Member a (moves_of alg M N x) → Node alg M N a.to
  closed = pairs_closed alg laws M N rule.in_range.some clause.in_range.some (no_stray alg M rule.in_range) (no_stray alg N clause.in_range)

  start_in : Node alg M N start_pair
  start_in = rw searched.first.1 (inl refl)

  start_number : pair_number alg M N start_pair ≡ 0
  start_number = first_place same_pair pair_tells start_pair (pairs alg M N) searched.first.0 searched.first.1

  -- an entry that a move of the pair admits leads both machines where the move leads
  pair_step : (x : StatePair) (a : PairMove G) (e : E) → Member a (moves_of alg M N x) → alg.admits a.guard e ≡ true → step alg M N x e ≡ a.to
  pair_step x a e m =
      let o = pair_move alg laws M.moves N.moves x a m in
      let u = o.0 in
      let v = o.1 in
      let by = o.2 in
      subst (λ (b : PairMove G). alg.admits b.guard e ≡ true → step alg M N x e ≡ b.to) by.is (λ t.
      let h = and_parts (alg.admits u.guard e) (alg.admits v.guard e) (sym (laws.meet_admits u.guard v.guard e) ∙ t) in
      let left = automaton_next alg laws M rule.deterministic x.rule e u.to (u, by.rule_in, by.rule_from, h.0, refl) in
      let right = automaton_next alg laws N clause.deterministic x.clause e v.to (v, by.clause_in, by.clause_from, h.1, refl) in
      λ i. pair (left i) (right i))

  pair_live : (x : StatePair) (a : PairMove G) → Member a (moves_of alg M N x) → (e : E) × (alg.admits a.guard e ≡ true)
  pair_live x a m =
      let o = pair_move alg laws M.moves N.moves x a m in
      subst (λ (b : PairMove G). (e : E) × (alg.admits b.guard e ≡ true)) o.2.is o.2.live

  move_of : (x : StatePair) (v : Move G) → Node alg M N x → Member v (product_moves alg M N x) → MoveOf alg (Node alg M N) (pair_number alg M N) (step alg M N) x v
  move_of x v m k =
      let r = map_member (numbered alg M N x) v (moves_of alg M N x) k in
      let a = r.0 in
      subst (MoveOf alg (Node alg M N) (pair_number alg M N) (step alg M N) x) r.2 (record {
        from = refl;
        to = λ e t.
            let is = sym (pair_step x a e r.1 t) in
            (subst (Node alg M N) is (closed x a m r.1), ap (pair_number alg M N) is);
        live = pair_live x a r.1;
      })

  move_some : (x : StatePair) (e : E) → Node alg M N x → alg.domain e ≡ true → (v : Move G) × Member v (product_moves alg M N x) × (alg.admits v.guard e ≡ true)
  move_some x e m d =
      let b = inside x m in
      let (u, um, uf, ua, _) = step_leads alg laws M rule x.rule e b.0 d in
      let (v, vm, vf, va, _) = step_leads alg laws N clause x.clause e b.1 d in
      let both = laws.meet_admits u.guard v.guard e ∙ and_from _ _ ua va in
      let a = met alg u v in
      (numbered alg M N x a, member_map (numbered alg M N x) a (moves_of alg M N x) (move_pair alg laws M.moves N.moves x u v e um vm uf vf both), both)

  -- a day leads to each pair of the list
  way : (x : StatePair) → Node alg M N x → (w : List E) × Day alg w × (run (step alg M N) start_pair w ≡ x)
  way x m = reaches_run alg.domain (pair_targets alg M.moves N.moves) (step alg M N) (λ y. y) start_pair (λ y z _ k.
      let r = map_member (λ a. a.to) z (moves_of alg M N y) k in
      let a = r.0 in
      let e = pair_live y a r.1 in
      (e.0, laws.inside a.guard e.0 e.1, pair_step y a e.0 r.1 e.1 ∙ r.2)) x (searched.only x m)

  module _ (way_of : JoinBy) where
    abbrev ends : StatePair → Bool
    ends x = chosen way_of (M.endings x.rule) (N.endings x.clause)

    product_numbered : Numbered alg (product alg M N way_of) (Node alg M N) (pair_number alg M N) (product_moves alg M N) (step alg M N)
    product_numbered = numbered_joined alg same_pair pair_tells (pairs alg M N) searched.once start_pair (product alg M N way_of).endings (product_moves alg M N) (step alg M N) move_of move_some

    ends_are : (x : StatePair) → Node alg M N x → (product alg M N way_of).endings (pair_number alg M N x) ≡ ends x
    ends_are x m =
        let r = place_at same_pair pair_tells x x (pairs alg M N) m in
        get_or-map ends (pairs alg M N) (pair_number alg M N x) x false r.0 ∙ ap ends r.1

    ends_in : (q : ℕ) → (product alg M N way_of).endings q ≡ true → q < (product alg M N way_of).count
    ends_in q t = elim (cases_lt q (length (pairs alg M N))) [
      | inl lt ↦ lt
      | inr ge ↦ absurd (both_ways _ (get_or_past (map ends (pairs alg M N)) q false (omega (arith, length-map (pairs alg M N) ends))) t)
    ]

    pub product_proper : Proper alg (product alg M N way_of)
    product_proper = numbered_proper alg laws product_numbered start_pair start_in ends_in

    pub product_accepts : (w : List E) → Day alg w → accepted (automaton alg (product alg M N way_of)) 0 w ≡ chosen way_of (accepted (automaton alg M) 0 w) (accepted (automaton alg N) 0 w)
    product_accepts w d =
        same_from_decides _ _ (automaton_accepts alg laws (product alg M N way_of) product_proper 0 w product_proper.in_range.some d)
        (rw start_number at (numbered_accepts alg laws product_numbered product_proper ends ends_are w start_pair start_in d))
        ∙ ap ends (run_pair alg M N w start_pair)

    pub product_reaches : (q : ℕ) → q < (product alg M N way_of).count → (w : List E) × Day alg w × LeadsTo alg (product alg M N way_of) 0 w q
    product_reaches q h = rw start_number at (numbered_reaches alg laws product_numbered start_pair start_in way q h)
