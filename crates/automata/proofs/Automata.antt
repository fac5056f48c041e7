-- Reduced automata: none smaller accepts the same days, and two that accept the same days match in just one way.
use Rattle.std.proofs.Common.{◌≡◌, ℕ, ◌<◌, ◌≤◌, Bool, true, ◌⊎◌, List, [], ◌∷◌, ◌++◌, sym, refl, ap, ◌∙◌, inl, inr, arith}
use Rattle.std.proofs.ByRecursion.{All-append}
use Rattle.std.proofs.lemmas.Bool.{cases_eq, cases_lt}
use Rattle.automata.specs.Automaton.{run, Automaton, accepted, InDomain, Valid, SameDays, Reduced, Match, MatchOnce}
use Rattle.automata.proofs.Members.{injection_below}

pub run_append : {E Q : Type 0} (next : Q → E → Q) (q : Q) (v w : List E) → run next q (v ++ w) ≡ run next (run next q v) w
run_append next q [] w = refl
run_append next q (e ∷ v) w = run_append next (next q e) v w

module _ {E : Type 0} (domain : E → Bool) where
  pub run_in : (M : Automaton E) → Valid domain M → (q : ℕ) (w : List E) → q < M.count → InDomain domain w → run M.next q w < M.count
  run_in M valid q [] h d = h
  run_in M valid q (e ∷ w) h d = run_in M valid (M.next q e) w (valid.next_in q e h d.0) d.1

  -- states that accept the same days are one
  pub same_state : (M : Automaton E) → Reduced domain M → (p q : ℕ) → p < M.count → q < M.count →
      ((w : List E) → InDomain domain w → accepted M p w ≡ accepted M q w) → p ≡ q
  same_state M red p q hp hq same = elim (cases_eq p q) [ inl e ↦ e | inr n ↦ let a = red.apart p q hp hq n in absurd (a.2 (same a.0 a.1)) ]

  -- a match pairs states that accept the same days
  match_same : (M N : Automaton E) (f g : ℕ → ℕ) → Valid domain M → Match domain M N f g → (i : ℕ) → i < M.count → (w : List E) → InDomain domain w → accepted M i w ≡ accepted N (f i) w
  match_same M N f g valid m i h [] d = m.endings i h
  match_same M N f g valid m i h (e ∷ w) d =
      match_same M N f g valid m (M.next i e) (valid.next_in i e h d.0) w d.1 ∙ ap (λ q. accepted N q w) (m.nexts i e h d.0)

-- a day that reaches the state q, and no entries where q is no state
way_by : {E : Type 0} (domain : E → Bool) (M : Automaton E) → Reduced domain M → (q : ℕ) → (q < M.count) ⊎ (M.count ≤ q) → List E
way_by domain M red q (inl h) = (red.reached q h).0
way_by domain M red q (inr h) = []

way : {E : Type 0} (domain : E → Bool) (M : Automaton E) → Reduced domain M → ℕ → List E
way domain M red q = way_by domain M red q (cases_lt q M.count)

module _ {E : Type 0} (domain : E → Bool) (M : Automaton E) (red : Reduced domain M) where
  way_is : (q : ℕ) → q < M.count → InDomain domain (way domain M red q) × (run M.next M.start (way domain M red q) ≡ q)
  unfolding way way_by
  way_is q h = elim (cases_lt q M.count) as (λ c. InDomain domain (way_by domain M red q c) × (run M.next M.start (way_by domain M red q c) ≡ q)) [
    | inl k ↦ ((red.reached q k).1, (red.reached q k).2)
    | inr k ↦ absurd (omega arith)
  ]

  -- a machine with states of any kind that accepts the same days
  module _ {Q : Type 0} (next : Q → E → Q) (endings : Q → Bool) (start : Q) (same : (w : List E) → InDomain domain w → accepted M M.start w ≡ endings (run next start w)) where
    -- what a state of M accepts, it accepts after the way to that state
    way_same : (i : ℕ) → i < M.count → (w : List E) → InDomain domain w → accepted M i w ≡ endings (run next (run next start (way domain M red i)) w)
    way_same i h w d =
        let v = way domain M red i in
        ap (λ q. accepted M q w) (sym (way_is i h).1)
        ∙ ap M.endings (sym (run_append M.next M.start v w))
        ∙ same (v ++ w) (All-append (λ e. domain e ≡ true) v w (way_is i h).0 d)
        ∙ ap endings (run_append next start v w)

    -- days that reach the states of M lead there to a state of its own for each
    pub own_states : (days : ℕ → List E)
        × ((i : ℕ) → i < M.count → InDomain domain (days i) × (run M.next M.start (days i) ≡ i))
        × ((i j : ℕ) → i < M.count → j < M.count → run next start (days i) ≡ run next start (days j) → i ≡ j)
    own_states = (
      way domain M red,
      way_is,
      λ i j hi hj e. same_state domain M red i j hi hj (λ w d. way_same i hi w d ∙ ap (λ q. endings (run next q w)) e ∙ sym (way_same j hj w d)),
    )

  pub least : (N : Automaton E) → Valid domain N → SameDays domain M N → M.count ≤ N.count
  least N valid same =
      let own = own_states N.next N.endings N.start same in
      injection_below M.count N.count (λ i. run N.next N.start (own.0 i)) (λ i h. run_in domain N valid N.start (own.0 i) valid.start_in (own.1 i h).0) own.2

-- the partner of a state of M: where the way to it leads in N
partner : {E : Type 0} (domain : E → Bool) (M N : Automaton E) → Reduced domain M → ℕ → ℕ
partner domain M N red i = run N.next N.start (way domain M red i)

module _ {E : Type 0} (domain : E → Bool) (M N : Automaton E) (red : Reduced domain M) (valid : Valid domain N) (same : SameDays domain M N) where
  partner_in : (i : ℕ) → i < M.count → partner domain M N red i < N.count
  unfolding partner
  partner_in i h = run_in domain N valid N.start (way domain M red i) valid.start_in (way_is domain M red i h).0

  partner_same : (i : ℕ) → i < M.count → (w : List E) → InDomain domain w → accepted M i w ≡ accepted N (partner domain M N red i) w
  unfolding partner
  partner_same = way_same domain M red N.next N.endings N.start same

module _ {E : Type 0} (domain : E → Bool) (M N : Automaton E) (red : Reduced domain M) (red' : Reduced domain N) (same : SameDays domain M N) where
  partners : Match domain M N (partner domain M N red) (partner domain N M red')
  partners =
      let f = partner domain M N red in
      let g = partner domain N M red' in
      let back : SameDays domain N M = λ w d. sym (same w d) in
      let f_in = partner_in domain M N red red'.valid same in
      let g_in = partner_in domain N M red' red.valid back in
      let f_same = partner_same domain M N red red'.valid same in
      let g_same = partner_same domain N M red' red.valid back in
      record {
        there = f_in;
        back = g_in;
        there_back = λ i h. same_state domain M red (g (f i)) i (g_in (f i) (f_in i h)) h (λ w d. sym (g_same (f i) (f_in i h) w d) ∙ sym (f_same i h w d));
        back_there = λ j h. same_state domain N red' (f (g j)) j (f_in (g j) (g_in j h)) h (λ w d. sym (f_same (g j) (g_in j h) w d) ∙ sym (g_same j h w d));
        starts =
            let h = red.valid.start_in in
            same_state domain N red' (f M.start) N.start (f_in M.start h) red'.valid.start_in (λ w d. sym (f_same M.start h w d) ∙ same w d);
        endings = λ i h. f_same i h [] tt;
        nexts = λ i e h d.
            let k = red.valid.next_in i e h d in
            same_state domain N red' (f (M.next i e)) (N.next (f i) e) (f_in (M.next i e) k) (red'.valid.next_in (f i) e (f_in i h) d) (λ w v. sym (f_same (M.next i e) k w v) ∙ f_same i h (e ∷ w) (d, v));
      }

  pub match_once : MatchOnce domain M N
  match_once = record {
    some = (partner domain M N red, partner domain N M red', partners);
    only = λ f g f' g' m m'.
        let there : (i : ℕ) → i < M.count → f i ≡ f' i = λ i h. same_state domain N red' (f i) (f' i) (m.there i h) (m'.there i h) (λ w d. sym (match_same domain M N f g red.valid m i h w d) ∙ match_same domain M N f' g' red.valid m' i h w d) in
        (there, λ j h. let k = m.back j h in sym (m'.there_back (g j) k) ∙ ap g' (sym (there (g j) k) ∙ m.back_there j h));
  }
