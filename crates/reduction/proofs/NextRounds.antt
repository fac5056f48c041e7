-- One round more by marks: what two moves mark, one marking after another, and the loops that mark.
use Rattle.std.proofs.Common.{◌≡◌, ℕ, ◌+◌, ◌<◌, ◌≤◌, Bool, true, false, cond, not, ◌&&◌, ◌||◌, eqb, List, length, get_or, take, is_some, Some, None, Option, sym, refl, ap, ◌∙◌, ap₂, arith}
use Rattle.std.proofs.lemmas.Bool.{and_parts, eqb-true, false≢true, ne_eqb}
use Rattle.std.proofs.lemmas.List.{take_all}
use Rattle.std.proofs.lemmas.List.Folds.{list_any_more}
use Rattle.std.specs.List.{list_any}
use Rattle.guards.specs.Algebra.{Model}
use Rattle.automata.specs.Rounds.{fit}
use Rattle.automata.specs.declared.moves.Move.{Move}
use Rattle.reduction.specs.Marks.{apart_by, in_round, is_round, round_at}
use Rattle.reduction.specs.Rounds.{later_round, separates, NextMarks}

-- states that are not found keep their round
unfound : (k : ℕ) (o : Option ℕ) → later_round k false o ≡ o
unfound k None = refl
unfound k (Some j) = refl

found_first : (k : ℕ) (o : Option ℕ) → not (is_some o) ≡ true → Some (k + 1) ≡ later_round k true o
found_first k None h = refl
found_first k (Some j) h = absurd (false≢true h)

-- states that are marked where t holds, if they then are different and without a round and the rest of the test holds
marked_if : (k : ℕ) (t d r l : Bool) (o : Option ℕ) → (t ≡ true → (d ≡ true) × (not (is_some o) ≡ true) × (r ≡ true) × (l ≡ true)) → cond t (Some (k + 1)) o ≡ later_round k (d && (t && (r && l))) o
marked_if k true d r l o holds =
    let h = holds refl in
    found_first k o h.1 ∙ sym (ap₂ (λ s w. later_round k (s && w) o) h.0 (ap₂ ◌&&◌ h.2 h.3))
marked_if k false true r l o holds = sym (unfound k o)
marked_if k false false r l o holds = sym (unfound k o)

module _ (k : ℕ) where
  -- a marking keeps which states the round k separates
  keeps_round : (found : Bool) (o : Option ℕ) → is_round k (later_round k found o) ≡ is_round k o
  keeps_round true None = ne_eqb (k + 1) k (λ e. omega arith)
  keeps_round false None = refl
  keeps_round found (Some j) = refl

  pub same_round : (found : ℕ → ℕ → Bool) (before after : List ℕ) → NextMarks k found before after → in_round after k ≡ in_round before k
  same_round found before after next = λ i p q. (ap (is_round k) (next p q) ∙ keeps_round (not (eqb p q) && found p q) (round_at before p q)) i

  -- one marking after another
  twice : (d a b : Bool) (o : Option ℕ) → later_round k (d && b) (later_round k (d && a) o) ≡ later_round k (d && (a || b)) o
  twice true true true None = refl
  twice true true false None = refl
  twice true false b None = refl
  twice false a b None = refl
  twice d a b (Some j) = refl

  next_next : (f g h : ℕ → ℕ → Bool) (m m₁ m₂ : List ℕ) → NextMarks k f m m₁ → NextMarks k g m₁ m₂ → ((p q : ℕ) → h p q ≡ (f p q || g p q)) → NextMarks k h m m₂
  next_next f g h m m₁ m₂ one two is p q =
      two p q ∙ ap (later_round k (not (eqb p q) && g p q)) (one p q) ∙ twice (not (eqb p q)) (f p q) (g p q) (round_at m p q)
      ∙ ap (λ t. later_round k (not (eqb p q) && t) (round_at m p q)) (sym (is p q))

  -- a loop that marks by each element in turn
  module _ {X : Type 0} (test : (ℕ → ℕ → Bool) → ℕ → ℕ → X → Bool) (xs : List X) (i : ℕ) (m m₁ : List ℕ) (inv : NextMarks k (λ p q. list_any (test (in_round m k) p q) (take i xs)) m m₁) where
    pub next_more : (x : X) (m₂ : List ℕ) → i < length xs → x ≡ get_or xs i x → NextMarks k (λ p q. test (in_round m₁ k) p q x) m₁ m₂
        → NextMarks k (λ p q. list_any (test (in_round m k) p q) (take (i + 1) xs)) m m₂
    next_more x m₂ lt read step =
        let same = same_round (λ p q. list_any (test (in_round m k) p q) (take i xs)) m m₁ inv in
        next_next (λ p q. list_any (test (in_round m k) p q) (take i xs)) (λ p q. test (in_round m₁ k) p q x) (λ p q. list_any (test (in_round m k) p q) (take (i + 1) xs)) m m₁ m₂ inv step
        (λ p q. list_any_more (test (in_round m k) p q) xs i x lt ∙ ap₂ (λ R y. list_any (test (in_round m k) p q) (take i xs) || test R p q y) (sym same) (sym read))

    pub next_all : length xs ≤ i → NextMarks k (λ p q. list_any (test (in_round m k) p q) xs) m m₁
    next_all h p q = inv p q ∙ ap (λ ys. later_round k (not (eqb p q) && list_any (test (in_round m k) p q) ys) (round_at m p q)) (take_all i xs h)

-- two moves that separate the states that they go from, which get the next round
module _ {E G : Type 0} (alg : Model E G) (k : ℕ) (u v : Move G) (before after : List ℕ) (apart : separates alg before k u v ≡ true)
    (set : (i j : ℕ) → round_at after i j ≡ cond (eqb u.from i && eqb v.from j) (Some (k + 1)) (round_at before i j)) where
  pub pair_marked : NextMarks k (λ p q. fit alg (in_round before k) p q u v) before after
  pair_marked p q =
      set p q ∙ marked_if k (eqb u.from p && eqb v.from q) (not (eqb p q)) (in_round before k u.to v.to) (is_some (alg.sample (alg.meet u.guard v.guard))) (round_at before p q) (λ t.
      let here = and_parts (eqb u.from p) (eqb v.from q) t in
      let first = eqb-true u.from p here.0 in
      let second = eqb-true v.from q here.1 in
      let other = not (eqb u.from v.from) in
      let unmarked = not (apart_by before u.from v.from) in
      let live = and_parts ((other && unmarked) && in_round before k u.to v.to) _ apart in
      let leads = and_parts (other && unmarked) (in_round before k u.to v.to) live.0 in
      let new = and_parts other unmarked leads.0 in
      (sym (ap₂ (λ i j. not (eqb i j)) first second) ∙ new.0, sym (ap₂ (λ i j. not (apart_by before i j)) first second) ∙ new.1, leads.1, live.1))
