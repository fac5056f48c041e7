-- Just one of two tests is true; moves of two states that fit are those which one entry takes to states of which a relation holds.
use Rattle.std.proofs.Common.{◌≡◌, ℕ, Bool, true, false, ◌&&◌, eqb, ◌⊎◌, List, is_some, Decides, sym, refl, ◌∙◌, subst, inl, inr}
use Rattle.std.proofs.lemmas.Bool.{and_parts, and_from, eq-eqb, eqb-true, true≢false}
use Rattle.std.proofs.lemmas.Bool.Decides.{same_from_decides}
use Rattle.guards.specs.Algebra.{Model, Laws}
use Rattle.std.specs.List.{list_any}
use Rattle.guards.specs.Lists.{Member}
use Rattle.automata.specs.Rounds.{differ, fit, some_fit}
use Rattle.automata.specs.declared.moves.Move.{Move}
use Rattle.automata.proofs.Members.{any_some, some_any}
use Rattle.automata.proofs.Samples.{sampled, admitted}

pub differ_itself : (a : Bool) → differ a a ≡ false
differ_itself true = refl
differ_itself false = refl

pub differ_swap : (a b : Bool) → differ a b ≡ differ b a
differ_swap true true = refl
differ_swap true false = refl
differ_swap false true = refl
differ_swap false false = refl

pub differ_split : (a b c : Bool) → differ a c ≡ true → (differ a b ≡ true) ⊎ (differ b c ≡ true)
differ_split true true c h = inr h
differ_split true false c h = inl refl
differ_split false true c h = inl refl
differ_split false false c h = inr h

pub same_differ : (a b : Bool) → a ≡ b → differ a b ≡ false
same_differ a b e = subst (λ (c : Bool). differ a c ≡ false) e (differ_itself a)

pub differ_same : (a b : Bool) → differ a b ≡ false → a ≡ b
differ_same true true h = refl
differ_same true false h = absurd (true≢false h)
differ_same false true h = absurd (true≢false h)
differ_same false false h = refl

module _ {E G : Type 0} (alg : Model E G) (R : ℕ → ℕ → Bool) (p q : ℕ) where
  -- two moves that fit, without the laws
  pub record FitMoves (u v : Move G) : Type 0 where
    pub left_from : u.from ≡ p
    pub right_from : v.from ≡ q
    pub holds : R u.to v.to ≡ true
    pub meets : is_some (alg.sample (alg.meet u.guard v.guard)) ≡ true

  pub fit_moves : (u v : Move G) → fit alg R p q u v ≡ true → FitMoves u v
  fit_moves u v h =
      let r = R u.to v.to in
      let s = is_some (alg.sample (alg.meet u.guard v.guard)) in
      let parts = and_parts (eqb u.from p && eqb v.from q) (r && s) h in
      let froms = and_parts (eqb u.from p) (eqb v.from q) parts.0 in
      let rest = and_parts r s parts.1 in
      record { left_from = eqb-true u.from p froms.0; right_from = eqb-true v.from q froms.1; holds = rest.0; meets = rest.1 }

  pub moves_fit : (u v : Move G) → FitMoves u v → fit alg R p q u v ≡ true
  moves_fit u v f =
      and_from (eqb u.from p && eqb v.from q) (R u.to v.to && is_some (alg.sample (alg.meet u.guard v.guard)))
      (and_from (eqb u.from p) (eqb v.from q) (eq-eqb u.from p f.left_from) (eq-eqb v.from q f.right_from))
      (and_from (R u.to v.to) (is_some (alg.sample (alg.meet u.guard v.guard))) f.holds f.meets)

  pub some_fit_moves : (vs : List (Move G)) → some_fit alg vs R p q ≡ true → (u : Move G) × (v : Move G) × Member u vs × Member v vs × FitMoves u v
  some_fit_moves vs h =
      let a = any_some (λ u. list_any (fit alg R p q u) vs) vs h in
      let u = a.0 in
      let b = any_some (fit alg R p q u) vs a.2 in
      (u, b.0, a.1, b.1, fit_moves u b.0 b.2)

  pub moves_some_fit : (vs : List (Move G)) (u v : Move G) → Member u vs → Member v vs → FitMoves u v → some_fit alg vs R p q ≡ true
  moves_some_fit vs u v um vm f = some_any (λ u. list_any (fit alg R p q u) vs) u vs um (some_any (fit alg R p q u) v vs vm (moves_fit u v f))

  -- an entry, and moves of p and of q that admit it and lead to states of which R holds
  pub record Fit (vs : List (Move G)) : Type 0 where
    pub entry : E
    pub left : Move G
    pub right : Move G
    pub left_in : Member left vs
    pub right_in : Member right vs
    pub left_from : left.from ≡ p
    pub right_from : right.from ≡ q
    pub left_admits : alg.admits left.guard entry ≡ true
    pub right_admits : alg.admits right.guard entry ≡ true
    pub holds : R left.to right.to ≡ true

module _ {E G : Type 0} (alg : Model E G) (laws : Laws alg) where
  pub meet_parts : (g h : G) (e : E) → alg.admits (alg.meet g h) e ≡ true → (alg.admits g e ≡ true) × (alg.admits h e ≡ true)
  meet_parts g h e m = and_parts (alg.admits g e) (alg.admits h e) (sym (laws.meet_admits g h e) ∙ m)

  pub meet_from : (g h : G) (e : E) → alg.admits g e ≡ true → alg.admits h e ≡ true → alg.admits (alg.meet g h) e ≡ true
  meet_from g h e a b = laws.meet_admits g h e ∙ and_from (alg.admits g e) (alg.admits h e) a b

  module _ (R : ℕ → ℕ → Bool) where
    pub fit_decides : (vs : List (Move G)) (p q : ℕ) → Decides (some_fit alg vs R p q) (Fit alg R p q vs)
    fit_decides vs p q = (
      λ h.
          let a = some_fit_moves alg R p q vs h in
          let u = a.0 in
          let v = a.1 in
          let f = a.4 in
          let e = admitted alg laws (alg.meet u.guard v.guard) f.meets in
          let both = meet_parts u.guard v.guard e.0 e.1 in
          record {
            entry = e.0;
            left = u;
            right = v;
            left_in = a.2;
            right_in = a.3;
            left_from = f.left_from;
            right_from = f.right_from;
            left_admits = both.0;
            right_admits = both.1;
            holds = f.holds;
          },
      λ f.
          let u = f.left in
          let v = f.right in
          let s = sampled alg laws (alg.meet u.guard v.guard) f.entry (meet_from u.guard v.guard f.entry f.left_admits f.right_admits) in
          moves_some_fit alg R p q vs u v f.left_in f.right_in (record { left_from = f.left_from; right_from = f.right_from; holds = f.holds; meets = rw s.1 refl }),
    )

    module _ (swap : (p q : ℕ) → R p q ≡ R q p) (vs : List (Move G)) where
      pub fit_turn : (p q : ℕ) → Fit alg R p q vs → Fit alg R q p vs
      fit_turn p q f = record {
        entry = f.entry;
        left = f.right;
        right = f.left;
        left_in = f.right_in;
        right_in = f.left_in;
        left_from = f.right_from;
        right_from = f.left_from;
        left_admits = f.right_admits;
        right_admits = f.left_admits;
        holds = swap f.right.to f.left.to ∙ f.holds;
      }

      pub some_fit_swap : (p q : ℕ) → some_fit alg vs R p q ≡ some_fit alg vs R q p
      some_fit_swap p q =
          let d = fit_decides vs q p in
          same_from_decides (some_fit alg vs R p q) (some_fit alg vs R q p) (fit_decides vs p q) (λ h. fit_turn q p (d.0 h), λ f. d.1 (fit_turn p q f))
