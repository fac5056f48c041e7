-- The rest that moves leave admits each domain entry that no move admits just once, and nothing else.
use Rattle.std.proofs.Common.{◌≡◌, ℕ, ◌+◌, Bool, true, false, cond, not, ◌&&◌, ◌||◌, ltb, List, [], ◌∷◌, count_by, sym, refl, ap, ◌∙◌, inl, inr}
use Rattle.guards.specs.Algebra.{Model, Laws}
use Rattle.std.specs.List.{list_any}
use Rattle.guards.specs.Lists.{Member}
use Rattle.guards.specs.Counting.{count_cons, count_append}
use Rattle.automata.specs.Checking.{without, rest_of}
use Rattle.automata.specs.declared.moves.Move.{Move}
use Rattle.automata.proofs.Members.{joined_member, any_counted}
use Rattle.automata.proofs.Places.{member_place}

module _ {E G : Type 0} (alg : Model E G) (laws : Laws alg) where
  module _ (e : E) where
    abbrev passes : G → Bool
    passes g = alg.admits g e

    abbrev taken : List (Move G) → Bool
    taken vs = list_any (λ v. alg.admits v.guard e) vs

    without_count : (g : G) (gs : List G) → count_by passes (without alg g gs) ≡ cond (passes g) 0 (count_by passes gs)
    without_count g [] = elim (passes g) as (λ b. ◌≡◌ {A = ℕ} 0 (cond b 0 0)) [ true ↦ refl | false ↦ refl ]
    without_count g (h ∷ gs) =
        count_append passes (alg.parts h g) (without alg g gs)
        ∙ rw (laws.parts_once h g e, without_count g gs, count_cons passes h gs) (both (passes h) (passes g) (count_by passes gs))
      where
        both : (a b : Bool) (n : ℕ) → cond (a && not b) 1 0 + cond b 0 n ≡ cond b 0 (cond a 1 0 + n)
        both true true n = refl
        both true false n = refl
        both false true n = refl
        both false false n = refl

    rest_count : (gs : List G) (vs : List (Move G)) → count_by passes (rest_of alg gs vs) ≡ cond (taken vs) 0 (count_by passes gs)
    rest_count gs [] = refl
    rest_count gs (v ∷ vs) =
        rest_count (without alg v.guard gs) vs
        ∙ rw (without_count v.guard gs) (both (passes v.guard) (taken vs) (count_by passes gs))
      where
        both : (a b : Bool) (n : ℕ) → cond b 0 (cond a 0 n) ≡ cond (a || b) 0 n
        both true true n = refl
        both true false n = refl
        both false b n = refl

  -- an entry of the domain that no move admits is admitted by just one guard of the rest, and any other entry by none
  pub rest_once : (vs : List (Move G)) (e : E) → count_by (λ g. alg.admits g e) (rest_of alg (alg.whole ∷ []) vs) ≡ cond (alg.domain e && not (list_any (λ v. alg.admits v.guard e) vs)) 1 0
  rest_once vs e = rest_count e (alg.whole ∷ []) vs ∙ rw (laws.whole_admits e) (both (alg.domain e) (taken e vs))
    where
      both : (a b : Bool) → cond b 0 (0 + cond a 1 0) ≡ cond (a && not b) 1 0
      both true true = refl
      both true false = refl
      both false true = refl
      both false false = refl

  pub rest_any : (vs : List (Move G)) (e : E) → list_any (λ g. alg.admits g e) (rest_of alg (alg.whole ∷ []) vs) ≡ (alg.domain e && not (list_any (λ v. alg.admits v.guard e) vs))
  rest_any vs e = any_counted (λ g. alg.admits g e) (rest_of alg (alg.whole ∷ []) vs) ∙ rw (rest_once vs e) (both (alg.domain e && not (taken e vs)))
    where
      both : (a : Bool) → ltb 0 (cond a 1 0) ≡ a
      both true = refl
      both false = refl

  rest_some_of : (gs : List G) (vs : List (Move G)) → ((g : G) → Member g gs → (e : E) × (alg.admits g e ≡ true)) → (g : G) → Member g (rest_of alg gs vs) → (e : E) × (alg.admits g e ≡ true)
  rest_some_of gs [] some = some
  rest_some_of gs (v ∷ vs) some = rest_some_of (without alg v.guard gs) vs (λ g m.
      let j = joined_member (λ h. alg.parts h v.guard) g gs m in
      let p = member_place g (alg.parts j.0 v.guard) j.2 in
      laws.parts_some j.0 v.guard p.0 g p.1)

  -- each guard of a rest admits something
  pub rest_some : (vs : List (Move G)) (g : G) → Member g (rest_of alg (alg.whole ∷ []) vs) → (e : E) × (alg.admits g e ≡ true)
  rest_some vs = rest_some_of (alg.whole ∷ []) vs (λ g m. elim m [
    | inl is ↦ let d = laws.inhabited in (d.0, ap (λ h. alg.admits h d.0) (sym is) ∙ laws.whole_admits d.0 ∙ d.1)
    | inr z ↦ absurd z
  ])
