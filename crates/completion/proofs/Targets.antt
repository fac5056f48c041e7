-- Finding what the live moves of a state lead to.
use Rattle.std.proofs.Common.{◌≡◌, ℕ, ◌<◌, ◌≤◌, false, eqb, [], ◌∷◌, List, filter, map, length, refl, sym, ap, ◌∙◌, subst, inl, inr, arith, length-append}
use Rattle.guards.specs.Algebra.{Model}
use Rattle.guards.specs.Lists.{Member}
use Rattle.std.specs.List.{list_any}
use Rattle.automata.specs.Checking.{is_live, targets}
use Rattle.automata.specs.Limits.{most_states}
use Rattle.automata.specs.Running.{stray}
use Rattle.automata.specs.Search.{add, add_all}
use Rattle.automata.specs.declared.moves.Move.{Move}
use Rattle.automata.proofs.Members.{kept_member, none_each}
use Rattle.automata.proofs.Places.{number_tells}
use Rattle.automata.proofs.Searching.{add_all_begins}
use Rattle.automata.proofs.Strays.{between}

abbrev tos : {G : Type 0} → List (Move G) → List ℕ
tos vs = map (λ v. v.to) vs

-- the moves that are left, which lead to states, find what all find
pub record Finding {G : Type 0} (answer found : List ℕ) (left : List (Move G)) : Type 0 where
  pub finds : add_all eqb found (tos left) ≡ answer
  pub inside : (v : Move G) → Member v left → v.to < most_states

module _ {G : Type 0} (answer found : List ℕ) (left : List (Move G)) (finding : Finding answer found left) (v : Move G) (more : List (Move G)) (next : left ≡ v ∷ more) where
  pub next_inside : v.to < most_states
  next_inside = finding.inside v (subst (Member v) (sym next) (inl refl))

  pub next_found : (found' : List ℕ) → found' ≡ add_all eqb found (v.to ∷ []) → Finding answer found' more
  next_found found' is = record {
    finds = ap (λ xs. add_all eqb xs (tos more)) is ∙ ap (λ vs. add_all eqb found (tos vs)) (sym next) ∙ finding.finds;
    inside = λ u m. finding.inside u (subst (Member u) (sym next) (inr m));
  }

  -- where it has no room, all have none
  pub next_short : most_states < length (add_all eqb found (v.to ∷ [])) → most_states < length answer
  next_short short =
      let rest = add_all_begins eqb number_tells (add eqb found v.to) (tos more) in
      omega (arith, ap length (sym rest.1 ∙ ap (λ vs. add_all eqb found (tos vs)) (sym next) ∙ finding.finds), length-append (add eqb found v.to) rest.0)

-- the live moves of a state of a machine without stray moves lead to states
pub all_left : {E G : Type 0} (alg : Model E G) (states : ℕ) (vs : List (Move G)) (p : ℕ) (found : List ℕ) (left : List (Move G)) → list_any (stray states) vs ≡ false → states ≤ most_states
    → left ≡ filter (is_live alg p) vs → Finding (add_all eqb found (targets alg vs p)) found left
all_left alg states vs p found left none few is = record {
  finds = ap (λ us. add_all eqb found (tos us)) is;
  inside = λ v m.
      let to : v.to < states = (between states v (none_each (stray states) v vs none (kept_member (is_live alg p) v vs (subst (Member v) is m)).0)).1 in
      omega arith;
}
