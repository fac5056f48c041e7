-- Placing the live moves of a state one by one.
use Rattle.std.proofs.Common.{◌≡◌, ℕ, [], ◌∷◌, ◌++◌, List, map, refl, sym, ap, ◌∙◌, subst, inl, inr}
use Rattle.std.proofs.lemmas.List.{append_assoc}
use Rattle.guards.specs.Algebra.{Model}
use Rattle.guards.specs.Lists.{Member}
use Rattle.automata.specs.Machine.{Machine}
use Rattle.automata.specs.declared.moves.Move.{Move}
use Rattle.tables.specs.Lists.{Held}
use Rattle.completion.specs.Placing.{renumbered}

module _ {E G : Type 0} (alg : Model E G) (M : Machine G) (found : List ℕ) (p : ℕ) (old : Held (Move G)) (lines : List (Move G)) where
  -- with those that are left, the moves held are those held first and the lines; and those that are left lead to found states
  pub record Placing (held : Held (Move G)) (left : List (Move G)) : Type 0 where
    pub room : held.room ≡ old.room
    pub items : held.items ++ map (renumbered alg M p) left ≡ old.items ++ lines
    pub inside : (v : Move G) → Member v left → Member v.to found

  module _ (held : Held (Move G)) (left : List (Move G)) (placing : Placing held left) where
    module _ (v : Move G) (more : List (Move G)) (next : left ≡ v ∷ more) where
      pub next_found : Member v.to found
      next_found = placing.inside v (subst (Member v) (sym next) (inl refl))

      -- the next stands behind those held
      moved : (w : Move G) → w ≡ renumbered alg M p v → (held.items ++ (w ∷ [])) ++ map (renumbered alg M p) more ≡ old.items ++ lines
      moved w is = append_assoc held.items (w ∷ []) (map (renumbered alg M p) more) ∙ ap (λ u. held.items ++ (u ∷ map (renumbered alg M p) more)) is ∙ ap (λ us. held.items ++ map (renumbered alg M p) us) (sym next) ∙ placing.items

      pub next_placed : (w : Move G) → w ≡ renumbered alg M p v → (held' : Held (Move G)) → held' ≡ record { items = held.items ++ (w ∷ []); room = held.room } → Placing held' more
      next_placed w is held' pushed = record {
        room = ap (λ h. h.room) pushed ∙ placing.room;
        items = ap (λ h. h.items ++ map (renumbered alg M p) more) pushed ∙ moved w is;
        inside = λ u m. placing.inside u (subst (Member u) (sym next) (inr m));
      }
