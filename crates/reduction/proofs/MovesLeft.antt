-- The moves of a pair that are left: the next of them, and those of the rule's next move.
use Rattle.std.proofs.Common.{◌≡◌, ℕ, ◌+◌, ◌-◌, false, ◌&&◌, eqb, List, [], ◌∷◌, ◌++◌, map, length, get_or, take, drop, is_some, Some, None, filter, position, sym, refl, ap, ◌∙◌, arith, length-drop}
use Rattle.std.proofs.lemmas.List.{take_all}
use Rattle.guards.specs.Algebra.{Model}
use Rattle.automata.specs.Product.{joins, met, pair_moves}
use Rattle.automata.specs.declared.moves.Move.{Move}
use Rattle.automata.specs.declared.pairs.PairMove.{PairMove}
use Rattle.automata.specs.declared.pairs.StatePair.{StatePair}
use Rattle.reduction.specs.PairMoves.{moves_left}
use Rattle.reduction.proofs.FirstPasses.{first_passes, no_first, none_passes}

module _ {E G : Type 0} (alg : Model E G) (vs : List (Move G)) (x : StatePair) where
  -- with all moves of the clause for the first of the rule they are the moves of the pair
  pub all_left : (us : List (Move G)) → moves_left alg vs x us vs ≡ pair_moves alg us vs x
  all_left [] = refl
  all_left (u ∷ us) = refl

  module _ (u : Move G) (us later ws : List (Move G)) (first : us ≡ u ∷ later) where
    -- the meet with the first that joins is the next
    pub next_left : (i : ℕ) (v : Move G) (a : PairMove G) → Some i ≡ position (joins alg x u) ws → v ≡ get_or ws i v → a ≡ met alg u (get_or ws i v)
        → moves_left alg vs x us ws ≡ a ∷ moves_left alg vs x us (take (length ws - (i + 1)) (drop (i + 1) ws))
    next_left i v a found read is =
        let rest = drop (i + 1) ws in
        ap (λ ls. moves_left alg vs x ls ws) first ∙ ap (λ fs. map (met alg u) fs ++ pair_moves alg later vs x) (first_passes (joins alg x u) ws i v found read)
        ∙ ap (λ b. b ∷ (map (met alg u) (filter (joins alg x u) rest) ++ pair_moves alg later vs x)) (ap (met alg u) read ∙ sym is)
        ∙ ap (λ ms. a ∷ (map (met alg u) (filter (joins alg x u) ms) ++ pair_moves alg later vs x)) (sym (take_all (length ws - (i + 1)) rest (omega (arith, length-drop (i + 1) ws))))
        ∙ ap (λ ls. a ∷ moves_left alg vs x ls (take (length ws - (i + 1)) rest)) (sym first)

    -- where none joins, those of the rule's later moves are left
    pub none_left : position (joins alg x u) ws ≡ None → moves_left alg vs x later vs ≡ moves_left alg vs x us ws
    none_left none =
        all_left later ∙ sym (ap (λ fs. map (met alg u) fs ++ pair_moves alg later vs x) (none_passes (joins alg x u) ws none))
        ∙ ap (λ ls. moves_left alg vs x ls ws) (sym first)

-- a move that does not go from the pair joins none
pub none_joins : {E G : Type 0} (alg : Model E G) (x : StatePair) (u : Move G) → eqb u.from x.rule ≡ false → (ws : List (Move G)) → position (joins alg x u) ws ≡ None
none_joins alg x u apart ws = no_first (joins alg x u) ws (λ v. ap (λ t. (t && eqb v.from x.clause) && is_some (alg.sample (alg.meet u.guard v.guard))) apart)
