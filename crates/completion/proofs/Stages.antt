-- The stages of a rest: the guards that are left, and the moves that are still to be taken out of them.
use Rattle.std.proofs.Common.{◌≡◌, ◌<◌, ◌≤◌, false, ◌&&◌, [], ◌∷◌, List, length, sym, ap, ◌∙◌}
use Rattle.std.proofs.lemmas.Bool.{le-leb, lt-leb}
use Rattle.guards.specs.Algebra.{Model}
use Rattle.automata.specs.Checking.{rest_of, rest_fits, without}
use Rattle.automata.specs.Limits.{most_parts}
use Rattle.automata.specs.declared.moves.Move.{Move}

module _ {E G : Type 0} (alg : Model E G) (vs : List (Move G)) where
  abbrev whole : List G
  whole = alg.whole ∷ []

  -- the moves that are left make of the guards what all make of the whole guard
  pub record Stage (left : List (Move G)) (gs : List G) : Type 0 where
    pub few : length gs ≤ most_parts
    pub rest : rest_of alg gs left ≡ rest_of alg whole vs
    pub fits : rest_fits alg gs left ≡ rest_fits alg whole vs

  module _ (left : List (Move G)) (gs : List G) (stage : Stage left gs) where
    -- the move v is next
    module _ (v : Move G) (more : List (Move G)) (next : left ≡ v ∷ more) where
      fits_next : rest_fits alg (without alg v.guard gs) more ≡ rest_fits alg whole vs
      fits_next = ap (λ t. t && rest_fits alg (without alg v.guard gs) more) (sym (le-leb (length gs) most_parts stage.few)) ∙ ap (rest_fits alg gs) (sym next) ∙ stage.fits

      pub stage_next : (hs : List G) → (length hs ≤ most_parts) × (hs ≡ without alg v.guard gs) → Stage more hs
      stage_next hs made = record {
        few = made.0;
        rest = ap (λ gs. rest_of alg gs more) made.1 ∙ ap (rest_of alg gs) (sym next) ∙ stage.rest;
        fits = ap (λ gs. rest_fits alg gs more) made.1 ∙ fits_next;
      }

      pub stage_short : most_parts < length (without alg v.guard gs) → rest_fits alg whole vs ≡ false
      stage_short short = sym fits_next ∙ too_long (without alg v.guard gs) more short
        where
          too_long : (hs : List G) (us : List (Move G)) → most_parts < length hs → rest_fits alg hs us ≡ false
          too_long hs [] h = lt-leb (length hs) most_parts h
          too_long hs (u ∷ us) h = ap (λ t. t && rest_fits alg (without alg u.guard hs) us) (lt-leb (length hs) most_parts h)
