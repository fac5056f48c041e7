-- When checking a clause and joining one to the rule refuse, the sizes of buffers aside.
use Rattle.std.specs.Prelude.{ℕ, Bool, cond, not, ◌||◌, List, [], length, Some, None, Option, nat_lt}
use Rattle.guards.specs.Algebra.{Model}
use Rattle.std.specs.List.{list_any}
use Rattle.automata.specs.Checking.{check_fits}
use Rattle.automata.specs.Clashes.{lowest_clash}
use Rattle.automata.specs.Limits.{most_states, most_moves}
use Rattle.automata.specs.Machine.{Machine}
use Rattle.automata.specs.Product.{pairs, product}
use Rattle.automata.specs.Refusals.{Told, tell, told}
use Rattle.automata.specs.Running.{stray}
use Rattle.automata.specs.declared.joins.JoinBy.{JoinBy}
use Rattle.automata.specs.declared.moves.Move.{Move}
use Rattle.automata.specs.declared.refusals.Refusal.TheVariants.{Clash}

-- the test refuses, or else what comes after it does
abbrev pub refuse_if : {E : Type 0} → Bool → Told E → Option (Told E) → Option (Told E)
refuse_if test why later = cond test (Some why) later

-- a clash refuses, or else what comes after it does
abbrev pub clash_why : {E : Type 0} → Option (ℕ × ℕ × E) → Option (Told E) → Option (Told E)
clash_why None later = later
clash_why (Some c) later = Some (told (Clash c.0 c.1 c.2))

module _ {E G : Type 0} (alg : Model E G) where
  -- a stray move refuses, or else a clash, or else what comes after them does
  abbrev pub fault_why : ℕ → List (Move G) → Option (Told E) → Option (Told E)
  fault_why states moves later = refuse_if (list_any (stray states) moves) (tell 8 []) (clash_why (lowest_clash alg moves) later)

  -- why checking a clause is refused
  abbrev pub machine_why : Machine G → Option (Told E)
  machine_why M = fault_why M.count M.moves (refuse_if (not (check_fits alg M)) (tell 6 []) None)

  -- why joining the clause N to the rule R is refused
  abbrev pub join_why : Machine G → Machine G → JoinBy → Option (Told E)
  join_why R N way =
      refuse_if (list_any (stray R.count) R.moves || list_any (stray N.count) N.moves) (tell 8 [])
      (refuse_if (nat_lt most_states (length (pairs alg R N))) (tell 7 []) (refuse_if (nat_lt most_moves (length (product alg R N way).moves)) (tell 6 []) None))
