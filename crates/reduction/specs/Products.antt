-- The product of a rule and a clause as it is built, and why it is refused.
use Rattle.std.specs.Prelude.{◌≡◌, [], length, Some, None, Option, Result, MatchResult, nat_lt}
use Rattle.guards.specs.Algebra.{Model}
use Rattle.automata.specs.Faults.{refuse_if}
use Rattle.automata.specs.Limits.{most_states, most_moves}
use Rattle.automata.specs.Machine.{Machine}
use Rattle.automata.specs.Product.{pairs, product}
use Rattle.automata.specs.Refusals.{Told, tell, told}
use Rattle.automata.specs.declared.joins.JoinBy.{JoinBy}
use Rattle.automata.specs.declared.refusals.Refusal.{Refusal}
use Rattle.tables.specs.Machines.{machine_of}
use Rattle.tables.specs.declared.machines.Machine.{Machine as TableMachine}

module _ {E G : Type 0} (alg : Model E G) (M N : Machine G) (way : JoinBy) where
  -- too many pairs refuse, or else too many moves do
  abbrev pub product_why : Option (Told E)
  product_why =
      refuse_if (nat_lt most_states (length (pairs alg M N))) (tell 7 []) (refuse_if (nat_lt most_moves (length (product alg M N way).moves)) (tell 6 []) None)

  -- it is the product; or it is refused
  abbrev pub ProductBuilt : Result (TableMachine G) (Refusal E) → Type 0
  ProductBuilt r = MatchResult r (λ d. (product_why ≡ None) × (machine_of d ≡ product alg M N way)) (λ why. product_why ≡ Some (told why))
