-- What completing a clause gives.
use Rattle.std.specs.Prelude.{◌≡◌, true, false, Result, MatchResult}
use Rattle.guards.specs.Algebra.{Model}
use Rattle.automata.specs.Checking.{check_fits, checked}
use Rattle.automata.specs.Machine.{Machine}
use Rattle.tables.specs.Machines.{machine_of}
use Rattle.tables.specs.declared.machines.Machine.{Machine as TableMachine}

-- the checked machine; or that has no room
abbrev pub Completed : {E G F : Type 0} → Model E G → Machine G → Result (TableMachine G) F → Type 0
Completed alg M r = MatchResult r (λ d. (check_fits alg M ≡ true) × (machine_of d ≡ checked alg M)) (λ _. check_fits alg M ≡ false)
