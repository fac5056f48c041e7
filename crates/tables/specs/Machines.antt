-- The machine that counts and endings are with their table.
use Rattle.std.specs.Prelude.{◌≡◌, true, List, take, Result, MatchResult}
use Rattle.std.specs.List.{list_any}
use Rattle.automata.specs.Machine.{Machine}
use Rattle.automata.specs.Running.{stray}
use Rattle.automata.specs.declared.moves.Move.{Move}
use Rattle.automata.specs.declared.refusals.Refusal.{Refusal}
use Rattle.automata.specs.declared.refusals.Refusal.TheVariants.{StrayMove}
use Rattle.tables.specs.Endings.{holds}
use Rattle.tables.specs.Values.{machine}
use Rattle.tables.specs.declared.counts.Counts.{Counts}
use Rattle.tables.specs.declared.endings.Endings.{Endings}
use Rattle.tables.specs.declared.machines.Machine.{Machine as TableMachine}

abbrev pub machine_of : {G : Type 0} → TableMachine G → Machine G
machine_of m = record { count = m.states; endings = holds m.endings; moves = m.moves.now }

-- the machine of the counted moves; or one of these strays
abbrev pub IsMachine : {G E : Type 0} → Counts → Endings → List (Move G) → Result (TableMachine G) (Refusal E) → Type 0
IsMachine counts endings table r =
    MatchResult r (λ m. machine_of m ≡ machine counts endings table)
    (λ why. (why ≡ StrayMove) × (list_any (stray counts.states) (take counts.moves table) ≡ true))
