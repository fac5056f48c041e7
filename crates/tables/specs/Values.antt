-- The moved values of a sheet: what each keeps, and the machine that it is with its table.
use Rattle.std.specs.Prelude.{◌≡◌, ℕ, ◌<◌, ◌≤◌, true, List, take}
use Rattle.tables.specs.declared.counts.Counts.{Counts}
use Rattle.tables.specs.declared.endings.Endings.{Endings}
use Rattle.tables.specs.Endings.{holds}
use Rattle.automata.specs.Limits.{most_moves}
use Rattle.automata.specs.Machine.{Machine}
use Rattle.automata.specs.declared.moves.Move.{Move}

-- there is a start, the counts are within the limits, and endings are below the count
abbrev pub Within : ℕ → Counts → Endings → Type 0
Within limit counts endings =
    (0 < counts.states) × (counts.states ≤ limit) × (counts.moves ≤ most_moves) × ((k : ℕ) → holds endings k ≡ true → k < counts.states)

-- the counted moves are the first of the table
abbrev pub machine : {G : Type 0} → Counts → Endings → List (Move G) → Machine G
machine counts endings table = record { count = counts.states; endings = holds endings; moves = take counts.moves table }
