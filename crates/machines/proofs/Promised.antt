-- The promises on the calls that keep them: a new sheet.
use Rattle.std.proofs.Common.{◌≡◌, ℕ, ◌<◌, eqb, List, [], length, take, set, sym, ap, ◌∙◌}
use Rattle.std.proofs.lemmas.List.{take_more_set}
use Rattle.guards.specs.Algebra.{Model, Laws}
use Rattle.automata.specs.Promises.{Kept}
use Rattle.automata.specs.Sheet.{Comes}
use Rattle.automata.specs.Writing.{new_rule}
use Rattle.automata.specs.declared.moves.Move.{Move}
use Rattle.automata.proofs.Sheets.{rules_kept}
use Rattle.machines.specs.Runs.{with_nothing}
use Rattle.tables.specs.Endings.{holds}
use Rattle.tables.specs.Values.{machine}
use Rattle.tables.specs.declared.counts.Counts.{Counts}
use Rattle.tables.specs.declared.endings.Endings.{Endings}
use Rattle.tables.proofs.MachineParts.{machine_is}

-- a rule of one state, an ending, with the whole guard to itself, is the new rule, and the promises hold of it
pub new_sheet_kept : {E G : Type 0} (alg : Model E G) (laws : Laws alg) (counts : Counts) (endings : Endings) (before : List (Move G)) → 0 < length before → counts.states ≡ 1 → counts.moves ≡ 1
    → ((k : ℕ) → holds endings k ≡ eqb k 0) → (after : List (Move G)) → after ≡ set before 0 (record { from = 0; guard = alg.whole; to = 0 })
    → Comes alg [] (with_nothing (machine counts endings after)) × Kept alg [] (machine counts endings after)
new_sheet_kept {G} alg laws counts endings before some states moves ends after table =
    let made : machine counts endings after ≡ new_rule alg =
    machine_is counts endings after (new_rule alg) states ends (ap (λ k. take k after) moves ∙ ap (take 1) table ∙ take_more_set before 0 (record { from = 0; guard = alg.whole; to = 0 }) some) in
    let comes : Comes alg [] (with_nothing (machine counts endings after)) = ap with_nothing (sym made) in
    (comes, rules_kept alg laws [] (with_nothing (machine counts endings after)) comes)
