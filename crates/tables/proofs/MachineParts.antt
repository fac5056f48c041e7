-- A machine is known by its count, its endings and its moves.
use Rattle.std.proofs.Common.{◌≡◌, ℕ, List, take, ap, ◌∙◌}
use mathlib.Core.Path.{fun_ext}
use Rattle.automata.specs.Machine.{Machine}
use Rattle.automata.specs.declared.moves.Move.{Move}
use Rattle.tables.specs.Endings.{holds}
use Rattle.tables.specs.Values.{machine}
use Rattle.tables.specs.declared.counts.Counts.{Counts}
use Rattle.tables.specs.declared.endings.Endings.{Endings}

pub machine_is : {G : Type 0} (counts : Counts) (endings : Endings) (table : List (Move G)) (M : Machine G)
    → counts.states ≡ M.count → ((k : ℕ) → holds endings k ≡ M.endings k) → take counts.moves table ≡ M.moves → machine counts endings table ≡ M
machine_is counts endings table M states ends moves =
    ap (λ n. record { count = n; endings = holds endings; moves = take counts.moves table }) states
    ∙ ap (λ f. record { count = M.count; endings = f; moves = take counts.moves table }) (fun_ext ends)
    ∙ ap (λ vs. record { count = M.count; endings = M.endings; moves = vs }) moves
