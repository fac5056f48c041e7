-- The call of telling two states apart: the word that it writes, or its refusal.
use Rattle.std.specs.Prelude.{ℕ, cond, List, [], ◌∷◌, length, Some, None, Err, Option, Result, nat_le}
use Rattle.guards.specs.Algebra.{Model}
use Rattle.std.specs.List.{list_any}
use Rattle.automata.specs.Machine.{Machine}
use Rattle.automata.specs.Refusals.{Told, tell}
use Rattle.automata.specs.Running.{stray}
use Rattle.automata.specs.Telling.{word_of}
use Rattle.automata.specs.declared.moves.Move.{Move}
use Rattle.automata.specs.Faults.{refuse_if}
use Rattle.reduction.specs.Words.{word_or}
use Rattle.machines.specs.Sizes.{is_short, tell_sizes}

-- a state that is not below the count refuses, the first before the second
abbrev pub no_state : {E : Type 0} → ℕ → ℕ → ℕ → Option (Told E)
no_state states first second = refuse_if (nat_le states first) (tell 3 (first ∷ [])) (refuse_if (nat_le states second) (tell 3 (second ∷ [])) None)

-- the refusal, or what comes after it
abbrev pub unless : {E U : Type 0} → Option (Told E) → Result U (Told E) → Result U (Told E)
unless None later = later
unless (Some why) later = Err why

-- the word that tells two states apart, or the refusal
abbrev pub told_apart : {E G : Type 0} → Model E G → Machine G → List (Move G) → ℕ → ℕ → List E → List ℕ → Result (List E) (Told E)
told_apart alg M table first second buffer marks =
    cond (is_short (tell_sizes (length table) (length buffer) (length marks))) (Err (tell 1 []))
    (cond (list_any (stray M.count) M.moves) (Err (tell 8 [])) (unless (no_state M.count first second) (word_or (word_of alg M first second))))
