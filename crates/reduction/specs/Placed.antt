-- A list that is written from place 0 of a table.
use Rattle.std.specs.Prelude.{◌≡◌, ℕ, List, ◌++◌, length, drop}

-- the first n places hold the list, and the others what they held
abbrev pub Placed : {T : Type 0} → List T → List T → List T → ℕ → Type 0
Placed xs before after n = (n ≡ length xs) × (after ≡ xs ++ drop (length xs) before)
