-- Words for lists.
use Rattle.std.specs.Prelude.{◌≡◌, ℕ, ◌+◌, Bool, true, false, ◌⊎◌, List, [], ◌∷◌, Some, None, Option}

-- x is one of the list
abbrev pub Member : {X : Type 0} → X → List X → Type 0
Member x [] = ⊥
Member x (y ∷ ys) = (y ≡ x) ⊎ Member x ys

-- the first, or else the second
abbrev pub or_else : {Y : Type 0} → Option Y → Option Y → Option Y
or_else None later = later
or_else (Some y) later = Some y

-- what a question to each place and its element finds first; the first element stands at place i
abbrev pub first_some : {X Y : Type 0} → (ℕ → X → Option Y) → ℕ → List X → Option Y
first_some ask i [] = None
first_some ask i (x ∷ xs) = or_else (ask i x) (first_some ask (i + 1) xs)

-- the list is not empty
abbrev pub is_some : {X : Type 0} → List X → Bool
is_some [] = false
is_some (x ∷ xs) = true
