-- What a refusal tells: its number, the numbers that it carries, and the sample of a clash.
use Rattle.std.specs.Prelude.{ℕ, List, [], ◌∷◌, Some, None, Ok, Err, Option, Result}
use Rattle.guards.specs.declared.malformed.Malformed.TheVariants.{Flags, Minutes}
use Rattle.automata.specs.declared.refusals.Refusal.{Refusal}
use Rattle.automata.specs.declared.refusals.Refusal.TheVariants.{TooShort, TooManyStates, NoSuchState, TableFull, Clash, TooLarge, TooManyPairs, StrayMove, NoMove, NotSeparated, BadNumbers, OutOfPlace}

pub record Told (E : Type 0) : Type 0 where
  pub number : ℕ
  pub carried : List ℕ
  pub sample : Option E

-- a number, with the numbers that it carries
abbrev pub tell : {E : Type 0} → ℕ → List ℕ → Told E
tell number carried = record { number = number; carried = carried; sample = None }

abbrev pub told : {E : Type 0} → Refusal E → Told E
told TooShort = tell 1 []
told TooManyStates = tell 2 []
told (NoSuchState state) = tell 3 (state ∷ [])
told TableFull = tell 4 []
told (Clash first second sample) = record { number = 5; carried = first ∷ second ∷ []; sample = Some sample }
told TooLarge = tell 6 []
told TooManyPairs = tell 7 []
told StrayMove = tell 8 []
told (NoMove place) = tell 9 (place ∷ [])
told NotSeparated = tell 10 []
told (BadNumbers Flags) = tell 11 (1 ∷ [])
told (BadNumbers Minutes) = tell 11 (2 ∷ [])
told OutOfPlace = tell 12 []

-- an answer, or what the refusal tells
abbrev pub said : {E U : Type 0} → Result U (Refusal E) → Result U (Told E)
said (Ok answer) = Ok answer
said (Err why) = Err (told why)
