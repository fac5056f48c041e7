-- Writing the word that tells two states apart: its answer, and the buffer afterwards.
use Rattle.std.specs.Prelude.{ℕ, List, [], ◌++◌, length, drop, Some, None, Ok, Err, Option, Result}
use Rattle.automata.specs.Refusals.{Told, tell}

-- the word, or refusal 10 where there is none
abbrev pub word_or : {E : Type 0} → Option (List E) → Result (List E) (Told E)
word_or None = Err (tell 10 [])
word_or (Some w) = Ok w

-- what the call answers: the length of the word
abbrev pub word_length : {E : Type 0} → Result (List E) (Told E) → Result ℕ (Told E)
word_length (Ok w) = Ok (length w)
word_length (Err why) = Err why

-- the buffer afterwards: the word from place 0, and past it what was there; a refusal leaves it as it was
abbrev pub word_placed : {E : Type 0} → Result (List E) (Told E) → List E → List E
word_placed (Ok w) buffer = w ++ drop (length w) buffer
word_placed (Err why) buffer = buffer
