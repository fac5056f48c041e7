-- The limits of a sheet. Those on states follow from one number.
use Rattle.std.specs.Prelude.{ℕ, ◌-◌, ◌*◌}

-- the most states of a rule and of a checked clause
abbrev pub most_states : ℕ
most_states = 64

-- the most states of a clause as written: a check may add the sink
abbrev pub most_written : ℕ
most_written = most_states - 1

-- how many rounds of separation count: two states are separated in one of them or never
abbrev pub most_rounds : ℕ
most_rounds = most_states - 1

-- the most entries of a word, which is the least size of a word buffer too
abbrev pub most_word : ℕ
most_word = most_states - 2

-- the most moves of a table, which is its least size too
abbrev pub most_moves : ℕ
most_moves = 1024

-- the most guards of a rest list, which is the least size of a part list too
abbrev pub most_parts : ℕ
most_parts = 256

-- the least size of the marks: a byte for each pair of states
abbrev pub mark_bytes : ℕ
mark_bytes = most_states * most_states
