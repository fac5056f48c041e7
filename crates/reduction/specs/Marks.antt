-- Marks of separation: a byte for each pair of states, which tells the round that separates the two.
use Rattle.std.specs.Prelude.{ℕ, ◌-◌, Bool, false, ◌&&◌, List, is_some, Some, None, Option, if◌then◌else◌, ◌==◌, nat_lt, slice_index}
use Rattle.automata.specs.Limits.{most_states}
use Rattle.automata.specs.Rounds.{differ}
use Rattle.tables.specs.Nodes.{pair_place}

-- 0 tells no round, and any other mark is one more than the round that it tells
abbrev pub marked_round : ℕ → Option ℕ
marked_round mark = if mark == 0 then None else Some (mark - 1)

-- the round that the marks tell of two states; none where one is not below the limit
abbrev pub round_at : List ℕ → ℕ → ℕ → Option ℕ
round_at marks p q = if nat_lt p most_states && nat_lt q most_states then marked_round (slice_index marks (pair_place p q)) else None

abbrev pub is_round : ℕ → Option ℕ → Bool
is_round round None = false
is_round round (Some k) = k == round

-- round 0 where just one of the two is an ending
abbrev pub first_round : (ℕ → Bool) → ℕ → ℕ → Option ℕ
first_round endings p q = if differ (endings p) (endings q) then Some 0 else None

-- a round separates the two
abbrev pub apart_by : List ℕ → ℕ → ℕ → Bool
apart_by marks p q = is_some (round_at marks p q)

-- that round does
abbrev pub in_round : List ℕ → ℕ → ℕ → ℕ → Bool
in_round marks round p q = is_round round (round_at marks p q)
