-- The sizes of a sheet's tables, and the least that each call asks for.
use Rattle.std.specs.Prelude.{ℕ, Bool, List, [], ◌∷◌, nat_lt}
use Rattle.std.specs.List.{list_any}
use Rattle.automata.specs.Limits.{most_states, most_moves, most_parts, most_word, mark_bytes}

-- how many places each work table has
pub record Sizes : Type 0 where
  pub spare : ℕ
  pub marks : ℕ
  pub parts : ℕ
  pub others : ℕ
  pub pairs : ℕ

-- a size is below the least beside it
abbrev pub is_short : List (ℕ × ℕ) → Bool
is_short = list_any (λ s. nat_lt s.0 s.1)

-- what a check asks of the clause's table and the work tables, by their lengths
abbrev pub check_sizes : ℕ → ℕ → ℕ → ℕ → ℕ → List (ℕ × ℕ)
check_sizes table spare marks parts others = (table, most_moves) ∷ (spare, most_moves) ∷ (marks, mark_bytes) ∷ (parts, most_parts) ∷ (others, most_parts) ∷ []

-- what a join asks of the tables of the rule and of the clause, and of the work tables
abbrev pub join_sizes : ℕ → ℕ → ℕ → ℕ → ℕ → List (ℕ × ℕ)
join_sizes table clause_table spare marks pairs =
    (table, most_moves) ∷ (clause_table, most_moves) ∷ (spare, most_moves) ∷ (marks, mark_bytes) ∷ (pairs, most_states) ∷ []

-- what telling apart asks of the rule's table, the word's buffer and the marks
abbrev pub tell_sizes : ℕ → ℕ → ℕ → List (ℕ × ℕ)
tell_sizes table word marks = (table, most_moves) ∷ (word, most_word) ∷ (marks, mark_bytes) ∷ []
