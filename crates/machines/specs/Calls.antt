-- The short calls on a sheet: when each refuses, and what it makes of its values and tables.
use Rattle.std.specs.Prelude.{◌≡◌, ℕ, ◌+◌, ◌<◌, false, not, ◌||◌, List, [], ◌∷◌, length, Some, None, Ok, Err, Option, Result, ◌==◌, nat_le, nat_lt, slice_set}
use Rattle.machines.specs.declared.clauses.OpenClause.{OpenClause}
use Rattle.machines.specs.declared.clauses.Rule.{Rule}
use Rattle.automata.specs.declared.moves.Move.{Move}
use Rattle.automata.specs.declared.refusals.Refusal.{Refusal}
use Rattle.automata.specs.declared.refusals.Refused.{Refused}
use Rattle.tables.specs.Endings.{holds}
use Rattle.automata.specs.Limits.{most_written, most_moves}
use Rattle.automata.specs.Faults.{refuse_if}
use Rattle.automata.specs.Refusals.{Told, tell, told}

-- a call on a moved value: it is accepted, or refused with the value handed back and nothing changed
abbrev pub Outcome : {E T U : Type 0} → Option (Told E) → (U → Type 0) → T → Type 0 → Result U (Refused T E) → Type 0
Outcome refused Accepted value Unchanged (Ok new) = (refused ≡ None) × Accepted new
Outcome refused Accepted value Unchanged (Err back) = (refused ≡ Some (told back.why)) × (back.value ≡ value) × Unchanged

-- ---- when a call refuses

abbrev pub new_sheet_refused : {E G : Type 0} → List (Move G) → Option (Told E)
new_sheet_refused table = refuse_if (nat_lt (length table) most_moves) (tell 1 []) None

abbrev pub adding_refused : {E : Type 0} → OpenClause → Option (Told E)
adding_refused c = refuse_if (nat_le most_written c.counts.states) (tell 2 []) None

abbrev pub marking_refused : {E : Type 0} → OpenClause → ℕ → Option (Told E)
marking_refused c state = refuse_if (nat_le c.counts.states state) (tell 3 (state ∷ [])) None

abbrev pub writing_refused : {E G : Type 0} → OpenClause → List (Move G) → Move G → Option (Told E)
writing_refused c table v =
    refuse_if (nat_lt (length table) most_moves) (tell 1 [])
    (refuse_if (nat_le c.counts.states v.from) (tell 3 (v.from ∷ []))
    (refuse_if (nat_le c.counts.states v.to) (tell 3 (v.to ∷ []))
    (refuse_if (nat_le most_moves c.counts.moves) (tell 4 []) None)))

-- ---- what an accepted call makes

-- one state, an ending, with the whole guard to itself as move 0
pub record NewSheet {G : Type 0} (whole : G) (before : List (Move G)) (rule : Rule) (after : List (Move G)) : Type 0 where
  pub states : rule.counts.states ≡ 1
  pub moves : rule.counts.moves ≡ 1
  pub endings : (k : ℕ) → holds rule.endings k ≡ (k == 0)
  pub table : after ≡ slice_set before 0 (record { from = 0; guard = whole; to = 0 })

-- a new sheet, or a refusal that leaves the table as it was
abbrev pub SheetOutcome : {E G : Type 0} → G → List (Move G) → List (Move G) → Result Rule (Refusal E) → Type 0
SheetOutcome {E} whole before after (Ok rule) = (new_sheet_refused {E = E} before ≡ None) × NewSheet whole before rule after
SheetOutcome whole before after (Err why) = (new_sheet_refused before ≡ Some (told why)) × (after ≡ before)

-- state 0 alone
pub record Opened (c : OpenClause) : Type 0 where
  pub states : c.counts.states ≡ 1
  pub moves : c.counts.moves ≡ 0
  pub endings : (k : ℕ) → holds c.endings k ≡ false

-- one state more, and its number
pub record Added (c : OpenClause) (answer : OpenClause × ℕ) : Type 0 where
  pub number : answer.1 ≡ c.counts.states
  pub states : answer.0.counts.states ≡ c.counts.states + 1
  pub moves : answer.0.counts.moves ≡ c.counts.moves
  pub endings : answer.0.endings ≡ c.endings

-- that state is an ending too
pub record Marked (c : OpenClause) (state : ℕ) (d : OpenClause) : Type 0 where
  pub counts : d.counts ≡ c.counts
  pub endings : (k : ℕ) → holds d.endings k ≡ (holds c.endings k || k == state)

-- that move stands at the next place
pub record Written {G : Type 0} (c : OpenClause) (before : List (Move G)) (v : Move G) (d : OpenClause) (after : List (Move G)) : Type 0 where
  pub states : d.counts.states ≡ c.counts.states
  pub moves : d.counts.moves ≡ c.counts.moves + 1
  pub endings : d.endings ≡ c.endings
  pub table : after ≡ slice_set before c.counts.moves v

-- the endings are the other states
pub record Turned (rule turned : Rule) : Type 0 where
  pub counts : turned.counts ≡ rule.counts
  pub endings : (k : ℕ) → k < rule.counts.states → holds turned.endings k ≡ not (holds rule.endings k)
