-- Reducing by marks: which of the states are kept, and what is made of a machine and its table.
use Rattle.std.specs.Prelude.{◌≡◌, ℕ, ◌≤◌, Bool, List, [], ◌∷◌, ◌++◌, map, length, drop, filter, if◌then◌else◌, nat_eq}
use Rattle.guards.specs.Algebra.{Model}
use Rattle.std.specs.List.{list_all, list_any}
use Rattle.automata.specs.Limits.{most_states}
use Rattle.automata.specs.Machine.{Machine}
use Rattle.automata.specs.Reduction.{kept, redirected, reduced}
use Rattle.automata.specs.declared.moves.Move.{Move}
use Rattle.tables.specs.Values.{Within, machine}
use Rattle.tables.specs.declared.counts.Counts.{Counts}
use Rattle.tables.specs.declared.endings.Endings.{Endings}
use Rattle.reduction.specs.Marks.{apart_by}

-- the states below the count that are kept by the marks
abbrev pub kept_states : List ℕ → ℕ → List ℕ
kept_states marks count = kept (apart_by marks) count

-- with the state, if it is apart from each of them
abbrev pub kept_with : List ℕ → List ℕ → ℕ → List ℕ
kept_with marks ks i = if list_all (λ r. apart_by marks r i) ks then ks ++ (i ∷ []) else ks

-- the move goes from a state of the list
abbrev pub goes_from : {G : Type 0} → List ℕ → Move G → Bool
goes_from ks v = list_any (λ r. nat_eq r v.from) ks

-- the moves of the kept states, between the classes of their states
abbrev pub moves_kept : {G : Type 0} → List ℕ → List ℕ → List (Move G) → List (Move G)
moves_kept marks ks vs = map (redirected (apart_by marks) ks) (filter (goes_from ks) vs)

-- the values with the table are the reduced machine; its moves stand from place 0, and past them the table is as it was
pub record ReducedAs {E G : Type 0} (alg : Model E G) (P : Machine G) (before : List (Move G)) (made : Counts × Endings) (after : List (Move G)) : Type 0 where
  pub is : machine made.0 made.1 after ≡ reduced alg P
  pub moves : made.0.moves ≡ length (reduced alg P).moves
  pub tail : drop made.0.moves after ≡ drop made.0.moves before
  pub few : made.0.states ≤ P.count
  pub within : Within most_states made.0 made.1
