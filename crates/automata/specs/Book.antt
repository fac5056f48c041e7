-- The book of the calls on a sheet: days, and at most one draft. It knows each call, and whether that was accepted.
use Rattle.std.specs.Prelude.{◌⊎◌, List, [], ◌∷◌, Some, None, Option}
use Rattle.std.specs.Option.{option_map}
use Rattle.guards.specs.Algebra.{Model}
use Rattle.automata.specs.Machine.{Machine, Accepts}
use Rattle.automata.specs.Sheet.{Call, opening, adding, marking, writing, checking, joining, discarding, turning, Fed, accepted_call, refused_call}
use Rattle.automata.specs.Writing.{blank, with_state, with_ending, with_move}
use Rattle.automata.specs.declared.joins.JoinBy.TheVariants.{Both, Either, Except}

-- the draft after an accepted call
abbrev pub draft_after : {G : Type 0} → Call G → Option (Machine G) → Option (Machine G)
draft_after opening d = Some blank
draft_after adding d = option_map with_state d
draft_after (marking q) d = option_map (with_ending q) d
draft_after (writing v) d = option_map (with_move v) d
draft_after checking d = d
draft_after (joining way) d = None
draft_after discarding d = None
draft_after turning d = d

-- the draft after the calls, the latest first
abbrev pub draft : {E G : Type 0} → List (Fed E G) → Option (Machine G)
draft [] = None
draft (accepted_call c ∷ fs) = draft_after c (draft fs)
draft (refused_call c why ∷ fs) = draft fs

-- whether a day is in the book after an accepted call, from whether it was, and whether the draft accepts it
abbrev pub DayAfter : {G : Type 0} → Call G → Type 0 → Type 0 → Type 0
DayAfter opening Was Drafted = Was
DayAfter adding Was Drafted = Was
DayAfter (marking q) Was Drafted = Was
DayAfter (writing v) Was Drafted = Was
DayAfter checking Was Drafted = Was
DayAfter (joining Both) Was Drafted = Was × Drafted
DayAfter (joining Either) Was Drafted = Was ⊎ Drafted
DayAfter (joining Except) Was Drafted = Was × (Drafted → ⊥)
DayAfter discarding Was Drafted = Was
DayAfter turning Was Drafted = Was → ⊥

module _ {E G : Type 0} (alg : Model E G) where
  -- the draft accepts the day from 0
  abbrev pub InDraft : Option (Machine G) → List E → Type 0
  InDraft None w = ⊥
  InDraft (Some M) w = Accepts alg M 0 w

  -- the day is in the book of the calls, the latest first; a new book has every day
  abbrev pub InBook : List (Fed E G) → List E → Type 0
  InBook [] w = Unit {0}
  InBook (accepted_call c ∷ fs) w = DayAfter c (InBook fs w) (InDraft (draft fs) w)
  InBook (refused_call c why ∷ fs) w = InBook fs w
