-- The worked cases: questions to the libraries, each with the answer that it must get.
use Rattle.std.specs.Prelude.{◌≡◌, ℕ, Bool, false, ◌||◌, List, [], ◌∷◌, length, Some, None, Option, ◌==◌}
use Rattle.guards.specs.Activity.{activity_model}
use Rattle.guards.specs.Flags.{flags, no_flags, whole_flags, flags_model}
use Rattle.guards.specs.Minutes.{minutes, whole_day, minutes_model}
use Rattle.guards.specs.Pair.{both}
use Rattle.guards.specs.declared.flags.FlagRow.{FlagRow}
use Rattle.guards.specs.declared.minutes.MinuteRow.{MinuteRow}
use Rattle.guards.specs.declared.pair.Both.{Both}
use Rattle.automata.specs.Checking.{checked}
use Rattle.automata.specs.Faults.{machine_why, join_why}
use Rattle.automata.specs.Machine.{Machine}
use Rattle.automata.specs.Refusals.{Told, told}
use Rattle.automata.specs.Telling.{word_of}
use Rattle.automata.specs.Writing.{blank, turned, new_rule}
use Rattle.automata.specs.declared.joins.JoinBy.{JoinBy}
use Rattle.automata.specs.declared.joins.JoinBy.TheVariants.{Both as BothDays, Either as EitherDays}
use Rattle.automata.specs.declared.moves.Move.{Move}
use Rattle.automata.specs.declared.refusals.Refusal.TheVariants.{Clash}
use Rattle.machines.specs.JoinCall.{joined_rule}

pub data Case : Type 0 where
  -- the parts of the first guard without the second
  flags_rest : FlagRow → FlagRow → List FlagRow → Case
  minutes_rest : MinuteRow → MinuteRow → List MinuteRow → Case
  -- the meet of the two
  flags_meet : FlagRow → FlagRow → FlagRow → Case
  -- why a check refuses a clause over minutes, if it does
  minutes_check : Machine MinuteRow → Option (Told ℕ) → Case
  -- how many states and moves the rule over minutes has to which the checked clause is joined, and whether state 0 is an ending
  minutes_join : Machine MinuteRow → Machine MinuteRow → JoinBy → ℕ → ℕ → Bool → Case
  -- the word that tells two states apart
  activity_told : Machine (Both FlagRow MinuteRow) → ℕ → ℕ → List (Both ℕ ℕ) → Case

abbrev pub Right : Case → Type 0
Right (flags_rest a b parts) = flags_model.parts a b ≡ parts
Right (minutes_rest a b parts) = minutes_model.parts a b ≡ parts
Right (flags_meet a b met) = flags_model.meet a b ≡ met
Right (minutes_check clause why) = machine_why minutes_model clause ≡ why
Right (minutes_join rule clause way states moves ends) =
    let S : Machine MinuteRow = joined_rule minutes_model rule (checked minutes_model clause) way in
    (join_why minutes_model rule (checked minutes_model clause) way ≡ None) × (S.count ≡ states) × (length S.moves ≡ moves) × (S.endings 0 ≡ ends)
Right (activity_told rule p q word) = word_of activity_model rule p q ≡ Some word

abbrev line : ℕ → MinuteRow → ℕ → Move MinuteRow
line from guard to = record { from = from; guard = guard; to = to }

-- a clause of three states: a range leads from 0 to 1, and 600 to 700 from 0 to 2
abbrev two_ways : MinuteRow → Machine MinuteRow
two_ways range = record { count = 3; endings = λ _. false; moves = line 0 range 1 ∷ line 0 (minutes 600 700) 2 ∷ [] }

-- state 0 leads to 1 before noon and to 2 after it, and both are endings with whole moves to themselves
abbrev halves : Machine MinuteRow
halves = record {
  count = 3;
  endings = λ q. (q == 1) || (q == 2);
  moves = line 0 (minutes 0 719) 1 ∷ line 0 (minutes 720 1439) 2 ∷ line 1 whole_day 1 ∷ line 2 whole_day 2 ∷ [];
}

-- days with driving as their first entry alone, joined by both to a new rule
abbrev driving : Machine (Both FlagRow MinuteRow)
driving = record { count = 2; endings = λ q. (q == 1); moves = record { from = 0; guard = both (flags 3 3) whole_day; to = 1 } ∷ [] }

abbrev printed : Machine (Both FlagRow MinuteRow)
printed = joined_rule activity_model (new_rule activity_model) (checked activity_model driving) BothDays

abbrev pub table : List Case
table =
    -- everything but driving
    flags_rest whole_flags (flags 3 3) (flags 2 0 ∷ flags 3 2 ∷ [])
    -- the higher activity bit cannot be both on and off
    ∷ flags_meet (flags 2 2) (flags 3 1) no_flags
    ∷ minutes_rest whole_day (minutes 600 700) (minutes 0 599 ∷ minutes 701 1439 ∷ [])
    -- minute 600 leads to both
    ∷ minutes_check (two_ways (minutes 0 600)) (Some (told (Clash 0 1 600)))
    ∷ minutes_check (two_ways (minutes 0 599)) None
    -- the two endings are one state
    ∷ minutes_join (new_rule minutes_model) halves BothDays 2 3 false
    -- a fresh clause accepts no day, and neither does a turned new rule
    ∷ minutes_join (turned (new_rule minutes_model)) blank EitherDays 1 1 false
    -- driving at minute 0
    ∷ activity_told printed 0 2 (both 3 0 ∷ [])
    ∷ []
