-- Activity entries: their model, and the entry of an activity change word.
use Rattle.std.specs.Prelude.{ℕ, ◌/◌, ◌%◌, cond, Ok, Err, Result}
use Rattle.guards.specs.Algebra.{Model}
use Rattle.guards.specs.Flags.{flags_model}
use Rattle.guards.specs.Minutes.{is_minute, minutes_model}
use Rattle.guards.specs.Pair.{both, pair_model}
use Rattle.guards.specs.declared.flags.FlagRow.{FlagRow}
use Rattle.guards.specs.declared.malformed.Malformed.{Malformed}
use Rattle.guards.specs.declared.malformed.Malformed.TheVariants.{Minutes}
use Rattle.guards.specs.declared.minutes.MinuteRow.{MinuteRow}
use Rattle.guards.specs.declared.pair.Both.{Both}

abbrev pub activity_model : Model (Both ℕ ℕ) (Both FlagRow MinuteRow)
activity_model = pair_model flags_model minutes_model

-- the top five of sixteen bits are the flags, and the low eleven the minute, where the day has it
abbrev pub entry_of : ℕ → Result (Both ℕ ℕ) Malformed
entry_of word = cond (is_minute (word % 2048)) (Ok (both (word / 2048) (word % 2048))) (Err Minutes)
