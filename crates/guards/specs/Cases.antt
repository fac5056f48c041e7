-- The worked cases: questions to the algebras, each with the answer that it must get.
use Rattle.std.specs.Prelude.{◌≡◌, List, [], ◌∷◌}
use Rattle.guards.specs.Flags.{flags, no_flags, whole_flags, flags_model}
use Rattle.guards.specs.Minutes.{minutes, whole_day, minutes_model}
use Rattle.guards.specs.declared.flags.FlagRow.{FlagRow}
use Rattle.guards.specs.declared.minutes.MinuteRow.{MinuteRow}

pub data Case : Type 0 where
  -- the parts of the first guard without the second
  flags_rest : FlagRow → FlagRow → List FlagRow → Case
  minutes_rest : MinuteRow → MinuteRow → List MinuteRow → Case
  -- the meet of the two
  flags_meet : FlagRow → FlagRow → FlagRow → Case

abbrev pub Right : Case → Type 0
Right (flags_rest a b parts) = flags_model.parts a b ≡ parts
Right (minutes_rest a b parts) = minutes_model.parts a b ≡ parts
Right (flags_meet a b met) = flags_model.meet a b ≡ met

abbrev pub table : List Case
table =
    -- everything but driving
    flags_rest whole_flags (flags 3 3) (flags 2 0 ∷ flags 3 2 ∷ [])
    -- the higher activity bit cannot be both on and off
    ∷ flags_meet (flags 2 2) (flags 3 1) no_flags
    ∷ minutes_rest whole_day (minutes 600 700) (minutes 0 599 ∷ minutes 701 1439 ∷ [])
    ∷ []
