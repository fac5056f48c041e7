-- Minutes: which numbers are entries and guards, what each guard admits, and the model of the algebra.
use Rattle.std.specs.Prelude.{◌≡◌, ℕ, ◌+◌, ◌-◌, min, max, Bool, true, false, cond, ◌&&◌, List, [], ◌∷◌, ◌++◌, Some, None, Option, Ok, Err, Result, nat_le, nat_lt}
use Rattle.guards.specs.Algebra.{Model}
use Rattle.guards.specs.declared.minutes.MinuteRow.{MinuteRow}
use Rattle.guards.specs.declared.minutes.MinuteRange.{MinuteRange}
use Rattle.guards.specs.declared.malformed.Malformed.{Malformed}
use Rattle.guards.specs.declared.malformed.Malformed.TheVariants.{Minutes}

abbrev pub minutes : ℕ → ℕ → MinuteRow
minutes first last = record { first = first; last = last }

-- the row that the empty guard is written as
abbrev pub no_minutes : MinuteRow
no_minutes = minutes 1 0

abbrev pub is_minute : ℕ → Bool
is_minute e = nat_le e 1439

-- the numbers of the row make a guard
abbrev pub is_range : MinuteRow → Bool
is_range g = nat_le g.first g.last && nat_le g.last 1439

-- the row of a guard that admits something
abbrev pub range_row : MinuteRange → MinuteRow
range_row g = minutes g.first g.last

-- the row of a guard, of which None is the empty one
abbrev pub minute_row : Option MinuteRange → MinuteRow
minute_row None = no_minutes
minute_row (Some g) = range_row g

-- the guard of a row's numbers
abbrev pub Makes : MinuteRow → Result MinuteRange Malformed → Type 0
Makes row (Ok g) = (is_range row ≡ true) × (range_row g ≡ row)
Makes row (Err why) = (is_range row ≡ false) × (why ≡ Minutes)

-- the meaning of a row: the minutes from first to last, or none where the numbers make no guard
abbrev pub minutes_admit : MinuteRow → ℕ → Bool
minutes_admit g e = is_range g && (nat_le g.first e && nat_le e g.last)

abbrev pub whole_day : MinuteRow
whole_day = minutes 0 1439

-- the later first and the earlier last
abbrev pub overlap : MinuteRow → MinuteRow → MinuteRow
overlap a b = minutes (max a.first b.first) (min a.last b.last)

abbrev pub minutes_meet : MinuteRow → MinuteRow → MinuteRow
minutes_meet a b = cond (is_range a && is_range b && is_range (overlap a b)) (overlap a b) no_minutes

abbrev pub minutes_sample : MinuteRow → Option ℕ
minutes_sample g = cond (is_range g) (Some g.first) None

-- the part of a below b, if there is one
abbrev pub below : MinuteRow → MinuteRow → List MinuteRow
below a b = cond (nat_lt a.first b.first) (minutes a.first (min a.last (b.first - 1)) ∷ []) []

-- the part of a above b, if there is one
abbrev pub above : MinuteRow → MinuteRow → List MinuteRow
above a b = cond (nat_lt b.last a.last) (minutes (max a.first (b.last + 1)) a.last ∷ []) []

-- an empty b leaves a whole
abbrev pub minutes_parts : MinuteRow → MinuteRow → List MinuteRow
minutes_parts a b = cond (is_range a) (cond (is_range b) (below a b ++ above a b) (a ∷ [])) []

abbrev pub minutes_model : Model ℕ MinuteRow
minutes_model = record {
  domain = is_minute;
  admits = minutes_admit;
  whole = whole_day;
  meet = minutes_meet;
  sample = minutes_sample;
  parts = minutes_parts;
}
