-- Flags: which numbers are entries and guards, what each guard admits, and the model of the algebra.
use Rattle.std.specs.Prelude.{◌≡◌, ℕ, Bool, true, false, cond, not, ◌&&◌, ◌||◌, List, [], ◌∷◌, Some, None, Option, Ok, Err, Result, bit_or, nat_le}
use Rattle.std.specs.Bool.{beq}
use Rattle.guards.specs.Algebra.{Model}
use Rattle.guards.specs.Bits.{has}
use Rattle.std.specs.List.{list_all}
use Rattle.guards.specs.declared.flags.FlagRow.{FlagRow}
use Rattle.guards.specs.declared.flags.FlagPattern.{FlagPattern}
use Rattle.guards.specs.declared.malformed.Malformed.{Malformed}
use Rattle.guards.specs.declared.malformed.Malformed.TheVariants.{Flags}

abbrev pub flags : ℕ → ℕ → FlagRow
flags care value = record { care = care; value = value }

-- the row that the empty guard is written as
abbrev pub no_flags : FlagRow
no_flags = flags 0 1

-- the five bits by weight, highest first: slot, crew, card, and the two of the activity
abbrev pub weights : List ℕ
weights = 16 ∷ 8 ∷ 4 ∷ 2 ∷ 1 ∷ []

abbrev pub is_flags : ℕ → Bool
is_flags e = nat_le e 31

-- at that bit the value lies within care
abbrev pub within : FlagRow → ℕ → Bool
within g w = not (has g.value w) || has g.care w

-- the numbers of the row make a guard
abbrev pub is_pattern : FlagRow → Bool
is_pattern g = nat_le g.care 31 && (nat_le g.value 31 && list_all (within g) weights)

-- the row of a guard that admits something
abbrev pub pattern_row : FlagPattern → FlagRow
pattern_row g = flags g.care g.value

-- the row of a guard, of which None is the empty one
abbrev pub flag_row : Option FlagPattern → FlagRow
flag_row None = no_flags
flag_row (Some g) = pattern_row g

-- the guard of a row's numbers
abbrev pub Makes : FlagRow → Result FlagPattern Malformed → Type 0
Makes row (Ok g) = (is_pattern row ≡ true) × (pattern_row g ≡ row)
Makes row (Err why) = (is_pattern row ≡ false) × (why ≡ Flags)

-- at that bit the entry is as the value is, unless the bit is outside care
abbrev pub agrees : FlagRow → ℕ → ℕ → Bool
agrees g e w = not (has g.care w) || beq (has e w) (has g.value w)

-- the meaning of a row: the entries that agree with the value on every care bit, or none where the numbers make no guard
abbrev pub flags_admit : FlagRow → ℕ → Bool
flags_admit g e = is_pattern g && (is_flags e && list_all (agrees g e) weights)

abbrev pub whole_flags : FlagRow
whole_flags = flags 0 0

-- at that bit the two values are the same, unless it is outside either care
abbrev pub compatible : FlagRow → FlagRow → ℕ → Bool
compatible a b w = not (has a.care w && has b.care w) || beq (has a.value w) (has b.value w)

-- neither is empty, and they disagree on no shared care bit
abbrev pub flags_overlap : FlagRow → FlagRow → Bool
flags_overlap a b = is_pattern a && (is_pattern b && list_all (compatible a b) weights)

-- the cares and the values of both
abbrev pub joined : FlagRow → FlagRow → FlagRow
joined a b = flags (bit_or a.care b.care) (bit_or a.value b.value)

abbrev pub flags_meet : FlagRow → FlagRow → FlagRow
flags_meet a b = cond (flags_overlap a b) (joined a b) no_flags

abbrev pub flags_sample : FlagRow → Option ℕ
flags_sample g = cond (is_pattern g) (Some g.value) None

-- b cares for the bit, and a does not
abbrev pub fresh : FlagRow → FlagRow → ℕ → Bool
fresh a b w = has b.care w && not (has a.care w)

-- g, with that bit cared for too, and on or off
abbrev pub fixed : FlagRow → ℕ → Bool → FlagRow
fixed g w on = flags (bit_or g.care w) (cond on (bit_or g.value w) g.value)

-- a part for each fresh bit of the list: g with the earlier fresh bits as in b, and this one opposite to b
unfoldable pub split : FlagRow → FlagRow → FlagRow → List ℕ → List FlagRow
split a b g [] = []
split a b g (w ∷ ws) =
    cond (fresh a b w) (fixed g w (not (has b.value w)) ∷ split a b (fixed g w (has b.value w)) ws) (split a b g ws)

-- an empty meet leaves a whole
abbrev pub flags_parts : FlagRow → FlagRow → List FlagRow
flags_parts a b = cond (is_pattern a) (cond (flags_overlap a b) (split a b a weights) (a ∷ [])) []

abbrev pub flags_model : Model ℕ FlagRow
flags_model = record {
  domain = is_flags;
  admits = flags_admit;
  whole = whole_flags;
  meet = flags_meet;
  sample = flags_sample;
  parts = flags_parts;
}
