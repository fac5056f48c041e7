-- Numbers by their bits.
use Rattle.std.specs.Prelude.{ℕ, Bool, not, ◌==◌, bit_and}

-- the number has the bit of that weight, a power of two
abbrev pub has : ℕ → ℕ → Bool
has n weight = not (bit_and n weight == 0)
