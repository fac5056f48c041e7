-- Which states a set of endings holds.
use Rattle.std.specs.Prelude.{ℕ, ◌^◌, Bool, ◌&&◌, nat_lt}
use Rattle.guards.specs.Bits.{has}
use Rattle.automata.specs.Limits.{most_states}
use Rattle.tables.specs.declared.endings.Endings.{Endings}

abbrev pub holds : Endings → ℕ → Bool
holds e k = nat_lt k most_states && has e.mask (2 ^ k)
