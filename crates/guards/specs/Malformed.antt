-- What is printed of numbers that make no guard and no entry.
use Rattle.std.specs.Prelude.{ℕ, List, codes}
use Rattle.guards.specs.declared.malformed.Malformed.{Malformed}
use Rattle.guards.specs.declared.malformed.Malformed.TheVariants.{Flags, Minutes}

abbrev pub phrase : Malformed → List ℕ
phrase Flags = codes "not numbers of flags"
phrase Minutes = codes "not numbers of minutes"
