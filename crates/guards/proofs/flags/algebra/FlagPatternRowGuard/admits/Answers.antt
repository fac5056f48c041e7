use Rattle.std.proofs.Common.{◌&&◌, eqb, sym, ap, ◌∙◌}
use lib.Bits.{bit_and}
use Rattle.std.proofs.lemmas.Bool.{le-leb}
use Rattle.guards.specs.Flags.{pattern_row}
use Rattle.guards.specs.FlagTests.{admit_test, pattern_made}
use Rattle.guards.proofs.flags.algebra.FlagPatternRowGuard.admits.Goals as goal

pub returns-then-flags-le-LAST_FLAGS : goal.returns-then-flags-le-LAST_FLAGS
returns-then-flags-le-LAST_FLAGS c =
    sym (admit_test (pattern_row c.args.self) c.args.flags (pattern_made c.args.self)
    ∙ ap (λ t. t && eqb (bit_and c.args.flags c.args.self.care) c.args.self.value) (le-leb c.args.flags 31 c.if-flags-le-LAST_FLAGS.true))
