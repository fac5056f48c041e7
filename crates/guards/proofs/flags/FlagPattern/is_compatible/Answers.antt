use Rattle.std.proofs.Common.{sym}
use Rattle.guards.specs.Flags.{pattern_row}
use Rattle.guards.specs.FlagTests.{overlap_test, pattern_made}
use Rattle.guards.proofs.flags.FlagPattern.is_compatible.Goals as goal

pub returns : goal.returns
returns c = sym (overlap_test (pattern_row c.args.self) (pattern_row c.args.other) (pattern_made c.args.self) (pattern_made c.args.other))
