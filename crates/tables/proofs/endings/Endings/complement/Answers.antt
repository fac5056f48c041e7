use Rattle.std.proofs.Common.{◌^◌, ◌&&◌, ltb, ap, ◌∙◌}
use lib.Bits.{bit_xor}
use Rattle.guards.specs.Bits.{has}
use Rattle.tables.proofs.EndingBits.{complement_holds}
use Rattle.tables.proofs.endings.Endings.complement.Goals as goal

pub returns : goal.returns
returns c k =
    ap (λ m. ltb k 64 && has (bit_xor c.args.self.mask m) (2 ^ k)) c.ones.ensures
    ∙ complement_holds 64 c.args.self.mask c.args.count k c.requires
