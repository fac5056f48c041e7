use Rattle.std.proofs.Common.{◌^◌, ◌&&◌, ltb, ap, ◌∙◌}
use lib.Bits.{bit_or}
use Rattle.guards.specs.Bits.{has}
use Rattle.tables.proofs.EndingBits.{insert_holds}
use Rattle.tables.proofs.endings.Endings.insert.Goals as goal

pub returns : goal.returns
returns c k =
    ap (λ w. ltb k 64 && has (bit_or c.args.self.mask w) (2 ^ k)) c.bit.ensures
    ∙ insert_holds 64 c.args.self.mask c.args.state k c.requires
