use Rattle.std.proofs.Common.{arith, refl}
use Rattle.proofs_player.proofs.bits.Bits.none.Goals as goal

pub new-requires : goal.new-requires
new-requires c = (omega arith, (3, refl, omega arith))
