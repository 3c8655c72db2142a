use Rattle.std.proofs.Common.{arith, refl}
use Rattle.proofs_player.proofs.bits.Bits.of_width.Goals as goal

pub of_list-requires : goal.of_list-requires
of_list-requires c = (omega arith, (3, refl, omega arith))

pub of_list-requires-in-Two : goal.of_list-requires-in-Two
of_list-requires-in-Two c = (omega arith, (4, refl, omega arith))

pub of_list-requires-in-Four : goal.of_list-requires-in-Four
of_list-requires-in-Four c = (omega arith, (5, refl, omega arith))
