use Rattle.std.proofs.Common.{arith, refl}
use Rattle.proofs_player.proofs.bits.Bits.of_words.Goals as goal

pub begun-requires : goal.begun-requires
begun-requires c = (omega arith, (3, refl, omega arith))

pub begun-requires-in-text-2 : goal.begun-requires-in-text-2
begun-requires-in-text-2 c = (omega arith, (4, refl, omega arith))

pub begun-requires-in-text-3 : goal.begun-requires-in-text-3
begun-requires-in-text-3 c = (omega arith, (5, refl, omega arith))
