use Rattle.std.proofs.Common.{arith, refl}
use Rattle.proofs_player.proofs.counts.heights.Goals as goal

pub height-requires : goal.height-requires
height-requires c = (3, refl, omega arith)

pub height-requires-in-text-2 : goal.height-requires-in-text-2
height-requires-in-text-2 c = (8, refl, omega arith)

pub height-requires-in-text-3 : goal.height-requires-in-text-3
height-requires-in-text-3 c = (9, refl, omega arith)
