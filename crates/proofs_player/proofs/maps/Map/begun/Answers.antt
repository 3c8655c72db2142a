use Rattle.std.proofs.Common.{arith, refl}
use Rattle.proofs_player.proofs.maps.Map.begun.Goals as goal

pub empty-requires : goal.empty-requires
empty-requires c = (omega arith, (3, refl, omega arith))

pub empty-requires-in-text-2 : goal.empty-requires-in-text-2
empty-requires-in-text-2 c = (omega arith, (8, refl, omega arith))

pub empty-requires-in-text-3 : goal.empty-requires-in-text-3
empty-requires-in-text-3 c = (omega arith, (9, refl, omega arith))
