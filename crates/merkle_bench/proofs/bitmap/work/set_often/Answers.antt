use Rattle.std.proofs.Common.{arith, refl}
use Rattle.merkle_bench.proofs.bitmap.work.set_often.Goals as goal

pub filled-requires : goal.filled-requires
filled-requires c = (omega arith, (3, refl, omega arith))
