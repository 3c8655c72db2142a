use Rattle.std.proofs.Common.{arith, refl}
use Rattle.merkle_bench.proofs.bitmap.work.pushed_parts.Goals as goal

pub filled_by_bytes-requires : goal.filled_by_bytes-requires
filled_by_bytes-requires c = (omega arith, (8, refl, omega arith))
