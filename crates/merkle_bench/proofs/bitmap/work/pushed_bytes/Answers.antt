use Rattle.std.proofs.Common.{arith, refl}
use Rattle.merkle_bench.proofs.bitmap.work.pushed_bytes.Goals as goal

pub pushed-requires : goal.pushed-requires
pushed-requires c = (3, refl, omega arith)
