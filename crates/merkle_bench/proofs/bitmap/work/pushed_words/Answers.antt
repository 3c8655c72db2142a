use Rattle.std.proofs.Common.{arith, refl}
use Rattle.merkle_bench.proofs.bitmap.work.pushed_words.Goals as goal

pub pushed-requires : goal.pushed-requires
pushed-requires c = (8, refl, omega arith)
