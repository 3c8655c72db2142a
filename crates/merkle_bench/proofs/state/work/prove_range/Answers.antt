use Rattle.std.proofs.Common.{refl, arith}
use Rattle.merkle_bench.proofs.state.work.prove_range.Goals as goal

pub new-requires-4 : goal.new-requires-4
new-requires-4 c = (11, refl, omega arith)
