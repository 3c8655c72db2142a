use Rattle.std.proofs.Common.{arith}
use Rattle.merkle_forest.specs.Laws.Mmb.{size-log}
use Rattle.merkle_forest.proofs.mmb.position_of.Goals as goal

pub overflow_sub-result : goal.overflow_sub-result
overflow_sub-result c =
    omega (arith, size-log c.args.location c.ilog2.result c.ilog2.ensures.power_le c.ilog2.ensures.next_power_gt)

pub returns : goal.returns
returns c =
    omega (arith, size-log c.args.location c.ilog2.result c.ilog2.ensures.power_le c.ilog2.ensures.next_power_gt)
