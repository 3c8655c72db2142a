use Rattle.std.proofs.Common.{◌-◌, arith}
use Rattle.merkle_forest.specs.Laws.Powers.{pow_le}
use Rattle.merkle_forest.specs.Laws.MmbPositions.{birth-branch, three_shl}
use Rattle.merkle_forest.proofs.mmb.birth.Goals as goal

pub overflow_add-result-2 : goal.overflow_add-result-2
overflow_add-result-2 c =
    omega (
      arith,
      three_shl c.args.height c.requires.low,
      pow_le (c.args.height - 1) 61 (omega (arith, c.requires.low)),
      c.requires.start,
    )

pub returns : goal.returns
returns c =
    omega (
      arith,
      three_shl c.args.height c.requires.low,
      birth-branch c.args.first c.args.height (omega (arith, c.if-height-eq0.false)),
    )
