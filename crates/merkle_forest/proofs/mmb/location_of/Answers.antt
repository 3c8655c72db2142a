use Rattle.std.proofs.Common.{◌∙◌, sym, ap, arith}
use Rattle.merkle_forest.specs.Mmb.{leaf_position}
use Rattle.merkle_forest.specs.Laws.Mmb.{size-most}
use Rattle.merkle_forest.specs.Laws.MmbPositions.{location-mmb}
use Rattle.merkle_forest.proofs.mmb.location_of.Goals as goal

pub overflow_add-result : goal.overflow_add-result
overflow_add-result c =
    omega (arith, c.requires.1, c.requires.2, size-most c.requires.0, c.ilog2.ensures.bound)

pub overflow_add-result-2 : goal.overflow_add-result-2
overflow_add-result-2 c =
    omega (arith, c.requires.1, c.requires.2, size-most c.requires.0, c.ilog2.ensures.bound)

pub returns : goal.returns
returns c =
    ap leaf_position (location-mmb c.requires.0 c.args.position c.ilog2.result c.requires.2 c.ilog2.ensures.power_le
    c.ilog2.ensures.next_power_gt) ∙ sym c.requires.2
