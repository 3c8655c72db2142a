use Rattle.std.proofs.Common.{◌≡◌, ◌∙◌, sym, ap, arith}
use Rattle.merkle_forest.specs.Forest.{height, forest_of, mmr_rule}
use Rattle.merkle_forest.specs.Mmr.{root_position}
use Rattle.merkle_forest.specs.Laws.MmrNodes.{peak-within_mmr, peak_height-mmr, node_position-mmr}
use Rattle.merkle_forest.specs.Laws.Nodes.{peak-node}
use Rattle.merkle_forest.proofs.mmr.FamilyFamily.peak_from.Goals as goal

pub overflow_sub-leaves : goal.overflow_sub-leaves
overflow_sub-leaves c =
    omega (arith, peak-within_mmr c.args.leaves c.args.first c.requires.begins.0 c.requires.begins.1)

pub ilog2-height-requires : goal.ilog2-height-requires
ilog2-height-requires c =
    omega (arith, peak-within_mmr c.args.leaves c.args.first c.requires.begins.0 c.requires.begins.1)

pub returns : goal.returns
returns c peak is =
    let high : c.ilog2-height.result ≡ height peak =
    peak_height-mmr c.args.leaves c.args.first c.ilog2-height.result peak is c.ilog2-height.ensures.power_le
    c.ilog2-height.ensures.next_power_gt in (
      c.root_position.ensures ∙ ap (root_position c.args.first) high
          ∙ sym (node_position-mmr c.args.leaves c.args.first peak
          (peak-node c.args.first peak (forest_of mmr_rule c.args.leaves) is)),
      high,
    )
