use Rattle.std.proofs.Common.{◌≤◌, ◌^◌, ◌∙◌, sym, ap, subst, arith}
use Rattle.merkle_forest.specs.Forest.{forest_of, mmb_rule}
use Rattle.merkle_forest.specs.Mmb.{birth, root_position}
use Rattle.merkle_forest.specs.Laws.Nodes.{peak-node}
use Rattle.merkle_forest.specs.Laws.MmbNodes.{node_position-mmb}
use Rattle.merkle_forest.specs.Laws.MmbPositions.{peak-before, peak_height-mmb, born-mmb}
use Rattle.merkle_forest.proofs.mmb.FamilyFamily.peak_from.Goals as goal

pub overflow_sub-rest : goal.overflow_sub-rest
overflow_sub-rest c = omega (arith, peak-before c.args.leaves c.args.first c.requires.begins.0 c.requires.begins.1)

pub overflow_sub-index : goal.overflow_sub-index
overflow_sub-index c =
    omega (
      arith,
      (peak_height-mmb c.args.leaves c.args.first c.ilog2-index.result c.requires.begins.0 c.requires.begins.1
          c.ilog2-index.ensures.power_le c.ilog2-index.ensures.next_power_gt).0,
    )

pub root_position-requires : goal.root_position-requires
root_position-requires c =
    let high = (peak_height-mmb c.args.leaves c.args.first c.ilog2-index.result c.requires.begins.0 c.requires.begins.1
    c.ilog2-index.ensures.power_le c.ilog2-index.ensures.next_power_gt).1 in
    subst (λ h. birth c.args.first h ≤ 2 ^ 62) high
    (born-mmb c.args.leaves c.args.first c.requires.begins.0 c.requires.few
    (peak-node c.args.first c.requires.begins.0 (forest_of mmb_rule c.args.leaves) c.requires.begins.1))

pub returns : goal.returns
returns c peak is =
    let high = (peak_height-mmb c.args.leaves c.args.first c.ilog2-index.result peak is
    c.ilog2-index.ensures.power_le c.ilog2-index.ensures.next_power_gt).1 in (
      c.root_position.ensures ∙ ap (root_position c.args.first) (sym high)
          ∙ sym (node_position-mmb c.args.leaves c.args.first peak
          (peak-node c.args.first peak (forest_of mmb_rule c.args.leaves) is)),
      sym high,
    )
