use Rattle.std.proofs.Common.{map, ◌∙◌, ap, arith}
use Rattle.merkle_forest.specs.Forest.{forest_of}
use Rattle.merkle_forest.specs.Peaks.{PeaksLeft, all_peaks, position_and_height, positions_from}
use Rattle.merkle_forest.specs.Laws.Peaks.{cut-zero, located_from-zero}
use Rattle.merkle_forest.proofs.peaks.Peaks.of_leaves.Goals as goal

pub invariant_of-result : goal.invariant_of-result
invariant_of-result g c = (omega arith, cut-zero (forest_of g.F.Family.merge_rule c.as_u64.result))

pub returns : goal.returns
returns g c =
    let first : PeaksLeft = record {
      leaves = c.as_u64.result;
      left = positions_from 0 (forest_of g.F.Family.merge_rule c.as_u64.result);
    } in
    ap (λ peaks. record first { left = map position_and_height peaks })
    (located_from-zero (forest_of g.F.Family.merge_rule c.as_u64.result))
    ∙ ap (all_peaks g.F.Family.merge_rule) c.as_u64.ensures
