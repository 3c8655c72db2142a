use Rattle.std.proofs.Common.{◌≡◌, ◌≤◌, ◌∙◌, ap, arith}
use Rattle.merkle_forest.specs.Laws.ForestGrowth.{size-le}
use Rattle.merkle_forest.specs.Peaks.{all_peaks}
use Rattle.merkle_forest.proofs.peaks.Peaks.new.Goals as goal

pub returns : goal.returns
returns g c n few is =
    let rule = g.F.Family.merge_rule in
    let most : n ≤ c.greatest_leaf_count.result =
    c.greatest_leaf_count.ensures.greatest n few (omega (arith, is, c.as_u64.ensures)) in
    let least : c.greatest_leaf_count.result ≤ n =
    size-le rule g.met.F.Family.merges_equals c.greatest_leaf_count.result n
    (omega (arith, is, c.as_u64.ensures, c.greatest_leaf_count.ensures.within)) in
    let found : c.greatest_leaf_count.result ≡ n = omega arith in
    c.of_leaves.ensures ∙ ap (all_peaks rule) (c.new.ensures ∙ found)
