use Rattle.std.proofs.Common.{arith}
use Rattle.merkle_forest.specs.Forest.{forest_of}
use Rattle.merkle_forest.specs.Laws.ForestGrowth.{leaves-forest_of}
use Rattle.merkle_forest.specs.Laws.Trees.{length-located}
use Rattle.merkle_theory.proofs.HonestRoots.{honest_root, peak_there}
use Rattle.merkle_proofs.proofs.laws.honest_ranges_lead_to_the_root.Goals as goal

pub returns : goal.returns
returns g c hash names over bagging digest leaf_total inactive start elements few many within enough agrees =
    let rule = g.F.Family.merge_rule in
    let count = length-located (forest_of rule leaf_total) in
    honest_root hash names over bagging digest rule leaf_total inactive start elements many agrees few within (omega (arith, count, enough))
    (omega (arith, count, peak_there (forest_of rule leaf_total) (omega (arith, leaves-forest_of rule g.met.F.Family.merges_equals leaf_total, many, within))))
