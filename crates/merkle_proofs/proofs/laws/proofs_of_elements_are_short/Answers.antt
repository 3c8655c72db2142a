use Rattle.std.proofs.Common.{◌≡◌, ◌-◌, ◌<◌, suc, length, sym, subst, arith}
use Rattle.std.proofs.lemmas.List.{length-map}
use Rattle.merkle_forest.specs.Forest.{position, forest_of, leaves}
use Rattle.merkle_forest.specs.Laws.ForestGrowth.{leaves-forest_of, forest_of-perfect}
use Rattle.merkle_forest.specs.Laws.Nodes.{peak-node, node-perfect}
use Rattle.merkle_forest.specs.Laws.Trees.{length-located}
use Rattle.merkle_forest.specs.Trees.{located}
use Rattle.merkle_theory.specs.MadeRoots.{peaks_of}
use Rattle.merkle_theory.specs.Multi.{multi_nodes}
use Rattle.merkle_theory.proofs.HonestRoots.{peak_there}
use Rattle.merkle_theory.proofs.Lookups.{located_all}
use Rattle.merkle_theory.proofs.MultiShort.{IsLow, count, short, some_counted, some_place}
use Rattle.merkle_theory.proofs.MultiSound.{none_good}
use Rattle.merkle_proofs.proofs.laws.proofs_of_elements_are_short.Goals as goal

pub returns : goal.returns
returns g c leaf_total locations some can =
    let rule = g.F.Family.merge_rule in
    let pairs = g.met.F.Family.merges_equals in
    let forest = forest_of rule leaf_total in
    let good = none_good leaf_total locations can in
    let all = leaves-forest_of rule pairs leaf_total in
    let first = some_counted leaf_total locations some good.0 in
    let counted : 0 < count 0 (leaves forest) locations = subst (λ n. 0 < count 0 n locations) (sym all) first in
    let there = peak_there forest (omega (arith, all, some_place leaf_total locations first)) in
    let q = length forest - 1 in
    let long : length (located forest) ≡ suc q = omega (arith, length-located forest, there) in
    omega (
      arith,
      length-map (multi_nodes locations (peaks_of rule leaf_total)) (λ node. position node.1),
      short locations q forest long (located_all (IsLow locations q) forest (λ first node stands. (
        node-perfect first node forest (forest_of-perfect rule pairs leaf_total) (peak-node first node forest stands),
        omega (arith, g.met.F.Graftable.few_peaks leaf_total first node good.1 stands, there),
      ))) counted,
    )
