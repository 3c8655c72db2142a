use Rattle.merkle_forest.specs.Forest.{forest_of}
use Rattle.merkle_theory.specs.MadeRoots.{peaks_of}
use Rattle.merkle_theory.proofs.HonestRoots.{ascend_located}
use Rattle.merkle_proofs.proofs.HonestTold.{honest_given, part_made}
use Rattle.merkle_proofs.proofs.laws.honest_proofs_tell_the_nodes_of_the_list.Goals as goal

pub returns : goal.returns
returns g c = record {
  given = λ hash bagging digest leaf_total inactive start stop some.
      honest_given hash digest bagging inactive start stop some (peaks_of g.F.Family.merge_rule leaf_total)
      (ascend_located (forest_of g.F.Family.merge_rule leaf_total));
  made = λ hash elements start count. part_made hash elements start count;
}
