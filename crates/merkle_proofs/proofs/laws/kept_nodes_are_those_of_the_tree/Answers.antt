use Rattle.merkle_proofs.proofs.StoreNodes.{kept_known, both_known}
use Rattle.merkle_proofs.proofs.laws.kept_nodes_are_those_of_the_tree.Goals as goal

pub returns : goal.returns
returns g c = record {
  kept = λ digest leaf_total singles start stop nodes.
      kept_known g.D.Write.encoding g.F.Family.merge_rule g.met.F.Family.merges_equals leaf_total digest singles start stop nodes;
  supplied = λ digest leaf_total nodes supplied.
      both_known g.D.Write.encoding g.F.Family.merge_rule leaf_total digest nodes supplied;
  listed = λ node leaf_digests known is. is;
}
