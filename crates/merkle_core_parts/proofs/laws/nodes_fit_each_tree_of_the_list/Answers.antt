use Rattle.merkle_core_parts.specs.Laws.Batches.{fits-each}
use Rattle.merkle_core_parts.proofs.laws.nodes_fit_each_tree_of_the_list.Goals as goal

pub returns : goal.returns
returns g c = fits-each g.F.Family.merge_rule g.met.F.Family.merges_equals
