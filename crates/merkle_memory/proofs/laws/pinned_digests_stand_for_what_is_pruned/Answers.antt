use Rattle.merkle_memory.specs.Laws.Begun.{hashes-alike, nodes-of-left}
use Rattle.merkle_memory.proofs.laws.pinned_digests_stand_for_what_is_pruned.Goals as goal

pub returns-clause-nodes : goal.returns-clause-nodes
returns-clause-nodes g c = nodes-of-left g.F.Family.merge_rule g.met.F.Family.merges_equals

pub returns-clause-alike : goal.returns-clause-alike
returns-clause-alike g c = hashes-alike g.F.Family.merge_rule g.met.F.Family.merges_equals
