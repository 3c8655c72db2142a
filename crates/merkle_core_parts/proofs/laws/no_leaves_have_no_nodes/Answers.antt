use Rattle.merkle_core_parts.specs.Laws.Mem.{nodes-empty}
use Rattle.merkle_core_parts.proofs.laws.no_leaves_have_no_nodes.Goals as goal

pub returns : goal.returns
returns g c = nodes-empty g.F.Family.merge_rule
