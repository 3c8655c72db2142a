use Rattle.merkle_core_parts.specs.Laws.Plain.{plain_roots}
use Rattle.merkle_core_parts.proofs.laws.plain_roots_are_tree_roots.Goals as goal

pub returns : goal.returns
returns g c = plain_roots g.F.Family.merge_rule g.met.F.Family.merges_equals
