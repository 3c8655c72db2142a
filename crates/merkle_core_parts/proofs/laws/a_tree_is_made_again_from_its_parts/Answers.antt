use Rattle.merkle_core_parts.specs.Laws.Placed.{made-again}
use Rattle.merkle_core_parts.proofs.laws.a_tree_is_made_again_from_its_parts.Goals as goal

pub returns : goal.returns
returns g c = made-again g.F.Family.merge_rule g.met.F.Family.merges_equals
