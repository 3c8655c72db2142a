use Rattle.merkle_core_parts.specs.Laws.Pruned.{pruned-with}
use Rattle.merkle_core_parts.proofs.laws.pruning_and_applying_commute.Goals as goal

pub returns : goal.returns
returns g c = pruned-with g.F.Family.merge_rule g.met.F.Family.merges_equals
