use Rattle.merkle_core_parts.specs.Laws.Layers.{base-is}
use Rattle.merkle_core_parts.proofs.laws.a_tree_of_a_list_is_its_base.Goals as goal

pub returns : goal.returns
returns g c node list nodes base are leaves peaks =
    base-is g.F.Family.merge_rule g.met.F.Family.merges_equals node list nodes base are leaves peaks
