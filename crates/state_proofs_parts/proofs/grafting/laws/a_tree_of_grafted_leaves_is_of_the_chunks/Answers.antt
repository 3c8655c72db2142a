use Rattle.state_theory.specs.Canonical.{Setting, setting_with}
use Rattle.state_theory.specs.Laws.GraftedTrees.{chunks_are}
use Rattle.state_proofs_parts.proofs.grafting.laws.a_tree_of_grafted_leaves_is_of_the_chunks.Goals as goal

pub returns : goal.returns
returns g c hash width level state leaf_digests nodes whole few leaves are =
    let setting : Setting = setting_with g.F.Family.merge_rule hash width level in
    chunks_are setting state g.F.Graftable.root_of g.met.F.Family.merges_equals g.met.F.Graftable.roots whole few leaf_digests nodes leaves are
