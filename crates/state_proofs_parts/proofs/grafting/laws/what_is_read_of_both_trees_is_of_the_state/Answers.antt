use Rattle.state_theory.specs.Canonical.{Setting, setting_with}
use Rattle.state_theory.specs.Laws.GraftedTrees.{nodes_are, source_is}
use Rattle.state_proofs_parts.proofs.grafting.laws.what_is_read_of_both_trees_is_of_the_state.Goals as goal

pub returns-clause-nodes : goal.returns-clause-nodes
returns-clause-nodes g c hash width level state operations chunks whole few of_operations of_chunks first tree digest stands is =
    let setting : Setting = setting_with g.F.Family.merge_rule hash width level in
    nodes_are setting state g.F.Graftable.root_of g.met.F.Family.merges_equals g.met.F.Graftable.roots whole few g.met.F.Graftable.aligned
    operations chunks of_operations of_chunks first tree digest stands is

pub returns-clause-source : goal.returns-clause-source
returns-clause-source g c hash width level state source operations chunks whole few of_operations of_chunks leaves bits known =
    let setting : Setting = setting_with g.F.Family.merge_rule hash width level in
    source_is setting state g.F.Graftable.root_of g.met.F.Family.merges_equals g.met.F.Graftable.roots whole few g.met.F.Graftable.aligned
    source operations chunks of_operations of_chunks leaves bits known
