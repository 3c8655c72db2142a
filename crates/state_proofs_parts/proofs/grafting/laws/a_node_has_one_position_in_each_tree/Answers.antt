use Rattle.state_theory.specs.Laws.SameNodes.{one_grafted, one_ops}
use Rattle.state_proofs_parts.proofs.grafting.laws.a_node_has_one_position_in_each_tree.Goals as goal

pub returns-clause-chunks : goal.returns-clause-chunks
returns-clause-chunks g c level ops p q one other =
    one_grafted g.F.Family.merge_rule g.F.Graftable.root_of g.met.F.Family.merges_equals g.met.F.Graftable.roots level ops p q
    one other

pub returns-clause-operations : goal.returns-clause-operations
returns-clause-operations g c level p q grafted one other =
    one_ops g.F.Family.merge_rule g.F.Graftable.root_of g.met.F.Family.merges_equals g.met.F.Graftable.roots level p q grafted
    one other
