use Rattle.state_theory.specs.Laws.GraftedTrees.{same_position, own_position}
use Rattle.state_proofs_parts.proofs.grafting.laws.branches_are_hashed_at_the_positions_of_the_operations.Goals as goal

pub returns-clause-same : goal.returns-clause-same
returns-clause-same g c level ops p it =
    same_position g.F.Family.merge_rule g.F.Graftable.root_of g.met.F.Family.merges_equals g.met.F.Graftable.roots level ops p it

pub returns-clause-alone : goal.returns-clause-alone
returns-clause-alone g c level p alone = own_position g.F.Family.merge_rule level p alone
