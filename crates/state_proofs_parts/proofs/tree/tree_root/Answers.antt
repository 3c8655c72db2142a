use Rattle.std.proofs.Common.{◌∙◌}
use Rattle.merkle_forest.specs.Forest.{mmr_rule}
use Rattle.merkle_forest.specs.Laws.Rules.{mmr_merges_equals}
use Rattle.merkle_core_parts.specs.Laws.Mem.{root-of_list}
use Rattle.state_proofs_parts.proofs.tree.tree_root.Goals as goal

pub returns-clause-of_list : goal.returns-clause-of_list
returns-clause-of_list g c node_of digests are =
    c.in-Ok.ensures.root
    ∙ root-of_list mmr_rule mmr_merges_equals g.H.Hasher.hash_of node_of (g.H.Hasher.bagging_of c.args.hasher.now) digests
    c.args.tree.now 0 are
