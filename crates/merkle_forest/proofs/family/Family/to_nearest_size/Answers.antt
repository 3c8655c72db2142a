use Rattle.std.proofs.Common.{◌≡◌, ◌≤◌, ◌∙◌, arith}
use Rattle.merkle_forest.specs.Forest.{size, forest_of}
use Rattle.merkle_forest.specs.Laws.ForestGrowth.{size-mono}
use Rattle.merkle_forest.proofs.family.Family.to_nearest_size.Goals as goal

pub returns-clause-nearest : goal.returns-clause-nearest
returns-clause-nearest g c s it low =
    let rule = g.Self.Family.merge_rule in
    let found : c.new.result ≡ size (forest_of rule c.greatest_leaf_count.result) = c.new.ensures
    ∙ c.leaf_position.ensures in
    let most : it.0 ≤ c.greatest_leaf_count.result =
    c.greatest_leaf_count.ensures.greatest it.0 it.1 (omega (arith, it.2, low, c.as_u64.ensures)) in
    omega (arith, it.2, found, size-mono rule g.met.Self.Family.merges_equals it.0 c.greatest_leaf_count.result most)
