use Rattle.std.proofs.Common.{arith}
use Rattle.merkle_forest.specs.Laws.Parents.{height-none, height-some}
use Rattle.merkle_forest.proofs.family.Family.pos_to_height.Goals as goal

pub returns-then-nodes_after-eq0-clause-there : goal.returns-then-nodes_after-eq0-clause-there
returns-then-nodes_after-eq0-clause-there g c =
    let it = height-none g.Self.Family.merge_rule g.met.Self.Family.merges_equals c.greatest_leaf_count-leaves.result
    c.as_u64.result c.as_u64-2.result c.args.position c.leaf_position.result
    c.requires c.as_u64.ensures c.as_u64-2.ensures c.leaf_position.ensures c.greatest_leaf_count-leaves.ensures.within
    c.greatest_leaf_count-leaves.ensures.greatest c.if-nodes_after-eq0.true in
    it.there

pub returns-then-nodes_after-eq0-clause-all : goal.returns-then-nodes_after-eq0-clause-all
returns-then-nodes_after-eq0-clause-all g c =
    let it = height-none g.Self.Family.merge_rule g.met.Self.Family.merges_equals c.greatest_leaf_count-leaves.result
    c.as_u64.result c.as_u64-2.result c.args.position c.leaf_position.result
    c.requires c.as_u64.ensures c.as_u64-2.ensures c.leaf_position.ensures c.greatest_leaf_count-leaves.ensures.within
    c.greatest_leaf_count-leaves.ensures.greatest c.if-nodes_after-eq0.true in
    it.all

pub overflow_cast-result : goal.overflow_cast-result
overflow_cast-result g c =
    let it = height-some g.Self.Family.merge_rule g.met.Self.Family.merges_equals c.greatest_leaf_count-leaves.result
    c.as_u64.result c.as_u64-2.result c.args.position c.leaf_position.result c.parent_range-first.result.0
    c.parent_range-first.result.1
    c.requires c.as_u64.ensures c.as_u64-2.ensures c.leaf_position.ensures c.greatest_leaf_count-leaves.ensures.within
    c.greatest_leaf_count-leaves.ensures.greatest
    (omega (arith, c.if-nodes_after-eq0.false)) c.parent_range-first.ensures.parents in
    omega (arith, it.1, c.parent_range-first.ensures.low)

pub overflow_add-result : goal.overflow_add-result
overflow_add-result g c =
    let it = height-some g.Self.Family.merge_rule g.met.Self.Family.merges_equals c.greatest_leaf_count-leaves.result
    c.as_u64.result c.as_u64-2.result c.args.position c.leaf_position.result c.parent_range-first.result.0
    c.parent_range-first.result.1
    c.requires c.as_u64.ensures c.as_u64-2.ensures c.leaf_position.ensures c.greatest_leaf_count-leaves.ensures.within
    c.greatest_leaf_count-leaves.ensures.greatest
    (omega (arith, c.if-nodes_after-eq0.false)) c.parent_range-first.ensures.parents in
    omega (arith, it.1, c.parent_range-first.ensures.low)

pub returns-clause-there : goal.returns-clause-there
returns-clause-there g c =
    let it = height-some g.Self.Family.merge_rule g.met.Self.Family.merges_equals c.greatest_leaf_count-leaves.result
    c.as_u64.result c.as_u64-2.result c.args.position c.leaf_position.result c.parent_range-first.result.0
    c.parent_range-first.result.1
    c.requires c.as_u64.ensures c.as_u64-2.ensures c.leaf_position.ensures c.greatest_leaf_count-leaves.ensures.within
    c.greatest_leaf_count-leaves.ensures.greatest
    (omega (arith, c.if-nodes_after-eq0.false)) c.parent_range-first.ensures.parents in
    it.0.there

pub returns-clause-all : goal.returns-clause-all
returns-clause-all g c =
    let it = height-some g.Self.Family.merge_rule g.met.Self.Family.merges_equals c.greatest_leaf_count-leaves.result
    c.as_u64.result c.as_u64-2.result c.args.position c.leaf_position.result c.parent_range-first.result.0
    c.parent_range-first.result.1
    c.requires c.as_u64.ensures c.as_u64-2.ensures c.leaf_position.ensures c.greatest_leaf_count-leaves.ensures.within
    c.greatest_leaf_count-leaves.ensures.greatest
    (omega (arith, c.if-nodes_after-eq0.false)) c.parent_range-first.ensures.parents in
    it.0.all
