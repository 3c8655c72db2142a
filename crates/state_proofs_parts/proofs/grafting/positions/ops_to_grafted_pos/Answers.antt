use Rattle.std.proofs.Common.{◌≡◌, ◌-◌, ◌/◌, ◌^◌, refl, sym, ◌∙◌, ap, arith}
use Rattle.merkle_forest.specs.Laws.Nodes.{node-low}
use Rattle.state_theory.specs.Laws.SameNodes.{born, over_at, tree_at, at_node, sub_node}
use Rattle.state_proofs_parts.proofs.grafting.positions.ops_to_grafted_pos.Goals as goal

pub overflow_shr-chunk : goal.overflow_shr-chunk
overflow_shr-chunk g c =
    let there = c.pos_to_height-height.ensures.there in
    omega (
      arith,
      c.requires.high c.pos_to_height-height.result there,
      (node-low g.F.Family.merge_rule g.met.F.Family.merges_equals there.0 there.2.0 c.pos_to_height-height.result there.2.1 there.1
          there.2.2 there.2.4).1,
    )

pub overflow_sub-height : goal.overflow_sub-height
overflow_sub-height g c = c.requires.high c.pos_to_height-height.result c.pos_to_height-height.ensures.there

pub subtree_root_position-requires : goal.subtree_root_position-requires
subtree_root_position-requires g c =
    let there = c.pos_to_height-height.ensures.there in
    let high = c.pos_to_height-height.result in
    let it = over_at g.F.Family.merge_rule g.F.Graftable.birth_of g.met.F.Family.merges_equals
    (born g.met.F.Graftable.births g.met.F.Graftable.births_apart g.met.F.Graftable.births_soon) g.met.F.Graftable.aligned
    c.args.ops_pos high c.leftmost_leaf-first.result c.args.grafting_height there c.leftmost_leaf-first.ensures
    (c.requires.high high there) in
    let same : c.leftmost_leaf-first.result / 2 ^ c.args.grafting_height ≡ c.new.result =
    sym (c.new.ensures ∙ ap (λ k. k / 2 ^ c.args.grafting_height) c.as_u64.ensures) in
    sub_node g.F.Family.merge_rule _ _ _ _ same refl it.below

pub returns : goal.returns
returns g c =
    let there = c.pos_to_height-height.ensures.there in
    let high = c.pos_to_height-height.result in
    let it = over_at g.F.Family.merge_rule g.F.Graftable.birth_of g.met.F.Family.merges_equals
    (born g.met.F.Graftable.births g.met.F.Graftable.births_apart g.met.F.Graftable.births_soon) g.met.F.Graftable.aligned
    c.args.ops_pos high c.leftmost_leaf-first.result c.args.grafting_height there c.leftmost_leaf-first.ensures
    (c.requires.high high there) in
    let same : c.new.result ≡ c.leftmost_leaf-first.result / 2 ^ c.args.grafting_height =
    c.new.ensures ∙ ap (λ k. k / 2 ^ c.args.grafting_height) c.as_u64.ensures in
    record {
      chunk = c.leftmost_leaf-first.result / 2 ^ c.args.grafting_height;
      high = high - c.args.grafting_height;
      over_operations = it.over;
      over_chunks = tree_at g.F.Family.merge_rule _ _ _ it.below
          (at_node g.F.Family.merge_rule _ _ _ _ _ same refl c.subtree_root_position.ensures);
    }
