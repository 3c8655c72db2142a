use Rattle.std.proofs.Common.{◌≡◌, ℕ, ◌+◌, ◌*◌, ◌%◌, ◌^◌, sym, ◌∙◌, ap, arith}
use Rattle.std.proofs.lemmas.Nat.{one_shl}
use Rattle.merkle_forest.specs.Laws.Nodes.{subtree-low}
use Rattle.state_theory.specs.Laws.SameNodes.{is_below, tree_at, at_node, sub_node, sub_of}
use Rattle.state_proofs_parts.proofs.grafting.positions.grafted_to_ops_pos.Goals as goal

pub pos_to_height-height-requires : goal.pos_to_height-height-requires
pos_to_height-height-requires g c =
    let it = c.requires.1 in
    is_below g.F.Family.merge_rule g.met.F.Family.merges_equals it.chunk c.args.grafted_pos it.high it.over_chunks

pub overflow_shl-first : goal.overflow_shl-first
overflow_shl-first g c =
    let it = c.requires.1 in
    let low = subtree-low g.F.Family.merge_rule g.met.F.Family.merges_equals _ _ (sub_of g.F.Family.merge_rule _ _ _ it.over_operations) in
    omega (arith, low.1)

pub overflow_mul-first : goal.overflow_mul-first
overflow_mul-first g c =
    let it = c.requires.1 in
    let level : ℕ = c.args.grafting_height in
    let low = subtree-low g.F.Family.merge_rule g.met.F.Family.merges_equals _ _ (sub_of g.F.Family.merge_rule _ _ _ it.over_operations) in
    let tree = it.over_chunks.1 in
    let high : c.pos_to_height-height.result ≡ it.high =
    c.pos_to_height-height.ensures.all tree.leaf_total it.chunk it.over_chunks.0 tree.few tree.stands tree.subtree ∙ sym tree.level in
    let begins : c.leftmost_leaf-chunk.result ≡ it.chunk =
    c.leftmost_leaf-chunk.ensures tree.leaf_total it.chunk it.over_chunks.0 tree.few tree.stands tree.subtree (high ∙ tree.level) in
    let first : c.as_u64.result * (1 * 2 ^ level % 2 ^ 64) ≡ it.chunk * 2 ^ level =
    ap (λ k. k * (1 * 2 ^ level % 2 ^ 64)) (c.as_u64.ensures ∙ begins) ∙ ap (λ k. it.chunk * k) (one_shl level 64 (omega (arith, low.1))) in
    omega (arith, first, low.0)

pub overflow_add-height : goal.overflow_add-height
overflow_add-height g c =
    let it = c.requires.1 in
    let low = subtree-low g.F.Family.merge_rule g.met.F.Family.merges_equals _ _ (sub_of g.F.Family.merge_rule _ _ _ it.over_operations) in
    let tree = it.over_chunks.1 in
    let high : c.pos_to_height-height.result ≡ it.high =
    c.pos_to_height-height.ensures.all tree.leaf_total it.chunk it.over_chunks.0 tree.few tree.stands tree.subtree ∙ sym tree.level in
    omega (arith, high, low.1)

pub subtree_root_position-requires : goal.subtree_root_position-requires
subtree_root_position-requires g c =
    let it = c.requires.1 in
    let level : ℕ = c.args.grafting_height in
    let low = subtree-low g.F.Family.merge_rule g.met.F.Family.merges_equals _ _ (sub_of g.F.Family.merge_rule _ _ _ it.over_operations) in
    let tree = it.over_chunks.1 in
    let high : c.pos_to_height-height.result ≡ it.high =
    c.pos_to_height-height.ensures.all tree.leaf_total it.chunk it.over_chunks.0 tree.few tree.stands tree.subtree ∙ sym tree.level in
    let begins : c.leftmost_leaf-chunk.result ≡ it.chunk =
    c.leftmost_leaf-chunk.ensures tree.leaf_total it.chunk it.over_chunks.0 tree.few tree.stands tree.subtree (high ∙ tree.level) in
    let first : c.new.result ≡ it.chunk * 2 ^ level =
    c.new.ensures ∙ ap (λ k. k * (1 * 2 ^ level % 2 ^ 64)) (c.as_u64.ensures ∙ begins)
    ∙ ap (λ k. it.chunk * k) (one_shl level 64 (omega (arith, low.1))) in
    sub_node g.F.Family.merge_rule _ _ _ _ (sym first) (ap (λ k. k + level) (sym high))
    (sub_of g.F.Family.merge_rule _ _ _ it.over_operations)

pub returns : goal.returns
returns g c =
    let it = c.requires.1 in
    let level : ℕ = c.args.grafting_height in
    let low = subtree-low g.F.Family.merge_rule g.met.F.Family.merges_equals _ _ (sub_of g.F.Family.merge_rule _ _ _ it.over_operations) in
    let tree = it.over_chunks.1 in
    let high : c.pos_to_height-height.result ≡ it.high =
    c.pos_to_height-height.ensures.all tree.leaf_total it.chunk it.over_chunks.0 tree.few tree.stands tree.subtree ∙ sym tree.level in
    let begins : c.leftmost_leaf-chunk.result ≡ it.chunk =
    c.leftmost_leaf-chunk.ensures tree.leaf_total it.chunk it.over_chunks.0 tree.few tree.stands tree.subtree (high ∙ tree.level) in
    let first : c.new.result ≡ it.chunk * 2 ^ level =
    c.new.ensures ∙ ap (λ k. k * (1 * 2 ^ level % 2 ^ 64)) (c.as_u64.ensures ∙ begins)
    ∙ ap (λ k. it.chunk * k) (one_shl level 64 (omega (arith, low.1))) in
    record {
      chunk = it.chunk;
      high = it.high;
      over_operations = tree_at g.F.Family.merge_rule _ _ _ (sub_of g.F.Family.merge_rule _ _ _ it.over_operations)
          (at_node g.F.Family.merge_rule _ _ _ _ _ first (ap (λ k. k + level) high) c.subtree_root_position.ensures);
      over_chunks = it.over_chunks;
    }
