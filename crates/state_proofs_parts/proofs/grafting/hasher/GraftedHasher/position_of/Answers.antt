use Rattle.std.proofs.Common.{◌≡◌, ℕ, Some, sym, ◌∙◌, ap, subst, arith}
use Rattle.merkle_forest.specs.Laws.Nodes.{subtree-at}
use Rattle.merkle_forest.specs.Nodes.{IsSubtree}
use Rattle.state_theory.specs.Verifier.{node_at}
use Rattle.state_theory.specs.Laws.GraftedNodes.{position-none, position-some, position-missing}
use Rattle.state_theory.specs.Laws.SameNodes.{tree_of}
use Rattle.state_theory.specs.Laws.Verifier.{node_at-is, node_at-none}
use Rattle.state_proofs_parts.proofs.grafting.hasher.GraftedHasher.position_of.Goals as goal

pub returns-then-position-leaf_position : goal.returns-then-position-leaf_position
returns-then-position-leaf_position g c =
    position-none g.F.Family.merge_rule c.args.self.now.grafting_height c.args.position
    (node_at-none g.F.Family.merge_rule g.met.F.Family.merges_equals c.args.position (omega (arith, c.leaf_position.ensures)))

pub position_over-requires : goal.position_over-requires
position_over-requires g c =
    let rule = g.F.Family.merge_rule in
    subst (λ k. IsSubtree rule k c.pos_to_height-height.result) (sym c.as_u64-chunk.ensures)
    (subtree-at rule c.new-node.result c.pos_to_height-height.result c.leftmost_leaf.result c.pos_to_height-height.ensures.there
    c.leftmost_leaf.ensures)

pub returns-in-Some : goal.returns-in-Some
returns-in-Some g c =
    let rule = g.F.Family.merge_rule in
    let there = c.pos_to_height-height.ensures.there in
    let high : ℕ = c.pos_to_height-height.result in
    let found = node_at-is rule g.met.F.Family.merges_equals there.2.0 c.new-node.result high (tree_of rule c.new-node.result high there) in
    let first : c.as_u64-chunk.result ≡ there.2.0 =
    c.as_u64-chunk.ensures ∙ c.leftmost_leaf.ensures there.0 there.2.0 there.2.1 there.1 there.2.2 there.2.3 there.2.4 in
    let level : ℕ = c.args.self.now.grafting_height in
    let at : node_at rule c.args.position ≡ Some (there.2.0, high) = ap (node_at rule) (sym c.new-node.ensures) ∙ found in
    position-some rule level c.args.position there.2.0 c.as_u64-chunk.result high c.in-Some.found at first c.in-Some.ensures

pub returns-in-None : goal.returns-in-None
returns-in-None g c =
    let rule = g.F.Family.merge_rule in
    let there = c.pos_to_height-height.ensures.there in
    let high : ℕ = c.pos_to_height-height.result in
    let found = node_at-is rule g.met.F.Family.merges_equals there.2.0 c.new-node.result high (tree_of rule c.new-node.result high there) in
    let first : c.as_u64-chunk.result ≡ there.2.0 =
    c.as_u64-chunk.ensures ∙ c.leftmost_leaf.ensures there.0 there.2.0 there.2.1 there.1 there.2.2 there.2.3 there.2.4 in
    let level : ℕ = c.args.self.now.grafting_height in
    let at : node_at rule c.args.position ≡ Some (there.2.0, high) = ap (node_at rule) (sym c.new-node.ensures) ∙ found in
    position-missing rule level c.args.position there.2.0 c.as_u64-chunk.result high at first c.in-None.ensures
