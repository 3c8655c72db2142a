use Rattle.std.proofs.Common.{◌≡◌, ℕ, ◌/◌, ◌^◌, inl, inr, sym, ◌∙◌, ap, arith}
use Rattle.merkle_forest.specs.Laws.Nodes.{node-low}
use Rattle.state_theory.specs.Verifier.{node_at, joined_chunk, given_chunk}
use Rattle.state_proofs_parts.specs.VerifierCode.{form_given_of}
use Rattle.state_theory.specs.Laws.SameNodes.{tree_of}
use Rattle.state_theory.specs.Laws.Verifier.{node_at-is, node_at-none, not_at_height, at_height_is, not_given, is_given}
use Rattle.state_proofs_parts.proofs.grafting.verifier.Verifier.chunk_joined_at.Goals as goal
use Rattle.state_proofs_parts.proofs.grafting.verifier.Verifier.chunk_joined_at.Goals.{then-index-self-via-then-index-self}
use Rattle.state_proofs_parts.proofs.grafting.verifier.Verifier.chunk_joined_at.Goals.{then-index-self-via-else-index-self+then-index-self-2}

pub returns-then-position-leaf_position : goal.returns-then-position-leaf_position
returns-then-position-leaf_position g c =
    ap (joined_chunk (form_given_of g.C.AsSlice.items c.args.self.now))
    (sym (node_at-none g.F.Family.merge_rule g.met.F.Family.merges_equals c.args.position (omega (arith, c.leaf_position.ensures))))

pub returns-then-height-self : goal.returns-then-height-self
returns-then-height-self g c =
    let there = c.pos_to_height-height.ensures.there in
    let found = node_at-is g.F.Family.merge_rule g.met.F.Family.merges_equals there.2.0 c.new-node.result c.pos_to_height-height.result
    (tree_of g.F.Family.merge_rule c.new-node.result c.pos_to_height-height.result there) in
    not_at_height (form_given_of g.C.AsSlice.items c.args.self.now) (node_at g.F.Family.merge_rule c.args.position) there.2.0 c.pos_to_height-height.result
    (ap (node_at g.F.Family.merge_rule) (sym c.new-node.ensures) ∙ found) (λ same. c.if-height-self.true same)

pub overflow_shr-index : goal.overflow_shr-index
overflow_shr-index g c =
    let there = c.pos_to_height-height.ensures.there in
    omega (
      arith,
      (node-low g.F.Family.merge_rule g.met.F.Family.merges_equals there.0 there.2.0 c.pos_to_height-height.result there.2.1 there.1
          there.2.2 there.2.4).1,
    )

pub returns-then-index-self : goal.returns-then-index-self
returns-then-index-self g c =
    let there = c.pos_to_height-height.ensures.there in
    let high : ℕ = c.pos_to_height-height.result in
    let found = node_at-is g.F.Family.merge_rule g.met.F.Family.merges_equals there.2.0 c.new-node.result high
    (tree_of g.F.Family.merge_rule c.new-node.result high there) in
    let first : c.leftmost_leaf.result ≡ there.2.0 =
    c.leftmost_leaf.ensures there.0 there.2.0 there.2.1 there.1 there.2.2 there.2.3 there.2.4 in
    let index : ℕ = c.as_u64.result / 2 ^ high in
    let is : joined_chunk (form_given_of g.C.AsSlice.items c.args.self.now) (node_at g.F.Family.merge_rule c.args.position)
    ≡ given_chunk (form_given_of g.C.AsSlice.items c.args.self.now) _ index =
    at_height_is (form_given_of g.C.AsSlice.items c.args.self.now) (node_at g.F.Family.merge_rule c.args.position) there.2.0 high index
    (ap (node_at g.F.Family.merge_rule) (sym c.new-node.ensures) ∙ found) c.if-height-self.false
    (ap (λ k. k / 2 ^ high) (c.as_u64.ensures ∙ first)) in
    not_given (form_given_of g.C.AsSlice.items c.args.self.now) index (elim c.then-index-self.branch [
      | then-index-self-via-then-index-self w ↦ inl (omega arith)
      | then-index-self-via-else-index-self+then-index-self-2 w ↦ inr (omega arith)
    ]) ∙ sym is

pub returns : goal.returns
returns g c =
    let there = c.pos_to_height-height.ensures.there in
    let high : ℕ = c.pos_to_height-height.result in
    let found = node_at-is g.F.Family.merge_rule g.met.F.Family.merges_equals there.2.0 c.new-node.result high
    (tree_of g.F.Family.merge_rule c.new-node.result high there) in
    let first : c.leftmost_leaf.result ≡ there.2.0 =
    c.leftmost_leaf.ensures there.0 there.2.0 there.2.1 there.1 there.2.2 there.2.3 there.2.4 in
    let index : ℕ = c.as_u64.result / 2 ^ high in
    let is : joined_chunk (form_given_of g.C.AsSlice.items c.args.self.now) (node_at g.F.Family.merge_rule c.args.position)
    ≡ given_chunk (form_given_of g.C.AsSlice.items c.args.self.now) _ index =
    at_height_is (form_given_of g.C.AsSlice.items c.args.self.now) (node_at g.F.Family.merge_rule c.args.position) there.2.0 high index
    (ap (node_at g.F.Family.merge_rule) (sym c.new-node.ensures) ∙ found) c.if-height-self.false
    (ap (λ k. k / 2 ^ high) (c.as_u64.ensures ∙ first)) in
    c.covering_chunk.ensures
    ∙ is_given (form_given_of g.C.AsSlice.items c.args.self.now) index (omega arith) (omega arith)
    ∙ sym is
