use Rattle.std.proofs.Common.{◌≡◌, ℕ, Some, sym, ◌∙◌, ap, arith}
use Rattle.state_theory.specs.GraftedNodes.{TwoTrees}
use Rattle.state_theory.specs.SameNodes.{IsSameNode}
use Rattle.state_theory.specs.Verifier.{node_at}
use Rattle.state_theory.specs.Laws.GraftedReads.{read-none, read-low, read-same, high_is, stands_there, tree_there}
use Rattle.state_theory.specs.Laws.SameNodes.{tree_of}
use Rattle.state_theory.specs.Laws.Verifier.{node_at-is, node_at-none}
use Rattle.state_proofs_parts.proofs.grafting.storage.StorageReadable.node_digest.Goals as goal

pub returns-then-position-leaf_position : goal.returns-then-position-leaf_position
returns-then-position-leaf_position g c =
    let trees : TwoTrees = record {
      grafting_height = c.args.self.now.hasher.grafting_height;
      operations = g.S.Readable.digest_at c.args.self.now.ops_tree.now;
      chunks = g.G.Readable.digest_at c.args.self.now.grafted_tree.now;
    } in
    read-none g.F.Family.merge_rule g.H.HashFunction.hash_of trees c.args.position
    (node_at-none g.F.Family.merge_rule g.met.F.Family.merges_equals c.args.position (omega (arith, c.leaf_position.ensures)))

pub returns-then-height-grafting_height : goal.returns-then-height-grafting_height
returns-then-height-grafting_height g c =
    let rule = g.F.Family.merge_rule in
    let trees : TwoTrees = record {
      grafting_height = c.args.self.now.hasher.grafting_height;
      operations = g.S.Readable.digest_at c.args.self.now.ops_tree.now;
      chunks = g.G.Readable.digest_at c.args.self.now.grafted_tree.now;
    } in
    let there = c.pos_to_height-height.ensures.there in
    let high : ℕ = c.pos_to_height-height.result in
    let found = node_at-is rule g.met.F.Family.merges_equals there.2.0 c.new-node.result high (tree_of rule c.new-node.result high there) in
    let at : node_at rule c.args.position ≡ Some (there.2.0, high) = ap (node_at rule) (sym c.new-node.ensures) ∙ found in
    read-low rule g.H.HashFunction.hash_of trees c.args.position there.2.0 high _ at
    (omega (arith, c.grafting_height-grafting_height.ensures)) c.node_digest.ensures

pub ops_to_grafted_pos-grafted-requires-clause-high : goal.ops_to_grafted_pos-grafted-requires-clause-high
ops_to_grafted_pos-grafted-requires-clause-high g c = λ height there.
    let same : height ≡ c.pos_to_height-height.result =
    high_is g.F.Family.merge_rule c.new-node.result height c.pos_to_height-height.result there c.pos_to_height-height.ensures.all in
    omega (arith, same)

pub reconstruct_grafted_node-requires : goal.reconstruct_grafted_node-requires
reconstruct_grafted_node-requires g c =
    stands_there g.F.Family.merge_rule c.grafting_height-grafting_height.result c.new-node.result c.ops_to_grafted_pos-grafted.result
    c.pos_to_height-height.result c.pos_to_height-height.ensures.all c.ops_to_grafted_pos-grafted.ensures

pub returns : goal.returns
returns g c =
    let rule = g.F.Family.merge_rule in
    let trees : TwoTrees = record {
      grafting_height = c.args.self.now.hasher.grafting_height;
      operations = g.S.Readable.digest_at c.args.self.now.ops_tree.now;
      chunks = g.G.Readable.digest_at c.args.self.now.grafted_tree.now;
    } in
    let high : ℕ = c.pos_to_height-height.result in
    let level : ℕ = c.grafting_height-grafting_height.result in
    let grafted : ℕ = c.ops_to_grafted_pos-grafted.result in
    let it : IsSameNode rule level c.new-node.result grafted = c.ops_to_grafted_pos-grafted.ensures in
    let tree = tree_there rule level c.new-node.result grafted high c.pos_to_height-height.ensures.all it in
    read-same rule g.F.Graftable.root_of g.met.F.Family.merges_equals g.met.F.Graftable.roots g.H.HashFunction.hash_of trees level
    c.args.position c.new-node.result grafted c.grafting_height-grafting_height.ensures c.new-node.ensures it _
    (c.reconstruct_grafted_node.ensures it.chunk it.over_chunks.0 tree)
