use Rattle.std.proofs.Common.{◌≡◌, ◌*◌, ◌^◌, ◌%◌, ℕ, inl, false, true, None, sym, ◌∙◌, ap, subst, arith}
use Rattle.std.specs.Prelude.{IsSome, option_map}
use Rattle.std.proofs.lemmas.Nat.{one_shl}
use Rattle.merkle_forest.specs.Forest.{position}
use Rattle.merkle_forest.specs.Laws.NodeGrowth.{numbered}
use Rattle.merkle_forest.specs.Laws.Nodes.{node-leaves}
use Rattle.merkle_core_parts.specs.Laws.Held.{kept-there}
use Rattle.merkle_core_parts.specs.Mem.{node_at}
use Rattle.state_current.proofs.ReadLemmas.{after_boundary}
use Rattle.state_current.proofs.trees.leaf_of_chunk.Goals as goal

pub overflow_mul-chunk : goal.overflow_mul-chunk
overflow_mul-chunk g c =
    let it = c.requires.ready.node in
    let shift : 1 * 2 ^ c.args.height % 2 ^ 64 ≡ 2 ^ c.args.height = one_shl c.args.height 64 (omega (arith, c.requires.low)) in
    let fits = (node-leaves g.F.Family.merge_rule g.met.F.Family.merges_equals c.args.tree.now.after.leaves (c.args.chunk * 2 ^ c.args.height) it.0 it.1).1 in
    let same : c.args.chunk * (1 * 2 ^ c.args.height % 2 ^ 64) ≡ c.args.chunk * 2 ^ c.args.height = ap (λ k. c.args.chunk * k) shift in
    omega (arith, same, fits, c.leaves-leaves.ensures.few, c.leaves-leaves.ensures.leaves)

pub unreachable-requires : goal.unreachable-requires
unreachable-requires g c =
    let rule = g.F.Family.merge_rule in
    let pairs = g.met.F.Family.merges_equals in
    let it = c.requires.ready.node in
    let first : ℕ = c.args.chunk * 2 ^ c.args.height in
    let shift : 1 * 2 ^ c.args.height % 2 ^ 64 ≡ 2 ^ c.args.height = one_shl c.args.height 64 (omega (arith, c.requires.low)) in
    let at : c.new.result ≡ position it.0 =
    c.new.ensures ∙ c.subtree_root-position.ensures ∙ ap (λ k. g.F.Graftable.root_of (c.args.chunk * k) c.args.height) shift
    ∙ ap (g.F.Graftable.root_of first) it.2 ∙ sym (g.met.F.Graftable.roots c.args.tree.now.after.leaves first it.0 it.1) in
    let some : IsSome (node_at rule c.args.tree.now.after (position it.0)) =
    kept-there rule c.args.tree.now.after (position it.0) c.pruning_boundary-boundary.ensures.shape
    (inl (after_boundary rule pairs c.args.tree.now.after.boundary c.args.tree.now.after.leaves first it.0 c.requires.ready.there it.1))
    ((numbered rule pairs c.args.tree.now.after.leaves).below first it.0 it.1) in
    let none : node_at rule c.args.tree.now.after (position it.0) ≡ None =
    ap (node_at rule c.args.tree.now.after) (sym at) ∙ sym c.get_node.ensures ∙ ap (option_map g.H.Digest.Write.encoding) c.in-None.is in
    let e : false ≡ true = subst (λ o. IsSome o) none some in
    cc
