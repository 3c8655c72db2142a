use Rattle.std.proofs.Common.{sym, ◌∙◌, ap, subst}
use Rattle.state_theory.specs.Maps.{Map, IsMapOf, AreLeavesOf, changed, merkleized}
use Rattle.state_theory.proofs.MapLemmas.{root_is}
use Rattle.state_theory.proofs.WidthLemmas.{wide-some}
use Rattle.state_proofs_parts.specs.Begun.{AreHashedAlike}
use Rattle.state_proofs_parts.proofs.authenticated.BitMap+D+N+Unmerkleized.merkleize.Goals as goal

pub returns-clause-root_of_list : goal.returns-clause-root_of_list
returns-clause-root_of_list g c all of =
    let here = subst (IsMapOf (g.H.Hasher.leaf_of c.args.hasher.now) (g.H.Hasher.node_of c.args.hasher.now) g.row.N all) (sym c.self.view_is) of in
    let are = c.in_ok-tree.ensures.of_list all here.bits (subst (λ ns. AreLeavesOf (g.H.Hasher.leaf_of c.args.hasher.now)
    (g.H.Hasher.node_of c.args.hasher.now) g.row.N all c.self.inside.tree ns)
    (sym (c.deref.ensures.value ∙ c.in_ok-chunks.ensures)) here.leaves) in
    ap merkleized (c.root_over-root.ensures.of_list (g.H.Hasher.node_of c.args.hasher.now) are.digests are.nodes
    ∙ root_is g.H.Hasher.hash_of (g.H.Hasher.leaf_of c.args.hasher.now) (g.H.Hasher.node_of c.args.hasher.now)
    (g.H.Hasher.bagging_of c.args.hasher.now) g.row.N all c.self.inside.bits c.in_ok-tree.tree (wide-some g.row.N c.self.invariant.wide)
    here.bits c.in_ok-tree.ensures.leaves are)

pub returns-clause-of_begun : goal.returns-clause-of_begun
returns-clause-of_begun g c leaf_of node_of all alike of =
    let here : IsMapOf leaf_of node_of g.row.N all (record {
      bits = c.self.inside.bits;
      tree = c.self.inside.tree;
      stage = changed c.self.inside.state.chunks.keys;
    }) = subst (IsMapOf leaf_of node_of g.row.N all) (sym c.self.view_is) of in
    let pruned = ap (λ (m : Map). m.bits.pruned) c.self.view_is in
    let are = c.in_ok-tree.ensures.of_begun leaf_of node_of all
    (subst (λ n. AreHashedAlike n leaf_of node_of (g.H.Hasher.leaf_of c.args.hasher.now) (g.H.Hasher.node_of c.args.hasher.now))
    (sym pruned) alike) here.bits
    (subst (λ ns. AreLeavesOf leaf_of node_of g.row.N all c.self.inside.tree ns)
    (sym (c.deref.ensures.value ∙ c.in_ok-chunks.ensures)) here.leaves) in (
      record { bits = here.bits; leaves = are },
      ap merkleized (c.root_over-root.ensures.of_list node_of are.digests are.nodes
          ∙ root_is g.H.Hasher.hash_of leaf_of node_of (g.H.Hasher.bagging_of c.args.hasher.now) g.row.N all c.self.inside.bits c.in_ok-tree.tree
          (wide-some g.row.N c.self.invariant.wide) here.bits c.in_ok-tree.ensures.leaves are),
    )
