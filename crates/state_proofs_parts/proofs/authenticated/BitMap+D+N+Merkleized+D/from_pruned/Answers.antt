use Rattle.std.proofs.Common.{◌*◌, false, map, replicate, sym, ◌∙◌, ap, subst}
use Rattle.std.proofs.lemmas.List.{length-map}
use Rattle.merkle_core_parts.specs.Mem.{Nodes}
use Rattle.merkle_memory.specs.Begun.{pinned_hash}
use Rattle.state_theory.specs.Maps.{IsMapOf, merkleized}
use Rattle.state_theory.proofs.MapLemmas.{root_is}
use Rattle.state_theory.proofs.PartsLemmas.{parts_bits, parts_leaves, parts_full, parts_map}
use Rattle.state_theory.proofs.WidthLemmas.{wide-some}
use Rattle.state_proofs_parts.specs.Begun.{AreHashedAlike, pinned_leaf}
use Rattle.state_proofs_parts.proofs.Begun.{begun_alike, begun_map}
use Rattle.state_proofs_parts.proofs.authenticated.BitMap+D+N+Merkleized+D.from_pruned.Goals as goal

pub returns-clause-of_list : goal.returns-clause-of_list
returns-clause-of_list g c leaf_of node_of all long peaks =
    parts_map leaf_of node_of g.row.N (wide-some g.row.N c.requires) all
    c.args.chunks (map g.D.Write.encoding c.args.digests.now) long
    (length-map c.args.digests.now g.D.Write.encoding ∙ c.in_ok-tree.ensures.counted) peaks
    c.new_with_pruned_chunks-bits.result
    c.in_ok-tree.tree c.new_with_pruned_chunks-bits.ensures c.in_ok-tree.ensures.tree (g.D.Write.encoding c.root_over-root.result)

pub returns-clause-root_of_list : goal.returns-clause-root_of_list
returns-clause-root_of_list g c all long peaks =
    let leaf_of = g.H.Hasher.leaf_of c.args.hasher.now in
    let node_of = g.H.Hasher.node_of c.args.hasher.now in
    let some = wide-some g.row.N c.requires in
    let digests = map g.D.Write.encoding c.args.digests.now in
    let bits = c.new_with_pruned_chunks-bits.result in
    let tree = c.in_ok-tree.tree in
    let counted = length-map c.args.digests.now g.D.Write.encoding ∙ c.in_ok-tree.ensures.counted in
    let bits_are = parts_bits leaf_of node_of g.row.N some all c.args.chunks digests long counted peaks bits tree
    c.new_with_pruned_chunks-bits.ensures c.in_ok-tree.ensures.tree in
    let are = parts_leaves leaf_of node_of g.row.N some all c.args.chunks digests long counted peaks bits tree
    c.new_with_pruned_chunks-bits.ensures c.in_ok-tree.ensures.tree in
    let full = parts_full leaf_of node_of g.row.N some all c.args.chunks digests long counted peaks bits tree
    c.new_with_pruned_chunks-bits.ensures c.in_ok-tree.ensures.tree in
    ap merkleized (c.root_over-root.ensures.of_list node_of are.digests are.nodes
    ∙ root_is g.H.Hasher.hash_of leaf_of node_of (g.H.Hasher.bagging_of c.args.hasher.now) g.row.N all bits tree some bits_are full are)

pub returns-clause-begun : goal.returns-clause-begun
returns-clause-begun g c =
    let leaf_of = g.H.Hasher.leaf_of c.args.hasher.now in
    let node_of = g.H.Hasher.node_of c.args.hasher.now in
    let digests = map g.D.Write.encoding c.args.digests.now in
    let counted = length-map c.args.digests.now g.D.Write.encoding ∙ c.in_ok-tree.ensures.counted in
    let pinned = ap (λ (t : Nodes). t.pinned) c.in_ok-tree.ensures.tree in
    subst (λ us. IsMapOf (pinned_leaf us leaf_of) (pinned_hash us node_of) g.row.N
    (replicate (8 * g.row.N * c.args.chunks) false) (record {
      bits = c.new_with_pruned_chunks-bits.result;
      tree = c.in_ok-tree.tree;
      stage = merkleized (g.D.Write.encoding c.root_over-root.result);
    })) (sym pinned)
    (begun_map leaf_of node_of g.row.N (wide-some g.row.N c.requires) c.args.chunks digests counted
    c.new_with_pruned_chunks-bits.result c.in_ok-tree.tree (g.D.Write.encoding c.root_over-root.result)
    c.new_with_pruned_chunks-bits.ensures c.in_ok-tree.ensures.tree)

pub returns-clause-alike : goal.returns-clause-alike
returns-clause-alike g c =
    let leaf_of = g.H.Hasher.leaf_of c.args.hasher.now in
    let node_of = g.H.Hasher.node_of c.args.hasher.now in
    let digests = map g.D.Write.encoding c.args.digests.now in
    let counted = length-map c.args.digests.now g.D.Write.encoding ∙ c.in_ok-tree.ensures.counted in
    subst (λ us. AreHashedAlike c.args.chunks (pinned_leaf us leaf_of) (pinned_hash us node_of) leaf_of node_of)
    (sym (ap (λ (t : Nodes). t.pinned) c.in_ok-tree.ensures.tree))
    (begun_alike leaf_of node_of g.row.N (wide-some g.row.N c.requires) c.args.chunks digests counted)
