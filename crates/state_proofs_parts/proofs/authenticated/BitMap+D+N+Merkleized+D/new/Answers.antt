use Rattle.std.proofs.Common.{[], sym, ◌∙◌, ap, subst}
use Rattle.merkle_core_parts.specs.Mem.{Nodes}
use Rattle.state_theory.specs.Bits.{AreBitsOf}
use Rattle.state_theory.specs.Maps.{AreLeavesOf, full_count}
use Rattle.state_theory.proofs.CallLemmas.{bits_none, leaves_none, full_none, map_none}
use Rattle.state_theory.proofs.MapLemmas.{root_is}
use Rattle.state_theory.proofs.WidthLemmas.{wide-some}
use Rattle.state_proofs_parts.proofs.authenticated.BitMap+D+N+Merkleized+D.new.Goals as goal

pub returns-clause-map : goal.returns-clause-map
returns-clause-map g c =
    let leaf_of = g.H.Hasher.leaf_of c.args.hasher.now in
    let node_of = g.H.Hasher.node_of c.args.hasher.now in
    let some = wide-some g.row.N c.requires in
    let bits_are = subst (AreBitsOf g.row.N []) (sym c.new-bits.ensures) (bits_none g.row.N) in
    let are = subst (λ (t : Nodes). AreLeavesOf leaf_of node_of g.row.N [] t []) (sym c.new-tree.ensures) (leaves_none leaf_of node_of g.row.N) in
    map_none c.new-bits.result c.new-tree.result (g.D.Write.encoding c.root_over-root.result) _ c.new-bits.ensures c.new-tree.ensures
    (c.root_over-root.ensures.of_list node_of are.digests are.nodes
    ∙ root_is g.H.Hasher.hash_of leaf_of node_of (g.H.Hasher.bagging_of c.args.hasher.now) g.row.N [] c.new-bits.result c.new-tree.result some bits_are
    (ap (λ (t : Nodes). t.leaves) c.new-tree.ensures ∙ full_none g.row.N some ∙ sym (ap (full_count g.row.N) c.new-bits.ensures)) are)

pub returns-clause-of_list : goal.returns-clause-of_list
returns-clause-of_list g c =
    let leaf_of = g.H.Hasher.leaf_of c.args.hasher.now in
    let node_of = g.H.Hasher.node_of c.args.hasher.now in
    record {
      bits = subst (AreBitsOf g.row.N []) (sym c.new-bits.ensures) (bits_none g.row.N);
      leaves = subst (λ (t : Nodes). AreLeavesOf leaf_of node_of g.row.N [] t []) (sym c.new-tree.ensures) (leaves_none leaf_of node_of g.row.N);
    }
