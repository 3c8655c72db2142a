use Rattle.std.proofs.Common.{[], List, inl, sym, ◌∙◌, ap, subst}
use Rattle.merkle_core_parts.specs.Laws.Batches.{led-nodes}
use Rattle.merkle_core_parts.specs.Layers.{AreLed}
use Rattle.merkle_core_parts.specs.Mem.{Base, Layer, own_layer, with_leaves}
use Rattle.state_current.proofs.trees.made_over.Goals as goal

pub returns-clause-of_list : goal.returns-clause-of_list
returns-clause-of_list g c leaf_digests are =
    let rule = g.F.Family.merge_rule in
    let node = g.H.Hasher.node_of c.args.hasher.now in
    let led = c.in_ok-made.ensures.of_list leaf_digests [] (ap (λ (b : Base). b.leaves) c.requires.base ∙ are.counted)
    (subst (λ (ls : List Layer). AreLed node rule ls [] leaf_digests) (sym c.requires.alone) tt) (inl are) in
    led-nodes rule g.met.F.Family.merges_equals node (own_layer c.in_ok-made.made) leaf_digests
    (with_leaves leaf_digests c.args.batch) c.args.tree.now led.0 are
