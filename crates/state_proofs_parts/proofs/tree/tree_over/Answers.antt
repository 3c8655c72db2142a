use Rattle.std.proofs.Common.{◌≡◌, ◌-◌, ◌≤◌, ℕ, inl, List, [], refl, sym, ◌∙◌, ap, ap₂, subst, arith}
use Rattle.std.specs.List.{AllByRecursion}
use Rattle.merkle_forest.specs.Forest.{mmr_rule}
use Rattle.merkle_forest.specs.Laws.Rules.{mmr_merges_equals}
use Rattle.merkle_core_parts.specs.Laws.Batches.{led-nodes}
use Rattle.merkle_core_parts.specs.Layers.{AreLed, oldest_leaves}
use Rattle.merkle_core_parts.specs.Mem.{Nodes, Additions, Layer, Replacement, AreNodesOf, base_of, own_layer, with_leaves, with_batch}
use Rattle.state_theory.proofs.CallLemmas.{applied_alone, batch_is, brought_batch, brought_leaves, updates_from}
use Rattle.state_theory.proofs.MapLemmas.{leaves-brought}
use Rattle.state_theory.specs.Maps.{full_count}
use Rattle.state_theory.specs.Laws.Refusals.{onto_memory}
use Rattle.state_theory.proofs.WidthLemmas.{wide-some}
use Rattle.state_proofs_parts.proofs.Begun.{at_alike, from_alike, kept_of_both}
use Rattle.state_proofs_parts.proofs.tree.tree_over.Goals as goal

pub out_of_memory-requires-in-Err-merkleize : goal.out_of_memory-requires-in-Err-merkleize
out_of_memory-requires-in-Err-merkleize g c =
    let leaf_of = g.H.Hasher.leaf_of c.args.hasher.now in
    let is = batch_is leaf_of g.row.N c.args.bits.now c.args.tree c.args.chunks.now c.as_u64-end.result c.complete_chunks.result c.in-Ok.batch
    c.in_ok-batch.batch c.in_ok-batch-2.batch c.in-Ok.ensures.batch c.in_ok-batch.ensures.added c.in_ok-batch-2.ensures.updated
    (c.as_u64-end.ensures ∙ c.leaves.ensures.leaves) c.complete_chunks.ensures.chunks in
    let leaves = ap (λ (b : Additions). b.base.leaves) is in
    let oldest = ap (λ (b : Additions). oldest_leaves b.base.leaves b.below) is in
    c.in-Err-merkleize.ensures.enough (omega (arith, oldest)) (omega (arith, leaves)) c.pruning_boundary-boundary.ensures.shape
    (subst (AllByRecursion (λ (one : Replacement). c.args.tree.boundary ≤ one.0)) (sym (ap (λ (b : Additions). b.updates) is))
    (updates_from leaf_of g.row.N c.args.bits.now c.args.tree.boundary c.args.tree.leaves c.args.chunks.now c.requires.pruned c.requires.leaves.1))

pub out_of_memory-requires-in-Err-apply_batch : goal.out_of_memory-requires-in-Err-apply_batch
out_of_memory-requires-in-Err-apply_batch g c =
    let leaf_of = g.H.Hasher.leaf_of c.args.hasher.now in
    let is = batch_is leaf_of g.row.N c.args.bits.now c.args.tree c.args.chunks.now c.as_u64-end.result c.complete_chunks.result c.in-Ok.batch
    c.in_ok-batch.batch c.in_ok-batch-2.batch c.in-Ok.ensures.batch c.in_ok-batch.ensures.added c.in_ok-batch-2.ensures.updated
    (c.as_u64-end.ensures ∙ c.leaves.ensures.leaves) c.complete_chunks.ensures.chunks in
    let base = c.in-Ok-merkleize.ensures.base ∙ ap (λ (b : Additions). b.base) is in
    onto_memory c.in-Ok-merkleize.batch (base_of mmr_rule c.args.tree) c.in-Err-apply_batch.e base c.in-Err-apply_batch.ensures.refused

pub returns-clause-leaves : goal.returns-clause-leaves
returns-clause-leaves g c =
    let leaf_of = g.H.Hasher.leaf_of c.args.hasher.now in
    let is = batch_is leaf_of g.row.N c.args.bits.now c.args.tree c.args.chunks.now c.as_u64-end.result c.complete_chunks.result c.in-Ok.batch
    c.in_ok-batch.batch c.in_ok-batch-2.batch c.in-Ok.ensures.batch c.in_ok-batch.ensures.added c.in_ok-batch-2.ensures.updated
    (c.as_u64-end.ensures ∙ c.leaves.ensures.leaves) c.complete_chunks.ensures.chunks in
    let base = c.in-Ok-merkleize.ensures.base ∙ ap (λ (b : Additions). b.base) is in
    let alone = applied_alone leaf_of g.row.N c.args.bits.now c.args.tree c.apply_batch.new.self c.in-Ok-merkleize.batch
    c.in_default.ensures.applied.0 base c.in_default.ensures.applied.1 c.in_default.ensures.applied.2 in
    ap (λ (t : Nodes). t.leaves) alone ∙ c.in-Ok-merkleize.ensures.leaves
    ∙ brought_leaves leaf_of g.row.N c.args.bits.now c.args.tree c.args.chunks.now c.in_ok-batch-2.batch is c.requires.leaves.0

pub returns-clause-of_begun : goal.returns-clause-of_begun
returns-clause-of_begun g c leaf_of node_of all alike bits_are are =
    let other = g.H.Hasher.leaf_of c.args.hasher.now in
    let bits = c.args.bits.now in
    let own = batch_is other g.row.N c.args.bits.now c.args.tree c.args.chunks.now c.as_u64-end.result c.complete_chunks.result c.in-Ok.batch
    c.in_ok-batch.batch c.in_ok-batch-2.batch c.in-Ok.ensures.batch c.in_ok-batch.ensures.added c.in_ok-batch-2.ensures.updated
    (c.as_u64-end.ensures ∙ c.leaves.ensures.leaves) c.complete_chunks.ensures.chunks in
    let kept : bits.pruned ≤ c.args.tree.leaves = omega (arith, c.requires.pruned, are.nodes.shape.within) in
    let all_kept = kept_of_both bits.pruned c.args.tree.leaves c.args.chunks.now c.requires.leaves.1 in
    let is : c.in_ok-batch-2.batch ≡ brought_batch leaf_of g.row.N bits c.args.tree c.args.chunks.now =
    own ∙ ap₂ (λ (ds : List (List ℕ)) (us : List Replacement).
    record (brought_batch leaf_of g.row.N bits c.args.tree c.args.chunks.now) { added = ds; updates = us })
    (from_alike leaf_of other node_of (g.H.Hasher.node_of c.args.hasher.now) g.row.N bits alike c.args.tree.leaves
    (full_count g.row.N bits - c.args.tree.leaves) kept)
    (at_alike leaf_of other node_of (g.H.Hasher.node_of c.args.hasher.now) g.row.N bits alike c.args.chunks.now all_kept) in
    let base = c.in-Ok-merkleize.ensures.base ∙ ap (λ (b : Additions). b.base) is in
    let alone = applied_alone leaf_of g.row.N c.args.bits.now c.args.tree c.apply_batch.new.self c.in-Ok-merkleize.batch
    c.in_default.ensures.applied.0 base c.in_default.ensures.applied.1 c.in_default.ensures.applied.2 in
    let late : AllByRecursion (λ (one : Replacement). bits.pruned ≤ one.0) c.in_ok-batch-2.batch.updates =
    subst (AllByRecursion (λ (one : Replacement). bits.pruned ≤ one.0)) (sym (ap (λ (b : Additions). b.updates) is))
    (updates_from leaf_of g.row.N bits bits.pruned c.args.tree.leaves c.args.chunks.now refl c.requires.leaves.1) in
    let leaves = ap (λ (b : Additions). b.base.leaves) is in
    let led = c.in-Ok-merkleize.ensures.of_begun bits.pruned node_of are.digests [] alike.branches
    (omega (arith, kept, leaves), late)
    (record {
      counted = leaves ∙ are.nodes.counted;
      led = subst (λ (ls : List Layer). AreLed node_of mmr_rule ls [] are.digests)
          (sym (ap (λ (b : Additions). b.below) is)) tt;
      tree = inl are.nodes;
    }) in
    let made : AreNodesOf node_of mmr_rule (with_leaves are.digests c.in_ok-batch-2.batch)
    (with_batch mmr_rule c.args.tree c.in-Ok-merkleize.batch) =
    led-nodes mmr_rule mmr_merges_equals node_of (own_layer c.in-Ok-merkleize.batch) are.digests
    (with_leaves are.digests c.in_ok-batch-2.batch) c.args.tree led.0 are.nodes in
    let after = subst (AreNodesOf node_of mmr_rule (with_leaves are.digests c.in_ok-batch-2.batch)) (sym alone) made in
    leaves-brought leaf_of node_of g.row.N all c.args.bits.now c.args.tree c.apply_batch.new.self c.args.chunks.now
    (wide-some g.row.N c.requires.wide) bits_are c.requires.pruned c.requires.leaves are
    (subst (λ (b : Additions). AreNodesOf node_of mmr_rule (with_leaves are.digests b) c.apply_batch.new.self) is after)

pub returns-clause-of_list : goal.returns-clause-of_list
returns-clause-of_list g c all bits_are are =
    returns-clause-of_begun g c (g.H.Hasher.leaf_of c.args.hasher.now) (g.H.Hasher.node_of c.args.hasher.now) all
    (record { leaves = λ p element past. refl; branches = λ p left right past. refl }) bits_are are
