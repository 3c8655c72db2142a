use Rattle.std.proofs.Common.{◌≡◌, ◌+◌, ◌-◌, ◌*◌, ◌/◌, ◌<◌, ◌≤◌}
use Rattle.std.proofs.Common.{◌^◌, ◌++◌, [], ℕ, length, false, sym, ◌∙◌, ap, ap₂, subst, arith}
use Rattle.std.specs.Prelude.{IfOk}
use Rattle.std.specs.List.{AllByRecursion}
use Rattle.merkle_forest.specs.Forest.{forest_of}
use Rattle.merkle_forest.specs.Nodes.{nodes_of_height}
use Rattle.merkle_core_parts.specs.Mem.{Additions, AreNodesOf, Growth, Replacement, base_of, replaced, with_batch, with_leaves}
use Rattle.state_theory.specs.GraftedNodes.{chunks_node}
use Rattle.state_current.specs.ChunkLeaves.{IsReady, chunk_leaf, leaves_from, leaves_over}
use Rattle.state_current.proofs.GrownLemmas.{all_mapped, all_right, nodes_few}
use Rattle.state_current.proofs.TreeLemmas.{length-leaves_from, ok_count, ok_nodes}
use Rattle.state_current.proofs.trees.chunks_over.Goals as goal

pub add_leaves-requires : goal.add_leaves-requires
add_leaves-requires g c =
    let first = c.as_u64-first.ensures ∙ c.leaves.ensures.leaves in
    let end = c.graftable_chunks-end.ensures ∙ ap (λ n. nodes_of_height c.args.size.grafting_height (forest_of g.F.Family.merge_rule n))
    c.leaves-2.ensures.leaves in
    let le : c.as_u64-first.result ≤ c.graftable_chunks-end.result = omega (arith, first, end, c.requires.more) in
    let rule = g.F.Family.merge_rule in
    let n = c.args.tree.now.after.leaves in
    let level = c.args.size.grafting_height in
    let few : n ≤ 2 ^ 62 = omega (arith, c.leaves-2.ensures.leaves, c.leaves-2.ensures.few) in
    let count = nodes_few rule g.met.F.Family.merges_equals n level
    (λ chunk lt. (g.met.F.Graftable.chunks_counted n chunk level few c.args.size.some c.args.size.low).1 lt) in
    let base : c.in_ok-new_batch.field-0.base.leaves ≡ c.args.chunks.now.leaves = ap (λ (b : Additions). b.base.leaves) c.in_ok-new_batch.ensures.batch in (
      omega arith,
      (
        c.args.size.low,
        (
          ap (λ (b : Additions). b.added) c.in_ok-new_batch.ensures.batch,
          (
            le,
            (
              omega (arith, base, first, end, count, few, le),
              λ chunk ge lt. c.requires.new chunk (omega (arith, ge, first)) (omega (arith, lt, end)),
            ),
          ),
        ),
      ),
    )

pub update_leaves-requires : goal.update_leaves-requires
update_leaves-requires g c =
    let first = c.as_u64-first.ensures ∙ c.leaves.ensures.leaves in
    let wide : 8 * g.row.N ≡ 2 ^ c.args.size.grafting_height = ap (λ w. 8 * w) (sym c.requires.width) ∙ c.args.size.whole in
    let none : c.in_ok-batch.batch.updates ≡ [] =
    ap (λ (b : Additions). b.updates) c.in_ok-batch.ensures.added ∙ ap (λ (b : Additions). b.updates) c.in_ok-new_batch.ensures.batch in
    let base : c.in_ok-batch.batch.base.leaves ≡ c.args.chunks.now.leaves =
    ap (λ (b : Additions). b.base.leaves) c.in_ok-batch.ensures.added ∙ ap (λ (b : Additions). b.base.leaves) c.in_ok-new_batch.ensures.batch in
    let boundary : c.in_ok-batch.batch.boundary ≡ c.args.chunks.now.boundary =
    ap (λ (b : Additions). b.boundary) c.in_ok-batch.ensures.added ∙ ap (λ (b : Additions). b.boundary) c.in_ok-new_batch.ensures.batch in (
      omega arith,
      (
        c.args.size.low,
        (
          (c.args.size.grafting_height, wide, c.args.size.low),
          (
            none,
            (
              omega (arith, boundary, c.requires.pruned),
              (
                omega (arith, base, first),
                subst (λ k. AllByRecursion (λ at. at / (8 * g.row.N) < k
                    → IsReady g.F.Family.merge_rule g.row.N c.args.size.grafting_height c.args.tree.now.after c.args.bits.now.after
                    (at / (8 * g.row.N))) c.args.places.now) (sym first)
                    c.requires.old,
              ),
            ),
          ),
        ),
      ),
    )

pub made_over-requires-clause-kept : goal.made_over-requires-clause-kept
made_over-requires-clause-kept g c =
    let rule = g.F.Family.merge_rule in
    let level = c.args.size.grafting_height in
    let first = c.as_u64-first.ensures ∙ c.leaves.ensures.leaves in
    let leaf = chunk_leaf rule g.F.Graftable.root_of g.H.HashFunction.hash_of g.row.N level c.args.tree.now.after c.args.bits.now.after in
    let Kept : ℕ → Type 0 = λ i. c.args.chunks.now.boundary ≤ i in
    let none : c.in_ok-batch.batch.updates ≡ [] =
    ap (λ (b : Additions). b.updates) c.in_ok-batch.ensures.added ∙ ap (λ (b : Additions). b.updates) c.in_ok-new_batch.ensures.batch in
    let updates : c.in_ok-batch-2.batch.updates ≡ leaves_over leaf (8 * g.row.N) c.as_u64-first.result c.args.places.now =
    ap (λ (b : Additions). b.updates) c.in_ok-batch-2.ensures.updated in
    subst (AllByRecursion (λ (one : Replacement). Kept one.0)) (sym updates)
    (all_right (λ i d. Kept i) leaf (8 * g.row.N) c.as_u64-first.result c.args.places.now
    (all_mapped (λ at. at / (8 * g.row.N) < c.args.chunks.now.leaves → IsReady rule g.row.N level
    c.args.tree.now.after c.args.bits.now.after (at / (8 * g.row.N)))
    (λ at. at / (8 * g.row.N) < c.as_u64-first.result → Kept (at / (8 * g.row.N)))
    (λ at ready lt. (let is_ready = ready (omega (arith, lt, first)) in omega (arith, c.requires.pruned, is_ready.kept))) c.args.places.now c.requires.old))

pub returns-clause-leaves : goal.returns-clause-leaves
returns-clause-leaves g c =
    let leaf = chunk_leaf g.F.Family.merge_rule g.F.Graftable.root_of g.H.HashFunction.hash_of g.row.N c.args.size.grafting_height
    c.args.tree.now.after c.args.bits.now.after in
    let first = c.as_u64-first.ensures ∙ c.leaves.ensures.leaves in
    let end = c.graftable_chunks-end.ensures ∙ ap (λ n. nodes_of_height c.args.size.grafting_height (forest_of g.F.Family.merge_rule n))
    c.leaves-2.ensures.leaves in
    let added : c.in_ok-batch-2.batch.added ≡ leaves_from leaf c.as_u64-first.result (c.graftable_chunks-end.result - c.as_u64-first.result) =
    ap (λ (b : Additions). b.added) c.in_ok-batch-2.ensures.updated ∙ ap (λ (b : Additions). b.added) c.in_ok-batch.ensures.added in
    let many = length-leaves_from leaf c.as_u64-first.result (c.graftable_chunks-end.result - c.as_u64-first.result) in
    ok_count (λ (made : Growth). made.leaves) c.made_over.result (c.args.chunks.now.leaves + length c.in_ok-batch-2.batch.added)
    (nodes_of_height c.args.size.grafting_height (forest_of g.F.Family.merge_rule c.args.tree.now.after.leaves))
    (omega (arith, ap length added, many, first, end, c.requires.more)) c.made_over.ensures.leaves

pub returns-clause-of_list : goal.returns-clause-of_list
returns-clause-of_list g c leaf_digests are =
    let rule = g.F.Family.merge_rule in
    let leaf = chunk_leaf rule g.F.Graftable.root_of g.H.HashFunction.hash_of g.row.N c.args.size.grafting_height c.args.tree.now.after c.args.bits.now.after in
    let first = c.as_u64-first.ensures ∙ c.leaves.ensures.leaves in
    let end = c.graftable_chunks-end.ensures ∙ ap (λ n. nodes_of_height c.args.size.grafting_height (forest_of rule n)) c.leaves-2.ensures.leaves in
    let count = nodes_of_height c.args.size.grafting_height (forest_of rule c.args.tree.now.after.leaves) in
    let k = c.args.chunks.now.leaves in
    let batch_is : c.in_ok-batch-2.batch ≡ record {
      base = base_of rule c.args.chunks.now;
      boundary = c.args.chunks.now.boundary;
      added = leaves_from leaf k (count - k);
      updates = leaves_over leaf (8 * g.row.N) k c.args.places.now;
      below = [];
      dropped = false;
    } =
    c.in_ok-batch-2.ensures.updated
    ∙ ap (λ (b : Additions). record b { updates = leaves_over leaf (8 * g.row.N) c.as_u64-first.result c.args.places.now }) c.in_ok-batch.ensures.added
    ∙ ap (λ (b : Additions). record b {
      added = leaves_from leaf c.as_u64-first.result (c.graftable_chunks-end.result - c.as_u64-first.result);
      updates = leaves_over leaf (8 * g.row.N) c.as_u64-first.result c.args.places.now;
    }) c.in_ok-new_batch.ensures.batch
    ∙ ap₂ (λ (f e : ℕ). record {
      base = base_of rule c.args.chunks.now;
      boundary = c.args.chunks.now.boundary;
      added = leaves_from leaf f (e - f);
      updates = leaves_over leaf (8 * g.row.N) f c.args.places.now;
      below = [];
      dropped = false;
    }) first end in
    ok_nodes (with_batch rule c.args.chunks.now) c.made_over.result (chunks_node g.H.HashFunction.hash_of rule c.args.size.grafting_height) rule
    (with_leaves leaf_digests c.in_ok-batch-2.batch)
    (replaced (leaf_digests ++ leaves_from leaf k (count - k)) (leaves_over leaf (8 * g.row.N) k c.args.places.now))
    (ap (with_leaves leaf_digests) batch_is)
    (subst (λ (h : ℕ). AreNodesOf (chunks_node g.H.HashFunction.hash_of rule h) rule leaf_digests c.args.chunks.now
    → IfOk c.made_over.result (λ made. AreNodesOf (chunks_node g.H.HashFunction.hash_of rule h) rule
    (with_leaves leaf_digests c.in_ok-batch-2.batch) (with_batch rule c.args.chunks.now made)))
    c.new-hasher.ensures.height (c.made_over.ensures.of_list leaf_digests) are)
