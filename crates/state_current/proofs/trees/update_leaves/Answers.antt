use Rattle.std.proofs.Common.{◌≡◌, ◌+◌, ◌*◌, ◌/◌, ◌<◌, ◌++◌}
use Rattle.std.proofs.Common.{◌∷◌, [], ℕ, length, get_or, take, sym, ◌∙◌, ap, subst, arith}
use Rattle.std.specs.Prelude.{IfErr}
use Rattle.std.proofs.lemmas.List.{take_all, take_more}
use Rattle.std.proofs.lemmas.Result.{err_from_is_err_and}
use Rattle.merkle_core_parts.specs.Mem.{Additions}
use Rattle.merkle_core_parts.specs.declared.error.Error.TheVariants.{Memory}
use Rattle.state_theory.specs.Laws.Refusals.{at_memory}
use Rattle.state_current.specs.ChunkLeaves.{IsReady, chunk_leaf, leaves_over}
use Rattle.state_current.proofs.TreeLemmas.{all_at, place_updated, place_passed}
use Rattle.state_current.proofs.trees.update_leaves.Goals as goal
use Rattle.state_current.proofs.trees.update_leaves.Goals.{then-chunk-count+in_ok-batch, else-chunk-count}

pub loop-place-init : goal.loop-place-init
loop-place-init g c = ap (λ us. record c.args.batch { updates = us }) c.requires.none

pub loop-place-preserved : goal.loop-place-preserved
loop-place-preserved g c =
    let leaf = chunk_leaf g.F.Family.merge_rule g.F.Graftable.root_of g.H.HashFunction.hash_of g.row.N
    c.args.height c.args.tree.now.after c.args.bits.now.after in
    let i = c.loop-place.place-index in
    let at = get_or c.args.places.now i 0 in
    let size = c.chunk_size_bits-size.ensures.bits in
    let chunk : at / c.chunk_size_bits-size.result ≡ at / (8 * g.row.N) = ap (λ k. at / k) size in
    elim c.if-chunk-count.branch [
      | then-chunk-count+in_ok-batch w ↦
          place_updated leaf (8 * g.row.N) c.args.count c.args.batch c.loop-place.batch c.if-chunk-count.batch (take i c.args.places.now) at
          (at / c.chunk_size_bits-size.result) (g.H.Digest.Write.encoding w.leaf_of_chunk-digest.result) c.loop-place.invariant chunk
          w.if-chunk-count.true w.leaf_of_chunk-digest.ensures
          (w.batch-is ∙ w.in_ok-batch.ensures.updated ∙ ap (λ (k : ℕ). record c.loop-place.batch {
            updates = c.loop-place.batch.updates ++ (k, g.H.Digest.Write.encoding w.leaf_of_chunk-digest.result) ∷ [];
          }) w.new.ensures)
          ∙ ap (λ ps. record c.args.batch { updates = leaves_over leaf (8 * g.row.N) c.args.count ps })
          (sym (take_more c.args.places.now i 0 c.loop-place-test.true))
      | else-chunk-count w ↦
          place_passed leaf (8 * g.row.N) c.args.count c.args.batch c.loop-place.batch c.if-chunk-count.batch (take i c.args.places.now) at
          (at / c.chunk_size_bits-size.result) c.loop-place.invariant chunk w.if-chunk-count.false w.batch-is
          ∙ ap (λ ps. record c.args.batch { updates = leaves_over leaf (8 * g.row.N) c.args.count ps })
          (sym (take_more c.args.places.now i 0 c.loop-place-test.true))
    ]

pub returns-clause-updated : goal.returns-clause-updated
returns-clause-updated g c =
    let leaf = chunk_leaf g.F.Family.merge_rule g.F.Graftable.root_of g.H.HashFunction.hash_of g.row.N
    c.args.height c.args.tree.now.after c.args.bits.now.after in
    c.loop-place.invariant
    ∙ ap (λ ps. record c.args.batch { updates = leaves_over leaf (8 * g.row.N) c.args.count ps })
    (take_all c.loop-place.place-index c.args.places.now (omega arith))

pub returns-in_err-batch-clause-refused : goal.returns-in_err-batch-clause-refused
returns-in_err-batch-clause-refused g c =
    let rule = g.F.Family.merge_rule in
    let i = c.loop-place.place-index in
    let at = get_or c.args.places.now i 0 in
    let chunk : at / c.chunk_size_bits-size.result ≡ at / (8 * g.row.N) = ap (λ k. at / k) c.chunk_size_bits-size.ensures.bits in
    let ready : IsReady rule g.row.N c.args.height c.args.tree.now.after c.args.bits.now.after (at / (8 * g.row.N)) =
    all_at (λ k. k / (8 * g.row.N) < c.args.count → IsReady rule g.row.N c.args.height c.args.tree.now.after c.args.bits.now.after (k / (8 * g.row.N)))
    c.args.places.now i c.loop-place-test.true c.requires.ready (omega (arith, chunk, c.if-chunk-count.true)) in
    let base : c.loop-place.batch.base.leaves ≡ c.args.batch.base.leaves = ap (λ (b : Additions). b.base.leaves) c.loop-place.invariant in
    let boundary : c.loop-place.batch.boundary ≡ c.args.batch.boundary = ap (λ (b : Additions). b.boundary) c.loop-place.invariant in
    let p = err_from_is_err_and c.from_residual.result c.from_residual.ensures.1 in
    subst (λ r. IfErr r (λ e. e ≡ Memory)) (sym p.1)
    (p.2 ∙ at_memory rule c.loop-place.batch.boundary (c.loop-place.batch.base.leaves + length c.loop-place.batch.added) c.new.result
    c.in_err-batch.field-0.0 (omega (arith, boundary, c.requires.pruned, ready.kept, chunk, c.new.ensures))
    (omega (arith, base, c.requires.within, c.if-chunk-count.true, c.new.ensures)) c.in_err-batch.ensures.refused)
