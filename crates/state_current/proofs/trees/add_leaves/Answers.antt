use Rattle.std.proofs.Common.{◌≡◌, ◌+◌, ◌-◌, ◌<◌, ◌^◌, length, sym, ◌∙◌, ap, subst, arith}
use Rattle.std.specs.Prelude.{IfErr}
use Rattle.std.proofs.lemmas.Result.{err_from_is_err_and}
use Rattle.merkle_core_parts.specs.Mem.{Additions}
use Rattle.merkle_core_parts.specs.declared.error.Error.TheVariants.{Memory}
use Rattle.state_theory.specs.Laws.Refusals.{past_memory}
use Rattle.state_current.specs.ChunkLeaves.{chunk_leaf, leaves_from}
use Rattle.state_current.proofs.TreeLemmas.{leaf_next, length-leaves_from}
use Rattle.state_current.proofs.trees.add_leaves.Goals as goal

pub loop-chunk-init : goal.loop-chunk-init
loop-chunk-init g c =
    let leaf = chunk_leaf g.F.Family.merge_rule g.F.Graftable.root_of g.H.HashFunction.hash_of g.row.N
    c.args.height c.args.tree.now.after c.args.bits.now.after in
    let none : 0 ≡ c.args.first - c.args.first = omega arith in
    ap (λ ds. record c.args.batch { added = ds }) (c.requires.none ∙ ap (leaves_from leaf c.args.first) none)

pub leaf_of_chunk-requires : goal.leaf_of_chunk-requires
leaf_of_chunk-requires g c =
    (omega arith, (c.requires.low, c.requires.ready c.loop-chunk.chunk (omega arith) c.loop-chunk-test.true))

pub loop-chunk-preserved : goal.loop-chunk-preserved
loop-chunk-preserved g c =
    leaf_next (chunk_leaf g.F.Family.merge_rule g.F.Graftable.root_of g.H.HashFunction.hash_of g.row.N
    c.args.height c.args.tree.now.after c.args.bits.now.after)
    c.args.batch c.loop-chunk.batch c.in_ok-batch.batch c.args.first c.loop-chunk.chunk _ (omega arith) c.loop-chunk.invariant
    c.leaf_of_chunk.ensures c.in_ok-batch.ensures.added

pub returns-clause-added : goal.returns-clause-added
returns-clause-added g c =
    let leaf = chunk_leaf g.F.Family.merge_rule g.F.Graftable.root_of g.H.HashFunction.hash_of g.row.N
    c.args.height c.args.tree.now.after c.args.bits.now.after in
    let last : c.loop-chunk.chunk - c.args.first ≡ c.args.end - c.args.first = omega arith in
    c.loop-chunk.invariant ∙ ap (λ n. record c.args.batch { added = leaves_from leaf c.args.first n }) last

pub returns-in_err-batch-clause-refused : goal.returns-in_err-batch-clause-refused
returns-in_err-batch-clause-refused g c =
    let leaf = chunk_leaf g.F.Family.merge_rule g.F.Graftable.root_of g.H.HashFunction.hash_of g.row.N
    c.args.height c.args.tree.now.after c.args.bits.now.after in
    let many : length c.loop-chunk.batch.added ≡ c.loop-chunk.chunk - c.args.first =
    ap (λ (b : Additions). length b.added) c.loop-chunk.invariant ∙ length-leaves_from leaf c.args.first (c.loop-chunk.chunk - c.args.first) in
    let base : c.loop-chunk.batch.base.leaves ≡ c.args.batch.base.leaves = ap (λ (b : Additions). b.base.leaves) c.loop-chunk.invariant in
    let few : c.loop-chunk.batch.base.leaves + length c.loop-chunk.batch.added < 2 ^ 62 =
    omega (arith, many, base, c.loop-chunk-test.true, c.requires.few) in
    let p = err_from_is_err_and c.from_residual.result c.from_residual.ensures.1 in
    subst (λ r. IfErr r (λ e. e ≡ Memory)) (sym p.1)
    (p.2 ∙ past_memory (c.loop-chunk.batch.base.leaves + length c.loop-chunk.batch.added) c.in_err-batch.field-0.0 few c.in_err-batch.ensures.refused)
