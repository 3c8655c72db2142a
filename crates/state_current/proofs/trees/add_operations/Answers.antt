use Rattle.std.proofs.Common.{◌≡◌, ◌+◌, ◌++◌, ◌∷◌, [], ◌<◌, ◌^◌, ℕ, List, length, map, take, sym, ◌∙◌, ap, subst, arith}
use Rattle.std.specs.Prelude.{IfErr}
use Rattle.std.proofs.lemmas.Result.{err_from_is_err_and}
use Rattle.std.proofs.lemmas.List.{take_all, take_more, map-append, length-map, length-take}
use Rattle.merkle_core_parts.specs.declared.error.Error.TheVariants.{Memory}
use Rattle.merkle_core_parts.specs.Laws.Plain.{length-plain}
use Rattle.state_theory.specs.Laws.Refusals.{past_memory}
use Rattle.merkle_forest.specs.Hashing.{leaf_string}
use Rattle.merkle_core_parts.specs.Mem.{Additions, node_count, plain_leaf_digests}
use Rattle.state_current.proofs.TreeLemmas.{operation_next}
use Rattle.state_current.proofs.trees.add_operations.Goals as goal

pub loop-operation-init : goal.loop-operation-init
loop-operation-init g c = ap (λ ds. record c.args.batch { added = ds }) c.requires.none

pub loop-operation-preserved : goal.loop-operation-preserved
loop-operation-preserved g c =
    let hash = g.H.HashFunction.hash_of in
    let rule = g.F.Family.merge_rule in
    let es = c.args.operations.now in
    let i = c.loop-operation.operation-index in
    operation_next hash rule c.args.batch c.loop-operation.batch c.in_ok-batch.batch (map (λ e. e.items) (take i es)) c.operation-item.result.items
    c.loop-operation.invariant
    (c.in_ok-batch.ensures.added ∙ ap (λ (e : List ℕ). record c.loop-operation.batch {
      added = c.loop-operation.batch.added
          ++ hash (leaf_string (node_count rule (c.loop-operation.batch.base.leaves + length c.loop-operation.batch.added)) e) ∷ [];
    }) c.deref.ensures.value)
    ∙ ap (λ (front : List (List ℕ)). record c.args.batch { added = plain_leaf_digests hash rule c.args.batch.base.leaves front })
    (sym (map-append (λ e. e.items) (take i es) (c.operation-item.result ∷ []))
    ∙ ap (map (λ e. e.items)) (sym (take_more es i c.operation-item.result c.loop-operation-test.true
    ∙ ap (λ x. take i es ++ x ∷ []) (sym c.operation-item.is))))

pub returns-clause-added : goal.returns-clause-added
returns-clause-added g c =
    c.loop-operation.invariant
    ∙ ap (λ es. record c.args.batch {
      added = plain_leaf_digests g.H.HashFunction.hash_of g.F.Family.merge_rule c.args.batch.base.leaves (map (λ e. e.items) es);
    }) (take_all c.loop-operation.operation-index c.args.operations.now (omega arith))

pub returns-in_err-batch-clause-refused : goal.returns-in_err-batch-clause-refused
returns-in_err-batch-clause-refused g c =
    let hash = g.H.HashFunction.hash_of in
    let rule = g.F.Family.merge_rule in
    let i = c.loop-operation.operation-index in
    let es = c.args.operations.now in
    let front : List (List ℕ) = map (λ e. e.items) (take i es) in
    let many : length c.loop-operation.batch.added ≡ length (take i es) =
    ap (λ (b : Additions). length b.added) c.loop-operation.invariant ∙ length-plain hash rule c.args.batch.base.leaves front
    ∙ length-map (take i es) (λ e. e.items) in
    let base : c.loop-operation.batch.base.leaves ≡ c.args.batch.base.leaves = ap (λ (b : Additions). b.base.leaves) c.loop-operation.invariant in
    let few : c.loop-operation.batch.base.leaves + length c.loop-operation.batch.added < 2 ^ 62 =
    omega (arith, many, base, length-take i es, c.loop-operation-test.true, c.requires.few) in
    let p = err_from_is_err_and c.from_residual.result c.from_residual.ensures.1 in
    subst (λ r. IfErr r (λ e. e ≡ Memory)) (sym p.1)
    (p.2 ∙ past_memory (c.loop-operation.batch.base.leaves + length c.loop-operation.batch.added) c.in_err-batch.field-0.0 few
    c.in_err-batch.ensures.refused)
