use Rattle.std.proofs.Common.{◌≡◌, ℕ, ◌*◌, ◌≤◌, List, length, map, Option, sym, ◌∙◌, ap, ap₂, subst, arith}
use Rattle.std.specs.Prelude.{IfOk, IfSome}
use Rattle.std.proofs.Math.Nat.{mul_comm}
use Rattle.merkle_forest.specs.declared.bagging.Bagging.{Bagging}
use Rattle.merkle_forest.specs.declared.bagging.Bagging.TheVariants.{BackwardFold}
use Rattle.merkle_forest.specs.Forest.{forest_of}
use Rattle.merkle_forest.specs.Trees.{inactive_peaks, located}
use Rattle.merkle_core_parts.specs.Laws.Held.{right-there}
use Rattle.merkle_core_parts.specs.Laws.Plain.{length-plain}
use Rattle.merkle_core_parts.specs.Mem.{Nodes, node_at, plain_leaf_digests, plain_node, tree_digest}
use Rattle.merkle_core_parts.specs.declared.error.Error.TheVariants.{Memory as NoMemory}
use Rattle.merkle_theory.specs.MadeRoots.{peaks_of}
use Rattle.merkle_theory.specs.Plans.{IsLookupOf, IsRefusalToProveNow, honest_digests}
use Rattle.state_theory.specs.Laws.Known.{all_known}
use Rattle.state_proofs.specs.BuiltCode.{span_of}
use Rattle.state_theory.specs.Canonical.{Setting, setting_with}
use Rattle.state_current.specs.Kept.{AreTogether, Kept, StandsFor}
use Rattle.state_proving.proofs.AnsweredLemmas.{if_err, now_memory}
use Rattle.state_current.proofs.CurrentLemmas.{inactive_low}
use Rattle.state_proving.proofs.proving.log_proof.Goals as goal

pub returns-clause-honest : goal.returns-clause-honest
returns-clause-honest g c height state stands =
    let rule = g.F.Family.merge_rule in
    let hash = g.H.HashFunction.hash_of in
    let setting : Setting = setting_with rule hash g.row.N height in
    let kept : Kept = record {
      operations = c.operations-operations.result.now;
      chunks = c.args.current.now.chunks;
      bits = c.args.current.now.bits;
      floor = c.args.current.now.floor;
    } in
    let same : kept ≡ c.args.current.now = λ i. record {
      operations = c.operations-operations.ensures.same i;
      chunks = c.args.current.now.chunks;
      bits = c.args.current.now.bits;
      floor = c.args.current.now.floor;
    } in
    let here : StandsFor setting state kept = subst (StandsFor setting state) (sym same) stands in
    let digests : List (List ℕ) = plain_leaf_digests hash rule 0 state.operations in
    let many : length digests ≡ length state.operations = length-plain hash rule 0 state.operations in
    let lookup : IsLookupOf (plain_node hash) rule digests (node_at rule kept.operations) =
    λ first tree digest node is.
    (let If : Option (List ℕ) → Type 0 = λ o. IfSome o (λ d. d ≡ tree_digest (plain_node hash) digests first tree) in
    subst If is (right-there (plain_node hash) rule digests kept.operations here.operations first tree node)) in
    let inactive : c.inactive_count-inactive.result ≡ inactive_peaks state.floor (peaks_of rule (length state.operations)) =
    c.inactive_count-inactive.ensures
    ∙ ap₂ (λ f n. inactive_peaks f (located (forest_of rule n))) (c.as_u64.ensures ∙ c.floor.ensures ∙ here.floor)
    (c.as_u64-leaves.ensures ∙ c.leaves.ensures.leaves ∙ here.operations.counted ∙ many) in
    let Honest : Bagging → ℕ → ℕ → Type 0 = λ b n i. IfOk c.range_proof.result (λ proof. map g.H.Digest.Write.encoding proof.digests.items
    ≡ honest_digests hash (tree_digest (plain_node hash) digests) b rule n i c.args.range.start c.args.range.end) in
    subst (λ i. Honest BackwardFold (length state.operations) i) inactive
    (subst (λ n. Honest BackwardFold n c.inactive_count-inactive.result) many
    (subst (λ b. Honest b (length digests) c.inactive_count-inactive.result) c.new-hasher.ensures
    (c.range_proof.ensures.of_list (plain_node hash) digests here.operations.counted lookup)))

pub returns-clause-there : goal.returns-clause-there
returns-clause-there g c late some within =
    let rule = g.F.Family.merge_rule in
    let nodes : Nodes = c.operations-operations.result.now in
    let same : nodes ≡ c.args.current.now.operations = c.operations-operations.ensures.same in
    let n : ℕ = nodes.leaves in
    let pruned : ℕ = c.args.current.now.bits.pruned in
    let together : AreTogether rule g.row.N c.args.current.now = c.operations-operations.ensures.together in
    let to : c.args.range.end ≤ n = subst (λ (k : Nodes). c.args.range.end ≤ k.leaves) (sym same) within in
    let boundary : nodes.boundary ≤ c.args.range.start =
    omega (
      arith,
      late,
      ap (λ (k : Nodes). k.boundary) same,
      together.pruned_operations,
      mul_comm (8 * g.row.N) pruned ∙ ap (λ k. pruned * k) together.whole,
    ) in
    let enough : c.inactive_count-inactive.result ≤ length (peaks_of rule n) =
    subst (λ m. c.inactive_count-inactive.result ≤ length (peaks_of rule m)) (c.as_u64-leaves.ensures ∙ c.leaves.ensures.leaves)
    (omega (
      arith,
      c.inactive_count-inactive.ensures,
      inactive_low c.as_u64.result (located (forest_of rule c.as_u64-leaves.result)),
    )) in
    if_err (IsRefusalToProveNow rule (span_of n c.args.range.start c.args.range.end) c.inactive_count-inactive.result (node_at rule nodes))
    (λ e. e ≡ NoMemory)
    (λ e why. now_memory rule (span_of n c.args.range.start c.args.range.end) c.inactive_count-inactive.result (node_at rule nodes) e some to enough
    (all_known rule g.met.F.Family.merges_equals nodes c.pruning_boundary-boundary.ensures.shape c.args.range.start c.args.range.end boundary) why)
    c.range_proof.result c.range_proof.ensures.refused
