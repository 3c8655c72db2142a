use Rattle.std.proofs.Common.{◌≡◌, ℕ, ◌+◌, ◌*◌, ◌/◌, ◌^◌, ◌≤◌, length, refl, sym, ◌∙◌, ap, subst, arith}
use Rattle.std.specs.Prelude.{IfErr}
use Rattle.merkle_forest.specs.Forest.{forest_of}
use Rattle.merkle_forest.specs.Nodes.{nodes_of_height}
use Rattle.merkle_core_parts.specs.Mem.{node_at}
use Rattle.state_theory.specs.Bits.{all_bits}
use Rattle.state_proofs.specs.Built.{IsRefusalOfPlanned}
use Rattle.state_proofs.specs.BuiltCode.{measures_with, source_of, span_of}
use Rattle.state_theory.specs.Canonical.{Setting, setting_with}
use Rattle.state_theory.specs.GraftedNodes.{grafted_lookup}
use Rattle.state_theory.specs.Laws.ChunkCounts.{one_pending}
use Rattle.state_theory.specs.Laws.Heights.{same_power}
use Rattle.state_theory.specs.Laws.SameNodes.{born}
use Rattle.state_proofs.specs.declared.error.Error.TheVariants.{Memory}
use Rattle.state_current.specs.Kept.{AreTogether, Kept, StandsFor, read_of}
use Rattle.state_proving.proofs.AnsweredLemmas.{if_err, retold, range_memory}
use Rattle.state_current.proofs.CurrentLemmas.{IsGraftable, all_are}
use Rattle.state_proving.proofs.ProvingLemmas.{source_stands}
use Rattle.state_proving.proofs.proving.range_proof.Goals as goal

pub returns-clause-honest : goal.returns-clause-honest
returns-clause-honest g c height state stands =
    let rule = g.F.Family.merge_rule in
    let hash = g.H.HashFunction.hash_of in
    let setting : Setting = setting_with rule hash g.row.N height in
    let facts : IsGraftable rule = record {
      root = g.F.Graftable.root_of;
      birth = g.F.Graftable.birth_of;
      pairs = g.met.F.Family.merges_equals;
      roots = g.met.F.Graftable.roots;
      aligned = g.met.F.Graftable.aligned;
      born = born g.met.F.Graftable.births g.met.F.Graftable.births_apart g.met.F.Graftable.births_soon;
      counted = λ n chunk level few some low. g.met.F.Graftable.chunks_counted n chunk level few some low;
    } in
    let kept : Kept = record {
      operations = c.operations-operations.result.now;
      chunks = c.chunks-chunks.result.now;
      bits = c.bits.result.now;
      floor = c.args.current.now.floor;
    } in
    let same : kept ≡ c.args.current.now = λ i. record {
      operations = c.operations-operations.ensures.same i;
      chunks = c.chunks-chunks.ensures i;
      bits = c.bits.ensures i;
      floor = c.args.current.now.floor;
    } in
    let here : StandsFor setting state kept = subst (StandsFor setting state) (sym same) stands in
    let whole : 8 * g.row.N ≡ 2 ^ c.chunk_size-height.result.grafting_height =
    ap (λ w. 8 * w) (sym c.chunk_size-height.ensures) ∙ c.chunk_size-height.result.whole in
    let level : c.chunk_size-height.result.grafting_height ≡ height =
    same_power c.chunk_size-height.result.grafting_height height (sym whole ∙ here.whole) in
    let few : length state.operations ≤ 2 ^ 62 =
    omega (arith, c.leaves-leaves.ensures.few, c.leaves-leaves.ensures.leaves, all_are setting state kept facts here) in
    c.new.ensures.honest height state here.whole
    (source_stands setting state kept facts here few _ c.new-tree.ensures.leaves refl
    (c.new-tree.ensures.nodes ∙ ap (λ l. grafted_lookup rule hash (record {
      grafting_height = l;
      operations = node_at rule c.operations-operations.result.now;
      chunks = node_at rule c.chunks-chunks.result.now;
    })) level))
    (sym here.floor ∙ sym c.floor.ensures) (sym (c.root_of_operations.ensures height state stands))

pub returns-clause-refused : goal.returns-clause-refused
returns-clause-refused g c height whole =
    let rule = g.F.Family.merge_rule in
    let hash = g.H.HashFunction.hash_of in
    let kept : Kept = record {
      operations = c.operations-operations.result.now;
      chunks = c.chunks-chunks.result.now;
      bits = c.bits.result.now;
      floor = c.args.current.now.floor;
    } in
    let same : kept ≡ c.args.current.now = λ i. record {
      operations = c.operations-operations.ensures.same i;
      chunks = c.chunks-chunks.ensures i;
      bits = c.bits.ensures i;
      floor = c.args.current.now.floor;
    } in
    let level : ℕ = c.chunk_size-height.result.grafting_height in
    let whole_here : 8 * g.row.N ≡ 2 ^ level = ap (λ w. 8 * w) (sym c.chunk_size-height.ensures) ∙ c.chunk_size-height.result.whole in
    let said : IfErr c.new.result (IsRefusalOfPlanned (measures_with rule g.row.N level)
    (source_of (span_of kept.operations.leaves c.args.range.start c.args.range.end) (all_bits g.row.N kept.bits) kept.bits.pruned
    (read_of rule hash level kept))) =
    retold (λ n known e. IsRefusalOfPlanned (measures_with rule g.row.N level)
    (source_of (span_of n c.args.range.start c.args.range.end) (all_bits g.row.N kept.bits) kept.bits.pruned known) e) c.new.result
    c.new-tree.ensures.leaves c.new-tree.ensures.nodes (c.new.ensures.refused level whole_here) in
    let at : level ≡ height = same_power level height (sym whole_here ∙ whole) in
    subst (λ (k : Kept). IfErr c.new.result (IsRefusalOfPlanned (measures_with rule g.row.N height)
    (source_of (span_of k.operations.leaves c.args.range.start c.args.range.end) (all_bits g.row.N k.bits) k.bits.pruned
    (read_of rule hash height k)))) same
    (subst (λ l. IfErr c.new.result (IsRefusalOfPlanned (measures_with rule g.row.N l)
    (source_of (span_of kept.operations.leaves c.args.range.start c.args.range.end) (all_bits g.row.N kept.bits) kept.bits.pruned
    (read_of rule hash l kept)))) at said)

pub returns-clause-there : goal.returns-clause-there
returns-clause-there g c late some within =
    let rule = g.F.Family.merge_rule in
    let hash = g.H.HashFunction.hash_of in
    let kept : Kept = record {
      operations = c.operations-operations.result.now;
      chunks = c.chunks-chunks.result.now;
      bits = c.bits.result.now;
      floor = c.args.current.now.floor;
    } in
    let same : kept ≡ c.args.current.now = λ i. record {
      operations = c.operations-operations.ensures.same i;
      chunks = c.chunks-chunks.ensures i;
      bits = c.bits.ensures i;
      floor = c.args.current.now.floor;
    } in
    let level : ℕ = c.chunk_size-height.result.grafting_height in
    let whole_here : 8 * g.row.N ≡ 2 ^ level = ap (λ w. 8 * w) (sym c.chunk_size-height.ensures) ∙ c.chunk_size-height.result.whole in
    let facts : IsGraftable rule = record {
      root = g.F.Graftable.root_of;
      birth = g.F.Graftable.birth_of;
      pairs = g.met.F.Family.merges_equals;
      roots = g.met.F.Graftable.roots;
      aligned = g.met.F.Graftable.aligned;
      born = born g.met.F.Graftable.births g.met.F.Graftable.births_apart g.met.F.Graftable.births_soon;
      counted = λ n chunk level few some low. g.met.F.Graftable.chunks_counted n chunk level few some low;
    } in
    let said : IfErr c.new.result (IsRefusalOfPlanned (measures_with rule g.row.N level)
    (source_of (span_of kept.operations.leaves c.args.range.start c.args.range.end) (all_bits g.row.N kept.bits) kept.bits.pruned
    (read_of rule hash level kept))) =
    retold (λ n known e. IsRefusalOfPlanned (measures_with rule g.row.N level)
    (source_of (span_of n c.args.range.start c.args.range.end) (all_bits g.row.N kept.bits) kept.bits.pruned known) e) c.new.result
    c.new-tree.ensures.leaves c.new-tree.ensures.nodes (c.new.ensures.refused level whole_here) in
    let together : AreTogether rule g.row.N kept = subst (AreTogether rule g.row.N) (sym same) c.operations-operations.ensures.together in
    let n : ℕ = kept.operations.leaves in
    let few : n ≤ 2 ^ 62 = omega (arith, c.leaves-leaves.ensures.few, c.leaves-leaves.ensures.leaves) in
    let pending : n / 2 ^ level ≤ nodes_of_height level (forest_of rule n) + 1 =
    one_pending rule g.F.Graftable.birth_of n level
    (g.met.F.Graftable.births_counted n level few c.chunk_size-height.result.some c.chunk_size-height.result.low) (g.met.F.Graftable.births_soon level) in
    let from = subst (λ (k : Kept). 8 * g.row.N * k.bits.pruned ≤ c.args.range.start) (sym same) late in
    let to = subst (λ (k : Kept). c.args.range.end ≤ k.operations.leaves) (sym same) within in
    if_err (IsRefusalOfPlanned (measures_with rule g.row.N level)
    (source_of (span_of kept.operations.leaves c.args.range.start c.args.range.end) (all_bits g.row.N kept.bits) kept.bits.pruned
    (read_of rule hash level kept)))
    (λ e. e ≡ Memory)
    (λ e why. range_memory rule hash g.row.N kept facts together c.pruning_boundary-boundary.ensures.shape c.pruning_boundary-chunks.ensures.shape
    few level whole_here pending c.args.range.start c.args.range.end e from some to why) c.new.result said
