use Rattle.std.proofs.Common.{◌≡◌, ◌*◌, ◌^◌, ◌≤◌, length, sym, ◌∙◌, ap, ap₂, refl, subst, arith}
use Rattle.std.specs.Prelude.{IsSome}
use Rattle.merkle_core_parts.specs.Mem.{IsPeakPosition, digests_from, node_at}
use Rattle.state_theory.specs.Canonical.{Setting, setting_with}
use Rattle.state_theory.specs.Laws.SameNodes.{born}
use Rattle.state_current.specs.Kept.{Kept, StandsFor}
use Rattle.merkle_forest.specs.Forest.{forest_of}
use Rattle.merkle_forest.specs.Hashing.{root_of}
use Rattle.merkle_forest.specs.Trees.{located}
use Rattle.state_theory.specs.Grafting.{chunk_aligned_inactive_peaks}
use Rattle.state_theory.specs.GraftedNodes.{grafted_lookup}
use Rattle.merkle_theory.specs.Plans.{Lookup}
use Rattle.state_theory.specs.Laws.Heights.{same_power}
use Rattle.state_current.proofs.CurrentLemmas.{IsGraftable, all_are, aligned_within, peaks_known, grafted_root_is}
use Rattle.state_current.proofs.current.Current.root_of_grafted.Goals as goal

pub root_over_peaks-requires-clause-known : goal.root_over_peaks-requires-clause-known
root_over_peaks-requires-clause-known g c p peak =
    let rule = g.F.Family.merge_rule in
    let facts : IsGraftable rule = record {
      root = g.F.Graftable.root_of;
      birth = g.F.Graftable.birth_of;
      pairs = g.met.F.Family.merges_equals;
      roots = g.met.F.Graftable.roots;
      aligned = g.met.F.Graftable.aligned;
      born = born g.met.F.Graftable.births g.met.F.Graftable.births_apart g.met.F.Graftable.births_soon;
      counted = λ n chunk level few some low. g.met.F.Graftable.chunks_counted n chunk level few some low;
    } in
    let kept : Kept = record {
      operations = c.self.inside.operations;
      chunks = c.self.inside.chunks;
      bits = c.self.inside.bits;
      floor = c.self.inside.floor;
    } in
    let same = c.as_u64.ensures ∙ c.leaves-leaves.ensures.leaves in
    let whole : 8 * g.row.N ≡ 2 ^ c.chunk_size-height.result.grafting_height =
    ap (λ w. 8 * w) (sym c.chunk_size-height.ensures) ∙ c.chunk_size-height.result.whole in
    let few : c.self.inside.operations.leaves ≤ 2 ^ 62 = omega (arith, c.leaves-leaves.ensures.few, c.leaves-leaves.ensures.leaves) in
    subst (λ (known : Lookup). IsSome (known p)) (sym c.new-tree.ensures.nodes)
    (peaks_known rule g.H.HashFunction.hash_of g.row.N kept facts c.self.invariant c.pruning_boundary-boundary.ensures.shape
    c.pruning_boundary-chunks.ensures.shape few c.chunk_size-height.result.grafting_height whole p
    (subst (λ n. IsPeakPosition rule n p) same peak))

pub root_over_peaks-requires-clause-within : goal.root_over_peaks-requires-clause-within
root_over_peaks-requires-clause-within g c =
    aligned_within g.F.Family.merge_rule c.as_u64.result (2 ^ c.chunk_size-height.result.grafting_height) c.self.inside.floor c.in-Ok.inactive
    (grafted_lookup g.F.Family.merge_rule g.H.HashFunction.hash_of (record {
      grafting_height = c.new-tree.result.hasher.grafting_height;
      operations = node_at g.F.Family.merge_rule c.new-tree.result.ops_tree.now;
      chunks = node_at g.F.Family.merge_rule c.new-tree.result.grafted_tree.now;
    }))
    (c.in-Ok.ensures.count ∙ ap₂ (λ f n. chunk_aligned_inactive_peaks (2 ^ c.chunk_size-height.result.grafting_height) f
    (located (forest_of g.F.Family.merge_rule n))) c.new.ensures (sym c.as_u64.ensures))

pub returns : goal.returns
returns g c height state stands =
    let rule = g.F.Family.merge_rule in
    let hash = g.H.HashFunction.hash_of in
    let setting : Setting = setting_with rule hash g.row.N height in
    let facts : IsGraftable rule = record {
      root = g.F.Graftable.root_of;
      birth = g.F.Graftable.birth_of;
      pairs = g.met.F.Family.merges_equals;
      roots = g.met.F.Graftable.roots;
      aligned = g.met.F.Graftable.aligned;
      born = born g.met.F.Graftable.births g.met.F.Graftable.births_apart g.met.F.Graftable.births_soon;
      counted = λ n chunk level few some low. g.met.F.Graftable.chunks_counted n chunk level few some low;
    } in
    let kept : Kept = record {
      operations = c.self.inside.operations;
      chunks = c.self.inside.chunks;
      bits = c.self.inside.bits;
      floor = c.self.inside.floor;
    } in
    let here : StandsFor setting state kept = subst (StandsFor setting state) (sym c.self.view_is) stands in
    let whole : 8 * g.row.N ≡ 2 ^ c.chunk_size-height.result.grafting_height =
    ap (λ w. 8 * w) (sym c.chunk_size-height.ensures) ∙ c.chunk_size-height.result.whole in
    let level : c.chunk_size-height.result.grafting_height ≡ height =
    same_power c.chunk_size-height.result.grafting_height height (sym whole ∙ here.whole) in
    let few : length state.operations ≤ 2 ^ 62 =
    omega (arith, c.leaves-leaves.ensures.few, c.leaves-leaves.ensures.leaves, all_are setting state kept facts here) in
    let known : Lookup = grafted_lookup rule hash (record {
      grafting_height = height;
      operations = node_at rule c.self.inside.operations;
      chunks = node_at rule c.self.inside.chunks;
    }) in
    let read = c.new-tree.ensures.nodes ∙ ap (λ l. grafted_lookup rule hash (record {
      grafting_height = l;
      operations = node_at rule c.self.inside.operations;
      chunks = node_at rule c.self.inside.chunks;
    })) level in
    grafted_root_is setting state kept facts here c.self.invariant few c.as_u64.result c.in-Ok.inactive
    (digests_from rule c.as_u64.result known 0) (g.H.Digest.Write.encoding c.root_over_peaks.result)
    (c.as_u64.ensures ∙ c.leaves-leaves.ensures.leaves)
    (c.in-Ok.ensures.count ∙ ap₂ (λ f n. chunk_aligned_inactive_peaks (2 ^ c.chunk_size-height.result.grafting_height) f
    (located (forest_of rule n))) c.new.ensures (sym c.as_u64.ensures)
    ∙ ap (λ l. chunk_aligned_inactive_peaks (2 ^ l) c.self.inside.floor (located (forest_of rule c.as_u64.result))) level)
    refl
    (c.root_over_peaks.ensures ∙ ap₂ (λ b (k : Lookup). root_of hash b c.as_u64.result c.in-Ok.inactive (digests_from rule c.as_u64.result k 0))
    c.new-hasher.ensures read)
