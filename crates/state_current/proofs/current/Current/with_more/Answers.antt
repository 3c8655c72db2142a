use Rattle.std.proofs.Common.{◌≡◌, ℕ, ◌+◌, ◌*◌, ◌^◌, ◌<◌, ◌≤◌, length, map, refl, sym, ◌∙◌, ap, subst, arith}
use Rattle.std.specs.List.{AllByRecursion}
use Rattle.state_theory.specs.Canonical.{setting_with}
use Rattle.state_theory.specs.Laws.Heights.{same_power}
use Rattle.state_theory.specs.Laws.SameNodes.{born}
use Rattle.state_current.specs.Growth.{Change, grown}
use Rattle.state_current.specs.Kept.{AreTogether, Kept, StandsFor}
use Rattle.state_current.proofs.CurrentLemmas.{IsGraftable}
use Rattle.state_current.proofs.GrownLemmas.{AreGrown, after_count, grow_more, grow_new, grow_old, kept_of, same_kept, stands_after, together_after}
use Rattle.state_current.proofs.current.Current.with_more.Goals as goal

pub grow_chunks-requires : goal.grow_chunks-requires
grow_chunks-requires g c =
    let rule = g.F.Family.merge_rule in
    let facts : IsGraftable rule = record {
      root = g.F.Graftable.root_of;
      birth = g.F.Graftable.birth_of;
      pairs = g.met.F.Family.merges_equals;
      roots = g.met.F.Graftable.roots;
      aligned = g.met.F.Graftable.aligned;
      born = born g.met.F.Graftable.births g.met.F.Graftable.births_apart g.met.F.Graftable.births_soon;
      counted = λ n chunk level few some low. g.met.F.Graftable.chunks_counted n chunk level few some low;
    } in
    let before : Kept = record {
      operations = c.self.inside.operations;
      chunks = c.self.inside.chunks;
      bits = c.self.inside.bits;
      floor = c.self.inside.floor;
    } in
    let level : ℕ = c.chunk_size-size.result.grafting_height in
    let low : level ≤ 62 = c.chunk_size-size.result.low in
    let whole : 8 * g.row.N ≡ 2 ^ level = ap (λ w. 8 * w) (sym c.chunk_size-size.ensures) ∙ c.chunk_size-size.result.whole in
    let leaves_now = ap (λ (k : Kept). k.operations.leaves) c.self.view_is in
    let pruned_now = ap (λ (k : Kept). k.bits.pruned) c.self.view_is in
    let longer = c.in-Ok.ensures.leaves in
    let it : AreGrown g.row.N before c.in-Ok.tree.after c.in-Ok-stage_bits.after.after = record {
      longer = omega (arith, longer);
      few = omega (arith, longer, leaves_now, c.requires.few);
      counted = omega (
        arith,
        after_count g.row.N c.self.inside.bits c.in-Ok-stage_bits.after.after c.args.bits.now c.args.cleared.now c.in-Ok-stage_bits.ensures.all,
        c.self.invariant.bits,
        c.requires.paired,
        longer,
      );
      pruned = c.in-Ok-stage_bits.ensures.pruned;
      boundary = c.in-Ok.ensures.boundary;
    } in
    let m : ℕ = c.self.inside.operations.leaves + length c.args.operations.now in
    let there : AllByRecursion (λ at. (8 * g.row.N * c.self.inside.bits.pruned ≤ at) × (at < m)) c.args.cleared.now =
    subst (λ (k : Kept). AllByRecursion (λ at. (8 * g.row.N * k.bits.pruned ≤ at)
    × (at < k.operations.leaves + length c.args.operations.now)) c.args.cleared.now) (sym c.self.view_is) c.requires.there in
    let within : c.self.inside.chunks.boundary ≤ c.self.inside.chunks.leaves =
    omega (arith, c.pruning_boundary-boundary.ensures.within, c.pruning_boundary-boundary.ensures.boundary) in
    let more = grow_more rule facts g.row.N level whole low before c.self.invariant c.in-Ok.tree.after c.in-Ok-stage_bits.after.after it in
    let fresh = grow_new rule facts g.row.N level whole low before c.self.invariant c.in-Ok.tree.after c.in-Ok-stage_bits.after.after it within in
    let old = grow_old rule facts g.row.N level whole low before c.self.invariant c.in-Ok.tree.after
    c.in-Ok-stage_bits.after.after it m c.args.cleared.now there in
    (omega arith, (c.chunk_size-size.ensures, (omega (arith, c.self.invariant.pruned, c.in-Ok-stage_bits.ensures.pruned), (more, (fresh, old)))))

pub invariant_of-result : goal.invariant_of-result
invariant_of-result g c =
    let rule = g.F.Family.merge_rule in
    let facts : IsGraftable rule = record {
      root = g.F.Graftable.root_of;
      birth = g.F.Graftable.birth_of;
      pairs = g.met.F.Family.merges_equals;
      roots = g.met.F.Graftable.roots;
      aligned = g.met.F.Graftable.aligned;
      born = born g.met.F.Graftable.births g.met.F.Graftable.births_apart g.met.F.Graftable.births_soon;
      counted = λ n chunk level few some low. g.met.F.Graftable.chunks_counted n chunk level few some low;
    } in
    let before : Kept = record {
      operations = c.self.inside.operations;
      chunks = c.self.inside.chunks;
      bits = c.self.inside.bits;
      floor = c.self.inside.floor;
    } in
    let level : ℕ = c.chunk_size-size.result.grafting_height in
    let low : level ≤ 62 = c.chunk_size-size.result.low in
    let whole : 8 * g.row.N ≡ 2 ^ level = ap (λ w. 8 * w) (sym c.chunk_size-size.ensures) ∙ c.chunk_size-size.result.whole in
    let leaves_now = ap (λ (k : Kept). k.operations.leaves) c.self.view_is in
    let pruned_now = ap (λ (k : Kept). k.bits.pruned) c.self.view_is in
    let longer = c.in-Ok.ensures.leaves in
    let it : AreGrown g.row.N before c.in-Ok.tree.after c.in-Ok-stage_bits.after.after = record {
      longer = omega (arith, longer);
      few = omega (arith, longer, leaves_now, c.requires.few);
      counted = omega (
        arith,
        after_count g.row.N c.self.inside.bits c.in-Ok-stage_bits.after.after c.args.bits.now c.args.cleared.now c.in-Ok-stage_bits.ensures.all,
        c.self.invariant.bits,
        c.requires.paired,
        longer,
      );
      pruned = c.in-Ok-stage_bits.ensures.pruned;
      boundary = c.in-Ok.ensures.boundary;
    } in
    let m : ℕ = c.self.inside.operations.leaves + length c.args.operations.now in
    let there : AllByRecursion (λ at. (8 * g.row.N * c.self.inside.bits.pruned ≤ at) × (at < m)) c.args.cleared.now =
    subst (λ (k : Kept). AllByRecursion (λ at. (8 * g.row.N * k.bits.pruned ≤ at)
    × (at < k.operations.leaves + length c.args.operations.now)) c.args.cleared.now) (sym c.self.view_is) c.requires.there in
    let within : c.self.inside.chunks.boundary ≤ c.self.inside.chunks.leaves =
    omega (arith, c.pruning_boundary-boundary.ensures.within, c.pruning_boundary-boundary.ensures.boundary) in
    let after : Kept = kept_of (c.in-Ok.tree.after) (c.in-Ok-grow_chunks.chunks.after) (c.in-Ok-stage_bits.after.after) c.args.floor in
    let made : Kept = kept_of (c.apply_batch.result) (c.apply_batch-in-Ok-grow_chunks.result) (c.apply.result) c.args.floor in
    let same : made ≡ after =
    same_kept c.apply_batch.result c.in-Ok.tree.after c.apply_batch-in-Ok-grow_chunks.result
    c.in-Ok-grow_chunks.chunks.after c.apply.result c.in-Ok-stage_bits.after.after c.args.floor
    c.apply_batch.ensures c.apply_batch-in-Ok-grow_chunks.ensures c.apply.ensures in
    subst (AreTogether rule g.row.N) (sym same)
    (together_after rule facts g.row.N level whole low before after c.self.inside.operations.leaves c.in-Ok.tree.after.leaves c.self.invariant refl it.longer
    refl it.counted it.pruned it.boundary c.in-Ok-grow_chunks.ensures.boundary c.in-Ok-grow_chunks.ensures.leaves)

pub returns-in-Ok-grow_chunks-clause-stands : goal.returns-in-Ok-grow_chunks-clause-stands
returns-in-Ok-grow_chunks-clause-stands g c height state stands =
    let rule = g.F.Family.merge_rule in
    let facts : IsGraftable rule = record {
      root = g.F.Graftable.root_of;
      birth = g.F.Graftable.birth_of;
      pairs = g.met.F.Family.merges_equals;
      roots = g.met.F.Graftable.roots;
      aligned = g.met.F.Graftable.aligned;
      born = born g.met.F.Graftable.births g.met.F.Graftable.births_apart g.met.F.Graftable.births_soon;
      counted = λ n chunk level few some low. g.met.F.Graftable.chunks_counted n chunk level few some low;
    } in
    let before : Kept = record {
      operations = c.self.inside.operations;
      chunks = c.self.inside.chunks;
      bits = c.self.inside.bits;
      floor = c.self.inside.floor;
    } in
    let level : ℕ = c.chunk_size-size.result.grafting_height in
    let low : level ≤ 62 = c.chunk_size-size.result.low in
    let whole : 8 * g.row.N ≡ 2 ^ level = ap (λ w. 8 * w) (sym c.chunk_size-size.ensures) ∙ c.chunk_size-size.result.whole in
    let leaves_now = ap (λ (k : Kept). k.operations.leaves) c.self.view_is in
    let pruned_now = ap (λ (k : Kept). k.bits.pruned) c.self.view_is in
    let longer = c.in-Ok.ensures.leaves in
    let it : AreGrown g.row.N before c.in-Ok.tree.after c.in-Ok-stage_bits.after.after = record {
      longer = omega (arith, longer);
      few = omega (arith, longer, leaves_now, c.requires.few);
      counted = omega (
        arith,
        after_count g.row.N c.self.inside.bits c.in-Ok-stage_bits.after.after c.args.bits.now c.args.cleared.now c.in-Ok-stage_bits.ensures.all,
        c.self.invariant.bits,
        c.requires.paired,
        longer,
      );
      pruned = c.in-Ok-stage_bits.ensures.pruned;
      boundary = c.in-Ok.ensures.boundary;
    } in
    let m : ℕ = c.self.inside.operations.leaves + length c.args.operations.now in
    let there : AllByRecursion (λ at. (8 * g.row.N * c.self.inside.bits.pruned ≤ at) × (at < m)) c.args.cleared.now =
    subst (λ (k : Kept). AllByRecursion (λ at. (8 * g.row.N * k.bits.pruned ≤ at)
    × (at < k.operations.leaves + length c.args.operations.now)) c.args.cleared.now) (sym c.self.view_is) c.requires.there in
    let within : c.self.inside.chunks.boundary ≤ c.self.inside.chunks.leaves =
    omega (arith, c.pruning_boundary-boundary.ensures.within, c.pruning_boundary-boundary.ensures.boundary) in
    let after : Kept = kept_of (c.in-Ok.tree.after) (c.in-Ok-grow_chunks.chunks.after) (c.in-Ok-stage_bits.after.after) c.args.floor in
    let hash = g.H.HashFunction.hash_of in
    let change : Change = record {
      operations = map (λ e. e.items) c.args.operations.now;
      bits = c.args.bits.now;
      cleared = c.args.cleared.now;
      floor = c.args.floor;
    } in
    let here : StandsFor (setting_with rule hash g.row.N height) state before = subst
    (StandsFor (setting_with rule hash g.row.N height) state) (sym c.self.view_is) stands in
    let as_high : height ≡ level = same_power height level (sym here.whole ∙ whole) in
    let at : StandsFor (setting_with rule hash g.row.N level) state before =
    subst (λ h. StandsFor (setting_with rule hash g.row.N h) state before) as_high here in
    let made : Kept = kept_of (c.apply_batch.result) (c.apply_batch-in-Ok-grow_chunks.result) (c.apply.result) c.args.floor in
    let same : made ≡ after =
    same_kept c.apply_batch.result c.in-Ok.tree.after c.apply_batch-in-Ok-grow_chunks.result
    c.in-Ok-grow_chunks.chunks.after c.apply.result c.in-Ok-stage_bits.after.after c.args.floor
    c.apply_batch.ensures c.apply_batch-in-Ok-grow_chunks.ensures c.apply.ensures in
    subst (λ (k : Kept). StandsFor (setting_with rule hash g.row.N height) (grown state change) k) (sym same)
    (subst (λ h. StandsFor (setting_with rule hash g.row.N h) (grown state change) after) (sym as_high)
    (stands_after (setting_with rule hash g.row.N level) facts low state change before after m at c.self.invariant within it there
    (c.in-Ok.ensures.of_list state.operations at.operations) c.in-Ok-grow_chunks.ensures.of_list c.in-Ok-stage_bits.ensures.all refl))
