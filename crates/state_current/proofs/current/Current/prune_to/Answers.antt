use Rattle.std.proofs.Common.{◌≡◌, ◌*◌, ◌-◌, ◌^◌, ◌<◌, ◌≤◌, false, take, refl, sym, ◌∙◌, ap, ap₂, subst, arith}
use Rattle.std.specs.Prelude.{replicate}
use Rattle.std.specs.Prelude.{IfErr}
use Rattle.std.proofs.Math.Nat.{mul_comm}
use Rattle.std.proofs.lemmas.Result.{err_from_is_err_and}
use Rattle.merkle_core_parts.specs.declared.error.Error.TheVariants.{Memory}
use Rattle.merkle_core_parts.specs.Mem.{AreNodesOf, Nodes, plain_node, pruned_before}
use Rattle.state_theory.specs.Laws.Refusals.{prune_memory}
use Rattle.state_theory.specs.Laws.Heights.{some_height}
use Rattle.state_theory.specs.Canonical.{setting_with}
use Rattle.state_theory.specs.GraftedNodes.{chunks_node}
use Rattle.state_current.specs.Settled.{IsSettled}
use Rattle.state_current.specs.Kept.{AreClearBefore, AreTogether, Kept, StandsFor}
use Rattle.state_current.proofs.PruneLemmas.{ArePruned, clear_kept, gone_in, settled_ends, settled_leaves, stands_pruned, together_pruned}
use Rattle.state_current.proofs.current.Current.prune_to.Goals as goal

pub overflow_mul-chunk : goal.overflow_mul-chunk
overflow_mul-chunk g c =
    let rule = g.F.Family.merge_rule in
    let before : Kept = record {
      operations = c.self.inside.operations;
      chunks = c.self.inside.chunks;
      bits = c.self.inside.bits;
      floor = c.self.inside.floor;
    } in
    let leaves_now = ap (λ (k : Kept). k.operations.leaves) c.self.view_is in
    let pruned_now = ap (λ (k : Kept). k.bits.pruned) c.self.view_is in
    let further : c.self.inside.bits.pruned ≤ c.args.chunk = omega (arith, pruned_now, c.requires.further) in
    let whole : 8 * g.row.N ≡ 2 ^ c.self.invariant.level = c.self.invariant.whole in
    let settled : IsSettled rule c.self.invariant.level c.self.inside.operations.leaves c.args.chunk =
    subst (λ n. IsSettled rule c.self.invariant.level n c.args.chunk) (sym leaves_now) (c.requires.settled c.self.invariant.level whole) in
    let there : 8 * g.row.N * c.args.chunk ≤ c.self.inside.operations.leaves =
    settled_ends rule g.met.F.Family.merges_equals g.row.N c.self.invariant.level c.args.chunk c.self.inside.operations.leaves whole settled in
    let at : c.args.chunk * c.bits.result ≡ 8 * g.row.N * c.args.chunk =
    ap (λ k. c.args.chunk * k) (c.bits.ensures.bits ∙ ap (λ w. 8 * w) c.chunk_size-size.ensures) ∙ mul_comm c.args.chunk (8 * g.row.N) in
    omega (arith, at, there, c.leaves-leaves.ensures.few, c.leaves-leaves.ensures.leaves)

pub prune_to_chunk-requires : goal.prune_to_chunk-requires
prune_to_chunk-requires g c =
    let rule = g.F.Family.merge_rule in
    let before : Kept = record {
      operations = c.self.inside.operations;
      chunks = c.self.inside.chunks;
      bits = c.self.inside.bits;
      floor = c.self.inside.floor;
    } in
    let leaves_now = ap (λ (k : Kept). k.operations.leaves) c.self.view_is in
    let pruned_now = ap (λ (k : Kept). k.bits.pruned) c.self.view_is in
    let further : c.self.inside.bits.pruned ≤ c.args.chunk = omega (arith, pruned_now, c.requires.further) in
    let whole : 8 * g.row.N ≡ 2 ^ c.self.invariant.level = c.self.invariant.whole in
    let settled : IsSettled rule c.self.invariant.level c.self.inside.operations.leaves c.args.chunk =
    subst (λ n. IsSettled rule c.self.invariant.level n c.args.chunk) (sym leaves_now) (c.requires.settled c.self.invariant.level whole) in
    let there : 8 * g.row.N * c.args.chunk ≤ c.self.inside.operations.leaves =
    settled_ends rule g.met.F.Family.merges_equals g.row.N c.self.invariant.level c.args.chunk c.self.inside.operations.leaves whole settled in
    (omega arith, (further, gone_in g.row.N c.args.chunk before c.self.invariant further there))

pub invariant_of-self : goal.invariant_of-self
invariant_of-self g c =
    subst (λ (t : Nodes). AreTogether g.F.Family.merge_rule g.row.N (record {
      operations = t;
      chunks = c.self.inside.chunks;
      bits = c.self.inside.bits;
      floor = c.self.inside.floor;
    })) (sym c.in_err-prune-2.ensures.unchanged) c.self.invariant

pub invariant_of-self-2 : goal.invariant_of-self-2
invariant_of-self-2 g c =
    let rule = g.F.Family.merge_rule in
    let before : Kept = record {
      operations = c.self.inside.operations;
      chunks = c.self.inside.chunks;
      bits = c.self.inside.bits;
      floor = c.self.inside.floor;
    } in
    let leaves_now = ap (λ (k : Kept). k.operations.leaves) c.self.view_is in
    let pruned_now = ap (λ (k : Kept). k.bits.pruned) c.self.view_is in
    let further : c.self.inside.bits.pruned ≤ c.args.chunk = omega (arith, pruned_now, c.requires.further) in
    let whole : 8 * g.row.N ≡ 2 ^ c.self.invariant.level = c.self.invariant.whole in
    let settled : IsSettled rule c.self.invariant.level c.self.inside.operations.leaves c.args.chunk =
    subst (λ n. IsSettled rule c.self.invariant.level n c.args.chunk) (sym leaves_now) (c.requires.settled c.self.invariant.level whole) in
    let there : 8 * g.row.N * c.args.chunk ≤ c.self.inside.operations.leaves =
    settled_ends rule g.met.F.Family.merges_equals g.row.N c.self.invariant.level c.args.chunk c.self.inside.operations.leaves whole settled in
    let after : Kept = record {
      operations = c.prune-2.new.self;
      chunks = c.prune.new.self;
      bits = c.prune_to_chunk.new.self;
      floor = c.self.inside.floor;
    } in
    let at : c.new-2.result ≡ 8 * g.row.N * c.args.chunk =
    c.new-2.ensures ∙ ap (λ k. c.args.chunk * k) (c.bits.ensures.bits ∙ ap (λ w. 8 * w) c.chunk_size-size.ensures)
    ∙ mul_comm c.args.chunk (8 * g.row.N) in
    let it : ArePruned rule g.row.N c.args.chunk before after = record {
      further = further;
      there = there;
      operations = c.in_ok-prune-2.ensures.pruned ∙ ap (pruned_before rule c.self.inside.operations) at;
      chunks = c.in_ok-prune.ensures.pruned ∙ ap₂ (pruned_before rule) c.in_ok-chunks.ensures.copy c.new.ensures;
      bits = c.prune_to_chunk.ensures;
    } in
    together_pruned rule g.row.N c.args.chunk before after c.self.invariant it
    (λ level whole. subst (λ n. IsSettled rule level n c.args.chunk) (sym leaves_now) (c.requires.settled level whole))

pub returns-clause-stands : goal.returns-clause-stands
returns-clause-stands g c height state stands =
    let rule = g.F.Family.merge_rule in
    let before : Kept = record {
      operations = c.self.inside.operations;
      chunks = c.self.inside.chunks;
      bits = c.self.inside.bits;
      floor = c.self.inside.floor;
    } in
    let leaves_now = ap (λ (k : Kept). k.operations.leaves) c.self.view_is in
    let pruned_now = ap (λ (k : Kept). k.bits.pruned) c.self.view_is in
    let further : c.self.inside.bits.pruned ≤ c.args.chunk = omega (arith, pruned_now, c.requires.further) in
    let whole : 8 * g.row.N ≡ 2 ^ c.self.invariant.level = c.self.invariant.whole in
    let settled : IsSettled rule c.self.invariant.level c.self.inside.operations.leaves c.args.chunk =
    subst (λ n. IsSettled rule c.self.invariant.level n c.args.chunk) (sym leaves_now) (c.requires.settled c.self.invariant.level whole) in
    let there : 8 * g.row.N * c.args.chunk ≤ c.self.inside.operations.leaves =
    settled_ends rule g.met.F.Family.merges_equals g.row.N c.self.invariant.level c.args.chunk c.self.inside.operations.leaves whole settled in
    let after : Kept = record {
      operations = c.prune-2.new.self;
      chunks = c.prune.new.self;
      bits = c.prune_to_chunk.new.self;
      floor = c.self.inside.floor;
    } in
    let at : c.new-2.result ≡ 8 * g.row.N * c.args.chunk =
    c.new-2.ensures ∙ ap (λ k. c.args.chunk * k) (c.bits.ensures.bits ∙ ap (λ w. 8 * w) c.chunk_size-size.ensures)
    ∙ mul_comm c.args.chunk (8 * g.row.N) in
    let it : ArePruned rule g.row.N c.args.chunk before after = record {
      further = further;
      there = there;
      operations = c.in_ok-prune-2.ensures.pruned ∙ ap (pruned_before rule c.self.inside.operations) at;
      chunks = c.in_ok-prune.ensures.pruned ∙ ap₂ (pruned_before rule) c.in_ok-chunks.ensures.copy c.new.ensures;
      bits = c.prune_to_chunk.ensures;
    } in
    let hash = g.H.HashFunction.hash_of in
    let here : StandsFor (setting_with rule hash g.row.N height) state before = subst
    (StandsFor (setting_with rule hash g.row.N height) state) (sym c.self.view_is) stands in
    let clear : take (8 * g.row.N * (c.args.chunk - c.self.inside.bits.pruned)) c.self.inside.bits.kept
    ≡ replicate (8 * g.row.N * (c.args.chunk - c.self.inside.bits.pruned)) false =
    clear_kept g.row.N c.args.chunk c.self.inside.bits further (gone_in g.row.N c.args.chunk before c.self.invariant further there)
    (subst (λ (k : Kept). AreClearBefore g.row.N k.bits (8 * g.row.N * c.args.chunk)) (sym c.self.view_is) c.requires.clear) in
    stands_pruned (setting_with rule hash g.row.N height) state c.args.chunk before after c.self.invariant it refl clear
    (λ ds are. c.in_ok-prune-2.ensures.of_list (plain_node hash) ds are)
    (λ ds are. c.in_ok-prune.ensures.of_list (chunks_node hash rule height) ds
    (subst (λ (t : Nodes). AreNodesOf (chunks_node hash rule height) rule ds t) (sym c.in_ok-chunks.ensures.copy) are)) here

pub returns-in_err-prune-clause-refused : goal.returns-in_err-prune-clause-refused
returns-in_err-prune-clause-refused g c =
    let rule = g.F.Family.merge_rule in
    let before : Kept = record {
      operations = c.self.inside.operations;
      chunks = c.self.inside.chunks;
      bits = c.self.inside.bits;
      floor = c.self.inside.floor;
    } in
    let leaves_now = ap (λ (k : Kept). k.operations.leaves) c.self.view_is in
    let whole : 8 * g.row.N ≡ 2 ^ c.self.invariant.level = c.self.invariant.whole in
    let settled : IsSettled rule c.self.invariant.level c.self.inside.operations.leaves c.args.chunk =
    subst (λ n. IsSettled rule c.self.invariant.level n c.args.chunk) (sym leaves_now) (c.requires.settled c.self.invariant.level whole) in
    let few : c.self.inside.operations.leaves ≤ 2 ^ 62 = omega (arith, c.leaves-leaves.ensures.few, c.leaves-leaves.ensures.leaves) in
    let some : 0 < c.self.invariant.level = some_height g.row.N c.self.invariant.level whole in
    let grafted = settled_leaves rule g.met.F.Family.merges_equals g.row.N c.args.chunk before c.self.invariant
    (λ i there. (g.met.F.Graftable.chunks_counted c.self.inside.operations.leaves i c.self.invariant.level few some c.self.invariant.low).0 there)
    settled in
    let leaves = ap (λ (t : Nodes). t.leaves) c.in_ok-chunks.ensures.copy in
    let p = err_from_is_err_and c.from_residual-in_err-prune.result c.from_residual-in_err-prune.ensures.1 in
    subst (λ r. IfErr r (λ e. e ≡ Memory)) (sym p.1)
    (p.2 ∙ prune_memory c.in_ok-chunks.chunks.leaves c.new.result c.in_err-prune.field-0.0 (omega (arith, c.new.ensures, grafted, leaves))
    c.in_err-prune.ensures.refused)

pub returns-in_err-prune-2-clause-refused : goal.returns-in_err-prune-2-clause-refused
returns-in_err-prune-2-clause-refused g c =
    let rule = g.F.Family.merge_rule in
    let before : Kept = record {
      operations = c.self.inside.operations;
      chunks = c.self.inside.chunks;
      bits = c.self.inside.bits;
      floor = c.self.inside.floor;
    } in
    let leaves_now = ap (λ (k : Kept). k.operations.leaves) c.self.view_is in
    let whole : 8 * g.row.N ≡ 2 ^ c.self.invariant.level = c.self.invariant.whole in
    let settled : IsSettled rule c.self.invariant.level c.self.inside.operations.leaves c.args.chunk =
    subst (λ n. IsSettled rule c.self.invariant.level n c.args.chunk) (sym leaves_now) (c.requires.settled c.self.invariant.level whole) in
    let there = settled_ends rule g.met.F.Family.merges_equals g.row.N c.self.invariant.level c.args.chunk c.self.inside.operations.leaves whole settled in
    let at : c.new-2.result ≡ 8 * g.row.N * c.args.chunk =
    c.new-2.ensures ∙ ap (λ k. c.args.chunk * k) (c.bits.ensures.bits ∙ ap (λ w. 8 * w) c.chunk_size-size.ensures)
    ∙ mul_comm c.args.chunk (8 * g.row.N) in
    let p = err_from_is_err_and c.from_residual-in_err-prune-2.result c.from_residual-in_err-prune-2.ensures.1 in
    subst (λ r. IfErr r (λ e. e ≡ Memory)) (sym p.1)
    (p.2 ∙ prune_memory c.self.inside.operations.leaves c.new-2.result c.in_err-prune-2.field-0.0 (omega (arith, at, there))
    c.in_err-prune-2.ensures.refused)
