use Rattle.std.proofs.Common.{◌≡◌, ℕ, ◌*◌, ◌/◌, ◌^◌, ◌≤◌, inl, inr, sym, ◌∙◌, ap, ap₂, subst, arith}
use Rattle.state_theory.specs.Laws.Heights.{same_power}
use Rattle.state_current.specs.Kept.{Kept}
use Rattle.state_current.specs.Settled.{IsGreatestSettled, IsSettled}
use Rattle.state_current.proofs.PruneLemmas.{chunk_within, greatest_of, on_ok, settled_as_read}
use Rattle.state_current.proofs.current.Current.prune.Goals as goal

pub returns-then-chunk-pruned-clause-pruned : goal.returns-then-chunk-pruned-clause-pruned
returns-then-chunk-pruned-clause-pruned g c height whole =
    let rule = g.F.Family.merge_rule in
    let gh : ℕ = c.chunk_size-size.result.grafting_height in
    let here : 8 * g.row.N ≡ 2 ^ gh = ap (λ w. 8 * w) (sym c.chunk_size-size.ensures) ∙ c.chunk_size-size.result.whole in
    let level = same_power c.self.invariant.level gh (sym c.self.invariant.whole ∙ here) in
    let found = c.greatest_settled-chunk.ensures (settled_as_read rule c.self.invariant.level gh c.self.inside.operations.leaves
    c.as_u64-leaves.result c.self.inside.bits.pruned c.pruned_chunks-pruned.result level
    (c.as_u64-leaves.ensures ∙ c.leaves.ensures.leaves) c.pruned_chunks-pruned.ensures.pruned c.self.invariant.settled) in
    let leaves = c.as_u64-leaves.ensures ∙ c.leaves.ensures.leaves ∙ ap (λ (k : Kept). k.operations.leaves) c.self.view_is in
    let pruned = c.pruned_chunks-pruned.ensures.pruned ∙ ap (λ (k : Kept). k.bits.pruned) c.self.view_is in
    let limit = c.index_of-limit.ensures ∙ ap₂ (λ l w. l / (8 * w)) c.as_u64.ensures c.chunk_size-size.ensures in
    greatest_of rule gh height c.as_u64-leaves.result c.args.self.now.operations.leaves c.pruned_chunks-pruned.result c.args.self.now.bits.pruned
    c.index_of-limit.result (c.args.location / (8 * g.row.N)) c.greatest_settled-chunk.result c.args.self.now.bits.pruned
    (same_power gh height (sym here ∙ whole)) leaves pruned limit (c.if-chunk-pruned.true ∙ pruned) found

pub prune_to-requires : goal.prune_to-requires
prune_to-requires g c =
    let rule = g.F.Family.merge_rule in
    let gh : ℕ = c.chunk_size-size.result.grafting_height in
    let here : 8 * g.row.N ≡ 2 ^ gh = ap (λ w. 8 * w) (sym c.chunk_size-size.ensures) ∙ c.chunk_size-size.result.whole in
    let level = same_power c.self.invariant.level gh (sym c.self.invariant.whole ∙ here) in
    let found = c.greatest_settled-chunk.ensures (settled_as_read rule c.self.invariant.level gh c.self.inside.operations.leaves
    c.as_u64-leaves.result c.self.inside.bits.pruned c.pruned_chunks-pruned.result level
    (c.as_u64-leaves.ensures ∙ c.leaves.ensures.leaves) c.pruned_chunks-pruned.ensures.pruned c.self.invariant.settled) in
    let leaves = c.as_u64-leaves.ensures ∙ c.leaves.ensures.leaves ∙ ap (λ (k : Kept). k.operations.leaves) c.self.view_is in
    let pruned = c.pruned_chunks-pruned.ensures.pruned ∙ ap (λ (k : Kept). k.bits.pruned) c.self.view_is in
    let limit = c.index_of-limit.ensures ∙ ap₂ (λ l w. l / (8 * w)) c.as_u64.ensures c.chunk_size-size.ensures in
    let chunk : ℕ = c.greatest_settled-chunk.result in
    let within : 8 * g.row.N * chunk ≤ c.args.location =
    elim found.to [
      | inl same ↦ absurd (c.if-chunk-pruned.false same)
      | inr le ↦ chunk_within (8 * g.row.N) c.args.location chunk (omega (arith, le, limit))
    ] in (
      omega arith,
      (
        omega (arith, found.from, pruned),
        (
          λ height whole.
              subst (λ l. IsSettled rule l c.args.self.now.operations.leaves chunk) (same_power gh height (sym here ∙ whole))
              (subst (λ n. IsSettled rule gh n chunk) leaves found.settled),
          λ at lt. c.requires.clear at (omega (arith, lt, within)),
        ),
      ),
    )

pub returns-clause-pruned : goal.returns-clause-pruned
returns-clause-pruned g c height whole =
    let rule = g.F.Family.merge_rule in
    let gh : ℕ = c.chunk_size-size.result.grafting_height in
    let here : 8 * g.row.N ≡ 2 ^ gh = ap (λ w. 8 * w) (sym c.chunk_size-size.ensures) ∙ c.chunk_size-size.result.whole in
    let level = same_power c.self.invariant.level gh (sym c.self.invariant.whole ∙ here) in
    let found = c.greatest_settled-chunk.ensures (settled_as_read rule c.self.invariant.level gh c.self.inside.operations.leaves
    c.as_u64-leaves.result c.self.inside.bits.pruned c.pruned_chunks-pruned.result level
    (c.as_u64-leaves.ensures ∙ c.leaves.ensures.leaves) c.pruned_chunks-pruned.ensures.pruned c.self.invariant.settled) in
    let leaves = c.as_u64-leaves.ensures ∙ c.leaves.ensures.leaves ∙ ap (λ (k : Kept). k.operations.leaves) c.self.view_is in
    let pruned = c.pruned_chunks-pruned.ensures.pruned ∙ ap (λ (k : Kept). k.bits.pruned) c.self.view_is in
    let limit = c.index_of-limit.ensures ∙ ap₂ (λ l w. l / (8 * w)) c.as_u64.ensures c.chunk_size-size.ensures in
    on_ok (c.prune_to.new.self.bits.pruned ≡ c.greatest_settled-chunk.result)
    (IsGreatestSettled rule height c.args.self.now.operations.leaves c.args.self.now.bits.pruned (c.args.location / (8 * g.row.N))
    c.prune_to.new.self.bits.pruned)
    (λ is. greatest_of rule gh height c.as_u64-leaves.result c.args.self.now.operations.leaves c.pruned_chunks-pruned.result
    c.args.self.now.bits.pruned c.index_of-limit.result (c.args.location / (8 * g.row.N)) c.greatest_settled-chunk.result
    c.prune_to.new.self.bits.pruned (same_power gh height (sym here ∙ whole)) leaves pruned limit (sym is) found)
    c.prune_to.result c.prune_to.ensures.pruned
