use Rattle.std.proofs.Common.{◌≡◌, ◌<◌, ◌+◌, ◌*◌, ◌/◌, ℕ, List, Bool, length, drop, sym, ◌∙◌, ap, subst, arith}
use Rattle.std.proofs.lemmas.Nat.{pow_pos}
use Rattle.merkle_theory.specs.Plans.{Asked, IsWithinTree}
use Rattle.state_theory.specs.Bits.{chunk_of}
use Rattle.state_proofs.specs.Built.{IsBuildable, IsRefusalOfSource}
use Rattle.state_theory.specs.Sources.{IsSourceOf}
use Rattle.state_proofs.specs.BuiltCode.{measures_with, source_of}
use Rattle.state_theory.specs.Canonical.{Setting, setting_with}
use Rattle.state_theory.specs.Honest.{honest_range}
use Rattle.state_proofs.specs.ProofsCode.{range_parts_of}
use Rattle.state_proofs.specs.Required.{Measures}
use Rattle.state_theory.specs.Laws.Chunks.{chunk_is}
use Rattle.state_proofs.proofs.BuiltLemmas.{operation_refusal, same_parts}
use Rattle.state_theory.specs.Laws.Bits.{length-chunk_of}
use Rattle.state_proofs.proofs.operation.Proof.build.Goals as goal

pub from_bytes-requires : goal.from_bytes-requires
from_bytes-requires g c =
    subst g.C.ChunkForm.may_have
    (sym (ap length c.get_chunk.ensures
    ∙ length-chunk_of g.row.N (drop (8 * g.row.N * c.index_of-index.result) (g.B.BitmapReadable.bits c.args.status.now))))
    c.requires.form

pub returns-in-Err-clause-refused : goal.returns-in-Err-clause-refused
returns-in-Err-clause-refused g c = λ height known whole answers.
    let measures : Measures = measures_with g.F.Family.merge_rule g.row.N height in
    let bits : List Bool = g.B.BitmapReadable.bits c.args.status.now in
    let pruned : ℕ = g.B.BitmapReadable.pruned c.args.status.now in
    let start : ℕ = c.args.plan.start in
    let index_is : c.index_of-index.result ≡ start / (8 * g.row.N) =
    c.index_of-index.ensures ∙ ap (λ n. n / (8 * c.of_bytes.result.width)) (c.as_u64.ensures ∙ c.location-loc.ensures)
    ∙ ap (λ w. start / (8 * w)) c.of_bytes.ensures in
    let kept : start / (8 * g.row.N) < pruned
    → ⊥ = λ less. absurd (omega (arith, less, index_is, c.if-index-pruned_chunks.false, c.pruned_chunks.ensures)) in
    operation_refusal measures (source_of c.args.plan bits pruned known) start c.in-Err.e kept
    (subst (λ (s : Asked). IsRefusalOfSource measures (source_of s bits pruned known) c.in-Err.e) c.from-range_plan.ensures
    (c.in-Err.ensures.refused height known whole answers))

pub returns-clause-honest : goal.returns-clause-honest
returns-clause-honest g c = λ height known state whole answers is floor root.
    let setting : Setting = setting_with g.F.Family.merge_rule g.H.HashFunction.hash_of g.row.N height in
    let bits : List Bool = g.B.BitmapReadable.bits c.args.status.now in
    let pruned : ℕ = g.B.BitmapReadable.pruned c.args.status.now in
    let start : ℕ = c.args.plan.start in
    let index_is : c.index_of-index.result ≡ start / (8 * g.row.N) =
    c.index_of-index.ensures ∙ ap (λ n. n / (8 * c.of_bytes.result.width)) (c.as_u64.ensures ∙ c.location-loc.ensures)
    ∙ ap (λ w. start / (8 * w)) c.of_bytes.ensures in
    let stop_is : c.args.plan.stop ≡ start + 1 = subst (λ (s : Asked). s.stop ≡ s.start + 1) c.plan.view_is c.plan.invariant in
    let inside : IsWithinTree c.args.plan =
    subst IsWithinTree (c.range_plan.view_is ∙ c.from-range_plan.ensures) c.range_plan.invariant.0 in
    let some : 0 < g.row.N = omega (arith, whole, pow_pos height) in
    let within : start < length state.operations = omega (arith, inside.some, inside.within, is.leaves) in
    let range : range_parts_of g.D.Write.encoding g.F.PendingOf.held c.in-Ok.range_proof ≡ honest_range setting state start (start + 1) =
    subst (λ (s : Asked). IsSourceOf setting state (source_of s bits pruned known)
    → range_parts_of g.D.Write.encoding g.F.PendingOf.held c.in-Ok.range_proof ≡ honest_range setting state s.start s.stop) c.from-range_plan.ensures
    (λ it. c.in-Ok.ensures.honest height known state whole answers it floor root) is
    ∙ ap (honest_range setting state start) stop_is in
    let chunk : g.C.AsSlice.items c.in_ok-chunk.chunk ≡ chunk_of g.row.N (drop (8 * g.row.N * (start / (8 * g.row.N))) state.bits) =
    c.in_ok-chunk.ensures ∙ c.get_chunk.ensures
    ∙ ap (λ i. chunk_of g.row.N (drop (8 * g.row.N * i) bits)) index_is
    ∙ ap (λ bs. chunk_of g.row.N (drop (8 * g.row.N * (start / (8 * g.row.N))) bs)) is.bits in
    same_parts _ _ _ _ _ _ c.location-loc.ensures (chunk ∙ sym (chunk_is setting state start some within)) range

pub returns-clause-buildable : goal.returns-clause-buildable
returns-clause-buildable g c = λ height known whole answers.
    subst (λ (s : Asked). IsBuildable (measures_with g.F.Family.merge_rule g.row.N height)
    (source_of s (g.B.BitmapReadable.bits c.args.status.now) (g.B.BitmapReadable.pruned c.args.status.now) known)) c.from-range_plan.ensures
    (c.in-Ok.ensures.buildable height known whole answers)
