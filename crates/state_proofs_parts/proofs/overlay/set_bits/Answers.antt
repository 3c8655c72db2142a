use Rattle.std.proofs.Common.{◌*◌, ◌≤◌, ◌<◌, ◌-◌, ℕ, true, length, get_or, take, sym, ◌∙◌, ap, arith}
use Rattle.std.specs.Prelude.{slice_set}
use Rattle.std.proofs.lemmas.List.{take_more}
use Rattle.state_theory.specs.Bits.{Bits, bit_count}
use Rattle.state_theory.specs.Overlay.{set_again}
use Rattle.state_theory.proofs.CallLemmas.{all_at}
use Rattle.state_theory.proofs.OverlayLemmas.{again_more, length-again}
use Rattle.state_proofs_parts.proofs.overlay.set_bits.Goals as goal

pub set_bit-requires : goal.set_bit-requires
set_bit-requires g c =
    let first : ℕ = 8 * g.row.N * c.args.bits.now.pruned in
    let both = all_at (λ at. (first ≤ at) × (at < bit_count g.row.N c.args.bits.now)) c.args.places.now
    c.loop-place.place-index c.loop-place-test.true c.requires in
    let at : ℕ = get_or c.args.places.now c.loop-place.place-index 0 in
    let pruned = ap (λ (b : Bits). 8 * g.row.N * b.pruned) c.loop-place.invariant in
    let count = ap (λ (b : Bits). length b.kept) c.loop-place.invariant
    ∙ length-again first c.args.bits.now.kept (take c.loop-place.place-index c.args.places.now) in
    let from : 8 * g.row.N * c.loop-place.bits.pruned ≤ at = omega (arith, both.0, pruned) in
    let there : at < bit_count g.row.N c.loop-place.bits = omega (arith, both.1, pruned, count) in
    (omega arith, (from, there))

pub loop-place-preserved : goal.loop-place-preserved
loop-place-preserved g c =
    let first : ℕ = 8 * g.row.N * c.args.bits.now.pruned in
    let at : ℕ = get_or c.args.places.now c.loop-place.place-index 0 in
    let front = take c.loop-place.place-index c.args.places.now in
    c.set_bit.ensures
    ∙ ap (λ (b : Bits). record b { kept = slice_set b.kept (at - 8 * g.row.N * b.pruned) true }) c.loop-place.invariant
    ∙ ap (λ k. record c.args.bits.now { kept = k }) (sym (again_more first c.args.bits.now.kept front at)
    ∙ ap (set_again first c.args.bits.now.kept) (sym (take_more c.args.places.now c.loop-place.place-index 0 c.loop-place-test.true)))
