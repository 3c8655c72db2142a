use Rattle.std.proofs.Common.{◌*◌, ◌≤◌, ◌<◌, ◌-◌, ℕ, false, length, get_or, take, sym, ◌∙◌, ap, arith}
use Rattle.std.specs.Prelude.{slice_set}
use Rattle.std.proofs.lemmas.List.{length-set, take_more}
use Rattle.state_theory.specs.Bits.{Bits, all_bits, bit_count, cleared}
use Rattle.state_theory.proofs.CallLemmas.{all_at}
use Rattle.state_theory.proofs.OverlayLemmas.{all_set, cleared_more, length-remembered}
use Rattle.state_proofs_parts.proofs.overlay.clear_bits.Goals as goal

pub clear-requires : goal.clear-requires
clear-requires g c =
    let before = c.args.overlay.now.after in
    let both = all_at (λ at. (8 * g.row.N * before.pruned ≤ at) × (at < bit_count g.row.N before)) c.args.places.now
    c.loop-place.place-index c.loop-place-test.true c.requires in
    let at : ℕ = get_or c.args.places.now c.loop-place.place-index 0 in
    let pruned = ap (λ k. 8 * g.row.N * k) c.loop-place.invariant.pruned in
    let from : 8 * g.row.N * c.loop-place.overlay.after.pruned ≤ at = omega (arith, both.0, pruned) in
    let there : at < bit_count g.row.N c.loop-place.overlay.after = omega (arith, both.1, pruned, c.loop-place.invariant.count) in
    (omega arith, (from, there))

pub loop-place-preserved : goal.loop-place-preserved
loop-place-preserved g c =
    let before = c.args.overlay.now.after in
    let both = all_at (λ at. (8 * g.row.N * before.pruned ≤ at) × (at < bit_count g.row.N before)) c.args.places.now
    c.loop-place.place-index c.loop-place-test.true c.requires in
    let at : ℕ = get_or c.args.places.now c.loop-place.place-index 0 in
    let old = c.loop-place.overlay.after in
    let pruned = ap (λ k. 8 * g.row.N * k) c.loop-place.invariant.pruned in
    let from : 8 * g.row.N * old.pruned ≤ at = omega (arith, both.0, pruned) in
    record {
      base = c.clear.ensures.base ∙ c.loop-place.invariant.base;
      pruned = ap (λ (b : Bits). b.pruned) c.in_ok-clear.ensures.after ∙ c.loop-place.invariant.pruned;
      count = ap (λ (b : Bits). length b.kept) c.in_ok-clear.ensures.after ∙ length-set old.kept (at - 8 * g.row.N * old.pruned) false
          ∙ c.loop-place.invariant.count;
      all = all_set g.row.N old c.clear.new.self.after at from c.in_ok-clear.ensures.after
          ∙ ap (λ bs. slice_set bs at false) c.loop-place.invariant.all
          ∙ sym (cleared_more (all_bits g.row.N before) (take c.loop-place.place-index c.args.places.now) at)
          ∙ ap (cleared (all_bits g.row.N before)) (sym (take_more c.args.places.now c.loop-place.place-index 0 c.loop-place-test.true));
      few = omega (
        arith,
        ap length c.in_ok-clear.ensures.cleared,
        length-remembered g.row.N c.loop-place.overlay at,
        c.loop-place.invariant.few,
      );
    }
