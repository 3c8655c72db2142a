use Rattle.std.proofs.Common.{◌*◌, ◌^◌, ◌<◌, length, take, length-append, ap, arith}
use Rattle.std.proofs.lemmas.List.{length-take}
use Rattle.state_theory.specs.Bits.{bit_count}
use Rattle.state_theory.specs.Overlay.{Overlay}
use Rattle.state_proofs_parts.proofs.overlay.push_bits.Goals as goal

pub push-requires : goal.push-requires
push-requires g c =
    let before = c.args.overlay.now.after in
    let few : bit_count g.row.N c.loop-bit.overlay.after < 2 ^ 62 =
    omega (
      arith,
      ap (λ (o : Overlay). 8 * g.row.N * o.after.pruned) c.loop-bit.invariant,
      ap (λ (o : Overlay). length o.after.kept) c.loop-bit.invariant,
      length-append before.kept (take c.loop-bit.bit-index c.args.more.now),
      length-take c.loop-bit.bit-index c.args.more.now,
      c.loop-bit-test.true,
      c.requires,
    ) in
    (omega arith, few)
