use Rattle.std.proofs.Common.{length, ap, arith}
use Rattle.state_theory.specs.Bits.{bit_count}
use Rattle.state_theory.specs.Overlay.{Overlay}
use Rattle.state_theory.proofs.OverlayLemmas.{length-base}
use Rattle.state_proofs_parts.proofs.overlay.BitOverlay.added.Goals as goal

pub returns-clause-added : goal.returns-clause-added
returns-clause-added g c =
    omega (
      arith,
      c.kept_bits.ensures,
      length-base g.row.N c.self.inside.bits c.self.inside.listed c.self.inside.cleared.items c.self.invariant.few,
      ap (λ (o : Overlay). length o.base.kept) c.self.view_is,
      ap (λ (o : Overlay). length o.after.kept) c.self.view_is,
    )

pub returns-clause-all : goal.returns-clause-all
returns-clause-all g c =
    omega (
      arith,
      c.kept_bits.ensures,
      c.self.invariant.few,
      length-base g.row.N c.self.inside.bits c.self.inside.listed c.self.inside.cleared.items c.self.invariant.few,
      ap (λ (o : Overlay). bit_count g.row.N o.base) c.self.view_is,
      ap (λ (o : Overlay). bit_count g.row.N o.after) c.self.view_is,
    )
