use Rattle.std.proofs.Common.{length, sym, ◌∙◌, ap}
use Rattle.state_theory.specs.Bits.{Bits}
use Rattle.state_theory.proofs.HeldLemmas.{held-length}
use Rattle.state_proofs_parts.proofs.prunable.Prunable.kept_bits.Goals as goal

pub returns : goal.returns
returns g c =
    sym (held-length g.row.N c.self.inside.pruned c.self.inside.kept c.self.inside.bytes.items c.self.invariant)
    ∙ ap (λ (b : Bits). length b.kept) c.self.view_is
