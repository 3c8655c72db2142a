use Rattle.std.proofs.Common.{sym, ◌∙◌, ap}
use Rattle.state_theory.specs.Bits.{bit_count}
use Rattle.state_current.specs.Kept.{Kept}
use Rattle.state_current.proofs.current.Current.leaves.Goals as goal

pub returns-clause-bits : goal.returns-clause-bits
returns-clause-bits g c = c.leaves.ensures.leaves ∙ sym c.self.invariant.bits ∙ ap (λ (k : Kept). bit_count g.row.N k.bits) c.self.view_is
