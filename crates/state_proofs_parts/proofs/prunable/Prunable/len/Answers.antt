use Rattle.std.proofs.Common.{◌∙◌, ap}
use Rattle.state_theory.specs.Bits.{bit_count}
use Rattle.state_theory.proofs.HeldLemmas.{counted}
use Rattle.state_proofs_parts.proofs.prunable.Prunable.len.Goals as goal

pub returns : goal.returns
returns g c = record {
  length = rw c.chunk_bits.ensures.bits
      (counted g.row.N c.self.inside.pruned c.self.inside.kept c.self.inside.bytes.items c.self.invariant
      ∙ ap (bit_count g.row.N) c.self.view_is);
}
