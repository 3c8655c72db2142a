use Rattle.std.proofs.Common.{◌+◌, ◌*◌, ◌/◌, length, sym, ◌∙◌, ap}
use Rattle.state_theory.specs.Bits.{Bits}
use Rattle.state_theory.proofs.HeldLemmas.{held-length, few_full}
use Rattle.state_proofs_parts.proofs.prunable.Prunable.complete_chunks.Goals as goal

pub returns-clause-chunks : goal.returns-clause-chunks
returns-clause-chunks g c =
    rw c.chunk_bits.ensures.bits
    (ap (λ n. c.self.inside.pruned + n / (8 * g.row.N))
    (sym (held-length g.row.N c.self.inside.pruned c.self.inside.kept c.self.inside.bytes.items c.self.invariant))
    ∙ ap (λ (b : Bits). b.pruned + length b.kept / (8 * g.row.N)) c.self.view_is)

pub returns-clause-few : goal.returns-clause-few
returns-clause-few g c =
    rw c.chunk_bits.ensures.bits (few_full g.row.N c.self.inside.pruned c.self.inside.kept c.self.inside.bytes.items c.self.invariant)
