use Rattle.std.proofs.Common.{arith}
use Rattle.state_theory.specs.Laws.ChunkSteps.{rest-seven}
use Rattle.state_proofs_parts.proofs.bits.+byte_from.Goals as goal
use Rattle.state_proofs_parts.proofs.bits.+byte_from.Goals.{then-bit, else-bit}

pub overflow_mul-result : goal.overflow_mul-result
overflow_mul-result t c =
    omega (
      arith,
      rest-seven c.args.bits.now c.byte_from.result c.in-len1-up.len_at_least c.requires
          c.byte_from.ensures,
    )

pub overflow_add-result : goal.overflow_add-result
overflow_add-result t c =
    let small = rest-seven c.args.bits.now c.byte_from.result c.in-len1-up.len_at_least c.requires
    c.byte_from.ensures in
    elim c.if-bit.branch [
      | then-bit w ↦ omega (arith, small, w.result-is)
      | else-bit w ↦
          omega (arith, small, w.result-is)
    ]
