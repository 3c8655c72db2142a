use Rattle.std.proofs.Common.{arith}
use Rattle.std.proofs.lemmas.Nat.{one_shl}
use Rattle.state_theory.specs.Laws.Heights.{height_of_log, eight_times}
use Rattle.state_proofs_parts.proofs.chunk_size.ChunkSize.new.Goals as goal
use Rattle.state_proofs_parts.proofs.chunk_size.ChunkSize.new.Goals.{then-height-gt59-via-then-height-gt59}
use Rattle.state_proofs_parts.proofs.chunk_size.ChunkSize.new.Goals.{then-height-gt59-via-else-height-gt59+then-bytes-height}

pub returns-then-height-gt59-clause-none : goal.returns-then-height-gt59-clause-none
returns-then-height-gt59-clause-none c height whole low =
    let it = height_of_log c.ilog2-height.result c.args.width height c.ilog2-height.ensures.power_le
    c.ilog2-height.ensures.next_power_gt whole in
    elim c.then-height-gt59.branch [
      | then-height-gt59-via-then-height-gt59 w ↦ omega (arith, it.0, low)
      | then-height-gt59-via-else-height-gt59+then-bytes-height w ↦
          omega (arith, it.1, one_shl c.ilog2-height.result 64 c.ilog2-height.ensures.bound)
    ]

pub invariant_of-result : goal.invariant_of-result
invariant_of-result c = record {
  whole = omega (
    arith,
    one_shl c.ilog2-height.result 64 c.ilog2-height.ensures.bound,
    eight_times
        c.ilog2-height.result,
  );
  some = omega arith;
  low = omega arith;
}
