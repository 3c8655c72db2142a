use Rattle.std.proofs.Common.{◌+◌, ◌-◌, false, arith}
use Rattle.fault_storage_parts.proofs.Zeros.{noted_more}
use Rattle.fault_storage_parts.proofs.draws.note_first.Goals as goal

pub loop-noted-2-preserved : goal.loop-noted-2-preserved
loop-noted-2-preserved c = record {
  items = noted_more false c.loop-noted.choice.items c.loop-noted-2.choice.items c.note-in-loop-noted-2.new.choice.items (c.loop-noted-2.noted - c.args.kept)
      (c.loop-noted-2.noted + 1 - c.args.kept) c.loop-noted-2.invariant.items c.note-in-loop-noted-2.ensures.items (omega arith);
  len = omega arith;
  capacity = omega arith;
}
