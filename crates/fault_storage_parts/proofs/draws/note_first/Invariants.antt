use Rattle.std.proofs.Common.{◌≡◌, ◌≤◌, ◌+◌, ◌-◌, ◌++◌, replicate, true, false}
use Rattle.std.specs.Vec.{vec_len, vec_capacity}
use Rattle.fault_storage_parts.proofs.draws.note_first.Given as goal

abbrev pub invariant-loop-noted : goal.invariant-loop-noted
invariant-loop-noted l = record {
  items : l.choice.items ≡ l.initial.choice.items ++ replicate l.noted true;
  len : vec_len l.choice ≡ vec_len l.initial.choice + l.noted;
  capacity : vec_capacity l.initial.choice ≤ vec_capacity l.choice;
}

abbrev pub invariant-loop-noted-2 : goal.invariant-loop-noted-2
invariant-loop-noted-2 l = record {
  items : l.choice.items ≡ l.initial.choice.items ++ replicate (l.noted - l.kept) false;
  len : vec_len l.choice ≡ vec_len l.initial.choice + (l.noted - l.kept);
  capacity : vec_capacity l.initial.choice ≤ vec_capacity l.choice;
}
