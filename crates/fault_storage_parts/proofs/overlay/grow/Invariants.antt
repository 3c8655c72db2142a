use Rattle.std.proofs.Common.{◌≡◌, ◌≤◌, ◌+◌, ◌-◌, ◌++◌, max, replicate}
use Rattle.std.specs.Vec.{vec_len, vec_capacity}
use Rattle.fault_storage_parts.proofs.overlay.grow.Given as goal

abbrev pub invariant-loop-added : goal.invariant-loop-added
invariant-loop-added l = record {
  items : l.file.items ≡ l.initial.file.items ++ replicate (l.added - l.have) 0;
  len : vec_len l.file ≡ vec_len l.initial.file + (l.added - l.have);
  within : l.added ≤ max l.have l.size;
  capacity : vec_capacity l.initial.file ≤ vec_capacity l.file;
}
