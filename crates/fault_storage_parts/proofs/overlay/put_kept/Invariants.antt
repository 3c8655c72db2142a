use Rattle.std.proofs.Common.{◌≡◌, ◌≤◌, ◌+◌, drop}
use Rattle.std.specs.Vec.{vec_capacity}
use Rattle.fault_storage_parts.specs.Files.{with_kept}
use Rattle.fault_storage_parts.proofs.overlay.put_kept.Given as goal

-- the bytes that are left, laid over the file so far, give what all of them give
abbrev pub invariant-loop-index : goal.invariant-loop-index
invariant-loop-index l = record {
  put : with_kept (l.offset + l.index) (drop l.index l.bytes) (drop l.index l.kept) l.file.items ≡ with_kept l.offset l.bytes l.kept l.initial.file.items;
  capacity : vec_capacity l.initial.file ≤ vec_capacity l.file;
}
