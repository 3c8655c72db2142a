use Rattle.std.proofs.Common.{◌≡◌, ◌≤◌, drop}
use Rattle.std.specs.Vec.{vec_capacity}
use Rattle.fault_storage_parts.specs.Files.{durable_bytes}
use Rattle.fault_storage_parts.specs.FilesCode.{log_of}
use Rattle.fault_storage_parts.proofs.blob_file.BlobFile.durable.Given as goal

abbrev pub invariant-loop-index : goal.invariant-loop-index
invariant-loop-index l = record {
  durable : durable_bytes l.bytes.items (log_of (drop l.index l.self-inside.log.items)) ≡ durable_bytes l.self.base l.self.log;
  capacity : vec_capacity l.self-inside.base ≤ vec_capacity l.bytes;
}
