-- A blob in memory.
use Rattle.std.specs.Prelude.{List}
use Rattle.paged_blob_parts.specs.Calls.{Call}
use Rattle.paged_blob_parts.specs.Recorded.{calls_of}
use Rattle.paged_blob_parts.specs.declared.bench.MemoryDisk.{MemoryDisk}

-- the calls that were made of it
abbrev pub calls_in : MemoryDisk → List Call
calls_in disk = calls_of disk.record_kept.items
