use Rattle.std.proofs.Common.{◌≡◌, ◌^◌, ◌-◌, drop, length}
use Rattle.fault_storage_parts.specs.Crc32.{after_bytes}
use Rattle.fault_storage_parts.proofs.checksum.Crc32Checksum.checksum.Given as goal

abbrev pub invariant-loop-rest : goal.invariant-loop-rest
invariant-loop-rest l = after_bytes l.left l.rest ≡ after_bytes (2 ^ 32 - 1) l.bytes

abbrev pub decreases-loop-rest : goal.decreases-loop-rest
decreases-loop-rest l = length l.rest

abbrev pub invariant-loop-byte : goal.invariant-loop-byte
invariant-loop-byte l = after_bytes l.left (drop l.byte-index l.byte-items) ≡ after_bytes (2 ^ 32 - 1) l.bytes
