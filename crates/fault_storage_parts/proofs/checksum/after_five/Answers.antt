-- The table is held against the definition at each of the 256 bytes, by computing.
use Rattle.std.proofs.Common.{◌+◌, get_or, refl, arith}
use Rattle.fault_storage_parts.specs.Crc32.{after_bits}
use Rattle.fault_storage_parts.specs.declared.checksum.TheConstants.{TABLE}
use Rattle.fault_storage_parts.proofs.Crc.{agree_below, agree_at}
use Rattle.fault_storage_parts.proofs.checksum.after_five.Goals as goal

pub returns : goal.returns
unfolding agree_below after_bits
returns c = agree_at (λ k. get_or TABLE (k + 1024) 0) (after_bits 40) 256 refl c.args.byte (omega arith)
