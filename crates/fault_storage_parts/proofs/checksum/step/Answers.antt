use Rattle.std.proofs.Common.{◌∙◌, ap, sym, bit_xor, ◌/◌, ◌^◌, arith}
use Rattle.std.proofs.lemmas.Nat.{and_mask}
use Rattle.fault_storage_parts.specs.Crc32.{after_bits}
use Rattle.fault_storage_parts.proofs.Crc.{byte-step}
use Rattle.fault_storage_parts.proofs.checksum.step.Goals as goal

pub returns : goal.returns
returns c =
    ap (bit_xor (c.args.left / 2 ^ 8)) (c.after_byte.ensures ∙ ap (λ low. after_bits 8 (bit_xor low c.args.byte)) (and_mask c.args.left 8))
    ∙ sym (byte-step c.args.left c.args.byte (omega arith))
