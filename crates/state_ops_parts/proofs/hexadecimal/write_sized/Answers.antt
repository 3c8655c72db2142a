use Rattle.std.proofs.Common.{sym, length, rules}
use Rattle.std.proofs.Output.{has_written_append, has_written_of_eq}
use Rattle.merkle_forest.specs.Varint.{varint}
use Rattle.state_ops_parts.proofs.Digits.{encode_lower-append}
use Rattle.state_ops_parts.proofs.hexadecimal.write_sized.Goals as goal

pub returns : goal.returns
returns g c = λ plain done.
    let size = c.write_varint.ensures plain (search rules) in
    has_written_of_eq _ _ _ _ _ (sym (encode_lower-append (varint (length c.args.bytes.now)) c.args.bytes.now))
    (has_written_append _ _ _ _ _ _ size (c.write_hex.ensures size.plain done))
