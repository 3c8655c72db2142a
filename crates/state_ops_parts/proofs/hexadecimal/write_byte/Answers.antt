use Rattle.std.proofs.Common.{◌∷◌, []}
use Rattle.std.proofs.lemmas.Str.{IsUtf8-from_ascii}
use Rattle.hex.specs.Hex.{encode_lower}
use Rattle.state_ops_parts.proofs.Digits.{IsAscii-encode_lower}
use Rattle.state_ops_parts.proofs.hexadecimal.write_byte.Goals as goal

pub unreachable-requires-in_default-from_utf8 : goal.unreachable-requires-in_default-from_utf8
unreachable-requires-in_default-from_utf8 g c =
    let bytes = c.args.byte ∷ [] in
    (c.in_default-from_utf8.ensures).cases.0
    (rw (c.in-Ok.ensures).written (IsUtf8-from_ascii (encode_lower bytes) (IsAscii-encode_lower bytes)))
