use Rattle.std.proofs.Common.{sym, rules}
use Rattle.std.proofs.Output.{has_written_append, has_written_of_eq, writes_in_calls_nil}
use Rattle.state_ops_parts.proofs.Digits.{encode_lower-nil, encode_lower-more}
use Rattle.state_ops_parts.proofs.hexadecimal.write_hex.Goals as goal

pub loop-byte-init : goal.loop-byte-init
loop-byte-init g c = λ plain.
    has_written_of_eq _ _ _ _ _ (sym encode_lower-nil) (record { wrote = writes_in_calls_nil _ _; plain = plain })

pub loop-byte-preserved : goal.loop-byte-preserved
loop-byte-preserved g c = λ plain.
    let so_far = c.loop-byte.invariant plain in
    has_written_of_eq _ _ _ _ _ (encode_lower-more c.args.bytes.now c.loop-byte.byte-index c.loop-byte-test.true)
    (has_written_append _ _ _ _ _ _ so_far (c.write_byte.ensures so_far.plain (search rules)))
