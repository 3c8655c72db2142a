use Rattle.std.proofs.Common.{rules}
use Rattle.std.proofs.Output.{has_written_append, has_written_of_eq}
use Rattle.state_ops_parts.proofs.Digits.{encode_lower-group, encode_lower-last}
use Rattle.state_ops_parts.proofs.hexadecimal.write_varint.Goals as goal

pub loop-rest-preserved : goal.loop-rest-preserved
loop-rest-preserved g c = λ plain.
    let so_far = c.loop-rest.invariant plain in (
      _,
      (
        has_written_append _ _ _ _ _ _ so_far.1.0 (c.write_byte.ensures so_far.1.0.plain (search rules)),
        encode_lower-group so_far.0 c.loop-rest.rest _ _ c.loop-rest-test.true (search rules) so_far.1.1,
      ),
    )

pub returns : goal.returns
returns g c = λ plain done.
    let so_far = c.loop-rest.invariant plain in
    has_written_of_eq _ _ _ _ _ (encode_lower-last so_far.0 c.loop-rest.rest _ c.loop-rest-test.false so_far.1.1)
    (has_written_append _ _ _ _ _ _ so_far.1.0 (c.write_byte-2.ensures so_far.1.0.plain done))
