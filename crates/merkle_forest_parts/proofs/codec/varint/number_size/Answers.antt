use Rattle.std.proofs.Common.{sym}
use Rattle.merkle_forest_parts.specs.Laws.Varint.{varint_length}
use Rattle.merkle_forest_parts.proofs.codec.varint.number_size.Goals as goal

pub returns : goal.returns
returns c = rw c.max.ensures (sym (varint_length c.args.number c.ranges.number.fits))
