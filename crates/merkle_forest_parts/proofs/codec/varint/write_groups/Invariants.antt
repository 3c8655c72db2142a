use Rattle.std.proofs.Common.{◌≡◌, ◌++◌}
use Rattle.merkle_forest_parts.specs.Codec.{Extends}
use Rattle.merkle_forest_parts.specs.Varint.{varint}
use Rattle.merkle_forest_parts.proofs.codec.varint.write_groups.Given as goal

abbrev pub invariant-loop-rest : goal.invariant-loop-rest
invariant-loop-rest l = record {
  whole : l.out.items ++ varint l.rest ≡ l.fn.out.items ++ varint l.number;
  front : Extends l.fn.out.items l.out.items;
}

abbrev pub decreases-loop-rest : goal.decreases-loop-rest
decreases-loop-rest l = l.rest
