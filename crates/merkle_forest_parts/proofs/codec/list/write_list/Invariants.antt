use Rattle.std.proofs.Common.{◌≡◌, ◌++◌, length, take}
use Rattle.std.specs.List.{flat_map, All}
use Rattle.merkle_forest_parts.specs.Codec.{Extends}
use Rattle.merkle_forest_parts.specs.Varint.{varint}
use Rattle.merkle_forest_parts.proofs.codec.list.write_list.Given as goal

abbrev pub invariant-loop-digest : goal.invariant-loop-digest
invariant-loop-digest g l = record {
  written : l.out.items
      ≡ l.fn.out.items ++ (varint (length l.digests) ++ flat_map g.D.Write.encoding (take l.digest-index l.digests));
  front : Extends l.fn.out.items l.out.items;
  values : All g.D.Write.is_value (take l.digest-index l.digests);
}
