use Rattle.std.proofs.Common.{◌≡◌, ℕ, List, ◌+◌, ◌-◌, ◌*◌, ◌^◌, ◌<◌, ◌++◌}
use Rattle.merkle_forest_parts.specs.Varint.{varint, varint_at, groups_at}
use Rattle.merkle_forest_parts.proofs.Varints.{with_groups}
use Rattle.merkle_forest_parts.proofs.codec.varint.read_number.Given as goal

abbrev pub invariant-loop-group : goal.invariant-loop-group
invariant-loop-group l = record {
  weight : l.weight ≡ 128 ^ l.group;
  small : l.number < l.weight;
  exact : with_groups l.group l.number l.weight (groups_at (9 - l.group) l.cursor) ≡ varint_at l.fn.cursor;
  encoded : (high : ℕ) (tail : List ℕ) → (0 < l.group → 0 < high) → l.cursor ≡ varint high ++ tail
      → l.fn.cursor ≡ varint (l.number + l.weight * high) ++ tail;
}
