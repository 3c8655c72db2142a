use Rattle.std.proofs.Common.{◌≡◌, ◌++◌, ◌-◌, length}
use Rattle.std.specs.List.{flat_map, All}
use Rattle.merkle_forest_parts.specs.Lists.{after_items}
use Rattle.merkle_forest_parts.proofs.codec.list.VecRead.read_cfg.Given as goal

abbrev pub invariant-loop-read : goal.invariant-loop-read
invariant-loop-read g l = record {
  count : length l.items.items ≡ l.read;
  exact : after_items (g.D.Read.after tt) (l.count - l.read) l.cursor
      ≡ after_items (g.D.Read.after tt) l.count l.initial.cursor;
  values : All g.D.Write.is_value l.items.items;
  encoded : l.initial.cursor ≡ flat_map g.D.Write.encoding l.items.items ++ l.cursor;
}
