use Rattle.std.proofs.Common.{◌≡◌, take}
use Rattle.paged_blob_parts.specs.Served.{total}
use Rattle.pages_player.proofs.many.buffer_of_ranges.Given as goal

abbrev pub invariant-loop-range : goal.invariant-loop-range
invariant-loop-range l = l.count ≡ total (take l.range-index l.ranges)
