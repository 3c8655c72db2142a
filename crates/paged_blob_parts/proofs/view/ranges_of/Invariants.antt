use Rattle.std.proofs.Common.{◌≡◌, ℕ, map, take}
use Rattle.paged_blob_parts.proofs.view.ranges_of.Given as goal

abbrev pub invariant-loop-offset : goal.invariant-loop-offset
invariant-loop-offset l = l.ranges.items ≡ map (λ (o : ℕ). (o, l.item_size)) (take l.offset-index l.offsets)
