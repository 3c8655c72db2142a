use Rattle.std.proofs.Common.{◌≡◌, ◌++◌, take}
use Rattle.merkle_core_parts.specs.Mem.{encoded}
use Rattle.merkle_memory.proofs.batch.push_updates.Given as goal

abbrev pub invariant-loop-location : goal.invariant-loop-location
invariant-loop-location g l =
    encoded g.D.Write.encoding l.updates.items
    ≡ encoded g.D.Write.encoding l.fn.updates.items ++ encoded g.D.Write.encoding (take l.location-index l.more)
