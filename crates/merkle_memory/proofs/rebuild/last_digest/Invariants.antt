use Rattle.std.proofs.Common.{◌≡◌, take}
use Rattle.merkle_core_parts.specs.Mem.{encoded, value_after}
use Rattle.merkle_memory.proofs.rebuild.last_digest.Given as goal

abbrev pub invariant-loop-at : goal.invariant-loop-at
invariant-loop-at g l =
    g.D.Write.encoding l.last
    ≡ value_after (encoded g.D.Write.encoding (take l.at-index l.changes)) l.position (g.D.Write.encoding l.fn.digest)
