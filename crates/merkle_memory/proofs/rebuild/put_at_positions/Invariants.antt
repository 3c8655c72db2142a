use Rattle.std.proofs.Common.{◌≡◌, ◌++◌, take, drop}
use Rattle.merkle_core_parts.specs.Mem.{encoded, replaced_at}
use Rattle.merkle_memory.proofs.rebuild.put_at_positions.Given as goal

abbrev pub invariant-loop-place : goal.invariant-loop-place
invariant-loop-place g l =
    encoded g.D.Write.encoding l.digests
    ≡ replaced_at (take l.place (encoded g.D.Write.encoding l.fn.digests)) (encoded g.D.Write.encoding l.changes)
    ++ drop l.place (encoded g.D.Write.encoding l.fn.digests)
