use Rattle.std.proofs.Common.{◌≡◌, ◌+◌, ℕ, map, take}
use Rattle.std.specs.Prelude.{slice_get, option_map}
use Rattle.merkle_core_parts.specs.Mem.{encoded, value_after}
use Rattle.merkle_memory.proofs.rebuild.put_digests.Given as goal

abbrev pub invariant-loop-index : goal.invariant-loop-index
invariant-loop-index g l = (k : ℕ) → slice_get (map g.D.Write.encoding l.digests) k
    ≡ option_map (value_after (encoded g.D.Write.encoding (take l.index-index l.changes)) (l.first + k))
    (slice_get (map g.D.Write.encoding l.fn.digests) k)
