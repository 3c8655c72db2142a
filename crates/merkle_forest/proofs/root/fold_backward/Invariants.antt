use Rattle.std.proofs.Common.{◌≡◌, ◌<◌, map, drop, length}
use Rattle.merkle_forest.specs.Hashing.{folded_backward}
use Rattle.merkle_forest.proofs.root.fold_backward.Given as goal

abbrev pub invariant-loop-index : goal.invariant-loop-index
invariant-loop-index g l =
    let encoding = g.H.Digest.Write.encoding in
    (encoding l.folded ≡ folded_backward g.H.Hasher.hash_of (map encoding (drop l.index l.digests)))
    × (l.index < length l.digests)
