use Rattle.std.proofs.Common.{◌≡◌, map, drop}
use Rattle.merkle_forest.specs.Hashing.{folded_onto}
use Rattle.merkle_forest.proofs.root.fold_onto.Given as goal

abbrev pub invariant-loop-digest : goal.invariant-loop-digest
invariant-loop-digest g l =
    let encoding = g.H.Digest.Write.encoding in
    folded_onto g.H.Hasher.hash_of (encoding l.folded) (map encoding (drop l.digest-index l.digests))
    ≡ folded_onto g.H.Hasher.hash_of (encoding l.fn.first) (map encoding l.digests)
