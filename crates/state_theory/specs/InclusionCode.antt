-- What the code puts together as the digests of a proof.
use Rattle.std.specs.Prelude.{◌==◌, ℕ, ◌+◌, ◌*◌, ◌%◌, if◌then◌else◌, List, [], ◌∷◌, ◌++◌, length}
use Rattle.merkle_forest.specs.declared.bagging.Bagging.{Bagging}
use Rattle.merkle_forest.specs.Forest.{mmr_rule}
use Rattle.merkle_forest.specs.Hashing.{Hash}
use Rattle.merkle_core_parts.specs.Mem.{NodeHash, tree_digest, list_root}
use Rattle.merkle_theory.specs.Plans.{honest_digests}
use Rattle.state_theory.specs.Bits.{Bits, last_chunk}

-- the digest of the last chunk, where it is partial
abbrev pub last_digests : Hash → ℕ → Bits → List (List ℕ)
last_digests hash width bits =
    if length bits.kept % (8 * width) == 0 then [] else hash (last_chunk width bits.kept).0 ∷ []

-- the digests of the proof of a chunk's bits, over a tree with these leaves
unfoldable pub proof_digests : Hash → NodeHash → Bagging → ℕ → List (List ℕ) → Bits → ℕ → List (List ℕ)
proof_digests hash node_of bagging width leaves bits chunk =
    if chunk == length leaves then list_root hash node_of bagging mmr_rule leaves 0 ∷ []
    else honest_digests hash (tree_digest node_of leaves) bagging mmr_rule (length leaves) 0 chunk (chunk + 1)
    ++ last_digests hash width bits
