-- Proofs of a bit: what one claims, the root that it leads to, and the honest one. There are three cases:
--
--    bits fill their chunks     the proof is that of the bit's chunk in the tree
--    the bit's chunk is full    that, and the digest of the last chunk
--    the bit's chunk is last    the tree's root alone
use Rattle.std.specs.Prelude.{◌≡◌, ◌⊎◌, ◌==◌, ◌||◌, ℕ, ◌+◌, ◌-◌}
use Rattle.std.specs.Prelude.{◌*◌, ◌/◌, ◌%◌, ◌<◌, ◌++◌, Bool, nat_le, nat_lt}
use Rattle.std.specs.Prelude.{if◌then◌else◌, List, [], ◌∷◌, length, take, slice_index_or, Option, None, Some}
use Rattle.std.specs.Prelude.{option_map}
use Rattle.merkle_forest.specs.declared.bagging.Bagging.{Bagging}
use Rattle.merkle_forest.specs.Forest.{mmr_rule}
use Rattle.merkle_forest.specs.Hashing.{Hash, leaf_string, number}
use Rattle.merkle_forest.specs.Made.{Site, at_bitmap_root, at_last_chunk, Made, bytes, both, hashed, value, strings}
use Rattle.merkle_forest.specs.Made.{Collision}
use Rattle.merkle_core_parts.specs.Mem.{NodeHash, tree_digest, plain_node}
use Rattle.merkle_theory.specs.MadeTrees.{Over}
use Rattle.merkle_theory.specs.Plans.{honest_digests}
use Rattle.merkle_theory.specs.Reads.{range_root}
use Rattle.merkle_theory.specs.Soundness.{plain_names, list_root}
use Rattle.state_theory.specs.Bits.{chunk_at, full_chunks}
use Rattle.state_theory.specs.Maps.{LeafHash, leaf_digests, chunks_root, bitmap_root}

-- the string is hashed at this site too
abbrev pub also : Site → Made → Made
also site (bytes xs) = bytes xs
also site (both a b) = both a b
also site (hashed first more inner) = hashed first (site ∷ more) inner

-- a root where the last chunk is partial: the tree's root, the bit length, and the digest of the last chunk
abbrev pub partial_made : Made → ℕ → Made → Made
partial_made tree bits last = hashed at_bitmap_root [] (both tree (both (bytes (number bits)) last))

-- the digest of the last chunk
abbrev pub last_made : List ℕ → Made
last_made chunk = hashed at_last_chunk [] (bytes chunk)

-- the root of a list of bits as it is made
unfoldable pub made_bitmap : Bagging → ℕ → List Bool → Made
made_bitmap bagging width all =
    let tree = list_root bagging mmr_rule (full_chunks width all) 0 in
    if length all % (8 * width) == 0 then also at_bitmap_root tree
    else partial_made tree (length all) (last_made (chunk_at width all (length all / (8 * width))))

-- what a proof claims: that this is the chunk of a bit, where there are so many bits
pub record BitClaim : Type 0 where
  pub bits : ℕ
  pub inactive : ℕ
  pub digests : List (List ℕ)
  pub bit : ℕ
  pub chunk : List ℕ

-- the root of the tree that the chunk and these digests lead to
abbrev pub tree_read : Over → Bagging → ℕ → BitClaim → List (List ℕ) → Option Made
tree_read over bagging width claim digests =
    range_root plain_names over bagging mmr_rule (claim.bits / (8 * width)) 0 (claim.bit / (8 * width)) (claim.chunk
    ∷ [])
    digests

-- the last digest, and those before it
abbrev pub last_of : List (List ℕ) → List ℕ
last_of digests = slice_index_or digests (length digests - 1) []

abbrev pub front_of : List (List ℕ) → List (List ℕ)
front_of digests = take (length digests - 1) digests

-- the root where the last chunk is partial: the last digest is that of the tree, or of the last chunk
abbrev pub partial_read : Over → Bagging → ℕ → BitClaim → Option Made
partial_read over bagging width claim =
    let last = last_of claim.digests in
    if claim.bits / (8 * width) == claim.bit / (8 * width)
    then (if length claim.digests == 1 then Some (partial_made (bytes last) claim.bits
    (last_made claim.chunk)) else None)
    else (if length claim.digests == 0 then None
    else option_map (λ tree. partial_made tree claim.bits (bytes last))
    (tree_read over bagging width claim (front_of claim.digests)))

-- The root that a proof leads to. None: the bit is past the bits, peaks are inactive, or a digest is missing or left
-- over.
unfoldable pub bit_root : Over → Bagging → ℕ → BitClaim → Option Made
bit_root over bagging width claim =
    if nat_le claim.bits claim.bit || nat_lt 0 claim.inactive then None
    else (if claim.bits % (8 * width) == 0
    then option_map (also at_bitmap_root) (tree_read over bagging width claim claim.digests)
    else partial_read over bagging width claim)

-- the claim is true of this list of bits
pub record IsTrueOf (width : ℕ) (all : List Bool) (claim : BitClaim) : Type 0 where
  pub counted : claim.bits ≡ length all
  pub there : claim.bit < length all
  pub chunk : claim.chunk ≡ chunk_at width all (claim.bit / (8 * width))

-- plain leaves are hashed with their positions
abbrev pub plain_leaf : Hash → LeafHash
plain_leaf hash position element = hash (leaf_string position element)

-- the root of a list of bits over a plain tree
abbrev pub plain_root : Hash → Bagging → ℕ → List Bool → List ℕ
plain_root hash bagging width all = bitmap_root hash (plain_leaf hash) (plain_node hash) bagging width all

-- where the claim leads to the root of this list of bits it is true of the list, or the strings collide
abbrev pub IsSound : Hash → Bagging → ℕ → List Bool → BitClaim → Made → Type 0
IsSound hash bagging width all claim made = value hash made ≡ plain_root hash bagging width all
    → IsTrueOf width all claim ⊎ Collision hash (strings hash (made_bitmap bagging width all)) (strings hash made)

-- the digests of the honest proof of a bit
unfoldable pub honest_bit_digests : Hash → LeafHash → NodeHash → Bagging → ℕ → List Bool → ℕ → List (List ℕ)
honest_bit_digests hash leaf_of node_of bagging width all bit =
    let chunks = full_chunks width all in
    let chunk = bit / (8 * width) in
    let tree = honest_digests hash (tree_digest node_of (leaf_digests leaf_of 0 chunks)) bagging
    mmr_rule (length chunks) 0
    chunk (chunk + 1) in
    if length all % (8 * width) == 0 then tree
    else (if length all / (8 * width) == chunk then chunks_root hash leaf_of node_of bagging width all ∷ []
    else tree ++ hash (chunk_at width all (length all / (8 * width))) ∷ [])

-- the honest claim of a bit
abbrev pub honest_claim : Hash → LeafHash → NodeHash → Bagging → ℕ → List Bool → ℕ → BitClaim
honest_claim hash leaf_of node_of bagging width all bit = record {
  bits = length all;
  inactive = 0;
  digests = honest_bit_digests hash leaf_of node_of bagging width all bit;
  bit = bit;
  chunk = chunk_at width all (bit / (8 * width));
}
