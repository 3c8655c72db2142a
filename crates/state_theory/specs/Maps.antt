-- A list of bits with a tree over the chunks that it fills: what is kept of both, whose list it is, and its root.
--
--    bits    [ chunk 0 ][ chunk 1 ][ chunk 2 ]1 0 1        the tree's elements are the full chunks; the bits after them
--                 |          |          |                  stand in none, and are hashed into the root:
--    leaves       0          1          3
--                   \      /            |                      tree's root | 8 bytes: 27 bits | digest of chunk 3
--    peaks             2                3
use Rattle.std.specs.Prelude.{◌≡◌, ◌==◌, ℕ, suc, ◌+◌, ◌*◌, ◌/◌, ◌%◌, ◌<◌, ◌≤◌, ◌++◌, Bool, false, nat_le}
use Rattle.std.specs.Prelude.{if◌then◌else◌, List, [], ◌∷◌, length, slice_index_or}
use Rattle.std.specs.List.{AllByRecursion, list_any}
use Rattle.merkle_forest.specs.declared.bagging.Bagging.{Bagging}
use Rattle.merkle_forest.specs.Forest.{mmr_rule}
use Rattle.merkle_forest.specs.Hashing.{Hash, number, root_of}
use Rattle.merkle_core_parts.specs.Mem.{Nodes, NodeHash, AreNodesOf, node_count, peak_digests, list_root}
use Rattle.state_theory.specs.Bits.{Bits, IsChunkWidth, AreBitsOf, bit_count, chunk_at, full_chunks, last_chunk}
use Rattle.state_theory.specs.Bits.{pruned_to}

-- how a leaf is hashed: from its position and its element
abbrev pub LeafHash : Type 0
LeafHash = ℕ → List ℕ → List ℕ

-- the digests of these chunks as leaves, from a location on
abbrev pub leaf_digests : LeafHash → ℕ → List (List ℕ) → List (List ℕ)
leaf_digests leaf_of first [] = []
leaf_digests leaf_of first (chunk ∷ chunks) =
    leaf_of (node_count mmr_rule first) chunk ∷ leaf_digests leaf_of (suc first) chunks

-- the root of the tree over the chunks that a list of bits fills
unfoldable pub chunks_root : Hash → LeafHash → NodeHash → Bagging → ℕ → List Bool → List ℕ
chunks_root hash leaf_of node_of bagging width all =
    list_root hash node_of bagging mmr_rule (leaf_digests leaf_of 0 (full_chunks width all)) 0

-- the string of a root: the tree's root, the bit length, and the digest of the last chunk
abbrev pub bitmap_string : List ℕ → ℕ → List ℕ → List ℕ
bitmap_string tree_root bits last = tree_root ++ (number bits ++ last)

-- The root of so many bits, from the tree's root and the last chunk: where the bits fill their chunks it is the tree's.
unfoldable pub sealed_root : Hash → ℕ → List ℕ → ℕ → List ℕ → List ℕ
sealed_root hash width tree_root bits last =
    if bits % (8 * width) == 0 then tree_root else hash (bitmap_string tree_root bits (hash last))

-- the root of a list of bits
unfoldable pub bitmap_root : Hash → LeafHash → NodeHash → Bagging → ℕ → List Bool → List ℕ
bitmap_root hash leaf_of node_of bagging width all =
    sealed_root hash width (chunks_root hash leaf_of node_of bagging width all) (length all)
    (chunk_at width all (length all / (8 * width)))

-- a map is merkleized, and has this root; or chunks of which the tree has leaves may have changed, those at these
-- indices
pub data Stage : Type 0 where
  merkleized : List ℕ → Stage
  changed : List ℕ → Stage

-- what is kept of a list of bits, and of the tree over its chunks
pub record Map : Type 0 where
  pub bits : Bits
  pub tree : Nodes
  pub stage : Stage

-- the chunks that may differ from their leaves
abbrev pub changed_chunks : Stage → List ℕ
changed_chunks (merkleized root) = []
changed_chunks (changed chunks) = chunks

-- a number is one of these
abbrev pub is_one_of : ℕ → List ℕ → Bool
is_one_of n numbers = list_any (λ m. m == n) numbers

-- the bits without the chunks before the one at an index; where these are pruned already they stay
abbrev pub bits_before : ℕ → Bits → ℕ → Bits
bits_before width bits index = if nat_le index bits.pruned then bits else pruned_to width bits index

-- how many chunks the bits fill, with those that are pruned
abbrev pub full_count : ℕ → Bits → ℕ
full_count width bits = bits.pruned + length bits.kept / (8 * width)

-- a merkleized map has a leaf of each full chunk; else leaves may be missing, and what may have changed is not pruned
abbrev pub HasLeaves : ℕ → Bits → ℕ → Stage → Type 0
HasLeaves width bits leaves (merkleized root) = leaves ≡ full_count width bits
HasLeaves width bits leaves (changed chunks) =
    (leaves ≤ full_count width bits) × AllByRecursion (λ chunk. (bits.pruned ≤ chunk) × (chunk < leaves)) chunks

-- bits and tree fit each other: both are pruned before one chunk
pub record IsMap (width : ℕ) (bits : Bits) (tree : Nodes) (stage : Stage) : Type 0 where
  pub wide : IsChunkWidth width
  pub pruned : tree.boundary ≡ bits.pruned
  pub leaves : HasLeaves width bits tree.leaves stage

-- The tree has a leaf of each of the first chunks of a list of bits, but for those that may have changed.
pub record AreLeavesOf (leaf_of : LeafHash) (node_of : NodeHash) (width : ℕ) (all : List Bool) (tree : Nodes)
    (chunks : List ℕ) : Type 0 where
  pub digests : List (List ℕ)
  pub nodes : AreNodesOf node_of mmr_rule digests tree
  pub full : 8 * width * length digests ≤ length all
  pub clean : (i : ℕ) → i < length digests → is_one_of i chunks ≡ false
      → slice_index_or digests i [] ≡ leaf_of (node_count mmr_rule i) (chunk_at width all i)

-- the map is one of this list of bits, as its hasher hashes leaves and branches
pub record IsMapOf (leaf_of : LeafHash) (node_of : NodeHash) (width : ℕ) (all : List Bool) (map : Map) : Type 0 where
  pub bits : AreBitsOf width all map.bits
  pub leaves : AreLeavesOf leaf_of node_of width all map.tree (changed_chunks map.stage)

-- the root of a merkleized map, out of what is kept
unfoldable pub map_root : Hash → Bagging → ℕ → Bits → Nodes → List ℕ
map_root hash bagging width bits tree =
    sealed_root hash width (root_of hash bagging tree.leaves 0 (peak_digests mmr_rule tree)) (bit_count width bits)
    (last_chunk width bits.kept).0
