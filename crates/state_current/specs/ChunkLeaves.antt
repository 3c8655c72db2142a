-- What the code adds to a batch to bring the tree of the chunks to a state that has grown.
use Rattle.std.specs.Prelude.{ℕ, zero, suc, ◌-◌, ◌*◌, ◌/◌, ◌^◌, ◌<◌, ◌≤◌, nat_lt, if◌then◌else◌, List, [], ◌∷◌, length}
use Rattle.std.specs.Prelude.{unwrap_or}
use Rattle.merkle_forest.specs.Forest.{Rule, forest_of}
use Rattle.merkle_forest.specs.Hashing.{Hash}
use Rattle.merkle_forest.specs.Nodes.{HasNode}
use Rattle.merkle_core_parts.specs.Mem.{Nodes, Replacement, node_at}
use Rattle.state_theory.specs.Bits.{Bits, chunk_at}
use Rattle.state_theory.specs.Grafting.{grafted}

-- the digest of the leaf of a chunk, from the tree of the operations and the bits, where `root` tells a node's position
abbrev pub chunk_leaf : Rule → (ℕ → ℕ → ℕ) → Hash → ℕ → ℕ → Nodes → Bits → ℕ → List ℕ
chunk_leaf rule root hash width level tree bits chunk =
    grafted hash (chunk_at width bits.kept (chunk - bits.pruned))
    (unwrap_or (node_at rule tree (root (chunk * 2 ^ level) level)) [])

-- that digest can be made: the chunk is not pruned, has a bit, and has its node in the tree
pub record IsReady (rule : Rule) (width level : ℕ) (tree : Nodes) (bits : Bits) (chunk : ℕ) : Type 0 where
  pub kept : bits.pruned ≤ chunk
  pub bit : 8 * width * (chunk - bits.pruned) < length bits.kept
  pub node : HasNode (forest_of rule tree.leaves) (chunk * 2 ^ level) level
  pub there : tree.boundary ≤ chunk * 2 ^ level

-- those of so many chunks from one on
abbrev pub leaves_from : (ℕ → List ℕ) → ℕ → ℕ → List (List ℕ)
leaves_from leaf first zero = []
leaves_from leaf first (suc count) = leaf first ∷ leaves_from leaf (suc first) count

-- those of the chunks over these places, each at its location, of which there are so many
abbrev pub leaves_over : (ℕ → List ℕ) → ℕ → ℕ → List ℕ → List Replacement
leaves_over leaf size count [] = []
leaves_over leaf size count (at ∷ places) =
    if nat_lt (at / size) count then (at / size, leaf (at / size)) ∷ leaves_over leaf size count places
    else leaves_over leaf size count places
