-- What is kept of a state: two trees, bits and the floor.
use Rattle.std.specs.Prelude.{◌≡◌, ℕ, ◌*◌, ◌/◌, ◌^◌, ◌<◌, ◌≤◌, false, List, length, slice_index_or}
use Rattle.merkle_forest.specs.Forest.{Rule, forest_of}
use Rattle.merkle_forest.specs.Hashing.{Hash}
use Rattle.merkle_forest.specs.Nodes.{nodes_of_height}
use Rattle.merkle_core_parts.specs.Mem.{AreNodesOf, Nodes, node_at, plain_leaf_digests, plain_node}
use Rattle.merkle_theory.specs.Plans.{Lookup}
use Rattle.state_theory.specs.Bits.{Bits, all_bits, bit_count}
use Rattle.state_theory.specs.Canonical.{Setting, State}
use Rattle.state_theory.specs.GraftedNodes.{AreGraftedLeaves, chunks_node, grafted_lookup}
use Rattle.state_current.specs.Settled.{IsSettled}

-- the tree of the operations, that of the chunks, the bits and the floor
pub record Kept : Type 0 where
  pub operations : Nodes
  pub chunks : Nodes
  pub bits : Bits
  pub floor : ℕ

-- these fit each other: they are pruned before one chunk, and so many chunks are settled
pub record AreTogether (rule : Rule) (width : ℕ) (kept : Kept) : Type 0 where
  pub level : ℕ
  pub whole : 8 * width ≡ 2 ^ level
  pub low : level ≤ 62
  pub bits : bit_count width kept.bits ≡ kept.operations.leaves
  pub leaves : kept.chunks.leaves ≡ nodes_of_height level (forest_of rule kept.operations.leaves)
  pub pruned : kept.chunks.boundary ≡ kept.bits.pruned
  pub pruned_operations : kept.operations.boundary ≡ kept.bits.pruned * 2 ^ level
  pub settled : IsSettled rule level kept.operations.leaves kept.bits.pruned

-- what is kept stands for a state
pub record StandsFor (setting : Setting) (state : State) (kept : Kept) : Type 0 where
  pub whole : 8 * setting.width ≡ 2 ^ setting.grafting_height
  pub operations : AreNodesOf (plain_node setting.hash) setting.rule
      (plain_leaf_digests setting.hash setting.rule 0 state.operations) kept.operations
  pub leaf_digests : List (List ℕ)
  pub joined : AreGraftedLeaves setting state leaf_digests
  pub chunks : AreNodesOf (chunks_node setting.hash setting.rule setting.grafting_height) setting.rule
      leaf_digests kept.chunks
  pub bits : state.bits ≡ all_bits setting.width kept.bits
  pub floor : kept.floor ≡ state.floor

-- of so many operations a full chunk has no node yet; the digest of one has this size
pub record IsPendingAmong (rule : Rule) (width operations size : ℕ) (digest : List ℕ) : Type 0 where
  pub sized : length digest ≡ size
  pub behind : (height : ℕ) → 8 * width ≡ 2 ^ height
      → nodes_of_height height (forest_of rule operations) < operations / 2 ^ height

-- no bit before a location is set
abbrev pub AreClearBefore : ℕ → Bits → ℕ → Type 0
AreClearBefore width bits location = (at : ℕ) → at < location → slice_index_or (all_bits width bits) at false ≡ false

-- the digests that are read of both trees, as the nodes of the grafted tree
abbrev pub read_of : Rule → Hash → ℕ → Kept → Lookup
read_of rule hash grafting_height kept = grafted_lookup rule hash (record {
  grafting_height = grafting_height;
  operations = node_at rule kept.operations;
  chunks = node_at rule kept.chunks;
})
