-- The parts of a map whose chunks are pruned, and the map that is made of them again.
--
--    chunks  [ pruned ][ pruned ][ pruned ][ kept ]1 0 1       the parts: 3, and the digests of the two peaks of the
--                0         1         3                         tree over three leaves
--                 \       /          |
--    peaks            2              3
use Rattle.std.specs.Prelude.{◌≡◌, ℕ, List, [], Bool, Some, map, length}
use Rattle.merkle_forest.specs.Forest.{mmr_rule, forest_of}
use Rattle.merkle_forest.specs.Trees.{peak_digests}
use Rattle.merkle_core_parts.specs.Mem.{Nodes, NodeHash, node_at, pinned_positions, placed, tree_digest}
use Rattle.state_theory.specs.Bits.{Bits, full_chunks}
use Rattle.state_theory.specs.Maps.{LeafHash, leaf_digests}

-- these are the digests of the nodes of a tree that stay pinned where so many leaves are pruned, from left to right
abbrev pub ArePinned : Nodes → ℕ → List (List ℕ) → Type 0
ArePinned tree count digests =
    map (λ digest. Some digest) digests ≡ map (node_at mmr_rule tree) (pinned_positions mmr_rule count)

-- the digests of the peaks of the tree over the chunks that a list of bits fills, from left to right
unfoldable pub chunk_peaks : LeafHash → NodeHash → ℕ → List Bool → List (List ℕ)
chunk_peaks leaf_of node_of width all =
    let leaves = leaf_digests leaf_of 0 (full_chunks width all) in
    peak_digests (tree_digest node_of leaves) (forest_of mmr_rule (length leaves))

-- the bits where so many chunks are pruned, and there are no others
abbrev pub pruned_bits : ℕ → Bits
pruned_bits count = record { pruned = count; kept = [] }

-- the tree of so many leaves, all pruned, with these digests at its peaks
abbrev pub pruned_tree : ℕ → List (List ℕ) → Nodes
pruned_tree count digests = record {
  leaves = count;
  boundary = count;
  pinned = placed (pinned_positions mmr_rule count) digests;
  digests = [];
}
