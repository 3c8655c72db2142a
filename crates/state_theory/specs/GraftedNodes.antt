-- Nodes of the grafted tree, read from two trees: that of the operations, and that of the chunks, whose leaves are the
-- operations' nodes of the grafting height with their chunks joined in.
use Rattle.std.specs.Prelude.{◌≡◌, ℕ, ◌+◌, ◌-◌, ◌*◌, ◌/◌, ◌^◌}
use Rattle.std.specs.Prelude.{◌==◌, ◌&&◌, nat_lt, if◌then◌else◌, List, [], ◌∷◌, length}
use Rattle.std.specs.Prelude.{Option, None, Some, option_map, option_and_then, unwrap_or, slice_get}
use Rattle.std.specs.Option.{option_or}
use Rattle.merkle_forest.specs.Forest.{Tree, leaf, branch, position, height, leaf_count, leaves, Rule, forest_of}
use Rattle.merkle_forest.specs.Hashing.{Hash, node_string}
use Rattle.merkle_forest.specs.Nodes.{IsNodeAt, nodes_of_height}
use Rattle.merkle_forest.specs.Trees.{plain_digest}
use Rattle.merkle_core_parts.specs.Mem.{NodeHash, plain_leaf_digests, plain_node}
use Rattle.merkle_theory.specs.Plans.{IsLookupOf, Lookup}
use Rattle.merkle_theory.specs.MultiReads.{both_there}
use Rattle.state_theory.specs.Canonical.{Setting, State, chunk, forest, grafted_digests}
use Rattle.state_theory.specs.Grafting.{grafted}
use Rattle.state_theory.specs.SameNodes.{IsSameNode}
use Rattle.state_theory.specs.Verifier.{node_at}

-- the node of a height that begins at a location: in a tree, and in a forest
abbrev pub over_in : ℕ → ℕ → ℕ → Tree → Option Tree
over_in first high at (leaf p) = if at == first && height (leaf p) == high then Some (leaf p) else None
over_in first high at (branch p left right) =
    if at == first && height (branch p left right) == high then Some (branch p left right)
    else option_or (over_in first high at left) (over_in first high (at + leaf_count left) right)

abbrev pub over_among : ℕ → ℕ → List Tree → Option Tree
over_among first high [] = None
over_among first high (peak ∷ peaks) = option_or (over_in first high (leaves peaks) peak) (over_among first high peaks)

-- in the greatest forest of the rule
unfoldable pub node_over : Rule → ℕ → ℕ → Option Tree
node_over rule first high = over_among first high (forest_of rule (2 ^ 62))

-- the position of the operations' node over the same chunks as a node of the tree of the chunks, which is told by its
-- first chunk and its height; another position where there is none
abbrev pub position_or : Rule → ℕ → ℕ → Option (ℕ × ℕ) → ℕ
position_or rule grafting_height other None = other
position_or rule grafting_height other (Some x) =
    unwrap_or (option_map position (node_over rule (x.0 * 2 ^ grafting_height) (x.1 + grafting_height))) other

-- the position, in the tree of the operations, of the node at a position of the tree of the chunks; that position
-- itself where the greatest tree of operations has no such node
unfoldable pub operations_position : Rule → ℕ → ℕ → ℕ
operations_position rule grafting_height p = position_or rule grafting_height p (node_at rule p)

-- a branch of the tree of the chunks is hashed with its position in the tree of the operations
abbrev pub chunks_node : Hash → Rule → ℕ → NodeHash
chunks_node hash rule grafting_height p left right =
    hash (node_string (operations_position rule grafting_height p) left right)

-- the digest of a node of the tree of the chunks: as it is known, or else made of those of its two children
abbrev pub known_or_made : NodeHash → Lookup → Tree → Option (List ℕ)
known_or_made node known (leaf p) = known p
known_or_made node known (branch p left right) =
    option_or (known p) (both_there (node p) (known_or_made node known left) (known_or_made node known right))

-- the grafting height, and the digests that are known of the nodes of both trees
pub record TwoTrees : Type 0 where
  pub grafting_height : ℕ
  pub operations : Lookup
  pub chunks : Lookup

-- the digest of the node at a position of the tree of the operations, from its first leaf and its height: below the
-- grafting height as it is known there, from that height on that of the node over the same chunks
abbrev pub digest_of_found : Rule → Hash → TwoTrees → ℕ → Option (ℕ × ℕ) → Option (List ℕ)
digest_of_found rule hash trees p None = None
digest_of_found rule hash trees p (Some x) =
    if nat_lt x.1 trees.grafting_height then trees.operations p
    else option_and_then (known_or_made (chunks_node hash rule trees.grafting_height) trees.chunks)
    (node_over rule (x.0 / 2 ^ trees.grafting_height) (x.1 - trees.grafting_height))

-- the nodes of the grafted tree
unfoldable pub grafted_lookup : Rule → Hash → TwoTrees → Lookup
grafted_lookup rule hash trees p = digest_of_found rule hash trees p (node_at rule p)

-- what is known of the tree of a state's operations is theirs
abbrev pub IsLookupOfOperations : Setting → State → Lookup → Type 0
IsLookupOfOperations setting state known =
    IsLookupOf (plain_node setting.hash) setting.rule (plain_leaf_digests setting.hash setting.rule 0
    state.operations) known

-- what is known of the tree of a state's chunks are the grafted digests of the operations' nodes over the same chunks
abbrev pub IsLookupOfChunks : Setting → State → Lookup → Type 0
IsLookupOfChunks setting state known =
    (first p : ℕ) (tree : Tree) (digest : List ℕ) → IsNodeAt first tree (forest setting state)
    → IsSameNode setting.rule setting.grafting_height (position tree) p → known p ≡ Some digest
    → digest ≡ grafted_digests setting state first tree

-- the leaves of the tree of a state's chunks: one for each chunk that has its node, the digest of that node with the
-- chunk joined in
pub record AreGraftedLeaves (setting : Setting) (state : State) (leaf_digests : List (List ℕ)) : Type 0 where
  pub counted : length leaf_digests ≡ nodes_of_height setting.grafting_height (forest setting state)
  pub joined : (index : ℕ) (node : Tree) → IsNodeAt (index * 2 ^ setting.grafting_height) node (forest setting state)
      → height node ≡ setting.grafting_height
      → slice_get leaf_digests index ≡ Some (grafted setting.hash (chunk setting state index)
      (plain_digest setting.hash state.operations (index * 2 ^ setting.grafting_height) node))
