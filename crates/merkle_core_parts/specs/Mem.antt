-- A tree that is kept in memory as the digests of its nodes.
use Rattle.std.specs.Prelude.{◌≡◌, ◌==◌, Bool, ℕ, suc, ◌+◌, ◌-◌, ◌≤◌}
use Rattle.std.specs.Prelude.{◌⊎◌, List, [], ◌∷◌, ◌++◌, map, length, drop, find}
use Rattle.std.specs.Prelude.{slice_get, slice_set, slice_index_or, Option, Some, option_map, unwrap_or, nat_le, nat_lt}
use Rattle.std.specs.Prelude.{if◌then◌else◌}
use Rattle.merkle_forest.specs.Forest.{Tree, leaf, branch, position, leaf_count, size, Rule, forest_of}
use Rattle.merkle_forest.specs.declared.bagging.Bagging.{Bagging}
use Rattle.merkle_forest.specs.Hashing.{Hash, leaf_string, node_string, root_of}
use Rattle.merkle_forest.specs.Nodes.{IsNodeAt, IsPeakAt}
use Rattle.merkle_forest.specs.Peaks.{positions_from, peak_positions}
use Rattle.merkle_forest.specs.Trees.{peak_digests as forest_digests}

-- a digest at an index of a list, or at a position of a tree
abbrev pub Replacement : Type 0
Replacement = ℕ × List ℕ

-- What is kept: how many leaves the tree has, the location before which it is pruned, the digests that stay pinned
-- before it, each at its position, and the digests of all nodes from there on, in order of position.
pub record Nodes : Type 0 where
  pub leaves : ℕ
  pub boundary : ℕ
  pub pinned : List Replacement
  pub digests : List (List ℕ)

-- how many nodes a tree of so many leaves has
abbrev pub node_count : Rule → ℕ → ℕ
node_count rule leaves = size (forest_of rule leaves)

-- the digest at a position, of those that stand at positions
abbrev pub digest_at : List Replacement → ℕ → Option (List ℕ)
digest_at digests position = option_map (λ one. one.1) (find (λ one. one.0 == position) digests)

-- the digest at a position, where these stand before a node count and those from it on
abbrev pub known_over : ℕ → List Replacement → List (List ℕ) → ℕ → Option (List ℕ)
known_over start before digests position =
    if nat_lt position start then digest_at before position else slice_get digests (position - start)

-- the digest of the node at a position; None where none stands there
abbrev pub node_at : Rule → Nodes → ℕ → Option (List ℕ)
node_at rule nodes position = known_over (node_count rule nodes.boundary) nodes.pinned nodes.digests position

-- the digest of a branch, from its position and the digests of its two children
abbrev pub NodeHash : Type 0
NodeHash = ℕ → List ℕ → List ℕ → List ℕ

-- the digest of a tree over the leaf digests from `start` on
abbrev pub tree_digest : NodeHash → List (List ℕ) → ℕ → Tree → List ℕ
tree_digest node leaf_digests start (leaf p) = slice_index_or leaf_digests start []
tree_digest node leaf_digests start (branch p left right) =
    node p (tree_digest node leaf_digests start left) (tree_digest node leaf_digests (start + leaf_count left) right)

-- the positions of the nodes that stay pinned where a tree is pruned before a location, from left to right
abbrev pub pinned_positions : Rule → ℕ → List ℕ
pinned_positions rule boundary = map (λ peak. peak.0) (peak_positions (forest_of rule boundary))

-- digests, each at one of these positions, in their order
abbrev pub placed : List ℕ → List (List ℕ) → List Replacement
placed [] digests = []
placed (p ∷ ps) [] = []
placed (p ∷ ps) (digest ∷ digests) = (p, digest) ∷ placed ps digests

-- the shape of what is kept: the pinned digests stand at those positions, and from the boundary on no node is missing
pub record AreKeptNodes (rule : Rule) (nodes : Nodes) : Type 0 where
  pub within : nodes.boundary ≤ nodes.leaves
  pub pinned : map (λ one. one.0) nodes.pinned ≡ pinned_positions rule nodes.boundary
  pub counted : node_count rule nodes.boundary + length nodes.digests ≡ node_count rule nodes.leaves

-- a tree is a peak
abbrev pub IsPeak : Tree → List Tree → Type 0
IsPeak tree peaks = (first : ℕ) × IsPeakAt first tree peaks

-- a peak of the forest of so many leaves stands at this position
abbrev pub IsPeakPosition : Rule → ℕ → ℕ → Type 0
IsPeakPosition rule leaves p = (tree : Tree) × IsPeak tree (forest_of rule leaves) × (position tree ≡ p)

-- a node at this position is kept where a tree is pruned before a location: it is none of the forest of the leaves
-- before it, or one of that forest's peaks
abbrev pub IsKept : Rule → ℕ → ℕ → Type 0
IsKept rule boundary p = (node_count rule boundary ≤ p) ⊎ IsPeakPosition rule boundary p

-- these are the nodes of the tree over these leaf digests, as the rule grows it and branches are hashed: all that are
-- kept
pub record AreNodesOf (node : NodeHash) (rule : Rule) (leaf_digests : List (List ℕ)) (nodes : Nodes) : Type 0 where
  pub counted : nodes.leaves ≡ length leaf_digests
  pub shape : AreKeptNodes rule nodes
  pub digests : (first : ℕ) (tree : Tree) → IsNodeAt first tree (forest_of rule (length leaf_digests))
      → IsKept rule nodes.boundary (position tree)
      → node_at rule nodes (position tree) ≡ Some (tree_digest node leaf_digests first tree)

-- of the tree of so many leaves with these digests at its nodes: those of the peaks that begin at a location or after
-- it, from left to right
abbrev pub digests_from : Rule → ℕ → (ℕ → Option (List ℕ)) → ℕ → List (List ℕ)
digests_from rule leaves digest_of first =
    map (λ peak. unwrap_or (digest_of peak.0) []) (positions_from first (forest_of rule leaves))

-- those of all peaks
abbrev pub peak_digests : Rule → Nodes → List (List ℕ)
peak_digests rule nodes = digests_from rule nodes.leaves (node_at rule nodes) 0

-- the digests of the peaks of the tree over these leaf digests, from left to right
abbrev pub list_peaks : NodeHash → Rule → List (List ℕ) → List (List ℕ)
list_peaks node rule leaf_digests =
    forest_digests (tree_digest node leaf_digests) (forest_of rule (length leaf_digests))

-- the root of the tree over these leaf digests, of whose peaks so many come first as inactive ones
abbrev pub list_root : Hash → NodeHash → Bagging → Rule → List (List ℕ) → ℕ → List ℕ
list_root hash node bagging rule leaf_digests inactive =
    root_of hash bagging (length leaf_digests) inactive (list_peaks node rule leaf_digests)

-- the digests of plain leaves from a location on: each element is hashed with the position of its leaf
abbrev pub plain_leaf_digests : Hash → Rule → ℕ → List (List ℕ) → List (List ℕ)
plain_leaf_digests hash rule first [] = []
plain_leaf_digests hash rule first (element ∷ elements) =
    hash (leaf_string (node_count rule first) element) ∷ plain_leaf_digests hash rule (suc first) elements

-- a plain branch is hashed with its position
abbrev pub plain_node : Hash → NodeHash
plain_node hash position left right = hash (node_string position left right)

-- a tree as a batch remembers it: how many leaves it has, and the digests of its peaks from left to right
pub record Base : Type 0 where
  pub leaves : ℕ
  pub peaks : List (List ℕ)

-- the base that a tree is
abbrev pub base_of : Rule → Nodes → Base
base_of rule nodes = record { leaves = nodes.leaves; peaks = peak_digests rule nodes }

-- a list after these replacements, one after the other
abbrev pub replaced : List (List ℕ) → List Replacement → List (List ℕ)
replaced digests [] = digests
replaced digests (one ∷ more) = replaced (slice_set digests one.0 one.1) more

-- what stands at an index after these replacements, where `old` stood before
abbrev pub value_after : List Replacement → ℕ → List ℕ → List ℕ
value_after [] index old = old
value_after (one ∷ more) index old = value_after more index (if one.0 == index then one.1 else old)

-- the digests from a position on after these replacements
abbrev pub replaced_from : ℕ → List (List ℕ) → List Replacement → List (List ℕ)
replaced_from position [] changes = []
replaced_from position (digest ∷ digests) changes =
    value_after changes position digest ∷ replaced_from (suc position) digests changes

-- digests that stand at positions after these replacements
abbrev pub replaced_at : List Replacement → List Replacement → List Replacement
replaced_at digests changes = map (λ one. (one.0, value_after changes one.0 one.1)) digests

-- the bytes of the digests that are to stand somewhere
abbrev pub encoded : {D : Type 0} → (D → List ℕ) → List (ℕ × D) → List Replacement
encoded encoding digests = map (λ one. (one.0, encoding one.1)) digests

-- what a batch makes of its base: how many leaves there are then, the digests of the new nodes in order of position,
-- and the nodes of the base that get another digest, each at its position
pub record Layer : Type 0 where
  pub base : Base
  pub leaves : ℕ
  pub digests : List (List ℕ)
  pub changed : List Replacement

-- a tree with a layer's nodes after its own, and its own changed as the layer says
abbrev pub with_layer : Rule → Nodes → Layer → Nodes
with_layer rule nodes layer = record {
  leaves = layer.leaves;
  boundary = nodes.boundary;
  pinned = replaced_at nodes.pinned layer.changed;
  digests = replaced_from (node_count rule nodes.boundary) (nodes.digests ++ layer.digests) layer.changed;
}

-- a batch of leaves: the base, the location before which it is pruned, the digests of the leaves that are added to it,
-- and then the leaves of either that get another digest, one after the other, each at its location; the layers of the
-- batches that it is made over, the newest first, and whether some of these were given up
pub record Additions : Type 0 where
  pub base : Base
  pub boundary : ℕ
  pub added : List (List ℕ)
  pub updates : List Replacement
  pub below : List Layer
  pub dropped : Bool

-- the leaf digests of the base with a batch's leaves
abbrev pub with_leaves : List (List ℕ) → Additions → List (List ℕ)
with_leaves leaf_digests batch = replaced (leaf_digests ++ batch.added) batch.updates

-- a batch of nodes: the base, the location before which it is pruned, how many leaves there are then, the digests of
-- the new nodes in order of position, the nodes of the base that get another digest, each at its position, and the
-- digests of the peaks that there are then; the layers of the batches that it is made over, and whether some of these
-- were given up
pub record Growth : Type 0 where
  pub base : Base
  pub boundary : ℕ
  pub leaves : ℕ
  pub digests : List (List ℕ)
  pub changed : List Replacement
  pub peaks : List (List ℕ)
  pub below : List Layer
  pub dropped : Bool

-- what a batch makes of its own base
abbrev pub own_layer : Growth → Layer
own_layer batch = record {
  base = batch.base;
  leaves = batch.leaves;
  digests = batch.digests;
  changed = batch.changed;
}

-- a tree with a batch's nodes after its own, and its own changed as the batch says
abbrev pub with_batch : Rule → Nodes → Growth → Nodes
with_batch rule nodes batch = with_layer rule nodes (own_layer batch)

-- the digests that stay pinned where a tree is pruned before a location, each at its position, from left to right
abbrev pub pinned_digests : Rule → Nodes → ℕ → List Replacement
pinned_digests rule nodes location =
    map (λ peak. (peak.0, unwrap_or (node_at rule nodes peak.0) [])) (peak_positions (forest_of rule location))

-- a tree without the nodes before a location, but for the pinned ones
abbrev pub cut_before : Rule → Nodes → ℕ → Nodes
cut_before rule nodes location = record {
  leaves = nodes.leaves;
  boundary = location;
  pinned = pinned_digests rule nodes location;
  digests = drop (node_count rule location - node_count rule nodes.boundary) nodes.digests;
}

-- a tree pruned before a location; where it is pruned up to there already, it stays
abbrev pub pruned_before : Rule → Nodes → ℕ → Nodes
pruned_before rule nodes location =
    if nat_le location nodes.boundary then nodes else cut_before rule nodes location
