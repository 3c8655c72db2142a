-- Trees that are begun from pinned digests: what stands before the boundary was hashed elsewhere, or nowhere.
use Rattle.std.specs.Prelude.{◌≡◌, ℕ, zero, suc, ◌≤◌, List, [], ◌∷◌, length, Some, unwrap_or}
use Rattle.std.specs.List.{AllByRecursion}
use Rattle.merkle_forest.specs.Forest.{Tree, branch, position, Rule, forest_of}
use Rattle.merkle_forest.specs.Nodes.{IsNodeAt}
use Rattle.merkle_core_parts.specs.Layers.{AreLed, IsLed, IsOfOne}
use Rattle.merkle_core_parts.specs.Mem.{Nodes, Additions, Growth, NodeHash, Replacement, node_count, node_at, digest_at}
use Rattle.merkle_core_parts.specs.Mem.{own_layer, with_leaves, list_peaks}

-- two hashes of branches are one from the nodes of so many leaves on
abbrev pub AreAlikeFrom : Rule → ℕ → NodeHash → NodeHash → Type 0
AreAlikeFrom rule boundary one other =
    (p : ℕ) (left right : List ℕ) → node_count rule boundary ≤ p → one p left right ≡ other p left right

-- a batch changes no leaf before a boundary, which its base reaches
abbrev pub ChangesFrom : ℕ → Additions → Type 0
ChangesFrom boundary batch =
    (boundary ≤ batch.base.leaves) × AllByRecursion (λ one. boundary ≤ one.0) batch.updates

-- what a batch is merkleized over: its base is this list of leaf digests, the batches below it lead from these earlier
-- lists to it, and the tree that is at hand is of one of all these
pub record StandsOver (node : NodeHash) (rule : Rule) (batch : Additions) (base : Nodes) (list : List (List ℕ))
    (earlier : List (List (List ℕ))) : Type 0 where
  pub counted : batch.base.leaves ≡ length list
  pub led : AreLed node rule batch.below earlier list
  pub tree : IsOfOne node rule base (list ∷ earlier)

-- what comes of it: nodes that lead to the list that the batch makes, and the peaks of that list
abbrev pub LeadsOn : NodeHash → Rule → Additions → List (List ℕ) → Growth → Type 0
LeadsOn node rule batch list made =
    IsLed node rule (own_layer made) list (with_leaves list batch)
    × (made.peaks ≡ list_peaks node rule (with_leaves list batch))

-- the hash that gives pinned nodes their digests, and all others those that another hash gives
abbrev pub pinned_hash : List Replacement → NodeHash → NodeHash
pinned_hash pinned node p left right = unwrap_or (digest_at pinned p) (node p left right)

-- the digests of so many leaves from a location on, and nothing for those that the tree lacks
abbrev pub leaves_left : Rule → Nodes → ℕ → ℕ → List (List ℕ)
leaves_left rule nodes first zero = []
leaves_left rule nodes first (suc count) =
    unwrap_or (node_at rule nodes (node_count rule first)) [] ∷ leaves_left rule nodes (suc first) count

-- each branch of a tree from its boundary on is hashed from its children
abbrev pub IsHashedFrom : NodeHash → Rule → Nodes → Type 0
IsHashedFrom node rule nodes = (first p : ℕ) (left right : Tree) (one other : List ℕ)
    → IsNodeAt first (branch p left right) (forest_of rule nodes.leaves) → node_count rule nodes.boundary ≤ p
    → node_at rule nodes (position left) ≡ Some one → node_at rule nodes (position right) ≡ Some other
    → node_at rule nodes p ≡ Some (node p one other)
