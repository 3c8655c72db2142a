-- What is read of a state's two trees, pruned or not.
use Rattle.std.proofs.Common.{◌≡◌, ℕ, ◌+◌, ◌*◌, ◌^◌, ◌<◌, ◌≤◌, inl, inr}
use Rattle.std.proofs.Common.{true, false, List, length, Option, None, Some, refl, ◌∙◌, ap, subst, arith}
use Rattle.std.specs.Prelude.{IsSome, IfSome}
use Rattle.merkle_forest.specs.Forest.{Tree, position, height, Rule, forest_of}
use Rattle.merkle_forest.specs.Hashing.{Hash}
use Rattle.merkle_forest.specs.Laws.ForestGrowth.{leaves-forest_of, size-mono, size-lt}
use Rattle.merkle_forest.specs.Laws.NodeGrowth.{node-stays, numbered}
use Rattle.merkle_forest.specs.Laws.Nodes.{node-fits}
use Rattle.merkle_forest.specs.Laws.Peaks.{leaf_count-pos}
use Rattle.merkle_forest.specs.Nodes.{HasNode, IsNodeAt, IsPeakAt, nodes_of_height}
use Rattle.merkle_forest.specs.Perfect.{IsPairing}
use Rattle.merkle_core_parts.specs.Laws.Held.{kept-there, peak-there, right-there}
use Rattle.merkle_core_parts.specs.Laws.Kept.{later}
use Rattle.merkle_core_parts.specs.Laws.Plain.{length-plain}
use Rattle.merkle_core_parts.specs.Mem.{AreKeptNodes, AreNodesOf, Nodes, node_at, node_count, plain_leaf_digests, plain_node, tree_digest}
use Rattle.state_theory.specs.Canonical.{Setting, State, forest, grafted_digests}
use Rattle.state_theory.specs.GraftedNodes.{AreGraftedLeaves, IsLookupOfOperations, TwoTrees, chunks_node, grafted_lookup}
use Rattle.state_theory.specs.Laws.GraftedNodes.{Aligned, Roots}
use Rattle.state_theory.specs.Laws.GraftedTrees.{chunks_are, nodes_are}
use Rattle.state_theory.specs.Laws.SameNodes.{AreBorn}
use Rattle.state_current.specs.Settled.{IsAbove}
use Rattle.state_current.proofs.LeafLemmas.{Counted}
use Rattle.state_current.proofs.PrunedLemmas.{node_there}

-- a node over leaves from a boundary on comes after the nodes of those before it
pub after_boundary : (rule : Rule) → IsPairing rule → (b n first : ℕ) (tree : Tree) → b ≤ first → IsNodeAt first tree (forest_of rule n)
    → node_count rule b ≤ position tree
after_boundary rule pairs b n first tree le stands =
    let At : ℕ → Type 0 = λ k. IsNodeAt first tree (forest_of rule k) in
    let wide : IsNodeAt first tree (forest_of rule (b + n)) = node-stays rule pairs n (b + n) first tree (omega arith) stands in
    elim (later rule pairs b n first tree wide) [
      | inl old ↦ absurd (omega (arith, node-fits first tree (forest_of rule b) old, leaves-forest_of rule pairs b, leaf_count-pos tree, le))
      | inr new ↦ new
    ]

exactly : (found : Option (List ℕ)) (digest : List ℕ) → IsSome found → ((d : List ℕ) → found ≡ Some d → d ≡ digest) → found ≡ Some digest
exactly None digest some each = absurd (let e : false ≡ true = some in cc)
exactly (Some d) digest some each = ap (λ x. Some x) (each d refl)

-- ---- what is there, by the shapes of both trees
module _ (rule : Rule) (root : ℕ → ℕ → ℕ) (pairs : IsPairing rule) (roots : Roots rule root) (aligned : Aligned rule) (hash : Hash)
    (level : ℕ) (birth : ℕ → ℕ → ℕ) (born : AreBorn rule birth) (counted : Counted rule level) where
  module _ (n : ℕ) (few : n ≤ 2 ^ 62) (operations chunks : Nodes) (shape : AreKeptNodes rule operations)
      (chunks_shape : AreKeptNodes rule chunks) (all : operations.leaves ≡ n) (graftable : chunks.leaves ≡ nodes_of_height level (forest_of rule n))
      (pruned : operations.boundary ≤ chunks.boundary * 2 ^ level) where
    abbrev kept_trees : TwoTrees
    kept_trees = record { grafting_height = level; operations = node_at rule operations; chunks = node_at rule chunks }

    low_there : (first : ℕ) (tree : Tree) → IsNodeAt first tree (forest_of rule n) → chunks.boundary * 2 ^ level ≤ first
        → IsSome (node_at rule operations (position tree))
    low_there first tree stands after =
        kept-there rule operations (position tree) shape
        (inl (after_boundary rule pairs operations.boundary n first tree (omega (arith, pruned, after)) stands))
        (omega (arith, (numbered rule pairs n).below first tree stands, ap (node_count rule) all))

    pinned_there : (first : ℕ) (peak : Tree) → IsPeakAt first peak (forest_of rule chunks.boundary) → IsSome (node_at rule chunks (position peak))
    pinned_there first peak stands =
        peak-there rule pairs chunks chunks.boundary (position peak) chunks_shape (omega arith) chunks_shape.within
        (peak, (first, stands), refl)

    leaf_there : (i : ℕ) → chunks.boundary ≤ i → HasNode (forest_of rule n) (i * 2 ^ level) level
        → IsSome (node_at rule chunks (node_count rule i))
    leaf_there i after there =
        let lt : i < chunks.leaves = omega (arith, (counted n i few).0 there, graftable) in
        kept-there rule chunks (node_count rule i) chunks_shape
        (inl (size-mono rule pairs chunks.boundary i after))
        (size-lt rule pairs i chunks.leaves lt)

    pub node_kept : (first : ℕ) (tree : Tree) → IsNodeAt first tree (forest_of rule n) → IsAbove rule level chunks.boundary first (height tree)
        → IsSome (grafted_lookup rule hash kept_trees (position tree))
    node_kept first tree stands above =
        node_there rule root pairs roots aligned hash n level chunks.boundary (node_at rule chunks) pinned_there leaf_there birth born few
        (node_at rule operations) (λ f t t_stands low after. low_there f t t_stands after) first tree stands above

module _ (setting : Setting) (root : ℕ → ℕ → ℕ) (pairs : IsPairing setting.rule) (roots : Roots setting.rule root)
    (aligned : Aligned setting.rule) (whole : 8 * setting.width ≡ 2 ^ setting.grafting_height) (birth : ℕ → ℕ → ℕ)
    (born : AreBorn setting.rule birth) (counted : Counted setting.rule setting.grafting_height) where
  abbrev rule : Rule
  rule = setting.rule

  abbrev hash : Hash
  hash = setting.hash

  abbrev level : ℕ
  level = setting.grafting_height

  module _ (state : State) (few : length state.operations ≤ 2 ^ 62) (leaf_digests : List (List ℕ)) (operations chunks : Nodes)
      (of_operations : AreNodesOf (plain_node hash) rule (plain_leaf_digests hash rule 0 state.operations) operations)
      (leaves_are : AreGraftedLeaves setting state leaf_digests)
      (of_chunks : AreNodesOf (chunks_node hash rule level) rule leaf_digests chunks)
      (pruned : operations.boundary ≤ chunks.boundary * 2 ^ level) where
    abbrev trees : TwoTrees
    trees = record { grafting_height = level; operations = node_at rule operations; chunks = node_at rule chunks }

    abbrev count : ℕ
    count = length state.operations

    listed : length (plain_leaf_digests hash rule 0 state.operations) ≡ count
    listed = length-plain hash rule 0 state.operations

    pub operations_are : IsLookupOfOperations setting state (node_at rule operations)
    operations_are first tree digest stands is =
        let If : Option (List ℕ) → Type 0 = λ o. IfSome o (λ d. d ≡ tree_digest (plain_node hash)
        (plain_leaf_digests hash rule 0 state.operations) first tree) in
        subst If is (right-there (plain_node hash) rule (plain_leaf_digests hash rule 0 state.operations) operations of_operations first tree stands)

    pub node_read : (first : ℕ) (tree : Tree) → IsNodeAt first tree (forest setting state)
        → IsAbove rule level chunks.boundary first (height tree)
        → grafted_lookup rule hash trees (position tree) ≡ Some (grafted_digests setting state first tree)
    node_read first tree stands above =
        exactly (grafted_lookup rule hash trees (position tree)) (grafted_digests setting state first tree)
        (node_kept rule root pairs roots aligned hash level birth born counted count few operations chunks of_operations.shape of_chunks.shape
        (of_operations.counted ∙ listed) (of_chunks.counted ∙ leaves_are.counted) pruned first tree stands above)
        (λ d is. nodes_are setting state root pairs roots whole few aligned (node_at rule operations) (node_at rule chunks) operations_are
        (chunks_are setting state root pairs roots whole few leaf_digests chunks leaves_are of_chunks) first tree d stands is)
