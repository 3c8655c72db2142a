-- Trees that are begun from pinned digests.
use Rattle.std.proofs.Common.{◌≡◌, ℕ, zero, suc, ◌+◌, ◌-◌, ◌<◌, ◌≤◌, inl, inr, ltb, List, [], ◌∷◌, length}
use Rattle.std.proofs.Common.{Option, Some, None, refl, sym, ◌∙◌, ap, ap₂, subst, arith}
use Rattle.std.proofs.lemmas.Bool.{cond-true, lt-ltb}
use Rattle.std.specs.Prelude.{slice_get, slice_index_or, unwrap_or, IsSome, IfSome}
use Rattle.std.specs.List.{AllByRecursion}
use Rattle.merkle_forest.specs.Forest.{Tree, leaf, branch, position, leaf_count, Rule, forest_of}
use Rattle.merkle_forest.specs.Nodes.{IsNodeAt}
use Rattle.merkle_forest.specs.Perfect.{IsPairing}
use Rattle.merkle_forest.specs.Laws.ForestGrowth.{leaves-forest_of}
use Rattle.merkle_forest.specs.Laws.NodeGrowth.{numbered}
use Rattle.merkle_forest.specs.Laws.Nodes.{node-fits, peak-node}
use Rattle.merkle_forest.specs.Laws.Places.{node-left, node-right}
use Rattle.merkle_core_parts.specs.Mem.{Nodes, NodeHash, Replacement, node_count, node_at, digest_at, tree_digest}
use Rattle.merkle_core_parts.specs.Mem.{AreKeptNodes, AreNodesOf, IsKept, IsPeak}
use Rattle.merkle_core_parts.specs.Laws.Held.{digest-where, kept-there, pinned-peak, have-pinned, IsOneOf}
use Rattle.merkle_core_parts.specs.Laws.Kept.{kept}
use Rattle.merkle_core_parts.specs.Laws.Plain.{leaf-place}
use Rattle.merkle_core_parts.specs.Laws.Rebuilt.{IsSetting}
use Rattle.merkle_memory.specs.Begun.{AreAlikeFrom, IsHashedFrom, leaves_left, pinned_hash}

-- ---- a batch over it

-- the setting in which a batch is merkleized, by a hash that is another one before a boundary alone
pub setting-from : (rule : Rule) (node other : NodeHash) (list after : List (List ℕ)) (known : ℕ → Option (List ℕ))
    (n boundary : ℕ) → n ≡ length list → AreAlikeFrom rule boundary node other
    → ((f : ℕ) (t : Tree) → IsNodeAt f t (forest_of rule (length list))
    → IfSome (known (position t)) (λ d. d ≡ tree_digest node list f t))
    → IsSetting rule other n boundary known (tree_digest node list) (tree_digest node after)
setting-from rule node other list after known n boundary is alike right = record {
  known_is = λ f t stands. right f t (subst (λ k. IsNodeAt f t (forest_of rule k)) is stands);
  same = λ f p l r stands left right. ap₂ (node p) left right;
  hashed = λ f p l r stands past.
      alike p (tree_digest node after f l) (tree_digest node after (f + leaf_count l) r) past;
}

-- all updates are from the first location on
pub from-zero : (us : List Replacement) → AllByRecursion (λ one. 0 ≤ one.0) us
from-zero [] = tt
from-zero (u ∷ us) = (omega arith, from-zero us)

-- ---- the list that it stands for

length-left : (rule : Rule) (nodes : Nodes) (first count : ℕ) → length (leaves_left rule nodes first count) ≡ count
length-left rule nodes first zero = refl
length-left rule nodes first (suc count) = ap (λ n. suc n) (length-left rule nodes (suc first) count)

left-at : (rule : Rule) (nodes : Nodes) (first count k : ℕ) → k < count
    → slice_index_or (leaves_left rule nodes first count) k []
    ≡ unwrap_or (node_at rule nodes (node_count rule (first + k))) []
left-at rule nodes first zero k lt = absurd (omega arith)
left-at rule nodes first (suc count) zero lt =
    let same : first ≡ first + 0 = omega arith in
    ap (λ n. unwrap_or (node_at rule nodes (node_count rule n)) []) same
left-at rule nodes first (suc count) (suc k) lt =
    let same : suc first + k ≡ first + suc k = omega arith in
    left-at rule nodes (suc first) count k (omega arith)
    ∙ ap (λ n. unwrap_or (node_at rule nodes (node_count rule n)) []) same

-- no pinned node stands from the boundary on
none_there : (o : Option (List ℕ)) → (IsSome o → ⊥) → o ≡ None
none_there None lacks = refl
none_there (Some x) lacks = absurd (lacks refl)

no_peak_past : (rule : Rule) → IsPairing rule → (boundary p : ℕ) → node_count rule boundary ≤ p
    → (tree : Tree) × IsPeak tree (forest_of rule boundary) × (position tree ≡ p) → ⊥
no_peak_past rule pairs boundary p past (tree, (first, stands), at) =
    let below =
    (numbered rule pairs boundary).below first tree (peak-node first tree (forest_of rule boundary) stands) in
    absurd (omega (arith, past, at, below))

pub none-pinned : (rule : Rule) → IsPairing rule → (nodes : Nodes) (p : ℕ) → AreKeptNodes rule nodes
    → node_count rule nodes.boundary ≤ p → digest_at nodes.pinned p ≡ None
none-pinned rule pairs nodes p shape past =
    none_there (digest_at nodes.pinned p)
    (λ some. no_peak_past rule pairs nodes.boundary p past (pinned-peak p (forest_of rule nodes.boundary)
    (subst (IsOneOf p) shape.pinned (digest-where p nodes.pinned some))))

-- the hash that gives pinned nodes their digests is another one before the boundary alone
pub hashes-alike : (rule : Rule) → IsPairing rule → (node : NodeHash) (nodes : Nodes) → AreKeptNodes rule nodes
    → AreAlikeFrom rule nodes.boundary (pinned_hash nodes.pinned node) node
hashes-alike rule pairs node nodes shape p left right past =
    ap (λ o. unwrap_or o (node p left right)) (none-pinned rule pairs nodes p shape past)

-- what is there
there_is : (o : Option (List ℕ)) (x : List ℕ) → IsSome o → o ≡ Some (unwrap_or o x)
there_is None x some = absurd cc
there_is (Some y) x some = refl

-- a list of leaf digests has what a tree has of its leaves
abbrev pub HasLeavesOf : Rule → Nodes → List (List ℕ) → Type 0
HasLeavesOf rule nodes list = (k : ℕ) (d : List ℕ) → k < nodes.leaves → node_at rule nodes (node_count rule k) ≡ Some d
    → slice_index_or list k [] ≡ d

-- a kept node of the tree has the digest that its tree has over such a list
pub kept-digest : (rule : Rule) → IsPairing rule → (node : NodeHash) (nodes : Nodes) (list : List (List ℕ))
    → AreKeptNodes rule nodes → IsHashedFrom node rule nodes → HasLeavesOf rule nodes list
    → (first : ℕ) (tree : Tree) → IsNodeAt first tree (forest_of rule nodes.leaves)
    → IsKept rule nodes.boundary (position tree)
    → node_at rule nodes (position tree) ≡ Some (tree_digest (pinned_hash nodes.pinned node) list first tree)
kept-digest rule pairs node nodes list shape hashed has first (leaf p) stands keeps =
    let below = (numbered rule pairs nodes.leaves).below first (leaf p) stands in
    let lt : first < nodes.leaves =
    let fits = node-fits first (leaf p) (forest_of rule nodes.leaves) stands in
    omega (arith, fits, leaves-forest_of rule pairs nodes.leaves) in
    let digest = unwrap_or (node_at rule nodes p) [] in
    let there : node_at rule nodes p ≡ Some digest =
    there_is (node_at rule nodes p) [] (kept-there rule nodes p shape keeps below) in
    let at = leaf-place rule pairs nodes.leaves first p stands in
    there
    ∙ ap (λ d. Some d) (sym (has first digest lt (ap (node_at rule nodes) (sym at) ∙ there)))
kept-digest rule pairs node nodes list shape hashed has first (branch p l r) stands (inl past) =
    let hash = pinned_hash nodes.pinned node in
    let children = kept rule pairs nodes.boundary nodes.leaves shape.within in
    let left = kept-digest rule pairs node nodes list shape hashed has first l
    (node-left first p l r (forest_of rule nodes.leaves) stands) (children.left first p l r stands past) in
    let right = kept-digest rule pairs node nodes list shape hashed has (first + leaf_count l) r
    (node-right first p l r (forest_of rule nodes.leaves) stands) (children.right first p l r stands past) in
    hashed first p l r (tree_digest hash list first l) (tree_digest hash list (first + leaf_count l) r) stands past left
    right
    ∙ ap (λ d. Some d) (sym (hashes-alike rule pairs node nodes shape p (tree_digest hash list first l)
    (tree_digest hash list (first + leaf_count l) r) past))
kept-digest rule pairs node nodes list shape hashed has first (branch p l r) stands (inr (tree, peak, at)) =
    let hash = pinned_hash nodes.pinned node in
    let start = node_count rule nodes.boundary in
    let below : p < start = omega (
      arith,
      at,
      (numbered rule pairs nodes.boundary).below peak.0 tree
          (peak-node peak.0 tree (forest_of rule nodes.boundary) peak.1),
    ) in
    let some : IsSome (digest_at nodes.pinned p) = subst (λ q. IsSome (digest_at nodes.pinned q)) at
    (have-pinned rule nodes shape tree peak) in
    cond-true (ltb p start) (digest_at nodes.pinned p) (slice_get nodes.digests (p - start)) (lt-ltb p start below)
    ∙ there_is (digest_at nodes.pinned p) (node p (tree_digest hash list first l)
    (tree_digest hash list (first + leaf_count l) r)) some

-- so the tree has the nodes of each such list
pub nodes-of-list : (rule : Rule) → IsPairing rule → (node : NodeHash) (nodes : Nodes) (list : List (List ℕ))
    → AreKeptNodes rule nodes → IsHashedFrom node rule nodes → HasLeavesOf rule nodes list → nodes.leaves ≡ length list
    → AreNodesOf (pinned_hash nodes.pinned node) rule list nodes
nodes-of-list rule pairs node nodes list shape hashed has counted = record {
  counted = counted;
  shape = shape;
  digests = λ first tree stands keeps. kept-digest rule pairs node nodes list shape hashed has first tree
      (subst (λ n. IsNodeAt first tree (forest_of rule n)) (sym counted) stands) keeps;
}

pub nodes-of-left : (rule : Rule) → IsPairing rule → (node : NodeHash) (nodes : Nodes) → AreKeptNodes rule nodes
    → IsHashedFrom node rule nodes
    → AreNodesOf (pinned_hash nodes.pinned node) rule (leaves_left rule nodes 0 nodes.leaves) nodes
nodes-of-left rule pairs node nodes shape hashed =
    nodes-of-list rule pairs node nodes (leaves_left rule nodes 0 nodes.leaves) shape hashed
    (λ k d lt there.
    (let same : 0 + k ≡ k = omega arith in
    left-at rule nodes 0 nodes.leaves k lt
    ∙ ap (λ n. unwrap_or (node_at rule nodes (node_count rule n)) []) same
    ∙ ap (λ o. unwrap_or o []) there))
    (sym (length-left rule nodes 0 nodes.leaves))
