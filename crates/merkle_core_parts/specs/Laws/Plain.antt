-- Plain digests are those of plain leaf digests.
use Rattle.std.proofs.Common.{◌≡◌, ℕ, zero, suc, ◌+◌, ◌<◌, ◌⊎◌, inl, inr, List, [], ◌∷◌, ◌++◌, length, refl, sym, ◌∙◌}
use Rattle.std.proofs.Common.{ap, ap₂, arith}
use Rattle.std.proofs.lemmas.List.{map-append}
use Rattle.std.specs.Prelude.{slice_index_or}
use Rattle.merkle_forest.specs.declared.bagging.Bagging.{Bagging}
use Rattle.merkle_forest.specs.Forest.{Tree, leaf, branch, leaf_count, size, leaves, Rule, forest_of}
use Rattle.merkle_forest.specs.Hashing.{Hash, leaf_string, root_of}
use Rattle.merkle_forest.specs.Nodes.{IsNodeAt, IsPeakAt}
use Rattle.merkle_forest.specs.Perfect.{IsPairing}
use Rattle.merkle_forest.specs.Trees.{located, plain_digest, peak_digests, tree_root}
use Rattle.merkle_forest.specs.Laws.ForestGrowth.{leaves-forest_of}
use Rattle.merkle_forest.specs.Laws.Nodes.{node-fits, peak-node}
use Rattle.merkle_core_parts.specs.Mem.{node_count, tree_digest, plain_leaf_digests, plain_node, list_root}
use Rattle.merkle_core_parts.specs.Laws.Growth.{IsNew, grown}
use Rattle.merkle_forest.specs.Laws.Places.{node-left, node-right}

none : (rule : Rule) (first : ℕ) (tree : Tree) → IsNodeAt first tree (forest_of rule 0) → ⊥
unfolding forest_of
none rule first tree stands = stands

new_leaf : (rule : Rule) (n first p : ℕ)
    → (IsNodeAt first (leaf p) (forest_of rule n) → p ≡ node_count rule first)
    → IsNodeAt first (leaf p) (forest_of rule n) ⊎ IsNew n (size (forest_of rule n)) first (leaf p)
    → p ≡ node_count rule first
new_leaf rule n first p before (inl old) = before old
new_leaf rule n first p before (inr (inl new)) =
    let same : leaf p ≡ leaf (size (forest_of rule n)) = new.1 in
    let at : p ≡ size (forest_of rule n) = cc in
    at ∙ ap (node_count rule) (sym new.0)
new_leaf rule n first p before (inr (inr new)) =
    absurd (let other : leaf p ≡ branch new.at new.left new.right = new.is in cc)

-- the leaf at a location stands where the forest of the leaves before it ends
pub leaf-place : (rule : Rule) → IsPairing rule → (n first p : ℕ) → IsNodeAt first (leaf p) (forest_of rule n)
    → p ≡ node_count rule first
leaf-place rule pairs zero first p stands = absurd (none rule first (leaf p) stands)
leaf-place rule pairs (suc n) first p stands =
    new_leaf rule n first p (leaf-place rule pairs n first p) ((grown rule pairs n).each first (leaf p) stands)

pub length-plain : (hash : Hash) (rule : Rule) (first : ℕ) (elements : List (List ℕ))
    → length (plain_leaf_digests hash rule first elements) ≡ length elements
length-plain hash rule first [] = refl
length-plain hash rule first (e ∷ elements) = ap (λ n. suc n) (length-plain hash rule (suc first) elements)

plain_at : (hash : Hash) (rule : Rule) (first i : ℕ) (elements : List (List ℕ)) → i < length elements
    → slice_index_or (plain_leaf_digests hash rule first elements) i []
    ≡ hash (leaf_string (node_count rule (first + i)) (slice_index_or elements i []))
plain_at hash rule first i [] lt = absurd (omega arith)
plain_at hash rule first zero (e ∷ elements) lt =
    let same : first ≡ first + 0 = omega arith in
    ap (λ l. hash (leaf_string (node_count rule l) e)) same
plain_at hash rule first (suc i) (e ∷ elements) lt =
    let same : suc first + i ≡ first + suc i = omega arith in
    plain_at hash rule (suc first) i elements (omega arith)
    ∙ ap (λ l. hash (leaf_string (node_count rule l) (slice_index_or elements i []))) same

-- the digest of each tree is the plain one
pub digest-plain : (hash : Hash) (rule : Rule) → IsPairing rule → (elements : List (List ℕ)) (first : ℕ) (tree : Tree)
    → IsNodeAt first tree (forest_of rule (length elements))
    → tree_digest (plain_node hash) (plain_leaf_digests hash rule 0 elements) first tree
    ≡ plain_digest hash elements first tree
digest-plain hash rule pairs elements first (leaf p) stands =
    let same : node_count rule (0 + first) ≡ p =
    ap (node_count rule) (omega arith) ∙ sym (leaf-place rule pairs (length elements) first p stands) in
    plain_at hash rule 0 first elements
    (omega (
      arith,
      node-fits first (leaf p) (forest_of rule (length elements)) stands,
      leaves-forest_of rule pairs (length elements),
    ))
    ∙ ap (λ q. hash (leaf_string q (slice_index_or elements first []))) same
digest-plain hash rule pairs elements first (branch p left right) stands =
    ap₂ (plain_node hash p)
    (digest-plain hash rule pairs elements first left
    (node-left first p left right (forest_of rule (length elements)) stands))
    (digest-plain hash rule pairs elements (first + leaf_count left) right
    (node-right first p left right (forest_of rule (length elements)) stands))

same_peaks : (one other : ℕ → Tree → List ℕ) (peaks : List Tree)
    → ((first : ℕ) (tree : Tree) → IsPeakAt first tree peaks → one first tree ≡ other first tree)
    → peak_digests one peaks ≡ peak_digests other peaks
same_peaks one other [] each = refl
same_peaks one other (t ∷ ts) each =
    map-append (λ peak. one peak.0 peak.1) (located ts) ((leaves ts, t) ∷ [])
    ∙ ap₂ (λ front own. front ++ own ∷ [])
    (same_peaks one other ts (λ first tree stands. each first tree (inr stands)))
    (each (leaves ts) t (inl (refl, refl)))
    ∙ sym (map-append (λ peak. other peak.0 peak.1) (located ts) ((leaves ts, t) ∷ []))

pub plain_roots : (rule : Rule) → IsPairing rule → (hash : Hash) (bagging : Bagging) (elements : List (List ℕ))
    (inactive : ℕ)
    → list_root hash (plain_node hash) bagging rule (plain_leaf_digests hash rule 0 elements) inactive
    ≡ tree_root hash bagging rule elements inactive
unfolding tree_root
plain_roots rule pairs hash bagging elements inactive =
    let forest = forest_of rule (length elements) in
    let digests = plain_leaf_digests hash rule 0 elements in
    ap (λ n. root_of hash bagging n inactive (peak_digests (tree_digest (plain_node hash) digests) (forest_of rule n)))
    (length-plain hash rule 0 elements)
    ∙ ap (root_of hash bagging (length elements) inactive)
    (same_peaks (tree_digest (plain_node hash) digests) (plain_digest hash elements) forest
    (λ first tree stands. digest-plain hash rule pairs elements first tree (peak-node first tree forest stands)))
