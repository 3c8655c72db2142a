-- The nodes of a list's tree.
use Rattle.std.proofs.Common.{◌≡◌, ◌≤◌, ℕ, zero, suc, inl, inr, List, [], ◌∷◌, ◌++◌, length, map, Option, Some, refl}
use Rattle.std.proofs.Common.{sym, ◌∙◌, ap, ap₂, subst, arith}
use Rattle.std.proofs.lemmas.List.{map-append}
use Rattle.std.specs.Prelude.{slice_get, slice_index_or, unwrap_or}
use Rattle.merkle_forest.specs.declared.bagging.Bagging.{Bagging}
use Rattle.merkle_forest.specs.Forest.{Tree, position, leaves, Rule, forest_of}
use Rattle.merkle_forest.specs.Hashing.{Hash, root_of}
use Rattle.merkle_forest.specs.Nodes.{IsPeakAt}
use Rattle.merkle_forest.specs.Peaks.{position_and_height}
use Rattle.merkle_forest.specs.Trees.{Located, located, peak_digests as forest_digests}
use Rattle.merkle_forest.specs.Perfect.{IsPairing}
use Rattle.merkle_forest.specs.Laws.Nodes.{peak-node}
use Rattle.merkle_forest.specs.Laws.Peaks.{located_from-zero}
use Rattle.merkle_core_parts.specs.Mem.{Nodes, node_count, node_at, NodeHash, tree_digest, AreKeptNodes, AreNodesOf}
use Rattle.merkle_core_parts.specs.Mem.{digests_from, peak_digests, list_root}
use Rattle.merkle_core_parts.specs.Laws.Kept.{kept}

-- what stands at a place
pub get_some : (xs : List (List ℕ)) (i : ℕ) (x : List ℕ) → slice_get xs i ≡ Some x → slice_index_or xs i [] ≡ x
get_some [] i x is = absurd cc
get_some (y ∷ xs) zero x is = cc
get_some (y ∷ xs) (suc i) x is = get_some xs i x is

-- at the peaks stand the digests of their trees
pub at-peaks : (digests : ℕ → Option (List ℕ)) (digest : ℕ → Tree → List ℕ) (peaks : List Tree)
    → ((first : ℕ) (tree : Tree) → IsPeakAt first tree peaks → digests (position tree) ≡ Some (digest first tree))
    → map (λ peak. unwrap_or (digests peak.0) []) (map position_and_height (located peaks))
    ≡ forest_digests digest peaks
at-peaks digests digest [] each = refl
at-peaks digests digest (t ∷ ts) each =
    let last = (leaves ts, t) ∷ [] in
    let own : ℕ × ℕ → List ℕ = λ peak. unwrap_or (digests peak.0) [] in
    ap (map own) (map-append position_and_height (located ts) last)
    ∙ map-append own (map position_and_height (located ts)) (position_and_height (leaves ts, t) ∷ [])
    ∙ ap₂ (λ front d. front ++ d ∷ []) (at-peaks digests digest ts (λ first tree stands. each first tree (inr stands)))
    (ap (λ o. unwrap_or o []) (each (leaves ts) t (inl (refl, refl))))
    ∙ sym (map-append (λ (peak : Located). digest peak.0 peak.1) (located ts) last)

pub peaks-of : (rule : Rule) → IsPairing rule → (node : NodeHash) (leaf_digests : List (List ℕ)) (nodes : Nodes)
    → AreNodesOf node rule leaf_digests nodes
    → peak_digests rule nodes ≡ forest_digests (tree_digest node leaf_digests) (forest_of rule (length leaf_digests))
peaks-of rule pairs node leaf_digests nodes are =
    let count = length leaf_digests in
    ap (λ n. digests_from rule n (node_at rule nodes) 0) are.counted
    ∙ ap (λ peaks. map (λ peak. unwrap_or (node_at rule nodes peak.0) []) (map position_and_height peaks))
    (located_from-zero (forest_of rule count))
    ∙ at-peaks (node_at rule nodes) (tree_digest node leaf_digests) (forest_of rule count)
    (λ first tree stands. are.digests first tree (peak-node first tree (forest_of rule count) stands)
    ((kept rule pairs nodes.boundary count (subst (λ n. nodes.boundary ≤ n) are.counted are.shape.within)).peak tree
    (first, stands)))

-- so their root is that of the list
pub root-of_list : (rule : Rule) → IsPairing rule → (hash : Hash) (node : NodeHash) (bagging : Bagging)
    (leaf_digests : List (List ℕ)) (nodes : Nodes) (inactive : ℕ) → AreNodesOf node rule leaf_digests nodes
    → root_of hash bagging nodes.leaves inactive (peak_digests rule nodes)
    ≡ list_root hash node bagging rule leaf_digests inactive
root-of_list rule pairs hash node bagging leaf_digests nodes inactive are =
    ap (λ n. root_of hash bagging n inactive (peak_digests rule nodes)) are.counted
    ∙ ap (root_of hash bagging (length leaf_digests) inactive) (peaks-of rule pairs node leaf_digests nodes are)

-- no leaves have no nodes
pub nodes-none : (rule : Rule) → node_count rule 0 ≡ 0
unfolding forest_of
nodes-none rule = refl

pub kept-empty : (rule : Rule) → AreKeptNodes rule (record { leaves = 0; boundary = 0; pinned = []; digests = [] })
unfolding forest_of
kept-empty rule = record { within = omega arith; pinned = refl; counted = refl }

pub nodes-empty : (rule : Rule) (node : NodeHash)
    → AreNodesOf node rule [] (record { leaves = 0; boundary = 0; pinned = []; digests = [] })
unfolding forest_of
nodes-empty rule node = record {
  counted = refl;
  shape = kept-empty rule;
  digests = λ first tree stands keeps. absurd stands;
}
