-- The nodes from a leaf count on, and the peaks of that many leaves: what later nodes are made from.
use Rattle.std.proofs.Common.{◌≡◌, ℕ, zero, suc, ◌+◌, ◌-◌, ◌≤◌, ◌⊎◌, inl, inr, List, ◌∷◌, length, map, refl, ap, subst}
use Rattle.std.proofs.Common.{arith}
use Rattle.merkle_forest.specs.Forest.{Tree, leaf, branch, position, height, size, Rule, merged, forest_of}
use Rattle.merkle_forest.specs.Forest.{IsPairOfEquals}
use Rattle.merkle_forest.specs.Perfect.{IsPairing}
use Rattle.merkle_forest.specs.Nodes.{IsNodeAt}
use Rattle.merkle_forest.specs.Laws.ForestGrowth.{size-merged, size-mono, peaks_after_merges-keeps_next}
use Rattle.merkle_forest.specs.Laws.NodeGrowth.{numbered}
use Rattle.merkle_core_parts.specs.Mem.{node_count, IsPeak, IsKept}
use Rattle.merkle_core_parts.specs.Laws.Growth.{IsNew, IsMerge, grown, merged-makes, within}

-- the children of the nodes after it, and the peaks, are such
pub record AreKept (rule : Rule) (b : ℕ) (peaks : List Tree) : Type 0 where
  pub large : node_count rule b ≤ size peaks
  pub peak : (t : Tree) → IsPeak t peaks → IsKept rule b (position t)
  pub left : (f p : ℕ) (l r : Tree) → IsNodeAt f (branch p l r) peaks → node_count rule b ≤ p
      → IsKept rule b (position l)
  pub right : (f p : ℕ) (l r : Tree) → IsNodeAt f (branch p l r) peaks → node_count rule b ≤ p
      → IsKept rule b (position r)

new_peak : (rule : Rule) (b : ℕ) (t left right : Tree) (peaks : List Tree) → AreKept rule b peaks
    → (t ≡ branch (size peaks) left right) ⊎ IsPeak t peaks → IsKept rule b (position t)
new_peak rule b t left right peaks kept (inl new) =
    let at : position t ≡ size peaks = ap position new in inl (omega (arith, at, kept.large))
new_peak rule b t left right peaks kept (inr old) = kept.peak t old

new_left : (rule : Rule) (b f p : ℕ) (l r : Tree) (peaks after : List Tree) → AreKept rule b peaks
    → (it : IsMerge (size peaks) peaks after) → node_count rule b ≤ p
    → (branch p l r ≡ branch (size peaks) it.left it.right) ⊎ IsNodeAt f (branch p l r) peaks
    → IsKept rule b (position l)
new_left rule b f p l r peaks after kept it from (inl new) =
    let same : it.left ≡ l = cc in
    subst (λ t. IsKept rule b (position t)) same (kept.peak it.left it.left_peak)
new_left rule b f p l r peaks after kept it from (inr old) = kept.left f p l r old from

new_right : (rule : Rule) (b f p : ℕ) (l r : Tree) (peaks after : List Tree) → AreKept rule b peaks
    → (it : IsMerge (size peaks) peaks after) → node_count rule b ≤ p
    → (branch p l r ≡ branch (size peaks) it.left it.right) ⊎ IsNodeAt f (branch p l r) peaks
    → IsKept rule b (position r)
new_right rule b f p l r peaks after kept it from (inl new) =
    let same : it.right ≡ r = cc in
    subst (λ t. IsKept rule b (position t)) same (kept.peak it.right it.right_peak)
new_right rule b f p l r peaks after kept it from (inr old) = kept.right f p l r old from

kept-merged : (rule : Rule) (b index : ℕ) (peaks : List Tree) → IsPairOfEquals (map height peaks) index
    → AreKept rule b peaks → AreKept rule b (merged (size peaks) index peaks)
kept-merged rule b index peaks pair kept =
    let it = merged-makes (size peaks) index peaks (within peaks index pair) in
    let more = size-merged (size peaks) index peaks (within peaks index pair) in
    record {
      large = omega (arith, more, kept.large);
      peak = λ t stands. new_peak rule b t it.left it.right peaks kept (it.peak_from t stands);
      left = λ f p l r stands from. new_left rule b f p l r peaks (merged (size peaks) index peaks) kept it from
          (it.from f (branch p l r) stands);
      right = λ f p l r stands from. new_right rule b f p l r peaks (merged (size peaks) index peaks) kept it from
          (it.from f (branch p l r) stands);
    }

leaf_peak : (rule : Rule) (b : ℕ) (t : Tree) (peaks : List Tree) → AreKept rule b peaks
    → IsPeak t (leaf (size peaks) ∷ peaks)
    → IsKept rule b (position t)
leaf_peak rule b t peaks kept (f, inl new) =
    let at : position t ≡ size peaks = ap position new.1 in inl (omega (arith, at, kept.large))
leaf_peak rule b t peaks kept (f, inr old) = kept.peak t (f, old)

no_branch : {A : Type 0} → (q p : ℕ) (l r : Tree) → branch p l r ≡ leaf q → A
no_branch q p l r is = absurd cc

leaf_left : (rule : Rule) (b f p : ℕ) (l r : Tree) (peaks : List Tree) → AreKept rule b peaks
    → IsNodeAt f (branch p l r) (leaf (size peaks) ∷ peaks) → node_count rule b ≤ p → IsKept rule b (position l)
leaf_left rule b f p l r peaks kept (inl new) from = no_branch (size peaks) p l r new.1
leaf_left rule b f p l r peaks kept (inr old) from = kept.left f p l r old from

leaf_right : (rule : Rule) (b f p : ℕ) (l r : Tree) (peaks : List Tree) → AreKept rule b peaks
    → IsNodeAt f (branch p l r) (leaf (size peaks) ∷ peaks) → node_count rule b ≤ p → IsKept rule b (position r)
leaf_right rule b f p l r peaks kept (inl new) from = no_branch (size peaks) p l r new.1
leaf_right rule b f p l r peaks kept (inr old) from = kept.right f p l r old from

kept-leaf : (rule : Rule) (b : ℕ) (peaks : List Tree) → AreKept rule b peaks
    → AreKept rule b (leaf (size peaks) ∷ peaks)
kept-leaf rule b peaks kept = record {
  large = omega (arith, kept.large);
  peak = λ t stands. leaf_peak rule b t peaks kept stands;
  left = λ f p l r stands from. leaf_left rule b f p l r peaks kept stands from;
  right = λ f p l r stands from. leaf_right rule b f p l r peaks kept stands from;
}

kept-self : (rule : Rule) → IsPairing rule → (b : ℕ) → AreKept rule b (forest_of rule b)
kept-self rule pairs b = record {
  large = omega arith;
  peak = λ t stands. inr (t, stands, refl);
  left = λ f p l r stands from. absurd (omega (arith, (numbered rule pairs b).below f (branch p l r) stands));
  right = λ f p l r stands from. absurd (omega (arith, (numbered rule pairs b).below f (branch p l r) stands));
}

kept_more : (rule : Rule) → IsPairing rule → (b n : ℕ) → AreKept rule b (forest_of rule n)
    → AreKept rule b (forest_of rule (suc n))
unfolding forest_of
kept_more rule pairs b n kept =
    peaks_after_merges-keeps_next rule (AreKept rule b) pairs (kept-merged rule b) (length (forest_of rule n)) 0
    (leaf (size (forest_of rule n)) ∷ forest_of rule n) (kept-leaf rule b (forest_of rule n) kept)

kept_after : (rule : Rule) → IsPairing rule → (b k : ℕ) → AreKept rule b (forest_of rule (b + k))
kept_after rule pairs b zero =
    let same : b ≡ b + 0 = omega arith in subst (λ n. AreKept rule b (forest_of rule n)) same (kept-self rule pairs b)
kept_after rule pairs b (suc k) =
    let same : suc (b + k) ≡ b + suc k = omega arith in
    subst (λ n. AreKept rule b (forest_of rule n)) same (kept_more rule pairs b (b + k) (kept_after rule pairs b k))

-- of each forest of as many leaves or more
pub kept : (rule : Rule) → IsPairing rule → (b n : ℕ) → b ≤ n → AreKept rule b (forest_of rule n)
kept rule pairs b n le =
    let same : b + (n - b) ≡ n = omega (arith, le) in
    subst (λ m. AreKept rule b (forest_of rule m)) same (kept_after rule pairs b (n - b))

later_one : (rule : Rule) → IsPairing rule → (n k first : ℕ) (tree : Tree)
    → (IsNodeAt first tree (forest_of rule (n + k))
    → IsNodeAt first tree (forest_of rule n) ⊎ (size (forest_of rule n) ≤ position tree))
    → IsNodeAt first tree (forest_of rule (n + k)) ⊎ IsNew (n + k) (size (forest_of rule (n + k))) first tree
    → IsNodeAt first tree (forest_of rule n) ⊎ (size (forest_of rule n) ≤ position tree)
later_one rule pairs n k first tree before (inl old) = before old
later_one rule pairs n k first tree before (inr (inl new)) =
    let at : position tree ≡ size (forest_of rule (n + k)) = ap position new.1 in
    inr (omega (arith, at, size-mono rule pairs n (n + k) (omega arith)))
later_one rule pairs n k first tree before (inr (inr new)) =
    let at : position tree ≡ new.at = ap position new.is in
    inr (omega (arith, at, new.after, size-mono rule pairs n (n + k) (omega arith)))

-- the nodes that more leaves bring stand after those before
pub later : (rule : Rule) → IsPairing rule → (n k first : ℕ) (tree : Tree)
    → IsNodeAt first tree (forest_of rule (n + k))
    → IsNodeAt first tree (forest_of rule n) ⊎ (size (forest_of rule n) ≤ position tree)
later rule pairs n zero first tree stands =
    inl (let same : n + 0 ≡ n = omega arith in subst (λ m. IsNodeAt first tree (forest_of rule m)) same stands)
later rule pairs n (suc k) first tree stands =
    let same : n + suc k ≡ suc (n + k) = omega arith in
    later_one rule pairs n k first tree (later rule pairs n k first tree)
    ((grown rule pairs (n + k)).each first tree (subst (λ m. IsNodeAt first tree (forest_of rule m)) same stands))
