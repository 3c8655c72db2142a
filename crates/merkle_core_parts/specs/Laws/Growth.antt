-- What a leaf adds to a forest: itself, and branches whose children stand before them.
use Rattle.std.proofs.Common.{◌≡◌, ℕ, zero, suc, ◌+◌, ◌^◌, ◌<◌, ◌⊎◌, inl, inr, List, [], ◌∷◌, length, map, refl, ◌∙◌}
use Rattle.std.proofs.Common.{ap, subst, arith}
use Rattle.std.proofs.lemmas.List.{length-map}
use Rattle.std.specs.List.{range_with_len}
use Rattle.merkle_forest.specs.Forest.{Tree, leaf, branch, position, height, leaf_count, size, leaves, Rule, merged}
use Rattle.merkle_forest.specs.Forest.{forest_of, IsPairOfEquals}
use Rattle.merkle_forest.specs.Perfect.{IsPairing}
use Rattle.merkle_forest.specs.Nodes.{IsWithin, IsNodeAt, IsBranchOf, AreParents}
use Rattle.merkle_forest.specs.Laws.ForestGrowth.{leaves-merged, size-merged, pair_within}
use Rattle.merkle_forest.specs.Laws.ForestGrowth.{peaks_after_merges-keeps_next, leaves-forest_of}
use Rattle.merkle_forest.specs.Laws.Nodes.{peak-node}
use Rattle.merkle_forest.specs.Laws.NodeGrowth.{numbered}
use Rattle.merkle_forest.specs.Laws.Parents.{range-get}
use Rattle.merkle_core_parts.specs.Mem.{IsPeak}

-- a branch at a position after s, whose children stand before it
pub record IsNewBranch (s : ℕ) (tree : Tree) : Type 0 where
  pub at : ℕ
  pub left : Tree
  pub right : Tree
  pub is : tree ≡ branch at left right
  pub after : s < at
  pub left_before : position left < at
  pub right_before : position right < at

-- the new leaf, or such a branch
abbrev pub IsNew : ℕ → ℕ → ℕ → Tree → Type 0
IsNew n s first tree = ((first ≡ n) × (tree ≡ leaf s)) ⊎ IsNewBranch s tree

-- what the forest of n leaves has become
pub record IsGrown (rule : Rule) (n : ℕ) (peaks : List Tree) : Type 0 where
  pub large : size (forest_of rule n) < size peaks
  pub below : (first : ℕ) (tree : Tree) → IsNodeAt first tree peaks → position tree < size peaks
  pub each : (first : ℕ) (tree : Tree) → IsNodeAt first tree peaks
      → IsNodeAt first tree (forest_of rule n) ⊎ IsNew n (size (forest_of rule n)) first tree

pub within : (peaks : List Tree) (index : ℕ) → IsPairOfEquals (map height peaks) index → suc index < length peaks
within peaks index pair = rw (← length-map peaks height) (pair_within (map height peaks) index pair)

-- a merge makes one branch, over two peaks
pub record IsMerge (p : ℕ) (peaks after : List Tree) : Type 0 where
  pub left : Tree
  pub right : Tree
  pub left_peak : IsPeak left peaks
  pub right_peak : IsPeak right peaks
  pub from : (f : ℕ) (n : Tree) → IsNodeAt f n after → (n ≡ branch p left right) ⊎ IsNodeAt f n peaks
  pub peak_from : (n : Tree) → IsPeak n after → (n ≡ branch p left right) ⊎ IsPeak n peaks

two : (p : ℕ) (r l : Tree) (ts : List Tree) (f : ℕ) (n : Tree) → IsNodeAt f n (branch p l r ∷ ts)
    → (n ≡ branch p l r) ⊎ IsNodeAt f n (r ∷ l ∷ ts)
two p r l ts f n (inl (inl new)) = inl new.1
two p r l ts f n (inl (inr (inl stands))) = inr (inr (inl stands))
two p r l ts f n (inl (inr (inr stands))) =
    let start : leaves ts + leaf_count l ≡ leaf_count l + leaves ts = omega arith in
    inr (inl (subst (λ s. IsWithin f n s r) start stands))
two p r l ts f n (inr stands) = inr (inr (inr stands))

past_newest : (p : ℕ) (left right t : Tree) (ts after : List Tree) → leaves after ≡ leaves ts
    → ((f : ℕ) (n : Tree) → IsNodeAt f n after → (n ≡ branch p left right) ⊎ IsNodeAt f n ts)
    → (f : ℕ) (n : Tree) → IsNodeAt f n (t ∷ after) → (n ≡ branch p left right) ⊎ IsNodeAt f n (t ∷ ts)
past_newest p left right t ts after same from f n (inl stands) =
    inr (inl (subst (λ s. IsWithin f n s t) same stands))
past_newest p left right t ts after same from f n (inr stands) =
    elim (from f n stands) [ inl new ↦ inl new | inr old ↦ inr (inr old) ]

two_peaks : (p : ℕ) (r l : Tree) (ts : List Tree) (n : Tree) → IsPeak n (branch p l r ∷ ts)
    → (n ≡ branch p l r) ⊎ IsPeak n (r ∷ l ∷ ts)
two_peaks p r l ts n (f, inl new) = inl new.1
two_peaks p r l ts n (f, inr old) = inr (f, inr (inr old))

peak_past : (t n : Tree) (ts : List Tree) → IsPeak n ts → IsPeak n (t ∷ ts)
peak_past t n ts peak = (peak.0, inr peak.1)

peaks_past_newest : (p : ℕ) (left right t : Tree) (ts after : List Tree)
    → ((n : Tree) → IsPeak n after → (n ≡ branch p left right) ⊎ IsPeak n ts)
    → (n : Tree) → IsPeak n (t ∷ after) → (n ≡ branch p left right) ⊎ IsPeak n (t ∷ ts)
peaks_past_newest p left right t ts after from n (f, inl stands) = inr (leaves ts, inl (refl, stands.1))
peaks_past_newest p left right t ts after from n (f, inr stands) =
    elim (from n (f, stands)) [ inl new ↦ inl new | inr old ↦ inr (peak_past t n ts old) ]

pub merged-makes : (p index : ℕ) (peaks : List Tree) → suc index < length peaks → IsMerge p peaks (merged p index peaks)
merged-makes p zero [] lt = absurd (omega arith)
merged-makes p zero (r ∷ []) lt = absurd (omega arith)
merged-makes p zero (r ∷ l ∷ ts) lt = record {
  left = l;
  right = r;
  left_peak = (leaves ts, inr (inl (refl, refl)));
  right_peak = (leaf_count l + leaves ts, inl (refl, refl));
  from = two p r l ts;
  peak_from = two_peaks p r l ts;
}
merged-makes p (suc index) [] lt = absurd (omega arith)
merged-makes p (suc index) (t ∷ ts) lt =
    let it = merged-makes p index ts (omega arith) in
    record {
      left = it.left;
      right = it.right;
      left_peak = peak_past t it.left ts it.left_peak;
      right_peak = peak_past t it.right ts it.right_peak;
      from = past_newest p it.left it.right t ts (merged p index ts) (leaves-merged p index ts (omega arith)) it.from;
      peak_from = peaks_past_newest p it.left it.right t ts (merged p index ts) it.peak_from;
    }

below-merged : (nodes : ℕ) (left right n : Tree) (f : ℕ) (peaks : List Tree)
    → ((first : ℕ) (tree : Tree) → IsNodeAt first tree peaks → position tree < nodes)
    → (n ≡ branch nodes left right) ⊎ IsNodeAt f n peaks → position n < nodes + 1
below-merged nodes left right n f peaks below (inl new) = let at : position n ≡ nodes = ap position new in
    omega (arith, at)
below-merged nodes left right n f peaks below (inr old) = omega (arith, below f n old)

each-merged : (rule : Rule) (n : ℕ) (peaks after : List Tree) (f : ℕ) (t : Tree) → IsGrown rule n peaks
    → (it : IsMerge (size peaks) peaks after)
    → (t ≡ branch (size peaks) it.left it.right) ⊎ IsNodeAt f t peaks
    → IsNodeAt f t (forest_of rule n) ⊎ IsNew n (size (forest_of rule n)) f t
each-merged rule n peaks after f t grown it (inl new) = inr (inr (record {
  at = size peaks;
  left = it.left;
  right = it.right;
  is = new;
  after = grown.large;
  left_before = grown.below it.left_peak.0 it.left (peak-node it.left_peak.0 it.left peaks it.left_peak.1);
  right_before = grown.below it.right_peak.0 it.right (peak-node it.right_peak.0 it.right peaks it.right_peak.1);
}))
each-merged rule n peaks after f t grown it (inr old) = grown.each f t old

grown-merged : (rule : Rule) (n index : ℕ) (peaks : List Tree) → IsPairOfEquals (map height peaks) index
    → IsGrown rule n peaks → IsGrown rule n (merged (size peaks) index peaks)
grown-merged rule n index peaks pair grown =
    let it = merged-makes (size peaks) index peaks (within peaks index pair) in
    let more = size-merged (size peaks) index peaks (within peaks index pair) in
    record {
      large = omega (arith, more, grown.large);
      below = λ f t stands. omega (
        arith,
        more,
        below-merged (size peaks) it.left it.right t f peaks grown.below (it.from f t stands),
      );
      each = λ f t stands. each-merged rule n peaks (merged (size peaks) index peaks) f t grown it (it.from f t stands);
    }

leaf-below : (rule : Rule) → IsPairing rule → (n f : ℕ) (t : Tree)
    → IsNodeAt f t (leaf (size (forest_of rule n)) ∷ forest_of rule n) → position t < suc (size (forest_of rule n))
leaf-below rule pairs n f t (inl new) = let at : position t ≡ size (forest_of rule n) = ap position new.1 in
    omega (arith, at)
leaf-below rule pairs n f t (inr old) = omega (arith, (numbered rule pairs n).below f t old)

leaf-each : (rule : Rule) → IsPairing rule → (n f : ℕ) (t : Tree)
    → IsNodeAt f t (leaf (size (forest_of rule n)) ∷ forest_of rule n)
    → IsNodeAt f t (forest_of rule n) ⊎ IsNew n (size (forest_of rule n)) f t
leaf-each rule pairs n f t (inl new) = inr (inl (new.0 ∙ leaves-forest_of rule pairs n, new.1))
leaf-each rule pairs n f t (inr old) = inl old

-- the forest of one leaf more
pub grown : (rule : Rule) → IsPairing rule → (n : ℕ) → IsGrown rule n (forest_of rule (suc n))
unfolding forest_of
grown rule pairs n =
    peaks_after_merges-keeps_next rule (IsGrown rule n) pairs (grown-merged rule n) (length (forest_of rule n)) 0
    (leaf (size (forest_of rule n)) ∷ forest_of rule n)
    (record {
      large = omega arith;
      below = λ f t stands. omega (arith, leaf-below rule pairs n f t stands);
      each = leaf-each rule pairs n;
    })

-- a parent that is born with the leaf after n leaves
pub record IsParent (rule : Rule) (n p h : ℕ) : Type 0 where
  pub first : ℕ
  pub left : Tree
  pub right : Tree
  pub stands : IsNodeAt first (branch p left right) (forest_of rule (suc n))
  pub high : h ≡ suc (height left)
  pub left_before : position left < p
  pub right_before : position right < p

parent-of : (rule : Rule) → IsPairing rule → (n p h first : ℕ) (tree : Tree) → size (forest_of rule n) < p
    → IsNodeAt first tree (forest_of rule (suc n)) → p ≡ position tree → h ≡ height tree
    → IsNodeAt first tree (forest_of rule n) ⊎ IsNew n (size (forest_of rule n)) first tree → IsParent rule n p h
parent-of rule pairs n p h first tree after stands at high (inl old) =
    absurd (omega (arith, at, after, (numbered rule pairs n).below first tree old))
parent-of rule pairs n p h first tree after stands at high (inr (inl new)) =
    absurd (let here : position tree ≡ size (forest_of rule n) = ap position new.1 in omega (arith, at, after, here))
parent-of rule pairs n p h first tree after stands at high (inr (inr new)) =
    let here : p ≡ new.at = at ∙ ap position new.is in
    record {
      first = first;
      left = new.left;
      right = new.right;
      stands = rw here (subst (λ t. IsNodeAt first t (forest_of rule (suc n))) new.is stands);
      high = high ∙ ap height new.is;
      left_before = omega (arith, here, new.left_before);
      right_before = omega (arith, here, new.right_before);
    }

pub parent : (rule : Rule) → IsPairing rule → (n first count i : ℕ) → AreParents rule n (range_with_len first count)
    → i < count → IsParent rule n (suc (size (forest_of rule n)) + i) (first + i)
parent rule pairs n first count i parents lt =
    let it = parents.1 i (first + i) (range-get first count i lt) in
    parent-of rule pairs n (suc (size (forest_of rule n)) + i) (first + i) it.0 it.1 (omega arith) it.2 it.3 it.4
    ((grown rule pairs n).each it.0 it.1 it.2)

pub parent-branch : (rule : Rule) (n p h : ℕ) → n < 2 ^ 62 → (it : IsParent rule n p h)
    → IsBranchOf rule p h it.left it.right
parent-branch rule n p h few it =
    record { leaf_total = suc n; few = omega arith; first = it.first; stands = it.stands; high = it.high }
