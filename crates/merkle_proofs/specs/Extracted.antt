-- Which nodes a proof of a range tells, and their digests.
--
-- In the range of 11 leaves that `ranges` draws, the proof of leaf 2 by BackwardFold, without inactive peaks, tells the
-- nodes of the peak 14: it gives 2, 4 and 13, and 3, 5, 6 and 14 are made of these and of the element. 17 and 18 stand
-- in it as one digest, so neither is told. By ForwardFold each of the two is given singly, and told too.
use Rattle.std.specs.Prelude.{◌≡◌, ◌≢◌, true, ℕ, ◌+◌, min, if◌then◌else◌, List, [], ◌∷◌, ◌++◌, map, filter, take, drop}
use Rattle.std.specs.Prelude.{length, Option, IsSomeAnd, None, codes}
use Rattle.std.specs.List.{flat_map}
use Rattle.std.specs.List.Sorted.{IsNonDecreasingBy, IsPermutation}
use Rattle.merkle_forest.specs.Forest.{Tree, leaf, branch, position, leaf_count}
use Rattle.merkle_forest.specs.Trees.{Located}
use Rattle.merkle_core_parts.specs.Mem.{encoded}
use Rattle.merkle_theory.specs.MadeTrees.{Elements}
use Rattle.merkle_theory.specs.RangeCounts.{passing}
use Rattle.merkle_theory.specs.Ranges.{Digests, is_before, is_after, meets, singly, inner_digests}
use Rattle.merkle_proofs.specs.declared.extraction.ExtractionError.{ExtractionError}
use Rattle.merkle_proofs.specs.declared.extraction.ExtractionError.TheVariants.{InvalidProof, RootMismatch, Memory}

abbrev pub extraction_text : ExtractionError → List ℕ
extraction_text InvalidProof = codes "M15: the proof leads to no root"
extraction_text RootMismatch = codes "M17: the proof leads to another root"
extraction_text Memory = codes "M23: out of memory"

-- the digests of trees as a proof shows them: of those that hold an element of the range they are made of the elements
pub record AreMadeOf (leaf_of : ℕ → List ℕ → List ℕ) (node_of : ℕ → List ℕ → List ℕ → List ℕ)
    (elements : Elements) (start stop : ℕ)
    (digest : Digests) : Type 0 where
  pub leaf : (at p : ℕ) → meets start stop (at, leaf p) ≡ true → digest at (leaf p) ≡ leaf_of p (elements at)
  pub branch : (at p : ℕ) (left right : Tree) → meets start stop (at, branch p left right) ≡ true
      → digest at (branch p left right) ≡ node_of p (digest at left) (digest (at + leaf_count left) right)

-- the others are those that the proof gives, where so many peaks are folded singly from the left: after what stands for
-- the peaks before the range that are folded to one, and apart from what stands for those after it
pub record AreGiven (singles start stop : ℕ) (peaks : List Located) (digest : Digests)
    (digests : List (List ℕ)) : Type 0 where
  pub front : List (List ℕ)
  pub back : List (List ℕ)
  pub is : digests ≡ front ++ (singly digest (filter (is_before start) (drop singles peaks))
      ++ (singly digest (filter (is_after stop) (take singles peaks))
      ++ (back ++ inner_digests digest start stop peaks)))
  pub fronts : length front ≡ min 1 (passing (is_before start) (take singles peaks))
  pub backs : length back ≡ min 1 (passing (is_after stop) (drop singles peaks))

-- a tree's digest, and the digests that are left
pub record IsTold (digest : Digests) (at : ℕ) (t : Tree) (rest : List (List ℕ)) (own : List ℕ)
    (left : List (List ℕ)) : Type 0 where
  pub digest_is : own ≡ digest at t
  pub left_is : left ≡ rest

-- the nodes of a tree that are given or made of others
abbrev pub told_nodes : ℕ → ℕ → ℕ → Tree → List Located
told_nodes start stop at (leaf p) = (at, leaf p) ∷ []
told_nodes start stop at (branch p left right) =
    if meets start stop (at, branch p left right)
    then told_nodes start stop at left ++ (told_nodes start stop (at + leaf_count left) right
    ++ ((at, branch p left right) ∷ []))
    else (at, branch p left right) ∷ []

-- those of peaks that meet the range
abbrev pub inner_told : ℕ → ℕ → List Located → List Located
inner_told start stop peaks = flat_map (λ peak. told_nodes start stop peak.0 peak.1) (filter (meets start stop) peaks)

-- the nodes that a proof tells: the peaks that it gives singly, and in the peaks that meet the range each node that it
-- gives or that is made of others
abbrev pub extracted_nodes : ℕ → ℕ → ℕ → List Located → List Located
extracted_nodes singles start stop peaks =
    filter (is_before start) (drop singles peaks) ++ (filter (is_after stop) (take singles peaks)
    ++ inner_told start stop peaks)

-- nodes with their digests, by position
abbrev pub node_digests : Digests → List Located → List (ℕ × List ℕ)
node_digests digest nodes = map (λ n. (position n.1, digest n.0 n.1)) nodes

-- these are they, in ascending position
pub record AreExtracted {D : Type 0} (encoding : D → List ℕ) (digest : Digests) (nodes : List Located)
    (found : List (ℕ × D)) : Type 0 where
  pub told : List (ℕ × D)
  pub is : encoded encoding told ≡ node_digests digest nodes
  pub all : IsPermutation told found
  pub ascending : IsNonDecreasingBy (λ n. n.0) found

-- why nothing is extracted from a proof that leads to this root, where another is asked for: no root, or another one
abbrev pub IsRefusalToExtract : Option (List ℕ) → List ℕ → ExtractionError → Type 0
IsRefusalToExtract found root InvalidProof = found ≡ None
IsRefusalToExtract found root RootMismatch = IsSomeAnd found (λ r. r ≢ root)
IsRefusalToExtract found root Memory = Unit {0}
