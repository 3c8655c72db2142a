-- What is kept of a verified proof of a range, and how the proof of some elements is built out of it.
--
-- Of the proof of leaf 2 in the range of 11 leaves that `ranges` draws, the nodes 2, 3, 4, 5, 6, 13 and 14 are kept, by
-- BackwardFold without inactive peaks: the peaks 17 and 18 stand in it as one digest, so a proof of another element
-- needs both supplied.
use Rattle.std.specs.Prelude.{◌≡◌, ◌⊎◌, ℕ, ◌==◌, ◌-◌, ◌<◌, ◌≤◌, List, map, filter, take, drop, length, find, ◌++◌}
use Rattle.std.specs.Prelude.{codes, Some, option_map, Contains}
use Rattle.std.specs.Fmt.{decimal}
use Rattle.std.specs.Option.{option_map_or}
use Rattle.merkle_forest.specs.Forest.{Tree, position, Rule, forest_of}
use Rattle.merkle_forest.specs.Nodes.{IsNodeAt}
use Rattle.merkle_forest.specs.Trees.{Located}
use Rattle.merkle_core_parts.specs.Errors.{error_text}
use Rattle.merkle_core_parts.specs.declared.error.Error.{Error}
use Rattle.merkle_core_parts.specs.declared.error.Error.TheVariants.{Empty, RangeOutOfBounds, ElementPruned, Memory}
use Rattle.merkle_forest.specs.Hashing.{Hash, folded_forward, folded_backward}
use Rattle.merkle_proofs.specs.Extracted.{extracted_nodes}
use Rattle.merkle_theory.specs.MadeRoots.{peaks_of}
use Rattle.merkle_theory.specs.Multi.{IsRefusalToProveMany}
use Rattle.merkle_theory.specs.Plans.{Lookup, positions_of, inner_nodes, first_missing}
use Rattle.merkle_theory.specs.Ranges.{Digests, is_before, is_after, as_one, singly}
use Rattle.merkle_proofs.specs.declared.proof_store.StoreError.{StoreError}
use Rattle.merkle_proofs.specs.declared.proof_store.StoreError.TheVariants.{Refused, CompressedDigest}

abbrev pub store_text : {F : Type 0} → StoreError F → List ℕ
store_text (Refused e) = error_text e
store_text (CompressedDigest p) = codes "M11: node " ++ (decimal p ++ codes " stands in one digest with others")

-- how many leaves the tree has, how many of its peaks are inactive and how many are folded singly from the left, the
-- range, the nodes that the proof tells, each at its position, and what it gives for several peaks in one: before the
-- range, and after it
pub record Kept (D : Type 0) : Type 0 where
  pub leaves : ℕ
  pub inactive : ℕ
  pub singles : ℕ
  pub start : ℕ
  pub stop : ℕ
  pub nodes : List (ℕ × D)
  pub front : List D
  pub back : List D

-- the digest of the first of these nodes that stands at a position
abbrev pub digest_among : {D : Type 0} → (D → List ℕ) → List (ℕ × D) → Lookup
digest_among encoding nodes p = option_map (λ n. encoding n.1) (find (λ n. n.0 == p) nodes)

-- the digest at a position, of nodes that are kept, or else of those that are supplied
abbrev pub known_with : {D : Type 0} → (D → List ℕ) → List (ℕ × D) → List (ℕ × D) → Lookup
known_with encoding nodes supplied p =
    option_map_or (λ n. Some (encoding n.1)) (find (λ n. n.0 == p) nodes) (digest_among encoding supplied p)

-- what is known of the nodes of the tree of so many leaves are these digests of trees
abbrev pub IsKnownOf : Rule → ℕ → Digests → Lookup → Type 0
IsKnownOf rule leaves digest known = (first : ℕ) (tree : Tree) (d : List ℕ)
    → IsNodeAt first tree (forest_of rule leaves) → known (position tree) ≡ Some d → d ≡ digest first tree

-- the positions of the peaks after the range that stand in the proof as one digest
abbrev pub suffix_positions : {D : Type 0} → Rule → Kept D → List ℕ
suffix_positions rule store =
    positions_of (filter (is_after store.stop) (drop store.singles (peaks_of rule store.leaves)))

-- the peaks before the range that stand in the proof as one digest, and those after it
abbrev pub front_peaks : {D : Type 0} → Rule → Kept D → List Located
front_peaks rule store = filter (is_before store.start) (take store.singles (peaks_of rule store.leaves))

abbrev pub back_peaks : {D : Type 0} → Rule → Kept D → List Located
back_peaks rule store = filter (is_after store.stop) (drop store.singles (peaks_of rule store.leaves))

-- these are folded as digests of these trees
pub record AreFoldsOf {D : Type 0} (encoding : D → List ℕ) (hash : Hash) (rule : Rule) (digest : Digests)
    (store : Kept D) : Type 0 where
  pub front : map encoding store.front ≡ as_one (folded_forward hash) (singly digest (front_peaks rule store))
  pub back : map encoding store.back ≡ as_one (folded_backward hash) (singly digest (back_peaks rule store))

-- The other peaks before a part of the range, from left to right, and after it: those of them that stand in no such
-- digest.
abbrev pub more_before : {D : Type 0} → Rule → Kept D → ℕ → List Located
more_before rule store start =
    drop (length (front_peaks rule store)) (filter (is_before start) (peaks_of rule store.leaves))

abbrev pub more_after : {D : Type 0} → Rule → Kept D → ℕ → List Located
more_after rule store stop =
    let after = filter (is_after stop) (peaks_of rule store.leaves) in
    take (length after - length (back_peaks rule store)) after

-- the single nodes that the proof of the part is made of
abbrev pub part_nodes : {D : Type 0} → Rule → Kept D → ℕ → ℕ → List Located
part_nodes rule store start stop =
    more_before rule store start ++ (more_after rule store stop ++ inner_nodes start stop (peaks_of rule store.leaves))

-- the nodes that are kept, each at its position: those that the proof tells
abbrev pub kept_nodes : {D : Type 0} → Rule → Kept D → List Located
kept_nodes rule store = extracted_nodes store.singles store.start store.stop (peaks_of rule store.leaves)

-- the part is not empty, and stands in the range
pub record IsPart {D : Type 0} (store : Kept D) (start stop : ℕ) : Type 0 where
  pub begins : store.start ≤ start
  pub some : start < stop
  pub ends : stop ≤ store.stop

-- why the proof of a part of the range may not be built: out of memory, or the part is empty, or it does not stand in
-- the range, or the digest of a node that its proof is made of is not kept, of which the first is told
abbrev pub IsRefusalToBuildPart : {F D : Type 0} → Rule → (D → List ℕ) → Kept D → ℕ → ℕ → Error F → Type 0
IsRefusalToBuildPart rule encoding store start stop Empty = stop ≤ start
IsRefusalToBuildPart rule encoding store start stop (RangeOutOfBounds end) =
    (end ≡ stop) × (start < stop) × ((start < store.start) ⊎ (store.stop < stop))
IsRefusalToBuildPart rule encoding store start stop (ElementPruned p) = IsPart store start stop
    × (first_missing (digest_among encoding store.nodes) (positions_of (part_nodes rule store start stop)) ≡ Some p)
IsRefusalToBuildPart rule encoding store start stop Memory = Unit {0}
IsRefusalToBuildPart rule encoding store start stop other = ⊥

-- a node that is not known is none of these
abbrev pub IsMissedApart : {F : Type 0} → List ℕ → Error F → Type 0
IsMissedApart suffix (ElementPruned p) = Contains suffix p → ⊥
IsMissedApart suffix other = Unit {0}

-- why the proof of these elements may not be built: a node that is not known is told apart where it is a peak that
-- stands in the proof as one digest with others
abbrev pub IsRefusalToBuildOf : {F : Type 0} → Rule → ℕ → List ℕ → ℕ → Lookup → List ℕ → StoreError F → Type 0
IsRefusalToBuildOf rule leaves locations inactive known suffix (Refused e) =
    IsRefusalToProveMany rule leaves locations inactive known e × IsMissedApart suffix e
IsRefusalToBuildOf {F = F} rule leaves locations inactive known suffix (CompressedDigest p) =
    IsRefusalToProveMany {F = F} rule leaves locations inactive known (ElementPruned p) × Contains suffix p
