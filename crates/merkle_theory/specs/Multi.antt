-- Which nodes the proof of some elements is made of.
use Rattle.std.specs.Prelude.{◌≡◌, ℕ, suc, ◌+◌, ◌<◌, ◌≤◌, ◌^◌, ◌&&◌, Bool, false, nat_le, nat_lt, if◌then◌else◌, List}
use Rattle.std.specs.Prelude.{[], ◌∷◌, ◌++◌, Option, Some, None, map, length, slice_get}
use Rattle.std.specs.List.{flat_map, list_any}
use Rattle.std.specs.List.Sorted.{IsNonDecreasingBy, IsPermutation}
use Rattle.merkle_forest.specs.Forest.{Tree, leaf, branch, position, leaf_count, Rule, forest_of}
use Rattle.merkle_forest.specs.Nodes.{IsNodeAt}
use Rattle.merkle_forest.specs.Trees.{Located, end_of}
use Rattle.merkle_core_parts.specs.declared.error.Error.{Error}
use Rattle.merkle_core_parts.specs.declared.error.Error.TheVariants.{LocationOverflow, Empty, LeafOutOfBounds}
use Rattle.merkle_core_parts.specs.declared.error.Error.TheVariants.{DuplicateLocation, UnsortedLocation, Memory}
use Rattle.merkle_core_parts.specs.declared.error.Error.TheVariants.{ElementPruned, InvalidInactivePeaks}
use Rattle.merkle_core_parts.specs.Mem.{NodeHash, tree_digest}
use Rattle.merkle_theory.specs.MadeRoots.{peaks_of}
use Rattle.merkle_theory.specs.Plans.{Lookup, first_missing, positions_of}

-- one of these locations is that of a leaf of the tree
abbrev pub is_named : List ℕ → Located → Bool
is_named locations tree = list_any (λ l. nat_le tree.0 l && nat_lt l (end_of tree)) locations

-- the maximal nodes of a tree that hold no leaf at one of these locations, from left to right
abbrev pub unnamed_nodes : List ℕ → ℕ → Tree → List Located
unnamed_nodes locations at (leaf p) = if is_named locations (at, leaf p) then [] else (at, leaf p) ∷ []
unnamed_nodes locations at (branch p left right) =
    if is_named locations (at, branch p left right)
    then unnamed_nodes locations at left ++ unnamed_nodes locations (at + leaf_count left) right
    else (at, branch p left right) ∷ []

-- those of all peaks: a peak without such a leaf is one of them
abbrev pub multi_nodes : List ℕ → List Located → List Located
multi_nodes locations peaks = flat_map (λ peak. unnamed_nodes locations peak.0 peak.1) peaks

-- these are their positions in a tree of so many leaves, in ascending order
pub record AreMultiPositions (rule : Rule) (leaves : ℕ) (locations positions : List ℕ) : Type 0 where
  pub all : IsPermutation (positions_of (multi_nodes locations (peaks_of rule leaves))) positions
  pub ascending : IsNonDecreasingBy (λ p. p) positions

-- locations that ascend strictly, from one that is at least so great
abbrev pub AscendFrom : ℕ → List ℕ → Type 0
AscendFrom low [] = Unit {0}
AscendFrom low (l ∷ locations) = (low ≤ l) × AscendFrom (suc l) locations

abbrev pub AllBelow : ℕ → List ℕ → Type 0
AllBelow end [] = Unit {0}
AllBelow end (l ∷ locations) = (l < end) × AllBelow end locations

-- of ascending locations the first ones, before `end`, were taken
pub record AreTaken (end : ℕ) (locations after : List ℕ) : Type 0 where
  pub front : List ℕ
  pub is : locations ≡ front ++ after
  pub below : AllBelow end front
  pub rest : AscendFrom end after

-- a location is next, and it stands before `end`
abbrev pub is_next : ℕ → List ℕ → Bool
is_next end [] = false
is_next end (l ∷ locations) = nat_lt l end

-- what was found in a tree, and the locations that are left
pub record AreFound (locations after : List ℕ) (old new : List ℕ) (at : ℕ) (t : Tree) : Type 0 where
  pub grown : new ≡ old ++ positions_of (unnamed_nodes locations at t)
  pub taken : AreTaken (at + leaf_count t) locations after

-- the first location that does not ascend strictly or is not below the leaf count, and how great it has to be at least
abbrev pub first_bad : ℕ → ℕ → List ℕ → Option (ℕ × ℕ)
first_bad leaves low [] = None
first_bad leaves low (l ∷ locations) =
    if nat_le low l && nat_lt l leaves then first_bad leaves (suc l) locations else Some (low, l)

-- why the proof of these elements may not be planned: out of memory, or none is asked for, or a location comes again or
-- after a greater one or there is no such leaf, of which the first is told, or the tree is too large
abbrev pub IsRefusalOfLocations : {F : Type 0} → ℕ → List ℕ → Error F → Type 0
IsRefusalOfLocations leaves locations Empty = locations ≡ []
IsRefusalOfLocations leaves locations (DuplicateLocation l) = first_bad leaves 0 locations ≡ Some (suc l, l)
IsRefusalOfLocations leaves locations (UnsortedLocation l) =
    (before : ℕ) × (first_bad leaves 0 locations ≡ Some (suc before, l)) × (l < before)
IsRefusalOfLocations leaves locations (LeafOutOfBounds l) =
    (low : ℕ) × (first_bad leaves 0 locations ≡ Some (low, l)) × (low ≤ l) × (leaves ≤ l)
IsRefusalOfLocations leaves locations (LocationOverflow count) =
    (first_bad leaves 0 locations ≡ None) × (count ≡ leaves) × (2 ^ 62 < leaves)
IsRefusalOfLocations leaves locations Memory = Unit {0}
IsRefusalOfLocations leaves locations other = ⊥

-- why the proof of these elements may not be given, in the order of what is asked: their positions are refused, the
-- tree has fewer peaks than are to be inactive, or the digest of a node that the proof is made of is not known, of
-- which the first is told
abbrev pub IsRefusalToProveMany : {F : Type 0} → Rule → ℕ → List ℕ → ℕ → Lookup → Error F → Type 0
IsRefusalToProveMany rule leaves locations inactive known InvalidInactivePeaks =
    (first_bad leaves 0 locations ≡ None) × (length (peaks_of rule leaves) < inactive)
IsRefusalToProveMany rule leaves locations inactive known (ElementPruned p) = (inactive ≤ length (peaks_of rule leaves))
    × ((positions : List ℕ) × AreMultiPositions rule leaves locations positions
    × (first_missing known positions ≡ Some p))
IsRefusalToProveMany rule leaves locations inactive known other = IsRefusalOfLocations leaves locations other

-- the digests of the proof are those that are known at its positions
pub record AreMultiDigests (rule : Rule) (leaves : ℕ) (locations : List ℕ) (known : Lookup)
    (digests : List (List ℕ)) : Type 0 where
  pub positions : List ℕ
  pub at : AreMultiPositions rule leaves locations positions
  pub known_there : map (λ d. Some d) digests ≡ map known positions

-- each digest is that of the node at its position, in the tree over these leaf digests
abbrev pub AreDigestsAt : NodeHash → Rule → List (List ℕ) → List ℕ → List (List ℕ) → Type 0
AreDigestsAt node rule leaf_digests positions digests = (i first : ℕ) (tree : Tree)
    → IsNodeAt first tree (forest_of rule (length leaf_digests)) → slice_get positions i ≡ Some (position tree)
    → slice_get digests i ≡ Some (tree_digest node leaf_digests first tree)
