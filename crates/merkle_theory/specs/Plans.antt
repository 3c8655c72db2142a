-- Which nodes the proof of a range is made of, and their digests where these are looked up by position.
use Rattle.std.specs.Prelude.{◌≡◌, ◌⊎◌, ℕ, ◌+◌, ◌<◌, ◌≤◌, ◌^◌}
use Rattle.std.specs.Prelude.{if◌then◌else◌, List, [], ◌∷◌, ◌++◌, map, filter, take}
use Rattle.std.specs.Prelude.{drop, length, find, is_none, unwrap_or, Option, Some, None, option_map}
use Rattle.std.specs.List.{flat_map}
use Rattle.merkle_forest.specs.declared.bagging.Bagging.{Bagging}
use Rattle.merkle_forest.specs.Forest.{Tree, leaf, branch, position, leaf_count, Rule, forest_of}
use Rattle.merkle_forest.specs.Hashing.{Hash}
use Rattle.merkle_forest.specs.Nodes.{IsNodeAt}
use Rattle.merkle_forest.specs.Trees.{Located}
use Rattle.merkle_core_parts.specs.Mem.{NodeHash, tree_digest}
use Rattle.merkle_core_parts.specs.declared.error.Error.{Error}
use Rattle.merkle_core_parts.specs.declared.error.Error.TheVariants.{LocationOverflow, Empty, RangeOutOfBounds}
use Rattle.merkle_core_parts.specs.declared.error.Error.TheVariants.{LeafOutOfBounds, ElementPruned}
use Rattle.merkle_core_parts.specs.declared.error.Error.TheVariants.{InvalidInactivePeaks, Memory}
use Rattle.merkle_theory.specs.MadeRoots.{peaks_of}
use Rattle.merkle_theory.specs.Ranges.{Digests, is_before, is_after, meets, range_digests}

-- the maximal nodes of a tree that hold no leaf of the range, from left to right
abbrev pub sibling_nodes : ℕ → ℕ → ℕ → Tree → List Located
sibling_nodes start stop at (leaf p) = if meets start stop (at, leaf p) then [] else (at, leaf p) ∷ []
sibling_nodes start stop at (branch p left right) =
    if meets start stop (at, branch p left right)
    then sibling_nodes start stop at left ++ sibling_nodes start stop (at + leaf_count left) right
    else (at, branch p left right) ∷ []

-- those of the peaks that meet the range
abbrev pub inner_nodes : ℕ → ℕ → List Located → List Located
inner_nodes start stop peaks =
    flat_map (λ peak. sibling_nodes start stop peak.0 peak.1) (filter (meets start stop) peaks)

-- the nodes that the proof of the range is made of: the peaks before it, the peaks after it, and the siblings
abbrev pub range_nodes : ℕ → ℕ → List Located → List Located
range_nodes start stop peaks =
    filter (is_before start) peaks ++ (filter (is_after stop) peaks ++ inner_nodes start stop peaks)

abbrev pub positions_of : List Located → List ℕ
positions_of nodes = map (λ node. position node.1) nodes

-- their positions, in a tree of so many leaves
abbrev pub range_positions : Rule → ℕ → ℕ → ℕ → List ℕ
range_positions rule leaves start stop = positions_of (range_nodes start stop (peaks_of rule leaves))

-- the digests of the honest proof of the range in a tree of so many leaves, of whose peaks so many are inactive
abbrev pub honest_digests : Hash → Digests → Bagging → Rule → ℕ → ℕ → ℕ → ℕ → List (List ℕ)
honest_digests hash digest bagging rule leaves inactive start stop =
    range_digests hash digest bagging start stop (take inactive (peaks_of rule leaves))
    (drop inactive (peaks_of rule leaves))

-- the digest that is known of the node at a position
abbrev pub Lookup : Type 0
Lookup = ℕ → Option (List ℕ)

-- the digest of a tree, as it is looked up at its position
abbrev pub looked_up : Lookup → Digests
looked_up known at tree = unwrap_or (known (position tree)) []

-- the first of these positions of which no digest is known
abbrev pub first_missing : Lookup → List ℕ → Option ℕ
first_missing known positions = find (λ p. is_none (known p)) positions

-- so are the answers of a function that gives the digest of the node at a position
abbrev pub AnswersAs : {D : Type 0} → (ℕ → Option D → Type 0) → (D → List ℕ) → Lookup → Type 0
AnswersAs post encoding known =
    (p : ℕ) (answer : Option _) → p < 2 ^ 64 → post p answer → option_map encoding answer ≡ known p

-- why digests may not be looked up: out of memory, or one is not known, of which the first is named
abbrev pub IsRefusalToLookUp : {F : Type 0} → Lookup → List ℕ → Error F → Type 0
IsRefusalToLookUp known positions (ElementPruned p) = first_missing known positions ≡ Some p
IsRefusalToLookUp known positions Memory = Unit {0}
IsRefusalToLookUp known positions other = ⊥

-- what is known of the nodes of the tree over these leaf digests is theirs
abbrev pub IsLookupOf : NodeHash → Rule → List (List ℕ) → Lookup → Type 0
IsLookupOf node rule leaf_digests known = (first : ℕ) (tree : Tree) (digest : List ℕ)
    → IsNodeAt first tree (forest_of rule (length leaf_digests)) → known (position tree) ≡ Some digest
    → digest ≡ tree_digest node leaf_digests first tree

-- what a range is asked for in a tree of so many leaves
pub record Asked : Type 0 where
  pub leaves : ℕ
  pub start : ℕ
  pub stop : ℕ

-- a range that is not empty and stands in its tree, which is not too large
pub record IsWithinTree (asked : Asked) : Type 0 where
  pub few : asked.leaves ≤ 2 ^ 62
  pub some : asked.start < asked.stop
  pub within : asked.stop ≤ asked.leaves

-- why a range may not be planned: out of memory, or it is empty, or ends past the leaves, or the tree is too large, of
-- which the first is told
abbrev pub IsRefusalOfRange : {F : Type 0} → Asked → Error F → Type 0
IsRefusalOfRange asked Empty = asked.stop ≤ asked.start
IsRefusalOfRange asked (RangeOutOfBounds stop) =
    (asked.start < asked.stop) × (stop ≡ asked.stop) × (asked.leaves < asked.stop)
IsRefusalOfRange asked (LocationOverflow leaves) =
    (asked.start < asked.stop) × (asked.stop ≤ asked.leaves) × (leaves ≡ asked.leaves) × (2 ^ 62 < asked.leaves)
IsRefusalOfRange asked Memory = Unit {0}
IsRefusalOfRange asked other = ⊥

-- why a leaf's proof may not be planned: out of memory, or there is no such leaf, or the tree is too large
abbrev pub IsRefusalOfElement : {F : Type 0} → ℕ → ℕ → Error F → Type 0
IsRefusalOfElement leaves location (LeafOutOfBounds asked) = (asked ≡ location) × (leaves ≤ location)
IsRefusalOfElement leaves location (LocationOverflow most) = (location < leaves) × (most ≡ leaves) × (2 ^ 62 < leaves)
IsRefusalOfElement leaves location Memory = Unit {0}
IsRefusalOfElement leaves location other = ⊥

-- why a proof may not be built, of which so many peaks are to be inactive: out of memory, or the tree has fewer, or the
-- digest of a node that the proof is made of is not known
abbrev pub IsRefusalToBuild : {F : Type 0} → Rule → Asked → ℕ → Lookup → Error F → Type 0
IsRefusalToBuild rule asked inactive known InvalidInactivePeaks = length (peaks_of rule asked.leaves) < inactive
IsRefusalToBuild rule asked inactive known (ElementPruned p) = (inactive ≤ length (peaks_of rule asked.leaves))
    × (first_missing known (range_positions rule asked.leaves asked.start asked.stop) ≡ Some p)
IsRefusalToBuild rule asked inactive known Memory = Unit {0}
IsRefusalToBuild rule asked inactive known other = ⊥

-- a proof is built in a tree of so many leaves that is now at so many: the range stands in it, it has as many peaks as
-- are to be inactive, and of each node that the proof is made of the digest is known
pub record IsProvable (rule : Rule) (total : ℕ) (asked : Asked) (inactive : ℕ) (known : Lookup) : Type 0 where
  pub held : asked.leaves ≤ total
  pub within : IsWithinTree asked
  pub enough : inactive ≤ length (peaks_of rule asked.leaves)
  pub there : first_missing known (range_positions rule asked.leaves asked.start asked.stop) ≡ None

-- why a proof of a range may not be given: out of memory, or the tree never had so many leaves, or the range may not be
-- planned, or its proof may not be built, of which the first is told
abbrev pub IsRefusalToProve : {F : Type 0} → Rule → ℕ → Asked → ℕ → Lookup → Error F → Type 0
IsRefusalToProve rule total asked inactive known Empty = (asked.leaves ≤ total) × (asked.stop ≤ asked.start)
IsRefusalToProve rule total asked inactive known (RangeOutOfBounds end) =
    ((total < asked.leaves) × (end ≡ asked.leaves))
    ⊎ ((asked.leaves ≤ total) × (asked.start < asked.stop) × (end ≡ asked.stop) × (asked.leaves < asked.stop))
IsRefusalToProve rule total asked inactive known InvalidInactivePeaks =
    (asked.leaves ≤ total) × IsWithinTree asked × (length (peaks_of rule asked.leaves) < inactive)
IsRefusalToProve rule total asked inactive known (ElementPruned p) = (asked.leaves ≤ total) × IsWithinTree asked
    × (inactive ≤ length (peaks_of rule asked.leaves))
    × (first_missing known (range_positions rule asked.leaves asked.start asked.stop) ≡ Some p)
IsRefusalToProve rule total asked inactive known Memory = Unit {0}
IsRefusalToProve rule total asked inactive known other = ⊥

-- and why one of the tree as it is now may not
abbrev pub IsRefusalToProveNow : {F : Type 0} → Rule → Asked → ℕ → Lookup → Error F → Type 0
IsRefusalToProveNow rule asked inactive known Empty = asked.stop ≤ asked.start
IsRefusalToProveNow rule asked inactive known (RangeOutOfBounds end) =
    (asked.start < asked.stop) × (end ≡ asked.stop) × (asked.leaves < asked.stop)
IsRefusalToProveNow rule asked inactive known InvalidInactivePeaks =
    IsWithinTree asked × (length (peaks_of rule asked.leaves) < inactive)
IsRefusalToProveNow rule asked inactive known (ElementPruned p) =
    IsWithinTree asked × (inactive ≤ length (peaks_of rule asked.leaves))
    × (first_missing known (range_positions rule asked.leaves asked.start asked.stop) ≡ Some p)
IsRefusalToProveNow rule asked inactive known Memory = Unit {0}
IsRefusalToProveNow rule asked inactive known other = ⊥

-- and one of one element
abbrev pub IsRefusalToProveElement : {F : Type 0} → Rule → ℕ → ℕ → ℕ → Lookup → Error F → Type 0
IsRefusalToProveElement rule leaves location inactive known (LeafOutOfBounds asked) =
    (asked ≡ location) × (leaves ≤ location)
IsRefusalToProveElement rule leaves location inactive known InvalidInactivePeaks =
    (location < leaves) × (length (peaks_of rule leaves) < inactive)
IsRefusalToProveElement rule leaves location inactive known (ElementPruned p) =
    (location < leaves) × (inactive ≤ length (peaks_of rule leaves))
    × (first_missing known (range_positions rule leaves location (location + 1)) ≡ Some p)
IsRefusalToProveElement rule leaves location inactive known Memory = Unit {0}
IsRefusalToProveElement rule leaves location inactive known other = ⊥
