-- The printed texts of the errors, and which calls refuse what.
use Rattle.std.specs.Prelude.{◌≡◌, true, ℕ, List, length, ◌+◌, ◌++◌, ◌<◌, ◌≤◌, ◌^◌, codes, nat_le, nat_lt, ◌||◌, find}
use Rattle.std.specs.Prelude.{Option, option_map, Some, None}
use Rattle.std.specs.Fmt.{decimal}
use Rattle.merkle_forest.specs.Forest.{Rule}
use Rattle.merkle_forest.specs.Nodes.{IsSize}
use Rattle.merkle_core_parts.specs.Layers.{Layered, HasNone, known_at, bases, oldest_leaves}
use Rattle.merkle_core_parts.specs.Mem.{Base, Growth, Replacement, node_count, pinned_positions}
use Rattle.merkle_core_parts.specs.declared.error.Error.{Error}
use Rattle.merkle_core_parts.specs.declared.error.Error.TheVariants.{LocationOverflow, Empty, RangeOutOfBounds}
use Rattle.merkle_core_parts.specs.declared.error.Error.TheVariants.{InvalidSize}
use Rattle.merkle_core_parts.specs.declared.error.Error.TheVariants.{LeafOutOfBounds, DuplicateLocation}
use Rattle.merkle_core_parts.specs.declared.error.Error.TheVariants.{UnsortedLocation}
use Rattle.merkle_core_parts.specs.declared.error.Error.TheVariants.{ElementPruned, InvalidPinnedNodes, StaleBatch}
use Rattle.merkle_core_parts.specs.declared.error.Error.TheVariants.{AncestorDropped}
use Rattle.merkle_core_parts.specs.declared.error.Error.TheVariants.{InvalidInactivePeaks, MissingNode, Memory}

-- an error's number and what it means
abbrev pub error_text : {F : Type 0} → Error F → List ℕ
error_text (LocationOverflow location) = codes "M3: location " ++ decimal location ++ codes " is past the limit"
error_text Empty = codes "M4: no location is asked for"
error_text (RangeOutOfBounds location) = codes "M5: the range ends past the leaves at location " ++ decimal location
error_text InvalidSize = codes "M6: no tree has so many nodes"
error_text (LeafOutOfBounds location) = codes "M7: no leaf at location " ++ decimal location
error_text (DuplicateLocation location) = codes "M8: location " ++ decimal location ++ codes " comes twice"
error_text (UnsortedLocation location) = codes "M9: location " ++ decimal location ++ codes " comes after a greater one"
error_text (ElementPruned position) = codes "M10: node " ++ decimal position ++ codes " is pruned"
error_text InvalidPinnedNodes = codes "M12: too few or too many pinned nodes"
error_text StaleBatch = codes "M13: the batch begins from another tree"
error_text AncestorDropped = codes "M14: a batch that was given up is needed"
error_text InvalidInactivePeaks = codes "M16: fewer peaks than inactive ones"
error_text (MissingNode position) = codes "M20: node " ++ decimal position ++ codes " is missing"
error_text Memory = codes "M23: out of memory"

-- why nodes may not be made, of which those before a position are needed and these are known: out of memory, or one
-- that is needed is not known, which only a batch had that was given up where it is none of the tree's
abbrev pub IsRefusalOver : {F : Type 0} → Rule → ℕ → Layered → Error F → Type 0
IsRefusalOver rule needed known (MissingNode position) = (position < needed) × (known_at rule known position ≡ None)
    × (known.dropped ≡ true → position < node_count rule known.tree.leaves)
IsRefusalOver rule needed known AncestorDropped = (known.dropped ≡ true) × ((position : ℕ) × (position < needed)
    × (known_at rule known position ≡ None) × (node_count rule known.tree.leaves ≤ position))
IsRefusalOver rule needed known Memory = Unit {0}
IsRefusalOver rule needed known other = ⊥

-- why a leaf may not be added after so many: out of memory, or its location is past the limit
abbrev pub IsRefusalPast : {F : Type 0} → ℕ → Error F → Type 0
IsRefusalPast leaves (LocationOverflow location) = (location ≡ leaves) × (2 ^ 62 ≤ leaves)
IsRefusalPast leaves Memory = Unit {0}
IsRefusalPast leaves other = ⊥

-- why so many leaves may not be added after so many: out of memory, or the first location past the limit is one of
-- theirs
abbrev pub IsRefusalOfMany : {F : Type 0} → ℕ → ℕ → Error F → Type 0
IsRefusalOfMany leaves more (LocationOverflow location) = (location ≡ 2 ^ 62) × (2 ^ 62 < leaves + more)
IsRefusalOfMany leaves more Memory = Unit {0}
IsRefusalOfMany leaves more other = ⊥

-- why a leaf may not get another digest, where there are so many leaves and those before a location are pruned: out of
-- memory, it is none of them, or it is pruned
abbrev pub IsRefusalAt : {F : Type 0} → Rule → ℕ → ℕ → ℕ → Error F → Type 0
IsRefusalAt rule boundary leaves asked (LeafOutOfBounds location) = (location ≡ asked) × (leaves ≤ asked)
IsRefusalAt rule boundary leaves asked (ElementPruned position) =
    (position ≡ node_count rule asked) × (asked < boundary) × (asked < leaves)
IsRefusalAt rule boundary leaves asked Memory = Unit {0}
IsRefusalAt rule boundary leaves asked other = ⊥

-- the first of these locations that is pruned, or past so many leaves
abbrev pub first_refused : ℕ → ℕ → List Replacement → Option ℕ
first_refused boundary leaves updates =
    option_map (λ one. one.0) (find (λ one. nat_lt one.0 boundary || nat_le leaves one.0) updates)

-- why leaves may not get these digests: out of memory, or one is pruned or none of the leaves, of which the first is
-- named
abbrev pub IsRefusalOfUpdates : {F : Type 0} → Rule → ℕ → ℕ → List Replacement → Error F → Type 0
IsRefusalOfUpdates rule boundary leaves updates (LeafOutOfBounds location) =
    (first_refused boundary leaves updates ≡ Some location) × (leaves ≤ location)
IsRefusalOfUpdates rule boundary leaves updates (ElementPruned position) =
    (location : ℕ) × (first_refused boundary leaves updates ≡ Some location) × (position ≡ node_count rule location)
    × (location < leaves)
IsRefusalOfUpdates rule boundary leaves updates Memory = Unit {0}
IsRefusalOfUpdates rule boundary leaves updates other = ⊥

-- why a batch may not be applied to a tree: out of memory, or the tree is none of the bases that the batch knows;
-- batches were given up that may have known it where it has fewer leaves than the oldest of these
abbrev pub IsRefusalOnto : {F : Type 0} → Growth → Base → Error F → Type 0
IsRefusalOnto batch tree StaleBatch = HasNone tree (bases batch.base batch.below)
    × (batch.dropped ≡ true → oldest_leaves batch.base.leaves batch.below ≤ tree.leaves)
IsRefusalOnto batch tree AncestorDropped = HasNone tree (bases batch.base batch.below)
    × (batch.dropped ≡ true) × (tree.leaves < oldest_leaves batch.base.leaves batch.below)
IsRefusalOnto batch tree Memory = Unit {0}
IsRefusalOnto batch tree other = ⊥

-- why a tree of so many leaves may not be pruned before a location: out of memory, or it is past the leaves
abbrev pub IsRefusalToPrune : {F : Type 0} → ℕ → ℕ → Error F → Type 0
IsRefusalToPrune leaves asked (LeafOutOfBounds location) = (location ≡ asked) × (leaves < asked)
IsRefusalToPrune leaves asked Memory = Unit {0}
IsRefusalToPrune leaves asked other = ⊥

-- why no tree is made that is pruned before a location and has so many nodes from there on, and so many pinned ones:
-- out of memory, the location is past the limit, no tree has that many nodes, or there are too few or too many pinned
-- ones
abbrev pub IsRefusalOfParts : {F : Type 0} → Rule → ℕ → ℕ → ℕ → Error F → Type 0
IsRefusalOfParts rule boundary nodes pinned (LocationOverflow location) = (location ≡ boundary) × (2 ^ 62 < boundary)
IsRefusalOfParts rule boundary nodes pinned InvalidSize =
    (boundary ≤ 2 ^ 62) × (IsSize rule (node_count rule boundary + nodes) → ⊥)
IsRefusalOfParts rule boundary nodes pinned InvalidPinnedNodes =
    (boundary ≤ 2 ^ 62) × IsSize rule (node_count rule boundary + nodes)
    × (pinned ≡ length (pinned_positions rule boundary) → ⊥)
IsRefusalOfParts rule boundary nodes pinned Memory = Unit {0}
IsRefusalOfParts rule boundary nodes pinned other = ⊥
