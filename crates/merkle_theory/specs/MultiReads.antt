-- The root that a proof of several elements leads to, from the elements, their locations and its digests.
--
-- Of 11 leaves in a Mountain Range (`ranges` draws it) the leaves 2 and 9 are shown. The peak 14 holds leaf 2, the peak
-- 17 leaf 9, and 18 neither. So the digests are needed of 2, 4 and 13 in 14, of 15 in 17, and of 18, and they stand in
-- the order of these positions: a node's digest comes after as many as there are needed nodes with lesser positions. In
-- a Mountain Belt that is not the order from left to right.
use Rattle.std.specs.Prelude.{◌≡◌, ◌≤◌, ◌++◌, true, false, ℕ, zero, suc, ◌+◌, ◌^◌, ◌==◌, ◌&&◌, Bool, nat_le, nat_lt}
use Rattle.std.specs.Prelude.{is_none, if◌then◌else◌, List, [], ◌∷◌, map, filter, length, slice_get, Option, None, Some}
use Rattle.std.specs.Prelude.{option_map}
use Rattle.std.specs.List.Sorted.{IsNonDecreasingBy, IsPermutation}
use Rattle.merkle_forest.specs.declared.bagging.Bagging.{Bagging}
use Rattle.merkle_forest.specs.Forest.{Tree, leaf, branch, height, leaf_count, Rule}
use Rattle.merkle_forest.specs.Hashing.{Hash}
use Rattle.merkle_forest.specs.Made.{Made, bytes, value}
use Rattle.merkle_forest.specs.Trees.{Located, end_of}
use Rattle.merkle_theory.specs.MadeRoots.{Naming, folded, from_left, peaks_of, root_made}
use Rattle.merkle_theory.specs.MadeTrees.{Over, Elements, leaf_made, branch_made}
use Rattle.merkle_theory.specs.Multi.{AscendFrom, is_named, multi_nodes, first_bad}
use Rattle.merkle_theory.specs.Plans.{Lookup, positions_of}

-- elements, each with the location that it is shown at
abbrev pub Shown : Type 0
Shown = List (List ℕ × ℕ)

abbrev pub locations_of : Shown → List ℕ
locations_of shown = map (λ x. x.1) shown

-- the element that is shown at a location
abbrev pub shown_at : Shown → Elements
shown_at [] location = []
shown_at (x ∷ shown) location = if x.1 == location then x.0 else shown_at shown location

-- those that are shown in a tree
abbrev pub shown_in : Located → Shown → Shown
shown_in tree shown = filter (λ x. nat_le tree.0 x.1 && nat_lt x.1 (end_of tree)) shown

-- and from a location on
abbrev pub shown_from : ℕ → Shown → Shown
shown_from first shown = filter (λ x. nat_le first x.1) shown

-- how many of these positions are less
abbrev pub rank_among : List ℕ → ℕ → ℕ
rank_among positions p = length (filter (λ q. nat_lt q p) positions)

-- the digests of the nodes at these positions, which stand in the order of the positions
abbrev pub ranked : List ℕ → List (List ℕ) → Lookup
ranked positions digests p = slice_get digests (rank_among positions p)

-- two as one, where both are there
abbrev pub both_there : {A B C : Type 0} → (A → B → C) → Option A → Option B → Option C
both_there join None y = None
both_there join (Some x) y = option_map (join x) y

-- a tree, from the elements at these locations and the digests that are known of the maximal nodes without one
abbrev pub read_shown : Over → Elements → List ℕ → Lookup → ℕ → Tree → Option Made
read_shown over elements locations known at (leaf p) =
    if is_named locations (at, leaf p) then Some (leaf_made p (elements at)) else option_map bytes (known p)
read_shown over elements locations known at (branch p left right) =
    if is_named locations (at, branch p left right)
    then both_there (branch_made over at (height (branch p left right)) p)
    (read_shown over elements locations known at left) (read_shown over elements locations known
    (at + leaf_count left) right)
    else option_map bytes (known p)

-- all peaks
abbrev pub read_peaks : Over → Elements → List ℕ → Lookup → List Located → Option (List Made)
read_peaks over elements locations known [] = Some []
read_peaks over elements locations known (peak ∷ peaks) =
    both_there (λ x xs. x ∷ xs) (read_shown over elements locations known peak.0 peak.1)
    (read_peaks over elements locations known peaks)

-- peaks from the one numbered n up to the last one, folded from the right
abbrev pub back_of : Naming → ℕ → ℕ → Made → List Made → Made
back_of names last n x [] = x
back_of names last n x (y ∷ xs) = folded names n last x (back_of names last (suc n) y xs)

-- what is folded so far, and the peaks from the one numbered n on, of which so many are folded onto it singly
abbrev pub onto_of : Naming → ℕ → ℕ → ℕ → Made → List Made → Made
onto_of names last inactive n first [] = first
onto_of names last zero n first (x ∷ xs) = folded names 1 last first (back_of names last n x xs)
onto_of names last (suc inactive) n first (x ∷ xs) = onto_of names last inactive (suc n) (folded names 1 n first x) xs

-- all peaks as one, of which so many are folded from the left: as `made_bag`, whatever the peaks are made of
abbrev pub as_bag : Naming → ℕ → ℕ → List Made → Made
as_bag names last inactive [] = bytes []
as_bag names last zero (x ∷ xs) = back_of names last 1 x xs
as_bag names last (suc inactive) (x ∷ xs) = onto_of names last inactive 2 x xs

-- the root over these peaks
abbrev pub root_over_peaks : Naming → Bagging → ℕ → ℕ → List Made → Made
root_over_peaks names bagging leaves inactive peaks =
    root_made names bagging leaves inactive
    (as_bag names (length peaks) (from_left bagging inactive (length peaks)) peaks)

-- the root from what is shown and known; none where the tree has fewer peaks than are to be inactive, or a digest is
-- missing
abbrev pub shown_root : Naming → Over → Bagging → Rule → ℕ → ℕ → Shown → Lookup → Option Made
shown_root names over bagging rule leaves inactive shown known =
    let peaks = peaks_of rule leaves in
    if nat_le inactive (length peaks)
    then option_map (root_over_peaks names bagging leaves inactive)
    (read_peaks over (shown_at shown) (locations_of shown) known peaks)
    else None

-- the locations can be shown: they ascend, and at each stands a leaf; there is none only where there is no leaf
abbrev pub can_be_shown : ℕ → List ℕ → Bool
can_be_shown leaves [] = leaves == 0
can_be_shown leaves (l ∷ locations) = is_none (first_bad leaves 0 (l ∷ locations)) && nat_le leaves (2 ^ 62)

-- the positions of the nodes that the proof is made of
abbrev pub needed_positions : Rule → ℕ → List ℕ → List ℕ
needed_positions rule leaves locations = positions_of (multi_nodes locations (peaks_of rule leaves))

-- The root that the proof leads to. None: the locations cannot be shown, the tree has fewer peaks than are to be
-- inactive, or a digest is missing or left over.
abbrev pub multi_root : Naming → Over → Bagging → Rule → ℕ → ℕ → Shown → List (List ℕ) → Option Made
multi_root names over bagging rule leaves inactive shown digests =
    let needed = needed_positions rule leaves (locations_of shown) in
    if can_be_shown leaves (locations_of shown) && (length digests == length needed)
    then shown_root names over bagging rule leaves inactive shown (ranked needed digests)
    else None

-- what the code has read of peaks: all of them, or a digest is missing
abbrev pub ArePeaksRead : Hash → Option (List Made) → List (List ℕ) → List (List ℕ) → Bool → Type 0
ArePeaksRead hash reading old new true =
    (digests : List (List ℕ)) × (option_map (map (value hash)) reading ≡ Some digests) × (new ≡ old ++ digests)
ArePeaksRead hash reading old new false = option_map (map (value hash)) reading ≡ None

-- these are the positions of the nodes that the proof is made of, in ascending order, and the locations ascend
pub record AreNeeded (rule : Rule) (leaves : ℕ) (locations positions : List ℕ) : Type 0 where
  pub can : can_be_shown leaves locations ≡ true
  pub few : leaves ≤ 2 ^ 62
  pub all : IsPermutation (needed_positions rule leaves locations) positions
  pub ascending : IsNonDecreasingBy (λ p. p) positions
  pub up : AscendFrom 0 locations
