-- Peaks as they are bagged: from all elements, or from the elements of a range and the digests of its proof. The
-- digests of the peaks beside the range are `outer` ones, those in the peaks that meet it `inner` ones.
use Rattle.std.specs.Prelude.{ℕ, zero, suc, ◌^◌, ◌||◌, nat_lt, if◌then◌else◌, List, [], ◌∷◌, length, take, drop, Option}
use Rattle.std.specs.Prelude.{None, Some, option_map, option_and_then}
use Rattle.std.specs.List.{list_all}
use Rattle.merkle_forest.specs.declared.bagging.Bagging.{Bagging}
use Rattle.merkle_forest.specs.declared.bagging.Bagging.TheVariants.{ForwardFold, BackwardFold}
use Rattle.merkle_forest.specs.Forest.{Rule, forest_of}
use Rattle.merkle_forest.specs.Hashing.{number, domain_of, inactive_count}
use Rattle.merkle_forest.specs.Made.{Site, Made, bytes, both, hashed}
use Rattle.merkle_forest.specs.Trees.{Located, located}
use Rattle.merkle_theory.specs.Ranges.{meets, is_before, is_after}
use Rattle.merkle_theory.specs.MadeTrees.{Over, Elements, made_tree, given, read_tree}

-- the sites of a tree's root and of its folds
pub record Naming : Type 0 where
  pub root_site : Site
  pub fold_site : ℕ → ℕ → Site

-- two neighbours of which the first begins with the peak numbered a and the second ends with the one numbered b
abbrev pub folded : Naming → ℕ → ℕ → Made → Made → Made
folded names a b x y = hashed (names.fold_site a b) [] (both x y)

-- a peak
abbrev pub made_peak : Over → Elements → Located → Made
made_peak over elements peak = made_tree over elements peak.0 peak.1

-- peaks from the one numbered n up to the last one, folded from the right
abbrev pub made_back : Naming → Over → Elements → ℕ → ℕ → Located → List Located → Made
made_back names over elements last n peak [] = made_peak over elements peak
made_back names over elements last n peak (next ∷ peaks) =
    folded names n last (made_peak over elements peak) (made_back names over elements last (suc n) next peaks)

-- What is folded so far, from the peaks before the one numbered n, and the peaks from there on, of which so many are
-- folded onto it singly, from the left
abbrev pub made_onto : Naming → Over → Elements → ℕ → ℕ → ℕ → Made → List Located → Made
made_onto names over elements last inactive n first [] = first
made_onto names over elements last zero n first (peak ∷ peaks) =
    folded names 1 last first (made_back names over elements last n peak peaks)
made_onto names over elements last (suc inactive) n first (peak ∷ peaks) =
    made_onto names over elements last inactive (suc n) (folded names 1 n first (made_peak over elements peak)) peaks

-- all peaks as one
abbrev pub made_bag : Naming → Over → Elements → ℕ → ℕ → List Located → Made
made_bag names over elements last inactive [] = bytes []
made_bag names over elements last zero (peak ∷ peaks) = made_back names over elements last 1 peak peaks
made_bag names over elements last (suc inactive) (peak ∷ peaks) =
    made_onto names over elements last inactive 2 (made_peak over elements peak) peaks

-- how many peaks are folded from the left: by ForwardFold all
abbrev pub from_left : Bagging → ℕ → ℕ → ℕ
from_left ForwardFold inactive peaks = peaks
from_left BackwardFold inactive peaks = inactive

-- the peaks of so many leaves
abbrev pub peaks_of : Rule → ℕ → List Located
peaks_of rule leaves = located (forest_of rule leaves)

-- the peaks of so many leaves as one
abbrev pub bag_of : Naming → Over → Elements → Bagging → ℕ → List Located → Made
bag_of names over elements bagging inactive peaks =
    made_bag names over elements (length peaks) (from_left bagging inactive (length peaks)) peaks

-- the root's string, over a bag: leaf count, bagging, count of inactive peaks, and the bag
abbrev pub root_made : Naming → Bagging → ℕ → ℕ → Made → Made
root_made names bagging leaves inactive bag =
    hashed names.root_site []
    (both (bytes (number leaves)) (both (bytes (domain_of bagging ∷ inactive_count inactive)) bag))

-- the root of the tree of so many leaves
abbrev pub made_root : Naming → Over → Elements → Bagging → Rule → ℕ → ℕ → Made
made_root names over elements bagging rule leaves inactive =
    root_made names bagging leaves inactive (bag_of names over elements bagging inactive (peaks_of rule leaves))

-- outer and inner digests
abbrev pub Streams : Type 0
Streams = List (List ℕ) × List (List ℕ)

-- what is read, and the digests that are left
abbrev pub Bagged : Type 0
Bagged = Option (Made × Streams)

-- the first outer digest
abbrev pub given_outer : Streams → Bagged
given_outer streams = option_map (λ x. (x.0, (x.1, streams.1))) (given streams.0)

-- a peak: read where it meets the range, else given
abbrev pub read_peak : Over → Elements → ℕ → ℕ → Located → Streams → Bagged
read_peak over elements start stop peak streams =
    if meets start stop peak
    then option_map (λ x. (x.0, (streams.0, x.1))) (read_tree over elements start stop peak.0 peak.1 streams.1)
    else given_outer streams

-- peaks folded from the right: where all stand after the range they are given as one
abbrev pub read_back : Naming → Over → Elements → ℕ → ℕ → ℕ → ℕ → Located → List Located → Streams → Bagged
read_back names over elements start stop last n peak [] streams = read_peak over elements start stop peak streams
read_back names over elements start stop last n peak (next ∷ peaks) streams =
    if list_all (is_after stop) (peak ∷ next ∷ peaks) then given_outer streams
    else option_and_then (λ x. option_map (λ y. (folded names n last x.0 y.0, y.1))
    (read_back names over elements start stop last (suc n) next peaks x.1))
    (read_peak over elements start stop peak streams)

-- what is folded so far, and the peaks from the one numbered n on
abbrev pub read_onto : Naming → Over → Elements → ℕ → ℕ → ℕ → ℕ → ℕ → Made → List Located → Streams → Bagged
read_onto names over elements start stop last inactive n first [] streams = Some (first, streams)
read_onto names over elements start stop last zero n first (peak ∷ peaks) streams =
    option_map (λ y. (folded names 1 last first y.0, y.1))
    (read_back names over elements start stop last n peak peaks streams)
read_onto names over elements start stop last (suc inactive) n first (peak ∷ peaks) streams =
    option_and_then (λ x. read_onto names over elements start stop last inactive (suc n)
    (folded names 1 n first x.0) peaks x.1)
    (read_peak over elements start stop peak streams)

-- what is given for the peaks before the range that are folded from the left, all as one, and the peaks from the one
-- numbered n on
abbrev pub read_group : Naming → Over → Elements → ℕ → ℕ → ℕ → ℕ → ℕ → Made → List Located → Streams → Bagged
read_group names over elements start stop last inactive n first [] streams = Some (first, streams)
read_group names over elements start stop last zero n first (peak ∷ peaks) streams =
    read_onto names over elements start stop last zero n first (peak ∷ peaks) streams
read_group names over elements start stop last (suc inactive) n first (peak ∷ peaks) streams =
    if is_before start peak then read_group names over elements start stop last inactive (suc n) first peaks streams
    else read_onto names over elements start stop last (suc inactive) n first (peak ∷ peaks) streams

-- all peaks as one
abbrev pub read_bag : Naming → Over → Elements → ℕ → ℕ → ℕ → ℕ → List Located → Streams → Bagged
read_bag names over elements start stop last inactive [] streams = None
read_bag names over elements start stop last zero (peak ∷ peaks) streams =
    read_back names over elements start stop last 1 peak peaks streams
read_bag names over elements start stop last (suc inactive) (peak ∷ peaks) streams =
    if is_before start peak then option_and_then
    (λ x. read_group names over elements start stop last inactive 2 x.0 peaks x.1) (given_outer streams)
    else option_and_then (λ x. read_onto names over elements start stop last inactive 2 x.0 peaks x.1)
    (read_peak over elements start stop peak streams)

-- where every digest is used
abbrev pub used : Made × Streams → Option Made
used (made, ([], [])) = Some made
used (made, (outer, inner)) = None

-- The root as a proof leads to it: from the elements of the range and the digests, of which so many are outer ones.
-- None: the tree is too large, it has fewer peaks than are to be inactive, the range ends past its leaves, or a digest
-- is missing or left over.
abbrev pub read_root : Naming → Over → Bagging → Rule → ℕ → ℕ → ℕ → ℕ → Elements → ℕ → List (List ℕ) → Option Made
read_root names over bagging rule leaves inactive start stop elements outer digests =
    let peaks = peaks_of rule leaves in
    if nat_lt (2 ^ 62) leaves || (nat_lt (length peaks) inactive || nat_lt leaves stop) then None
    else option_map (root_made names bagging leaves inactive) (option_and_then used
    (read_bag names over elements start stop (length peaks) (from_left bagging inactive (length peaks)) peaks
    (take outer digests, drop outer digests)))
