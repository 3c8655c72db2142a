-- A tree that is hashed or rebuilt has none of the bitmap's own sites.
use Rattle.std.proofs.Common.{ℕ, zero, suc, ◌+◌, ◌^◌, ◌||◌, ltb, cond, List, []}
use Rattle.std.proofs.Common.{◌∷◌, length, take, drop, None, Some, option_map, option_and_then, IfSome}
use Rattle.std.specs.List.{list_all}
use Rattle.merkle_forest.specs.declared.bagging.Bagging.{Bagging}
use Rattle.merkle_forest.specs.Forest.{Tree, leaf, branch, height, leaf_count, Rule}
use Rattle.merkle_forest.specs.Made.{Site, at_bitmap_root, at_last_chunk, Made, bytes, both, hashed}
use Rattle.merkle_forest.specs.Trees.{Located}
use Rattle.merkle_theory.specs.Laws.MadeBags.{bind_good, map_good}
use Rattle.merkle_theory.specs.Laws.MadeTrees.{choose}
use Rattle.merkle_theory.specs.MadeRoots.{folded, made_peak, made_back, made_onto, made_bag, from_left, peaks_of, root_made}
use Rattle.merkle_theory.specs.MadeRoots.{Streams, Bagged, given_outer, read_peak, read_back, read_onto, read_group, read_bag, used}
use Rattle.merkle_theory.specs.MadeTrees.{Elements, from, whole, plain_over, leaf_made, branch_made, made_tree, given, read_tree}
use Rattle.merkle_theory.specs.RangeCounts.{range_outer}
use Rattle.merkle_theory.specs.Ranges.{meets, is_before, is_after}
use Rattle.merkle_theory.specs.Reads.{range_root}
use Rattle.merkle_theory.specs.Soundness.{plain_names, list_root}

-- a site that a bitmap does not have beside its tree's
abbrev pub IsTreeSite : Site → Type 0
IsTreeSite at_bitmap_root = ⊥
IsTreeSite at_last_chunk = ⊥
IsTreeSite other = Unit {0}

-- all strings are hashed at such sites, each at one
abbrev pub IsOfTree : Made → Type 0
IsOfTree (bytes xs) = Unit {0}
IsOfTree (both a b) = IsOfTree a × IsOfTree b
IsOfTree (hashed site [] inner) = IsTreeSite site × IsOfTree inner
IsOfTree (hashed site (other ∷ more) inner) = ⊥

-- ---- a list's tree
module _ (elements : Elements) (last : ℕ) where
  tree_sites : (at : ℕ) (t : Tree) → IsOfTree (made_tree plain_over elements at t)
  tree_sites at (leaf p) = (tt, (tt, tt))
  tree_sites at (branch p left right) = (tt, (tt, (tree_sites at left, tree_sites (at + leaf_count left) right)))

  back_sites : (n : ℕ) (peak : Located) (peaks : List Located) → IsOfTree (made_back plain_names plain_over elements last n peak peaks)
  back_sites n peak [] = tree_sites peak.0 peak.1
  back_sites n peak (next ∷ peaks) = (tt, (tree_sites peak.0 peak.1, back_sites (suc n) next peaks))

  onto_sites : (inactive n : ℕ) (first : Made) (peaks : List Located) → IsOfTree first
      → IsOfTree (made_onto plain_names plain_over elements last inactive n first peaks)
  onto_sites inactive n first [] is = is
  onto_sites zero n first (peak ∷ peaks) is = (tt, (is, back_sites n peak peaks))
  onto_sites (suc inactive) n first (peak ∷ peaks) is =
      onto_sites inactive (suc n) (folded plain_names 1 n first (made_peak plain_over elements peak)) peaks (tt, (is, tree_sites peak.0 peak.1))

  bag_sites : (inactive : ℕ) (peaks : List Located) → IsOfTree (made_bag plain_names plain_over elements last inactive peaks)
  bag_sites inactive [] = tt
  bag_sites zero (peak ∷ peaks) = back_sites 1 peak peaks
  bag_sites (suc inactive) (peak ∷ peaks) = onto_sites inactive 2 (made_peak plain_over elements peak) peaks (tree_sites peak.0 peak.1)

pub root_sites : (bagging : Bagging) (rule : Rule) (elements : List (List ℕ)) (inactive : ℕ) → IsOfTree (list_root bagging rule elements inactive)
root_sites bagging rule elements inactive =
    let peaks = peaks_of rule (length elements) in
    (tt, (tt, (tt, bag_sites (whole elements) (length peaks) (from_left bagging inactive (length peaks)) peaks)))

-- ---- a tree that is rebuilt
module _ (claimed : Elements) (start stop last : ℕ) where
  abbrev Sited : Made × Streams → Type 0
  Sited got = IsOfTree got.0

  given_sited : (digests : List (List ℕ)) → IfSome (given digests) (λ got. IsOfTree got.0)
  given_sited [] = tt
  given_sited (d ∷ digests) = tt

  outer_sited : (streams : Streams) → IfSome (given_outer streams) Sited
  outer_sited ([], inner) = tt
  outer_sited ((d ∷ outer), inner) = tt

  tree_sited : (at : ℕ) (t : Tree) (digests : List (List ℕ)) → IfSome (read_tree plain_over claimed start stop at t digests) (λ got. IsOfTree got.0)
  tree_sited at (leaf p) digests =
      choose (λ got. IfSome got (λ x. IsOfTree x.0)) (meets start stop (at, leaf p)) (Some (leaf_made p (claimed at), digests)) (given digests)
      (λ is. (tt, (tt, tt))) (λ is. given_sited digests)
  tree_sited at (branch p left right) digests =
      choose (λ got. IfSome got (λ x. IsOfTree x.0)) (meets start stop (at, branch p left right))
      (option_and_then (λ x. option_map (λ y. (branch_made plain_over at (height (branch p left right)) p x.0 y.0, y.1))
      (read_tree plain_over claimed start stop (at + leaf_count left) right x.1)) (read_tree plain_over claimed start stop at left digests))
      (given digests)
      (λ is. bind_good (λ (x : Made × List (List ℕ)). IsOfTree x.0) (λ (x : Made × List (List ℕ)). IsOfTree x.0)
      (λ x. option_map (λ y. (branch_made plain_over at (height (branch p left right)) p x.0 y.0, y.1))
      (read_tree plain_over claimed start stop (at + leaf_count left) right x.1))
      (read_tree plain_over claimed start stop at left digests) (tree_sited at left digests)
      (λ x one. map_good (λ (y : Made × List (List ℕ)). IsOfTree y.0) (λ (y : Made × List (List ℕ)). IsOfTree y.0)
      (λ y. (branch_made plain_over at (height (branch p left right)) p x.0 y.0, y.1))
      (read_tree plain_over claimed start stop (at + leaf_count left) right x.1) (tree_sited (at + leaf_count left) right x.1)
      (λ y other. (tt, (tt, (one, other))))))
      (λ is. given_sited digests)

  peak_sited : (peak : Located) (streams : Streams) → IfSome (read_peak plain_over claimed start stop peak streams) Sited
  peak_sited peak streams =
      choose (λ got. IfSome got Sited) (meets start stop peak)
      (option_map (λ x. (x.0, (streams.0, x.1))) (read_tree plain_over claimed start stop peak.0 peak.1 streams.1)) (given_outer streams)
      (λ is. map_good (λ (x : Made × List (List ℕ)). IsOfTree x.0) Sited (λ x. (x.0, (streams.0, x.1)))
      (read_tree plain_over claimed start stop peak.0 peak.1 streams.1) (tree_sited peak.0 peak.1 streams.1) (λ x it. it))
      (λ is. outer_sited streams)

  back_sited : (n : ℕ) (peak : Located) (peaks : List Located) (streams : Streams)
      → IfSome (read_back plain_names plain_over claimed start stop last n peak peaks streams) Sited
  back_sited n peak [] streams = peak_sited peak streams
  back_sited n peak (next ∷ peaks) streams =
      choose (λ got. IfSome got Sited) (list_all (is_after stop) (peak ∷ next ∷ peaks)) (given_outer streams)
      (option_and_then (λ x. option_map (λ y. (folded plain_names n last x.0 y.0, y.1))
      (read_back plain_names plain_over claimed start stop last (suc n) next peaks x.1)) (read_peak plain_over claimed start stop peak streams))
      (λ is. outer_sited streams)
      (λ is. bind_good Sited Sited (λ x. option_map (λ y. (folded plain_names n last x.0 y.0, y.1))
      (read_back plain_names plain_over claimed start stop last (suc n) next peaks x.1))
      (read_peak plain_over claimed start stop peak streams) (peak_sited peak streams)
      (λ x one. map_good Sited Sited (λ y. (folded plain_names n last x.0 y.0, y.1))
      (read_back plain_names plain_over claimed start stop last (suc n) next peaks x.1) (back_sited (suc n) next peaks x.1)
      (λ y other. (tt, (one, other)))))

  onto_sited : (inactive n : ℕ) (first : Made) (peaks : List Located) (streams : Streams) → IsOfTree first
      → IfSome (read_onto plain_names plain_over claimed start stop last inactive n first peaks streams) Sited
  onto_sited inactive n first [] streams is = is
  onto_sited zero n first (peak ∷ peaks) streams is =
      map_good Sited Sited (λ y. (folded plain_names 1 last first y.0, y.1))
      (read_back plain_names plain_over claimed start stop last n peak peaks streams) (back_sited n peak peaks streams) (λ y other. (tt, (is, other)))
  onto_sited (suc inactive) n first (peak ∷ peaks) streams is =
      bind_good Sited Sited
      (λ x. read_onto plain_names plain_over claimed start stop last inactive (suc n) (folded plain_names 1 n first x.0) peaks x.1)
      (read_peak plain_over claimed start stop peak streams) (peak_sited peak streams)
      (λ x one. onto_sited inactive (suc n) (folded plain_names 1 n first x.0) peaks x.1 (tt, (is, one)))

  group_sited : (inactive n : ℕ) (first : Made) (peaks : List Located) (streams : Streams) → IsOfTree first
      → IfSome (read_group plain_names plain_over claimed start stop last inactive n first peaks streams) Sited
  group_sited inactive n first [] streams is = is
  group_sited zero n first (peak ∷ peaks) streams is = onto_sited zero n first (peak ∷ peaks) streams is
  group_sited (suc inactive) n first (peak ∷ peaks) streams is =
      choose (λ got. IfSome got Sited) (is_before start peak)
      (read_group plain_names plain_over claimed start stop last inactive (suc n) first peaks streams)
      (read_onto plain_names plain_over claimed start stop last (suc inactive) n first (peak ∷ peaks) streams)
      (λ yes. group_sited inactive (suc n) first peaks streams is) (λ no. onto_sited (suc inactive) n first (peak ∷ peaks) streams is)

  bag_sited : (inactive : ℕ) (peaks : List Located) (streams : Streams)
      → IfSome (read_bag plain_names plain_over claimed start stop last inactive peaks streams) Sited
  bag_sited inactive [] streams = tt
  bag_sited zero (peak ∷ peaks) streams = back_sited 1 peak peaks streams
  bag_sited (suc inactive) (peak ∷ peaks) streams =
      choose (λ got. IfSome got Sited) (is_before start peak)
      (option_and_then (λ x. read_group plain_names plain_over claimed start stop last inactive 2 x.0 peaks x.1) (given_outer streams))
      (option_and_then (λ x. read_onto plain_names plain_over claimed start stop last inactive 2 x.0 peaks x.1)
      (read_peak plain_over claimed start stop peak streams))
      (λ yes. bind_good Sited Sited (λ x. read_group plain_names plain_over claimed start stop last inactive 2 x.0 peaks x.1)
      (given_outer streams) (outer_sited streams) (λ x one. group_sited inactive 2 x.0 peaks x.1 one))
      (λ no. bind_good Sited Sited (λ x. read_onto plain_names plain_over claimed start stop last inactive 2 x.0 peaks x.1)
      (read_peak plain_over claimed start stop peak streams) (peak_sited peak streams) (λ x one. onto_sited inactive 2 x.0 peaks x.1 one))

all_used : (got : Bagged) → IfSome got (λ x. IsOfTree x.0) → IfSome (option_and_then used got) IsOfTree
all_used None is = tt
all_used (Some (made, ([], []))) is = is
all_used (Some (made, ((d ∷ outer), inner))) is = tt
all_used (Some (made, ([], (d ∷ inner)))) is = tt

pub range_sited : (bagging : Bagging) (rule : Rule) (leaf_total inactive start : ℕ) (elements digests : List (List ℕ))
    → IfSome (range_root plain_names plain_over bagging rule leaf_total inactive start elements digests) IsOfTree
range_sited bagging rule leaf_total inactive start elements digests =
    let peaks = peaks_of rule leaf_total in
    let last = length peaks in
    let stop = start + length elements in
    let outer = range_outer bagging start stop inactive peaks in
    let got = read_bag plain_names plain_over (from start elements) start stop last (from_left bagging inactive last) peaks
    (take outer digests, drop outer digests) in
    let read = option_map (root_made plain_names bagging leaf_total inactive) (option_and_then used got) in
    let refused = ltb (2 ^ 62) leaf_total || (ltb last inactive || ltb leaf_total stop) in
    choose (λ r. IfSome r IsOfTree) (ltb 0 (length elements)) (cond refused None read) None
    (λ some. choose (λ r. IfSome r IsOfTree) refused None read (λ is. tt)
    (λ is. map_good IsOfTree IsOfTree (root_made plain_names bagging leaf_total inactive) (option_and_then used got)
    (all_used got (bag_sited (from start elements) start stop last (from_left bagging inactive last) peaks (take outer digests, drop outer digests)))
    (λ bag sited. (tt, (tt, (tt, sited))))))
    (λ none. tt)
