-- One string a site, in what stands before a range and is rebuilt from pinned digests.
use Rattle.std.proofs.Common.{◌≡◌, ◌⊎◌, inl, inr, ⊎_elim, ℕ, suc, ◌+◌, ◌<◌, ◌≤◌, true, false, not, ◌||◌, Bool, List}
use Rattle.std.proofs.Common.{[], ◌∷◌, ◌++◌, length, map, filter, take, drop, Contains, Option, None, Some, refl, sym}
use Rattle.std.proofs.Common.{◌∙◌, ap, subst, arith, append_assoc}
use Rattle.std.specs.List.{AllByRecursion, flat_map}
use Rattle.std.specs.Option.{option_map_or}
use Rattle.std.specs.Prelude.{unwrap_or}
use Rattle.std.proofs.lemmas.Bool.{cases_Bool, leb-true, leb-false}
use Rattle.std.proofs.lemmas.List.{length-map, take-append-drop}
use Rattle.std.proofs.lemmas.List.Elements.{Contains-append_cases, filter-append}
use Rattle.merkle_forest.specs.declared.bagging.Bagging.{Bagging}
use Rattle.merkle_forest.specs.Forest.{Tree, leaf, branch, position, height, leaf_count, Rule, forest_of}
use Rattle.merkle_forest.specs.Hashing.{Hash}
use Rattle.merkle_forest.specs.Laws.NodeGrowth.{one-node}
use Rattle.merkle_forest.specs.Laws.Nodes.{peak-node, within-fits}
use Rattle.merkle_forest.specs.Laws.Peaks.{leaf_count-pos}
use Rattle.merkle_forest.specs.Laws.Places.{node-left, node-right}
use Rattle.merkle_forest.specs.Made.{Site, at_plain, at_fold, Made, bytes, both, hashed, Strings, strings}
use Rattle.merkle_forest.specs.Nodes.{IsWithin, IsNodeAt}
use Rattle.merkle_forest.specs.Perfect.{IsPairing}
use Rattle.merkle_forest.specs.Trees.{Located, end_of}
use Rattle.merkle_proofs.specs.ListDigests.{stop_of}
use Rattle.merkle_theory.specs.MadeRoots.{peaks_of}
use Rattle.merkle_theory.specs.MadeTrees.{plain_over, branch_made}
use Rattle.merkle_theory.specs.MultiReads.{as_bag, onto_of}
use Rattle.merkle_theory.specs.OneEach.{OneEach}
use Rattle.merkle_theory.specs.Pinned.{at_peak}
use Rattle.merkle_proofs.specs.PinnedSoundness.{pinned_made, singles_of, pinned_strings}
use Rattle.merkle_theory.specs.Plans.{Lookup, inner_nodes}
use Rattle.merkle_theory.specs.RangeCounts.{passing}
use Rattle.merkle_theory.specs.Ranges.{is_before, is_after, meets}
use Rattle.merkle_theory.specs.Soundness.{plain_names, RangeClaim}
use Rattle.merkle_theory.proofs.HonestRanges.{Ascend}
use Rattle.merkle_theory.proofs.HonestRoots.{ascend_located}
use Rattle.merkle_theory.proofs.Lookups.{IsNode, all_append, all_back, all_filter, located_all, range_all}
use Rattle.merkle_theory.proofs.MultiOneEach.{ArePartial, bag_list}
use Rattle.merkle_theory.proofs.OneEach.{Partial, IsSiteIn, nothing, site_in, one_each}
use Rattle.merkle_theory.proofs.OneEachBag.{IsSiteOf, Apart, is_plain, fold_plain, parts_of}
use Rattle.merkle_theory.proofs.OneEachRoot.{same_position}
use Rattle.merkle_theory.proofs.PartFolds.{none_there}
use Rattle.merkle_proofs.proofs.PinnedCover.{before_first, inner_up}
use Rattle.merkle_proofs.proofs.PinnedMade.{later_all}
use Rattle.merkle_theory.proofs.PlanNodes.{passed, failed, inner_out}

-- a tree that is rebuilt is made of its parts, or its digest is pinned
or_partial : (at p : ℕ) (left right : Tree) (x y : Made) → Partial at left x → Partial (at + leaf_count left) right y → (o : Option (List ℕ))
    → Partial at (branch p left right) (option_map_or bytes o (branch_made plain_over at (height (branch p left right)) p x y))
or_partial at p left right x y one other None = inr (x, y, one, other, refl)
or_partial at p left right x y one other (Some d) = inl (d, refl)

pinned_partial : (none : List ℕ) (known : Lookup) (at : ℕ) (t : Tree) → Partial at t (pinned_made none known at t)
pinned_partial none known at (leaf p) = inl (unwrap_or (known p) none, refl)
pinned_partial none known at (branch p left right) =
    or_partial at p left right (pinned_made none known at left) (pinned_made none known (at + leaf_count left) right)
    (pinned_partial none known at left) (pinned_partial none known (at + leaf_count left) right) (known p)

-- what stands in a node of a forest is one
node_within : (f at : ℕ) (a t : Tree) (trees : List Tree) → IsWithin f a at t → IsNodeAt at t trees → IsNodeAt f a trees
node_within f at a (leaf p) trees within stands =
    subst (λ k. IsNodeAt k a trees) (sym within.0) (subst (λ u. IsNodeAt at u trees) (sym within.1) stands)
node_within f at a (branch p left right) trees (inl within) stands =
    subst (λ k. IsNodeAt k a trees) (sym within.0) (subst (λ u. IsNodeAt at u trees) (sym within.1) stands)
node_within f at a (branch p left right) trees (inr (inl within)) stands =
    node_within f at a left trees within (node-left at p left right trees stands)
node_within f at a (branch p left right) trees (inr (inr within)) stands =
    node_within f (at + leaf_count left) a right trees within (node-right at p left right trees stands)

-- nodes of a forest that ascend share no site
module _ (rule : Rule) (pairs : IsPairing rule) (count : ℕ) where
  abbrev trees : List Tree
  trees = forest_of rule count

  not_later : (n : Located) (ms : List Located) (s : Site) → AllByRecursion (λ m. end_of n ≤ m.0) ms → AllByRecursion (IsNode trees) ms
      → IsNode trees n → IsSiteIn n.0 n.1 s → IsSiteOf ms s → ⊥
  not_later n [] s later nodes stands one other = absurd other
  not_later n (m ∷ ms) s later nodes stands one (inl other) =
      let same = one-node rule pairs count count one.0 other.0 one.1 other.1 (node_within one.0 n.0 one.1 n.1 trees one.2 stands)
      (node_within other.0 m.0 other.1 m.1 trees other.2 nodes.0) (same_position (position one.1) (position other.1) (sym one.3 ∙ other.3)) in
      omega (
        arith,
        same.0,
        within-fits one.0 n.0 one.1 n.1 one.2,
        within-fits other.0 m.0 other.1 m.1 other.2,
        later.0,
        leaf_count-pos one.1,
      )
  not_later n (m ∷ ms) s later nodes stands one (inr other) = not_later n ms s later.1 nodes.1 stands one other

  apart_up : (at : ℕ) (ns : List Located) → Ascend at ns → AllByRecursion (IsNode trees) ns → Apart ns
  apart_up at [] up nodes = tt
  apart_up at (n ∷ ns) up nodes = (
    λ f g a b one other same. one-node rule pairs count count f g a b (node_within f n.0 a n.1 trees one nodes.0)
        (node_within g n.0 b n.1 trees other nodes.0) same,
    λ s one other. not_later n ns s (later_all (end_of n) ns up.1) nodes.1 nodes.0 one other,
    apart_up (end_of n) ns up.1 nodes.1,
  )

in_first : (xs ys : List Located) (s : Site) → IsSiteOf xs s → IsSiteOf (xs ++ ys) s
in_first [] ys s is = absurd is
in_first (x ∷ xs) ys s (inl is) = inl is
in_first (x ∷ xs) ys s (inr is) = inr (in_first xs ys s is)

in_second : (xs ys : List Located) (s : Site) → IsSiteOf ys s → IsSiteOf (xs ++ ys) s
in_second [] ys s is = is
in_second (x ∷ xs) ys s is = inr (in_second xs ys s is)

-- two parts of such a list share none either
apart_parts : (xs ys : List Located) → Apart (xs ++ ys) → Apart xs × Apart ys × ((s : Site) → IsSiteOf xs s → IsSiteOf ys s → ⊥)
apart_parts [] ys apart = (tt, apart, (λ s one other. one))
apart_parts (x ∷ xs) ys apart =
    let rest = apart_parts xs ys apart.2 in (
      (apart.0, (λ s one other. apart.1 s one (in_first xs ys s other)), rest.0),
      rest.1,
      λ s one other. ⊎_elim (λ here. apart.1 s here (in_second xs ys s other)) (λ there. rest.2 s there other) one,
    )

ascend_part : (at : ℕ) (xs ys : List Located) → Ascend at (xs ++ ys) → Ascend at xs
ascend_part at [] ys up = tt
ascend_part at (x ∷ xs) ys up = (up.0, ascend_part (end_of x) xs ys up.1)

-- the nodes that the proof gives before the range ascend
given_up : (start stop at : ℕ) (peaks : List Located) → Ascend at peaks → Ascend at (filter (is_before start) peaks ++ inner_nodes start stop peaks)
given_up start stop at [] up = tt
given_up start stop at (peak ∷ peaks) up =
    let met = inner_nodes start stop (peak ∷ peaks) in
    ⊎_elim
    (λ (early : is_before start peak ≡ true). let out : meets start stop peak ≡ false = ap (λ b. not (b || is_after stop peak)) early in
    subst (λ ns. Ascend at (ns ++ met)) (sym (passed (is_before start) peak peaks early))
    (subst (λ ms. Ascend at (peak ∷ (filter (is_before start) peaks ++ ms))) (sym (inner_out start stop peak peaks out))
    (up.0, given_up start stop (end_of peak) peaks up.1)))
    (λ (late : is_before start peak ≡ false). let past : start < end_of peak = leb-false (end_of peak) start late in
    subst (λ ns. Ascend at (ns ++ met))
    (sym (failed (is_before start) peak peaks late ∙ none_there start (end_of peak) peaks (omega (arith, past)) up.1))
    (inner_up start stop at (peak ∷ peaks) up))
    (cases_Bool (is_before start peak))

-- lists of strings with sites of their own
pub append_one : (xs ys : Strings) → OneEach xs → OneEach ys → ((s : Site) (u v : List ℕ) → Contains xs (s, u) → Contains ys (s, v) → ⊥)
    → OneEach (xs ++ ys)
append_one xs ys one other apart s u v here there =
    ⊎_elim
    (λ a. ⊎_elim (λ b. one s u v a b) (λ b. absurd (apart s u v a b)) (Contains-append_cases xs ys (s, v) there))
    (λ a. ⊎_elim (λ b. absurd (apart s v u b a)) (λ b. other s u v a b) (Contains-append_cases xs ys (s, v) there))
    (Contains-append_cases xs ys (s, u) here)

module _ (hash : Hash) (none : List ℕ) (known : Lookup) where
  abbrev pub made : Located → Made
  made n = pinned_made none known n.0 n.1

  abbrev own : Located → Strings
  own n = strings hash (made n)

  partial : (n : Located) → Partial n.0 n.1 (made n)
  partial n = pinned_partial none known n.0 n.1

  are_partial : (ns : List Located) → ArePartial ns (map made ns)
  are_partial [] = tt
  are_partial (n ∷ ns) = (partial n, are_partial ns)

  -- nodes that are given singly
  flat_sites : (ns : List Located) (s : Site) (u : List ℕ) → Contains (flat_map own ns) (s, u) → IsSiteOf ns s
  flat_sites [] s u here = absurd (nothing (s, u) here)
  flat_sites (n ∷ ns) s u here =
      ⊎_elim (λ first. inl (site_in hash n.0 n.1 (made n) (partial n) s u first)) (λ rest. inr (flat_sites ns s u rest))
      (Contains-append_cases (own n) (flat_map own ns) (s, u) here)

  flat_one : (ns : List Located) → Apart ns → OneEach (flat_map own ns)
  flat_one [] apart = λ s u v one other. absurd (nothing (s, u) one)
  flat_one (n ∷ ns) apart =
      append_one (own n) (flat_map own ns) (one_each hash n.0 n.1 (made n) apart.0 (partial n)) (flat_one ns apart.2)
      (λ s u v here there. apart.1 s (site_in hash n.0 n.1 (made n) (partial n) s u here) (flat_sites ns s v there))

  -- nodes that are given as one: their sites, and those of the folds
  module _ (last most : ℕ) where
    abbrev pub IsIn : List Located → Site → Type 0
    IsIn ns s = IsSiteOf ns s ⊎ ((b : ℕ) × (b ≤ most) × (at_fold 1 b ≡ s))

    onto_sites : (n : ℕ) (first : Made) (ns all : List Located) → n + length ns ≡ suc most
        → ((s : Site) (u : List ℕ) → Contains (strings hash first) (s, u) → IsIn all s) → ((s : Site) → IsSiteOf ns s → IsSiteOf all s)
        → (s : Site) (u : List ℕ) → Contains (strings hash (onto_of plain_names last (length (map made ns)) n first (map made ns))) (s, u) → IsIn all s
    onto_sites n first [] all total in_it among s u here = in_it s u here
    onto_sites n first (peak ∷ ns) all total in_it among s u here =
        onto_sites (suc n) (hashed (at_fold 1 n) [] (both first (made peak))) ns all (omega (arith, total))
        (λ t w there. ⊎_elim (λ top. inr (n, omega (arith, total), top.0))
        (λ below. ⊎_elim (λ l. in_it t w l) (λ r. inl (among t (inl (site_in hash peak.0 peak.1 (made peak) (partial peak) t w r)))) below)
        (parts_of hash last (at_fold 1 n) first (made peak) t w there))
        (λ t node. among t (inr node)) s u here

    bag_sites : (ns : List Located) → length ns ≡ most → (s : Site) (u : List ℕ)
        → Contains (strings hash (as_bag plain_names last (length (map made ns)) (map made ns))) (s, u) → IsIn ns s
    bag_sites [] total s u here = absurd (nothing (s, u) here)
    bag_sites (peak ∷ ns) total s u here =
        onto_sites 2 (made peak) ns (peak ∷ ns) (omega (arith, total))
        (λ t w there. inl (inl (site_in hash peak.0 peak.1 (made peak) (partial peak) t w there))) (λ t node. inr node) s u here

  -- both
  abbrev Both : List Located → List Located → Strings
  Both several singles =
      strings hash (as_bag plain_names (length (map made several)) (length (map made several)) (map made several)) ++ flat_map own singles

  pub both_sites : (several singles : List Located) (s : Site) (u : List ℕ) → Contains (Both several singles) (s, u)
      → IsIn (length several) (length several) (several ++ singles) s
  both_sites several singles s u here =
      let n = length (map made several) in
      ⊎_elim
      (λ first. ⊎_elim (λ node. inl (in_first several singles s node)) inr (bag_sites n (length several) several refl s u first))
      (λ rest. inl (in_second several singles s (flat_sites singles s u rest)))
      (Contains-append_cases (strings hash (as_bag plain_names n n (map made several))) (flat_map own singles) (s, u) here)

  both_one : (several singles : List Located) → Apart (several ++ singles) → OneEach (Both several singles)
  both_one several singles apart =
      let parts = apart_parts several singles apart in
      let n = length (map made several) in
      append_one (strings hash (as_bag plain_names n n (map made several))) (flat_map own singles)
      (bag_list hash n n several (map made several) parts.0 (sym (length-map several made)) (are_partial several)).0 (flat_one singles parts.1)
      (λ s u v here there.
      let single = flat_sites singles s v there in
      ⊎_elim (λ node. parts.2 s node single)
      (λ fold. let plain = is_plain singles s single in fold_plain 1 fold.0 plain.0 s fold.2 plain.1)
      (bag_sites n (length several) several refl s u here))

-- what passes a test
all_pass : (test : Located → Bool) (ns : List Located) → AllByRecursion (λ n. test n ≡ true) (filter test ns)
all_pass test [] = tt
all_pass test (n ∷ ns) =
    ⊎_elim
    (λ (is : test n ≡ true). subst (AllByRecursion (λ m. test m ≡ true)) (sym (passed test n ns is)) (is, all_pass test ns))
    (λ (no : test n ≡ false). subst (AllByRecursion (λ m. test m ≡ true)) (sym (failed test n ns no)) (all_pass test ns))
    (cases_Bool (test n))

module _ (hash : Hash) (none : List ℕ) (bagging : Bagging) (rule : Rule) (pairs : IsPairing rule) (claim : RangeClaim) (pinned : List (List ℕ)) where
  abbrev T : List Tree
  T = forest_of rule claim.leaves

  abbrev peaks : List Located
  peaks = peaks_of rule claim.leaves

  abbrev early : Located → Bool
  early = is_before claim.start

  abbrev pub fronts : List Located
  fronts = filter early (take (singles_of bagging rule claim) peaks)

  abbrev others : List Located
  others = filter early (drop (singles_of bagging rule claim) peaks)

  abbrev nodes : List Located
  nodes = inner_nodes claim.start (stop_of claim) peaks

  abbrev inners : List Located
  inners = filter early nodes

  split : fronts ++ (others ++ inners) ≡ filter early peaks ++ inners
  split =
      let k = singles_of bagging rule claim in
      sym (append_assoc fronts others inners) ∙ ap (λ ns. ns ++ inners) (sym (filter-append early (take k peaks) (drop k peaks)))
      ∙ ap (λ ps. filter early ps ++ inners) (take-append-drop k peaks)

  are_nodes : AllByRecursion (IsNode T) (filter early peaks ++ inners)
  are_nodes =
      let afters = filter (is_after (stop_of claim)) peaks in
      all_append (IsNode T) (filter early peaks) inners
      (all_filter (IsNode T) early peaks (located_all (IsNode T) T (λ first node stands. peak-node first node T stands)))
      (all_filter (IsNode T) early nodes
      (all_back (IsNode T) afters nodes (all_back (IsNode T) (filter early peaks) (afters ++ nodes) (range_all T claim.start (stop_of claim)))))

  ascend : Ascend 0 (filter early peaks ++ inners)
  ascend =
      let later = drop (passing early nodes) nodes in
      let up = ascend_located T in
      let all : Ascend 0 (filter early peaks ++ (inners ++ later)) =
      subst (λ ns. Ascend 0 (filter early peaks ++ ns)) (before_first claim.start 0 nodes (inner_up claim.start (stop_of claim) 0 peaks up))
      (given_up claim.start (stop_of claim) 0 peaks up) in
      ascend_part 0 (filter early peaks ++ inners) later (subst (Ascend 0) (sym (append_assoc (filter early peaks) inners later)) all)

  pub pinned_one : OneEach (pinned_strings hash none bagging rule claim pinned)
  pinned_one =
      both_one hash none (at_peak (peaks_of rule claim.start) pinned) fronts (others ++ inners)
      (subst Apart (sym split) (apart_up rule pairs claim.leaves 0 (filter early peaks ++ inners) ascend are_nodes))

  -- the site of a node that ends before the range
  abbrev pub IsSiteBefore : Site → Type 0
  IsSiteBefore s = (first : ℕ) × (node : Tree) × IsNodeAt first node T × (first + leaf_count node ≤ claim.start) × (s ≡ at_plain (position node))

  site_before : (ns : List Located) → AllByRecursion (IsNode T) ns → AllByRecursion (λ n. early n ≡ true) ns → (s : Site)
      → IsSiteOf ns s → IsSiteBefore s
  site_before [] stand end s is = absurd is
  site_before (n ∷ ns) stand end s (inl is) =
      let within = within-fits is.0 n.0 is.1 n.1 is.2 in
      let ends : end_of n ≤ claim.start = leb-true (end_of n) claim.start end.0 in
      (is.0, is.1, node_within is.0 n.0 is.1 n.1 T is.2 stand.0, omega (arith, within, ends), is.3)
  site_before (n ∷ ns) stand end s (inr is) = site_before ns stand.1 end.1 s is

  -- the sites of these strings are those of nodes before the range, and of folds of the first peaks
  pub pinned_sites : (s : Site) (u : List ℕ) → Contains (pinned_strings hash none bagging rule claim pinned) (s, u)
      → IsSiteBefore s ⊎ ((b : ℕ) × (b ≤ length fronts) × (at_fold 1 b ≡ s))
  pinned_sites s u here =
      let Passes : Located → Type 0 = λ n. early n ≡ true in
      ⊎_elim
      (λ is. inl (site_before (fronts ++ (others ++ inners)) (subst (AllByRecursion (IsNode T)) (sym split) are_nodes)
      (all_append Passes fronts (others ++ inners) (all_pass early (take (singles_of bagging rule claim) peaks))
      (all_append Passes others inners (all_pass early (drop (singles_of bagging rule claim) peaks)) (all_pass early nodes))) s is))
      inr (both_sites hash none (at_peak (peaks_of rule claim.start) pinned) fronts (others ++ inners) s u here)
