-- Digests that are pinned beside a proof that leads to the root of a list are the list's, or strings collide.
use Rattle.std.proofs.Common.{◌≡◌, ◌⊎◌, inl, inr, ⊎_elim, ℕ, ◌+◌, ◌<◌, ◌≤◌, min, true, List, [], ◌∷◌, ◌++◌, length}
use Rattle.std.proofs.Common.{map, filter, take, drop, Some, refl, sym, ◌∙◌, ap, ap₂, subst, arith, append_assoc}
use Rattle.std.specs.List.{AllByRecursion, flat_map}
use Rattle.std.proofs.lemmas.List.{length-map, map-append, take-append-drop, take_at, drop_at}
use Rattle.std.proofs.lemmas.List.Elements.{All-filter, All-drop, All-take, All-from_recursion, recursion_from_All, Contains-append_left, Contains-append_right}
use Rattle.merkle_forest.specs.declared.bagging.Bagging.{Bagging}
use Rattle.merkle_forest.specs.Forest.{Tree, position, leaf_count, Rule, forest_of}
use Rattle.merkle_forest.specs.Hashing.{Hash, node_string, folded_forward}
use Rattle.merkle_forest.specs.Laws.ForestGrowth.{leaves-forest_of}
use Rattle.merkle_forest.specs.Laws.Matching.{In, Agrees, agrees_or_collides}
use Rattle.merkle_forest.specs.Laws.NodeGrowth.{node-stays}
use Rattle.merkle_forest.specs.Laws.Nodes.{peak-node, node-fits}
use Rattle.merkle_forest.specs.Made.{Made, value, Strings, strings, Collision}
use Rattle.merkle_forest.specs.Nodes.{IsWithin}
use Rattle.merkle_forest.specs.Perfect.{IsPairing}
use Rattle.merkle_forest.specs.Trees.{Located, plain_digest, peak_digests}
use Rattle.merkle_theory.specs.Laws.MadeTrees.{AllSized, value_plain}
use Rattle.merkle_proofs.specs.ListDigests.{stop_of}
use Rattle.merkle_theory.specs.MadeRoots.{bag_of, made_bag, peaks_of}
use Rattle.merkle_theory.specs.MadeTrees.{from, whole, plain_over, made_tree}
use Rattle.merkle_theory.specs.MultiReads.{as_bag}
use Rattle.merkle_theory.specs.Pinned.{at_peak, pinned_digest}
use Rattle.merkle_proofs.specs.PinnedSoundness.{pinned_made, singles_of, before_as_one, before_singly, pinned_strings, ArePinnedBeside}
use Rattle.merkle_theory.specs.Plans.{Lookup, inner_nodes}
use Rattle.merkle_theory.specs.RangeCounts.{passing}
use Rattle.merkle_theory.specs.Ranges.{Digests, is_before, is_after, as_one, singly}
use Rattle.merkle_theory.specs.Soundness.{plain_names, RangeClaim, hashed_strings}
use Rattle.merkle_theory.proofs.HonestRanges.{Ascend}
use Rattle.merkle_theory.proofs.HonestRoots.{ascend_located, length-as_one}
use Rattle.merkle_proofs.proofs.HonestTold.{honest_is}
use Rattle.merkle_proofs.proofs.ListDigests.{AreTheList, list_honest}
use Rattle.merkle_theory.proofs.Lookups.{IsNode, all_append, all_back, located_all, range_all}
use Rattle.merkle_theory.proofs.PeakMatches.{AllAgree, bag_same, bag_matches, bag_agrees}
use Rattle.merkle_proofs.proofs.PinnedCover.{in_forest, unfiltered, covered, before_first, inner_up}
use Rattle.merkle_proofs.proofs.PinnedMade.{value_pinned, front_value, pinned_alike, all_alike, descend, distinct, each_pinned}
use Rattle.merkle_theory.proofs.PinnedStrings.{all_more, PeakIn, tree_in, bag_in, fronts_in}
use Rattle.merkle_theory.proofs.PlanFolds.{inner_of}

-- lists that begin with parts of one length
pub same_parts : {A : Type 0} (a b c d : List A) → length a ≡ length c → a ++ b ≡ c ++ d → (a ≡ c) × (b ≡ d)
same_parts a b c d long same = (
  sym (take_at a b (length a) refl) ∙ ap (take (length a)) same ∙ take_at c d (length a) (sym long),
  sym (drop_at a b (length a) refl) ∙ ap (drop (length a)) same ∙ drop_at c d (length a) (sym long),
)

flat_in : (f : Located → Strings) (ns : List Located) → AllByRecursion (λ n. In (f n) (flat_map f ns)) ns
flat_in f [] = tt
flat_in f (n ∷ ns) = (
  (λ s here. Contains-append_left (f n) (flat_map f ns) s here),
  all_more (λ m. In (f m) (flat_map f ns)) (λ m. In (f m) (flat_map f (n ∷ ns))) ns
      (λ m own s here. Contains-append_right (f n) (flat_map f ns) s (own s here)) (flat_in f ns),
)

-- a collision with some strings is one with more
pub more_collide : (hash : Hash) (all given more : Strings) → Collision hash all given → Collision hash all (given ++ more)
more_collide hash all given more it = record {
  site = it.site;
  one = it.one;
  other = it.other;
  in_hashed = it.in_hashed;
  in_rebuilt = Contains-append_left given more (it.site, it.other) it.in_rebuilt;
  differ = it.differ;
  same = it.same;
}

module _ (hash : Hash) (size : ℕ) (hash_sized : (xs : List ℕ) → length (hash xs) ≡ size) (none : List ℕ) (none_sized : length none ≡ size)
    (bagging : Bagging) (rule : Rule) (pairs : IsPairing rule) (elements : List (List ℕ)) (inactive : ℕ) (claim : RangeClaim)
    (pinned : List (List ℕ)) (sized : AllSized size pinned) (some : claim.start < stop_of claim) (rebuilt : Strings) where
  abbrev start : ℕ
  start = claim.start

  abbrev stop : ℕ
  stop = stop_of claim

  abbrev trees : List Tree
  trees = forest_of rule claim.leaves

  abbrev peaks : List Located
  peaks = peaks_of rule claim.leaves

  abbrev k : ℕ
  k = singles_of bagging rule claim

  abbrev pins : List Located
  pins = peaks_of rule claim.start

  abbrev known : Lookup
  known = at_peak pins pinned

  abbrev G : Digests
  G = plain_digest hash elements

  abbrev D : Digests
  D = pinned_digest (λ p left right. hash (node_string p left right)) none known

  abbrev T : Located → Made
  T n = pinned_made none known n.0 n.1

  abbrev E : Located → Made
  E n = made_tree plain_over (whole elements) n.0 n.1

  abbrev fronts : List Located
  fronts = before_as_one bagging rule claim

  abbrev befores : List Located
  befores = filter (is_before claim.start) (drop k peaks)

  abbrev inners : List Located
  inners = filter (is_before claim.start) (inner_nodes claim.start (stop_of claim) peaks)

  abbrev all : Strings
  all = hashed_strings hash bagging rule elements inactive

  abbrev given : Strings
  given = rebuilt ++ pinned_strings hash none bagging rule claim pinned

  abbrev Collides : Type 0
  Collides = Collision hash all given

  abbrev Same : Located → Type 0
  Same n = Agrees hash (T n) (E n)

  up : Ascend 0 peaks
  up = ascend_located (forest_of rule claim.leaves)

  -- the digests of the nodes before the range are the list's
  pub record AreListed : Type 0 where
    pub folds : as_one (folded_forward hash) (singly D fronts) ≡ as_one (folded_forward hash) (singly G fronts)
    pub singles : singly D (before_singly bagging rule claim) ≡ singly G (before_singly bagging rule claim)

  pub are_listed : ArePinnedBeside hash none bagging rule claim pinned
      → AreTheList hash bagging rule elements (from claim.start claim.elements) claim.leaves claim.inactive claim.start stop some claim.outer
      claim.digests → AreListed
  are_listed are list =
      let count : (digest : Digests) (ps : List Located) → length (singly digest ps) ≡ length ps =
      λ digest ps. length-map ps (λ (p : Located). digest p.0 p.1) in
      let fold_count : (digest : Digests) → length (as_one (folded_forward hash) (singly digest fronts)) ≡ min 1 (length fronts) =
      λ digest. length-as_one (folded_forward hash) (singly digest fronts) ∙ ap (min 1) (count digest fronts) in
      let honest = list_honest hash bagging rule elements (from claim.start claim.elements) claim.leaves claim.inactive claim.start stop some claim.outer
      claim.digests list ∙ honest_is hash G bagging claim.inactive claim.start stop some peaks up in
      let own = as_one (folded_forward hash) (singly D fronts) in
      let theirs = as_one (folded_forward hash) (singly G fronts) in
      let first = same_parts own (singly D befores ++ are.peaks.0) theirs _ (fold_count D ∙ sym (fold_count G))
      (sym (append_assoc own (singly D befores) are.peaks.0) ∙ sym are.peaks.1 ∙ honest) in
      let second = same_parts (singly D befores) are.peaks.0 (singly G befores) _ (count D befores ∙ sym (count G befores)) first.1 in
      let nodes = inner_nodes claim.start stop peaks in
      let later = drop (passing (is_before claim.start) nodes) nodes in
      let inner : drop claim.outer claim.digests ≡ singly G inners ++ singly G later =
      list.1 ∙ inner_of G claim.start stop peaks
      ∙ ap (singly G) (before_first claim.start 0 nodes (inner_up claim.start stop 0 peaks up))
      ∙ map-append (λ (p : Located). G p.0 p.1) inners later in
      let third = same_parts (singly D inners) are.nodes.0 (singly G inners) (singly G later) (count D inners ∙ sym (count G inners))
      (sym are.nodes.1 ∙ inner) in
      record {
        folds = first.0;
        singles = map-append (λ (p : Located). D p.0 p.1) befores inners ∙ ap₂ (λ xs ys. xs ++ ys) second.0 third.0
            ∙ sym (map-append (λ (p : Located). G p.0 p.1) befores inners);
      }

  -- the strings of the list's nodes, and of the fold
  abbrev list_bag : ℕ → ℕ → Made
  list_bag n i = bag_of plain_names plain_over (whole elements) bagging i (peaks_of rule n)

  pub bag_all : claim.leaves ≡ length elements → claim.inactive ≡ inactive → In (strings hash (list_bag claim.leaves claim.inactive)) all
  bag_all counted same =
      subst (λ n. In (strings hash (list_bag n claim.inactive)) all) (sym counted)
      (subst (λ i. In (strings hash (list_bag (length elements) i)) all) (sym same)
      (λ s here. Contains-append_right ((plain_names.root_site, _) ∷ []) (strings hash (list_bag (length elements) inactive)) s here))

  module _ (within : stop_of claim ≤ claim.leaves) (in_all : In (strings hash (list_bag claim.leaves claim.inactive)) all) where
    node_strings : (n : Located) → IsNode trees n → In (strings hash (E n)) all
    node_strings n stands =
        let last = length peaks in
        in_forest (In (strings hash (E n)) all) n.0 n.1 trees
        (all_more (PeakIn hash (whole elements) last (list_bag claim.leaves claim.inactive))
        (λ q. IsWithin n.0 n.1 q.0 q.1 → In (strings hash (E n)) all) peaks
        (λ q own inside s here. in_all s (own s (tree_in hash (whole elements) n.0 n.1 q.0 q.1 inside s here)))
        (bag_in hash (whole elements) last k peaks)) stands

    -- single nodes
    one_same : (n : Located) → In (strings hash (T n)) given → IsNode trees n → D n.0 n.1 ≡ G n.0 n.1 → Same n ⊎ Collides
    one_same n in_given stands same =
        agrees_or_collides hash all given (T n) (E n) (node_strings n stands) in_given
        (pinned_alike hash size hash_sized none none_sized elements pins pinned sized n.0 n.1).matches
        (value_pinned hash none known n.0 n.1 ∙ same ∙ sym (value_plain hash elements n.0 n.1))

    all_same : (ns : List Located) → AllByRecursion (λ n. In (strings hash (T n)) given) ns → AllByRecursion (IsNode trees) ns
        → singly D ns ≡ singly G ns → AllByRecursion Same ns ⊎ Collides
    all_same [] ins nodes same = inl tt
    all_same (n ∷ ns) ins nodes same =
        let head : D n.0 n.1 ≡ G n.0 n.1 = cc in
        let tail : singly D ns ≡ singly G ns = cc in
        ⊎_elim (λ one. ⊎_elim (λ others. inl (one, others)) inr (all_same ns ins.1 nodes.1 tail)) inr (one_same n ins.0 nodes.0 head)

    -- the fold
    abbrev L : List Located → ℕ
    L ns = length (map T ns)

    longs : (ns : List Located) → length (map E ns) ≡ L ns
    longs ns = length-map ns E ∙ sym (length-map ns T)

    bag_values : (ns : List Located) → as_one (folded_forward hash) (singly D ns) ≡ as_one (folded_forward hash) (singly G ns)
        → value hash (as_bag plain_names (L ns) (L ns) (map T ns)) ≡ value hash (as_bag plain_names (L ns) (L ns) (map E ns))
    bag_values [] same = refl
    bag_values (n ∷ ns) same =
        let folds : folded_forward hash (singly D (n ∷ ns)) ≡ folded_forward hash (singly G (n ∷ ns)) = cc in
        front_value hash T D (λ m. value_pinned hash none known m.0 m.1) (L (n ∷ ns)) n ns ∙ folds
        ∙ sym (front_value hash E G (λ m. value_plain hash elements m.0 m.1) (L (n ∷ ns)) n ns)
        ∙ ap (λ j. value hash (as_bag plain_names (L (n ∷ ns)) j (map E (n ∷ ns)))) (longs (n ∷ ns))

    each_same : (ns : List Located) → AllAgree hash size hash_sized plain_names (map T ns) (map E ns) → AllByRecursion Same ns
    each_same [] agree = tt
    each_same (n ∷ ns) agree = (agree.0, each_same ns agree.1)

    fronts_same : as_one (folded_forward hash) (singly D fronts) ≡ as_one (folded_forward hash) (singly G fronts)
        → AllByRecursion Same fronts ⊎ Collides
    fronts_same same =
        let j = L fronts in
        let rebuilt_bag = as_bag plain_names j j (map T fronts) in
        let list_fold = as_bag plain_names j j (map E fronts) in
        let is : as_bag plain_names (length fronts) (length fronts) (map E fronts)
        ≡ made_bag plain_names plain_over (whole elements) (length fronts) (length fronts) fronts =
        bag_same plain_names plain_over (whole elements) (length fronts) (length fronts) fronts in
        let in_bag = fronts_in hash (whole elements) (length peaks) claim.start k peaks up in
        let in_list : In (strings hash list_fold) all =
        subst (λ i. In (strings hash (as_bag plain_names i i (map E fronts))) all) (sym (length-map fronts T))
        (subst (λ m. In (strings hash m) all) (sym is) (λ s here. in_all s (in_bag s here))) in
        let alike = all_alike hash size hash_sized none none_sized elements pins pinned sized fronts in
        ⊎_elim (λ agrees. inl (each_same fronts (bag_agrees hash size hash_sized plain_names j j (map T fronts) (map E fronts) alike agrees))) inr
        (agrees_or_collides hash all given rebuilt_bag list_fold in_list
        (λ s here. Contains-append_right rebuilt (pinned_strings hash none bagging rule claim pinned) s
        (Contains-append_left (strings hash rebuilt_bag) (flat_map (λ n. strings hash (T n)) (before_singly bagging rule claim)) s here))
        (bag_matches hash size hash_sized plain_names j j (map T fronts) (map E fronts) alike) (bag_values fronts same))

    all_nodes : AllByRecursion (IsNode trees) peaks
    all_nodes = located_all (IsNode trees) trees (λ first node stands. peak-node first node trees stands)

    fronts_nodes : AllByRecursion (IsNode trees) fronts
    fronts_nodes = recursion_from_All (IsNode trees) fronts (All-filter (is_before claim.start) (IsNode trees) (take k peaks)
        (All-take (IsNode trees) k peaks (All-from_recursion (IsNode trees) peaks all_nodes)))

    befores_nodes : AllByRecursion (IsNode trees) befores
    befores_nodes = recursion_from_All (IsNode trees) befores (All-filter (is_before claim.start) (IsNode trees) (drop k peaks)
        (All-drop (IsNode trees) k peaks (All-from_recursion (IsNode trees) peaks all_nodes)))

    inners_nodes : AllByRecursion (IsNode trees) inners
    inners_nodes =
        let nodes = inner_nodes claim.start stop peaks in
        let afters = filter (is_after stop) peaks in
        recursion_from_All (IsNode trees) inners (All-filter (is_before claim.start) (IsNode trees) nodes (All-from_recursion (IsNode trees) nodes
        (all_back (IsNode trees) afters nodes (all_back (IsNode trees) (filter (is_before claim.start) peaks) (afters ++ nodes)
        (range_all trees claim.start stop)))))

    singles_same : singly D (before_singly bagging rule claim) ≡ singly G (before_singly bagging rule claim)
        → AllByRecursion Same (before_singly bagging rule claim) ⊎ Collides
    singles_same same =
        let ns = before_singly bagging rule claim in
        let f : Located → Strings = λ n. strings hash (T n) in
        let several = strings hash (as_bag plain_names (L fronts) (L fronts) (map T fronts)) in
        all_same ns
        (all_more (λ n. In (f n) (flat_map f ns)) (λ n. In (f n) given) ns
        (λ n own s here. Contains-append_right rebuilt (several ++ flat_map f ns) s (Contains-append_right several (flat_map f ns) s (own s here)))
        (flat_in f ns))
        (all_append (IsNode trees) befores inners befores_nodes inners_nodes) same

    -- a node whose digest is rebuilt as it is in the list
    abbrev IsGood : Located → Type 0
    IsGood n = IsNode trees n × Same n

    both_good : (ns : List Located) → AllByRecursion (IsNode trees) ns → AllByRecursion Same ns → AllByRecursion IsGood ns
    both_good [] one other = tt
    both_good (n ∷ ns) one other = ((one.0, other.0), both_good ns one.1 other.1)

    halves : (P : Located → Type 0) (xs ys : List Located) → AllByRecursion P (xs ++ ys) → AllByRecursion P xs × AllByRecursion P ys
    halves P [] ys all = (tt, all)
    halves P (x ∷ xs) ys all = let rest = halves P xs ys all.1 in ((all.0, rest.0), rest.1)

    are_pins : length pinned ≡ length pins → AllByRecursion Same fronts → AllByRecursion Same (before_singly bagging rule claim)
        → pinned ≡ peak_digests G (forest_of rule claim.start)
    are_pins counted one other =
        let parts = halves Same befores inners other in
        let early : Located → Type 0 = λ n. is_before claim.start n ≡ true → IsGood n in
        let in_front = unfiltered IsGood (is_before claim.start) (take k peaks) (both_good fronts fronts_nodes one) in
        let in_rest = unfiltered IsGood (is_before claim.start) (drop k peaks) (both_good befores befores_nodes parts.0) in
        let in_all_peaks = subst (AllByRecursion early) (take-append-drop k peaks) (all_append early (take k peaks) (drop k peaks) in_front in_rest) in
        let in_inner = unfiltered IsGood (is_before claim.start) (inner_nodes claim.start stop peaks) (both_good inners inners_nodes parts.1) in
        let before = forest_of rule claim.start in
        let few : claim.start ≤ claim.leaves = omega (arith, some, within) in
        each_pinned G pins pinned counted
        (distinct rule pairs claim.start 0 pins (ascend_located before)
        (located_all (IsNode before) before (λ first node stands. peak-node first node before stands)))
        (located_all (λ n. (d : List ℕ) → known (position n.1) ≡ Some d → d ≡ G n.0 n.1) before
        (λ first node stands d is.
        let ends : first + leaf_count node ≤ claim.start =
        omega (arith, node-fits first node before (peak-node first node before stands), leaves-forest_of rule pairs claim.start) in
        let over = covered first node claim.start stop some ends IsGood trees in_all_peaks in_inner
        (node-stays rule pairs claim.start claim.leaves first node few (peak-node first node before stands)) in
        descend hash none elements rule pairs claim.start claim.leaves pinned over.0.0 over.0.1 first node d over.1.0 stands over.2 is over.1.1
        ∙ value_plain hash elements first node))

    pub pins_or_collide : length pinned ≡ length pins → AreListed → (pinned ≡ peak_digests G (forest_of rule claim.start)) ⊎ Collides
    pins_or_collide counted listed =
        ⊎_elim (λ one. ⊎_elim (λ other. inl (are_pins counted one other)) inr (singles_same listed.singles)) inr (fronts_same listed.folds)
