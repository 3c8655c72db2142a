-- One string a site, in what a proof's root is rebuilt by and what stands before its range is.
--
-- A root is rebuilt by the strings of nodes that end behind the beginning of the range, and of folds in which more stands than the peaks before
-- it. What stands before the range is rebuilt by those of nodes that end before it, and of folds of these peaks alone.
use Rattle.std.proofs.Common.{◌≡◌, ◌⊎◌, inl, inr, ⊎_elim, ℕ, zero, suc, ◌+◌, ◌^◌, ◌<◌, ◌≤◌, ◌||◌, true, false, ltb}
use Rattle.std.proofs.Common.{List, [], ◌∷◌, ◌++◌, length, filter, take, drop, Contains, Option, None, Some}
use Rattle.std.proofs.Common.{option_map, option_and_then, IfSome, refl, sym, ◌∙◌, ap, subst, arith}
use Rattle.std.specs.List.{AllByRecursion, list_all}
use Rattle.std.proofs.lemmas.Bool.{leb-false, or_parts, not-true}
use Rattle.std.proofs.lemmas.List.Elements.{Contains-append_cases}
use Rattle.merkle_forest.specs.declared.bagging.Bagging.{Bagging}
use Rattle.merkle_forest.specs.Forest.{Tree, leaf, branch, position, height, leaf_count, Rule, forest_of}
use Rattle.merkle_forest.specs.Hashing.{Hash, number, domain_of, inactive_count}
use Rattle.merkle_forest.specs.Laws.NodeGrowth.{one-node}
use Rattle.merkle_forest.specs.Laws.Nodes.{peak-node}
use Rattle.merkle_forest.specs.Laws.Places.{node-left, node-right}
use Rattle.merkle_forest.specs.Made.{Site, at_plain, at_fold, at_tree_root, Made, bytes, both, hashed, value, strings}
use Rattle.merkle_forest.specs.Nodes.{IsNodeAt}
use Rattle.merkle_forest.specs.Perfect.{IsPairing}
use Rattle.merkle_forest.specs.Trees.{Located, end_of}
use Rattle.merkle_theory.specs.Laws.MadeBags.{bind_good, map_good}
use Rattle.merkle_theory.specs.Laws.MadeTrees.{choose}
use Rattle.merkle_proofs.specs.ListDigests.{stop_of}
use Rattle.merkle_theory.specs.MadeRoots.{folded, from_left, peaks_of, root_made, Streams, Bagged, given_outer}
use Rattle.merkle_theory.specs.MadeRoots.{read_peak, read_back, read_onto, read_group, read_bag, used}
use Rattle.merkle_theory.specs.MadeTrees.{Elements, from, plain_over, leaf_made, branch_made, given, read_tree}
use Rattle.merkle_theory.specs.OneEach.{OneEach}
use Rattle.merkle_proofs.specs.PinnedSoundness.{singles_of, pinned_strings}
use Rattle.merkle_theory.specs.Ranges.{is_before, is_after, meets}
use Rattle.merkle_theory.specs.Soundness.{plain_names, RangeClaim, claimed_root}
use Rattle.merkle_theory.proofs.HonestRanges.{Ascend}
use Rattle.merkle_theory.proofs.HonestRoots.{ascend_located}
use Rattle.merkle_theory.proofs.Lookups.{IsNode, located_all}
use Rattle.merkle_theory.proofs.OneEach.{nothing, only}
use Rattle.merkle_theory.proofs.OneEachBag.{fold_plain, parts_of}
use Rattle.merkle_theory.proofs.OneEachRoot.{same_position, rebuilt_one}
use Rattle.merkle_theory.proofs.PartFolds.{none_there, ascend_first}
use Rattle.merkle_proofs.proofs.PinnedOneEach.{append_one, IsSiteBefore, fronts, pinned_one, pinned_sites}
use Rattle.merkle_theory.proofs.PlanNodes.{passed, failed}

module _ (hash : Hash) (trees : List Tree) (claimed : Elements) (start stop : ℕ) where
  -- the site of a node that ends behind the beginning of the range
  abbrev pub IsSiteBehind : Site → Type 0
  IsSiteBehind s = (first : ℕ) × (node : Tree) × IsNodeAt first node trees × (start < first + leaf_count node) × (s ≡ at_plain (position node))

  -- what is made is hashed at such sites alone
  abbrev pub Only : (Site → Type 0) → Made → Type 0
  Only P made = (s : Site) (u : List ℕ) → Contains (strings hash made) (s, u) → P s

  behind : (at : ℕ) (t : Tree) → meets start stop (at, t) ≡ true → start < at + leaf_count t
  behind at t met =
      leb-false (at + leaf_count t) start
      (or_parts (is_before start (at, t)) (is_after stop (at, t)) (not-true (is_before start (at, t) || is_after stop (at, t)) met)).0

  given_only : (P : Site → Type 0) (digests : List (List ℕ)) → IfSome (given digests) (λ got. Only P got.0)
  given_only P [] = tt
  given_only P (d ∷ digests) = λ s u here. absurd (nothing (s, u) here)

  outer_only : (P : Site → Type 0) (streams : Streams) → IfSome (given_outer streams) (λ got. Only P got.0)
  outer_only P ([], inner) = tt
  outer_only P ((d ∷ outer), inner) = λ s u here. absurd (nothing (s, u) here)

  branch_only : (P : Site → Type 0) (p : ℕ) (x y : Made) → Only P x → Only P y → P (at_plain p)
      → Only P (hashed (at_plain p) [] (both (bytes (number p)) (both x y)))
  branch_only P p x y one other own s u here =
      ⊎_elim (λ top. subst P top.0 own)
      (λ below. ⊎_elim (λ none. absurd (nothing (s, u) none))
      (λ parts. ⊎_elim (λ l. one s u l) (λ r. other s u r) (Contains-append_cases (strings hash x) (strings hash y) (s, u) parts)) below)
      (parts_of hash 0 (at_plain p) (bytes (number p)) (both x y) s u here)

  leaf_only : (at p : ℕ) → IsNodeAt at (leaf p) trees → meets start stop (at, leaf p) ≡ true → Only IsSiteBehind (leaf_made p (claimed at))
  leaf_only at p stands met s u here =
      let is = only (at_plain p, number p ++ claimed at) (s, u) here in
      (at, leaf p, stands, behind at (leaf p) met, sym (ap (λ (z : Site × List ℕ). z.0) is))

  tree_sites : (at : ℕ) (t : Tree) (digests : List (List ℕ)) → IsNodeAt at t trees
      → IfSome (read_tree plain_over claimed start stop at t digests) (λ got. Only IsSiteBehind got.0)
  tree_sites at (leaf p) digests stands =
      choose (λ got. IfSome got (λ x. Only IsSiteBehind x.0)) (meets start stop (at, leaf p)) (Some (leaf_made p (claimed at), digests)) (given digests)
      (λ met. leaf_only at p stands met) (λ out. given_only IsSiteBehind digests)
  tree_sites at (branch p left right) digests stands =
      let middle = at + leaf_count left in
      choose (λ got. IfSome got (λ x. Only IsSiteBehind x.0)) (meets start stop (at, branch p left right))
      (option_and_then (λ x. option_map (λ y. (branch_made plain_over at (height (branch p left right)) p x.0 y.0, y.1))
      (read_tree plain_over claimed start stop middle right x.1)) (read_tree plain_over claimed start stop at left digests))
      (given digests)
      (λ met. bind_good (λ (x : Made × List (List ℕ)). Only IsSiteBehind x.0) (λ (x : Made × List (List ℕ)). Only IsSiteBehind x.0)
      (λ x. option_map (λ y. (branch_made plain_over at (height (branch p left right)) p x.0 y.0, y.1))
      (read_tree plain_over claimed start stop middle right x.1)) (read_tree plain_over claimed start stop at left digests)
      (tree_sites at left digests (node-left at p left right trees stands))
      (λ x one. map_good (λ (y : Made × List (List ℕ)). Only IsSiteBehind y.0) (λ (y : Made × List (List ℕ)). Only IsSiteBehind y.0)
      (λ y. (branch_made plain_over at (height (branch p left right)) p x.0 y.0, y.1)) (read_tree plain_over claimed start stop middle right x.1)
      (tree_sites middle right x.1 (node-right at p left right trees stands))
      (λ y other. branch_only IsSiteBehind p x.0 y.0 one other (at, branch p left right, stands, behind at (branch p left right) met, refl))))
      (λ out. given_only IsSiteBehind digests)

  module _ (last most : ℕ) where
    -- such a site, or that of a fold in which more stands than so many first peaks
    abbrev pub IsSiteOfMore : Site → Type 0
    IsSiteOfMore s = IsSiteBehind s ⊎ ((a : ℕ) × (b : ℕ) × (most < b) × (at_fold a b ≡ s))

    abbrev Good : Made × Streams → Type 0
    Good x = Only IsSiteOfMore x.0

    fold_only : (a b : ℕ) (x y : Made) → most < b → Only IsSiteOfMore x → Only IsSiteOfMore y → Only IsSiteOfMore (folded plain_names a b x y)
    fold_only a b x y more one other s u here =
        ⊎_elim (λ top. inr (a, b, more, top.0)) (λ below. ⊎_elim (λ l. one s u l) (λ r. other s u r) below)
        (parts_of hash last (at_fold a b) x y s u here)

    peak_sites : (peak : Located) (streams : Streams) → IsNode trees peak → IfSome (read_peak plain_over claimed start stop peak streams) Good
    peak_sites peak streams stands =
        choose (λ got. IfSome got Good) (meets start stop peak)
        (option_map (λ x. (x.0, (streams.0, x.1))) (read_tree plain_over claimed start stop peak.0 peak.1 streams.1)) (given_outer streams)
        (λ met. map_good (λ (x : Made × List (List ℕ)). Only IsSiteBehind x.0) Good (λ x. (x.0, (streams.0, x.1)))
        (read_tree plain_over claimed start stop peak.0 peak.1 streams.1) (tree_sites peak.0 peak.1 streams.1 stands)
        (λ x one s u here. inl (one s u here)))
        (λ out. outer_only IsSiteOfMore streams)

    back_sites : (n : ℕ) (peak : Located) (peaks : List Located) (streams : Streams) → most < last → AllByRecursion (IsNode trees) (peak ∷ peaks)
        → IfSome (read_back plain_names plain_over claimed start stop last n peak peaks streams) Good
    back_sites n peak [] streams more nodes = peak_sites peak streams nodes.0
    back_sites n peak (next ∷ peaks) streams more nodes =
        choose (λ got. IfSome got Good) (list_all (is_after stop) (peak ∷ next ∷ peaks)) (given_outer streams)
        (option_and_then (λ x. option_map (λ y. (folded plain_names n last x.0 y.0, y.1)) (read_back plain_names plain_over claimed start stop last
        (suc n) next peaks x.1))
        (read_peak plain_over claimed start stop peak streams))
        (λ out. outer_only IsSiteOfMore streams)
        (λ some. bind_good Good Good
        (λ x. option_map (λ y. (folded plain_names n last x.0 y.0, y.1)) (read_back plain_names plain_over claimed start stop last (suc n) next peaks x.1))
        (read_peak plain_over claimed start stop peak streams) (peak_sites peak streams nodes.0)
        (λ x one. map_good Good Good (λ y. (folded plain_names n last x.0 y.0, y.1))
        (read_back plain_names plain_over claimed start stop last (suc n) next peaks x.1) (back_sites (suc n) next peaks x.1 more nodes.1)
        (λ y other. fold_only n last x.0 y.0 more one other)))

    onto_sites : (k n : ℕ) (first : Made) (peaks : List Located) (streams : Streams) → most < n → n + length peaks ≡ suc last
        → AllByRecursion (IsNode trees) peaks → Only IsSiteOfMore first
        → IfSome (read_onto plain_names plain_over claimed start stop last k n first peaks streams) Good
    onto_sites k n first [] streams more total nodes one = one
    onto_sites zero n first (peak ∷ peaks) streams more total nodes one =
        let far : most < last = omega (arith, more, total) in
        map_good Good Good (λ y. (folded plain_names 1 last first y.0, y.1)) (read_back plain_names plain_over claimed start stop last n peak peaks streams)
        (back_sites n peak peaks streams far nodes) (λ y other. fold_only 1 last first y.0 far one other)
    onto_sites (suc k) n first (peak ∷ peaks) streams more total nodes one =
        bind_good Good Good (λ x. read_onto plain_names plain_over claimed start stop last k (suc n) (folded plain_names 1 n first x.0) peaks x.1)
        (read_peak plain_over claimed start stop peak streams) (peak_sites peak streams nodes.0)
        (λ x other. onto_sites k (suc n) (folded plain_names 1 n first x.0) peaks x.1 (omega (arith, more)) (omega (arith, total)) nodes.1
        (fold_only 1 n first x.0 more one other))

    -- how many of so many first peaks stand before the range
    abbrev count : ℕ → List Located → ℕ
    count k peaks = length (filter (is_before start) (take k peaks))

    count_early : (k : ℕ) (peak : Located) (peaks : List Located) → is_before start peak ≡ true → count (suc k) (peak ∷ peaks) ≡ suc (count k peaks)
    count_early k peak peaks early = ap length (passed (is_before start) peak (take k peaks) early)

    count_late : (k at : ℕ) (peak : Located) (peaks : List Located) → Ascend at (peak ∷ peaks) → is_before start peak ≡ false
        → count (suc k) (peak ∷ peaks) ≡ 0
    count_late k at peak peaks up late =
        let past : start < end_of peak = leb-false (end_of peak) start late in
        ap length (failed (is_before start) peak (take k peaks) late
        ∙ none_there start (end_of peak) (take k peaks) (omega (arith, past)) (ascend_first k (end_of peak) peaks up.1))

    group_sites : (k n at : ℕ) (first : Made) (peaks : List Located) (streams : Streams) → Ascend at peaks → most + 1 ≡ n + count k peaks
        → n + length peaks ≡ suc last → AllByRecursion (IsNode trees) peaks → Only IsSiteOfMore first
        → IfSome (read_group plain_names plain_over claimed start stop last k n first peaks streams) Good
    group_sites k n at first [] streams up counted total nodes one = one
    group_sites zero n at first (peak ∷ peaks) streams up counted total nodes one =
        onto_sites zero n first (peak ∷ peaks) streams (omega (arith, counted)) total nodes one
    group_sites (suc k) n at first (peak ∷ peaks) streams up counted total nodes one =
        choose (λ got. IfSome got Good) (is_before start peak)
        (read_group plain_names plain_over claimed start stop last k (suc n) first peaks streams)
        (read_onto plain_names plain_over claimed start stop last (suc k) n first (peak ∷ peaks) streams)
        (λ early. group_sites k (suc n) (end_of peak) first peaks streams up.1 (omega (arith, counted, count_early k peak peaks early))
        (omega (arith, total)) nodes.1 one)
        (λ late. onto_sites (suc k) n first (peak ∷ peaks) streams (omega (arith, counted, count_late k at peak peaks up late)) total nodes one)

    bag_sites : (k : ℕ) (peaks : List Located) (streams : Streams) → Ascend 0 peaks → most ≡ count k peaks → length peaks ≡ last
        → AllByRecursion (IsNode trees) peaks
        → IfSome (read_bag plain_names plain_over claimed start stop last k peaks streams) Good
    bag_sites k [] streams up counted total nodes = tt
    bag_sites zero (peak ∷ peaks) streams up counted total nodes = back_sites 1 peak peaks streams (omega (arith, counted, total)) nodes
    bag_sites (suc k) (peak ∷ peaks) streams up counted total nodes =
        choose (λ got. IfSome got Good) (is_before start peak)
        (option_and_then (λ x. read_group plain_names plain_over claimed start stop last k 2 x.0 peaks x.1) (given_outer streams))
        (option_and_then (λ x. read_onto plain_names plain_over claimed start stop last k 2 x.0 peaks x.1)
        (read_peak plain_over claimed start stop peak streams))
        (λ early. bind_good Good Good (λ x. read_group plain_names plain_over claimed start stop last k 2 x.0 peaks x.1) (given_outer streams)
        (outer_only IsSiteOfMore streams)
        (λ x one. group_sites k 2 (end_of peak) x.0 peaks x.1 up.1 (omega (arith, counted, count_early k peak peaks early)) (omega (arith, total))
        nodes.1 one))
        (λ late. bind_good Good Good (λ x. read_onto plain_names plain_over claimed start stop last k 2 x.0 peaks x.1)
        (read_peak plain_over claimed start stop peak streams) (peak_sites peak streams nodes.0)
        (λ x one. onto_sites k 2 x.0 peaks x.1 (omega (arith, counted, count_late k 0 peak peaks up late)) (omega (arith, total)) nodes.1 one))

    all_used : (got : Bagged) → IfSome got Good → IfSome (option_and_then used got) (Only IsSiteOfMore)
    all_used None is = tt
    all_used (Some (made, ([], []))) is = is
    all_used (Some (made, ((d ∷ outer), inner))) is = tt
    all_used (Some (made, ([], (d ∷ inner)))) is = tt

-- sites of what is rebuilt of the proof and of what stands before the range are apart
module _ (hash : Hash) (none : List ℕ) (bagging : Bagging) (rule : Rule) (pairs : IsPairing rule) (claim : RangeClaim) (pinned : List (List ℕ)) where
  abbrev T : List Tree
  T = forest_of rule claim.leaves

  abbrev most : ℕ
  most = length (fronts hash none bagging rule pairs claim pinned)

  -- the site of the root, or one behind
  abbrev IsRebuilt : Site → Type 0
  IsRebuilt s = (at_tree_root ≡ s) ⊎ IsSiteOfMore hash T (from claim.start claim.elements) claim.start (stop_of claim)
      (length (peaks_of rule claim.leaves)) most s

  abbrev IsPinned : Site → Type 0
  IsPinned s = IsSiteBefore hash none bagging rule pairs claim pinned s ⊎ ((b : ℕ) × (b ≤ most) × (at_fold 1 b ≡ s))

  not_root_plain : (s : Site) (p : ℕ) → at_tree_root ≡ s → s ≡ at_plain p → ⊥
  not_root_plain s p one other = let clash : at_tree_root ≡ at_plain p = one ∙ other in cc

  not_root_fold : (s : Site) (b : ℕ) → at_tree_root ≡ s → at_fold 1 b ≡ s → ⊥
  not_root_fold s b one other = let clash : at_tree_root ≡ at_fold 1 b = one ∙ sym other in cc

  same_end : (a b c d : ℕ) → at_fold a b ≡ at_fold c d → b ≡ d
  same_end a b c d same = cc

  not_same : (s : Site) → IsRebuilt s → IsPinned s → ⊥
  not_same s (inl root) (inl node) = not_root_plain s (position node.1) root node.4
  not_same s (inl root) (inr fold) = not_root_fold s fold.0 root fold.2
  not_same s (inr (inl behind)) (inl before) =
      let same = one-node rule pairs claim.leaves claim.leaves behind.0 before.0 behind.1 before.1 behind.2 before.2
      (same_position (position behind.1) (position before.1) (sym behind.4 ∙ before.4)) in
      omega (arith, same.0, ap leaf_count same.1, behind.3, before.3)
  not_same s (inr (inl behind)) (inr fold) = fold_plain 1 fold.0 (position behind.1) s fold.2 behind.4
  not_same s (inr (inr fold)) (inl before) = fold_plain fold.0 fold.1 (position before.1) s fold.3 before.4
  not_same s (inr (inr fold)) (inr other) = omega (arith, same_end fold.0 fold.1 1 other.0 (fold.3 ∙ sym other.2), fold.2, other.1)

  abbrev Beside : Made → Type 0
  Beside made = (s : Site) (u : List ℕ) → Contains (strings hash made) (s, u) → IsRebuilt s

  root_sites : (string : List ℕ) (bag : Made) → Only hash T (from claim.start claim.elements) claim.start (stop_of claim)
      (IsSiteOfMore hash T (from claim.start claim.elements) claim.start (stop_of claim) (length (peaks_of rule claim.leaves)) most) bag
      → (s : Site) (u : List ℕ) → Contains ((at_tree_root, string) ∷ strings hash bag) (s, u) → IsRebuilt s
  root_sites string bag all s u here =
      ⊎_elim (λ first. inl (ap (λ (z : Site × List ℕ). z.0) (only (at_tree_root, string) (s, u) first))) (λ rest. inr (all s u rest))
      (Contains-append_cases ((at_tree_root, string) ∷ []) (strings hash bag) (s, u) here)

  rebuilt_sites : IfSome (claimed_root bagging rule claim) Beside
  rebuilt_sites =
      let n : ℕ = claim.leaves in
      let peaks : List Located = peaks_of rule n in
      let last : ℕ = length peaks in
      let stop : ℕ = claim.start + length claim.elements in
      let k = singles_of bagging rule claim in
      let got = read_bag plain_names plain_over (from claim.start claim.elements) claim.start stop last (from_left bagging claim.inactive last) peaks
      (take claim.outer claim.digests, drop claim.outer claim.digests) in
      let More = IsSiteOfMore hash T (from claim.start claim.elements) claim.start stop last most in
      choose (λ r. IfSome r Beside) (ltb (2 ^ 62) n || (ltb last claim.inactive || ltb n stop)) None
      (option_map (root_made plain_names bagging n claim.inactive) (option_and_then used got))
      (λ is. tt)
      (λ is. map_good (Only hash T (from claim.start claim.elements) claim.start stop More) Beside (root_made plain_names bagging n claim.inactive)
      (option_and_then used got)
      (all_used hash T (from claim.start claim.elements) claim.start stop last most got
      (bag_sites hash T (from claim.start claim.elements) claim.start stop last most k peaks
      (take claim.outer claim.digests, drop claim.outer claim.digests) (ascend_located T) refl refl
      (located_all (IsNode T) T (λ first node stands. peak-node first node T stands))))
      (λ bag all. root_sites (value hash (both (bytes (number n)) (both (bytes (domain_of bagging ∷ inactive_count claim.inactive)) bag))) bag all))

  if_both : (P Q R : Made → Type 0) → ((made : Made) → P made → Q made → R made) → (got : Option Made) → IfSome got P
      → IfSome got Q → IfSome got R
  if_both P Q R each None p q = tt
  if_both P Q R each (Some made) p q = each made p q

  pub beside_one : IfSome (claimed_root bagging rule claim) (λ made. OneEach (strings hash made ++ pinned_strings hash none bagging rule claim pinned))
  beside_one =
      let more = pinned_strings hash none bagging rule claim pinned in
      if_both (λ made. OneEach (strings hash made)) Beside (λ made. OneEach (strings hash made ++ more))
      (λ made one sites. append_one (strings hash made) more one (pinned_one hash none bagging rule pairs claim pinned)
      (λ s u v here there. not_same s (sites s u here) (pinned_sites hash none bagging rule pairs claim pinned s v there)))
      (claimed_root bagging rule claim) (rebuilt_one hash bagging rule pairs claim) rebuilt_sites
