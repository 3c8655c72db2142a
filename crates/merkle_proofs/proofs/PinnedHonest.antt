-- What stands before a range, made of the digests of the nodes to pin there, has the digests of the tree.
--
-- A node that the proof gives before the range lies in no node to pin, but for itself. So below it, down to these nodes, all are branches.
use Rattle.std.proofs.Common.{◌≡◌, ◌⊎◌, inl, inr, ⊎_elim, ℕ, ◌+◌, ◌<◌, ◌≤◌, true, false, ◌||◌, List, [], ◌∷◌, ◌++◌}
use Rattle.std.proofs.Common.{length, filter, take, drop, None, Some, refl, sym, ◌∙◌, ap, ap₂, subst, arith}
use Rattle.std.proofs.Common.{append_assoc}
use Rattle.std.specs.List.{AllByRecursion}
use Rattle.std.proofs.lemmas.Bool.{cases_Bool, cases_lt, leb-true, leb-false, or_parts, not-true}
use Rattle.std.proofs.lemmas.List.{length-map, map-append, drop_at}
use Rattle.std.proofs.lemmas.List.Elements.{All-drop, All-take, All-from_recursion, recursion_from_All}
use Rattle.merkle_forest.specs.declared.bagging.Bagging.{Bagging}
use Rattle.merkle_forest.specs.Forest.{Tree, leaf, branch, position, leaf_count, leaves, Rule, forest_of}
use Rattle.merkle_forest.specs.Hashing.{Hash, folded_forward, folded_backward}
use Rattle.merkle_forest.specs.Laws.ForestGrowth.{leaves-forest_of}
use Rattle.merkle_forest.specs.Laws.NodeGrowth.{node-stays}
use Rattle.merkle_forest.specs.Laws.Nodes.{peak-node, within-fits, node-fits}
use Rattle.merkle_forest.specs.Laws.Peaks.{leaf_count-pos}
use Rattle.merkle_forest.specs.Laws.Places.{node-left, node-right}
use Rattle.merkle_forest.specs.Nodes.{IsWithin, IsNodeAt, IsPeakAt}
use Rattle.merkle_forest.specs.Perfect.{IsPairing}
use Rattle.merkle_forest.specs.Trees.{Located, located, peak_digests}
use Rattle.merkle_theory.specs.MadeRoots.{from_left, peaks_of}
use Rattle.merkle_theory.specs.Pinned.{at_peak, pinned_digest, AreMadeBefore, ArePinned}
use Rattle.merkle_theory.specs.Plans.{Lookup, sibling_nodes, inner_nodes}
use Rattle.merkle_theory.specs.RangeCounts.{passing, range_outer}
use Rattle.merkle_theory.specs.Ranges.{Digests, is_before, is_after, meets, as_one, singly, inner_digests, range_digests}
use Rattle.merkle_theory.proofs.HonestRanges.{Ascend}
use Rattle.merkle_theory.proofs.HonestRoots.{ascend_located, spelled, outer_length, proof_parts}
use Rattle.merkle_proofs.proofs.HonestTold.{honest_is}
use Rattle.merkle_theory.proofs.Lookups.{IsNode, AreSame, all_append, all_front, all_back, all_filter, all_flat, located_all, same_all}
use Rattle.merkle_proofs.proofs.PinnedCover.{before_first, inner_up}
use Rattle.merkle_proofs.proofs.PinnedMade.{either_digest, apart, Distinct, distinct, pinned_peak}
use Rattle.merkle_theory.proofs.Pins.{at_here, at_later, pinned_here, made_of_two}
use Rattle.merkle_theory.proofs.PlanFolds.{inner_of}
use Rattle.merkle_theory.proofs.PlanNodes.{passed, failed, siblings_out, siblings_leaf, siblings_branch}

-- what stands in a tree stands in that tree by its other name
renamed : (f at g : ℕ) (a t b : Tree) → f ≡ at → a ≡ t → IsWithin g b at t → IsWithin g b f a
renamed f at g a t b begins is within = subst (λ k. IsWithin g b k a) (sym begins) (subst (IsWithin g b at) (sym is) within)

-- a node with as many leaves as the tree is the tree
whole_within : (f at : ℕ) (a t : Tree) → IsWithin f a at t → leaf_count t ≤ leaf_count a → (f ≡ at) × (a ≡ t)
whole_within f at a (leaf p) within le = within
whole_within f at a (branch p left right) (inl within) le = within
whole_within f at a (branch p left right) (inr (inl within)) le =
    absurd (omega (arith, le, within-fits f at a left within, leaf_count-pos right))
whole_within f at a (branch p left right) (inr (inr within)) le =
    absurd (omega (arith, le, within-fits f (at + leaf_count left) a right within, leaf_count-pos left))

-- of two nodes one stands in the other, or they are apart
abbrev AreNested : ℕ → ℕ → Tree → Tree → Type 0
AreNested f g a b = IsWithin f a g b ⊎ (IsWithin g b f a ⊎ ((f + leaf_count a ≤ g) ⊎ (g + leaf_count b ≤ f)))

nested : (f g at : ℕ) (a b t : Tree) → IsWithin f a at t → IsWithin g b at t → AreNested f g a b
nested f g at a b (leaf p) one other = inr (inl (renamed f at g a (leaf p) b one.0 one.1 other))
nested f g at a b (branch p left right) (inl one) other = inr (inl (renamed f at g a (branch p left right) b one.0 one.1 other))
nested f g at a b (branch p left right) (inr one) (inl other) = inl (renamed g at f b (branch p left right) a other.0 other.1 (inr one))
nested f g at a b (branch p left right) (inr (inl one)) (inr (inl other)) = nested f g at a b left one other
nested f g at a b (branch p left right) (inr (inr one)) (inr (inr other)) = nested f g (at + leaf_count left) a b right one other
nested f g at a b (branch p left right) (inr (inl one)) (inr (inr other)) =
    inr (inr (inl (omega (arith, within-fits f at a left one, within-fits g (at + leaf_count left) b right other))))
nested f g at a b (branch p left right) (inr (inr one)) (inr (inl other)) =
    inr (inr (inr (omega (arith, within-fits f (at + leaf_count left) a right one, within-fits g at b left other))))

nested_nodes : (f g : ℕ) (a b : Tree) (trees : List Tree) → IsNodeAt f a trees → IsNodeAt g b trees → AreNested f g a b
nested_nodes f g a b [] one other = absurd one
nested_nodes f g a b (t ∷ ts) (inl one) (inl other) = nested f g (leaves ts) a b t one other
nested_nodes f g a b (t ∷ ts) (inl one) (inr other) =
    inr (inr (inr (omega (arith, within-fits f (leaves ts) a t one, node-fits g b ts other))))
nested_nodes f g a b (t ∷ ts) (inr one) (inl other) =
    inr (inr (inl (omega (arith, within-fits g (leaves ts) b t other, node-fits f a ts one))))
nested_nodes f g a b (t ∷ ts) (inr one) (inr other) = nested_nodes f g a b ts one other

-- the peak that a node stands in
peak_over : (f : ℕ) (a : Tree) (trees : List Tree) → IsNodeAt f a trees → (g : ℕ) × (b : Tree) × IsPeakAt g b trees × IsWithin f a g b
peak_over f a [] stands = absurd stands
peak_over f a (t ∷ ts) (inl within) = (leaves ts, t, inl (refl, refl), within)
peak_over f a (t ∷ ts) (inr stands) = let it = peak_over f a ts stands in (it.0, it.1, inr it.2, it.3)

-- the peak over a leaf
record HoldsLeaf (at : ℕ) (trees : List Tree) : Type 0 where
  first : ℕ
  peak : Tree
  stands : IsPeakAt first peak trees
  low : first ≤ at
  high : at < first + leaf_count peak

over_leaf : (at : ℕ) (trees : List Tree) → at < leaves trees → HoldsLeaf at trees
over_leaf at [] lt = absurd (omega (arith, lt))
over_leaf at (t ∷ ts) lt =
    ⊎_elim
    (λ (below : at < leaves ts). let it = over_leaf at ts below in
    record { first = it.first; peak = it.peak; stands = inr it.stands; low = it.low; high = it.high })
    (λ (past : leaves ts ≤ at). record {
      first = leaves ts;
      peak = t;
      stands = inl (refl, refl);
      low = past;
      high = omega (arith, lt);
    })
    (cases_lt at (leaves ts))

-- what holds of each peak holds of one
at_one : (P : Located → Type 0) (first : ℕ) (peak : Tree) (trees : List Tree) → AllByRecursion P (located trees) → IsPeakAt first peak trees
    → P (first, peak)
at_one P first peak [] all stands = absurd stands
at_one P first peak (t ∷ ts) all (inl is) =
    subst (λ k. P (k, peak)) (sym is.0) (subst (λ u. P (leaves ts, u)) (sym is.1) (all_back P (located ts) ((leaves ts, t) ∷ []) all).0)
at_one P first peak (t ∷ ts) all (inr there) = at_one P first peak ts (all_front P (located ts) ((leaves ts, t) ∷ []) all) there

-- the digest of each peak is found by its position
each_found : (digest : Digests) (peaks : List Located) → Distinct peaks
    → AllByRecursion (λ n. at_peak peaks (singly digest peaks) (position n.1) ≡ Some (digest n.0 n.1)) peaks
each_found digest [] differ = tt
each_found digest (n ∷ ns) differ =
    (at_here n ns (digest n.0 n.1) (singly digest ns) (position n.1) refl, others ns differ.0 (each_found digest ns differ.1))
  where
    others : (ms : List Located) → AllByRecursion (λ m. position n.1 ≡ position m.1 → ⊥) ms
        → AllByRecursion (λ m. at_peak ns (singly digest ns) (position m.1) ≡ Some (digest m.0 m.1)) ms
        → AllByRecursion (λ m. at_peak (n ∷ ns) (digest n.0 n.1 ∷ singly digest ns) (position m.1) ≡ Some (digest m.0 m.1)) ms
    others [] apart_from each = tt
    others (m ∷ ms) apart_from each =
        (at_later n ns (digest n.0 n.1) (singly digest ns) (position m.1) apart_from.0 ∙ each.0, others ms apart_from.1 each.1)

module _ (node_of : ℕ → List ℕ → List ℕ → List ℕ) (none : List ℕ) (digest : Digests) (rule : Rule) (pairs : IsPairing rule)
    (count start stop : ℕ) (few : start ≤ count) (made : AreMadeBefore node_of rule count start digest) where
  abbrev trees : List Tree
  trees = forest_of rule count

  abbrev before : List Tree
  before = forest_of rule start

  abbrev pins : List (List ℕ)
  pins = singly digest (peaks_of rule start)

  abbrev known : Lookup
  known = at_peak (peaks_of rule start) pins

  abbrev D : Digests
  D = pinned_digest node_of none known

  found : (first : ℕ) (peak : Tree) → IsPeakAt first peak before → known (position peak) ≡ Some (digest first peak)
  found first peak stands =
      at_one (λ n. known (position n.1) ≡ Some (digest n.0 n.1)) first peak before
      (each_found digest (peaks_of rule start) (distinct rule pairs start 0 (peaks_of rule start) (ascend_located before)
      (located_all (IsNode before) before (λ f node there. peak-node f node before there)))) stands

  -- a node to pin is a node of the tree, and ends before the range
  stays : (first : ℕ) (peak : Tree) → IsPeakAt first peak before → IsNodeAt first peak trees × (first + leaf_count peak ≤ start)
  stays first peak stands =
      let node = peak-node first peak before stands in
      (node-stays rule pairs start count first peak few node, omega (arith, node-fits first peak before node, leaves-forest_of rule pairs start))

  -- no node to pin holds more than this node, and this one's leaves
  abbrev IsAbove : ℕ → Tree → Type 0
  IsAbove at t = (f : ℕ) (q : Tree) → IsPeakAt f q before → f ≤ at → at + leaf_count t ≤ f + leaf_count q → leaf_count q ≤ leaf_count t

  abbrev IsPin : ℕ → Tree → Type 0
  IsPin at t = IsPeakAt at t before

  -- a node to pin in which such a node stands is that node
  is_pin : (at : ℕ) (t : Tree) → IsAbove at t → (f : ℕ) (q : Tree) → IsPin f q → IsWithin at t f q → IsPin at t
  is_pin at t above f q stands within =
      let fits = within-fits at f t q within in
      let same = whole_within at f t q within (above f q stands fits.0 fits.1) in
      subst (λ k. IsPin k t) (sym same.0) (subst (IsPin f) (sym same.1) stands)

  named : (f at : ℕ) (q t : Tree) → f ≡ at → q ≡ t → IsPin f q → IsPin at t
  named f at q t begins is stands = subst (λ k. IsPin k t) begins (subst (IsPin f) is stands)

  -- where a branch that is no node to pin stands so its children do
  left_above : (at p : ℕ) (left right : Tree) → IsNodeAt at (branch p left right) trees → IsAbove at (branch p left right)
      → (IsPin at (branch p left right) → ⊥) → IsAbove at left
  left_above at p left right stands above not_pin f q pin low high =
      let t : Tree = branch p left right in
      ⊎_elim
      (λ (within : IsWithin f q at (branch p left right)). in_branch within)
      (λ rest. ⊎_elim (λ (over : IsWithin at t f q). absurd (not_pin (is_pin at t above f q pin over)))
      (λ sides. ⊎_elim (λ (one : f + leaf_count q ≤ at). absurd (omega (arith, one, high, leaf_count-pos left)))
      (λ (other : at + leaf_count t ≤ f). absurd (omega (arith, other, low, leaf_count-pos left))) sides) rest)
      (nested_nodes f at q t trees (stays f q pin).0 stands)
    where
      in_branch : IsWithin f q at (branch p left right) → leaf_count q ≤ leaf_count left
      in_branch (inl is) = absurd (not_pin (named f at q (branch p left right) is.0 is.1 pin))
      in_branch (inr (inl within)) = omega (arith, within-fits f at q left within)
      in_branch (inr (inr within)) = absurd (omega (arith, within-fits f (at + leaf_count left) q right within, low, leaf_count-pos left))

  right_above : (at p : ℕ) (left right : Tree) → IsNodeAt at (branch p left right) trees → IsAbove at (branch p left right)
      → (IsPin at (branch p left right) → ⊥) → IsAbove (at + leaf_count left) right
  right_above at p left right stands above not_pin f q pin low high =
      let t : Tree = branch p left right in
      ⊎_elim
      (λ (within : IsWithin f q at (branch p left right)). in_branch within)
      (λ rest. ⊎_elim (λ (over : IsWithin at t f q). absurd (not_pin (is_pin at t above f q pin over)))
      (λ sides. ⊎_elim (λ (one : f + leaf_count q ≤ at). absurd (omega (arith, one, high, leaf_count-pos right)))
      (λ (other : at + leaf_count t ≤ f). absurd (omega (arith, other, low, leaf_count-pos right))) sides) rest)
      (nested_nodes f at q t trees (stays f q pin).0 stands)
    where
      in_branch : IsWithin f q at (branch p left right) → leaf_count q ≤ leaf_count right
      in_branch (inl is) = absurd (not_pin (named f at q (branch p left right) is.0 is.1 pin))
      in_branch (inr (inl within)) = absurd (omega (arith, within-fits f at q left within, high, leaf_count-pos right))
      in_branch (inr (inr within)) = omega (arith, within-fits f (at + leaf_count left) q right within)

  -- a leaf that stands so is a node to pin
  leaf_pin : (at p : ℕ) → IsNodeAt at (leaf p) trees → at < start → IsAbove at (leaf p) → IsPin at (leaf p)
  leaf_pin at p stands early above =
      let it = over_leaf at before (omega (arith, early, leaves-forest_of rule pairs start)) in
      ⊎_elim
      (λ (within : IsWithin it.first it.peak at (leaf p)). named it.first at it.peak (leaf p) within.0 within.1 it.stands)
      (λ rest. ⊎_elim (λ (over : IsWithin at (leaf p) it.first it.peak). is_pin at (leaf p) above it.first it.peak it.stands over)
      (λ sides. ⊎_elim (λ (one : it.first + leaf_count it.peak ≤ at). absurd (omega (arith, one, it.high)))
      (λ (other : at + 1 ≤ it.first). absurd (omega (arith, other, it.low))) sides) rest)
      (nested_nodes it.first at it.peak (leaf p) trees (stays it.first it.peak it.stands).0 stands)

  -- what is made of the pinned digests is the digest of such a node
  pin_same : (at : ℕ) (t : Tree) → IsPin at t → D at t ≡ digest at t
  pin_same at t pin = pinned_here node_of none known at (position t) t (digest at t) refl (found at t pin)

  made_same : (at : ℕ) (t : Tree) → IsNodeAt at t trees → at + leaf_count t ≤ start → IsAbove at t → D at t ≡ digest at t
  made_same at (leaf p) stands ends above = pin_same at (leaf p) (leaf_pin at p stands (omega (arith, ends)) above)
  made_same at (branch p left right) stands ends above =
      ⊎_elim
      (λ (not_known : known p ≡ None).
      let not_pin : IsPin at (branch p left right) → ⊥ =
      λ pin. (let clash : None ≡ Some (digest at (branch p left right)) = sym not_known ∙ found at (branch p left right) pin in cc) in
      made_of_two node_of none known at p p left right refl not_known
      ∙ ap₂ (node_of p)
      (made_same at left (node-left at p left right trees stands) (omega (arith, ends)) (left_above at p left right stands above not_pin))
      (made_same (at + leaf_count left) right (node-right at p left right trees stands) (omega (arith, ends))
      (right_above at p left right stands above not_pin))
      ∙ sym (made at p left right stands ends))
      (λ some. pin_same at (branch p left right) (pinned_peak rule pairs start count pins at (branch p left right) some.0 stands some.1))
      (either_digest (known p))

  -- the nodes that the proof gives stand so
  abbrev pub IsGood : Located → Type 0
  IsGood n = IsNodeAt n.0 n.1 trees × IsAbove n.0 n.1

  good_siblings : (at : ℕ) (t : Tree) → IsGood (at, t) → AllByRecursion IsGood (sibling_nodes start stop at t)
  good_siblings at (leaf p) good =
      ⊎_elim (λ met. subst (AllByRecursion IsGood) (sym (siblings_leaf start stop at p met)) tt)
      (λ out. subst (AllByRecursion IsGood) (sym (siblings_out start stop at (leaf p) out)) (good, tt))
      (cases_Bool (meets start stop (at, leaf p)))
  good_siblings at (branch p left right) good =
      let t : Tree = branch p left right in
      let middle = at + leaf_count left in
      ⊎_elim
      (λ (met : meets start stop (at, branch p left right) ≡ true).
      let late : is_before start (at, t) ≡ false =
      (or_parts (is_before start (at, t)) (is_after stop (at, t)) (not-true (is_before start (at, t) || is_after stop (at, t)) met)).0 in
      let past : start < at + leaf_count t = leb-false (at + leaf_count t) start late in
      let not_pin : IsPin at t → ⊥ = λ pin. omega (arith, (stays at t pin).1, past) in
      subst (AllByRecursion IsGood) (sym (siblings_branch start stop at p left right met))
      (all_append IsGood (sibling_nodes start stop at left) (sibling_nodes start stop middle right)
      (good_siblings at left (node-left at p left right trees good.0, left_above at p left right good.0 good.1 not_pin))
      (good_siblings middle right (node-right at p left right trees good.0, right_above at p left right good.0 good.1 not_pin))))
      (λ out. subst (AllByRecursion IsGood) (sym (siblings_out start stop at (branch p left right) out)) (good, tt))
      (cases_Bool (meets start stop (at, branch p left right)))

  peak_above : (at : ℕ) (t : Tree) → IsPeakAt at t trees → IsAbove at t
  peak_above at t stands f q pin low high =
      let over = peak_over f q trees (stays f q pin).0 in
      let fits = within-fits f over.0 q over.1 over.3 in
      ⊎_elim (λ (same : leaf_count t ≡ leaf_count over.1). omega (arith, same, fits.0, fits.1))
      (λ sides. ⊎_elim (λ (one : at + leaf_count t ≤ over.0). absurd (omega (arith, one, fits.0, low, leaf_count-pos t)))
      (λ (other : over.0 + leaf_count over.1 ≤ at). absurd (omega (arith, other, fits.1, high, leaf_count-pos t))) sides)
      (apart trees at over.0 t over.1 stands over.2)

  good_peaks : AllByRecursion IsGood (peaks_of rule count)
  good_peaks = located_all IsGood trees (λ first node stands. (peak-node first node trees stands, peak_above first node stands))

  good_inner : AllByRecursion IsGood (inner_nodes start stop (peaks_of rule count))
  good_inner =
      let met = filter (meets start stop) (peaks_of rule count) in
      all_flat IsGood (λ peak. sibling_nodes start stop peak.0 peak.1) (λ x good. good_siblings x.0 x.1 good) met
      (all_filter IsGood (meets start stop) (peaks_of rule count) good_peaks)

  same_before : (ns : List Located) → AllByRecursion IsGood ns → AllByRecursion (AreSame D digest) (filter (is_before start) ns)
  same_before [] all = tt
  same_before (n ∷ ns) all =
      let rest = same_before ns all.1 in
      ⊎_elim
      (λ (early : is_before start n ≡ true). subst (AllByRecursion (AreSame D digest)) (sym (passed (is_before start) n ns early))
      (made_same n.0 n.1 all.0.0 (leb-true (n.0 + leaf_count n.1) start early) all.0.1, rest))
      (λ (late : is_before start n ≡ false). subst (AllByRecursion (AreSame D digest)) (sym (failed (is_before start) n ns late)) rest)
      (cases_Bool (is_before start n))

  given_same : (ns : List Located) → AllByRecursion IsGood ns → singly D (filter (is_before start) ns) ≡ singly digest (filter (is_before start) ns)
  given_same ns all = same_all D digest (filter (is_before start) ns) (same_before ns all)

  pub honest_pinned : (hash : Hash) (bagging : Bagging) (inactive : ℕ) → start < stop
      → let peaks = peaks_of rule count in
      ArePinned hash node_of none rule count (from_left bagging inactive (length peaks)) start stop (range_outer bagging start stop inactive peaks)
      (range_digests hash digest bagging start stop (take inactive peaks) (drop inactive peaks)) (peak_digests digest (forest_of rule start))
  honest_pinned hash bagging inactive some =
      let peaks = peaks_of rule count in
      let k = from_left bagging inactive (length peaks) in
      let up : Ascend 0 peaks = ascend_located trees in
      let fronts = take k peaks in
      let others = drop k peaks in
      let one = given_same fronts (recursion_from_All IsGood fronts (All-take IsGood k peaks (All-from_recursion IsGood peaks good_peaks))) in
      let two = given_same others (recursion_from_All IsGood others (All-drop IsGood k peaks (All-from_recursion IsGood peaks good_peaks))) in
      let nodes = inner_nodes start stop peaks in
      let three = given_same nodes good_inner in
      let front = as_one (folded_forward hash) (singly digest (filter (is_before start) fronts)) in
      let singles = singly digest (filter (is_before start) others) in
      let after = singly digest (filter (is_after stop) fronts) in
      let back = as_one (folded_backward hash) (singly digest (filter (is_after stop) others)) in
      let inner = inner_digests digest start stop peaks in
      let digests = range_digests hash digest bagging start stop (take inactive peaks) (drop inactive peaks) in
      let outer = spelled hash digest start stop some bagging inactive peaks in
      let firsts = filter (is_before start) nodes in
      let later = drop (passing (is_before start) nodes) nodes in
      record {
        counted = length-map (peaks_of rule start) (λ (p : Located). digest p.0 p.1);
        peaks = (
          after ++ (back ++ inner),
          honest_is hash digest bagging inactive start stop some peaks up
              ∙ sym (append_assoc front singles (after ++ (back ++ inner)))
              ∙ ap (λ ds. ds ++ (after ++ (back ++ inner)))
              (ap₂ (λ xs ys. as_one (folded_forward hash) xs ++ ys) (sym one) (sym two)),
        );
        nodes = (
          singly digest later,
          ap (λ n. drop n digests) (sym (outer_length hash digest start stop some bagging inactive peaks))
              ∙ ap (drop (length outer)) (proof_parts hash digest start stop some bagging inactive peaks)
              ∙ drop_at outer inner (length outer) refl
              ∙ inner_of digest start stop peaks
              ∙ ap (singly digest) (before_first start 0 nodes (inner_up start stop 0 peaks up))
              ∙ map-append (λ (p : Located). digest p.0 p.1) firsts later
              ∙ ap (λ ds. ds ++ singly digest later) (sym three),
        );
      }
