-- How many digests an honest proof of one element has.
use Rattle.std.proofs.Common.{◌≡◌, ℕ, suc, Bool, ◌+◌, ◌<◌, ◌≤◌, inl, inr, ⊎_elim, true, false, List, [], ◌∷◌, ◌++◌}
use Rattle.std.proofs.Common.{length, filter, take, drop, refl, sym, ◌∙◌, ap, arith}
use Rattle.std.proofs.lemmas.Bool.{cases_lt, cases_Bool, le-leb, lt-leb}
use Rattle.std.proofs.lemmas.List.{length-map, length-append, take-append-drop}
use Rattle.std.proofs.lemmas.List.Elements.{filter-append}
use Rattle.merkle_forest.specs.declared.bagging.Bagging.{Bagging}
use Rattle.merkle_forest.specs.declared.bagging.Bagging.TheVariants.{ForwardFold, BackwardFold}
use Rattle.merkle_forest.specs.Forest.{Tree, leaf, branch, height, leaf_count, leaves, Rule, forest_of}
use Rattle.merkle_forest.specs.Laws.ForestGrowth.{leaves-forest_of, forest_of-perfect}
use Rattle.merkle_forest.specs.Laws.Peaks.{leaf_count-pos}
use Rattle.merkle_forest.specs.Hashing.{Hash}
use Rattle.merkle_forest.specs.Nodes.{IsPeakAt}
use Rattle.merkle_forest.specs.Perfect.{IsPairing, IsPerfect, ArePerfect}
use Rattle.merkle_forest.specs.Trees.{Located, located, Within}
use Rattle.merkle_forest.specs.Laws.Trees.{length-located, located_within, within_more}
use Rattle.merkle_theory.specs.Plans.{sibling_nodes, inner_nodes}
use Rattle.merkle_theory.specs.RangeCounts.{passing, digests_for_before, digests_for_after}
use Rattle.merkle_theory.specs.Ranges.{Digests, is_before, is_after, meets, range_digests, inner_digests}
use Rattle.merkle_theory.proofs.HonestRoots.{spelled, outer_length, proof_parts}
use Rattle.merkle_theory.proofs.PlanFolds.{inner_of}
use Rattle.merkle_theory.proofs.PlanNodes.{siblings_out, siblings_leaf, siblings_branch, inner_met, inner_out, passed, failed}

module _ (location : ℕ) where
  -- where a tree stands
  before_yes : (at : ℕ) (t : Tree) → at + leaf_count t ≤ location → is_before location (at, t) ≡ true
  before_yes at t le = le-leb (at + leaf_count t) location le

  before_no : (at : ℕ) (t : Tree) → location < at + leaf_count t → is_before location (at, t) ≡ false
  before_no at t lt = lt-leb (at + leaf_count t) location lt

  after_yes : (at : ℕ) (t : Tree) → location < at → is_after (location + 1) (at, t) ≡ true
  after_yes at t lt = le-leb (location + 1) at (omega arith)

  after_no : (at : ℕ) (t : Tree) → at ≤ location → is_after (location + 1) (at, t) ≡ false
  after_no at t le = lt-leb (location + 1) at (omega arith)

  meets_yes : (at : ℕ) (t : Tree) → at ≤ location → location < at + leaf_count t → meets location (location + 1) (at, t) ≡ true
  meets_yes at t le lt = rw (before_no at t lt, after_no at t le) refl

  meets_before : (at : ℕ) (t : Tree) → at + leaf_count t ≤ location → meets location (location + 1) (at, t) ≡ false
  meets_before at t le = rw (before_yes at t le) refl

  meets_after : (at : ℕ) (t : Tree) → location < at → meets location (location + 1) (at, t) ≡ false
  meets_after at t lt =
      rw (before_no at t (omega (arith, lt)), after_yes at t lt) refl

  abbrev siblings : ℕ → Tree → List Located
  siblings at t = sibling_nodes location (location + 1) at t

  -- a perfect tree has as many siblings beside the way to a leaf as it is high
  length-siblings : (at : ℕ) (t : Tree) → IsPerfect t → at ≤ location → location < at + leaf_count t → length (siblings at t) ≡ height t
  length-siblings at (leaf p) perfect low high = ap length (siblings_leaf location (location + 1) at p (meets_yes at (leaf p) low high))
  length-siblings at (branch p left right) perfect low high =
      let middle : ℕ = at + leaf_count left in
      let whole : length (siblings at (branch p left right)) ≡ length (siblings at left) + length (siblings middle right) =
      ap length (siblings_branch location (location + 1) at p left right (meets_yes at (branch p left right) low high))
      ∙ length-append (siblings at left) (siblings middle right) in
      elim (cases_lt location middle) [
        | inl below ↦ (
            let beside : length (siblings middle right) ≡ 1 =
            ap length (siblings_out location (location + 1) middle right (meets_after middle right below)) in
            omega (arith, whole, beside, length-siblings at left perfect.1 low below))
        | inr above ↦ (
            let beside : length (siblings at left) ≡ 1 =
            ap length (siblings_out location (location + 1) at left (meets_before at left above)) in
            omega (arith, whole, beside, perfect.0, length-siblings middle right perfect.2 above (omega (arith, high))))
      ]

  abbrev before : List Located → ℕ
  before peaks = passing (is_before location) peaks

  abbrev after : List Located → ℕ
  after peaks = passing (is_after (location + 1)) peaks

  abbrev inner : List Located → ℕ
  inner peaks = length (inner_nodes location (location + 1) peaks)

  -- one more peak
  passing_last : (test : Located → Bool) (peaks : List Located) (peak : Located)
      → passing test (peaks ++ peak ∷ []) ≡ passing test peaks + passing test (peak ∷ [])
  passing_last test peaks peak =
      ap length (filter-append test peaks (peak ∷ [])) ∙ length-append (filter test peaks) (filter test (peak ∷ []))

  inner_last : (peaks : List Located) (peak : Located) → inner (peaks ++ peak ∷ []) ≡ inner peaks + inner (peak ∷ [])
  inner_last [] peak = omega arith
  inner_last (p ∷ peaks) peak =
      ⊎_elim
      (λ met. omega (
        arith,
        ap length (inner_met location (location + 1) p (peaks ++ peak ∷ []) met),
        ap length (inner_met location (location + 1) p peaks met),
        length-append (siblings p.0 p.1) (inner_nodes location (location + 1) (peaks ++ peak ∷ [])),
        length-append (siblings p.0 p.1) (inner_nodes location (location + 1) peaks),
        inner_last peaks peak,
      ))
      (λ out. omega (
        arith,
        ap length (inner_out location (location + 1) p (peaks ++ peak ∷ []) out),
        ap length (inner_out location (location + 1) p peaks out),
        inner_last peaks peak,
      ))
      (cases_Bool (meets location (location + 1) p))

  -- peaks that all stand before the location
  all_before : (peaks : List Located) → Within location peaks → (before peaks ≡ length peaks) × (after peaks ≡ 0) × (inner peaks ≡ 0)
  all_before [] all = (refl, refl, refl)
  all_before (p ∷ peaks) all =
      let rest = all_before peaks all.1 in (
        ap length (passed (is_before location) p peaks (before_yes p.0 p.1 all.0)) ∙ ap suc rest.0,
        ap length (failed (is_after (location + 1)) p peaks (after_no p.0 p.1 (omega (arith, all.0, leaf_count-pos p.1)))) ∙ rest.1,
        ap length (inner_out location (location + 1) p peaks (meets_before p.0 p.1 all.0)) ∙ rest.2,
      )

  -- how many nodes a proof of the location is made of: the other peaks, and as many as the peak over it is high
  record IsCounted (trees : List Tree) : Type 0 where
    first : ℕ
    node : Tree
    peak : IsPeakAt first node trees
    count : before (located trees) + after (located trees) + inner (located trees) + 1 ≡ length trees + height node

  counted : (trees : List Tree) → ArePerfect trees → location < leaves trees → IsCounted trees
  counted [] perfect lt = absurd (omega arith)
  counted (t ∷ ts) perfect lt =
      let own : Located = (leaves ts, t) in
      let fronts = passing_last (is_before location) (located ts) own in
      let backs = passing_last (is_after (location + 1)) (located ts) own in
      let inside = inner_last (located ts) own in
      elim (cases_lt location (leaves ts)) [
        | inl below ↦ (let rest = counted ts perfect.1 below in record {
          first = rest.first;
          node = rest.node;
          peak = inr rest.peak;
          count = omega (
            arith,
            rest.count,
            fronts,
            backs,
            inside,
            ap length (failed (is_before location) own [] (before_no (leaves ts) t (omega (arith, below)))),
            ap length (passed (is_after (location + 1)) own [] (after_yes (leaves ts) t below)),
            ap length (inner_out location (location + 1) own [] (meets_after (leaves ts) t below)),
          );
        })
        | inr above ↦ (let rest = all_before (located ts) (within_more (leaves ts) location (located ts) above (located_within ts)) in record {
          first = leaves ts;
          node = t;
          peak = inl (refl, refl);
          count = omega (
            arith,
            rest.0,
            rest.1,
            rest.2,
            length-located ts,
            fronts,
            backs,
            inside,
            ap length (failed (is_before location) own [] (before_no (leaves ts) t (omega (arith, lt)))),
            ap length (failed (is_after (location + 1)) own [] (after_no (leaves ts) t above)),
            ap length (inner_met location (location + 1) own [] (meets_yes (leaves ts) t above (omega (arith, lt)))),
            length-append (siblings (leaves ts) t) [],
            length-siblings (leaves ts) t perfect.0 above (omega (arith, lt)),
          );
        })
      ]

-- the digests for the peaks beside a range are no more than these peaks
passing_parts : (test : Located → Bool) (inactive : ℕ) (peaks : List Located)
    → passing test (take inactive peaks) + passing test (drop inactive peaks) ≡ passing test peaks
passing_parts test inactive peaks =
    sym (length-append (filter test (take inactive peaks)) (filter test (drop inactive peaks)))
    ∙ ap length (sym (filter-append test (take inactive peaks) (drop inactive peaks)))
    ∙ ap (λ ps. passing test ps) (take-append-drop inactive peaks)

before_few : (bagging : Bagging) (inactive active : ℕ) → digests_for_before bagging inactive active ≤ inactive + active
before_few ForwardFold inactive active = omega arith
before_few BackwardFold inactive active = omega arith

after_few : (bagging : Bagging) (inactive active : ℕ) → digests_for_after bagging inactive active ≤ inactive + active
after_few ForwardFold inactive active = omega arith
after_few BackwardFold inactive active = omega arith

-- no more than there are other peaks and than the peak over the location is high
pub range_few : (hash : Hash) (bagging : Bagging) (rule : Rule) → IsPairing rule
    → (digest : Digests) (leaf_total inactive location : ℕ) → location < leaf_total
    → ((first : ℕ) (node : Tree) → IsPeakAt first node (forest_of rule leaf_total)
    → length (forest_of rule leaf_total) + height node ≤ 123)
    → length (range_digests hash digest bagging location (location + 1)
    (take inactive (located (forest_of rule leaf_total))) (drop inactive (located (forest_of rule leaf_total)))) ≤ 122
range_few hash bagging rule pairs digest leaf_total inactive location within few =
    let trees : List Tree = forest_of rule leaf_total in
    let peaks : List Located = located trees in
    let stop : ℕ = location + 1 in
    let some : location < stop = omega arith in
    let it = counted location trees (forest_of-perfect rule pairs leaf_total) (omega (arith, leaves-forest_of rule pairs leaf_total, within)) in
    let front : List Located → ℕ = passing (is_before location) in
    let back : List Located → ℕ = passing (is_after stop) in
    omega (
      arith,
      ap length (proof_parts hash digest location stop some bagging inactive peaks),
      length-append (spelled hash digest location stop some bagging inactive peaks) (inner_digests digest location stop peaks),
      outer_length hash digest location stop some bagging inactive peaks,
      ap length (inner_of digest location stop peaks),
      length-map (inner_nodes location stop peaks) (λ (p : Located). digest p.0 p.1),
      before_few bagging (front (take inactive peaks)) (front (drop inactive peaks)),
      after_few bagging (back (take inactive peaks)) (back (drop inactive peaks)),
      passing_parts (is_before location) inactive peaks,
      passing_parts (is_after stop) inactive peaks,
      it.count,
      few it.first it.node it.peak,
    )
