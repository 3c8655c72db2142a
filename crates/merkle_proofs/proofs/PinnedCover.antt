-- The nodes before a range that its proof is made of hold each node before it.
use Rattle.std.proofs.Common.{◌≡◌, ⊎_elim, inl, inr, ℕ, ◌+◌, ◌<◌, ◌≤◌, Bool, cond, true, false, not, ◌||◌, List, []}
use Rattle.std.proofs.Common.{◌∷◌, ◌++◌, filter, drop, refl, sym, ap, subst, arith, append_assoc}
use Rattle.std.specs.List.{AllByRecursion}
use Rattle.std.proofs.lemmas.Bool.{cases_Bool, le-leb, lt-leb, leb-false, both_ways}
use Rattle.merkle_forest.specs.Forest.{Tree, leaf, branch, leaf_count, leaves}
use Rattle.merkle_forest.specs.Laws.Nodes.{within-fits}
use Rattle.merkle_forest.specs.Laws.Peaks.{leaf_count-pos}
use Rattle.merkle_forest.specs.Nodes.{IsWithin, IsNodeAt}
use Rattle.merkle_forest.specs.Trees.{Located, end_of, located}
use Rattle.merkle_theory.specs.Plans.{sibling_nodes, inner_nodes}
use Rattle.merkle_theory.specs.RangeCounts.{passing}
use Rattle.merkle_theory.specs.Ranges.{is_before, is_after, meets}
use Rattle.merkle_theory.proofs.HonestRanges.{Ascend}
use Rattle.merkle_theory.proofs.Lookups.{all_front, all_back}
use Rattle.merkle_theory.proofs.PartFolds.{none_there, ascend_from}
use Rattle.merkle_proofs.proofs.PartNodes.{meets_from}
use Rattle.merkle_theory.proofs.PlanNodes.{siblings_out, siblings_leaf, siblings_branch, inner_met, inner_out}

-- what stands in one of these trees stands in one of which something holds
pub in_forest : (X : Type 0) (first : ℕ) (node : Tree) (trees : List Tree)
    → AllByRecursion (λ peak. IsWithin first node peak.0 peak.1 → X) (located trees) → IsNodeAt first node trees → X
in_forest X first node [] all stands = absurd stands
in_forest X first node (t ∷ ts) all stands =
    let each : Located → Type 0 = λ peak. IsWithin first node peak.0 peak.1 → X in
    ⊎_elim (λ within. (all_back each (located ts) ((leaves ts, t) ∷ []) all).0 within)
    (λ there. in_forest X first node ts (all_front each (located ts) ((leaves ts, t) ∷ []) all) there) stands

-- where something holds of what passes a test it holds of each where this passes
pub unfiltered : (A : Located → Type 0) (test : Located → Bool) (xs : List Located) → AllByRecursion A (filter test xs)
    → AllByRecursion (λ n. test n ≡ true → A n) xs
unfiltered A test [] all = tt
unfiltered A test (x ∷ xs) all =
    ⊎_elim
    (λ (is : test x ≡ true). let both = subst (λ b. AllByRecursion A (cond b (x ∷ filter test xs) (filter test xs))) is all in
    ((λ passes. both.0), unfiltered A test xs both.1))
    (λ (no : test x ≡ false). (
      (λ passes. absurd (both_ways (test x) no passes)),
      unfiltered A test xs (subst (λ b. AllByRecursion A (cond b (x ∷ filter test xs) (filter test xs))) no all),
    ))
    (cases_Bool (test x))

module _ (first : ℕ) (node : Tree) (start stop : ℕ) (some : start < stop) (ends : first + leaf_count node ≤ start) (A : Located → Type 0) where
  abbrev pub Covers : Type 0
  Covers = (n : Located) × A n × IsWithin first node n.0 n.1

  abbrev pub IfBefore : Located → Type 0
  IfBefore n = is_before start n ≡ true → A n

  not_whole : (at : ℕ) (t : Tree) → first ≡ at → node ≡ t → meets start stop (at, t) ≡ true → ⊥
  not_whole at t begins is met =
      let counts : leaf_count node ≡ leaf_count t = ap leaf_count is in
      let front : is_before start (at, t) ≡ true = le-leb (at + leaf_count t) start (omega (arith, ends, begins, counts)) in
      let out : meets start stop (at, t) ≡ false = ap (λ b. not (b || is_after stop (at, t))) front in
      both_ways (meets start stop (at, t)) out met

  before_from : (at : ℕ) (t : Tree) → IsWithin first node at t → meets start stop (at, t) ≡ false → is_before start (at, t) ≡ true
  before_from at t within out =
      let fits = within-fits first at node t within in
      let not_back : is_after stop (at, t) ≡ false = lt-leb stop at (omega (arith, fits.0, ends, some, leaf_count-pos node)) in
      ⊎_elim (λ (front : is_before start (at, t) ≡ true). front)
      (λ (no : is_before start (at, t) ≡ false). absurd (both_ways (meets start stop (at, t)) out (meets_from start stop (at, t) no not_back)))
      (cases_Bool (is_before start (at, t)))

  alone : (at : ℕ) (t : Tree) → IsWithin first node at t → meets start stop (at, t) ≡ false → AllByRecursion IfBefore (sibling_nodes start stop at t)
      → Covers
  alone at t within out all =
      let one : AllByRecursion IfBefore ((at, t) ∷ []) = subst (AllByRecursion IfBefore) (siblings_out start stop at t out) all in
      ((at, t), one.0 (before_from at t within out), within)

  in_siblings : (at : ℕ) (t : Tree) → AllByRecursion IfBefore (sibling_nodes start stop at t) → IsWithin first node at t
      → meets start stop (at, t) ≡ true → Covers
  in_siblings at (leaf p) all within met = absurd (not_whole at (leaf p) within.0 within.1 met)
  in_siblings at (branch p left right) all (inl within) met = absurd (not_whole at (branch p left right) within.0 within.1 met)
  in_siblings at (branch p left right) all (inr (inl within)) met =
      let lefts = sibling_nodes start stop at left in
      let rights = sibling_nodes start stop (at + leaf_count left) right in
      let both : AllByRecursion IfBefore (lefts ++ rights) = subst (AllByRecursion IfBefore) (siblings_branch start stop at p left right met) all in
      let own = all_front IfBefore lefts rights both in
      ⊎_elim (λ in_range. in_siblings at left own within in_range) (λ out. alone at left within out own) (cases_Bool (meets start stop (at, left)))
  in_siblings at (branch p left right) all (inr (inr within)) met =
      let middle = at + leaf_count left in
      let lefts = sibling_nodes start stop at left in
      let rights = sibling_nodes start stop middle right in
      let both : AllByRecursion IfBefore (lefts ++ rights) = subst (AllByRecursion IfBefore) (siblings_branch start stop at p left right met) all in
      let own = all_back IfBefore lefts rights both in
      ⊎_elim (λ in_range. in_siblings middle right own within in_range) (λ out. alone middle right within out own)
      (cases_Bool (meets start stop (middle, right)))

  in_peaks : (peaks : List Located) → AllByRecursion IfBefore peaks → AllByRecursion IfBefore (inner_nodes start stop peaks)
      → AllByRecursion (λ peak. IsWithin first node peak.0 peak.1 → Covers) peaks
  in_peaks [] all inner = tt
  in_peaks (peak ∷ peaks) all inner =
      let own = sibling_nodes start stop peak.0 peak.1 in
      let others = inner_nodes start stop peaks in
      ⊎_elim
      (λ (met : meets start stop peak ≡ true).
      let both : AllByRecursion IfBefore (own ++ others) = subst (AllByRecursion IfBefore) (inner_met start stop peak peaks met) inner in (
        (λ within. in_siblings peak.0 peak.1 (all_front IfBefore own others both) within met),
        in_peaks peaks all.1 (all_back IfBefore own others both),
      ))
      (λ (out : meets start stop peak ≡ false). (
        (λ within. (peak, all.0 (before_from peak.0 peak.1 within out), within)),
        in_peaks peaks all.1 (subst (AllByRecursion IfBefore) (inner_out start stop peak peaks out) inner),
      ))
      (cases_Bool (meets start stop peak))

  pub covered : (trees : List Tree) → AllByRecursion IfBefore (located trees) → AllByRecursion IfBefore (inner_nodes start stop (located trees))
      → IsNodeAt first node trees → Covers
  covered trees all inner stands = in_forest Covers first node trees (in_peaks (located trees) all inner) stands

-- of nodes that ascend those before a location come first
pub before_first : (start at : ℕ) (ns : List Located) → Ascend at ns → ns ≡ filter (is_before start) ns ++ drop (passing (is_before start) ns) ns
before_first start at [] up = refl
before_first start at (n ∷ ns) up =
    ⊎_elim
    (λ (front : is_before start n ≡ true). rw front (ap (λ ms. n ∷ ms) (before_first start (end_of n) ns up.1)))
    (λ (no : is_before start n ≡ false). let past : start < end_of n = leb-false (end_of n) start no in
    let none = none_there start (end_of n) ns (omega (arith, past)) up.1 in
    rw (no, none) refl)
    (cases_Bool (is_before start n))

module _ (start stop : ℕ) where
  pub siblings_up : (at : ℕ) (t : Tree) (rest : List Located) → Ascend (at + leaf_count t) rest → Ascend at (sibling_nodes start stop at t ++ rest)
  siblings_up at (leaf p) rest up =
      ⊎_elim (λ met. subst (λ ns. Ascend at (ns ++ rest)) (sym (siblings_leaf start stop at p met)) (ascend_from at (at + 1) rest (omega arith) up))
      (λ out. subst (λ ns. Ascend at (ns ++ rest)) (sym (siblings_out start stop at (leaf p) out)) (omega arith, up))
      (cases_Bool (meets start stop (at, leaf p)))
  siblings_up at (branch p left right) rest up =
      let lefts = sibling_nodes start stop at left in
      let rights = sibling_nodes start stop (at + leaf_count left) right in
      let last : at + (leaf_count left + leaf_count right) ≡ (at + leaf_count left) + leaf_count right = omega arith in
      ⊎_elim
      (λ met. subst (λ ns. Ascend at (ns ++ rest)) (sym (siblings_branch start stop at p left right met))
      (subst (Ascend at) (sym (append_assoc lefts rights rest))
      (siblings_up at left (rights ++ rest) (siblings_up (at + leaf_count left) right rest (subst (λ k. Ascend k rest) last up)))))
      (λ out. subst (λ ns. Ascend at (ns ++ rest)) (sym (siblings_out start stop at (branch p left right) out)) (omega arith, up))
      (cases_Bool (meets start stop (at, branch p left right)))

  -- so do those that a proof is made of in the peaks that meet the range
  pub inner_up : (at : ℕ) (peaks : List Located) → Ascend at peaks → Ascend at (inner_nodes start stop peaks)
  inner_up at [] up = tt
  inner_up at (peak ∷ peaks) up =
      let rest = inner_up (end_of peak) peaks up.1 in
      ⊎_elim
      (λ (met : meets start stop peak ≡ true). subst (Ascend at) (sym (inner_met start stop peak peaks met))
      (ascend_from at peak.0 (sibling_nodes start stop peak.0 peak.1 ++ inner_nodes start stop peaks) up.0
      (siblings_up peak.0 peak.1 (inner_nodes start stop peaks) rest)))
      (λ (out : meets start stop peak ≡ false). subst (Ascend at) (sym (inner_out start stop peak peaks out))
      (ascend_from at (end_of peak) (inner_nodes start stop peaks) (omega (arith, up.0)) rest))
      (cases_Bool (meets start stop peak))
