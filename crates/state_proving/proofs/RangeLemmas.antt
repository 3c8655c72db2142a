-- A proof over a range from the pruned chunks on is made of nodes above their peaks.
use Rattle.std.proofs.Common.{◌≡◌, inl, inr, ℕ, ◌+◌, ◌*◌, ◌^◌, ◌<◌}
use Rattle.std.proofs.Common.{◌≤◌, List, [], ◌∷◌, ◌++◌, filter, None, sym, ◌∙◌, ap, arith}
use Rattle.std.proofs.lemmas.Bool.{cases_lt}
use Rattle.std.proofs.lemmas.Nat.{pow-add, pow_pos, mul-le}
use Rattle.std.proofs.Math.Nat.{add-mul, mul_assoc}
use Rattle.std.specs.List.{AllByRecursion}
use Rattle.std.specs.Prelude.{IsSome}
use Rattle.merkle_forest.specs.Forest.{Tree, leaf, branch, position, height, leaf_count, Rule, forest_of}
use Rattle.merkle_forest.specs.Laws.ForestGrowth.{forest_of-perfect, leaves-forest_of}
use Rattle.merkle_forest.specs.Laws.Nodes.{node-fits, node-leaves, node-perfect, peak-node}
use Rattle.merkle_forest.specs.Laws.Places.{node-left, node-right}
use Rattle.merkle_forest.specs.Nodes.{IsNodeAt, IsPeakAt}
use Rattle.merkle_forest.specs.Perfect.{IsPairing}
use Rattle.merkle_forest.specs.Trees.{Located, located}
use Rattle.merkle_theory.specs.MadeRoots.{peaks_of}
use Rattle.merkle_theory.specs.Plans.{Lookup, first_missing, sibling_nodes, inner_nodes, range_nodes, range_positions}
use Rattle.merkle_theory.specs.Ranges.{is_before, is_after, meets}
use Rattle.state_theory.specs.Laws.Known.{all_if, all_append, all_filter, all_flat, all_located, meets_after, none_missing}
use Rattle.state_theory.specs.Laws.GraftedNodes.{Aligned}
use Rattle.state_current.specs.Settled.{IsAbove}
use Rattle.state_current.proofs.PrunedLemmas.{low_block}

module _ (rule : Rule) (pairs : IsPairing rule) (aligned : Aligned rule) (n level chunks start stop : ℕ) (late : chunks * 2 ^ level ≤ start) where
  -- a node that stands above the peaks
  pub record Stands (node : Located) : Type 0 where
    pub stands : IsNodeAt node.0 node.1 (forest_of rule n)
    pub above : IsAbove rule level chunks node.0 (height node.1)

  module _ (at p : ℕ) (l r : Tree) (stands : IsNodeAt at (branch p l r) (forest_of rule n))
      (above : IsAbove rule level chunks at (height (branch p l r))) (met : start < at + leaf_count (branch p l r)) where
    -- a peak over the node's first operation is lower: else it would be as long as the node, which reaches past the pruned chunks
    lower : (first : ℕ) (peak : Tree) → IsPeakAt first peak (forest_of rule chunks) → first * 2 ^ level ≤ at
        → at < (first + leaf_count peak) * 2 ^ level → height peak + level < height (branch p l r)
    lower first peak there le lt =
        let node = peak-node first peak (forest_of rule chunks) there in
        let low = above first peak there le lt in
        elim (cases_lt (height peak + level) (height (branch p l r))) [
          | inl less ↦ less
          | inr more ↦ absurd (
              let same : height peak + level ≡ height (branch p l r) = omega (arith, low, more) in
              let long = (node-leaves rule pairs chunks first peak node).0 in
              let own = (node-leaves rule pairs n at (branch p l r) stands).0 in
              let power : leaf_count peak * 2 ^ level ≡ 2 ^ (height peak + level) =
              ap (λ k. k * 2 ^ level) long ∙ sym (pow-add 2 (height peak) level) in
              let spread : (first + leaf_count peak) * 2 ^ level ≡ first * 2 ^ level + leaf_count peak * 2 ^ level =
              add-mul first (leaf_count peak) (2 ^ level) in
              let one = aligned chunks first peak node in
              let other = aligned n at (branch p l r) stands in
              let raised : first * 2 ^ level ≡ one.0 * 2 ^ (height peak + level) =
              ap (λ k. k * 2 ^ level) one.1 ∙ mul_assoc one.0 (2 ^ height peak) (2 ^ level)
              ∙ ap (λ k. one.0 * k) (sym (pow-add 2 (height peak) level)) in
              let ge : at ≤ first * 2 ^ level =
              low_block at (first * 2 ^ level) other.0 one.0 (height (branch p l r)) (height peak + level) other.1 raised (omega (arith, same))
              (omega (arith, lt, spread, power)) in
              let fits = node-fits first peak (forest_of rule chunks) node in
              let end : (first + leaf_count peak) * 2 ^ level ≤ chunks * 2 ^ level =
              mul-le (first + leaf_count peak) (2 ^ level) chunks (2 ^ level) (omega (arith, fits, leaves-forest_of rule pairs chunks)) (omega arith) in
              omega (arith, ge, le, end, late, met, spread, power, own, ap (λ h. 2 ^ h) same))
        ]

    left_above : IsAbove rule level chunks at (height l)
    left_above first peak there le lt = omega (arith, lower first peak there le lt)

    right_above : IsAbove rule level chunks (at + leaf_count l) (height r)
    right_above first peak there le lt =
        let node = peak-node first peak (forest_of rule chunks) there in
        let perfect = node-perfect at (branch p l r) (forest_of rule n) (forest_of-perfect rule pairs n) stands in
        elim (cases_lt (height peak + level) (height (branch p l r))) [
          | inl less ↦ omega (arith, less, perfect.0)
          | inr more ↦ absurd (
              let one = aligned chunks first peak node in
              let other = aligned n at (branch p l r) stands in
              let own = (node-leaves rule pairs n at (branch p l r) stands).0 in
              let raised : first * 2 ^ level ≡ one.0 * 2 ^ (height peak + level) =
              ap (λ k. k * 2 ^ level) one.1 ∙ mul_assoc one.0 (2 ^ height peak) (2 ^ level)
              ∙ ap (λ k. one.0 * k) (sym (pow-add 2 (height peak) level)) in
              let some = (node-leaves rule pairs n (at + leaf_count l) r (node-right at p l r (forest_of rule n) stands)).0 in
              let le' : first * 2 ^ level ≤ at =
              low_block (first * 2 ^ level) at one.0 other.0 (height peak + level) (height (branch p l r)) raised other.1 more
              (omega (arith, le, own, some, positive (height r))) in
              let low = lower first peak there le' (omega (arith, lt)) in
              omega (arith, low, more))
        ]
      where
        positive : (h : ℕ) → 1 ≤ 2 ^ h
        positive h = omega (arith, pow_pos h)

  siblings : (at : ℕ) (t : Tree) → Stands (at, t) → AllByRecursion Stands (sibling_nodes start stop at t)
  siblings at (leaf p) it = all_if Stands (meets start stop (at, leaf p)) [] ((at, leaf p) ∷ []) (λ is. tt) (λ is. (it, tt))
  siblings at (branch p l r) it =
      let middle = at + leaf_count l in
      all_if Stands (meets start stop (at, branch p l r)) (sibling_nodes start stop at l ++ sibling_nodes start stop middle r)
      ((at, branch p l r) ∷ [])
      (λ is.
      let met = meets_after start stop at (branch p l r) is in
      all_append Stands (sibling_nodes start stop at l) (sibling_nodes start stop middle r)
      (siblings at l (record { stands = node-left at p l r (forest_of rule n) it.stands; above = left_above at p l r it.stands it.above met }))
      (siblings middle r (record { stands = node-right at p l r (forest_of rule n) it.stands; above = right_above at p l r it.stands it.above met })))
      (λ is. (it, tt))

  module _ (peaks_are : (first : ℕ) (t : Tree) → IsPeakAt first t (forest_of rule n) → IsAbove rule level chunks first (height t)) where
    peaks_stand : AllByRecursion Stands (located (forest_of rule n))
    peaks_stand =
        all_located Stands (forest_of rule n) (λ first t stands. record {
          stands = peak-node first t (forest_of rule n) stands;
          above = peaks_are first t stands;
        })

    all_stand : AllByRecursion Stands (range_nodes start stop (peaks_of rule n))
    all_stand =
        let peaks = located (forest_of rule n) in
        all_append Stands (filter (is_before start) peaks) (filter (is_after stop) peaks ++ inner_nodes start stop peaks)
        (all_filter Stands (is_before start) peaks peaks_stand)
        (all_append Stands (filter (is_after stop) peaks) (inner_nodes start stop peaks) (all_filter Stands (is_after stop) peaks peaks_stand)
        (all_flat Stands Stands (λ peak. sibling_nodes start stop peak.0 peak.1) (λ x it. siblings x.0 x.1 it) (filter (meets start stop) peaks)
        (all_filter Stands (meets start stop) peaks peaks_stand)))

    all_there : (known : Lookup) → ((node : Located) → Stands node → IsSome (known (position node.1))) → (nodes : List Located)
        → AllByRecursion Stands nodes → AllByRecursion (λ (node : Located). IsSome (known (position node.1))) nodes
    all_there known each [] all = tt
    all_there known each (node ∷ nodes) all = (each node all.0, all_there known each nodes all.1)

    -- so none is missing where those are known
    pub none_is_missing : (known : Lookup)
        → ((first : ℕ) (t : Tree) → IsNodeAt first t (forest_of rule n) → IsAbove rule level chunks first (height t) → IsSome (known (position t)))
        → first_missing known (range_positions rule n start stop) ≡ None
    none_is_missing known each =
        none_missing known (range_nodes start stop (peaks_of rule n))
        (all_there known (λ node it. each node.0 node.1 it.stands it.above) (range_nodes start stop (peaks_of rule n)) all_stand)
