-- The walk from a peak to the next one, and what it adds to the count of the peaks before the floor.
use Rattle.std.proofs.Common.{◌≡◌, ℕ, zero, suc, ◌+◌, ◌*◌, ◌%◌, ◌^◌, ◌<◌}
use Rattle.std.proofs.Common.{◌≤◌, cond, List, ◌∷◌, refl, sym, ◌∙◌, ap, subst, arith}
use Rattle.std.proofs.lemmas.Bool.{le-leb, lt-leb, eq-eqb, ne_eqb}
use Rattle.std.proofs.lemmas.Nat.{one_shl, pow_pos}
use Rattle.merkle_forest.specs.Forest.{Tree, height, leaf_count, leaves, Rule, forest_of}
use Rattle.merkle_forest.specs.Laws.ForestGrowth.{leaves-forest_of, height_fits}
use Rattle.merkle_forest.specs.Laws.Nodes.{peak-node, node-leaves, next_peak}
use Rattle.merkle_forest.specs.Laws.Peaks.{located_from-peak}
use Rattle.merkle_forest.specs.Nodes.{HasPeak, IsPeakAt, IsPositionOfPeak}
use Rattle.merkle_forest.specs.Peaks.{located_from}
use Rattle.merkle_forest.specs.Perfect.{IsPairing}
use Rattle.merkle_forest.specs.Trees.{Located}
use Rattle.state_theory.specs.PeakEnds.{IsPeakEnd}
use Rattle.state_theory.specs.Grafting.{aligned_count_with, chunk_aligned_inactive_peaks}

pub record PeakStep (rule : Rule) (n first h : ℕ) : Type 0 where
  pub node : Tree
  pub stands : IsPeakAt first node (forest_of rule n)
  pub low : h < 64
  pub end : first + 1 * 2 ^ h % 2 ^ 64 ≡ first + leaf_count node
  pub later : first < first + 1 * 2 ^ h % 2 ^ 64
  pub within : first + 1 * 2 ^ h % 2 ^ 64 ≤ n
  pub begins : first + 1 * 2 ^ h % 2 ^ 64 < n → HasPeak (forest_of rule n) (first + 1 * 2 ^ h % 2 ^ 64)

pub peak_step : (rule : Rule) → IsPairing rule → (n first p h : ℕ) → n ≤ 2 ^ 62 → HasPeak (forest_of rule n) first
    → IsPositionOfPeak (forest_of rule n) first p h → PeakStep rule n first h
peak_step rule pairs n first p h few there at =
    let node : Tree = there.0 in
    let high : h ≡ height node = (at node there.1).1 in
    let whole = node-leaves rule pairs n first node (peak-node first node (forest_of rule n) there.1) in
    let power : 2 ^ h ≡ 2 ^ height node = ap (λ k. 2 ^ k) high in
    let fits : h ≤ 62 = height_fits 62 h (omega (arith, whole.1, few, power)) in
    let shift : 1 * 2 ^ h % 2 ^ 64 ≡ 2 ^ h = one_shl h 64 (omega (arith, fits)) in
    let end : first + 1 * 2 ^ h % 2 ^ 64 ≡ first + leaf_count node = omega (arith, shift, power, whole.0) in
    let all : leaves (forest_of rule n) ≡ n = leaves-forest_of rule pairs n in
    let Begins : ℕ → Type 0 = λ k. HasPeak (forest_of rule n) k in
    record {
      node = node;
      stands = there.1;
      low = omega (arith, fits);
      end = end;
      later = omega (arith, shift, pow_pos h);
      within = omega (arith, end, whole.0, whole.1);
      begins = λ more. subst Begins (sym end) (next_peak first node (forest_of rule n) there.1 (omega (arith, end, all, more)));
    }

-- the peaks from one on
pub located_step : (peaks : List Tree) (first end : ℕ) (it : IsPeakEnd peaks first end)
    → located_from first peaks ≡ (first, it.node) ∷ located_from end peaks
located_step peaks first end it =
    located_from-peak first it.node peaks it.stands ∙ ap (λ k. (first, it.node) ∷ located_from k peaks) (sym it.leaves)

-- the count, where the first peak ends past the floor, and where it ends before it
pub aligned_past : (bits floor first : ℕ) (node : Tree) (peaks more : List Located) → peaks ≡ (first, node) ∷ more
    → floor < first + leaf_count node → chunk_aligned_inactive_peaks bits floor peaks ≡ 0
aligned_past bits floor first node peaks more is lt =
    ap (chunk_aligned_inactive_peaks bits floor) is
    ∙ ap (λ b. cond b (aligned_count_with bits (chunk_aligned_inactive_peaks bits floor more) (first, node)) 0)
    (lt-leb (first + leaf_count node) floor lt)

pub aligned_before : (bits floor first : ℕ) (node : Tree) (peaks more : List Located) → peaks ≡ (first, node) ∷ more
    → first + leaf_count node ≤ floor
    → chunk_aligned_inactive_peaks bits floor peaks ≡ aligned_count_with bits (chunk_aligned_inactive_peaks bits floor more) (first, node)
aligned_before bits floor first node peaks more is le =
    ap (chunk_aligned_inactive_peaks bits floor) is
    ∙ ap (λ b. cond b (aligned_count_with bits (chunk_aligned_inactive_peaks bits floor more) (first, node)) 0)
    (le-leb (first + leaf_count node) floor le)

-- what the first peak adds
pub count_border : (bits first : ℕ) (node : Tree) (later : ℕ) → later ≡ 0 → (first + leaf_count node) % bits ≡ 0
    → aligned_count_with bits later (first, node) ≡ 1
count_border bits first node later none border =
    ap (λ k. aligned_count_with bits k (first, node)) none
    ∙ ap (λ b. cond b 1 0) (eq-eqb ((first + leaf_count node) % bits) 0 border)

pub count_none : (bits first : ℕ) (node : Tree) (later : ℕ) → later ≡ 0 → ((first + leaf_count node) % bits ≡ 0 → ⊥)
    → aligned_count_with bits later (first, node) ≡ 0
count_none bits first node later none border =
    ap (λ k. aligned_count_with bits k (first, node)) none
    ∙ ap (λ b. cond b 1 0) (ne_eqb ((first + leaf_count node) % bits) 0 border)

pub count_more : (bits first : ℕ) (node : Tree) (later : ℕ) → (later ≡ 0 → ⊥)
    → aligned_count_with bits later (first, node) ≡ later + 1
count_more bits first node zero some = absurd (some refl)
count_more bits first node (suc k) some = omega arith
