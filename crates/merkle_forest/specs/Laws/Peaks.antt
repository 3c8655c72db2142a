-- A walk over the peaks of a forest from left to right.
use Rattle.std.proofs.Common.{◌≡◌, ℕ, suc, ◌+◌, ◌*◌, ◌^◌, ◌%◌, ◌<◌, ◌≤◌, Bool, true, false, cond, leb, eqb, ◌||◌, inl}
use Rattle.std.proofs.Common.{inr, List, [], ◌∷◌, ◌++◌, map, refl, sym, ◌∙◌, ap, arith}
use Rattle.std.proofs.lemmas.Bool.{cases_lt, eqb-true, eq-eqb, le-leb, lt-leb}
use Rattle.std.proofs.lemmas.Nat.{one_shl}
use Rattle.merkle_forest.specs.Forest.{Tree, leaf, branch, height, leaf_count, leaves, Rule, forest_of}
use Rattle.merkle_forest.specs.Trees.{located, inactive_peaks}
use Rattle.merkle_forest.specs.Nodes.{IsPeakAt, HasPeak, IsPositionOfPeak}
use Rattle.merkle_forest.specs.Laws.Nodes.{peak-node, node-fits, node-leaves}
use Rattle.merkle_forest.specs.Perfect.{IsPairing}
use Rattle.merkle_forest.specs.Laws.ForestGrowth.{leaves-forest_of, height_fits}
use Rattle.merkle_forest.specs.Peaks.{position_and_height, located_from, positions_from, is_cut}

pub leaf_count-pos : (t : Tree) → 0 < leaf_count t
leaf_count-pos (leaf p) = omega arith
leaf_count-pos (branch p left right) = omega (arith, leaf_count-pos left)

-- from the first leaf on there are all peaks
pub located_from-zero : (peaks : List Tree) → located_from 0 peaks ≡ located peaks
located_from-zero [] = refl
located_from-zero (t ∷ ts) =
    let here : leb 0 (leaves ts) ≡ true = le-leb 0 (leaves ts) (omega arith) in
    ap (λ b. cond b (located_from 0 ts ++ (leaves ts, t) ∷ []) []) here
    ∙ ap (λ peaks. peaks ++ (leaves ts, t) ∷ []) (located_from-zero ts)

-- after the last leaf there are none
pub located_from-end : (peaks : List Tree) (first : ℕ) → leaves peaks ≤ first → located_from first peaks ≡ []
located_from-end [] first le = refl
located_from-end (t ∷ ts) first le = rw (lt-leb first (leaves ts) (omega (arith, leaf_count-pos t))) refl

-- at a peak there are that one and those after its leaves
pub located_from-peak : (first : ℕ) (node : Tree) (peaks : List Tree) → IsPeakAt first node peaks
    → located_from first peaks ≡ (first, node) ∷ located_from (first + leaf_count node) peaks
located_from-peak first node [] peak = absurd peak
located_from-peak first node (t ∷ ts) (inl peak) =
    let here : leb first (leaves ts) ≡ true = le-leb first (leaves ts) (omega (arith, peak.0)) in
    let none : located_from first ts ≡ [] = located_from-end ts first (omega (arith, peak.0)) in
    let after : leb (first + leaf_count node) (leaves ts) ≡ false =
    lt-leb (first + leaf_count node) (leaves ts) (omega (arith, peak.0, leaf_count-pos node)) in
    rw (here, none, after, peak.1, peak.0) refl
located_from-peak first node (t ∷ ts) (inr peak) =
    let fits = node-fits first node ts (peak-node first node ts peak) in
    let here : leb first (leaves ts) ≡ true = le-leb first (leaves ts) (omega (arith, fits)) in
    let after : leb (first + leaf_count node) (leaves ts) ≡ true = le-leb (first + leaf_count node) (leaves ts) fits in
    rw (here, after, located_from-peak first node ts peak) refl

or_right : (a b : Bool) → b ≡ true → (a || b) ≡ true
or_right true b is = refl
or_right false b is = is

or_left : (a b : Bool) → a ≡ true → (a || b) ≡ true
or_left a b is = rw is refl

-- the walk begins at a cut
pub cut-zero : (peaks : List Tree) → is_cut 0 peaks ≡ true
cut-zero [] = refl
cut-zero (t ∷ ts) = or_right (eqb 0 (leaves (t ∷ ts))) (is_cut 0 ts) (cut-zero ts)

cut-end : (peaks : List Tree) (first : ℕ) → first ≡ leaves peaks → is_cut first peaks ≡ true
cut-end [] first same = eq-eqb first 0 same
cut-end (t ∷ ts) first same =
    or_left (eqb first (leaves (t ∷ ts))) (is_cut first ts) (eq-eqb first (leaves (t ∷ ts)) same)

-- after a peak stands another cut
pub cut-peak : (first : ℕ) (node : Tree) (peaks : List Tree) → IsPeakAt first node peaks
    → is_cut (first + leaf_count node) peaks ≡ true
cut-peak first node [] peak = absurd peak
cut-peak first node (t ∷ ts) (inl peak) =
    cut-end (t ∷ ts) (first + leaf_count node) (let same : leaf_count node ≡ leaf_count t = ap leaf_count peak.1 in
    omega (arith, peak.0, same))
cut-peak first node (t ∷ ts) (inr peak) =
    or_right (eqb (first + leaf_count node) (leaves (t ∷ ts))) (is_cut (first + leaf_count node) ts)
    (cut-peak first node ts peak)

or_cases : {A : Type 0} (a b : Bool) → (a || b) ≡ true → (a ≡ true → A) → (b ≡ true → A) → A
or_cases true b either left right = left refl
or_cases false b either left right = right either

-- no cut stands after all leaves
pub cut-fits : (first : ℕ) (peaks : List Tree) → is_cut first peaks ≡ true → first ≤ leaves peaks
cut-fits first [] cut = omega (arith, eqb-true first 0 cut)
cut-fits first (t ∷ ts) cut =
    or_cases (eqb first (leaves (t ∷ ts))) (is_cut first ts) cut
    (λ same. omega (arith, eqb-true first (leaves (t ∷ ts)) same)) (λ rest. omega (arith, cut-fits first ts rest))

-- at a cut before the last leaf a peak begins
pub cut-begins : (first : ℕ) (peaks : List Tree) → is_cut first peaks ≡ true → first < leaves peaks
    → HasPeak peaks first
cut-begins first [] cut lt = absurd (omega arith)
cut-begins first (t ∷ ts) cut lt =
    or_cases (eqb first (leaves (t ∷ ts))) (is_cut first ts) cut
    (λ same. absurd (omega (arith, eqb-true first (leaves (t ∷ ts)) same)))
    (λ rest. elim (cases_lt first (leaves ts)) [
      | inl before ↦ (let found = cut-begins first ts rest before in (found.0, inr found.1))
      | inr end ↦ (t, inl (omega (arith, end, cut-fits first ts rest), refl))
    ])

-- one step of the walk: from a cut over the peak that the answer positions to the next cut
pub record IsStep (rule : Rule) (n first p h next : ℕ) : Type 0 where
  pub low : h < 64
  pub fits : next ≤ n
  pub further : first < next
  pub cut : is_cut next (forest_of rule n) ≡ true
  pub positions : positions_from first (forest_of rule n) ≡ (p, h) ∷ positions_from next (forest_of rule n)
  pub inactive : (floor : ℕ) → inactive_peaks floor (located_from first (forest_of rule n))
      ≡ cond (leb next floor) (suc (inactive_peaks floor (located_from next (forest_of rule n)))) 0

pub step : (rule : Rule) → IsPairing rule → (n first p h : ℕ) → n ≤ 2 ^ 62 → is_cut first (forest_of rule n) ≡ true
    → first < n → IsPositionOfPeak (forest_of rule n) first p h
    → IsStep rule n first p h (first + 1 * 2 ^ h % 2 ^ 64)
step rule pairs n first p h few cut before answer =
    let all : leaves (forest_of rule n) ≡ n = leaves-forest_of rule pairs n in
    let found = cut-begins first (forest_of rule n) cut (omega arith) in
    let answered = answer found.0 found.1 in
    let counts = node-leaves rule pairs n first found.0 (peak-node first found.0 (forest_of rule n) found.1) in
    let power : 2 ^ h ≡ 2 ^ height found.0 = ap (λ k. 2 ^ k) answered.1 in
    let bound : h ≤ 62 = height_fits 62 h (omega (arith, counts.1, power)) in
    let next : first + 1 * 2 ^ h % 2 ^ 64 ≡ first + leaf_count found.0 =
    omega (arith, counts.0, power, one_shl h 64 (omega arith)) in
    let rest : located_from first (forest_of rule n)
    ≡ (first, found.0) ∷ located_from (first + 1 * 2 ^ h % 2 ^ 64) (forest_of rule n) =
    located_from-peak first found.0 (forest_of rule n) found.1
    ∙ ap (λ k. (first, found.0) ∷ located_from k (forest_of rule n)) (sym next) in
    record {
      low = omega arith;
      fits = omega (arith, next, counts);
      further = omega (arith, next, leaf_count-pos found.0);
      cut = ap (λ k. is_cut k (forest_of rule n)) next ∙ cut-peak first found.0 (forest_of rule n) found.1;
      positions = ap (map position_and_height) rest
          ∙ ap (λ k. (k, height found.0) ∷ positions_from (first + 1 * 2 ^ h % 2 ^ 64) (forest_of rule n))
          (sym answered.0)
          ∙ ap (λ k. (p, k) ∷ positions_from (first + 1 * 2 ^ h % 2 ^ 64) (forest_of rule n)) (sym answered.1);
      inactive = λ floor. ap (inactive_peaks floor) rest
          ∙ ap (λ k. cond (leb k floor)
          (suc (inactive_peaks floor (located_from (first + 1 * 2 ^ h % 2 ^ 64) (forest_of rule n)))) 0) (sym next);
    }
