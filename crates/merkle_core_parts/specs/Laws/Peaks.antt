-- The digests at the peaks, one after the other.
use Rattle.std.proofs.Common.{◌≡◌, ℕ, zero, suc, ◌+◌, ◌-◌, ◌<◌, ◌≤◌, inl, inr, true, eqb, List, [], ◌∷◌, length, map}
use Rattle.std.proofs.Common.{take, drop, refl, sym, ◌∙◌, ap, subst, arith, sub-one}
use Rattle.std.proofs.lemmas.Bool.{cases_lt, le-leb, cond-false, ne_eqb}
use Rattle.std.proofs.lemmas.List.{length-map, take_all}
use Rattle.std.specs.Prelude.{slice_index_or, Option, Some, unwrap_or}
use Rattle.merkle_forest.specs.declared.bagging.Bagging.TheVariants.{ForwardFold, BackwardFold}
use Rattle.merkle_forest.specs.Forest.{leaf_count, size, leaves, Rule, forest_of}
use Rattle.merkle_forest.specs.Hashing.{Hash, fold_string, folded_onto, folded_forward, folded_backward, items, bagged}
use Rattle.merkle_forest.specs.Perfect.{IsPairing}
use Rattle.merkle_forest.specs.Nodes.{HasPeak, IsPositionOfPeak}
use Rattle.merkle_forest.specs.Peaks.{is_cut, located_from, position_and_height}
use Rattle.merkle_forest.specs.Trees.{Located, located, end_of, inactive_peaks, Within}
use Rattle.merkle_forest.specs.Laws.ForestGrowth.{leaves-forest_of}
use Rattle.merkle_forest.specs.Laws.Nodes.{peak-node}
use Rattle.merkle_forest.specs.Laws.NodeGrowth.{numbered}
use Rattle.merkle_forest.specs.Laws.Peaks.{IsStep, cut-begins, located_from-end, located_from-peak, located_from-zero}
use Rattle.merkle_forest.specs.Laws.Trees.{located_within}
use Rattle.merkle_core_parts.specs.Mem.{digests_from}

-- at a cut before the last leaf a peak begins
pub begins : (rule : Rule) → IsPairing rule → (n first : ℕ) → is_cut first (forest_of rule n) ≡ true → first < n
    → HasPeak (forest_of rule n) first
begins rule pairs n first cut before =
    cut-begins first (forest_of rule n) cut (omega (arith, before, leaves-forest_of rule pairs n))

-- its position is that of a node
pub peak-below : (rule : Rule) → IsPairing rule → (n first p h : ℕ) → is_cut first (forest_of rule n) ≡ true → first < n
    → IsPositionOfPeak (forest_of rule n) first p h → p < size (forest_of rule n)
peak-below rule pairs n first p h cut before answer =
    let found = begins rule pairs n first cut before in
    omega (
      arith,
      (answer found.0 found.1).0,
      (numbered rule pairs n).below first found.0 (peak-node first found.0 (forest_of rule n) found.1),
    )

-- no peak begins after all leaves
pub digests-end : (rule : Rule) → IsPairing rule → (n first : ℕ) (digests : ℕ → Option (List ℕ)) → n ≤ first
    → digests_from rule n digests first ≡ []
digests-end rule pairs n first digests after =
    ap (λ peaks. map (λ peak. unwrap_or (digests peak.0) []) (map position_and_height peaks))
    (located_from-end (forest_of rule n) first (omega (arith, after, leaves-forest_of rule pairs n)))

-- at a peak there are its digest and those of the peaks after it
pub digests-step : (rule : Rule) (n first p h next : ℕ) (digests : ℕ → Option (List ℕ)) (own : List ℕ)
    → IsStep rule n first p h next → digests p ≡ Some own
    → digests_from rule n digests first ≡ own ∷ digests_from rule n digests next
digests-step rule n first p h next digests own it is =
    ap (map (λ peak. unwrap_or (digests peak.0) [])) it.positions
    ∙ ap (λ o. unwrap_or o [] ∷ digests_from rule n digests next) is

-- a peak that begins before the last leaf has its digest there
pub digests-some : (rule : Rule) → IsPairing rule → (n first : ℕ) (digests : ℕ → Option (List ℕ))
    → is_cut first (forest_of rule n) ≡ true → first < n → 0 < length (digests_from rule n digests first)
digests-some rule pairs n first digests cut before =
    let found = begins rule pairs n first cut before in
    let some : length (located_from first (forest_of rule n))
    ≡ suc (length (located_from (first + leaf_count found.0) (forest_of rule n))) =
    ap length (located_from-peak first found.0 (forest_of rule n) found.1) in
    rw (length-map, length-map) (omega (arith, some))

-- so where digests are left, leaves are
pub digests-left : (rule : Rule) → IsPairing rule → (n first : ℕ) (digests : ℕ → Option (List ℕ))
    → 0 < length (digests_from rule n digests first) → first < n
digests-left rule pairs n first digests some =
    elim (cases_lt first n) [
      | inl lt ↦ lt
      | inr le ↦ absurd (omega (arith, some, ap length (digests-end rule pairs n first digests le)))
    ]

-- there are as many as peaks
all_inactive : (count : ℕ) (peaks : List Located) → Within count peaks → inactive_peaks count peaks ≡ length peaks
all_inactive count [] within = refl
all_inactive count (peak ∷ peaks) within =
    rw (le-leb (end_of peak) count within.0) (ap (λ n. suc n) (all_inactive count peaks within.1))

pub length-digests : (rule : Rule) → IsPairing rule → (n : ℕ) (digests : ℕ → Option (List ℕ))
    → inactive_peaks n (located (forest_of rule n)) ≡ length (digests_from rule n digests 0)
length-digests rule pairs n digests =
    let all : leaves (forest_of rule n) ≡ n = leaves-forest_of rule pairs n in
    let within : Within n (located (forest_of rule n)) =
    subst (λ k. Within k (located (forest_of rule n))) all (located_within (forest_of rule n)) in
    rw (length-map, length-map, located_from-zero) (all_inactive n (located (forest_of rule n)) within)

-- one more digest folded onto the left
pub fold-step : (hash : Hash) (folded own : List ℕ) (digests rest : List (List ℕ)) (n : ℕ)
    → digests ≡ own ∷ rest → 0 < n
    → folded_onto hash folded (take n digests) ≡ folded_onto hash (hash (fold_string folded own)) (take (n - 1) rest)
fold-step hash folded own digests rest zero is some = absurd (omega arith)
fold-step hash folded own digests rest (suc n) is some = rw (is, sub-one) refl

-- one more digest folded onto the right
pub back-step : (hash : Hash) (own : List ℕ) (rest : List (List ℕ)) → 0 < length rest
    → folded_backward hash (own ∷ rest) ≡ hash (fold_string own (folded_backward hash rest))
back-step hash own [] some = absurd (omega arith)
back-step hash own (d ∷ rest) some = refl

-- a list folded in two parts
pub folded-parts : (hash : Hash) (n : ℕ) (first : List ℕ) (digests : List (List ℕ))
    → folded_onto hash (folded_onto hash first (take n digests)) (drop n digests) ≡ folded_onto hash first digests
folded-parts hash zero first digests = refl
folded-parts hash (suc n) first [] = refl
folded-parts hash (suc n) first (d ∷ digests) = folded-parts hash n (hash (fold_string first d)) digests

-- where some peaks are inactive, they are folded into the first item
items-some : (hash : Hash) (k : ℕ) (peaks : List (List ℕ))
    → items hash (suc k) peaks ≡ folded_forward hash (take (suc k) peaks) ∷ drop (suc k) peaks
items-some hash k peaks =
    cond-false (eqb (suc k) 0) peaks (folded_forward hash (take (suc k) peaks) ∷ drop (suc k) peaks)
    (ne_eqb (suc k) 0 (λ e. absurd (omega arith)))

-- what is bagged from the left is all peaks folded from the left
pub bagged-forward : (hash : Hash) (inactive : ℕ) (own : List ℕ) (rest : List (List ℕ))
    → bagged hash ForwardFold (items hash inactive (own ∷ rest)) ≡ folded_onto hash own rest
bagged-forward hash zero own rest = refl
bagged-forward hash (suc k) own rest =
    ap (bagged hash ForwardFold) (items-some hash k (own ∷ rest)) ∙ folded-parts hash k own rest

-- what is bagged from the right begins with the inactive peaks folded from the left
pub bagged-backward : (hash : Hash) (inactive : ℕ) (own : List ℕ) (rest : List (List ℕ))
    → bagged hash BackwardFold (items hash inactive (own ∷ rest))
    ≡ folded_backward hash (folded_onto hash own (take (inactive - 1) rest) ∷ drop (inactive - 1) rest)
bagged-backward hash zero own rest = refl
bagged-backward hash (suc k) own rest =
    ap (bagged hash BackwardFold) (items-some hash k (own ∷ rest)) ∙ rw sub-one refl

pub nothing : {A : Type 0} (xs : List A) → length xs < 1 → xs ≡ []
nothing [] few = refl
nothing (x ∷ xs) few = absurd (omega arith)

pub first-of : {A : Type 0} (own : A) (xs : List A) → 1 ≤ length xs → own ≡ slice_index_or xs 0 own
    → xs ≡ own ∷ take (length xs - 1) (drop 1 xs)
first-of own [] some is = absurd (omega arith)
first-of own (x ∷ xs) some is = ap (λ y. y ∷ xs) (sym is)
    ∙ ap (λ ys. own ∷ ys) (sym (take_all (length (x ∷ xs) - 1) xs (omega arith)))

pub tails : (a b : List ℕ) (xs ys : List (List ℕ)) → a ∷ xs ≡ b ∷ ys → xs ≡ ys
tails a b xs ys same = cc
