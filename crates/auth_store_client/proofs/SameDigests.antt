-- The digests of a range are the same of digests that are the same at each node of the forest.
use Rattle.std.proofs.Common.{◌≡◌, ℕ, zero, suc, ◌+◌, Bool, true, false, cond, inl, inr, List}
use Rattle.std.proofs.Common.{[], ◌∷◌, ◌++◌, filter, take, drop, refl, sym, ◌∙◌, ap, ap₂}
use Rattle.std.specs.List.{AllByRecursion, flat_map}
use Rattle.std.proofs.lemmas.List.Concat.{flat_map-cons}
use Rattle.merkle_forest.specs.declared.bagging.Bagging.TheVariants.{BackwardFold}
use Rattle.merkle_forest.specs.Forest.{Tree, leaf, branch, leaf_count, leaves}
use Rattle.merkle_forest.specs.Hashing.{Hash, folded_forward, folded_backward}
use Rattle.merkle_forest.specs.Laws.Nodes.{peak-node}
use Rattle.merkle_forest.specs.Laws.Places.{node-left, node-right}
use Rattle.merkle_forest.specs.Nodes.{IsNodeAt, IsPeakAt}
use Rattle.merkle_forest.specs.Trees.{Located, located}
use Rattle.merkle_theory.specs.Ranges.{Digests, as_one, is_before, is_after, meets, singly, siblings, inner_digests, range_digests}

all_append : (P : Located → Type 0) (xs ys : List Located) → AllByRecursion P xs → AllByRecursion P ys → AllByRecursion P (xs ++ ys)
all_append P [] ys one two = two
all_append P (x ∷ xs) ys one two = (one.0, all_append P xs ys one.1 two)

located_all : (P : Located → Type 0) (peaks : List Tree) → ((first : ℕ) (node : Tree) → IsPeakAt first node peaks → P (first, node))
    → AllByRecursion P (located peaks)
located_all P [] each = tt
located_all P (t ∷ ts) each =
    all_append P (located ts) ((leaves ts, t) ∷ []) (located_all P ts (λ first node stands. each first node (inr stands)))
    (each (leaves ts) t (inl (refl, refl)), tt)

take_all : (P : Located → Type 0) (n : ℕ) (xs : List Located) → AllByRecursion P xs → AllByRecursion P (take n xs)
take_all P zero xs all = tt
take_all P (suc n) [] all = tt
take_all P (suc n) (x ∷ xs) all = (all.0, take_all P n xs all.1)

drop_all : (P : Located → Type 0) (n : ℕ) (xs : List Located) → AllByRecursion P xs → AllByRecursion P (drop n xs)
drop_all P zero xs all = all
drop_all P (suc n) [] all = tt
drop_all P (suc n) (x ∷ xs) all = drop_all P n xs all.1

module _ (one other : Digests) (forest : List Tree)
    (same : (first : ℕ) (tree : Tree) → IsNodeAt first tree forest → one first tree ≡ other first tree) where
  siblings_same : (start stop at : ℕ) (t : Tree) → IsNodeAt at t forest → siblings one start stop at t ≡ siblings other start stop at t
  siblings_same start stop at (leaf p) stands = ap (λ d. cond (meets start stop (at, leaf p)) [] (d ∷ [])) (same at (leaf p) stands)
  siblings_same start stop at (branch p left right) stands =
      let test : Bool = meets start stop (at, branch p left right) in
      let l : siblings one start stop at left ≡ siblings other start stop at left =
      siblings_same start stop at left (node-left at p left right forest stands) in
      let r : siblings one start stop (at + leaf_count left) right ≡ siblings other start stop (at + leaf_count left) right =
      siblings_same start stop (at + leaf_count left) right (node-right at p left right forest stands) in
      ap (λ ds. cond test (ds ++ siblings one start stop (at + leaf_count left) right) (one at (branch p left right) ∷ [])) l
      ∙ ap (λ ds. cond test (siblings other start stop at left ++ ds) (one at (branch p left right) ∷ [])) r
      ∙ ap (λ d. cond test (siblings other start stop at left ++ siblings other start stop (at + leaf_count left) right) (d ∷ []))
      (same at (branch p left right) stands)

  abbrev Stand : List Located → Type 0
  Stand peaks = AllByRecursion (λ (peak : Located). IsNodeAt peak.0 peak.1 forest) peaks

  filter_all : (test : Located → Bool) (peaks : List Located) → Stand peaks → Stand (filter test peaks)
  filter_all test [] stand = tt
  filter_all test (peak ∷ peaks) stand =
      by (test peak) (filter_all test peaks stand.1)
    where
      by : (b : Bool) → Stand (filter test peaks) → Stand (cond b (peak ∷ filter test peaks) (filter test peaks))
      by true rest = (stand.0, rest)
      by false rest = rest

  singly_same : (peaks : List Located) → Stand peaks → singly one peaks ≡ singly other peaks
  singly_same [] stand = refl
  singly_same (peak ∷ peaks) stand =
      ap (λ d. d ∷ singly one peaks) (same peak.0 peak.1 stand.0) ∙ ap (λ ds. other peak.0 peak.1 ∷ ds) (singly_same peaks stand.1)

  flat_same : (start stop : ℕ) (peaks : List Located) → Stand peaks
      → flat_map (λ (peak : Located). siblings one start stop peak.0 peak.1) peaks ≡ flat_map
      (λ (peak : Located). siblings other start stop peak.0 peak.1) peaks
  flat_same start stop [] stand = refl
  flat_same start stop (peak ∷ peaks) stand =
      flat_map-cons (λ (x : Located). siblings one start stop x.0 x.1) peak peaks
      ∙ ap (λ ds. ds ++ flat_map (λ (x : Located). siblings one start stop x.0 x.1) peaks) (siblings_same start stop peak.0 peak.1 stand.0)
      ∙ ap (λ ds. siblings other start stop peak.0 peak.1 ++ ds) (flat_same start stop peaks stand.1)
      ∙ sym (flat_map-cons (λ (x : Located). siblings other start stop x.0 x.1) peak peaks)

  pub range_same : (hash : Hash) (start stop k : ℕ)
      → range_digests hash one BackwardFold start stop (take k (located forest)) (drop k (located forest))
      ≡ range_digests hash other BackwardFold start stop (take k (located forest)) (drop k (located forest))
  range_same hash start stop k =
      let At : Located → Type 0 = λ peak. IsNodeAt peak.0 peak.1 forest in
      let all : Stand (located forest) = located_all At forest (λ first node stands. peak-node first node forest stands) in
      let inactive : List Located = take k (located forest) in
      let active : List Located = drop k (located forest) in
      let low : Stand inactive = take_all At k (located forest) all in
      let high : Stand active = drop_all At k (located forest) all in
      let before : Digests → List (List ℕ) = λ d. as_one (folded_forward hash) (singly d (filter (is_before start) inactive)) ++ singly d
      (filter (is_before start) active) in
      let after : Digests → List (List ℕ) = λ d. singly d (filter (is_after stop) inactive) ++ as_one (folded_backward hash)
      (singly d (filter (is_after stop) active)) in
      let a : before one ≡ before other =
      ap₂ (λ xs ys. as_one (folded_forward hash) xs ++ ys) (singly_same (filter (is_before start) inactive) (filter_all (is_before start) inactive low))
      (singly_same (filter (is_before start) active) (filter_all (is_before start) active high)) in
      let b : after one ≡ after other =
      ap₂ (λ xs ys. xs ++ as_one (folded_backward hash) ys) (singly_same (filter (is_after stop) inactive) (filter_all (is_after stop) inactive low))
      (singly_same (filter (is_after stop) active) (filter_all (is_after stop) active high)) in
      let c : inner_digests one start stop inactive ≡ inner_digests other start stop inactive =
      flat_same start stop (filter (meets start stop) inactive) (filter_all (meets start stop) inactive low) in
      let d : inner_digests one start stop active ≡ inner_digests other start stop active =
      flat_same start stop (filter (meets start stop) active) (filter_all (meets start stop) active high) in
      ap₂ (λ xs ys. xs ++ ys) (ap₂ (λ xs ys. xs ++ ys) (ap₂ (λ xs ys. xs ++ ys) a b) c) d
