-- An honest proof of a range leads to the root of the tree.
use Rattle.std.proofs.Common.{◌≡◌, ◌⊎◌, inl, inr, ⊎_elim, ℕ, zero, suc, ◌+◌, ◌-◌, ◌<◌, ◌≤◌, ◌^◌, min, Bool, true, false}
use Rattle.std.proofs.Common.{cond, List, [], ◌∷◌, ◌++◌, length, map, filter, take, drop, Some, option_map, refl, sym}
use Rattle.std.proofs.Common.{◌∙◌, ap, subst, arith, append_assoc}
use Rattle.std.specs.List.{flat_map}
use Rattle.std.specs.Prelude.{slice_index_or}
use Rattle.std.proofs.lemmas.Bool.{cases_Bool, leb-true, lt-leb}
use Rattle.std.proofs.lemmas.List.{length-append, length-map, take-append-drop}
use Rattle.merkle_forest.specs.declared.bagging.Bagging.{Bagging}
use Rattle.merkle_forest.specs.declared.bagging.Bagging.TheVariants.{ForwardFold, BackwardFold}
use Rattle.merkle_forest.specs.Forest.{Tree, leaves, Rule, forest_of}
use Rattle.merkle_forest.specs.Hashing.{Hash, folded_forward, folded_backward, items, bagged, leaf_string, node_string, root_string, root_of}
use Rattle.merkle_forest.specs.Laws.Trees.{located_within}
use Rattle.merkle_forest.specs.Laws.Peaks.{leaf_count-pos}
use Rattle.merkle_forest.specs.Made.{value}
use Rattle.merkle_forest.specs.Trees.{Located, end_of, located, peak_digests, plain_digest, Within}
use Rattle.merkle_theory.specs.MadeTrees.{Over, from, plain_over}
use Rattle.merkle_theory.specs.MadeRoots.{Naming, from_left, peaks_of, read_bag}
use Rattle.merkle_theory.specs.RangeCounts.{passing, range_outer}
use Rattle.merkle_theory.specs.Ranges.{Digests, is_before, is_after, meets, as_one, singly, siblings, inner_digests}
use Rattle.merkle_theory.specs.Ranges.{before_digests, after_digests, range_digests}
use Rattle.merkle_theory.specs.Reads.{Agrees, valued, range_root}
use Rattle.merkle_theory.specs.Laws.Values.{forward-items}
use Rattle.merkle_theory.specs.Laws.MadeRoots.{not_zero}
use Rattle.merkle_theory.proofs.HonestRanges.{Ascend, BagRead, bag_read}
use Rattle.merkle_theory.proofs.RangePeaks.{all_taken}
use Rattle.merkle_theory.proofs.RangeRoots.{root_there, range_there}

ascend_last : (at n : ℕ) (t : Tree) (peaks : List Located) → Ascend at peaks → Within n peaks → at ≤ n → Ascend at (peaks ++ (n, t) ∷ [])
ascend_last at n t [] up within le = (le, tt)
ascend_last at n t (peak ∷ peaks) up within le = (up.0, ascend_last (end_of peak) n t peaks up.1 within.1 within.0)

pub ascend_located : (peaks : List Tree) → Ascend 0 (located peaks)
ascend_located [] = tt
ascend_located (t ∷ peaks) = ascend_last 0 (leaves peaks) t (located peaks) (ascend_located peaks) (located_within peaks) (omega arith)

-- parts of a list that is cut in two
filter_case : {A : Type 0} (test : A → Bool) (passes : Bool) (x : A) (xs ys : List A) → filter test xs ++ filter test ys ≡ filter test (xs ++ ys)
    → cond passes (x ∷ filter test xs) (filter test xs) ++ filter test ys ≡ cond passes (x ∷ filter test (xs ++ ys)) (filter test (xs ++ ys))
filter_case test true x xs ys same = ap (λ zs. x ∷ zs) same
filter_case test false x xs ys same = same

filter_parts : {A : Type 0} (test : A → Bool) (xs ys : List A) → filter test xs ++ filter test ys ≡ filter test (xs ++ ys)
filter_parts test [] ys = refl
filter_parts test (x ∷ xs) ys = filter_case test (test x) x xs ys (filter_parts test xs ys)

map_parts : {A B : Type 0} (f : A → B) (xs ys : List A) → map f xs ++ map f ys ≡ map f (xs ++ ys)
map_parts f [] ys = refl
map_parts f (x ∷ xs) ys = ap (λ zs. f x ∷ zs) (map_parts f xs ys)

flat_parts : {A B : Type 0} (f : A → List B) (xs ys : List A) → flat_map f xs ++ flat_map f ys ≡ flat_map f (xs ++ ys)
flat_parts f [] ys = refl
flat_parts f (x ∷ xs) ys = append_assoc (f x) (flat_map f xs) (flat_map f ys) ∙ ap (λ zs. f x ++ zs) (flat_parts f xs ys)

none_left : {A : Type 0} (xs : List A) → xs ++ [] ≡ xs
none_left [] = refl
none_left (x ∷ xs) = ap (λ ys. x ∷ ys) (none_left xs)

pub all_dropped : {A : Type 0} (xs : List A) → drop (length xs) xs ≡ []
all_dropped [] = refl
all_dropped (x ∷ xs) = all_dropped xs

pub length-as_one : (fold : List (List ℕ) → List ℕ) (xs : List (List ℕ)) → length (as_one fold xs) ≡ min 1 (length xs)
length-as_one fold [] = omega arith
length-as_one fold (x ∷ xs) = omega arith

take_front : {A : Type 0} (xs ys : List A) → take (length xs) (xs ++ ys) ≡ xs
take_front [] ys = refl
take_front (x ∷ xs) ys = ap (λ zs. x ∷ zs) (take_front xs ys)

drop_front : {A : Type 0} (xs ys : List A) → drop (length xs) (xs ++ ys) ≡ ys
drop_front [] ys = refl
drop_front (x ∷ xs) ys = drop_front xs ys

module _ (hash : Hash) (digest : Digests) (start stop : ℕ) (some : start < stop) where
  abbrev D : List Located → List (List ℕ)
  D peaks = singly digest peaks

  abbrev B : List Located → List Located
  B peaks = filter (is_before start) peaks

  abbrev A : List Located → List Located
  A peaks = filter (is_after stop) peaks

  none_before : (at : ℕ) (peaks : List Located) → stop ≤ at → Ascend at peaks → B peaks ≡ []
  none_before at [] le up = refl
  none_before at (peak ∷ peaks) le up =
      let not_front : is_before start peak ≡ false = lt-leb (end_of peak) start (omega (arith, le, up.0, some, leaf_count-pos peak.1)) in
      rw not_front (none_before (end_of peak) peaks (omega (arith, le, up.0)) up.1)

  lower : (at more : ℕ) (peaks : List Located) → at ≤ more → Ascend more peaks → Ascend at peaks
  lower at more [] le up = tt
  lower at more (peak ∷ peaks) le up = (omega (arith, le, up.0), up.1)

  ascend_drop : (k at : ℕ) (peaks : List Located) → Ascend at peaks → Ascend at (drop k peaks)
  ascend_drop zero at peaks up = up
  ascend_drop (suc k) at [] up = tt
  ascend_drop (suc k) at (peak ∷ peaks) up = lower at (end_of peak) (drop k peaks) (omega (arith, up.0)) (ascend_drop k (end_of peak) peaks up.1)

  -- no first peak stands after the range, or no later one before it
  pub sides : (k at : ℕ) (peaks : List Located) → Ascend at peaks → (A (take k peaks) ≡ []) ⊎ (B (drop k peaks) ≡ [])
  sides zero at peaks up = inl refl
  sides (suc k) at [] up = inl refl
  sides (suc k) at (peak ∷ peaks) up =
      ⊎_elim
      (λ back. inr (none_before (end_of peak) (drop k peaks) (let far : stop ≤ peak.0 = leb-true stop peak.0 back in omega (arith, far))
      (ascend_drop k (end_of peak) peaks up.1)))
      (λ not_back. ⊎_elim (λ none. inl (rw not_back none)) inr (sides k (end_of peak) peaks up.1))
      (cases_Bool (is_after stop peak))

  -- the outer digests, in the order of the proof and in that in which they are read
  abbrev pub spelled : Bagging → ℕ → List Located → List (List ℕ)
  spelled bagging inactive peaks =
      before_digests hash digest bagging start (take inactive peaks) (drop inactive peaks)
      ++ after_digests hash digest bagging stop (take inactive peaks) (drop inactive peaks)

  swapped : (front after before back : List (List ℕ)) → ((after ≡ []) ⊎ (before ≡ []))
      → (front ++ before) ++ (after ++ back) ≡ front ++ (after ++ (before ++ back))
  swapped front after before back (inl none) =
      ap (λ xs. (front ++ before) ++ (xs ++ back)) none ∙ append_assoc front before back ∙ sym (ap (λ xs. front ++ (xs ++ (before ++ back))) none)
  swapped front after before back (inr none) =
      ap (λ xs. (front ++ xs) ++ (after ++ back)) none ∙ ap (λ xs. xs ++ (after ++ back)) (none_left front)
      ∙ sym (ap (λ xs. front ++ (after ++ (xs ++ back))) none)

  parted : (test : Located → Bool) (inactive : ℕ) (peaks : List Located)
      → D (filter test (take inactive peaks)) ++ D (filter test (drop inactive peaks)) ≡ D (filter test peaks)
  parted test inactive peaks =
      map_parts (λ (p : Located). digest p.0 p.1) (filter test (take inactive peaks)) (filter test (drop inactive peaks))
      ∙ ap D (filter_parts test (take inactive peaks) (drop inactive peaks)) ∙ ap (λ ps. D (filter test ps)) (take-append-drop inactive peaks)

  abbrev pub outer_read : Bagging → ℕ → List Located → List (List ℕ)
  outer_read bagging inactive peaks =
      let k = from_left bagging inactive (length peaks) in
      as_one (folded_forward hash) (D (B (take k peaks)))
      ++ (D (A (take k peaks)) ++ (D (B (drop k peaks)) ++ as_one (folded_backward hash) (D (A (drop k peaks)))))

  pub outer_same : (bagging : Bagging) (inactive : ℕ) (peaks : List Located) → Ascend 0 peaks
      → spelled bagging inactive peaks ≡ outer_read bagging inactive peaks
  outer_same BackwardFold inactive peaks up =
      swapped (as_one (folded_forward hash) (D (B (take inactive peaks)))) (D (A (take inactive peaks))) (D (B (drop inactive peaks)))
      (as_one (folded_backward hash) (D (A (drop inactive peaks))))
      (⊎_elim (λ none. inl (ap D none)) (λ none. inr (ap D none)) (sides inactive 0 peaks up))
  outer_same ForwardFold inactive peaks up =
      let n = length peaks in
      let whole : take n peaks ≡ peaks = all_taken n peaks (omega arith) in
      let nothing : drop n peaks ≡ [] = all_dropped peaks in
      ap (λ ds. as_one (folded_forward hash) ds ++ (D (A (take inactive peaks)) ++ D (A (drop inactive peaks)))) (parted (is_before start) inactive peaks)
      ∙ ap (λ ds. as_one (folded_forward hash) (D (B peaks)) ++ ds) (parted (is_after stop) inactive peaks ∙ sym (none_left (D (A peaks))))
      ∙ sym (ap (λ ps. as_one (folded_forward hash) (D (B ps)) ++ (D (A ps) ++ (D (B (drop n peaks)) ++ as_one
      (folded_backward hash) (D (A (drop n peaks)))))) whole
      ∙ ap (λ ps. as_one (folded_forward hash) (D (B peaks)) ++ (D (A peaks) ++ (D (B ps) ++ as_one (folded_backward hash) (D (A ps))))) nothing)

  passing_D : (test : Located → Bool) (peaks : List Located) → length (D (filter test peaks)) ≡ passing test peaks
  passing_D test peaks = length-map (filter test peaks) (λ (p : Located). digest p.0 p.1)

  -- how many outer digests there are
  pub outer_length : (bagging : Bagging) (inactive : ℕ) (peaks : List Located)
      → length (spelled bagging inactive peaks) ≡ range_outer bagging start stop inactive peaks
  outer_length ForwardFold inactive peaks =
      let front = D (B (take inactive peaks)) in
      let before = D (B (drop inactive peaks)) in
      let after = D (A (take inactive peaks)) in
      let back = D (A (drop inactive peaks)) in
      omega (
        arith,
        length-append (as_one (folded_forward hash) (front ++ before)) (after ++ back),
        length-as_one (folded_forward hash) (front ++ before),
        length-append front before,
        length-append after back,
        passing_D (is_before start) (take inactive peaks),
        passing_D (is_before start) (drop inactive peaks),
        passing_D (is_after stop) (take inactive peaks),
        passing_D (is_after stop) (drop inactive peaks),
      )
  outer_length BackwardFold inactive peaks =
      let front = D (B (take inactive peaks)) in
      let before = D (B (drop inactive peaks)) in
      let after = D (A (take inactive peaks)) in
      let back = D (A (drop inactive peaks)) in
      omega (
        arith,
        length-append (as_one (folded_forward hash) front ++ before) (after ++ as_one (folded_backward hash) back),
        length-append (as_one (folded_forward hash) front) before,
        length-append after (as_one (folded_backward hash) back),
        length-as_one (folded_forward hash) front,
        length-as_one (folded_backward hash) back,
        passing_D (is_before start) (take inactive peaks),
        passing_D (is_before start) (drop inactive peaks),
        passing_D (is_after stop) (take inactive peaks),
        passing_D (is_after stop) (drop inactive peaks),
      )

  -- the digests of the proof, the outer ones first
  abbrev inner : List Located → List (List ℕ)
  inner peaks = inner_digests digest start stop peaks

  inner_parts : (inactive : ℕ) (peaks : List Located) → inner (take inactive peaks) ++ inner (drop inactive peaks) ≡ inner peaks
  inner_parts inactive peaks =
      flat_parts (λ (p : Located). siblings digest start stop p.0 p.1) (filter (meets start stop)
      (take inactive peaks)) (filter (meets start stop) (drop inactive peaks))
      ∙ ap (flat_map (λ (p : Located). siblings digest start stop p.0 p.1)) (filter_parts (meets start stop) (take inactive peaks) (drop inactive peaks))
      ∙ ap inner (take-append-drop inactive peaks)

  pub proof_parts : (bagging : Bagging) (inactive : ℕ) (peaks : List Located)
      → range_digests hash digest bagging start stop (take inactive peaks) (drop inactive peaks) ≡ spelled bagging inactive peaks ++ inner peaks
  proof_parts bagging inactive peaks =
      append_assoc (spelled bagging inactive peaks) (inner (take inactive peaks)) (inner (drop inactive peaks))
      ∙ ap (λ ds. spelled bagging inactive peaks ++ ds) (inner_parts inactive peaks)

length-suc : {A : Type 0} (x : A) (xs : List A) → length (x ∷ xs) ≡ suc (length xs)
length-suc x xs = refl

-- how the peaks are bagged, where by ForwardFold all are folded from the left
pub bag_same : (hash : Hash) (bagging : Bagging) (inactive : ℕ) (d : List ℕ) (ds : List (List ℕ))
    → folded_backward hash (items hash (from_left bagging inactive (length (d ∷ ds))) (d ∷ ds)) ≡ bagged hash bagging (items hash inactive (d ∷ ds))
bag_same hash BackwardFold inactive d ds = refl
bag_same hash ForwardFold inactive d ds =
    let n = length ds in
    ap (λ k. folded_backward hash (items hash k (d ∷ ds))) (length-suc d ds)
    ∙ ap (λ b. folded_backward hash (cond b (d ∷ ds) (folded_forward hash (take (suc n) (d ∷ ds)) ∷ drop (suc n) (d ∷ ds)))) (not_zero n)
    ∙ ap (λ xs. folded_backward hash (folded_forward hash (d ∷ xs) ∷ drop n ds)) (all_taken n ds (omega arith))
    ∙ ap (λ xs. folded_backward hash (folded_forward hash (d ∷ ds) ∷ xs)) (all_dropped ds)
    ∙ sym (forward-items hash inactive (d ∷ ds))

bag_located : (hash : Hash) (digest : Digests) (bagging : Bagging) (inactive : ℕ) (first : Located) (rest : List Located)
    → folded_backward hash (items hash (from_left bagging inactive (length (first ∷ rest))) (singly digest (first ∷ rest)))
    ≡ bagged hash bagging (items hash inactive (singly digest (first ∷ rest)))
bag_located hash digest bagging inactive first rest =
    let ds = singly digest rest in
    let count : length (first ∷ rest) ≡ length (digest first.0 first.1 ∷ ds) = ap suc (sym (length-map rest (λ (p : Located). digest p.0 p.1))) in
    ap (λ n. folded_backward hash (items hash (from_left bagging inactive n) (singly digest (first ∷ rest)))) count
    ∙ bag_same hash bagging inactive (digest first.0 first.1) ds

pub first_part : {A : Type 0} (xs : List A) → 0 < length xs → (x : A) × (rest : List A) × (xs ≡ x ∷ rest)
first_part [] some = absurd (omega (arith, some))
first_part (x ∷ xs) some = (x, xs, refl)

module _ (hash : Hash) (names : Naming) (over : Over) (bagging : Bagging) (digest : Digests) (rule : Rule)
    (leaves inactive start : ℕ) (elements : List (List ℕ))
    (many : 0 < length elements) (agrees : Agrees hash over (from start elements) digest start (start + length elements)) where
  abbrev stop : ℕ
  stop = start + length elements

  abbrev peaks : List Located
  peaks = peaks_of rule leaves

  abbrev digests : List (List ℕ)
  digests = range_digests hash digest bagging start stop (take inactive peaks) (drop inactive peaks)

  streams_are : Ascend 0 peaks → take (range_outer bagging start stop inactive peaks) digests
      ≡ outer_read hash digest start stop (omega (arith, many)) bagging inactive peaks
  streams_are up =
      let within : start < stop = omega (arith, many) in
      let parts = proof_parts hash digest start stop within bagging inactive peaks in
      let count = outer_length hash digest start stop within bagging inactive peaks in
      ap (λ n. take n digests) (sym count) ∙ ap (take (length (spelled hash digest start stop within bagging inactive peaks))) parts
      ∙ take_front (spelled hash digest start stop within bagging inactive peaks) (inner_digests digest start stop peaks)
      ∙ outer_same hash digest start stop within bagging inactive peaks up

  inner_are : drop (range_outer bagging start stop inactive peaks) digests ≡ inner_digests digest start stop peaks
  inner_are =
      let within : start < stop = omega (arith, many) in
      let parts = proof_parts hash digest start stop within bagging inactive peaks in
      let count = outer_length hash digest start stop within bagging inactive peaks in
      ap (λ n. drop n digests) (sym count) ∙ ap (drop (length (spelled hash digest start stop within bagging inactive peaks))) parts
      ∙ drop_front (spelled hash digest start stop within bagging inactive peaks) (inner_digests digest start stop peaks)

  abbrev singly_left : ℕ
  singly_left = from_left bagging inactive (length peaks)

  -- the peaks are there, the first one apart
  with_first : (first : Located) (rest : List Located) → peaks ≡ first ∷ rest → leaves ≤ 2 ^ 62 → stop ≤ leaves
      → inactive ≤ length peaks → Ascend 0 peaks
      → option_map (value hash) (range_root names over bagging rule leaves inactive start elements digests)
      ≡ Some (hash (root_string bagging leaves inactive (bagged hash bagging (items hash inactive (singly digest peaks)))))
  with_first first rest split few inside enough up =
      let within : start < stop = omega (arith, many) in
      let k = singly_left in
      let outer = range_outer bagging start stop inactive peaks in
      let read : BagRead hash names over (from start elements) digest start stop (length peaks) within agrees k peaks =
      subst (λ ps. BagRead hash names over (from start elements) digest start stop (length peaks) within agrees k ps) (sym split)
      (bag_read hash names over (from start elements) digest start stop (length peaks) within agrees k first rest
      (subst (Ascend 0) split up)) in
      let streams : read_bag names over (from start elements) start stop (length peaks) k peaks
      (take outer digests, drop outer digests) ≡ Some (read.made, ([], [])) =
      ap (λ ds. read_bag names over (from start elements) start stop (length peaks) k peaks (ds, drop outer digests)) (streams_are up)
      ∙ ap (λ ds. read_bag names over (from start elements) start stop (length peaks) k peaks
      (outer_read hash digest start stop within bagging inactive peaks, ds)) inner_are
      ∙ read.is in
      let bag = folded_backward hash (items hash k (singly digest peaks)) in
      let all : valued hash (read_bag names over (from start elements) start stop (length peaks) k peaks
      (take outer digests, drop outer digests)) ≡ Some (bag, ([], [])) =
      ap (valued hash) streams ∙ ap (λ d. Some (d, ([], []))) read.same in
      let Same : List Located → Type 0 = λ ps. folded_backward hash (items hash (from_left bagging inactive (length ps)) (singly digest ps))
      ≡ bagged hash bagging (items hash inactive (singly digest ps)) in
      let bags : Same peaks = subst Same (sym split) (bag_located hash digest bagging inactive first rest) in
      ap (option_map (value hash)) (range_there names over bagging rule leaves inactive start elements digests many)
      ∙ root_there hash names over bagging rule leaves inactive start stop (from start elements) outer digests few enough inside bag ([], []) all refl refl
      ∙ ap (λ b. Some (hash (root_string bagging leaves inactive b))) bags

  pub honest_root : leaves ≤ 2 ^ 62 → stop ≤ leaves → inactive ≤ length peaks → 0 < length peaks
      → option_map (value hash) (range_root names over bagging rule leaves inactive start elements digests)
      ≡ Some (root_of hash bagging leaves inactive (peak_digests digest (forest_of rule leaves)))
  unfolding root_of
  honest_root few inside enough some_peak =
      let first = first_part peaks some_peak in
      with_first first.0 first.1 first.2 few inside enough (ascend_located (forest_of rule leaves))

-- leaves stand in peaks
pub peak_there : (trees : List Tree) → 0 < leaves trees → 0 < length trees
peak_there [] some = absurd (omega (arith, some))
peak_there (t ∷ trees) some = omega arith

-- an element of a part of a list
at_take : (count i : ℕ) (xs : List (List ℕ)) → i < count → slice_index_or (take count xs) i [] ≡ slice_index_or xs i []
at_take zero i xs low = absurd (omega (arith, low))
at_take (suc count) i [] low = refl
at_take (suc count) zero (x ∷ xs) low = refl
at_take (suc count) (suc i) (x ∷ xs) low = at_take count i xs (omega (arith, low))

at_drop : (start i : ℕ) (xs : List (List ℕ)) → slice_index_or (drop start xs) i [] ≡ slice_index_or xs (start + i) []
at_drop zero i xs = let same : i ≡ 0 + i = omega arith in ap (λ n. slice_index_or xs n []) same
at_drop (suc start) i [] = refl
at_drop (suc start) i (x ∷ xs) =
    let same : suc (start + i) ≡ suc start + i = omega arith in
    at_drop start i xs ∙ ap (λ n. slice_index_or (x ∷ xs) n []) same

pub part_element : (start count at : ℕ) (xs : List (List ℕ)) → start ≤ at → at < start + count
    → from start (take count (drop start xs)) at ≡ slice_index_or xs at []
part_element start count at xs low high =
    let same : start + (at - start) ≡ at = omega (arith, low) in
    at_take count (at - start) (drop start xs) (omega (arith, low, high)) ∙ at_drop start (at - start) xs
    ∙ ap (λ n. slice_index_or xs n []) same

pub part_agrees : (hash : Hash) (elements : List (List ℕ)) (start count : ℕ)
    → Agrees hash plain_over (from start (take count (drop start elements))) (plain_digest hash elements) start (start + count)
part_agrees hash elements start count = record {
  leaf = λ at p low high. ap (λ e. hash (leaf_string p e)) (part_element start count at elements low high);
  branch = λ at p left right x y one other.
      ap (λ d. hash (node_string p d (value hash y))) one ∙ ap (λ d. hash (node_string p (plain_digest hash elements at left) d)) other;
}
