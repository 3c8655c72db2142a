-- The digests of the proof of a part of a range, from those that the proof of the range gives for several peaks in one and those of single
-- nodes.
use Rattle.std.proofs.Common.{◌≡◌, ⊎_elim, ℕ, suc, ◌+◌, ◌-◌, ◌<◌, ◌≤◌, Bool, zero, true, false, List, [], ◌∷◌, ◌++◌}
use Rattle.std.proofs.Common.{length, filter, take, drop, refl, sym, ◌∙◌, ap, arith}
use Rattle.std.proofs.lemmas.Bool.{cases_Bool, leb-true, leb-false, le-leb, lt-leb}
use Rattle.std.proofs.lemmas.List.{append_assoc, append-nil, map-append, length-map, length-append, take-append-drop, take_at, drop_at}
use Rattle.std.proofs.lemmas.List.Elements.{filter-append}
use Rattle.merkle_forest.specs.declared.bagging.Bagging.{Bagging}
use Rattle.merkle_forest.specs.declared.bagging.Bagging.TheVariants.{ForwardFold, BackwardFold}
use Rattle.merkle_forest.specs.Hashing.{Hash, fold_string, folded_onto, folded_forward, folded_backward}
use Rattle.merkle_forest.specs.Laws.Peaks.{leaf_count-pos}
use Rattle.merkle_forest.specs.Trees.{Located, end_of}
use Rattle.merkle_theory.specs.Assembled.{assembled}
use Rattle.merkle_theory.specs.MadeRoots.{from_left}
use Rattle.merkle_theory.specs.Plans.{inner_nodes}
use Rattle.merkle_theory.specs.RangeCounts.{passing}
use Rattle.merkle_theory.specs.Ranges.{Digests, is_before, is_after, as_one, singly, range_digests}
use Rattle.merkle_theory.proofs.HonestRanges.{Ascend}
use Rattle.merkle_theory.proofs.HonestRoots.{all_dropped}
use Rattle.merkle_theory.proofs.PlanFolds.{side_parts, inner_parts}
use Rattle.merkle_theory.proofs.RangePeaks.{all_taken}

onto-append : (hash : Hash) (d : List ℕ) (xs ys : List (List ℕ))
    → folded_onto hash d (xs ++ ys) ≡ folded_onto hash (folded_onto hash d xs) ys
onto-append hash d [] ys = refl
onto-append hash d (x ∷ xs) ys = onto-append hash (hash (fold_string d x)) xs ys

-- what is folded from the left goes on
fold_on : (hash : Hash) (xs ys : List (List ℕ))
    → as_one (folded_forward hash) (as_one (folded_forward hash) xs ++ ys) ≡ as_one (folded_forward hash) (xs ++ ys)
fold_on hash [] ys = refl
fold_on hash (x ∷ xs) ys = ap (λ d. d ∷ []) (sym (onto-append hash x xs ys))

-- and what is folded from the right
before_one : (hash : Hash) (xs : List (List ℕ)) (y : List ℕ) (ys : List (List ℕ))
    → folded_backward hash (xs ++ folded_backward hash (y ∷ ys) ∷ []) ≡ folded_backward hash (xs ++ y ∷ ys)
before_one hash [] y ys = refl
before_one hash (x ∷ []) y ys = refl
before_one hash (x ∷ w ∷ xs) y ys = ap (λ d. hash (fold_string x d)) (before_one hash (w ∷ xs) y ys)

fold_back : (hash : Hash) (xs ys : List (List ℕ))
    → as_one (folded_backward hash) (xs ++ as_one (folded_backward hash) ys) ≡ as_one (folded_backward hash) (xs ++ ys)
fold_back hash xs [] = refl
fold_back hash [] (y ∷ ys) = refl
fold_back hash (x ∷ xs) (y ∷ ys) = ap (λ d. d ∷ []) (before_one hash (x ∷ xs) y ys)

-- no peak after a location stands before it
pub none_there : (start at : ℕ) (peaks : List Located) → start ≤ at → Ascend at peaks → filter (is_before start) peaks ≡ []
none_there start at [] le up = refl
none_there start at (peak ∷ peaks) le up =
    let end : at ≤ end_of peak = omega (arith, up.0) in
    ⊎_elim
    (λ front. let same : end_of peak ≤ start = leb-true (end_of peak) start front in
    absurd (omega (arith, same, le, up.0, leaf_count-pos peak.1)))
    (λ none. rw none (none_there start (end_of peak) peaks (omega (arith, le, end)) up.1))
    (cases_Bool (is_before start peak))

-- the peaks before a later location are those before an earlier one, and more
before_more : (own start at : ℕ) (peaks : List Located) → own ≤ start → Ascend at peaks
    → filter (is_before start) peaks
    ≡ filter (is_before own) peaks ++ drop (passing (is_before own) peaks) (filter (is_before start) peaks)
before_more own start at [] le up = refl
before_more own start at (peak ∷ peaks) le up =
    ⊎_elim
    (λ (front : is_before own peak ≡ true). let end : end_of peak ≤ own = leb-true (end_of peak) own front in
    let later : is_before start peak ≡ true = le-leb (end_of peak) start (omega (arith, end, le)) in
    rw (front, later) (ap (λ ps. peak ∷ ps) (before_more own start (end_of peak) peaks le up.1)))
    (λ (no : is_before own peak ≡ false). let end : own < end_of peak = leb-false (end_of peak) own no in
    let none = none_there own (end_of peak) peaks (omega (arith, end)) up.1 in
    rw (no, none) refl)
    (cases_Bool (is_before own peak))

-- behind a location all peaks stand after it
pub all_there : (stop at : ℕ) (peaks : List Located) → stop ≤ at → Ascend at peaks → filter (is_after stop) peaks ≡ peaks
all_there stop at [] le up = refl
all_there stop at (peak ∷ peaks) le up =
    let after : is_after stop peak ≡ true = le-leb stop peak.0 (omega (arith, le, up.0)) in
    rw after (ap (λ ps. peak ∷ ps) (all_there stop (end_of peak) peaks (omega (arith, le, up.0)) up.1))

-- how many peaks stand after an earlier location, and how many after a later one
pub fewer_after : (own stop : ℕ) (peaks : List Located) → stop ≤ own → passing (is_after own) peaks ≤ passing (is_after stop) peaks
fewer_after own stop [] le = omega arith
fewer_after own stop (peak ∷ peaks) le =
    let rest = fewer_after own stop peaks le in
    ⊎_elim
    (λ (far : is_after own peak ≡ true). let near : is_after stop peak
    ≡ true = le-leb stop peak.0 (let it : own ≤ peak.0 = leb-true own peak.0 far in omega (arith, it, le)) in
    rw (far, near) (omega (arith, rest)))
    (λ (no : is_after own peak ≡ false). ⊎_elim (λ (near : is_after stop peak ≡ true). rw (no, near) (omega (arith, rest)))
    (λ (none : is_after stop peak ≡ false). rw (no, none) rest) (cases_Bool (is_after stop peak)))
    (cases_Bool (is_after own peak))

-- the peaks after an earlier location are more, and then those after a later one
after_more : (own stop at : ℕ) (peaks : List Located) → stop ≤ own → Ascend at peaks
    → filter (is_after stop) peaks
    ≡ take (passing (is_after stop) peaks - passing (is_after own) peaks) (filter (is_after stop) peaks) ++ filter (is_after own) peaks
after_more own stop at [] le up = refl
after_more own stop at (peak ∷ peaks) le up =
    ⊎_elim
    (λ (near : is_after stop peak ≡ true).
    ⊎_elim
    (λ (far : is_after own peak ≡ true). let own_all = all_there own peak.0 (peak ∷ peaks) (leb-true own peak.0 far) (omega arith, up.1) in
    let all = all_there stop peak.0 (peak ∷ peaks) (leb-true stop peak.0 near) (omega arith, up.1) in
    let none : length (peak ∷ peaks) - length (peak ∷ peaks) ≡ 0 = omega arith in
    rw (own_all, all, none) refl)
    (λ (not_far : is_after own peak ≡ false). let rest = after_more own stop (end_of peak) peaks le up.1 in
    let few = fewer_after own stop peaks le in
    let step : suc (passing (is_after stop) peaks) - passing (is_after own) peaks
    ≡ suc (passing (is_after stop) peaks - passing (is_after own) peaks) = omega (arith, few) in
    rw (near, not_far, step) (ap (λ ps. peak ∷ ps) rest))
    (cases_Bool (is_after own peak)))
    (λ (not_near : is_after stop peak ≡ false). let not_far : is_after own peak ≡ false =
    lt-leb own peak.0 (let it : peak.0 < stop = leb-false stop peak.0 not_near in omega (arith, it, le)) in
    rw (not_near, not_far) (after_more own stop (end_of peak) peaks le up.1))
    (cases_Bool (is_after stop peak))

-- peaks that ascend from a location on ascend from each earlier one
pub ascend_from : (at later : ℕ) (peaks : List Located) → at ≤ later → Ascend later peaks → Ascend at peaks
ascend_from at later [] le up = tt
ascend_from at later (peak ∷ peaks) le up = (omega (arith, le, up.0), up.1)

pub ascend_first : (k at : ℕ) (peaks : List Located) → Ascend at peaks → Ascend at (take k peaks)
ascend_first zero at peaks up = tt
ascend_first (suc k) at [] up = tt
ascend_first (suc k) at (peak ∷ peaks) up = (up.0, ascend_first k (end_of peak) peaks up.1)

pub ascend_rest : (k at : ℕ) (peaks : List Located) → Ascend at peaks → Ascend at (drop k peaks)
ascend_rest zero at peaks up = up
ascend_rest (suc k) at [] up = tt
ascend_rest (suc k) at (peak ∷ peaks) up =
    ascend_from at (end_of peak) (drop k peaks) (omega (arith, up.0)) (ascend_rest k (end_of peak) peaks up.1)

halves : (test : Located → Bool) (k : ℕ) (peaks : List Located) → filter test peaks ≡ filter test (take k peaks) ++ filter test (drop k peaks)
halves test k peaks = ap (filter test) (sym (take-append-drop k peaks)) ∙ filter-append test (take k peaks) (drop k peaks)

-- of so many first peaks those before a part of a range are those before the range, and others; so are all peaks before it
front_parts : (own start k : ℕ) (peaks : List Located) → own ≤ start → Ascend 0 peaks
    → filter (is_before start) (take k peaks)
    ≡ filter (is_before own) (take k peaks) ++ drop (passing (is_before own) (take k peaks)) (filter (is_before start) (take k peaks))
front_parts own start k peaks le up = before_more own start 0 (take k peaks) le (ascend_first k 0 peaks up)

pub before_parts : (own start k : ℕ) (peaks : List Located) → own ≤ start → Ascend 0 peaks
    → drop (passing (is_before own) (take k peaks)) (filter (is_before start) peaks)
    ≡ drop (passing (is_before own) (take k peaks)) (filter (is_before start) (take k peaks)) ++ filter (is_before start) (drop k peaks)
before_parts own start k peaks le up =
    let first = filter (is_before own) (take k peaks) in
    let more = drop (length first) (filter (is_before start) (take k peaks)) in
    let rest = filter (is_before start) (drop k peaks) in
    ap (drop (length first)) (halves (is_before start) k peaks ∙ ap (λ ps. ps ++ rest) (front_parts own start k peaks le up)
    ∙ append_assoc first more rest)
    ∙ drop_at first (more ++ rest) (length first) refl

-- of the peaks from there on those after the part are others, and those after the range; so are all peaks after it
back_parts : (own stop k : ℕ) (peaks : List Located) → stop ≤ own → Ascend 0 peaks
    → filter (is_after stop) (drop k peaks)
    ≡ take (passing (is_after stop) (drop k peaks) - passing (is_after own) (drop k peaks)) (filter (is_after stop) (drop k peaks))
    ++ filter (is_after own) (drop k peaks)
back_parts own stop k peaks le up = after_more own stop 0 (drop k peaks) le (ascend_rest k 0 peaks up)

pub after_parts : (own stop k : ℕ) (peaks : List Located) → stop ≤ own → Ascend 0 peaks
    → take (passing (is_after stop) peaks - passing (is_after own) (drop k peaks)) (filter (is_after stop) peaks)
    ≡ filter (is_after stop) (take k peaks)
    ++ take (passing (is_after stop) (drop k peaks) - passing (is_after own) (drop k peaks)) (filter (is_after stop) (drop k peaks))
after_parts own stop k peaks le up =
    let last = filter (is_after own) (drop k peaks) in
    let more = take (passing (is_after stop) (drop k peaks) - length last) (filter (is_after stop) (drop k peaks)) in
    let first = filter (is_after stop) (take k peaks) in
    let cut = passing (is_after stop) peaks - length last in
    let all : filter (is_after stop) peaks ≡ (first ++ more) ++ last =
    halves (is_after stop) k peaks ∙ ap (λ ps. first ++ ps) (back_parts own stop k peaks le up) ∙ sym (append_assoc first more last) in
    let count : length (first ++ more) ≡ cut = omega (arith, ap length all, length-append (first ++ more) last) in
    ap (take cut) all ∙ take_at (first ++ more) last cut count

-- so all peaks beside the part are those beside the range that are folded with others, and those that are not
pub all_before : (own start k : ℕ) (peaks : List Located) → own ≤ start → Ascend 0 peaks
    → filter (is_before start) peaks
    ≡ filter (is_before own) (take k peaks) ++ drop (passing (is_before own) (take k peaks)) (filter (is_before start) peaks)
all_before own start k peaks le up =
    let first = filter (is_before own) (take k peaks) in
    let more = drop (length first) (filter (is_before start) (take k peaks)) in
    let rest = filter (is_before start) (drop k peaks) in
    halves (is_before start) k peaks ∙ ap (λ ps. ps ++ rest) (front_parts own start k peaks le up) ∙ append_assoc first more rest
    ∙ ap (λ ps. first ++ ps) (sym (before_parts own start k peaks le up))

pub all_after : (own stop k : ℕ) (peaks : List Located) → stop ≤ own → Ascend 0 peaks
    → filter (is_after stop) peaks
    ≡ take (passing (is_after stop) peaks - passing (is_after own) (drop k peaks)) (filter (is_after stop) peaks)
    ++ filter (is_after own) (drop k peaks)
all_after own stop k peaks le up =
    let last = filter (is_after own) (drop k peaks) in
    let more = take (passing (is_after stop) (drop k peaks) - length last) (filter (is_after stop) (drop k peaks)) in
    let first = filter (is_after stop) (take k peaks) in
    halves (is_after stop) k peaks ∙ ap (λ ps. first ++ ps) (back_parts own stop k peaks le up) ∙ sym (append_assoc first more last)
    ∙ ap (λ ps. ps ++ last) (sym (after_parts own stop k peaks le up))

module _ (hash : Hash) (digest : Digests) (own_start own_stop start stop : ℕ) (starts : own_start ≤ start) (stops : stop ≤ own_stop)
    (peaks : List Located) (up : Ascend 0 peaks) where
  abbrev D : List Located → List (List ℕ)
  D = singly digest

  -- the peaks before the range of the given proof that are folded from the left, and those after it that are folded from the right
  abbrev front_peaks : ℕ → List Located
  front_peaks k = filter (is_before own_start) (take k peaks)

  abbrev back_peaks : ℕ → List Located
  back_peaks k = filter (is_after own_stop) (drop k peaks)

  -- the other peaks before the part of it, and after it
  abbrev more_before : ℕ → List Located
  more_before k = drop (length (front_peaks k)) (filter (is_before start) peaks)

  abbrev more_after : ℕ → List Located
  more_after k = take (passing (is_after stop) peaks - length (back_peaks k)) (filter (is_after stop) peaks)

  abbrev more_front : ℕ → List Located
  more_front k = drop (length (front_peaks k)) (filter (is_before start) (take k peaks))

  abbrev more_back : ℕ → List Located
  more_back k = take (passing (is_after stop) (drop k peaks) - length (back_peaks k)) (filter (is_after stop) (drop k peaks))

  front_is : (k : ℕ) → filter (is_before start) (take k peaks) ≡ front_peaks k ++ more_front k
  front_is k = front_parts own_start start k peaks starts up

  back_is : (k : ℕ) → filter (is_after stop) (drop k peaks) ≡ more_back k ++ back_peaks k
  back_is k = back_parts own_stop stop k peaks stops up

  before_is : (k : ℕ) → more_before k ≡ more_front k ++ filter (is_before start) (drop k peaks)
  before_is k = before_parts own_start start k peaks starts up

  after_is : (k : ℕ) → more_after k ≡ filter (is_after stop) (take k peaks) ++ more_back k
  after_is k = after_parts own_stop stop k peaks stops up

  abbrev front : ℕ → List (List ℕ)
  front k = as_one (folded_forward hash) (D (front_peaks k))

  abbrev back : ℕ → List (List ℕ)
  back k = as_one (folded_backward hash) (D (back_peaks k))

  both : (ps qs : List Located) → D (ps ++ qs) ≡ D ps ++ D qs
  both ps qs = map-append _ ps qs

  front_whole : (k : ℕ) → as_one (folded_forward hash) (front k ++ D (more_front k))
      ≡ as_one (folded_forward hash) (D (filter (is_before start) (take k peaks)))
  front_whole k =
      fold_on hash (D (front_peaks k)) (D (more_front k))
      ∙ ap (as_one (folded_forward hash)) (sym (both (front_peaks k) (more_front k)) ∙ ap D (sym (front_is k)))

  back_whole : (k : ℕ) → as_one (folded_backward hash) (D (more_back k) ++ back k)
      ≡ as_one (folded_backward hash) (D (filter (is_after stop) (drop k peaks)))
  back_whole k =
      fold_back hash (D (more_back k)) (D (back_peaks k))
      ∙ ap (as_one (folded_backward hash)) (sym (both (more_back k) (back_peaks k)) ∙ ap D (sym (back_is k)))

  -- how many of the digests before the part are folded from the left
  abbrev folded_first : ℕ → ℕ
  folded_first k = length (front k) + (passing (is_before start) (take k peaks) - length (front_peaks k))

  abbrev inner : List (List ℕ)
  inner = D (inner_nodes start stop peaks)

  backward_is : (k : ℕ)
      → assembled hash BackwardFold (folded_first k) (front k ++ D (more_before k)) (passing (is_after stop) (take k peaks))
      (D (more_after k) ++ back k) inner
      ≡ range_digests hash digest BackwardFold start stop (take k peaks) (drop k peaks)
  backward_is k =
      let rest = D (filter (is_before start) (drop k peaks)) in
      let first = D (filter (is_after stop) (take k peaks)) in
      let befores : front k ++ D (more_before k) ≡ (front k ++ D (more_front k)) ++ rest =
      ap (λ ds. front k ++ ds) (ap D (before_is k) ∙ both (more_front k) (filter (is_before start) (drop k peaks)))
      ∙ sym (append_assoc (front k) (D (more_front k)) rest) in
      let afters : D (more_after k) ++ back k ≡ first ++ (D (more_back k) ++ back k) =
      ap (λ ds. ds ++ back k) (ap D (after_is k) ∙ both (filter (is_after stop) (take k peaks)) (more_back k))
      ∙ append_assoc first (D (more_back k)) (back k) in
      let counted : length (front k ++ D (more_front k)) ≡ folded_first k =
      omega (
        arith,
        length-append (front k) (D (more_front k)),
        length-map (more_front k) (λ (p : Located). digest p.0 p.1),
        ap length (front_is k),
        length-append (front_peaks k) (more_front k),
      ) in
      let firsts : length first ≡ passing (is_after stop) (take k peaks) =
      length-map (filter (is_after stop) (take k peaks)) (λ (p : Located). digest p.0 p.1) in
      rw (
        befores,
        afters,
        take_at (front k ++ D (more_front k)) rest (folded_first k) counted,
        drop_at (front k ++ D (more_front k)) rest (folded_first k) counted,
        take_at first (D (more_back k) ++ back k) (passing (is_after stop) (take k peaks)) firsts,
        drop_at first (D (more_back k) ++ back k) (passing (is_after stop) (take k peaks)) firsts,
        front_whole k,
        back_whole k,
        inner_parts digest start stop k peaks,
      ) (simp append_assoc)

  forward_is : (k inactive : ℕ) → take k peaks ≡ peaks → drop k peaks ≡ []
      → assembled hash ForwardFold (folded_first k) (front k ++ D (more_before k)) (passing (is_after stop) (take k peaks))
      (D (more_after k) ++ back k) inner
      ≡ range_digests hash digest ForwardFold start stop (take inactive peaks) (drop inactive peaks)
  forward_is k inactive whole none =
      let none_before : filter (is_before start) (drop k peaks) ≡ [] = ap (filter (is_before start)) none in
      let nothing : back_peaks k ≡ [] = ap (filter (is_after own_stop)) none in
      let no_back : back k ≡ [] = ap (λ ps. as_one (folded_backward hash) (D ps)) nothing in
      let befores : as_one (folded_forward hash) (front k ++ D (more_before k)) ≡ as_one (folded_forward hash) (D (filter (is_before start) peaks)) =
      ap (λ ps. as_one (folded_forward hash) (front k ++ D ps))
      (before_is k ∙ ap (λ ps. more_front k ++ ps) none_before ∙ append-nil (more_front k))
      ∙ front_whole k ∙ ap (λ ps. as_one (folded_forward hash) (D (filter (is_before start) ps))) whole in
      let few : length (filter (is_after stop) peaks) ≤ passing (is_after stop) peaks - length (back_peaks k) =
      omega (arith, ap length nothing) in
      let afters : D (more_after k) ++ back k ≡ D (filter (is_after stop) peaks) =
      ap (λ ds. D (more_after k) ++ ds) no_back ∙ append-nil (D (more_after k))
      ∙ ap D (all_taken (passing (is_after stop) peaks - length (back_peaks k)) (filter (is_after stop) peaks) few) in
      rw (
        befores,
        afters,
        side_parts digest start stop (is_before start) inactive peaks,
        side_parts digest start stop (is_after stop) inactive peaks,
        inner_parts digest start stop inactive peaks,
      ) (simp append_assoc)

-- what is folded already, the other digests beside the part, and those in the peaks that meet it, are the digests of its proof
pub part_is : (hash : Hash) (digest : Digests) (own_start own_stop start stop : ℕ) → own_start ≤ start → stop ≤ own_stop
    → (peaks : List Located) → Ascend 0 peaks → (bagging : Bagging) (inactive k : ℕ)
    → k ≡ from_left bagging inactive (length peaks)
    → let front = as_one (folded_forward hash) (singly digest (filter (is_before own_start) (take k peaks))) in
    let back = as_one (folded_backward hash) (singly digest (filter (is_after own_stop) (drop k peaks))) in
    let before = drop (passing (is_before own_start) (take k peaks)) (filter (is_before start) peaks) in
    let after = take (passing (is_after stop) peaks - passing (is_after own_stop) (drop k peaks)) (filter (is_after stop) peaks) in
    assembled hash bagging (length front + (passing (is_before start) (take k peaks) - passing (is_before own_start) (take k peaks)))
    (front ++ singly digest before) (passing (is_after stop) (take k peaks)) (singly digest after ++ back)
    (singly digest (inner_nodes start stop peaks))
    ≡ range_digests hash digest bagging start stop (take inactive peaks) (drop inactive peaks)
part_is hash digest own_start own_stop start stop starts stops peaks up ForwardFold inactive k is =
    forward_is hash digest own_start own_stop start stop starts stops peaks up k inactive
    (all_taken k peaks (omega (arith, is))) (ap (λ n. drop n peaks) is ∙ all_dropped peaks)
part_is hash digest own_start own_stop start stop starts stops peaks up BackwardFold inactive k is =
    rw is (backward_is hash digest own_start own_stop start stop starts stops peaks up inactive)
