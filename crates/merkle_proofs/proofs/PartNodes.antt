-- The nodes that the proof of a part of a range is made of are kept.
use Rattle.std.proofs.Common.{◌≡◌, ⊎_elim, ℕ, zero, suc, ◌+◌, ◌-◌, ◌<◌, ◌≤◌, min, Bool, true, false, cond, not, ◌||◌}
use Rattle.std.proofs.Common.{List, [], ◌∷◌, ◌++◌, length, filter, take, drop, None, Some, option_map, refl, sym, ◌∙◌}
use Rattle.std.proofs.Common.{ap, ap₂, subst, arith}
use Rattle.std.specs.List.{All, Contains, find}
use Rattle.std.specs.Prelude.{◌==◌, is_none}
use Rattle.std.proofs.lemmas.Bool.{cases_Bool, leb-true, leb-false, le-leb, lt-leb, eq-eqb}
use Rattle.std.proofs.lemmas.List.{length-map}
use Rattle.std.proofs.lemmas.List.Elements.{All-nil, All-cons, All-head, All-tail, All-append, All-filter, All-take}
use Rattle.std.proofs.lemmas.List.Elements.{All-drop, All-map, All-contains, All-weaker, Contains-append_left}
use Rattle.std.proofs.lemmas.List.Elements.{Contains-append_right, filter_passes}
use Rattle.std.proofs.lemmas.List.Sorted.{All-permutation, IsPermutation-sym}
use Rattle.merkle_core_parts.specs.Mem.{encoded}
use Rattle.merkle_core_parts.specs.declared.error.Error.{Error}
use Rattle.merkle_core_parts.specs.declared.error.Error.TheVariants.{Empty, RangeOutOfBounds, ElementPruned, Memory}
use Rattle.merkle_forest.specs.Forest.{Tree, leaf, branch, position, leaf_count, Rule, forest_of}
use Rattle.merkle_forest.specs.Hashing.{Hash, folded_forward, folded_backward}
use Rattle.merkle_forest.specs.Laws.Peaks.{leaf_count-pos}
use Rattle.merkle_forest.specs.Trees.{Located, end_of}
use Rattle.merkle_proofs.specs.Extracted.{told_nodes, inner_told, extracted_nodes, node_digests, AreExtracted}
use Rattle.merkle_theory.specs.Laws.MadeTrees.{choose}
use Rattle.merkle_theory.specs.MadeRoots.{peaks_of}
use Rattle.merkle_theory.specs.Plans.{sibling_nodes, inner_nodes, range_nodes, positions_of, first_missing}
use Rattle.merkle_proofs.specs.ProofStores.{Kept, AreFoldsOf, IsPart, IsRefusalToBuildPart, digest_among, front_peaks}
use Rattle.merkle_proofs.specs.ProofStores.{back_peaks, more_before, more_after, part_nodes, kept_nodes}
use Rattle.merkle_theory.specs.RangeCounts.{passing}
use Rattle.merkle_theory.specs.Ranges.{Digests, is_before, is_after, meets, singly}
use Rattle.merkle_theory.proofs.HonestRanges.{Ascend}
use Rattle.merkle_theory.proofs.HonestRoots.{ascend_located, length-as_one}
use Rattle.merkle_theory.proofs.PartFolds.{none_there, all_there, fewer_after, ascend_first, ascend_rest, before_parts, after_parts, all_before, all_after}
use Rattle.merkle_proofs.proofs.StoreNodes.{all_flat}

all_both : {A : Type 0} (P Q R : A → Type 0) (xs : List A) → ((x : A) → P x → Q x → R x) → All P xs → All Q xs → All R xs
all_both P Q R xs each one other = λ k d lt. each _ (one k d lt) (other k d lt)

-- what stands in a list and passes the test stands in the list of what passes
filter_has : {A : Type 0} (test : A → Bool) (xs : List A) → All (λ x. test x ≡ true → Contains (filter test xs) x) xs
filter_has test [] = All-nil (λ x. test x ≡ true → Contains [] x)
filter_has test (x ∷ xs) =
    let ys = filter test xs in
    All-cons (λ y. test y ≡ true → Contains (cond (test x) (x ∷ ys) ys) y) x xs
    (λ passes. subst (λ b. Contains (cond b (x ∷ ys) ys) x) (sym passes) (zero, omega arith, refl))
    (All-weaker (λ y. test y ≡ true → Contains ys y) (λ y. test y ≡ true → Contains (cond (test x) (x ∷ ys) ys) y)
    (λ y there passes. choose (λ l. Contains l y) (test x) (x ∷ ys) ys (λ is. Contains-append_right (x ∷ []) ys y (there passes)) (λ is. there passes))
    xs (filter_has test xs))

-- no peak from a location on stands before it
none_each : (own at : ℕ) (peaks : List Located) → own ≤ at → Ascend at peaks → All (λ n. is_before own n ≡ false) peaks
none_each own at [] le up = All-nil (λ n. is_before own n ≡ false)
none_each own at (peak ∷ peaks) le up =
    All-cons (λ n. is_before own n ≡ false) peak peaks (lt-leb (end_of peak) own (omega (arith, le, up.0, leaf_count-pos peak.1)))
    (none_each own (end_of peak) peaks (omega (arith, le, up.0)) up.1)

-- the peaks before a later location that are left do not stand before the earlier one
later_none : (own start at : ℕ) (peaks : List Located) → own ≤ start → Ascend at peaks
    → All (λ n. is_before own n ≡ false) (drop (passing (is_before own) peaks) (filter (is_before start) peaks))
later_none own start at [] le up = All-nil (λ n. is_before own n ≡ false)
later_none own start at (peak ∷ peaks) le up =
    ⊎_elim
    (λ (front : is_before own peak ≡ true). let end : end_of peak ≤ own = leb-true (end_of peak) own front in
    let later : is_before start peak ≡ true = le-leb (end_of peak) start (omega (arith, end, le)) in
    rw (front, later) (later_none own start (end_of peak) peaks le up.1))
    (λ (no : is_before own peak ≡ false). let end : own < end_of peak = leb-false (end_of peak) own no in
    let none = none_there own (end_of peak) peaks (omega (arith, end)) up.1 in
    let all = All-filter (is_before start) (λ n. is_before own n ≡ false) (peak ∷ peaks)
    (All-cons (λ n. is_before own n ≡ false) peak peaks no (none_each own (end_of peak) peaks (omega (arith, end)) up.1)) in
    rw (no, none) all)
    (cases_Bool (is_before own peak))

-- nor do those after an earlier location that come first stand after the later one
earlier_none : (own stop at : ℕ) (peaks : List Located) → stop ≤ own → Ascend at peaks
    → All (λ n. is_after own n ≡ false) (take (passing (is_after stop) peaks - passing (is_after own) peaks) (filter (is_after stop) peaks))
earlier_none own stop at [] le up = All-nil (λ n. is_after own n ≡ false)
earlier_none own stop at (peak ∷ peaks) le up =
    ⊎_elim
    (λ (near : is_after stop peak ≡ true).
    ⊎_elim
    (λ (far : is_after own peak ≡ true). let own_all = all_there own peak.0 (peak ∷ peaks) (leb-true own peak.0 far) (omega arith, up.1) in
    let all = all_there stop peak.0 (peak ∷ peaks) (leb-true stop peak.0 near) (omega arith, up.1) in
    let none : length (peak ∷ peaks) - length (peak ∷ peaks) ≡ 0 = omega arith in
    rw (own_all, all, none) (All-nil (λ n. is_after own n ≡ false)))
    (λ (not_far : is_after own peak ≡ false). let few = fewer_after own stop peaks le in
    let step : suc (passing (is_after stop) peaks) - passing (is_after own) peaks
    ≡ suc (passing (is_after stop) peaks - passing (is_after own) peaks) = omega (arith, few) in
    rw (near, not_far, step) (All-cons (λ n. is_after own n ≡ false) peak _ not_far (earlier_none own stop (end_of peak) peaks le up.1)))
    (cases_Bool (is_after own peak)))
    (λ (not_near : is_after stop peak ≡ false). let not_far : is_after own peak ≡ false =
    lt-leb own peak.0 (let it : peak.0 < stop = leb-false stop peak.0 not_near in omega (arith, it, le)) in
    rw (not_near, not_far) (earlier_none own stop (end_of peak) peaks le up.1))
    (cases_Bool (is_after stop peak))

-- a node that stands neither before a range nor after it meets it
pub meets_from : (start stop : ℕ) (n : Located) → is_before start n ≡ false → is_after stop n ≡ false → meets start stop n ≡ true
meets_from start stop n front back = ap₂ (λ x y. not (x || y)) front back

-- a node is told in itself
told_itself : (start stop at : ℕ) (t : Tree) → Contains (told_nodes start stop at t) (at, t)
told_itself start stop at (leaf p) = (zero, omega arith, refl)
told_itself start stop at (branch p left right) =
    let own : List Located = (at, branch p left right) ∷ [] in
    let lefts = told_nodes start stop at left in
    let rights = told_nodes start stop (at + leaf_count left) right in
    choose (λ l. Contains l (at, branch p left right)) (meets start stop (at, branch p left right)) (lefts ++ (rights ++ own)) own
    (λ met. Contains-append_right lefts (rights ++ own) (at, branch p left right)
    (Contains-append_right rights own (at, branch p left right) (zero, omega arith, refl)))
    (λ out. (zero, omega arith, refl))

module _ (own_start own_stop start stop : ℕ) (starts : own_start ≤ start) (some : start < stop) (stops : stop ≤ own_stop) where
  -- what is not beside a part is not beside the range
  meets_more : (n : Located) → meets start stop n ≡ true → meets own_start own_stop n ≡ true
  meets_more n met =
      ⊎_elim
      (λ (front : is_before own_start n ≡ true). let end : end_of n ≤ own_start = leb-true (end_of n) own_start front in
      let later : is_before start n ≡ true = le-leb (end_of n) start (omega (arith, end, starts)) in
      let out : meets start stop n ≡ false = ap (λ b. not (b || is_after stop n)) later in
      absurd cc)
      (λ (not_front : is_before own_start n ≡ false).
      ⊎_elim
      (λ (back : is_after own_stop n ≡ true). let from : own_stop ≤ n.0 = leb-true own_stop n.0 back in
      let earlier : is_after stop n ≡ true = le-leb stop n.0 (omega (arith, from, stops)) in
      ⊎_elim (λ (front : is_before start n ≡ true). let out : meets start stop n ≡ false = ap (λ b. not (b || is_after stop n)) front in absurd cc)
      (λ (no : is_before start n ≡ false). let out : meets start stop n ≡ false = ap₂ (λ x y. not (x || y)) no earlier in absurd cc)
      (cases_Bool (is_before start n)))
      (λ (not_back : is_after own_stop n ≡ false). meets_from own_start own_stop n not_front not_back)
      (cases_Bool (is_after own_stop n)))
      (cases_Bool (is_before own_start n))

  -- the nodes of a tree that a part's proof is made of are told
  sibling_told : (at : ℕ) (t : Tree) → All (Contains (told_nodes own_start own_stop at t)) (sibling_nodes start stop at t)
  sibling_told at (leaf p) =
      choose (All (Contains (told_nodes own_start own_stop at (leaf p)))) (meets start stop (at, leaf p)) [] ((at, leaf p) ∷ [])
      (λ met. All-nil (Contains (told_nodes own_start own_stop at (leaf p))))
      (λ out. All-cons (Contains (told_nodes own_start own_stop at (leaf p))) (at, leaf p) [] (told_itself own_start own_stop at (leaf p))
      (All-nil (Contains (told_nodes own_start own_stop at (leaf p)))))
  sibling_told at (branch p left right) =
      let t = branch p left right in
      let middle = at + leaf_count left in
      let own : List Located = (at, branch p left right) ∷ [] in
      let lefts = told_nodes own_start own_stop at left in
      let rights = told_nodes own_start own_stop middle right in
      let told = told_nodes own_start own_stop at (branch p left right) in
      let one = sibling_nodes start stop at left in
      let other = sibling_nodes start stop middle right in
      choose (All (Contains told)) (meets start stop (at, branch p left right)) (one ++ other) own
      (λ met. subst (λ b. All (Contains (cond b (lefts ++ (rights ++ own)) own)) (one ++ other)) (sym (meets_more (at, branch p left right) met))
      (All-append (Contains (lefts ++ (rights ++ own))) one other
      (All-weaker (Contains lefts) (Contains (lefts ++ (rights ++ own))) (λ n there. Contains-append_left lefts (rights ++ own) n there) one
      (sibling_told at left))
      (All-weaker (Contains rights) (Contains (lefts ++ (rights ++ own)))
      (λ n there. Contains-append_right lefts (rights ++ own) n (Contains-append_left rights own n there)) other (sibling_told middle right))))
      (λ out. All-cons (Contains told) (at, branch p left right) [] (told_itself own_start own_stop at (branch p left right)) (All-nil (Contains told)))

  -- what is told of a peak is told of all
  abbrev TellsAll : List Located → Located → Type 0
  TellsAll peaks peak = meets own_start own_stop peak ≡ true → (n : Located) → Contains (told_nodes own_start own_stop peak.0 peak.1) n
      → Contains (inner_told own_start own_stop peaks) n

  peaks_tell : (peaks : List Located) → All (TellsAll peaks) peaks
  peaks_tell [] = All-nil (TellsAll [])
  peaks_tell (peak ∷ peaks) =
      let own = told_nodes own_start own_stop peak.0 peak.1 in
      let others = inner_told own_start own_stop peaks in
      All-cons (TellsAll (peak ∷ peaks)) peak peaks
      (λ met n there. rw met (Contains-append_left own others n there))
      (All-weaker (TellsAll peaks) (TellsAll (peak ∷ peaks))
      (λ other tells met n there. ⊎_elim
      (λ (is : meets own_start own_stop peak ≡ true). rw is (Contains-append_right own others n (tells met n there)))
      (λ (no : meets own_start own_stop peak ≡ false). rw no (tells met n there))
      (cases_Bool (meets own_start own_stop peak)))
      peaks (peaks_tell peaks))

  module _ (k : ℕ) (peaks : List Located) (up : Ascend 0 peaks) where
    abbrev first_kept : List Located
    first_kept = filter (is_before own_start) (drop k peaks)

    abbrev then_kept : List Located
    then_kept = filter (is_after own_stop) (take k peaks)

    abbrev pub IsThere : Located → Type 0
    IsThere = Contains (extracted_nodes k own_start own_stop peaks)

    there_inner : (n : Located) → Contains (inner_told own_start own_stop peaks) n → IsThere n
    there_inner n it = Contains-append_right first_kept (then_kept ++ inner_told own_start own_stop peaks) n
        (Contains-append_right then_kept (inner_told own_start own_stop peaks) n it)

    -- a peak that meets the range is kept
    abbrev IsThereMet : Located → Type 0
    IsThereMet peak = meets own_start own_stop peak ≡ true → IsThere peak

    all_met : All IsThereMet peaks
    all_met = All-weaker (TellsAll peaks) IsThereMet
        (λ peak tells met. there_inner peak (tells met peak (told_itself own_start own_stop peak.0 peak.1))) peaks (peaks_tell peaks)

    -- what is before a part is not after the range, and the other way round
    not_after : (n : Located) → is_before start n ≡ true → is_after own_stop n ≡ false
    not_after n front = let end : end_of n ≤ start = leb-true (end_of n) start front in
        lt-leb own_stop n.0 (omega (arith, end, some, stops, leaf_count-pos n.1))

    not_before : (n : Located) → is_after stop n ≡ true → is_before own_start n ≡ false
    not_before n back = let from : stop ≤ n.0 = leb-true stop n.0 back in
        lt-leb (end_of n) own_start (omega (arith, from, some, starts, leaf_count-pos n.1))

    abbrev more_front : List Located
    more_front = drop (passing (is_before own_start) (take k peaks)) (filter (is_before start) (take k peaks))

    abbrev more_back : List Located
    more_back = take (passing (is_after stop) (drop k peaks) - passing (is_after own_stop) (drop k peaks)) (filter (is_after stop) (drop k peaks))

    abbrev MetBefore : Located → Type 0
    MetBefore n = IsThereMet n × (is_before start n ≡ true)

    abbrev MetAfter : Located → Type 0
    MetAfter n = IsThereMet n × (is_after stop n ≡ true)

    before_there : All IsThere (drop (passing (is_before own_start) (take k peaks)) (filter (is_before start) peaks))
    before_there =
        let cut = passing (is_before own_start) (take k peaks) in
        let firsts = filter (is_before start) (take k peaks) in
        let lasts = filter (is_before start) (drop k peaks) in
        let met_firsts = All-drop MetBefore cut firsts (all_both IsThereMet (λ n. is_before start n ≡ true) MetBefore firsts (λ n x y. (x, y))
        (All-filter (is_before start) IsThereMet (take k peaks) (All-take IsThereMet k peaks all_met)) (filter_passes (is_before start) (take k peaks))) in
        let met_lasts = all_both IsThereMet (λ n. is_before start n ≡ true) MetBefore lasts (λ n x y. (x, y))
        (All-filter (is_before start) IsThereMet (drop k peaks) (All-drop IsThereMet k peaks all_met)) (filter_passes (is_before start) (drop k peaks)) in
        let has = All-filter (is_before start) (λ n. is_before own_start n ≡ true → Contains first_kept n) (drop k peaks)
        (filter_has (is_before own_start) (drop k peaks)) in
        subst (All IsThere) (sym (before_parts own_start start k peaks starts up))
        (All-append IsThere more_front lasts
        (all_both (λ n. is_before own_start n ≡ false) MetBefore IsThere more_front
        (λ n no met. met.0 (meets_from own_start own_stop n no (not_after n met.1)))
        (later_none own_start start 0 (take k peaks) starts (ascend_first k 0 peaks up)) met_firsts)
        (all_both (λ n. is_before own_start n ≡ true → Contains first_kept n) MetBefore IsThere lasts
        (λ n it met. ⊎_elim (λ front. Contains-append_left first_kept (then_kept ++ inner_told own_start own_stop peaks) n (it front))
        (λ no. met.0 (meets_from own_start own_stop n no (not_after n met.1))) (cases_Bool (is_before own_start n)))
        has met_lasts))

    after_there : All IsThere (take (passing (is_after stop) peaks - passing (is_after own_stop) (drop k peaks)) (filter (is_after stop) peaks))
    after_there =
        let cut = passing (is_after stop) (drop k peaks) - passing (is_after own_stop) (drop k peaks) in
        let firsts = filter (is_after stop) (take k peaks) in
        let lasts = filter (is_after stop) (drop k peaks) in
        let met_firsts = all_both IsThereMet (λ n. is_after stop n ≡ true) MetAfter firsts (λ n x y. (x, y))
        (All-filter (is_after stop) IsThereMet (take k peaks) (All-take IsThereMet k peaks all_met)) (filter_passes (is_after stop) (take k peaks)) in
        let met_lasts = All-take MetAfter cut lasts (all_both IsThereMet (λ n. is_after stop n ≡ true) MetAfter lasts (λ n x y. (x, y))
        (All-filter (is_after stop) IsThereMet (drop k peaks) (All-drop IsThereMet k peaks all_met)) (filter_passes (is_after stop) (drop k peaks))) in
        let has = All-filter (is_after stop) (λ n. is_after own_stop n ≡ true → Contains then_kept n) (take k peaks)
        (filter_has (is_after own_stop) (take k peaks)) in
        subst (All IsThere) (sym (after_parts own_stop stop k peaks stops up))
        (All-append IsThere firsts more_back
        (all_both (λ n. is_after own_stop n ≡ true → Contains then_kept n) MetAfter IsThere firsts
        (λ n it met. ⊎_elim (λ back. Contains-append_right first_kept (then_kept ++ inner_told own_start own_stop peaks) n
        (Contains-append_left then_kept (inner_told own_start own_stop peaks) n (it back)))
        (λ no. met.0 (meets_from own_start own_stop n (not_before n met.1) no)) (cases_Bool (is_after own_stop n)))
        has met_firsts)
        (all_both (λ n. is_after own_stop n ≡ false) MetAfter IsThere more_back
        (λ n no met. met.0 (meets_from own_start own_stop n (not_before n met.1) no))
        (earlier_none own_stop stop 0 (drop k peaks) stops (ascend_rest k 0 peaks up)) met_lasts))

    inner_there : All IsThere (inner_nodes start stop peaks)
    inner_there =
        let met = all_both (TellsAll peaks) (λ n. meets start stop n ≡ true) (λ n. TellsAll peaks n × (meets start stop n ≡ true))
        (filter (meets start stop) peaks) (λ n x y. (x, y)) (All-filter (meets start stop) (TellsAll peaks) peaks (peaks_tell peaks))
        (filter_passes (meets start stop) peaks) in
        all_flat (λ n. TellsAll peaks n × (meets start stop n ≡ true)) IsThere (λ peak. sibling_nodes start stop peak.0 peak.1)
        (filter (meets start stop) peaks)
        (λ peak it. All-weaker (Contains (told_nodes own_start own_stop peak.0 peak.1)) IsThere
        (λ n here. there_inner n (it.0 (meets_more peak it.1) n here)) (sibling_nodes start stop peak.0 peak.1) (sibling_told peak.0 peak.1)) met

    pub all_there_of_part : All IsThere (drop (passing (is_before own_start) (take k peaks)) (filter (is_before start) peaks)
        ++ (take (passing (is_after stop) peaks - passing (is_after own_stop) (drop k peaks)) (filter (is_after stop) peaks)
        ++ inner_nodes start stop peaks))
    all_there_of_part =
        All-append IsThere _ _ before_there (All-append IsThere _ _ after_there inner_there)

-- the nodes of the proof of a part are kept
pub part_kept : {D : Type 0} (rule : Rule) (store : Kept D) (start stop : ℕ) → IsPart store start stop
    → All (Contains (kept_nodes rule store)) (part_nodes rule store start stop)
part_kept rule store start stop part =
    all_there_of_part store.start store.stop start stop part.begins part.some part.ends store.singles (peaks_of rule store.leaves)
    (ascend_located (forest_of rule store.leaves))

pub part_planned : {D : Type 0} (rule : Rule) (store : Kept D) (start stop : ℕ) → IsPart store start stop
    → range_nodes start stop (peaks_of rule store.leaves) ≡ (front_peaks rule store ++ more_before rule store start)
    ++ ((more_after rule store stop ++ back_peaks rule store) ++ inner_nodes start stop (peaks_of rule store.leaves))
part_planned rule store start stop part =
    let peaks = peaks_of rule store.leaves in
    let up = ascend_located (forest_of rule store.leaves) in
    ap₂ (λ xs ys. xs ++ (ys ++ inner_nodes start stop peaks)) (all_before store.start start store.singles peaks part.begins up)
    (all_after store.stop stop store.singles peaks part.ends up)

-- where there are peaks that are folded with others, their fold is there
pub folds_there : {D : Type 0} (encoding : D → List ℕ) (hash : Hash) (rule : Rule) (digest : Digests) (store : Kept D)
    → AreFoldsOf encoding hash rule digest store
    → (length store.front ≡ min 1 (length (front_peaks rule store))) × (length store.back ≡ min 1 (length (back_peaks rule store)))
folds_there encoding hash rule digest store are =
    let count : (ps : List Located) → length (singly digest ps) ≡ length ps = λ ps. length-map ps (λ (p : Located). digest p.0 p.1) in (
      sym (length-map store.front encoding) ∙ ap length are.front ∙ length-as_one (folded_forward hash) (singly digest (front_peaks rule store))
          ∙ ap (min 1) (count (front_peaks rule store)),
      sym (length-map store.back encoding) ∙ ap length are.back ∙ length-as_one (folded_backward hash) (singly digest (back_peaks rule store))
          ∙ ap (min 1) (count (back_peaks rule store)),
    )

module _ {D : Type 0} (encoding : D → List ℕ) where
  -- of a node at this position the digest is known
  abbrev IsKnownIn : List (ℕ × D) → ℕ → Type 0
  IsKnownIn nodes p = is_none (digest_among encoding nodes p) ≡ false

  known_own : (nodes : List (ℕ × D)) → All (λ n. IsKnownIn nodes n.0) nodes
  known_own [] = All-nil (λ n. IsKnownIn [] n.0)
  known_own (n ∷ nodes) =
      All-cons (λ m. IsKnownIn (n ∷ nodes) m.0) n nodes (rw (eq-eqb n.0 n.0 refl) refl)
      (All-weaker (λ m. IsKnownIn nodes m.0) (λ m. IsKnownIn (n ∷ nodes) m.0)
      (λ m known. choose (λ o. is_none (option_map (λ x. encoding x.1) o) ≡ false) (n.0 == m.0) (Some n) (find (λ x. x.0 == m.0) nodes)
      (λ is. refl) (λ no. known)) nodes (known_own nodes))

  carried : (Q : ℕ → Type 0) (digest : Digests) (nodes : List Located) (told : List (ℕ × D)) → encoded encoding told ≡ node_digests digest nodes
      → All (λ n. Q n.0) told → All (λ n. Q (position n.1)) nodes
  carried Q digest [] told same all = All-nil (λ n. Q (position n.1))
  carried Q digest (at ∷ nodes) [] same all = absurd cc
  carried Q digest (at ∷ nodes) (n ∷ told) same all =
      let one : ℕ × List ℕ = (n.0, encoding n.1) in
      let other : ℕ × List ℕ = (position at.1, digest at.0 at.1) in
      let first : one ≡ other = cc in
      let others : encoded encoding told ≡ node_digests digest nodes = cc in
      All-cons (λ m. Q (position m.1)) at nodes (subst Q (ap (λ x. x.0) first) (All-head (λ m. Q m.0) n told all))
      (carried Q digest nodes told others (All-tail (λ m. Q m.0) n told all))

  none_found : (test : ℕ → Bool) (ps : List ℕ) → All (λ p. test p ≡ false) ps → find test ps ≡ None
  none_found test [] all = refl
  none_found test (p ∷ ps) all =
      rw (All-head (λ q. test q ≡ false) p ps all) (none_found test ps (All-tail (λ q. test q ≡ false) p ps all))

  pub none_missing : (rule : Rule) (digest : Digests) (store : Kept D) (start stop : ℕ) → IsPart store start stop
      → AreExtracted encoding digest (kept_nodes rule store) store.nodes
      → first_missing (digest_among encoding store.nodes) (positions_of (part_nodes rule store start stop)) ≡ None
  none_missing rule digest store start stop part are =
      let Q : ℕ → Type 0 = IsKnownIn store.nodes in
      let told = All-permutation (λ n. Q n.0) store.nodes are.told (IsPermutation-sym are.told store.nodes are.all) (known_own store.nodes) in
      let kept = carried Q digest (kept_nodes rule store) are.told are.is told in
      none_found (λ p. is_none (digest_among encoding store.nodes p)) (positions_of (part_nodes rule store start stop))
      (All-map Q (λ n. position n.1) (part_nodes rule store start stop)
      (All-weaker (Contains (kept_nodes rule store)) (λ n. Q (position n.1))
      (λ n there. All-contains (λ m. Q (position m.1)) (kept_nodes rule store) n kept there)
      (part_nodes rule store start stop) (part_kept rule store start stop part)))

  pub memory_alone : {F : Type 0} (rule : Rule) (digest : Digests) (store : Kept D) (start stop : ℕ) (e : Error F) → IsPart store start stop
      → AreExtracted encoding digest (kept_nodes rule store) store.nodes → IsRefusalToBuildPart rule encoding store start stop e → e ≡ Memory
  memory_alone rule digest store start stop Empty part are why = absurd (omega (arith, part.some, why))
  memory_alone rule digest store start stop (RangeOutOfBounds end) part are why =
      absurd (⊎_elim (λ early. omega (arith, early, part.begins)) (λ late. omega (arith, late, part.ends)) why.2)
  memory_alone rule digest store start stop (ElementPruned p) part are why =
      let none = none_missing rule digest store start stop part are in
      let some = why.1 in
      absurd cc
  memory_alone rule digest store start stop Memory part are why = refl
  memory_alone rule digest store start stop e part are why = absurd why
