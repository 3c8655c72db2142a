-- Each proof of a range that leads to a root gives the digests of its nodes.
use Rattle.std.proofs.Common.{◌≡◌, ⊎_elim, ℕ, ◌+◌, ◌<◌, ◌≤◌, min, Bool, true, false, not, ◌||◌, ◌^◌, cond, List, []}
use Rattle.std.proofs.Common.{◌∷◌, ◌++◌, length, filter, take, drop, Option, None, Some, IfSome, option_map}
use Rattle.std.proofs.Common.{option_and_then, refl, sym, ◌∙◌, ap, ap₂, subst, arith, append_assoc}
use Rattle.std.specs.List.{AllByRecursion}
use Rattle.std.specs.Prelude.{unwrap_or, nat_lt}
use Rattle.std.proofs.lemmas.Bool.{cases_Bool, leb-true, leb-false, le-leb, lt-leb, ltb-true}
use Rattle.std.proofs.lemmas.List.{length-append, length-map, map-append, take-append-drop, length-take-le, length-drop}
use Rattle.std.proofs.lemmas.List.Elements.{filter-append}
use Rattle.merkle_forest.specs.declared.bagging.Bagging.{Bagging}
use Rattle.merkle_forest.specs.Forest.{Tree, leaf, branch, position, leaf_count, Rule, forest_of}
use Rattle.merkle_forest.specs.Hashing.{folded_forward, folded_backward}
use Rattle.merkle_forest.specs.Laws.Peaks.{leaf_count-pos}
use Rattle.merkle_forest.specs.Made.{Made}
use Rattle.merkle_forest.specs.Perfect.{IsPairing}
use Rattle.merkle_forest.specs.Trees.{Located, end_of}
use Rattle.merkle_proofs.specs.Extracted.{AreMadeOf, AreGiven}
use Rattle.merkle_theory.specs.Laws.MadeTrees.{choose}
use Rattle.merkle_theory.specs.MadeRoots.{Naming, Bagged, from_left, peaks_of, root_made, used, read_bag}
use Rattle.merkle_theory.specs.MadeTrees.{Over, Elements, from}
use Rattle.merkle_theory.specs.Pinned.{at_peak}
use Rattle.merkle_theory.specs.Plans.{Lookup, sibling_nodes, inner_nodes}
use Rattle.merkle_theory.specs.RangeCounts.{passing, range_outer}
use Rattle.merkle_theory.specs.Ranges.{Digests, is_before, is_after, meets, as_one, singly, inner_digests}
use Rattle.merkle_theory.specs.Reads.{range_root}
use Rattle.merkle_theory.proofs.DigestCounts.{used_all}
use Rattle.merkle_theory.proofs.HonestRanges.{Ascend}
use Rattle.merkle_theory.proofs.HonestRoots.{ascend_located, length-as_one, outer_same, outer_length}
use Rattle.merkle_theory.proofs.Lookups.{IsNode, all_append, all_front, all_back, range_all}
use Rattle.merkle_theory.proofs.PartFolds.{none_there, all_there, ascend_from}
use Rattle.merkle_proofs.proofs.PinnedCover.{siblings_up}
use Rattle.merkle_proofs.proofs.PinnedMade.{Distinct, distinct, each_pinned}
use Rattle.merkle_proofs.proofs.PinnedSound.{same_parts}
use Rattle.merkle_theory.proofs.PlanFolds.{inner_of}
use Rattle.merkle_theory.proofs.PlanNodes.{siblings_out, siblings_leaf, siblings_branch, inner_met, inner_out, passed, failed}

-- a list in two parts
cut_at : {A : Type 0} (n m : ℕ) (xs : List A) → length xs ≡ n + m
    → (front : List A) × (back : List A) × (xs ≡ front ++ back) × (length front ≡ n) × (length back ≡ m)
cut_at n m xs long = (
  take n xs,
  drop n xs,
  sym (take-append-drop n xs),
  length-take-le n xs (omega (arith, long)),
  omega (arith, long, length-drop n xs),
)

sums : (n r f a b k i : ℕ) → n ≡ r + i → r ≡ f + (a + (b + k)) → n ≡ f + (b + (a + (k + i)))
sums n r f a b k i whole outer = omega (arith, whole, outer)

joined_long : {X Y : Type 0} (a b : List X) (c d : List Y) → length a ≡ length c → length b ≡ length d → length (a ++ b) ≡ length (c ++ d)
joined_long a b c d one other = length-append a b ∙ ap₂ (λ x y. x + y) one other ∙ sym (length-append c d)

module _ (start stop : ℕ) (some : start < stop) where
  front_out : (n : Located) → is_before start n ≡ true → meets start stop n ≡ false
  front_out n front = ap (λ b. not (b || is_after stop n)) front

  back_not_front : (n : Located) → is_after stop n ≡ true → is_before start n ≡ false
  back_not_front n back = let far : stop ≤ n.0 = leb-true stop n.0 back in lt-leb (end_of n) start (omega (arith, far, some, leaf_count-pos n.1))

  back_out : (n : Located) → is_after stop n ≡ true → meets start stop n ≡ false
  back_out n back = ap₂ (λ x y. not (x || y)) (back_not_front n back) back

  front_not_back : (n : Located) → is_before start n ≡ true → is_after stop n ≡ false
  front_not_back n front = let near : end_of n ≤ start = leb-true (end_of n) start front in
      lt-leb stop n.0 (omega (arith, near, some, leaf_count-pos n.1))

  -- behind the range no peak meets it
  none_met : (at : ℕ) (peaks : List Located) → stop ≤ at → Ascend at peaks → inner_nodes start stop peaks ≡ []
  none_met at [] le up = refl
  none_met at (peak ∷ peaks) le up =
      inner_out start stop peak peaks (back_out peak (le-leb stop peak.0 (omega (arith, le, up.0))))
      ∙ none_met (end_of peak) peaks (omega (arith, le, up.0)) up.1

  abbrev pub ordered : List Located → List Located
  ordered peaks = filter (is_before start) peaks ++ (inner_nodes start stop peaks ++ filter (is_after stop) peaks)

  -- the peaks before the range, the nodes of its proof in those that meet it, and those after it ascend
  pub ordered_up : (at : ℕ) (peaks : List Located) → Ascend at peaks → Ascend at (ordered peaks)
  ordered_up at [] up = tt
  ordered_up at (peak ∷ peaks) up =
      let befores = filter (is_before start) peaks in
      let inner = inner_nodes start stop peaks in
      let afters = filter (is_after stop) peaks in
      let rest = ordered_up (end_of peak) peaks up.1 in
      ⊎_elim
      (λ (front : is_before start peak ≡ true).
      let is : ordered (peak ∷ peaks) ≡ peak ∷ ordered peaks =
      ap₂ (λ xs ys. xs ++ ys) (passed (is_before start) peak peaks front)
      (ap₂ (λ xs ys. xs ++ ys) (inner_out start stop peak peaks (front_out peak front))
      (failed (is_after stop) peak peaks (front_not_back peak front))) in
      subst (Ascend at) (sym is) (up.0, rest))
      (λ (not_front : is_before start peak ≡ false).
      let past : start < end_of peak = leb-false (end_of peak) start not_front in
      let none : befores ≡ [] = none_there start (end_of peak) peaks (omega (arith, past)) up.1 in
      let no_front : filter (is_before start) (peak ∷ peaks) ≡ [] = failed (is_before start) peak peaks not_front ∙ none in
      ⊎_elim
      (λ (back : is_after stop peak ≡ true).
      let far : stop ≤ peak.0 = leb-true stop peak.0 back in
      let no_inner : inner_nodes start stop (peak ∷ peaks) ≡ [] = none_met peak.0 (peak ∷ peaks) far (omega arith, up.1) in
      let is : ordered (peak ∷ peaks) ≡ peak ∷ peaks =
      ap₂ (λ xs ys. xs ++ ys) no_front (ap₂ (λ xs ys. xs ++ ys) no_inner (all_there stop peak.0 (peak ∷ peaks) far (omega arith, up.1))) in
      subst (Ascend at) (sym is) up)
      (λ (not_back : is_after stop peak ≡ false).
      let met : meets start stop peak ≡ true = ap₂ (λ x y. not (x || y)) not_front not_back in
      let own = sibling_nodes start stop peak.0 peak.1 in
      let is : ordered (peak ∷ peaks) ≡ own ++ (inner ++ afters) =
      ap₂ (λ xs ys. xs ++ ys) no_front (ap₂ (λ xs ys. xs ++ ys) (inner_met start stop peak peaks met) (failed (is_after stop) peak peaks not_back))
      ∙ append_assoc own inner afters in
      subst (Ascend at) (sym is) (ascend_from at peak.0 (own ++ (inner ++ afters)) up.0
      (siblings_up start stop peak.0 peak.1 (inner ++ afters) (subst (λ xs. Ascend (end_of peak) (xs ++ (inner ++ afters))) none rest))))
      (cases_Bool (is_after stop peak)))
      (cases_Bool (is_before start peak))

  -- no node that a proof is made of meets the range
  abbrev pub IsOut : Located → Type 0
  IsOut n = meets start stop n ≡ false

  siblings_apart : (at : ℕ) (t : Tree) → AllByRecursion IsOut (sibling_nodes start stop at t)
  siblings_apart at (leaf p) =
      ⊎_elim (λ met. subst (AllByRecursion IsOut) (sym (siblings_leaf start stop at p met)) tt)
      (λ out. subst (AllByRecursion IsOut) (sym (siblings_out start stop at (leaf p) out)) (out, tt)) (cases_Bool (meets start stop (at, leaf p)))
  siblings_apart at (branch p left right) =
      let lefts = sibling_nodes start stop at left in
      let rights = sibling_nodes start stop (at + leaf_count left) right in
      ⊎_elim (λ met. subst (AllByRecursion IsOut) (sym (siblings_branch start stop at p left right met))
      (all_append IsOut lefts rights (siblings_apart at left) (siblings_apart (at + leaf_count left) right)))
      (λ out. subst (AllByRecursion IsOut) (sym (siblings_out start stop at (branch p left right) out)) (out, tt))
      (cases_Bool (meets start stop (at, branch p left right)))

  pub inner_apart : (peaks : List Located) → AllByRecursion IsOut (inner_nodes start stop peaks)
  inner_apart [] = tt
  inner_apart (peak ∷ peaks) =
      ⊎_elim (λ met. subst (AllByRecursion IsOut) (sym (inner_met start stop peak peaks met))
      (all_append IsOut (sibling_nodes start stop peak.0 peak.1) (inner_nodes start stop peaks) (siblings_apart peak.0 peak.1) (inner_apart peaks)))
      (λ out. subst (AllByRecursion IsOut) (sym (inner_out start stop peak peaks out)) (inner_apart peaks)) (cases_Bool (meets start stop peak))

  pub side_apart : (test : Located → Bool) → ((n : Located) → test n ≡ true → IsOut n) → (peaks : List Located)
      → AllByRecursion IsOut (filter test peaks)
  side_apart test out [] = tt
  side_apart test out (peak ∷ peaks) =
      ⊎_elim (λ is. subst (AllByRecursion IsOut) (sym (passed test peak peaks is)) (out peak is, side_apart test out peaks))
      (λ no_pass. subst (AllByRecursion IsOut) (sym (failed test peak peaks no_pass)) (side_apart test out peaks)) (cases_Bool (test peak))

  -- how many outer digests there are
  pub outer_counted : (bagging : Bagging) (inactive : ℕ) (peaks : List Located) → Ascend 0 peaks
      → let k = from_left bagging inactive (length peaks) in
      range_outer bagging start stop inactive peaks
      ≡ min 1 (passing (is_before start) (take k peaks)) + (passing (is_after stop) (take k peaks) + (passing (is_before start) (drop k peaks)
      + min 1 (passing (is_after stop) (drop k peaks))))
  outer_counted bagging inactive peaks up =
      let k = from_left bagging inactive (length peaks) in
      let G : Digests = λ at t. [] in
      let H : List ℕ → List ℕ = λ xs. xs in
      let a = singly G (filter (is_before start) (take k peaks)) in
      let b = singly G (filter (is_after stop) (take k peaks)) in
      let c = singly G (filter (is_before start) (drop k peaks)) in
      let d = singly G (filter (is_after stop) (drop k peaks)) in
      let counts : (test : Located → Bool) (ps : List Located) → length (singly G (filter test ps)) ≡ passing test ps =
      λ test ps. length-map (filter test ps) (λ (p : Located). G p.0 p.1) in
      sym (outer_length H G start stop some bagging inactive peaks) ∙ ap length (outer_same H G start stop some bagging inactive peaks up)
      ∙ length-append (as_one (folded_forward H) a) (b ++ (c ++ as_one (folded_backward H) d))
      ∙ ap₂ (λ x y. x + y) (length-as_one (folded_forward H) a ∙ ap (min 1) (counts (is_before start) (take k peaks)))
      (length-append b (c ++ as_one (folded_backward H) d)
      ∙ ap₂ (λ x y. x + y) (counts (is_after stop) (take k peaks)) (length-append c (as_one (folded_backward H) d)
      ∙ ap₂ (λ x y. x + y) (counts (is_before start) (drop k peaks))
      (length-as_one (folded_backward H) d ∙ ap (min 1) (counts (is_after stop) (drop k peaks)))))

-- digests of trees that are made of elements, and of what is known of the nodes beside them
module _ (leaf_of : ℕ → List ℕ → List ℕ) (node_of : ℕ → List ℕ → List ℕ → List ℕ) (elements : Elements)
    (start stop : ℕ) (known : Lookup) where
  abbrev pub shown_digest : Digests
  shown_digest at (leaf p) = cond (meets start stop (at, leaf p)) (leaf_of p (elements at)) (unwrap_or (known p) [])
  shown_digest at (branch p left right) =
      cond (meets start stop (at, branch p left right)) (node_of p (shown_digest at left) (shown_digest (at + leaf_count left) right))
      (unwrap_or (known p) [])

  pub shown_made : AreMadeOf leaf_of node_of elements start stop shown_digest
  shown_made = record {
    leaf = λ at p met. ap (λ b. cond b (leaf_of p (elements at)) (unwrap_or (known p) [])) met;
    branch = λ at p left right met. ap (λ b. cond b (node_of p (shown_digest at left) (shown_digest (at + leaf_count left) right))
        (unwrap_or (known p) [])) met;
  }

  abbrev pub known_digest : Digests
  known_digest at t = unwrap_or (known (position t)) []

  shown_out : (at : ℕ) (t : Tree) → meets start stop (at, t) ≡ false → shown_digest at t ≡ known_digest at t
  shown_out at (leaf p) out = ap (λ b. cond b (leaf_of p (elements at)) (unwrap_or (known p) [])) out
  shown_out at (branch p left right) out = ap (λ b. cond b (node_of p (shown_digest at left) (shown_digest (at + leaf_count left) right))
      (unwrap_or (known p) [])) out

  pub all_out : (ns : List Located) → AllByRecursion (λ n. meets start stop n ≡ false) ns → singly known_digest ns ≡ singly shown_digest ns
  all_out [] all = refl
  all_out (n ∷ ns) all = ap₂ (λ x xs. x ∷ xs) (sym (shown_out n.0 n.1 all.0)) (all_out ns all.1)

pub record HasGiven (leaf_of : ℕ → List ℕ → List ℕ) (node_of : ℕ → List ℕ → List ℕ → List ℕ) (elements : Elements) (start stop k : ℕ)
    (peaks : List Located) (digests : List (List ℕ)) : Type 0 where
  pub digest : Digests
  pub made : AreMadeOf leaf_of node_of elements start stop digest
  pub given : AreGiven k start stop peaks digest digests

module _ (leaf_of : ℕ → List ℕ → List ℕ) (node_of : ℕ → List ℕ → List ℕ → List ℕ) (elements : Elements) (rule : Rule)
    (pairs : IsPairing rule)
    (leaf_total inactive : ℕ) (bagging : Bagging) (start stop : ℕ) (some : start < stop) (digests : List (List ℕ)) where
  abbrev peaks : List Located
  peaks = peaks_of rule leaf_total

  abbrev k : ℕ
  k = from_left bagging inactive (length peaks)

  abbrev F : List Located
  F = filter (is_before start) (take k peaks)

  abbrev B : List Located
  B = filter (is_before start) (drop k peaks)

  abbrev A : List Located
  A = filter (is_after stop) (take k peaks)

  abbrev K : List Located
  K = filter (is_after stop) (drop k peaks)

  abbrev I : List Located
  I = inner_nodes start stop peaks

  halved : (test : Located → Bool) → filter test peaks ≡ filter test (take k peaks) ++ filter test (drop k peaks)
  halved test = ap (filter test) (sym (take-append-drop k peaks)) ∙ filter-append test (take k peaks) (drop k peaks)

  abbrev nodes : List Located
  nodes = F ++ (B ++ (I ++ (A ++ K)))

  nodes_are : ordered start stop some peaks ≡ nodes
  nodes_are = ap₂ (λ xs ys. xs ++ (I ++ ys)) (halved (is_before start)) (halved (is_after stop)) ∙ append_assoc F B (I ++ (A ++ K))

  nodes_distinct : Distinct nodes
  nodes_distinct =
      let trees = forest_of rule leaf_total in
      let befores = filter (is_before start) peaks in
      let afters = filter (is_after stop) peaks in
      let P = IsNode trees in
      let all = range_all trees start stop in
      let later = all_back P befores (afters ++ I) all in
      distinct rule pairs leaf_total 0 nodes (subst (Ascend 0) nodes_are (ordered_up start stop some 0 peaks (ascend_located trees)))
      (subst (AllByRecursion P) nodes_are (all_append P befores (I ++ afters) (all_front P befores (afters ++ I) all)
      (all_append P I afters (all_back P afters I later) (all_front P afters I later))))

  every : (known : Lookup) (ns : List Located) → AllByRecursion (λ n. (d : List ℕ) → known (position n.1) ≡ Some d
      → d ≡ unwrap_or (known (position n.1)) []) ns
  every known [] = tt
  every known (n ∷ ns) = ((λ d is. sym (ap (λ o. unwrap_or o []) is)), every known ns)

  pub has_given : length digests ≡ range_outer bagging start stop inactive peaks + length (inner_nodes start stop peaks)
      → HasGiven leaf_of node_of elements start stop k peaks digests
  has_given counted =
      let total : length digests ≡ min 1 (length F) + (length B + (length A + (min 1 (length K) + length I))) =
      sums (length digests) (range_outer bagging start stop inactive peaks) (min 1 (length F)) (length A) (length B) (min 1 (length K)) (length I) counted
      (outer_counted start stop some bagging inactive peaks (ascend_located (forest_of rule leaf_total))) in
      let one = cut_at (min 1 (length F)) (length B + (length A + (min 1 (length K) + length I))) digests total in
      let two = cut_at (length B) (length A + (min 1 (length K) + length I)) one.1 one.4 in
      let three = cut_at (length A) (min 1 (length K) + length I) two.1 two.4 in
      let four = cut_at (min 1 (length K)) (length I) three.1 three.4 in
      let nothing : List Located → List (List ℕ) = singly (λ at t. []) in
      let table = nothing F ++ (two.0 ++ (four.1 ++ (three.0 ++ nothing K))) in
      let known = at_peak nodes table in
      let G = known_digest leaf_of node_of elements start stop known in
      let digest = shown_digest leaf_of node_of elements start stop known in
      let count : (D : Digests) (ns : List Located) → length (singly D ns) ≡ length ns = λ D ns. length-map ns (λ (n : Located). D n.0 n.1) in
      let long : length table ≡ length nodes =
      joined_long (nothing F) (two.0 ++ (four.1 ++ (three.0 ++ nothing K))) F (B ++ (I ++ (A ++ K))) (count (λ at t. []) F)
      (joined_long two.0 (four.1 ++ (three.0 ++ nothing K)) B (I ++ (A ++ K)) two.3
      (joined_long four.1 (three.0 ++ nothing K) I (A ++ K) four.4 (joined_long three.0 (nothing K) A K three.3 (count (λ at t. []) K)))) in
      let both : (xs ys : List Located) → singly G (xs ++ ys) ≡ singly G xs ++ singly G ys = λ xs ys. map-append (λ (n : Located). G n.0 n.1) xs ys in
      let all : table ≡ singly G F ++ (singly G B ++ (singly G I ++ (singly G A ++ singly G K))) =
      each_pinned G nodes table long nodes_distinct (every known nodes)
      ∙ both F (B ++ (I ++ (A ++ K))) ∙ ap (λ xs. singly G F ++ xs) (both B (I ++ (A ++ K))
      ∙ ap (λ xs. singly G B ++ xs) (both I (A ++ K) ∙ ap (λ xs. singly G I ++ xs) (both A K))) in
      let after_front = same_parts (nothing F) (two.0 ++ (four.1 ++ (three.0 ++ nothing K))) (singly G F) _
      (count (λ at t. []) F ∙ sym (count G F)) all in
      let befores = same_parts two.0 (four.1 ++ (three.0 ++ nothing K)) (singly G B) _ (two.3 ∙ sym (count G B)) after_front.1 in
      let inners = same_parts four.1 (three.0 ++ nothing K) (singly G I) _ (four.4 ∙ sym (count G I)) befores.1 in
      let afters = same_parts three.0 (nothing K) (singly G A) _ (three.3 ∙ sym (count G A)) inners.1 in
      let out = all_out leaf_of node_of elements start stop known in
      let before_is : two.0 ≡ singly digest B =
      befores.0 ∙ out B (side_apart start stop some (is_before start) (front_out start stop some) (drop k peaks)) in
      let after_is : three.0 ≡ singly digest A =
      afters.0 ∙ out A (side_apart start stop some (is_after stop) (back_out start stop some) (take k peaks)) in
      let inner_is : four.1 ≡ inner_digests digest start stop peaks =
      inners.0 ∙ out I (inner_apart start stop some peaks) ∙ sym (inner_of digest start stop peaks) in
      record {
        digest = digest;
        made = shown_made leaf_of node_of elements start stop known;
        given = record {
          front = one.0;
          back = four.0;
          is = one.2 ∙ ap (λ xs. one.0 ++ xs) (two.2 ∙ ap₂ (λ xs ys. xs ++ ys) before_is (three.2 ∙ ap₂ (λ xs ys. xs ++ ys) after_is
              (four.2 ∙ ap (λ xs. four.0 ++ xs) inner_is)));
          fronts = one.3;
          backs = four.3;
        };
      }

-- where a root is read each digest is used
root_used : (X : Type 0) (f : Made → Made) (got : Bagged) → ((made : Made) → got ≡ Some (made, ([], [])) → X)
    → IfSome (option_map f (option_and_then used got)) (λ made. X)
root_used X f None each = tt
root_used X f (Some (made, ([], []))) each = each made refl
root_used X f (Some (made, ((d ∷ outers), inners))) each = tt
root_used X f (Some (made, ([], (d ∷ inners)))) each = tt

bag_counted : (names : Naming) (over : Over) (elements : Elements) (bagging : Bagging) (start stop inactive : ℕ) (f : Made → Made)
    (peaks : List Located) → start < stop → Ascend 0 peaks → (digests : List (List ℕ))
    → let outer = range_outer bagging start stop inactive peaks in
    IfSome (option_map f (option_and_then used (read_bag names over elements start stop (length peaks) (from_left bagging inactive (length peaks)) peaks
    (take outer digests, drop outer digests)))) (λ made. length digests ≡ outer + length (inner_nodes start stop peaks))
bag_counted names over elements bagging start stop inactive f [] some up digests = tt
bag_counted names over elements bagging start stop inactive f (peak ∷ peaks) some up digests =
    root_used _ f _ (used_all names over elements bagging start stop inactive (peak ∷ peaks) some (omega arith) up digests)

pub root_gives : (names : Naming) (over : Over) (bagging : Bagging) (rule : Rule) → IsPairing rule → (leaf_total inactive start : ℕ)
    (shown digests : List (List ℕ)) (leaf_of : ℕ → List ℕ → List ℕ) (node_of : ℕ → List ℕ → List ℕ → List ℕ)
    → let peaks = peaks_of rule leaf_total in
    IfSome (range_root names over bagging rule leaf_total inactive start shown digests)
    (λ made. HasGiven leaf_of node_of (from start shown) start (start + length shown) (from_left bagging inactive (length peaks)) peaks digests)
root_gives names over bagging rule pairs leaf_total inactive start shown digests leaf_of node_of =
    let peaks = peaks_of rule leaf_total in
    let stop = start + length shown in
    let Has : Type 0 = HasGiven leaf_of node_of (from start shown) start stop (from_left bagging inactive (length peaks)) peaks digests in
    let outer = range_outer bagging start stop inactive peaks in
    let root = option_map (root_made names bagging leaf_total inactive) (option_and_then used
    (read_bag names over (from start shown) start stop (length peaks) (from_left bagging inactive (length peaks)) peaks
    (take outer digests, drop outer digests))) in
    let test = nat_lt (2 ^ 62) leaf_total || (nat_lt (length peaks) inactive || nat_lt leaf_total stop) in
    choose (λ r. IfSome r (λ made. Has)) (nat_lt 0 (length shown)) (cond test None root) None
    (λ shows. choose (λ r. IfSome r (λ made. Has)) test None root (λ refused. tt)
    (λ fits. let many : 0 < length shown = ltb-true 0 (length shown) shows in
    let some : start < stop = omega (arith, many) in
    counted_has (length digests ≡ outer + length (inner_nodes start stop peaks)) Has root
    (has_given leaf_of node_of (from start shown) rule pairs leaf_total inactive bagging start stop some digests)
    (bag_counted names over (from start shown) bagging start stop inactive (root_made names bagging leaf_total inactive) peaks some
    (ascend_located (forest_of rule leaf_total)) digests)))
    (λ nothing_shown. tt)
  where
    counted_has : (P Q : Type 0) (r : Option Made) → (P → Q) → IfSome r (λ made. P) → IfSome r (λ made. Q)
    counted_has P Q None each it = tt
    counted_has P Q (Some made) each it = each it
