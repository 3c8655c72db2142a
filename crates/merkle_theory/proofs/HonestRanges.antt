-- The digests of an honest proof of a range are read back, each at its place.
--
-- Peaks ascend, so that those before the range come first, those that meet it next, and those after it last. What a reader has still to
-- read of the outer digests is told by the peaks that are left, in each part of the walk: `group_outer`, `onto_outer`, `back_outer`.
use Rattle.std.proofs.Common.{◌≡◌, ⊎_elim, ℕ, zero, suc, ◌+◌, ◌<◌, ◌≤◌, Bool, true, false, ◌||◌, cond, List, [], ◌∷◌}
use Rattle.std.proofs.Common.{◌++◌, filter, take, drop, Some, option_map, refl, sym, ◌∙◌, ap, arith, append_assoc}
use Rattle.std.specs.List.{list_all}
use Rattle.std.specs.Prelude.{option_and_then}
use Rattle.std.proofs.lemmas.List.{take-map}
use Rattle.std.proofs.lemmas.Bool.{both_ways, cases_Bool, le-leb, lt-leb, leb-true, leb-false, or_parts, or_left}
use Rattle.std.proofs.lemmas.Bool.{or_right, or_from, not-true, not_from_true, not_from_false, and_from}
use Rattle.merkle_forest.specs.Forest.{Tree, leaf, branch, height, leaf_count}
use Rattle.merkle_forest.specs.Hashing.{Hash, fold_string, folded_onto, folded_forward, folded_backward, items}
use Rattle.merkle_forest.specs.Laws.Peaks.{leaf_count-pos}
use Rattle.merkle_forest.specs.Made.{Made, bytes, value}
use Rattle.merkle_forest.specs.Trees.{Located, end_of}
use Rattle.merkle_theory.specs.Ranges.{Digests, is_before, is_after, meets, as_one, singly, siblings, inner_digests}
use Rattle.merkle_theory.specs.MadeTrees.{Over, Elements, Reading, leaf_made, branch_made, read_tree}
use Rattle.merkle_theory.specs.MadeRoots.{Naming, Streams, Bagged, folded, given_outer, read_peak, read_back, read_onto, read_group, read_bag}
use Rattle.merkle_theory.specs.Reads.{Agrees}
use Rattle.merkle_theory.specs.Laws.MadeRoots.{not_zero}
use Rattle.merkle_theory.proofs.RangeRoots.{drop-map}
use Rattle.merkle_theory.proofs.RangeTrees.{read_given}

own_cases : (met : Bool) (d : List ℕ) (one other : List (List ℕ)) → cond met one (d ∷ one) ++ other ≡ cond met (one ++ other) (d ∷ (one ++ other))
own_cases true d one other = refl
own_cases false d one other = refl

skip : (test : Located → Bool) (peak : Located) (peaks : List Located) → test peak ≡ false → filter test (peak ∷ peaks) ≡ filter test peaks
skip test peak peaks out = rw out refl

keep : (test : Located → Bool) (peak : Located) (peaks : List Located) → test peak ≡ true → filter test (peak ∷ peaks) ≡ peak ∷ filter test peaks
keep test peak peaks passes = rw passes refl

-- peaks that ascend from a location on
abbrev pub Ascend : ℕ → List Located → Type 0
Ascend at [] = Unit {0}
Ascend at (peak ∷ peaks) = (at ≤ peak.0) × Ascend (end_of peak) peaks

module _ (hash : Hash) (names : Naming) (over : Over) (elements : Elements) (digest : Digests) (start stop last : ℕ) (some : start < stop)
    (agrees : Agrees hash over elements digest start stop) where
  -- what is read
  abbrev tree_of : ℕ → Tree → List (List ℕ) → Reading
  tree_of = read_tree over elements start stop

  abbrev peak_of : Located → Streams → Bagged
  peak_of = read_peak over elements start stop

  abbrev back_of : ℕ → Located → List Located → Streams → Bagged
  back_of = read_back names over elements start stop last

  abbrev onto_of : ℕ → ℕ → Made → List Located → Streams → Bagged
  onto_of = read_onto names over elements start stop last

  abbrev group_of : ℕ → ℕ → Made → List Located → Streams → Bagged
  group_of = read_group names over elements start stop last

  abbrev bag_of : ℕ → List Located → Streams → Bagged
  bag_of = read_bag names over elements start stop last

  -- a tree is read with digests left over, and has its digest
  pub record TreeRead (at : ℕ) (t : Tree) (rest : List (List ℕ)) : Type 0 where
    pub made : Made
    pub is : tree_of at t (siblings digest start stop at t ++ rest) ≡ Some (made, rest)
    pub same : value hash made ≡ digest at t

  pub alone : (at : ℕ) (t : Tree) → meets start stop (at, t) ≡ false → siblings digest start stop at t ≡ digest at t ∷ []
  alone at (leaf p) apart = rw apart refl
  alone at (branch p left right) apart = rw apart refl

  given_tree : (at : ℕ) (t : Tree) (rest : List (List ℕ)) → meets start stop (at, t) ≡ false → TreeRead at t rest
  given_tree at t rest apart = record {
    made = bytes (digest at t);
    is = ap (λ ds. tree_of at t (ds ++ rest)) (alone at t apart) ∙ read_given over elements start stop at t (digest at t ∷ rest) apart;
    same = refl;
  }

  in_range : (at : ℕ) (t : Tree) → meets start stop (at, t) ≡ true → (start < at + leaf_count t) × (at < stop)
  in_range at t met =
      let sides = or_parts (is_before start (at, t)) (is_after stop (at, t)) (not-true (is_before start (at, t) || is_after stop (at, t)) met) in
      (leb-false (at + leaf_count t) start sides.0, leb-false stop at sides.1)

  pub branch_siblings : (at p : ℕ) (left right : Tree) → meets start stop (at, branch p left right) ≡ true
      → siblings digest start stop at (branch p left right) ≡ siblings digest start stop at left ++ siblings digest start stop (at + leaf_count left) right
  branch_siblings at p left right met = rw met refl

  branch_is : (at p : ℕ) (left right : Tree) (ds more rest : List (List ℕ)) (x y : Made) → meets start stop (at, branch p left right) ≡ true
      → tree_of at left ds ≡ Some (x, more) → tree_of (at + leaf_count left) right more ≡ Some (y, rest)
      → tree_of at (branch p left right) ds ≡ Some (branch_made over at (height (branch p left right)) p x y, rest)
  branch_is at p left right ds more rest x y met one other = rw (met, one, other) refl

  leaf_met : (at p : ℕ) (rest : List (List ℕ)) → meets start stop (at, leaf p) ≡ true → TreeRead at (leaf p) rest
  leaf_met at p rest met =
      let within = in_range at (leaf p) met in
      record {
        made = leaf_made p (elements at);
        is = rw met refl;
        same = agrees.leaf at p (omega (arith, within.0)) within.1;
      }

  branch_met : (at p : ℕ) (left right : Tree) (rest : List (List ℕ)) → meets start stop (at, branch p left right) ≡ true
      → TreeRead at left (siblings digest start stop (at + leaf_count left) right ++ rest) → TreeRead (at + leaf_count left) right rest
      → TreeRead at (branch p left right) rest
  branch_met at p left right rest met one other =
      let digests : siblings digest start stop at (branch p left right) ++ rest
      ≡ siblings digest start stop at left ++ (siblings digest start stop (at + leaf_count left) right ++ rest) =
      ap (λ ds. ds ++ rest) (branch_siblings at p left right met)
      ∙ append_assoc (siblings digest start stop at left) (siblings digest start stop (at + leaf_count left) right) rest in
      record {
        made = branch_made over at (height (branch p left right)) p one.made other.made;
        is = branch_is at p left right (siblings digest start stop at (branch p left right) ++ rest)
            (siblings digest start stop (at + leaf_count left) right ++ rest) rest one.made other.made met
            (ap (tree_of at left) digests ∙ one.is) other.is;
        same = agrees.branch at p left right one.made other.made one.same other.same;
      }

  pub tree_read : (at : ℕ) (t : Tree) (rest : List (List ℕ)) → TreeRead at t rest
  tree_read at (leaf p) rest = ⊎_elim (leaf_met at p rest) (given_tree at (leaf p) rest) (cases_Bool (meets start stop (at, leaf p)))
  tree_read at (branch p left right) rest =
      let one = tree_read at left (siblings digest start stop (at + leaf_count left) right ++ rest) in
      let other = tree_read (at + leaf_count left) right rest in
      ⊎_elim (λ met. branch_met at p left right rest met one other) (given_tree at (branch p left right) rest)
      (cases_Bool (meets start stop (at, branch p left right)))

  -- digests of peaks, singly
  abbrev pub D : List Located → List (List ℕ)
  D peaks = singly digest peaks

  abbrev pub befores : List Located → List Located
  befores peaks = filter (is_before start) peaks

  abbrev pub afters : List Located → List Located
  afters peaks = filter (is_after stop) peaks

  -- the inner digests of these peaks
  abbrev pub inner : List Located → List (List ℕ)
  inner peaks = inner_digests digest start stop peaks

  -- where a peak stands
  pub data Stands (peak : Located) : Type 0 where
    before : is_before start peak ≡ true → is_after stop peak ≡ false → meets start stop peak ≡ false → Stands peak
    after : is_before start peak ≡ false → is_after stop peak ≡ true → meets start stop peak ≡ false → Stands peak
    within : is_before start peak ≡ false → is_after stop peak ≡ false → meets start stop peak ≡ true → Stands peak

  not_both : (peak : Located) → is_before start peak ≡ true → is_after stop peak ≡ false
  not_both peak front = lt-leb stop peak.0 (omega (arith, some, leb-true (end_of peak) start front, leaf_count-pos peak.1))

  pub stands : (peak : Located) → Stands peak
  stands peak =
      ⊎_elim
      (λ front. before front (not_both peak front) (not_from_true _ (or_left (is_before start peak) (is_after stop peak) front)))
      (λ no_front. ⊎_elim
      (λ back. after no_front back (not_from_true _ (or_right (is_before start peak) (is_after stop peak) back)))
      (λ no_back. within no_front no_back (not_from_false _ (or_from (is_before start peak) (is_after stop peak) no_front no_back)))
      (cases_Bool (is_after stop peak)))
      (cases_Bool (is_before start peak))

  pub inner_out : (peak : Located) (peaks : List Located) → meets start stop peak ≡ false → inner (peak ∷ peaks) ≡ inner peaks
  inner_out peak peaks apart = rw apart refl

  pub inner_in : (peak : Located) (peaks : List Located) → meets start stop peak ≡ true
      → inner (peak ∷ peaks) ≡ siblings digest start stop peak.0 peak.1 ++ inner peaks
  inner_in peak peaks met = rw met refl

  -- one peak: its outer digest and inner digests, before all others
  abbrev pub own_outer : Located → List (List ℕ) → List (List ℕ)
  own_outer peak outer = cond (meets start stop peak) outer (digest peak.0 peak.1 ∷ outer)

  pub record OneRead (peak : Located) (peaks : List Located) (outer more : List (List ℕ)) : Type 0 where
    pub made : Made
    pub is : peak_of peak (own_outer peak outer, inner (peak ∷ peaks) ++ more) ≡ Some (made, (outer, inner peaks ++ more))
    pub same : value hash made ≡ digest peak.0 peak.1

  one_given : (peak : Located) (peaks : List Located) (outer more : List (List ℕ)) → meets start stop peak ≡ false → OneRead peak peaks outer more
  one_given peak peaks outer more apart = record {
    made = bytes (digest peak.0 peak.1);
    is = rw apart refl;
    same = refl;
  }

  met_is : (peak : Located) (outer ds rest : List (List ℕ)) (made : Made) → meets start stop peak ≡ true
      → tree_of peak.0 peak.1 ds ≡ Some (made, rest)
      → peak_of peak (own_outer peak outer, ds) ≡ Some (made, (outer, rest))
  met_is peak outer ds rest made met is = rw met (ap (option_map (λ x. (x.0, (outer, x.1)))) is)

  one_met : (peak : Located) (peaks : List Located) (outer more : List (List ℕ)) → meets start stop peak ≡ true → OneRead peak peaks outer more
  one_met peak peaks outer more met =
      let it = tree_read peak.0 peak.1 (inner peaks ++ more) in
      let digests : inner (peak ∷ peaks) ++ more ≡ siblings digest start stop peak.0 peak.1 ++ (inner peaks ++ more) =
      ap (λ ds. ds ++ more) (inner_in peak peaks met) ∙ append_assoc (siblings digest start stop peak.0 peak.1) (inner peaks) more in
      record {
        made = it.made;
        is = ap (λ ds. peak_of peak (own_outer peak outer, ds)) digests
            ∙ met_is peak outer (siblings digest start stop peak.0 peak.1 ++ (inner peaks ++ more))
            (inner peaks ++ more) it.made met it.is;
        same = it.same;
      }

  pub one_read : (peak : Located) (peaks : List Located) (outer more : List (List ℕ)) → OneRead peak peaks outer more
  one_read peak peaks outer more = ⊎_elim (one_met peak peaks outer more) (one_given peak peaks outer more) (cases_Bool (meets start stop peak))

  -- peaks that all stand after the range
  pub record AllAfter (peaks : List Located) : Type 0 where
    pub ends : afters peaks ≡ peaks
    pub fronts : befores peaks ≡ []
    pub inners : inner peaks ≡ []
    pub all : list_all (is_after stop) peaks ≡ true

  pub all_after : (at : ℕ) (peaks : List Located) → stop ≤ at → Ascend at peaks → AllAfter peaks
  all_after at [] le up = record { ends = refl; fronts = refl; inners = refl; all = refl }
  all_after at (peak ∷ peaks) le up =
      let rest = all_after (end_of peak) peaks (omega (arith, le, up.0)) up.1 in
      let back : is_after stop peak ≡ true = le-leb stop peak.0 (omega (arith, le, up.0)) in
      let front : is_before start peak ≡ false = lt-leb (end_of peak) start (omega (arith, le, up.0, some, leaf_count-pos peak.1)) in
      let apart : meets start stop peak ≡ false = not_from_true _ (or_right (is_before start peak) (is_after stop peak) back) in
      record {
        ends = rw back (ap (λ ps. peak ∷ ps) rest.ends);
        fronts = rw front rest.fronts;
        inners = inner_out peak peaks apart ∙ rest.inners;
        all = and_from _ _ back rest.all;
      }

  -- the outer digests of peaks that are folded from the right
  abbrev pub back_outer : List Located → List (List ℕ)
  back_outer peaks = D (befores peaks) ++ as_one (folded_backward hash) (D (afters peaks))

  pub back_one : (peak : Located) (outer : List (List ℕ)) → Stands peak → back_outer (peak ∷ []) ++ outer ≡ own_outer peak outer
  back_one peak outer (before front back apart) = rw (front, back) refl
  back_one peak outer (after front back apart) = rw (front, back) refl
  back_one peak outer (within front back met) = rw (front, back) refl

  pub back_more : (peak : Located) (peaks : List Located) (outer : List (List ℕ)) → Stands peak → is_after stop peak ≡ false
      → back_outer (peak ∷ peaks) ++ outer ≡ own_outer peak (back_outer peaks ++ outer)
  back_more peak peaks outer (before front back apart) not_after = rw (front, back) refl
  back_more peak peaks outer (after front back apart) not_after = absurd (both_ways _ not_after back)
  back_more peak peaks outer (within front back met) not_after = rw (front, back) refl

  pub record BackRead (n : ℕ) (peak : Located) (peaks : List Located) (outer more : List (List ℕ)) : Type 0 where
    pub made : Made
    pub is : back_of n peak peaks (back_outer (peak ∷ peaks) ++ outer, inner (peak ∷ peaks) ++ more) ≡ Some (made, (outer, more))
    pub same : value hash made ≡ folded_backward hash (D (peak ∷ peaks))

  given_is : (n : ℕ) (peak next : Located) (peaks : List Located) (d : List ℕ) (outer more : List (List ℕ))
      → list_all (is_after stop) (peak ∷ next ∷ peaks) ≡ true
      → back_of n peak (next ∷ peaks) (d ∷ outer, more) ≡ Some (bytes d, (outer, more))
  given_is n peak next peaks d outer more all = rw all refl

  step_is : (n : ℕ) (peak next : Located) (peaks : List Located) (streams between rest : Streams) (x y : Made) → is_after stop peak ≡ false
      → peak_of peak streams ≡ Some (x, between)
      → back_of (suc n) next peaks between ≡ Some (y, rest)
      → back_of n peak (next ∷ peaks) streams ≡ Some (folded names n last x y, rest)
  step_is n peak next peaks streams between rest x y not_after one others =
      let not_all : list_all (is_after stop) (peak ∷ next ∷ peaks) ≡ false = rw not_after refl in
      rw (not_all, one, others) refl

  back_last : (n : ℕ) (peak : Located) (outer more : List (List ℕ)) → BackRead n peak [] outer more
  back_last n peak outer more =
      let it = one_read peak [] outer more in
      record {
        made = it.made;
        is = ap (λ ds. peak_of peak (ds, inner (peak ∷ []) ++ more)) (back_one peak outer (stands peak)) ∙ it.is;
        same = it.same;
      }

  back_given : (n : ℕ) (peak next : Located) (peaks : List Located) (outer more : List (List ℕ)) → AllAfter (peak ∷ next ∷ peaks)
      → BackRead n peak (next ∷ peaks) outer more
  back_given n peak next peaks outer more it =
      let whole = peak ∷ next ∷ peaks in
      let digests : back_outer whole ++ outer ≡ folded_backward hash (D whole) ∷ outer =
      ap (λ ps. (D ps ++ as_one (folded_backward hash) (D (afters whole))) ++ outer) it.fronts
      ∙ ap (λ ps. as_one (folded_backward hash) (D ps) ++ outer) it.ends in
      record {
        made = bytes (folded_backward hash (D whole));
        is = ap (λ ds. back_of n peak (next ∷ peaks) (ds, inner whole ++ more)) digests
            ∙ ap (λ ds. back_of n peak (next ∷ peaks) (folded_backward hash (D whole) ∷ outer, ds ++ more)) it.inners
            ∙ given_is n peak next peaks (folded_backward hash (D whole)) outer more it.all;
        same = refl;
      }

  back_step : (n : ℕ) (peak next : Located) (peaks : List Located) (outer more : List (List ℕ)) → is_after stop peak ≡ false
      → BackRead (suc n) next peaks outer more → BackRead n peak (next ∷ peaks) outer more
  back_step n peak next peaks outer more not_after rest =
      let it = one_read peak (next ∷ peaks) (back_outer (next ∷ peaks) ++ outer) more in
      record {
        made = folded names n last it.made rest.made;
        is = ap (λ ds. back_of n peak (next ∷ peaks) (ds, inner (peak ∷ next ∷ peaks) ++ more))
            (back_more peak (next ∷ peaks) outer (stands peak) not_after)
            ∙ step_is n peak next peaks (own_outer peak (back_outer (next ∷ peaks) ++ outer), inner (peak ∷ next ∷ peaks) ++ more)
            (back_outer (next ∷ peaks) ++ outer, inner (next ∷ peaks) ++ more) (outer, more) it.made rest.made not_after it.is rest.is;
        same = ap (λ x. hash (fold_string x (value hash rest.made))) it.same ∙ ap (λ x. hash (fold_string (digest peak.0 peak.1) x)) rest.same;
      }

  pub back_read : (n at : ℕ) (peak : Located) (peaks : List Located) (outer more : List (List ℕ)) → Ascend at (peak ∷ peaks)
      → BackRead n peak peaks outer more
  back_read n at peak [] outer more up = back_last n peak outer more
  back_read n at peak (next ∷ peaks) outer more up =
      let rest = back_read (suc n) (end_of peak) next peaks outer more up.1 in
      ⊎_elim
      (λ back. back_given n peak next peaks outer more (all_after peak.0 (peak ∷ next ∷ peaks) (leb-true stop peak.0 back) (omega arith, up.1)))
      (λ no_back. back_step n peak next peaks outer more no_back rest)
      (cases_Bool (is_after stop peak))

  -- the outer digests of peaks that are read singly
  abbrev pub singles : List Located → List (List ℕ)
  singles [] = []
  singles (peak ∷ peaks) = own_outer peak (singles peaks)

  pub own_append : (peak : Located) (one other : List (List ℕ)) → own_outer peak one ++ other ≡ own_outer peak (one ++ other)
  own_append peak one other = own_cases (meets start stop peak) (digest peak.0 peak.1) one other

  abbrev pub onto_outer : ℕ → List Located → List (List ℕ)
  onto_outer singly peaks = singles (take singly peaks) ++ back_outer (drop singly peaks)

  -- what is folded so far, with the peaks after it
  abbrev onto_value : ℕ → List ℕ → List Located → List ℕ
  onto_value singly f peaks = folded_backward hash (folded_onto hash f (D (take singly peaks)) ∷ D (drop singly peaks))

  pub record OntoRead (singly n : ℕ) (first : Made) (f : List ℕ) (peaks : List Located) (outer more : List (List ℕ)) : Type 0 where
    pub made : Made
    pub is : onto_of singly n first peaks (onto_outer singly peaks ++ outer, inner peaks ++ more) ≡ Some (made, (outer, more))
    pub same : value hash made ≡ onto_value singly f peaks

  onto_back_is : (n : ℕ) (first y : Made) (peak : Located) (peaks : List Located) (streams rest : Streams)
      → back_of n peak peaks streams ≡ Some (y, rest)
      → onto_of 0 n first (peak ∷ peaks) streams ≡ Some (folded names 1 last first y, rest)
  onto_back_is n first y peak peaks streams rest is = rw is refl

  onto_step_is : (singly n : ℕ) (first x : Made) (peak : Located) (peaks : List Located) (streams rest : Streams)
      → peak_of peak streams ≡ Some (x, rest)
      → onto_of (suc singly) n first (peak ∷ peaks) streams
      ≡ onto_of singly (suc n) (folded names 1 n first x) peaks rest
  onto_step_is singly n first x peak peaks streams rest is = rw is refl

  pub onto_read : (singly n at : ℕ) (first : Made) (f : List ℕ) (peaks : List Located) (outer more : List (List ℕ))
      → value hash first ≡ f → Ascend at peaks
      → OntoRead singly n first f peaks outer more
  onto_read zero n at first f [] outer more same up = record { made = first; is = refl; same = same }
  onto_read (suc singly) n at first f [] outer more same up = record { made = first; is = refl; same = same }
  onto_read zero n at first f (peak ∷ peaks) outer more same up =
      let rest = back_read n at peak peaks outer more up in
      record {
        made = folded names 1 last first rest.made;
        is = onto_back_is n first rest.made peak peaks (back_outer (peak ∷ peaks) ++ outer, inner (peak ∷ peaks) ++ more) (outer, more) rest.is;
        same = ap (λ x. hash (fold_string x (value hash rest.made))) same ∙ ap (λ x. hash (fold_string f x)) rest.same;
      }
  onto_read (suc singly) n at first f (peak ∷ peaks) outer more same up =
      let later = onto_outer singly peaks ++ outer in
      let it = one_read peak peaks later more in
      let next = folded names 1 n first it.made in
      let f_next = hash (fold_string f (digest peak.0 peak.1)) in
      let next_is : value hash next ≡ f_next = ap (λ x. hash (fold_string x (value hash it.made))) same ∙ ap (λ x. hash (fold_string f x)) it.same in
      let rest = onto_read singly (suc n) (end_of peak) next f_next peaks outer more next_is up.1 in
      let digests : onto_outer (suc singly) (peak ∷ peaks) ++ outer ≡ own_outer peak later =
      ap (λ ds. ds ++ outer) (own_append peak (singles (take singly peaks)) (back_outer (drop singly peaks)))
      ∙ own_append peak (onto_outer singly peaks) outer in
      record {
        made = rest.made;
        is = ap (λ ds. onto_of (suc singly) n first (peak ∷ peaks) (ds, inner (peak ∷ peaks) ++ more)) digests
            ∙ onto_step_is singly n first it.made peak peaks (own_outer peak later, inner (peak ∷ peaks) ++ more) (later, inner peaks ++ more) it.is
            ∙ rest.is;
        same = rest.same;
      }

  -- peaks of which none stands before the range
  pub record NoneBefore (peaks : List Located) : Type 0 where
    pub none : befores peaks ≡ []
    pub single : singles peaks ≡ D (afters peaks)

  single_first : (peak : Located) (peaks : List Located) → Stands peak → is_before start peak ≡ false → NoneBefore peaks → NoneBefore (peak ∷ peaks)
  single_first peak peaks (before front back apart) not_front rest = absurd (both_ways _ not_front front)
  single_first peak peaks (after front back apart) not_front rest = record {
    none = rw front rest.none;
    single = rw
        (front, back) (ap (λ ds. digest peak.0 peak.1 ∷ ds) rest.single);
  }
  single_first peak peaks (within front back met) not_front rest = record { none = rw front rest.none; single = rw (front, back) rest.single }

  none_before : (at : ℕ) (peaks : List Located) → start ≤ at → Ascend at peaks → NoneBefore peaks
  none_before at [] le up = record { none = refl; single = refl }
  none_before at (peak ∷ peaks) le up =
      single_first peak peaks (stands peak) (lt-leb (end_of peak) start (omega (arith, le, up.0, leaf_count-pos peak.1)))
      (none_before (end_of peak) peaks (omega (arith, le, up.0, leaf_count-pos peak.1)) up.1)

  ascend_take : (k at : ℕ) (peaks : List Located) → Ascend at peaks → Ascend at (take k peaks)
  ascend_take zero at peaks up = tt
  ascend_take (suc k) at [] up = tt
  ascend_take (suc k) at (peak ∷ peaks) up = (up.0, ascend_take k (end_of peak) peaks up.1)

  pub none_from : (k at : ℕ) (peak : Located) (peaks : List Located) → Ascend at (peak ∷ peaks)
      → is_before start peak ≡ false → NoneBefore (take (suc k) (peak ∷ peaks))
  none_from k at peak peaks up not_front =
      single_first peak (take k peaks) (stands peak) not_front
      (none_before (end_of peak) (take k peaks) (let far : start < end_of peak = leb-false
      (end_of peak) start not_front in omega (arith, far)) (ascend_take k (end_of peak) peaks up.1))

  -- the outer digests after those of the peaks before the range that are folded from the left
  abbrev pub group_outer : ℕ → List Located → List (List ℕ)
  group_outer singly peaks = D (afters (take singly peaks)) ++ back_outer (drop singly peaks)

  pub onto_as_group : (singly : ℕ) (peaks : List Located) → NoneBefore (take singly peaks) → onto_outer singly peaks ≡ group_outer singly peaks
  onto_as_group singly peaks none = ap (λ ds. ds ++ back_outer (drop singly peaks)) none.single

  pub record GroupRead (singly n : ℕ) (first : Made) (f : List ℕ) (peaks : List Located) (outer more : List (List ℕ)) : Type 0 where
    pub made : Made
    pub is : group_of singly n first peaks (group_outer singly peaks ++ outer, inner peaks ++ more) ≡ Some (made, (outer, more))
    pub same : value hash made ≡ onto_value singly f peaks

  group_zero_is : (n : ℕ) (first : Made) (peaks : List Located) (streams : Streams)
      → group_of 0 n first peaks streams ≡ onto_of 0 n first peaks streams
  group_zero_is n first [] streams = refl
  group_zero_is n first (peak ∷ peaks) streams = refl

  group_before_is : (singly n : ℕ) (first : Made) (peak : Located) (peaks : List Located) (streams : Streams) → is_before start peak ≡ true
      → group_of (suc singly) n first (peak ∷ peaks) streams
      ≡ group_of singly (suc n) first peaks streams
  group_before_is singly n first peak peaks streams front = rw front refl

  group_other_is : (singly n : ℕ) (first : Made) (peak : Located) (peaks : List Located) (streams : Streams) → is_before start peak ≡ false
      → group_of (suc singly) n first (peak ∷ peaks) streams
      ≡ onto_of (suc singly) n first (peak ∷ peaks) streams
  group_other_is singly n first peak peaks streams not_front = rw not_front refl

  pub outer_before : (singly : ℕ) (peak : Located) (peaks : List Located) → is_before start peak ≡ true
      → group_outer (suc singly) (peak ∷ peaks) ≡ group_outer singly peaks
  outer_before singly peak peaks front =
      ap (λ ps. D ps ++ back_outer (drop singly peaks)) (skip (is_after stop) peak (take singly peaks) (not_both peak front))

  pub front_first : (singly : ℕ) (peak : Located) (peaks : List Located) → is_before start peak ≡ true
      → D (befores (take (suc singly) (peak ∷ peaks))) ≡ digest peak.0 peak.1 ∷ D (befores (take singly peaks))
  front_first singly peak peaks front = ap D (keep (is_before start) peak (take singly peaks) front)

  pub group_read : (singly n at : ℕ) (first : Made) (f : List ℕ) (peaks : List Located) (outer more : List (List ℕ))
      → value hash first ≡ folded_onto hash f (D (befores (take singly peaks))) → Ascend at peaks → GroupRead singly n first f peaks outer more
  group_read zero n at first f peaks outer more same up =
      let it = onto_read zero n at first f peaks outer more same up in
      record { made = it.made; is = group_zero_is n first peaks (group_outer 0 peaks ++ outer, inner peaks ++ more) ∙ it.is; same = it.same }
  group_read (suc singly) n at first f [] outer more same up = record { made = first; is = refl; same = same }
  group_read (suc singly) n at first f (peak ∷ peaks) outer more same up =
      ⊎_elim
      (λ front.
      let next = hash (fold_string f (digest peak.0 peak.1)) in
      let apart : meets start stop peak ≡ false = not_from_true _ (or_left (is_before start peak) (is_after stop peak) front) in
      let rest = group_read singly (suc n) (end_of peak) first next peaks outer more (same
      ∙ ap (folded_onto hash f) (front_first singly peak peaks front)) up.1 in
      record {
        made = rest.made;
        is = ap (λ ds. group_of (suc singly) n first (peak ∷ peaks) (ds ++ outer, inner (peak ∷ peaks) ++ more))
            (outer_before singly peak peaks front)
            ∙ ap (λ ds. group_of (suc singly) n first (peak ∷ peaks) (group_outer singly peaks ++ outer, ds ++ more))
            (inner_out peak peaks apart)
            ∙ group_before_is singly n first peak peaks (group_outer singly peaks ++ outer, inner peaks ++ more) front ∙ rest.is;
        same = rest.same;
      })
      (λ not_front.
      let none = none_from singly at peak peaks up not_front in
      let it = onto_read (suc singly) n at first f (peak ∷ peaks) outer more (same ∙ ap (λ ps. folded_onto hash f (D ps)) none.none) up in
      record {
        made = it.made;
        is = ap (λ ds. group_of (suc singly) n first (peak ∷ peaks) (ds ++ outer, inner (peak ∷ peaks) ++ more))
            (sym (onto_as_group (suc singly) (peak ∷ peaks) none))
            ∙ group_other_is singly n first peak peaks (onto_outer (suc singly) (peak ∷ peaks) ++ outer, inner (peak ∷ peaks) ++ more) not_front
            ∙ it.is;
        same = it.same;
      })
      (cases_Bool (is_before start peak))

  -- all outer digests, in the order in which they are read
  abbrev pub all_outer : ℕ → List Located → List (List ℕ)
  all_outer singly peaks = as_one (folded_forward hash) (D (befores (take singly peaks))) ++ group_outer singly peaks

  pub record BagRead (singly : ℕ) (peaks : List Located) : Type 0 where
    pub made : Made
    pub is : bag_of singly peaks (all_outer singly peaks, inner peaks) ≡ Some (made, ([], []))
    pub same : value hash made ≡ folded_backward hash (items hash singly (D peaks))

  bag_given_is : (singly : ℕ) (peak : Located) (peaks : List Located) (d : List ℕ) (outer more : List (List ℕ)) → is_before start peak ≡ true
      → bag_of (suc singly) (peak ∷ peaks) (d ∷ outer, more)
      ≡ group_of singly 2 (bytes d) peaks (outer, more)
  bag_given_is singly peak peaks d outer more front = rw front refl

  bag_own_is : (singly : ℕ) (peak : Located) (peaks : List Located) (streams rest : Streams) (own : Made) → is_before start peak ≡ false
      → peak_of peak streams ≡ Some (own, rest)
      → bag_of (suc singly) (peak ∷ peaks) streams
      ≡ onto_of singly 2 own peaks rest
  bag_own_is singly peak peaks streams rest own not_front is =
      ap (λ b. cond b (option_and_then (λ x. group_of singly 2 x.0 peaks x.1) (given_outer streams))
      (option_and_then (λ x. onto_of singly 2 x.0 peaks x.1) (peak_of peak streams))) not_front
      ∙ ap (option_and_then (λ x. onto_of singly 2 x.0 peaks x.1)) is

  none_left : (xs : List (List ℕ)) → xs ++ [] ≡ xs
  none_left [] = refl
  none_left (x ∷ xs) = ap (λ ys. x ∷ ys) (none_left xs)

  items_value : (singly : ℕ) (peak : Located) (peaks : List Located)
      → onto_value singly (digest peak.0 peak.1) peaks ≡ folded_backward hash (items hash (suc singly) (D (peak ∷ peaks)))
  items_value singly peak peaks =
      let d = digest peak.0 peak.1 in
      ap (λ ds. folded_backward hash (folded_onto hash d ds ∷ D (drop singly peaks))) (sym (take-map (λ (p : Located). digest p.0 p.1) singly peaks))
      ∙ ap (λ ds. folded_backward hash (folded_onto hash d (take singly (D peaks)) ∷ ds)) (drop-map (λ (p : Located). digest p.0 p.1) singly peaks)
      ∙ sym (ap (λ b. folded_backward hash (cond b (D (peak ∷ peaks)) (folded_forward hash (take (suc singly) (D
      (peak ∷ peaks))) ∷ drop (suc singly) (D (peak ∷ peaks)))))
      (not_zero singly))

  pub bag_read : (singly : ℕ) (peak : Located) (peaks : List Located) → Ascend 0 (peak ∷ peaks) → BagRead singly (peak ∷ peaks)
  bag_read zero peak peaks up =
      let it = back_read 1 0 peak peaks [] [] up in
      record {
        made = it.made;
        is = ap (λ ds. back_of 1 peak peaks (ds, inner (peak ∷ peaks))) (sym (none_left (back_outer (peak ∷ peaks))))
            ∙ ap (λ ds. back_of 1 peak peaks (back_outer (peak ∷ peaks) ++ [], ds)) (sym (none_left (inner (peak ∷ peaks)))) ∙ it.is;
        same = it.same;
      }
  bag_read (suc singly) peak peaks up =
      let d = digest peak.0 peak.1 in
      ⊎_elim
      (λ front.
      let f = folded_onto hash d (D (befores (take singly peaks))) in
      let apart : meets start stop peak ≡ false = not_from_true _ (or_left (is_before start peak) (is_after stop peak) front) in
      let rest = group_read singly 2 (end_of peak) (bytes f) d peaks [] [] refl up.1 in
      let digests : all_outer (suc singly) (peak ∷ peaks) ≡ f ∷ (group_outer singly peaks ++ []) =
      ap (λ ds. as_one (folded_forward hash) ds ++ group_outer (suc singly) (peak ∷ peaks)) (front_first singly peak peaks front)
      ∙ ap (λ ds. f ∷ ds) (outer_before singly peak peaks front ∙ sym (none_left (group_outer singly peaks))) in
      record {
        made = rest.made;
        is = ap (λ ds. bag_of (suc singly) (peak ∷ peaks) (ds, inner (peak ∷ peaks))) digests
            ∙ ap (λ ds. bag_of (suc singly) (peak ∷ peaks) (f ∷ (group_outer singly peaks ++ []), ds))
            (inner_out peak peaks apart ∙ sym (none_left (inner peaks)))
            ∙ bag_given_is singly peak peaks f (group_outer singly peaks ++ []) (inner peaks ++ []) front ∙ rest.is;
        same = rest.same ∙ items_value singly peak peaks;
      })
      (λ not_front.
      let none = none_from singly 0 peak peaks up not_front in
      let later = onto_outer singly peaks ++ [] in
      let it = one_read peak peaks later [] in
      let rest = onto_read singly 2 (end_of peak) it.made d peaks [] [] it.same up.1 in
      let digests : all_outer (suc singly) (peak ∷ peaks) ≡ own_outer peak later =
      ap (λ ps. as_one (folded_forward hash) (D ps) ++ group_outer (suc singly) (peak ∷ peaks)) none.none
      ∙ sym (onto_as_group (suc singly) (peak ∷ peaks) none)
      ∙ own_append peak (singles (take singly peaks)) (back_outer (drop singly peaks))
      ∙ ap (own_outer peak) (sym (none_left (onto_outer singly peaks))) in
      record {
        made = rest.made;
        is = ap (λ ds. bag_of (suc singly) (peak ∷ peaks) (ds, inner (peak ∷ peaks))) digests
            ∙ ap (λ ds. bag_of (suc singly) (peak ∷ peaks) (own_outer peak later, ds)) (sym (none_left (inner (peak ∷ peaks))))
            ∙ bag_own_is singly peak peaks (own_outer peak later, inner (peak ∷ peaks) ++ []) (later, inner peaks ++ []) it.made not_front it.is
            ∙ rest.is;
        same = rest.same ∙ items_value singly peak peaks;
      })
      (cases_Bool (is_before start peak))
