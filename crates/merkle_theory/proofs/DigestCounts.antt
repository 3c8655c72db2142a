-- How many digests the proof of a range has is told by the tree and the range alone.
--
-- Two readings of one range go the same way, whatever the elements and the digests are. So a reading is measured by that of the honest
-- proof whose digests are all empty, which uses every digest up.
use Rattle.std.proofs.Common.{◌≡◌, ⊎_elim, ℕ, zero, suc, ◌+◌, ◌<◌, ◌≤◌}
use Rattle.std.proofs.Common.{Bool, true, false, cond, List, [], ◌∷◌, length, take, drop}
use Rattle.std.proofs.Common.{Option, None, Some, option_map, refl, sym, ◌∙◌, ap, subst, arith}
use Rattle.std.specs.List.{list_all}
use Rattle.std.specs.Prelude.{option_and_then}
use Rattle.std.proofs.lemmas.Bool.{cases_lt}
use Rattle.std.proofs.lemmas.List.{length-map, length-take, length-drop}
use Rattle.merkle_forest.specs.declared.bagging.Bagging.{Bagging}
use Rattle.merkle_forest.specs.Forest.{Tree, leaf, branch, height, leaf_count}
use Rattle.merkle_forest.specs.Hashing.{Hash}
use Rattle.merkle_forest.specs.Made.{Made}
use Rattle.merkle_forest.specs.Trees.{Located}
use Rattle.merkle_theory.specs.MadeRoots.{Naming, Streams, Bagged, folded, from_left, given_outer, read_peak, read_back, read_onto, read_group, read_bag}
use Rattle.merkle_theory.specs.MadeTrees.{Over, Elements, plain_over, leaf_made, branch_made, given, read_tree}
use Rattle.merkle_theory.specs.Plans.{inner_nodes}
use Rattle.merkle_theory.specs.RangeCounts.{range_outer}
use Rattle.merkle_theory.specs.Ranges.{Digests, is_before, is_after, meets, inner_digests}
use Rattle.merkle_theory.specs.Reads.{Agrees}
use Rattle.merkle_theory.proofs.HonestRanges.{Ascend, bag_read}
use Rattle.merkle_theory.proofs.HonestRoots.{outer_read, outer_same, outer_length}
use Rattle.merkle_theory.proofs.PlanFolds.{inner_of}

-- where there is a first answer there is a second one, and the two are so related
abbrev pub Linked : {A B : Type 0} → (A → B → Type 0) → Option A → Option B → Type 0
Linked R None other = Unit {0}
Linked R (Some x) None = ⊥
Linked R (Some x) (Some y) = R x y

linked_map : {A B C D : Type 0} (R : A → B → Type 0) (Q : C → D → Type 0) (f : A → C) (g : B → D) (one : Option A) (other : Option B)
    → Linked R one other → ((x : A) (y : B) → R x y → Q (f x) (g y)) → Linked Q (option_map f one) (option_map g other)
linked_map R Q f g None other it each = tt
linked_map R Q f g (Some x) None it each = absurd it
linked_map R Q f g (Some x) (Some y) it each = each x y it

linked_bind : {A B C D : Type 0} (R : A → B → Type 0) (Q : C → D → Type 0) (f : A → Option C) (g : B → Option D) (one : Option A)
    (other : Option B) → Linked R one other → ((x : A) (y : B) → R x y → Linked Q (f x) (g y))
    → Linked Q (option_and_then f one) (option_and_then g other)
linked_bind R Q f g None other it each = tt
linked_bind R Q f g (Some x) None it each = absurd it
linked_bind R Q f g (Some x) (Some y) it each = each x y it

linked_case : {A B : Type 0} (R : A → B → Type 0) (test : Bool) (a b : Option A) (c d : Option B) → (test ≡ true → Linked R a c)
    → (test ≡ false → Linked R b d) → Linked R (cond test a b) (cond test c d)
linked_case R true a b c d on off = on refl
linked_case R false a b c d on off = off refl

module _ (names : Naming) (over other_over : Over) (elements other_elements : Elements) (start stop last : ℕ) where
  -- as many digests are taken of few as of many
  abbrev Taken : List (List ℕ) → List (List ℕ) → Made × List (List ℕ) → Made × List (List ℕ) → Type 0
  Taken few many x y = length few + length y.1 ≡ length many + length x.1

  given_more : (few many : List (List ℕ)) → length few ≤ length many → Linked (Taken few many) (given few) (given many)
  given_more [] many le = tt
  given_more (d ∷ few) [] le = absurd (omega (arith, le))
  given_more (d ∷ few) (e ∷ many) le = omega arith

  tree_more : (at : ℕ) (t : Tree) (few many : List (List ℕ)) → length few ≤ length many
      → Linked (Taken few many) (read_tree over elements start stop at t few) (read_tree other_over other_elements start stop at t many)
  tree_more at (leaf p) few many le =
      linked_case (Taken few many) (meets start stop (at, leaf p)) (Some (leaf_made p (elements at), few)) (given few)
      (Some (leaf_made p (other_elements at), many)) (given many) (λ met. omega arith) (λ out. given_more few many le)
  tree_more at (branch p left right) few many le =
      let high = height (branch p left right) in
      let after = at + leaf_count left in
      linked_case (Taken few many) (meets start stop (at, branch p left right))
      (option_and_then (λ x. option_map (λ y. (branch_made over at high p x.0 y.0, y.1)) (read_tree over elements start stop after right x.1))
      (read_tree over elements start stop at left few))
      (given few)
      (option_and_then (λ x. option_map (λ y. (branch_made other_over at high p x.0 y.0, y.1))
      (read_tree other_over other_elements start stop after right x.1)) (read_tree other_over other_elements start stop at left many))
      (given many)
      (λ met. linked_bind (Taken few many) (Taken few many)
      (λ x. option_map (λ y. (branch_made over at high p x.0 y.0, y.1)) (read_tree over elements start stop after right x.1))
      (λ x. option_map (λ y. (branch_made other_over at high p x.0 y.0, y.1)) (read_tree other_over other_elements start stop after right x.1))
      (read_tree over elements start stop at left few) (read_tree other_over other_elements start stop at left many)
      (tree_more at left few many le)
      (λ x y taken. linked_map (Taken x.1 y.1) (Taken few many) (λ z. (branch_made over at high p x.0 z.0, z.1))
      (λ z. (branch_made other_over at high p y.0 z.0, z.1)) (read_tree over elements start stop after right x.1)
      (read_tree other_over other_elements start stop after right y.1)
      (tree_more after right x.1 y.1 (omega (arith, taken, le)))
      (λ v w more. omega (arith, taken, more))))
      (λ out. given_more few many le)

  -- of the outer digests and of the inner ones
  abbrev Fewer : Streams → Streams → Type 0
  Fewer few many = (length few.0 ≤ length many.0) × (length few.1 ≤ length many.1)

  pub record AllTaken (few many : Streams) (x y : Made × Streams) : Type 0 where
    pub outer : length few.0 + length y.1.0 ≡ length many.0 + length x.1.0
    pub inner : length few.1 + length y.1.1 ≡ length many.1 + length x.1.1

  still_fewer : (few many : Streams) (x y : Made × Streams) → Fewer few many → AllTaken few many x y → Fewer x.1 y.1
  still_fewer few many x y le taken = (omega (arith, le.0, taken.outer), omega (arith, le.1, taken.inner))

  both_taken : (few many : Streams) (x y v w : Made × Streams) → AllTaken few many x y → AllTaken x.1 y.1 v w → AllTaken few many v w
  both_taken few many x y v w one other = record {
    outer = omega (arith, one.outer, other.outer);
    inner = omega (arith, one.inner, other.inner);
  }

  renamed : (few many : Streams) (x y : Made × Streams) (made other : Made) → AllTaken few many x y → AllTaken few many (made, x.1) (other, y.1)
  renamed few many x y made other it = record { outer = it.outer; inner = it.inner }

  none_taken : (few many : Streams) (made other : Made) → AllTaken few many (made, few) (other, many)
  none_taken few many made other = record { outer = omega arith; inner = omega arith }

  outer_more : (few many : Streams) → Fewer few many → Linked (AllTaken few many) (given_outer few) (given_outer many)
  outer_more few many le =
      linked_map (Taken few.0 many.0) (AllTaken few many) (λ x. (x.0, (x.1, few.1))) (λ x. (x.0, (x.1, many.1))) (given few.0) (given many.0)
      (given_more few.0 many.0 le.0) (λ x y taken. record { outer = taken; inner = omega arith })

  peak_more : (peak : Located) (few many : Streams) → Fewer few many
      → Linked (AllTaken few many) (read_peak over elements start stop peak few) (read_peak other_over other_elements start stop peak many)
  peak_more peak few many le =
      linked_case (AllTaken few many) (meets start stop peak)
      (option_map (λ x. (x.0, (few.0, x.1))) (read_tree over elements start stop peak.0 peak.1 few.1)) (given_outer few)
      (option_map (λ x. (x.0, (many.0, x.1))) (read_tree other_over other_elements start stop peak.0 peak.1 many.1)) (given_outer many)
      (λ met. linked_map (Taken few.1 many.1) (AllTaken few many) (λ x. (x.0, (few.0, x.1))) (λ x. (x.0, (many.0, x.1)))
      (read_tree over elements start stop peak.0 peak.1 few.1) (read_tree other_over other_elements start stop peak.0 peak.1 many.1)
      (tree_more peak.0 peak.1 few.1 many.1 le.1) (λ x y taken. record { outer = omega arith; inner = taken }))
      (λ out. outer_more few many le)

  back_more : (n : ℕ) (peak : Located) (peaks : List Located) (few many : Streams) → Fewer few many
      → Linked (AllTaken few many) (read_back names over elements start stop last n peak peaks few)
      (read_back names other_over other_elements start stop last n peak peaks many)
  back_more n peak [] few many le = peak_more peak few many le
  back_more n peak (next ∷ peaks) few many le =
      linked_case (AllTaken few many) (list_all (is_after stop) (peak ∷ next ∷ peaks)) (given_outer few)
      (option_and_then (λ x. option_map (λ y. (folded names n last x.0 y.0, y.1)) (read_back names over elements start stop last (suc n) next peaks x.1))
      (read_peak over elements start stop peak few))
      (given_outer many)
      (option_and_then (λ x. option_map (λ y. (folded names n last x.0 y.0, y.1))
      (read_back names other_over other_elements start stop last (suc n) next peaks x.1)) (read_peak other_over other_elements start stop peak many))
      (λ all. outer_more few many le)
      (λ some. linked_bind (AllTaken few many) (AllTaken few many)
      (λ x. option_map (λ y. (folded names n last x.0 y.0, y.1)) (read_back names over elements start stop last (suc n) next peaks x.1))
      (λ x. option_map (λ y. (folded names n last x.0 y.0, y.1)) (read_back names other_over other_elements start stop last (suc n) next peaks x.1))
      (read_peak over elements start stop peak few) (read_peak other_over other_elements start stop peak many) (peak_more peak few many le)
      (λ x y taken. linked_map (AllTaken x.1 y.1) (AllTaken few many) (λ z. (folded names n last x.0 z.0, z.1))
      (λ z. (folded names n last y.0 z.0, z.1)) (read_back names over elements start stop last (suc n) next peaks x.1)
      (read_back names other_over other_elements start stop last (suc n) next peaks y.1)
      (back_more (suc n) next peaks x.1 y.1 (still_fewer few many x y le taken))
      (λ v w more. renamed few many v w (folded names n last x.0 v.0) (folded names n last y.0 w.0) (both_taken few many x y v w taken more))))

  taken_then : (few many : Streams) (x y : Made × Streams) (one two : Bagged) → AllTaken few many x y → Linked (AllTaken x.1 y.1) one two
      → Linked (AllTaken few many) one two
  taken_then few many x y None two taken it = tt
  taken_then few many x y (Some v) None taken it = absurd it
  taken_then few many x y (Some v) (Some w) taken it = both_taken few many x y v w taken it

  onto_more : (singly n : ℕ) (first other : Made) (peaks : List Located) (few many : Streams) → Fewer few many
      → Linked (AllTaken few many) (read_onto names over elements start stop last singly n first peaks few)
      (read_onto names other_over other_elements start stop last singly n other peaks many)
  onto_more zero n first other [] few many le = none_taken few many first other
  onto_more (suc singly) n first other [] few many le = none_taken few many first other
  onto_more zero n first other (peak ∷ peaks) few many le =
      linked_map (AllTaken few many) (AllTaken few many) (λ y. (folded names 1 last first y.0, y.1)) (λ y. (folded names 1 last other y.0, y.1))
      (read_back names over elements start stop last n peak peaks few) (read_back names other_over other_elements start stop last n peak peaks many)
      (back_more n peak peaks few many le)
      (λ x y taken. renamed few many x y (folded names 1 last first x.0) (folded names 1 last other y.0) taken)
  onto_more (suc singly) n first other (peak ∷ peaks) few many le =
      linked_bind (AllTaken few many) (AllTaken few many)
      (λ x. read_onto names over elements start stop last singly (suc n) (folded names 1 n first x.0) peaks x.1)
      (λ x. read_onto names other_over other_elements start stop last singly (suc n) (folded names 1 n other x.0) peaks x.1)
      (read_peak over elements start stop peak few) (read_peak other_over other_elements start stop peak many) (peak_more peak few many le)
      (λ x y taken. taken_then few many x y (read_onto names over elements start stop last singly (suc n) (folded names 1 n first x.0) peaks x.1)
      (read_onto names other_over other_elements start stop last singly (suc n) (folded names 1 n other y.0) peaks y.1) taken
      (onto_more singly (suc n) (folded names 1 n first x.0) (folded names 1 n other y.0) peaks x.1 y.1 (still_fewer few many x y le taken)))

  group_more : (singly n : ℕ) (first other : Made) (peaks : List Located) (few many : Streams) → Fewer few many
      → Linked (AllTaken few many) (read_group names over elements start stop last singly n first peaks few)
      (read_group names other_over other_elements start stop last singly n other peaks many)
  group_more zero n first other [] few many le = none_taken few many first other
  group_more (suc singly) n first other [] few many le = none_taken few many first other
  group_more zero n first other (peak ∷ peaks) few many le = onto_more zero n first other (peak ∷ peaks) few many le
  group_more (suc singly) n first other (peak ∷ peaks) few many le =
      linked_case (AllTaken few many) (is_before start peak)
      (read_group names over elements start stop last singly (suc n) first peaks few)
      (read_onto names over elements start stop last (suc singly) n first (peak ∷ peaks) few)
      (read_group names other_over other_elements start stop last singly (suc n) other peaks many)
      (read_onto names other_over other_elements start stop last (suc singly) n other (peak ∷ peaks) many)
      (λ front. group_more singly (suc n) first other peaks few many le)
      (λ back. onto_more (suc singly) n first other (peak ∷ peaks) few many le)

  pub bag_more : (singly : ℕ) (peaks : List Located) (few many : Streams) → Fewer few many
      → Linked (AllTaken few many) (read_bag names over elements start stop last singly peaks few)
      (read_bag names other_over other_elements start stop last singly peaks many)
  bag_more zero [] few many le = tt
  bag_more (suc singly) [] few many le = tt
  bag_more zero (peak ∷ peaks) few many le = back_more 1 peak peaks few many le
  bag_more (suc singly) (peak ∷ peaks) few many le =
      linked_case (AllTaken few many) (is_before start peak)
      (option_and_then (λ x. read_group names over elements start stop last singly 2 x.0 peaks x.1) (given_outer few))
      (option_and_then (λ x. read_onto names over elements start stop last singly 2 x.0 peaks x.1) (read_peak over elements start stop peak few))
      (option_and_then (λ x. read_group names other_over other_elements start stop last singly 2 x.0 peaks x.1) (given_outer many))
      (option_and_then (λ x. read_onto names other_over other_elements start stop last singly 2 x.0 peaks x.1)
      (read_peak other_over other_elements start stop peak many))
      (λ front. linked_bind (AllTaken few many) (AllTaken few many)
      (λ x. read_group names over elements start stop last singly 2 x.0 peaks x.1)
      (λ x. read_group names other_over other_elements start stop last singly 2 x.0 peaks x.1) (given_outer few) (given_outer many)
      (outer_more few many le)
      (λ x y taken. taken_then few many x y (read_group names over elements start stop last singly 2 x.0 peaks x.1)
      (read_group names other_over other_elements start stop last singly 2 y.0 peaks y.1) taken
      (group_more singly 2 x.0 y.0 peaks x.1 y.1 (still_fewer few many x y le taken))))
      (λ back. linked_bind (AllTaken few many) (AllTaken few many)
      (λ x. read_onto names over elements start stop last singly 2 x.0 peaks x.1)
      (λ x. read_onto names other_over other_elements start stop last singly 2 x.0 peaks x.1) (read_peak over elements start stop peak few)
      (read_peak other_over other_elements start stop peak many) (peak_more peak few many le)
      (λ x y taken. taken_then few many x y (read_onto names over elements start stop last singly 2 x.0 peaks x.1)
      (read_onto names other_over other_elements start stop last singly 2 y.0 peaks y.1) taken
      (onto_more singly 2 x.0 y.0 peaks x.1 y.1 (still_fewer few many x y le taken))))

-- the proof whose digests are all empty
abbrev empty_hash : Hash
empty_hash string = []

abbrev empty_digest : Digests
empty_digest at t = []

abbrev no_elements : Elements
no_elements at = []

empty_agrees : (start stop : ℕ) → Agrees empty_hash plain_over no_elements empty_digest start stop
empty_agrees start stop = record { leaf = λ at p low high. refl; branch = λ at p left right x y one other. refl }

-- so it is read: with so many outer and inner digests, of which none is left
pub record IsMeasured (names : Naming) (bagging : Bagging) (start stop inactive : ℕ) (peaks : List Located) : Type 0 where
  pub made : Made
  pub streams : Streams
  pub is : read_bag names plain_over no_elements start stop (length peaks) (from_left bagging inactive (length peaks)) peaks streams
      ≡ Some (made, ([], []))
  pub outer : length streams.0 ≡ range_outer bagging start stop inactive peaks
  pub inner : length streams.1 ≡ length (inner_nodes start stop peaks)

measured_first : (names : Naming) (bagging : Bagging) (start stop inactive : ℕ) (peak : Located) (peaks : List Located) → start < stop
    → Ascend 0 (peak ∷ peaks) → IsMeasured names bagging start stop inactive (peak ∷ peaks)
measured_first names bagging start stop inactive peak peaks some up =
    let all = peak ∷ peaks in
    let k = from_left bagging inactive (length all) in
    let it = bag_read empty_hash names plain_over no_elements empty_digest start stop (length all) some (empty_agrees start stop) k peak peaks up in
    record {
      made = it.made;
      streams = (outer_read empty_hash empty_digest start stop some bagging inactive all, inner_digests empty_digest start stop all);
      is = it.is;
      outer = sym (ap length (outer_same empty_hash empty_digest start stop some bagging inactive all up))
          ∙ outer_length empty_hash empty_digest start stop some bagging inactive all;
      inner = ap length (inner_of empty_digest start stop all)
          ∙ length-map (inner_nodes start stop all) (λ (n : Located). empty_digest n.0 n.1);
    }

pub measured : (names : Naming) (bagging : Bagging) (start stop inactive : ℕ) (peaks : List Located) → start < stop → 0 < length peaks
    → Ascend 0 peaks → IsMeasured names bagging start stop inactive peaks
measured names bagging start stop inactive [] some there up = absurd (omega (arith, there))
measured names bagging start stop inactive (peak ∷ peaks) some there up = measured_first names bagging start stop inactive peak peaks some up

module _ (names : Naming) (over : Over) (elements : Elements) (bagging : Bagging) (start stop inactive : ℕ) (peaks : List Located)
    (some : start < stop) (there : 0 < length peaks) (up : Ascend 0 peaks) (digests : List (List ℕ)) where
  abbrev needed : ℕ
  needed = range_outer bagging start stop inactive peaks + length (inner_nodes start stop peaks)

  abbrev cut : Streams
  cut = (take (range_outer bagging start stop inactive peaks) digests, drop (range_outer bagging start stop inactive peaks) digests)

  abbrev reading : Bagged
  reading = read_bag names over elements start stop (length peaks) (from_left bagging inactive (length peaks)) peaks cut

  it : IsMeasured names bagging start stop inactive peaks
  it = measured names bagging start stop inactive peaks some there up

  abbrev singly : ℕ
  singly = from_left bagging inactive (length peaks)

  nothing_there : {A B : Type 0} (R : A → B → Type 0) (one : Option A) (other : Option B) (x : A) → one ≡ Some x → other ≡ None
      → Linked R one other → ⊥
  nothing_there R None other x is none linked = absurd cc
  nothing_there R (Some y) None x is none linked = linked
  nothing_there R (Some y) (Some z) x is none linked = absurd cc

  both_there : {A B : Type 0} (R : A → B → Type 0) (one : Option A) (other : Option B) (x : A) (y : B) → one ≡ Some x → other ≡ Some y
      → Linked R one other → R x y
  both_there R one other x y is there linked = subst (λ o. Linked R (Some x) o) there (subst (λ o. Linked R o other) is linked)

  -- from the measure to what is read
  up_to : needed ≤ length digests → Fewer names plain_over over no_elements elements start stop (length peaks) it.streams cut
  up_to le =
      let outer = range_outer bagging start stop inactive peaks in (
        omega (arith, it.outer, length-take outer digests, le),
        omega (arith, it.inner, length-drop outer digests, le),
      )

  -- and back
  down_to : length digests ≤ needed → Fewer names over plain_over elements no_elements start stop (length peaks) cut it.streams
  down_to le =
      let outer = range_outer bagging start stop inactive peaks in (
        omega (arith, it.outer, length-take outer digests, le),
        omega (arith, it.inner, length-drop outer digests, le),
      )

  -- where a digest is missing there are too few
  pub missing_few : reading ≡ None → length digests < needed
  missing_few none =
      ⊎_elim (λ lt. lt)
      (λ le. absurd (nothing_there (AllTaken names plain_over over no_elements elements start stop (length peaks) it.streams cut)
      (read_bag names plain_over no_elements start stop (length peaks) singly peaks it.streams) reading (it.made, ([], [])) it.is none
      (bag_more names plain_over over no_elements elements start stop (length peaks) singly peaks it.streams cut (up_to le))))
      (cases_lt (length digests) needed)

  none_left : (xs : List (List ℕ)) → length xs ≡ 0 → xs ≡ []
  none_left [] none = refl
  none_left (x ∷ xs) none = absurd (omega (arith, none))

  -- where digests are left there are too many
  pub left_many : (x : Made × Streams) → reading ≡ Some x → ((x.1.0 ≡ []) × (x.1.1 ≡ []) → ⊥) → needed < length digests
  left_many x is left =
      ⊎_elim (λ lt. lt)
      (λ le. let fewer = down_to le in
      let taken = both_there (AllTaken names over plain_over elements no_elements start stop (length peaks) cut it.streams) reading
      (read_bag names plain_over no_elements start stop (length peaks) singly peaks it.streams) x (it.made, ([], [])) is it.is
      (bag_more names over plain_over elements no_elements start stop (length peaks) singly peaks cut it.streams fewer) in
      absurd (left (none_left x.1.0 (omega (arith, taken.outer, fewer.0)), none_left x.1.1 (omega (arith, taken.inner, fewer.1)))))
      (cases_lt needed (length digests))

  -- where each is used they are as many as are needed
  pub used_all : (made : Made) → reading ≡ Some (made, ([], [])) → length digests ≡ needed
  used_all made is =
      let outer = range_outer bagging start stop inactive peaks in
      ⊎_elim
      (λ lt. let fewer = down_to (omega (arith, lt)) in
      let taken = both_there (AllTaken names over plain_over elements no_elements start stop (length peaks) cut it.streams) reading
      (read_bag names plain_over no_elements start stop (length peaks) singly peaks it.streams) (made, ([], [])) (it.made, ([], [])) is it.is
      (bag_more names over plain_over elements no_elements start stop (length peaks) singly peaks cut it.streams fewer) in
      absurd (omega (arith, taken.outer, taken.inner, it.outer, it.inner, length-take outer digests, length-drop outer digests, lt)))
      (λ le. let fewer = up_to le in
      let taken = both_there (AllTaken names plain_over over no_elements elements start stop (length peaks) it.streams cut)
      (read_bag names plain_over no_elements start stop (length peaks) singly peaks it.streams) reading (it.made, ([], [])) (made, ([], [])) it.is is
      (bag_more names plain_over over no_elements elements start stop (length peaks) singly peaks it.streams cut fewer) in
      omega (arith, taken.outer, taken.inner, it.outer, it.inner, length-take outer digests, length-drop outer digests, le))
      (cases_lt (length digests) needed)
