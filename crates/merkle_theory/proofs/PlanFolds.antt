-- The digests of a range proof, from those of its nodes in order of reading.
use Rattle.std.proofs.Common.{◌≡◌, ℕ, ◌+◌, ◌≤◌, Bool, true, false, filter, map, take, drop}
use Rattle.std.proofs.Common.{length, List, [], ◌∷◌, ◌++◌, Some, refl, sym, ◌∙◌, ap, ap₂, arith}
use Rattle.std.proofs.lemmas.List.{map-append, append_assoc, length-map, length-append, take-append-drop, take_at, drop_at}
use Rattle.std.proofs.lemmas.List.Elements.{filter-append}
use Rattle.std.specs.List.{flat_map, take-map, drop-map}
use Rattle.std.specs.Prelude.{unwrap_or, Result, Ok, Err, IfOk}
use Rattle.merkle_forest.specs.declared.bagging.Bagging.{Bagging}
use Rattle.merkle_forest.specs.declared.bagging.Bagging.TheVariants.{ForwardFold, BackwardFold}
use Rattle.merkle_forest.specs.Forest.{Tree, leaf, branch, position, leaf_count}
use Rattle.merkle_forest.specs.Hashing.{Hash}
use Rattle.merkle_forest.specs.Trees.{Located}
use Rattle.merkle_theory.specs.Assembled.{assembled}
use Rattle.merkle_theory.specs.Plans.{Lookup, looked_up, sibling_nodes, inner_nodes, range_nodes, positions_of}
use Rattle.merkle_theory.specs.RangeCounts.{passing}
use Rattle.merkle_theory.specs.Ranges.{Digests, is_before, is_after, meets, singly, siblings, inner_digests, range_digests}

some_is : {A : Type 0} (x y : A) → Some x ≡ Some y → x ≡ y
some_is x y is = cc

-- the digests that were looked up
pub looked_up_all : (known : Lookup) (digests : List (List ℕ)) (nodes : List Located) → map (λ d. Some d) digests ≡ map known (positions_of nodes)
    → digests ≡ singly (looked_up known) nodes
looked_up_all known [] [] is = refl
looked_up_all known [] (n ∷ nodes) is = absurd cc
looked_up_all known (d ∷ digests) [] is = absurd cc
looked_up_all known (d ∷ digests) (n ∷ nodes) is =
    let heads : Some d ≡ known (position n.1) = cc in
    let tails : map (λ x. Some x) digests ≡ map known (positions_of nodes) = cc in
    ap₂ (λ x xs. x ∷ xs) (ap (λ o. unwrap_or o []) heads) (looked_up_all known digests nodes tails)

module _ (digest : Digests) (start stop : ℕ) where
  siblings_test : (at p : ℕ) (left right : Tree) (b : Bool) → meets start stop (at, branch p left right) ≡ b
      → siblings digest start stop at left ≡ singly digest (sibling_nodes start stop at left)
      → siblings digest start stop (at + leaf_count left) right ≡ singly digest (sibling_nodes start stop (at + leaf_count left) right)
      → siblings digest start stop at (branch p left right) ≡ singly digest (sibling_nodes start stop at (branch p left right))
  siblings_test at p left right true is one two =
      rw (is, one, two) (sym (map-append _ (sibling_nodes start stop at left) (sibling_nodes start stop (at + leaf_count left) right)))
  siblings_test at p left right false is one two = rw is refl

  siblings_leaf_test : (at p : ℕ) (b : Bool) → meets start stop (at, leaf p) ≡ b
      → siblings digest start stop at (leaf p) ≡ singly digest (sibling_nodes start stop at (leaf p))
  siblings_leaf_test at p true is = rw is refl
  siblings_leaf_test at p false is = rw is refl

  -- the siblings are the digests of their nodes
  pub siblings_of : (at : ℕ) (t : Tree) → siblings digest start stop at t ≡ singly digest (sibling_nodes start stop at t)
  siblings_of at (leaf p) = siblings_leaf_test at p (meets start stop (at, leaf p)) refl
  siblings_of at (branch p left right) =
      siblings_test at p left right (meets start stop (at, branch p left right)) refl (siblings_of at left)
      (siblings_of (at + leaf_count left) right)

  siblings_all : (peaks : List Located) → flat_map (λ peak. siblings digest start stop peak.0 peak.1) peaks
      ≡ singly digest (flat_map (λ peak. sibling_nodes start stop peak.0 peak.1) peaks)
  siblings_all [] = refl
  siblings_all (peak ∷ peaks) =
      ap₂ (λ a b. a ++ b) (siblings_of peak.0 peak.1) (siblings_all peaks)
      ∙ sym (map-append _ (sibling_nodes start stop peak.0 peak.1) (flat_map (λ peak. sibling_nodes start stop peak.0 peak.1) peaks))

  pub inner_of : (peaks : List Located) → inner_digests digest start stop peaks ≡ singly digest (inner_nodes start stop peaks)
  inner_of peaks = siblings_all (filter (meets start stop) peaks)

  flat_parts : (f : Located → List Located) (xs ys : List Located) → flat_map f (xs ++ ys) ≡ flat_map f xs ++ flat_map f ys
  flat_parts f [] ys = refl
  flat_parts f (x ∷ xs) ys = ap (λ zs. f x ++ zs) (flat_parts f xs ys) ∙ sym (append_assoc (f x) (flat_map f xs) (flat_map f ys))

  pub inner_parts : (k : ℕ) (peaks : List Located) → singly digest (inner_nodes start stop peaks)
      ≡ inner_digests digest start stop (take k peaks) ++ inner_digests digest start stop (drop k peaks)
  inner_parts k peaks =
      ap (λ ps. singly digest (inner_nodes start stop ps)) (sym (take-append-drop k peaks))
      ∙ ap (λ ps. singly digest (flat_map (λ peak. sibling_nodes start stop peak.0 peak.1) ps))
      (filter-append (meets start stop) (take k peaks) (drop k peaks))
      ∙ ap (singly digest) (flat_parts (λ peak. sibling_nodes start stop peak.0 peak.1) (filter (meets start stop)
      (take k peaks)) (filter (meets start stop) (drop k peaks)))
      ∙ map-append _ (inner_nodes start stop (take k peaks)) (inner_nodes start stop (drop k peaks))
      ∙ sym (ap₂ (λ a b. a ++ b) (inner_of (take k peaks)) (inner_of (drop k peaks)))

  pub side_parts : (test : Located → Bool) (k : ℕ) (peaks : List Located)
      → singly digest (filter test peaks) ≡ singly digest (filter test (take k peaks)) ++ singly digest (filter test (drop k peaks))
  side_parts test k peaks =
      ap (λ ps. singly digest (filter test ps)) (sym (take-append-drop k peaks)) ∙ ap (singly digest) (filter-append test (take k peaks) (drop k peaks))
      ∙ map-append _ (filter test (take k peaks)) (filter test (drop k peaks))

  pub side_first : (test : Located → Bool) (k n : ℕ) (peaks : List Located) → n ≡ passing test (take k peaks)
      → take n (singly digest (filter test peaks)) ≡ singly digest (filter test (take k peaks))
  side_first test k n peaks is =
      ap (take n) (side_parts test k peaks)
      ∙ take_at (singly digest (filter test (take k peaks))) (singly digest (filter test (drop k peaks))) n
      (length-map (filter test (take k peaks)) _ ∙ sym is)

  pub side_rest : (test : Located → Bool) (k n : ℕ) (peaks : List Located) → n ≡ passing test (take k peaks)
      → drop n (singly digest (filter test peaks)) ≡ singly digest (filter test (drop k peaks))
  side_rest test k n peaks is =
      ap (drop n) (side_parts test k peaks)
      ∙ drop_at (singly digest (filter test (take k peaks))) (singly digest (filter test (drop k peaks))) n
      (length-map (filter test (take k peaks)) _ ∙ sym is)

  pub assembled_is : (hash : Hash) (bagging : Bagging) (k n m : ℕ) (peaks : List Located) → n ≡ passing (is_before start) (take k peaks)
      → m ≡ passing (is_after stop) (take k peaks)
      → assembled hash bagging n (singly digest (filter (is_before start) peaks)) m (singly digest (filter (is_after stop) peaks))
      (singly digest (inner_nodes start stop peaks))
      ≡ range_digests hash digest bagging start stop (take k peaks) (drop k peaks)
  assembled_is hash ForwardFold k n m peaks front back =
      rw (side_parts (is_before start) k peaks, side_parts (is_after stop) k peaks, inner_parts k peaks) (simp append_assoc)
  assembled_is hash BackwardFold k n m peaks front back =
      rw (
        side_first (is_before start) k n peaks front,
        side_rest (is_before start) k n peaks front,
        side_first (is_after stop) k m peaks back,
        side_rest (is_after stop) k m peaks back,
        inner_parts k peaks,
      ) (simp append_assoc)

-- what the digests of all nodes make, in their order
pub folded_is : (hash : Hash) (bagging : Bagging) (known : Lookup) (start stop k nb na n m : ℕ) (peaks : List Located) (digests : List (List ℕ))
    → map (λ d. Some d) digests ≡ map known (positions_of (range_nodes start stop peaks))
    → nb ≡ passing (is_before start) peaks → na ≡ passing (is_after stop) peaks
    → n ≡ passing (is_before start) (take k peaks) → m ≡ passing (is_after stop) (take k peaks)
    → assembled hash bagging n (take nb digests) m (take na (drop nb digests)) (drop na (drop nb digests))
    ≡ range_digests hash (looked_up known) bagging start stop (take k peaks) (drop k peaks)
folded_is hash bagging known start stop k nb na n m peaks digests is before after front back =
    let digest : Digests = looked_up known in
    let fronts = singly digest (filter (is_before start) peaks) in
    let backs = singly digest (filter (is_after stop) peaks) in
    let inner = singly digest (inner_nodes start stop peaks) in
    let all : digests ≡ fronts ++ (backs ++ inner) =
    looked_up_all known digests (range_nodes start stop peaks) is
    ∙ map-append _ (filter (is_before start) peaks) (filter (is_after stop) peaks ++ inner_nodes start stop peaks)
    ∙ ap (λ ds. fronts ++ ds) (map-append _ (filter (is_after stop) peaks) (inner_nodes start stop peaks)) in
    let fits : length fronts ≡ nb = length-map (filter (is_before start) peaks) _ ∙ sym before in
    let more : length backs ≡ na = length-map (filter (is_after stop) peaks) _ ∙ sym after in
    let one : take nb digests ≡ fronts = ap (take nb) all ∙ take_at fronts (backs ++ inner) nb fits in
    let rest : drop nb digests ≡ backs ++ inner = ap (drop nb) all ∙ drop_at fronts (backs ++ inner) nb fits in
    let two : take na (drop nb digests) ≡ backs = ap (take na) rest ∙ take_at backs inner na more in
    let last : drop na (drop nb digests) ≡ inner = ap (drop na) rest ∙ drop_at backs inner na more in
    ap (λ ds. assembled hash bagging n ds m (take na (drop nb digests)) (drop na (drop nb digests))) one
    ∙ ap (λ ds. assembled hash bagging n fronts m ds (drop na (drop nb digests))) two
    ∙ ap (λ ds. assembled hash bagging n fronts m backs ds) last
    ∙ assembled_is digest start stop hash bagging k n m peaks front back

-- so many of the peaks are among all of them
pub side_fits : (test : Located → Bool) (k : ℕ) (peaks : List Located) → passing test (take k peaks) ≤ passing test peaks
side_fits test k peaks =
    omega (
      arith,
      ap length (ap (filter test) (sym (take-append-drop k peaks)) ∙ filter-append test (take k peaks) (drop k peaks)),
      length-append (filter test (take k peaks)) (filter test (drop k peaks)),
    )

-- the parts of a list, as their bytes
pub record AreParts {D : Type 0} (encoding : D → List ℕ) (nb na : ℕ) (nodes before after inner : List D) : Type 0 where
  pub front : map encoding before ≡ take nb (map encoding nodes)
  pub back : map encoding after ≡ take na (drop nb (map encoding nodes))
  pub rest : map encoding inner ≡ drop na (drop nb (map encoding nodes))

pub parts_mapped : {D : Type 0} (encoding : D → List ℕ) (nb na : ℕ) (nodes before rest after inner : List D) → before ≡ take nb nodes
    → rest ≡ drop nb nodes → after ≡ take na rest → inner ≡ drop na rest → AreParts encoding nb na nodes before after inner
parts_mapped encoding nb na nodes before rest after inner one two three four =
    let later : map encoding rest ≡ drop nb (map encoding nodes) = ap (map encoding) two ∙ sym (drop-map encoding nb nodes) in
    record {
      front = ap (map encoding) one ∙ sym (take-map encoding nb nodes);
      back = ap (map encoding) three ∙ sym (take-map encoding na rest) ∙ ap (take na) later;
      rest = ap (map encoding) four ∙ sym (drop-map encoding na rest) ∙ ap (drop na) later;
    }

pub if_ok : {T E : Type 0} {P Q : T → Type 0} (r : Result T E) → ((x : T) → P x → Q x) → IfOk r P → IfOk r Q
if_ok (Ok x) f holds = f x holds
if_ok (Err e) f holds = tt
