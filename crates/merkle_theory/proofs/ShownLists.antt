-- Elements that are shown, as a walk down a tree splits them.
use Rattle.std.proofs.Common.{◌≡◌, ℕ, zero, suc, ◌+◌, ◌<◌, ◌≤◌, ◌⊎◌, inl, inr, Bool, true, false, ◌&&◌, ◌||◌, not, cond}
use Rattle.std.proofs.Common.{take, drop, length, map, List, [], ◌∷◌, refl, sym, ◌∙◌, ap, ap₂, arith}
use Rattle.std.specs.List.{filter}
use Rattle.std.specs.List.Sorted.{IsPartitionPoint}
use Rattle.std.specs.Prelude.{◌==◌, nat_le, nat_lt}
use Rattle.std.proofs.lemmas.Bool.{cases_lt, cases_Bool, lt-leb, le-leb, lt-ltb, le-ltb, eq-eqb, eqb-true}
use Rattle.std.proofs.lemmas.List.{length-take-le}
use Rattle.merkle_forest.specs.Forest.{Tree, leaf, branch, leaf_count}
use Rattle.merkle_forest.specs.Trees.{Located}
use Rattle.merkle_theory.specs.Multi.{is_named}
use Rattle.merkle_theory.specs.MultiReads.{Shown, locations_of, shown_at, shown_in, shown_from}
use Rattle.merkle_theory.proofs.Unnamed.{names, names_before, names_in, names_after}

module _ {X : Type 0} (q : X → Bool) where
  -- a list that is parted at a place
  pub parted : (xs : List X) (i : ℕ) → i ≤ length xs → IsPartitionPoint (λ y. q y ≡ true) (λ y. q y ≡ false) xs i
      → (take i xs ≡ filter q xs) × (drop i xs ≡ filter (λ y. not (q y)) xs)
  parted [] zero le point = (refl, refl)
  parted [] (suc i) le point = absurd (omega (arith, le))
  parted (x ∷ xs) zero le point =
      let head : q x ≡ false = point.1 0 x (omega arith) (omega arith) in
      let rest = parted xs zero (omega arith) (
        λ k d low high. absurd (omega (arith, high)),
        λ k d low high. point.1 (suc k) d (omega arith) (omega (arith, high)),
      ) in (
        rest.0 ∙ sym (ap (λ b. cond b (x ∷ filter q xs) (filter q xs)) head),
        ap (λ ys. x ∷ ys) rest.1
            ∙ sym (ap (λ b. cond (not b) (x ∷ filter (λ y. not (q y)) xs) (filter (λ y. not (q y)) xs)) head),
      )
  parted (x ∷ xs) (suc i) le point =
      let head : q x ≡ true = point.0 0 x (omega arith) (omega arith) in
      let rest = parted xs i (omega (arith, le)) (
        λ k d low high. point.0 (suc k) d (omega arith) (omega (arith, high)),
        λ k d low high. point.1 (suc k) d (omega (arith, low)) (omega (arith, high)),
      ) in (
        ap (λ ys. x ∷ ys) rest.0 ∙ sym (ap (λ b. cond b (x ∷ filter q xs) (filter q xs)) head),
        rest.1 ∙ sym (ap (λ b. cond (not b) (x ∷ filter (λ y. not (q y)) xs) (filter (λ y. not (q y)) xs)) head),
      )

  pub parted_count : (xs : List X) (i : ℕ) → i ≤ length xs → IsPartitionPoint (λ y. q y ≡ true) (λ y. q y ≡ false) xs i
      → length (filter q xs) ≡ i
  parted_count xs i le point = ap length (sym (parted xs i le point).0) ∙ length-take-le i xs le

module _ {X : Type 0} (p q r : X → Bool) (both : (x : X) → (p x && q x) ≡ r x) where
  kept_twice : (x : X) (xs : List X) (a : Bool) → p x ≡ a → filter q (filter p xs) ≡ filter r xs
      → filter q (filter p (x ∷ xs)) ≡ filter r (x ∷ xs)
  kept_twice x xs true is same =
      ap (λ b. filter q (cond b (x ∷ filter p xs) (filter p xs))) is
      ∙ ap (λ ys. cond (q x) (x ∷ ys) ys) same
      ∙ ap (λ b. cond b (x ∷ filter r xs) (filter r xs)) (ap (λ b. b && q x) (sym is) ∙ both x)
  kept_twice x xs false is same =
      ap (λ b. filter q (cond b (x ∷ filter p xs) (filter p xs))) is ∙ same
      ∙ ap (λ b. cond b (x ∷ filter r xs) (filter r xs)) (ap (λ b. b && q x) (sym is) ∙ both x)

  -- of what passes one test that which passes another
  pub filter_twice : (xs : List X) → filter q (filter p xs) ≡ filter r xs
  filter_twice [] = refl
  filter_twice (x ∷ xs) = kept_twice x xs (p x) refl (filter_twice xs)

map_cond : {X Y : Type 0} (f : X → Y) (b : Bool) (x : X) (xs : List X)
    → map f (cond b (x ∷ xs) xs) ≡ cond b (f x ∷ map f xs) (map f xs)
map_cond f true x xs = refl
map_cond f false x xs = refl

pub map_filter : {X Y : Type 0} (f : X → Y) (q : Y → Bool) (xs : List X)
    → map f (filter (λ x. q (f x)) xs) ≡ filter q (map f xs)
map_filter f q [] = refl
map_filter f q (x ∷ xs) =
    map_cond f (q (f x)) x (filter (λ y. q (f y)) xs) ∙ ap (λ ys. cond (q (f x)) (f x ∷ ys) ys) (map_filter f q xs)

names_least : (a m e l : ℕ) → a ≤ m → m ≤ e → (l < a) ⊎ (a ≤ l) → (l < m) ⊎ (m ≤ l)
    → (names a e l && nat_lt l m) ≡ names a m l
names_least a m e l low high (inl lt) side = ap (λ b. b && nat_lt l m) (names_before a e l lt)
    ∙ sym (names_before a m l lt)
names_least a m e l low high (inr le) (inl lt) =
    ap₂ (λ x y. x && y) (names_in a e l le (omega (arith, high, lt))) (lt-ltb l m lt) ∙ sym (names_in a m l le lt)
names_least a m e l low high (inr le) (inr past) =
    ap (λ b. names a e l && b) (le-ltb l m past) ∙ and_false (names a e l) ∙ sym (names_after a m l le past)
  where
    and_false : (b : Bool) → (b && false) ≡ false
    and_false true = refl
    and_false false = refl

names_rest : (a m e l : ℕ) → a ≤ m → m ≤ e → (l < m) ⊎ (m ≤ l) → (l < e) ⊎ (e ≤ l)
    → (names a e l && not (nat_lt l m)) ≡ names m e l
names_rest a m e l low high (inl lt) side =
    ap (λ b. names a e l && not b) (lt-ltb l m lt) ∙ and_false (names a e l) ∙ sym (names_before m e l lt)
  where
    and_false : (b : Bool) → (b && false) ≡ false
    and_false true = refl
    and_false false = refl
names_rest a m e l low high (inr le) (inl lt) =
    ap₂ (λ x y. x && not y) (names_in a e l (omega (arith, low, le)) lt) (le-ltb l m le) ∙ sym (names_in m e l le lt)
names_rest a m e l low high (inr le) (inr past) =
    ap (λ b. b && not (nat_lt l m)) (names_after a e l (omega (arith, low, le)) past) ∙ sym (names_after m e l le past)

-- what is shown in a branch is shown on its left and on its right
pub shown_left : (at p : ℕ) (left right : Tree) (shown : Shown)
    → filter (λ x. nat_lt x.1 (at + leaf_count left)) (shown_in (at, branch p left right) shown)
    ≡ shown_in (at, left) shown
shown_left at p left right shown =
    let m = at + leaf_count left in
    let e = at + leaf_count (branch p left right) in
    filter_twice (λ x. names at e x.1) (λ x. nat_lt x.1 m) (λ x. names at m x.1)
    (λ x. names_least at m e x.1 (omega arith) (omega arith) (cases_lt x.1 at) (cases_lt x.1 m)) shown

pub shown_right : (at p : ℕ) (left right : Tree) (shown : Shown)
    → filter (λ x. not (nat_lt x.1 (at + leaf_count left))) (shown_in (at, branch p left right) shown)
    ≡ shown_in (at + leaf_count left, right) shown
shown_right at p left right shown =
    let m = at + leaf_count left in
    let e = at + leaf_count (branch p left right) in
    let last : m + leaf_count right ≡ e = omega arith in
    filter_twice (λ x. names at e x.1) (λ x. not (nat_lt x.1 m)) (λ x. names m e x.1)
    (λ x. names_rest at m e x.1 (omega arith) (omega arith) (cases_lt x.1 m) (cases_lt x.1 e)) shown
    ∙ ap (λ n. filter (λ x. names m n x.1) shown) (sym last)

from_rest : (a m l : ℕ) → a ≤ m → (l < m) ⊎ (m ≤ l) → (nat_le a l && not (nat_lt l m)) ≡ nat_le m l
from_rest a m l low (inl lt) =
    ap (λ b. nat_le a l && not b) (lt-ltb l m lt) ∙ and_false (nat_le a l) ∙ sym (lt-leb m l lt)
  where
    and_false : (b : Bool) → (b && false) ≡ false
    and_false true = refl
    and_false false = refl
from_rest a m l low (inr le) =
    ap₂ (λ x y. x && not y) (le-leb a l (omega (arith, low, le))) (le-ltb l m le) ∙ sym (le-leb m l le)

-- what is shown from a peak on is shown in the peak and after it
pub shown_own : (first m : ℕ) (node : Tree) (shown : Shown) → m ≡ first + leaf_count node
    → filter (λ x. nat_lt x.1 m) (shown_from first shown) ≡ shown_in (first, node) shown
shown_own first m node shown is =
    filter_twice (λ x. nat_le first x.1) (λ x. nat_lt x.1 m) (λ x. names first m x.1) (λ x. refl) shown
    ∙ ap (λ n. filter (λ x. names first n x.1) shown) is

pub shown_others : (first m : ℕ) (shown : Shown) → first ≤ m
    → filter (λ x. not (nat_lt x.1 m)) (shown_from first shown) ≡ shown_from m shown
shown_others first m shown le =
    filter_twice (λ x. nat_le first x.1) (λ x. not (nat_lt x.1 m)) (λ x. nat_le m x.1)
    (λ x. from_rest first m x.1 le (cases_lt x.1 m)) shown

-- all is shown from the first location on
pub shown_all : (shown : Shown) → shown_from 0 shown ≡ shown
shown_all [] = refl
shown_all (x ∷ shown) = ap (λ b. cond b (x ∷ shown_from 0 shown) (shown_from 0 shown)) (le-leb 0 x.1 (omega arith))
    ∙ ap (λ xs. x ∷ xs) (shown_all shown)

-- whether a list has elements
abbrev pub has_some : Shown → Bool
has_some [] = false
has_some (x ∷ xs) = true

some_or : (b r : Bool) (x : List ℕ × ℕ) (xs : Shown) → r ≡ has_some xs → (b || r) ≡ has_some (cond b (x ∷ xs) xs)
some_or true r x xs is = refl
some_or false r x xs is = is

-- a tree is named where something is shown in it
pub named_shown : (tree : Located) (shown : Shown) → is_named (locations_of shown) tree ≡ has_some (shown_in tree shown)
named_shown tree [] = refl
named_shown tree (x ∷ shown) =
    some_or (nat_le tree.0 x.1 && nat_lt x.1 (tree.0 + leaf_count tree.1)) (is_named (locations_of shown) tree) x
    (shown_in tree shown)
    (named_shown tree shown)

pub one_place : (at l : ℕ) → (l < at) ⊎ (at ≤ l) → (l < at + 1) ⊎ (at + 1 ≤ l) → names at (at + 1) l ≡ (l == at)
one_place at l (inl lt) side = names_before at (at + 1) l lt ∙ sym (not_equal (cases_Bool (l == at)))
  where
    not_equal : (l == at) ≡ true ⊎ (l == at) ≡ false → (l == at) ≡ false
    not_equal (inl is) = absurd (omega (arith, lt, eqb-true l at is))
    not_equal (inr is) = is
one_place at l (inr le) (inl lt) = names_in at (at + 1) l le lt ∙ sym (eq-eqb l at (omega (arith, le, lt)))
one_place at l (inr le) (inr past) = names_after at (at + 1) l le past ∙ sym (not_equal (cases_Bool (l == at)))
  where
    not_equal : (l == at) ≡ true ⊎ (l == at) ≡ false → (l == at) ≡ false
    not_equal (inl is) = absurd (omega (arith, past, eqb-true l at is))
    not_equal (inr is) = is

head_same : (x y : List ℕ × ℕ) (xs ys : Shown) → x ∷ xs ≡ y ∷ ys → x ≡ y
head_same x y xs ys is = cc

first_shown : (b : Bool) (at p : ℕ) (y x : List ℕ × ℕ) (shown xs : Shown) → (y.1 == at) ≡ b
    → cond b (y ∷ shown_in (at, leaf p) shown) (shown_in (at, leaf p) shown) ≡ x ∷ xs
    → (shown_in (at, leaf p) shown ≡ x ∷ xs → shown_at shown at ≡ x.0) → shown_at (y ∷ shown) at ≡ x.0
first_shown true at p y x shown xs is there more =
    ap (λ b. cond b y.0 (shown_at shown at)) is
    ∙ ap (λ (z : List ℕ × ℕ). z.0) (head_same y x (shown_in (at, leaf p) shown) xs there)
first_shown false at p y x shown xs is there more = ap (λ b. cond b y.0 (shown_at shown at)) is ∙ more there

-- the first element that is shown in a leaf is that of its location
pub shown_leaf : (at p : ℕ) (x : List ℕ × ℕ) (shown xs : Shown) → shown_in (at, leaf p) shown ≡ x ∷ xs
    → shown_at shown at ≡ x.0
shown_leaf at p x [] xs is = absurd cc
shown_leaf at p x (y ∷ shown) xs is =
    let test = one_place at y.1 (cases_lt y.1 at) (cases_lt y.1 (at + 1)) in
    first_shown (y.1 == at) at p y x shown xs refl
    (ap (λ b. cond b (y ∷ shown_in (at, leaf p) shown) (shown_in (at, leaf p) shown)) (sym test) ∙ is)
    (λ there. shown_leaf at p x shown xs there)
