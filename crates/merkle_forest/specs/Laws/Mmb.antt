-- How a Merkle Mountain Belt grows, and how many nodes it has.
use Rattle.std.proofs.Common.{◌≡◌, ℕ, zero, suc, ◌+◌, ◌-◌, ◌*◌, ◌/◌}
use Rattle.std.proofs.Common.{◌%◌, ◌^◌, ◌<◌, ◌≤◌, ◌⊎◌, inl, inr, Bool, true}
use Rattle.std.proofs.Common.{false, cond, eqb, List, [], ◌∷◌, length, map, Option, Some, None, refl, sym, ◌∙◌, ap}
use Rattle.std.proofs.Common.{subst, arith, pow-suc, le_antisymm}
use Rattle.std.proofs.lemmas.Bool.{eqb-true, eqb-false}
use Rattle.std.proofs.lemmas.Nat.{pow_pos}
use Rattle.std.specs.Option.{option_map, option_map_or}
use Rattle.merkle_forest.specs.Forest.{Tree, leaf, branch, height, leaf_count, size, leaves, merged, peaks_after_merges}
use Rattle.merkle_forest.specs.Forest.{with_leaf, forest_of, first_pair_from, mmb_rule}
use Rattle.merkle_forest.specs.Laws.Rules.{mmb_merges_equals}
use Rattle.std.specs.Prelude.{slice_get}
use Rattle.std.proofs.Math.Nat.{div-div-eq-div-mul}
use Rattle.merkle_forest.specs.Laws.ForestGrowth.{size-twice, leaves-forest_of, some_number}
use Rattle.merkle_forest.specs.Laws.Powers.{pow_order}
use Rattle.merkle_forest.specs.Mmb.{leaf_position, root_position, mmb_tree, IsBelt}

pub height-mmb_tree : (h first : ℕ) → height (mmb_tree h first) ≡ h
unfolding mmb_tree
height-mmb_tree zero first = refl
height-mmb_tree (suc h) first = ap (λ n. suc n) (height-mmb_tree h first)

pub leaf_count-mmb_tree : (h first : ℕ) → leaf_count (mmb_tree h first) ≡ 2 ^ h
unfolding mmb_tree
leaf_count-mmb_tree zero first = refl
leaf_count-mmb_tree (suc h) first =
    omega (arith, pow-suc 2 h, leaf_count-mmb_tree h first, leaf_count-mmb_tree h (first + 2 ^ h))

-- a digit and those above it
pub record IsSplit (m : ℕ) : Type 0 where
  pub whole : m ≡ 2 * (m / 2) + m % 2
  pub digit : (m % 2 ≡ 0) ⊎ (m % 2 ≡ 1)
  pub next_even : m % 2 ≡ 0 → (suc m % 2 ≡ 1) × (suc m / 2 ≡ m / 2)
  pub next_odd : m % 2 ≡ 1 → (suc m % 2 ≡ 0) × (suc m / 2 ≡ suc (m / 2))

digit_of : (d : ℕ) → d < 2 → (d ≡ 0) ⊎ (d ≡ 1)
digit_of zero lt = inl refl
digit_of (suc zero) lt = inr refl
digit_of (suc (suc d)) lt = absurd (omega arith)

pub split : (m : ℕ) → IsSplit m
split m = record {
  whole = omega arith;
  digit = digit_of (m % 2) (omega arith);
  next_even = λ even. (omega arith, omega arith);
  next_odd = λ odd. (omega arith, omega arith);
}

-- the leaves of a belt
pub leaves-belt : (index m : ℕ) (peaks : List Tree) → IsBelt index m peaks → leaves peaks + 2 ^ index ≡ m * 2 ^ index
leaves-belt index m [] belt = rw belt (omega arith)
leaves-belt index m (t ∷ ts) belt =
    let it = split m in
    let rest : leaves ts + 2 ^ suc index ≡ m / 2 * 2 ^ suc index = leaves-belt (suc index) (m / 2) ts belt.1 in
    let high : m / 2 * 2 ^ suc index ≡ m / 2 * (2 ^ index * 2) = ap (λ n. m / 2 * n) (pow-suc 2 index) in
    let mine : leaf_count t ≡ 2 ^ (index + m % 2) = ap leaf_count belt.0
    ∙ leaf_count-mmb_tree (index + m % 2) (leaves ts) in
    let all : m * 2 ^ index ≡ (2 * (m / 2) + m % 2) * 2 ^ index = ap (λ n. n * 2 ^ index) it.whole in
    elim it.digit [
      | inl even ↦ (
          let power : 2 ^ (index + m % 2) ≡ 2 ^ index = ap (λ n. 2 ^ n) (omega (arith, even)) in
          let digit : (2 * (m / 2) + m % 2) * 2 ^ index ≡ (2 * (m / 2) + 0) * 2 ^ index =
          ap (λ n. (2 * (m / 2) + n) * 2 ^ index) even in
          omega (arith, rest, high, mine, all, power, digit, pow-suc 2 index))
      | inr odd ↦ (
          let power : 2 ^ (index + m % 2) ≡ 2 ^ suc index = ap (λ n. 2 ^ n) (omega (arith, odd)) in
          let digit : (2 * (m / 2) + m % 2) * 2 ^ index ≡ (2 * (m / 2) + 1) * 2 ^ index =
          ap (λ n. (2 * (m / 2) + n) * 2 ^ index) odd in
          omega (arith, rest, high, mine, all, power, digit, pow-suc 2 index))
    ]

-- a test between two ways to go on
tested : (P : List Tree → Type 0) (after : ℕ → List Tree) (peaks : List Tree) (test : Bool) (rest : Option ℕ)
    → (test ≡ true → P (after 0)) → (test ≡ false → P (option_map_or (λ index. after (suc index)) rest peaks))
    → P (option_map_or after (cond test (Some 0) (option_map (λ index. suc index) rest)) peaks)
tested P after peaks true rest here further = here refl
tested P after peaks false None here further = further refl
tested P after peaks false (Some index) here further = further refl

-- a tree before the merge stays
kept : (P : List Tree → Type 0) (x : Tree) (after : ℕ → List Tree) (peaks : List Tree) (found : Option ℕ)
    → P (x ∷ option_map_or after found peaks) → P (option_map_or (λ index. x ∷ after index) found (x ∷ peaks))
kept P x after peaks None it = it
kept P x after peaks (Some index) it = it

-- the peaks where a tree of height t joins a belt from index t on, and the first neighbours of one height merge
joined : ℕ → Tree → List Tree → List Tree
joined p x peaks = option_map_or (λ index. merged p index (x ∷ peaks)) (first_pair_from (height x) (map height peaks))
    (x ∷ peaks)

-- with one more the digits that are 1 up to the lowest 0 turn to 0, and that one to 1
carry : (t m n p : ℕ) (x : Tree) (peaks : List Tree) → IsBelt t m peaks → x ≡ mmb_tree t (leaves peaks)
    → n + 2 ≡ 2 ^ t + leaves (x ∷ peaks) → p ≡ suc (leaf_position n) → IsBelt t (suc m) (joined p x peaks)
unfolding joined mmb_tree
carry t m n p x [] belt is total at =
    let two : suc m ≡ 2 = ap (λ n. suc n) belt in
    (is ∙ ap (λ k. mmb_tree k 0) (omega (arith, two)), omega (arith, two))
carry t m n p x (y ∷ ys) belt is total at =
    let it = split m in
    let high : height x ≡ t = ap height is ∙ height-mmb_tree t (leaves (y ∷ ys)) in
    let high_y : height y ≡ t + m % 2 = ap height belt.0 ∙ height-mmb_tree (t + m % 2) (leaves ys) in
    let count : leaf_count x ≡ 2 ^ t = ap leaf_count is ∙ leaf_count-mmb_tree t (leaves (y ∷ ys)) in
    let count_y : leaf_count y ≡ 2 ^ (t + m % 2) = ap leaf_count belt.0
    ∙ leaf_count-mmb_tree (t + m % 2) (leaves ys) in
    let double : 2 ^ suc t ≡ 2 ^ t * 2 = pow-suc 2 t in
    tested (IsBelt t (suc m)) (λ index. merged p index (x ∷ y ∷ ys)) (x ∷ y ∷ ys) (eqb (height x) (height y))
    (first_pair_from (height y) (map height ys))
    (λ same. (
    let even : m % 2 ≡ 0 = omega (arith, eqb-true (height x) (height y) same, high, high_y) in
    let next = it.next_even even in
    let power : 2 ^ (t + m % 2) ≡ 2 ^ t = ap (λ k. 2 ^ k) (omega (arith, even)) in
    let place : n ≡ leaves ys + (3 * 2 ^ t - 2) = omega (arith, total, count, count_y, power, pow_pos t) in
    let high_even : t + m % 2 ≡ t = omega (arith, even) in
    let left : y ≡ mmb_tree t (leaves ys) = belt.0 ∙ ap (λ k. mmb_tree k (leaves ys)) high_even in
    let right : x ≡ mmb_tree t (leaves ys + 2 ^ t) = is
    ∙ ap (mmb_tree t) (omega (arith, count_y, power)) in
    let root : p ≡ root_position (leaves ys) (suc t) = at ∙ ap (λ k. suc (leaf_position k)) place in
    let higher : suc t ≡ t + suc m % 2 = omega (arith, next.0) in (
      ap (λ k. branch k y x) root ∙ ap (λ k. branch (root_position (leaves ys) (suc t)) k x) left
          ∙ ap (branch (root_position (leaves ys) (suc t)) (mmb_tree t (leaves ys))) right
          ∙ ap (λ k. mmb_tree k (leaves ys)) higher,
      subst (λ k. IsBelt (suc t) k ys) (sym next.1) belt.1,
    )))
    (λ differ. (
    let odd : m % 2 ≡ 1 = elim it.digit [
      | inl even ↦ absurd (eqb-false (height x) (height y) differ (omega (arith, high, high_y, even)))
      | inr odd ↦ odd
    ] in
    let next = it.next_odd odd in
    let power : 2 ^ (t + m % 2) ≡ 2 ^ suc t = ap (λ k. 2 ^ k) (omega (arith, odd)) in
    let high_odd : t + m % 2 ≡ suc t = omega (arith, odd) in
    let other : y ≡ mmb_tree (suc t) (leaves ys) = belt.0 ∙ ap (λ k. mmb_tree k (leaves ys)) high_odd in
    let rest = carry (suc t) (m / 2) n p y ys belt.1 other (omega (arith, total, count, double)) at in
    let after = leaves-belt (suc t) (suc (m / 2)) (joined p y ys) rest in
    let before = leaves-belt (suc t) (m / 2) ys belt.1 in
    let as_many : leaves (y ∷ ys) ≡ leaves (joined p y ys) = omega (arith, after, before, count_y, power) in
    let as_high : t ≡ t + suc m % 2 = omega (arith, next.0) in
    kept (IsBelt t (suc m)) x (λ index. merged p index (y ∷ ys)) (y ∷ ys)
    (first_pair_from (height y) (map height ys)) (
      is ∙ ap (mmb_tree t) as_many ∙ ap (λ k. mmb_tree k (leaves (joined p y ys))) as_high,
      subst (λ k. IsBelt (suc t) k (joined p y ys)) (sym next.1) rest,
    )))

-- after one merge there is none
merges_once : (room merges : ℕ) (peaks : List Tree) → peaks_after_merges mmb_rule room (suc merges) peaks ≡ peaks
unfolding peaks_after_merges
merges_once zero merges peaks = refl
merges_once (suc room) merges peaks = refl

-- the forest after a leaf, by what the first merge makes
after_leaf : (P : List Tree → Type 0) (after before : ℕ → List Tree) (found : Option ℕ) (peaks : List Tree)
    → ((index : ℕ) → after index ≡ before index) → P (option_map_or before found peaks)
    → P (option_map_or after found peaks)
after_leaf P after before None peaks same it = it
after_leaf P after before (Some index) peaks same it = subst P (sym (same index)) it

next-belt : (n : ℕ) (peaks : List Tree) → size peaks ≡ leaf_position n → leaves peaks ≡ n → IsBelt 0 (suc n) peaks
    → IsBelt 0 (suc (suc n)) (with_leaf mmb_rule peaks)
unfolding joined mmb_tree peaks_after_merges
next-belt n [] sized counted belt =
    let none : 0 ≡ n = counted in
    let next : 0 ≡ 0 + suc (suc n) % 2 = omega (arith, none) in
    let half : 1 ≡ suc (suc n) / 2 = omega (arith, none) in
    let at : 0 ≡ leaf_position 0 = sized ∙ ap leaf_position (sym none) in
    (ap leaf at ∙ ap (λ k. mmb_tree k 0) next, sym half)
next-belt n (y ∷ ys) sized counted belt =
    let x : Tree = leaf (size (y ∷ ys)) in
    let is : x ≡ mmb_tree 0 (leaves (y ∷ ys)) = ap leaf (sized ∙ ap leaf_position (sym counted)) in
    let it = carry 0 (suc n) n (1 + size (y ∷ ys)) x (y ∷ ys) belt is (omega (arith, counted)) (omega (arith, sized)) in
    after_leaf (IsBelt 0 (suc (suc n)))
    (λ index. peaks_after_merges mmb_rule (length ys) 1 (merged (size (x ∷ y ∷ ys)) index (x ∷ y ∷ ys)))
    (λ index. merged (1 + size (y ∷ ys)) index (x ∷ y ∷ ys)) (first_pair_from (height x) (map height (y ∷ ys)))
    (x ∷ y ∷ ys)
    (λ index. merges_once (length ys) 0 (merged (size (x ∷ y ∷ ys)) index (x ∷ y ∷ ys))) it

-- the peaks of n leaves stand for the digits of n + 1
pub forest_of-belt : (n : ℕ) → IsBelt 0 (suc n) (forest_of mmb_rule n)
unfolding forest_of
forest_of-belt zero = refl
forest_of-belt (suc n) =
    next-belt n (forest_of mmb_rule n) refl (leaves-forest_of mmb_rule mmb_merges_equals n) (forest_of-belt n)

-- as many digits, but the highest
pub length-belt : (index m : ℕ) (peaks : List Tree) → IsBelt index m peaks
    → (2 ^ length peaks ≤ m) × (m < 2 ^ suc (length peaks))
length-belt index m [] belt = (omega (arith, belt), omega (arith, belt))
length-belt index m (t ∷ ts) belt =
    let rest = length-belt (suc index) (m / 2) ts belt.1 in
    let whole = (split m).whole in
    let digit : m % 2 < 2 = omega arith in
    let double : 2 ^ suc (length ts) ≡ 2 ^ length ts * 2 = pow-suc 2 (length ts) in
    let fourfold : 2 ^ suc (suc (length ts)) ≡ 2 ^ suc (length ts) * 2 = pow-suc 2 (suc (length ts)) in
    (omega (arith, rest, whole, double), omega (arith, rest, whole, digit, fourfold))

pub exponent-same : (a b m : ℕ) → 2 ^ a ≤ m → m < 2 ^ suc a → 2 ^ b ≤ m → m < 2 ^ suc b → a ≡ b
exponent-same a b m low_a high_a low_b high_b =
    le_antisymm (pow_order a b (omega (arith, low_a, high_b))) (pow_order b a (omega (arith, low_b, high_a)))

-- the peaks are as many as the greatest k for which 2 ^ k is at most n + 1
pub length-log : (n k : ℕ) → 2 ^ k ≤ n + 1 → n + 1 < 2 ^ suc k → length (forest_of mmb_rule n) ≡ k
length-log n k low high =
    let it = length-belt 0 (suc n) (forest_of mmb_rule n) (forest_of-belt n) in
    exponent-same (length (forest_of mmb_rule n)) k (suc n) it.0 it.1 (omega (arith, low)) (omega (arith, high))

-- the position of the leaf after n leaves, by the greatest k for which 2 ^ k is at most n + 1
pub size-mmb : (n k : ℕ) → 2 ^ k ≤ n + 1 → n + 1 < 2 ^ suc k → leaf_position n + k ≡ 2 * n
size-mmb n k low high =
    omega (
      arith,
      length-log n k low high,
      size-twice (forest_of mmb_rule n),
      leaves-forest_of mmb_rule mmb_merges_equals n,
    )

pub size-log : (n k : ℕ) → 2 ^ k ≤ n + 1 → n + 1 < 2 * 2 ^ k → leaf_position n + k ≡ 2 * n
size-log n k low high = size-mmb n k low (omega (arith, high, pow-suc 2 k))

-- a forest has at most twice as many nodes as leaves
pub size-most : (n : ℕ) → leaf_position n ≤ 2 * n
size-most n = omega (arith, size-twice (forest_of mmb_rule n), leaves-forest_of mmb_rule mmb_merges_equals n)

-- the greatest node count
pub size-limit : leaf_position (2 ^ 62) ≡ 2 ^ 63 - 62
size-limit = omega (arith, size-mmb (2 ^ 62) 62 (omega arith) (omega arith))

-- as the two digits of 5 + 1 after the highest tell, there are two peaks, of heights 0 and 1 + 1
pub five-leaves : forest_of mmb_rule 5
    ≡ leaf 6 ∷ branch 7 (branch 2 (leaf 0) (leaf 1)) (branch 5 (leaf 3) (leaf 4)) ∷ []
unfolding forest_of peaks_after_merges
five-leaves = refl

heights-belt : (i index m h : ℕ) (peaks : List Tree) → IsBelt index m peaks → slice_get (map height peaks) i ≡ Some h
    → h ≡ index + i + m / 2 ^ i % 2
heights-belt i index m h [] belt is = absurd cc
heights-belt zero index m h (t ∷ ts) belt is =
    let high : height t ≡ index + m % 2 = ap height belt.0 ∙ height-mmb_tree (index + m % 2) (leaves ts) in
    omega (arith, some_number (height t) h is, high)
heights-belt (suc i) index m h (t ∷ ts) belt is =
    let rest = heights-belt i (suc index) (m / 2) h ts belt.1 is in
    let double : 2 * 2 ^ i ≡ 2 ^ suc i = omega (arith, pow-suc 2 i) in
    let digits : m / 2 / 2 ^ i ≡ m / 2 ^ suc i = div-div-eq-div-mul m 2 (2 ^ i) ∙ ap (λ d. m / d) double in
    let digit : m / 2 / 2 ^ i % 2 ≡ m / 2 ^ suc i % 2 = ap (λ d. d % 2) digits in
    omega (arith, rest, digit)

-- and the one at index i from the right is i high, or one higher where the digit at i is 1
pub heights-mmb : (n i h : ℕ) → slice_get (map height (forest_of mmb_rule n)) i ≡ Some h
    → h ≡ i + (n + 1) / 2 ^ i % 2
heights-mmb n i h is =
    let it = heights-belt i 0 (suc n) h (forest_of mmb_rule n) (forest_of-belt n) is in
    let next : suc n ≡ n + 1 = omega arith in
    let digit : suc n / 2 ^ i % 2 ≡ (n + 1) / 2 ^ i % 2 = ap (λ m. m / 2 ^ i % 2) next in
    omega (arith, it, digit)
