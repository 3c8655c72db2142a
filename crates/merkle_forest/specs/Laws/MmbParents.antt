-- The parent that is born with a leaf of a Merkle Mountain Belt: one higher than the lowest ones of the location after
-- the leaf's are many. There is none where two locations after the leaf's is a power of two.
use Rattle.std.proofs.Common.{◌≡◌, ◌≢◌, ℕ, zero, suc, ◌+◌, ◌-◌, ◌*◌}
use Rattle.std.proofs.Common.{◌/◌, ◌%◌, ◌^◌, ◌<◌, ◌≤◌, length, sym, ◌∙◌, ap}
use Rattle.std.proofs.Common.{subst, arith, pow-suc}
use Rattle.std.proofs.lemmas.Nat.{pow_pos, pow_below, mod-pow-add, div-add-mod', ones_cat, zero_from_ones}
use Rattle.std.proofs.lemmas.Nat.Bits.{bit_at-trailing_ones}
use Rattle.std.specs.List.{range_with_len}
use Rattle.std.specs.Int.{bit_at, w64, trailing_ones}
use Rattle.std.specs.Int.RustNames.{count_ones}
use Rattle.merkle_forest.specs.Forest.{position, size, forest_of, mmb_rule}
use Rattle.merkle_forest.specs.Nodes.{HasNodeAtPosition, AreParents}
use Rattle.merkle_forest.specs.Laws.Rules.{mmb_merges_equals}
use Rattle.merkle_forest.specs.Laws.ForestGrowth.{size-twice, leaves-forest_of}
use Rattle.merkle_forest.specs.Laws.NodeGrowth.{numbered}
use Rattle.merkle_forest.specs.Laws.Parents.{get-range, length-range}
use Rattle.merkle_forest.specs.Laws.Powers.{pow_order}
use Rattle.merkle_forest.specs.Laws.MmrParents.{low-ones}
use Rattle.merkle_forest.specs.Laws.Mmr.{ones-pow}
use Rattle.merkle_forest.specs.Mmb.{leaf_position, root_position}
use Rattle.merkle_forest.specs.Laws.Mmb.{length-belt, forest_of-belt, size-mmb}
use Rattle.merkle_forest.specs.Laws.MmbNodes.{birth-mmb, node_position-mmb}

-- two more nodes at most
grows-little : (n : ℕ) → leaf_position (suc n) ≤ leaf_position n + 2
grows-little n =
    let before = length-belt 0 (suc n) (forest_of mmb_rule n) (forest_of-belt n) in
    let after = length-belt 0 (suc (suc n)) (forest_of mmb_rule (suc n)) (forest_of-belt (suc n)) in
    let more : length (forest_of mmb_rule n) ≤ length (forest_of mmb_rule (suc n)) =
    pow_order (length (forest_of mmb_rule n)) (length (forest_of mmb_rule (suc n)))
    (omega (arith, before.0, after.1)) in
    omega (
      arith,
      more,
      size-twice (forest_of mmb_rule n),
      size-twice (forest_of mmb_rule (suc n)),
      leaves-forest_of mmb_rule mmb_merges_equals n,
      leaves-forest_of mmb_rule mmb_merges_equals (suc n),
    )

-- the parent whose birth is with the leaf
born : (n c t : ℕ) → n + 2 ≡ suc c * 2 ^ suc t + 2 ^ t
    → HasNodeAtPosition (forest_of mmb_rule (suc n)) (suc (leaf_position n)) (suc t)
born n c t is =
    let first : ℕ = c * 2 ^ suc t in
    let whole : suc c * 2 ^ suc t ≡ first + 2 ^ suc t = omega arith in
    let double : 2 ^ suc t ≡ 2 ^ t * 2 = pow-suc 2 t in
    let some : 0 < 2 ^ t = pow_pos t in
    let found = (birth-mmb c (suc t) (suc n)).1 (omega (arith, is, whole, double, some)) in
    let last : first + (3 * 2 ^ t - 2) ≡ n = omega (arith, is, whole, double, some) in
    let root : position found.0 ≡ suc (leaf_position n) = node_position-mmb (suc n) first found.0 found.1
    ∙ ap (root_position first) (sym found.2) ∙ ap (λ k. suc (leaf_position k)) last in
    (first, found.0, found.1, sym root, found.2)

-- where there is none
no-parent : (n t : ℕ) → n + 2 ≡ 2 ^ t → suc (leaf_position n) ≡ leaf_position (suc n)
no-parent n zero is = absurd (omega (arith, is))
no-parent n (suc t) is =
    let double : 2 ^ suc t ≡ 2 ^ t * 2 = pow-suc 2 t in
    let fourfold : 2 ^ suc (suc t) ≡ 2 ^ suc t * 2 = pow-suc 2 (suc t) in
    omega (
      arith,
      size-mmb n t (omega (arith, is, double)) (omega (arith, is)),
      size-mmb (suc n) (suc t) (omega (arith, is)) (omega (arith, is, fourfold, pow_pos (suc t))),
    )

parents-none : (n t : ℕ) → n + 2 ≡ 2 ^ t → AreParents mmb_rule n (range_with_len (suc t) 0)
parents-none n t is = (omega (arith, no-parent n t is), λ i h none. absurd cc)

parents-one : (n c t : ℕ) → n + 2 ≡ suc c * 2 ^ suc t + 2 ^ t → AreParents mmb_rule n (range_with_len (suc t) 1)
parents-one n c t is =
    let it = born n c t is in
    let within : position it.1 < size (forest_of mmb_rule (suc n)) =
    (numbered mmb_rule mmb_merges_equals (suc n)).below it.0 it.1 it.2 in (
      omega (arith, it.3, within, grows-little n, length-range (suc t) 1),
      λ i h is_height. (let place = get-range (suc t) 1 i h is_height in
          let here : suc (leaf_position n) ≡ suc (leaf_position n) + i = omega (arith, place.0) in
          let high : suc t ≡ h = omega (arith, place) in
          subst (λ k. HasNodeAtPosition (forest_of mmb_rule (suc n)) k h) here
          (subst (λ k. HasNodeAtPosition (forest_of mmb_rule (suc n)) (suc (leaf_position n)) k) high it)),
    )

-- two more than n, where the digits of one more are told up to the lowest 0
two-more : (n t : ℕ) → ((i : ℕ) → i < t → bit_at (n + 1) i ≡ 1) → bit_at (n + 1) t ≡ 0
    → n + 2 ≡ (n + 1) / 2 ^ suc t * 2 ^ suc t + 2 ^ t
two-more n t set clear =
    let split : (n + 1) % 2 ^ suc t ≡ (n + 1) / 2 ^ t % 2 * 2 ^ t + (n + 1) % 2 ^ t =
    ap (λ k. (n + 1) % 2 ^ k) (omega arith) ∙ mod-pow-add (n + 1) 1 t in
    let top : (n + 1) / 2 ^ t % 2 * 2 ^ t ≡ 0 * 2 ^ t = ap (λ d. d * 2 ^ t) clear in
    let low : (n + 1) % 2 ^ suc t ≡ 2 ^ t - 1 = omega (arith, split, top, low-ones t (n + 1) set) in
    omega (arith, low, div-add-mod' (n + 1) (2 ^ suc t), pow_pos t)

-- the ones of that number
ones-two_more : (a t : ℕ) → count_ones (a * 2 ^ suc t + 2 ^ t) ≡ count_ones a + 1
unfolding count_ones
ones-two_more a t =
    ones_cat (suc t) a (2 ^ t) (pow_below t (suc t) (omega arith)) ∙ ap (λ m. count_ones a + m) (ones-pow t)

by-ones : (n a t count : ℕ) → n + 2 ≡ a * 2 ^ suc t + 2 ^ t → (count_ones (n + 2) ≡ 1 → count ≡ 0)
    → (count_ones (n + 2) ≢ 1 → count ≡ 1) → AreParents mmb_rule n (range_with_len (suc t) count)
unfolding count_ones
by-ones n zero t count is none one =
    let ones : count_ones (n + 2) ≡ 0 + 1 = ap count_ones is ∙ ones-two_more 0 t in
    subst (λ k. AreParents mmb_rule n (range_with_len (suc t) k)) (sym (none ones))
    (parents-none n t (omega (arith, is)))
by-ones n (suc c) t count is none one =
    let ones : count_ones (n + 2) ≡ count_ones (suc c) + 1 = ap count_ones is ∙ ones-two_more (suc c) t in
    let some : count ≡ 1 =
    one (λ single. absurd (omega (arith, zero_from_ones (suc c) (omega (arith, ones, single))))) in
    subst (λ k. AreParents mmb_rule n (range_with_len (suc t) k)) (sym some) (parents-one n c t is)

pub parents-mmb : (n t count : ℕ) → n + 2 < 2 ^ 64 → t ≡ trailing_ones w64 (n + 1)
    → (count_ones (n + 2) ≡ 1 → count ≡ 0) → (count_ones (n + 2) ≢ 1 → count ≡ 1)
    → AreParents mmb_rule n (range_with_len (suc t) count)
parents-mmb n t count few is none one =
    let it = bit_at-trailing_ones w64 (n + 1) (omega (arith, few)) in
    by-ones n ((n + 1) / 2 ^ suc t) t count
    (two-more n t (λ i lt. it.2 i (omega (arith, is, lt))) (ap (bit_at (n + 1)) is ∙ it.1)) none one

-- the lowest 0 of so small a number
pub low-mmb : (n t : ℕ) → n < 2 ^ 62 → t ≡ trailing_ones w64 (n + 1) → t ≤ 62
low-mmb n t few is =
    let it = bit_at-trailing_ones w64 (n + 1) (omega (arith, few)) in
    let split = two-more n t (λ i lt. it.2 i (omega (arith, is, lt))) (ap (bit_at (n + 1)) is ∙ it.1) in
    pow_order t 62 (omega (arith, split, few))
