-- The parents that are born with a leaf of a Merkle Mountain Range: as many as the lowest ones of the leaf's location.
use Rattle.std.proofs.Common.{◌≡◌, ℕ, zero, suc, ◌+◌, ◌-◌, ◌*◌, ◌/◌}
use Rattle.std.proofs.Common.{◌%◌, ◌^◌, ◌<◌, refl, sym, ◌∙◌, ap, arith, pow-suc}
use Rattle.std.proofs.lemmas.Nat.{pow_pos, pow_below, mod-pow-add, div-add-mod', ones_cat, ones_le_self}
use Rattle.std.proofs.lemmas.Nat.Bits.{bit_at-trailing_ones}
use Rattle.std.specs.List.{range_with_len}
use Rattle.std.specs.Int.{bit_at, w64, trailing_ones}
use Rattle.std.specs.Int.RustNames.{count_ones}
use Rattle.merkle_forest.specs.Forest.{position, size, forest_of, mmr_rule}
use Rattle.merkle_forest.specs.Nodes.{HasNodeAtPosition, AreParents}
use Rattle.merkle_forest.specs.Mmr.{root_position}
use Rattle.merkle_forest.specs.Laws.Mmr.{ones-pow, size-mmr}
use Rattle.merkle_forest.specs.Laws.MmrNodes.{node_position-mmr}
use Rattle.merkle_forest.specs.Laws.MmrBirths.{birth-mmr}
use Rattle.merkle_forest.specs.Laws.Parents.{get-range, length-range}

-- a number whose lowest t digits are ones
pub low-ones : (t n : ℕ) → ((i : ℕ) → i < t → bit_at n i ≡ 1) → n % 2 ^ t ≡ 2 ^ t - 1
low-ones zero n set = omega arith
low-ones (suc t) n set =
    let split : n % 2 ^ suc t ≡ n / 2 ^ t % 2 * 2 ^ t + n % 2 ^ t = ap (λ k. n % 2 ^ k) (omega arith)
    ∙ mod-pow-add n 1 t in
    let top : n / 2 ^ t % 2 * 2 ^ t ≡ 1 * 2 ^ t = ap (λ d. d * 2 ^ t) (set t (omega arith)) in
    omega (arith, split, top, low-ones t n (λ i lt. set i (omega arith)), pow-suc 2 t, pow_pos t)

ones-low : (t : ℕ) → count_ones (2 ^ t - 1) ≡ t
unfolding count_ones
ones-low zero = refl
ones-low (suc t) =
    let split : 2 ^ suc t - 1 ≡ 1 * 2 ^ t + (2 ^ t - 1) = omega (arith, pow-suc 2 t, pow_pos t) in
    ap count_ones split ∙ ones_cat t 1 (2 ^ t - 1) (omega (arith, pow_pos t)) ∙ ap (λ n. 1 + n) (ones-low t)
    ∙ omega arith

-- the ones of such a number are those above its lowest t digits and t more
ones-split : (t n : ℕ) → n % 2 ^ t ≡ 2 ^ t - 1 → count_ones n ≡ count_ones (n / 2 ^ t) + t
unfolding count_ones
ones-split t n low =
    let whole : n ≡ n / 2 ^ t * 2 ^ t + (2 ^ t - 1) = omega (arith, low, div-add-mod' n (2 ^ t)) in
    ap count_ones whole ∙ ones_cat t (n / 2 ^ t) (2 ^ t - 1) (omega (arith, pow_pos t))
    ∙ ap (λ m. count_ones (n / 2 ^ t) + m) (ones-low t)

ones-shifted : (h c : ℕ) → count_ones (c * 2 ^ h) ≡ count_ones c
unfolding count_ones
ones-shifted h c = ap count_ones (omega arith) ∙ ones_cat h c 0 (pow_pos h) ∙ omega arith

-- one more turns them into zeros and the zero above them into a one
ones-next : (t n : ℕ) → ((i : ℕ) → i < t → bit_at n i ≡ 1) → bit_at n t ≡ 0
    → count_ones (suc n) + t ≡ suc (count_ones n)
unfolding count_ones
ones-next t n set clear =
    let a : ℕ = n / 2 ^ suc t in
    let split : n % 2 ^ suc t ≡ n / 2 ^ t % 2 * 2 ^ t + n % 2 ^ t = ap (λ k. n % 2 ^ k) (omega arith)
    ∙ mod-pow-add n 1 t in
    let top : n / 2 ^ t % 2 * 2 ^ t ≡ 0 * 2 ^ t = ap (λ d. d * 2 ^ t) clear in
    let low : n % 2 ^ suc t ≡ 2 ^ t - 1 = omega (arith, split, top, low-ones t n set) in
    let some : 0 < 2 ^ t = pow_pos t in
    let less : 2 ^ t < 2 ^ suc t = pow_below t (suc t) (omega arith) in
    let whole : n ≡ a * 2 ^ suc t + (2 ^ t - 1) = omega (arith, low, div-add-mod' n (2 ^ suc t)) in
    let next : suc n ≡ a * 2 ^ suc t + 2 ^ t = omega (arith, whole, some) in
    let ones : count_ones n ≡ count_ones a + t = ap count_ones whole
    ∙ ones_cat (suc t) a (2 ^ t - 1) (omega (arith, some, less)) ∙ ap (λ m. count_ones a + m) (ones-low t) in
    let ones_next : count_ones (suc n) ≡ count_ones a + 1 = ap count_ones next ∙ ones_cat (suc t) a (2 ^ t) less
    ∙ ap (λ m. count_ones a + m) (ones-pow t) in
    omega (arith, ones, ones_next)

-- the i-th parent is one of height i + 1 that ends with the leaf
born : (n i h : ℕ) → h ≡ suc i → n % 2 ^ h ≡ 2 ^ h - 1
    → HasNodeAtPosition (forest_of mmr_rule (suc n)) (suc (size (forest_of mmr_rule n)) + i) h
born n i h high low =
    let c : ℕ = n / 2 ^ h in
    let first : ℕ = c * 2 ^ h in
    let some : 0 < 2 ^ h = pow_pos h in
    let whole : n ≡ first + (2 ^ h - 1) = omega (arith, low, div-add-mod' n (2 ^ h)) in
    let found = (birth-mmr c h first refl (suc n)).1 (omega (arith, whole, some)) in
    let at_position : position found.0 ≡ root_position first h = node_position-mmr (suc n) first found.0 found.1
    ∙ ap (root_position first) (sym found.2) in
    let ones : count_ones n ≡ count_ones first + h = ones-split h n low ∙ ap (λ m. m + h) (sym (ones-shifted h c)) in (
      first,
      found.0,
      found.1,
      omega
          (arith, high, whole, some, at_position, ones, ones_le_self n, ones_le_self first, size-mmr n, pow-suc 2 h),
      found.2,
    )

parents-mmr : (n t : ℕ) → ((i : ℕ) → i < t → bit_at n i ≡ 1) → bit_at n t ≡ 0
    → AreParents mmr_rule n (range_with_len 1 t)
parents-mmr n t set clear = (
  omega (
    arith,
    length-range 1 t,
    size-mmr n,
    size-mmr (suc n),
    ones-next t n set clear,
    ones_le_self n,
    ones_le_self
        (suc n),
  ),
  λ i h is. (let it = get-range 1 t i h is in
      born n i h (omega (arith, it.1)) (low-ones h n (λ j lt. set j (omega (arith, it, lt))))),
)

pub parents-trailing_mmr : (n t : ℕ) → suc n < 2 ^ 64 → t ≡ trailing_ones w64 n
    → AreParents mmr_rule n (range_with_len 1 t) × (t < 64)
parents-trailing_mmr n t few is =
    let it = bit_at-trailing_ones w64 n (omega (arith, few)) in
    (parents-mmr n t (λ i lt. it.2 i (omega (arith, is, lt))) (ap (bit_at n) is ∙ it.1), omega (arith, is, it.0))
