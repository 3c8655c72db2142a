-- When the nodes of a Merkle Mountain Range are born.
use Rattle.std.proofs.Common.{◌≡◌, ℕ, zero, suc, ◌+◌, ◌-◌, ◌*◌, ◌^◌}
use Rattle.std.proofs.Common.{◌%◌, ◌<◌, ◌≤◌, inl, inr, List, [], ◌∷◌, refl, sym}
use Rattle.std.proofs.Common.{◌∙◌, ap, subst, arith, pow-suc, mul_assoc, mul-le-mul_right}
use Rattle.std.proofs.lemmas.Bool.{cases_lt}
use Rattle.std.proofs.lemmas.Nat.{pow_pos, pow-add, shl_whole}
use Rattle.merkle_forest.specs.Forest.{Tree, leaf, branch, position, height, leaf_count, size, leaves, forest_of}
use Rattle.merkle_forest.specs.Forest.{mmr_rule}
use Rattle.merkle_forest.specs.Laws.Rules.{mmr_merges_equals}
use Rattle.merkle_forest.specs.Laws.ForestGrowth.{leaves-forest_of, size-le}
use Rattle.merkle_forest.specs.Nodes.{IsWithin, IsNodeAt, HasNode, StandsAt, IsBirth, IsPositionOfNode, IsFirstLeaf}
use Rattle.merkle_forest.specs.Laws.Nodes.{node-leaves, node-low}
use Rattle.merkle_forest.specs.Mmr.{root_position, mmr_tree, IsRange}
use Rattle.merkle_forest.specs.Laws.Mmr.{height-mmr_tree, leaf_count-mmr_tree, ones-range, forest_of-range, size-mmr}
use Rattle.merkle_forest.specs.Laws.Powers.{pow_order}
use Rattle.merkle_forest.specs.Laws.MmrNodes.{left_half, right_half, height-node, node-mmr, node_position-mmr}

-- of two multiples of a number, the lesser is less by that number or more
apart : (m a b : ℕ) → a * m < b * m → a * m + m ≤ b * m
apart m a b lt =
    elim (cases_lt a b) [
      | inl less ↦ (let whole : suc a * m ≤ b * m = mul-le-mul_right m less in omega (arith, whole))
      | inr more ↦ absurd (let whole : b * m ≤ a * m = mul-le-mul_right m more in omega arith)
    ]

-- a multiple of 2 ^ j is one of 2 ^ i
coarse : (i j b : ℕ) → i ≤ j → b * 2 ^ j ≡ b * 2 ^ (j - i) * 2 ^ i
coarse i j b le = ap (λ n. b * 2 ^ n) (omega (arith, le)) ∙ ap (λ n. b * n) (pow-add 2 (j - i) i)
    ∙ sym (mul_assoc b (2 ^ (j - i)) (2 ^ i))

aligned_below : (i j a b x y : ℕ) → i ≤ j → x ≡ a * 2 ^ i → y ≡ b * 2 ^ j → x < y → x + 2 ^ i ≤ y
aligned_below i j a b x y le is_x is_y lt =
    let wide : y ≡ b * 2 ^ (j - i) * 2 ^ i = is_y ∙ coarse i j b le in
    omega (arith, is_x, wide, apart (2 ^ i) a (b * 2 ^ (j - i)) (omega (arith, is_x, wide, lt)))

aligned_above : (i j a b x y : ℕ) → i ≤ j → x ≡ a * 2 ^ i → y ≡ b * 2 ^ j → y < x → y + 2 ^ i ≤ x
aligned_above i j a b x y le is_x is_y lt =
    let wide : y ≡ b * 2 ^ (j - i) * 2 ^ i = is_y ∙ coarse i j b le in
    omega (arith, is_x, wide, apart (2 ^ i) (b * 2 ^ (j - i)) a (omega (arith, is_x, wide, lt)))

same_height : (h k first start : ℕ) → k < h → start ≤ first → first + 2 ^ h ≤ start + 2 ^ suc k
    → (h ≡ suc k) × (first ≡ start)
same_height h k first start above low high =
    let most : h ≤ suc k = pow_order h (suc k) (omega (arith, pow-suc 2 (suc k), pow_pos (suc k))) in
    let same : h ≡ suc k = omega (arith, above, most) in
    let power : 2 ^ h ≡ 2 ^ suc k = ap (λ n. 2 ^ n) same in
    (same, omega (arith, low, high, power))

-- a tree has the nodes that its leaves have room for
pub born-tree : (k a c h first start at : ℕ) → start ≡ a * 2 ^ k → first ≡ c * 2 ^ h → start ≤ first
    → first + 2 ^ h ≤ start + 2 ^ k
    → (node : Tree) × IsWithin first node start (mmr_tree k at) × (h ≡ height node)
unfolding mmr_tree
born-tree zero a c h first start at is_start is_first low high =
    (leaf at, (omega (arith, low, high, pow_pos h), refl), omega (arith, pow_order h 0 (omega (arith, low, high))))
born-tree (suc k) a c h first start at is_start is_first low high =
    elim (cases_lt k h) [
      | inl above ↦ (let same = same_height h k first start above low high in (
        branch (at + (2 ^ suc (suc k) - 2)) (mmr_tree k at) (mmr_tree k (at + (2 ^ suc k - 1))),
        inl
            (same.1, refl),
        same.0 ∙ ap (λ n. suc n) (sym (height-mmr_tree k at)),
      ))
      | inr below ↦ (
          let half : start + 2 ^ k ≡ (2 * a + 1) * 2 ^ k = omega (arith, is_start, right_half k a) in
          let double : 2 ^ suc k ≡ 2 ^ k * 2 = pow-suc 2 k in
          let counted : leaf_count (mmr_tree k at) ≡ 2 ^ k = leaf_count-mmr_tree k at in
          elim (cases_lt first (start + 2 ^ k)) [
            | inl left ↦ (let it = born-tree k (a * 2) c h first start at (is_start
                ∙ left_half k a) is_first low (aligned_below h k c (2 * a + 1) first
                (start + 2 ^ k) below is_first half left) in
                (it.0, inr (inl it.1), it.2))
            | inr right ↦ (let it =
                born-tree k (2 * a + 1) c h first (start + leaf_count (mmr_tree k at)) (at + (2 ^ suc k - 1))
                (omega (arith, counted, half)) is_first (omega (arith, counted, right))
                (omega (arith, counted, double, high)) in
                (it.0, inr (inr it.1), it.2))
          ])
    ]

left_of : (h k c d first start : ℕ) → first ≡ c * 2 ^ h → start ≡ d * 2 ^ suc k → first < start
    → first + 2 ^ h ≤ start + 2 ^ k → first + 2 ^ h ≤ start
left_of h k c d first start is_first is_start lt high =
    elim (cases_lt (suc k) h) [
      | inl above ↦ (elim (cases_lt start (first + 2 ^ h)) [
        | inl past ↦ (let next : first + 2 ^ h ≡ suc c * 2 ^ h = omega (arith, is_first) in
            absurd (omega (
              arith,
              aligned_below (suc k) h d (suc c) start (first + 2 ^ h)
                  (omega (arith, above)) is_start next past,
              high,
              pow-suc 2 k,
              pow_pos k,
            )))
        | inr fits ↦ fits
      ])
      | inr below ↦ aligned_below h (suc k) c d first start below is_first is_start lt
    ]

pub born-range : (b c h first : ℕ) (peaks : List Tree) → IsRange b peaks → first ≡ c * 2 ^ h
    → first + 2 ^ h ≤ leaves peaks → HasNode peaks first h
born-range b c h first [] range is high = absurd (omega (arith, high, pow_pos h))
born-range b c h first (t ∷ ts) range is high =
    let k : ℕ = height t in
    let ones = ones-range (suc k) ts range.2 in
    let mine : leaf_count t ≡ 2 ^ k = ap leaf_count range.1 ∙ leaf_count-mmr_tree k (size ts) in
    elim (cases_lt first (leaves ts)) [
      | inl before ↦ (let it =
          born-range (suc k) c h first ts range.2 is (left_of h k c ones.0 first (leaves ts) is ones.1 before
          (omega (arith, mine, high))) in
          (it.0, inr it.1, it.2))
      | inr within ↦ (let it = born-tree k (ones.0 * 2) c h first (leaves ts) (size ts) (ones.1
          ∙ left_half k ones.0) is within (omega (arith, mine, high)) in
          (it.0, inl (subst (IsWithin first it.0 (leaves ts)) (sym range.1) it.1), it.2))
    ]

-- the node of height h over leaves from a multiple of 2 ^ h on is born with the last of them
pub birth-mmr : (c h first : ℕ) → first ≡ c * 2 ^ h → IsBirth mmr_rule first h (first + 2 ^ h)
birth-mmr c h first is n = (
  λ it. (let power : 2 ^ h ≡ 2 ^ height it.0 = ap (λ k. 2 ^ k) it.2 in
      omega (arith, power, (node-leaves mmr_rule mmr_merges_equals n first it.0 it.1).1)),
  λ few. born-range 0 c h first (forest_of mmr_rule n) (forest_of-range n) is
      (omega (arith, few, leaves-forest_of mmr_rule mmr_merges_equals n)),
)

-- its position
pub position-mmr : (first h : ℕ) → IsPositionOfNode mmr_rule first h (root_position first h)
position-mmr first h n node few stands high = ap (root_position first) high
    ∙ sym (node_position-mmr n first node stands)

-- the first leaf below it
pub first_leaf-mmr : (p h at first : ℕ) → p ≡ at + (2 ^ suc h - 2) → size (forest_of mmr_rule first) ≤ at
    → ((n : ℕ) → n ≤ 2 ^ 62 → size (forest_of mmr_rule n) ≤ at → n ≤ first)
    → IsFirstLeaf mmr_rule p h first
first_leaf-mmr p h at first is fits greatest n start node few stands at_position high =
    let root : position node ≡ root_position start h = node_position-mmr n start node stands
    ∙ ap (root_position start) (sym high) in
    let there : size (forest_of mmr_rule start) ≡ at = omega (arith, is, at_position, root, size-mmr start) in
    let low : start + 2 ^ height node ≤ n = (node-leaves mmr_rule mmr_merges_equals n start node stands).1 in
    let up_to : start ≤ first = greatest start (omega (arith, low, few)) (omega (arith, there)) in
    let down_to : first ≤ start = size-le mmr_rule mmr_merges_equals first start (omega (arith, fits, there)) in
    omega (arith, up_to, down_to)

-- a node begins at a multiple of its leaf count
pub aligned-mmr : (n first : ℕ) (node : Tree) → IsNodeAt first node (forest_of mmr_rule n)
    → (chunk : ℕ) × (first ≡ chunk * 2 ^ height node)
aligned-mmr n first node stands =
    let it = node-mmr 0 first node (forest_of mmr_rule n) (forest_of-range n) stands in
    (it.times, it.aligned ∙ ap (λ h. it.times * 2 ^ h) (sym (height-node first node it)))

pub birth-chunk_mmr : (chunk h : ℕ) → IsBirth mmr_rule (chunk * 2 ^ h) h (chunk * 2 ^ h + 2 ^ h)
birth-chunk_mmr chunk h = birth-mmr chunk h (chunk * 2 ^ h) refl

pub apart-mmr : (first h : ℕ) → first + 2 ^ h ≡ first + (0 + 2 ^ h)
apart-mmr first h = omega arith

-- its position leaves room for the nodes after its first leaf
pub room-mmr : (p h : ℕ) → StandsAt mmr_rule p h
    → (h < 64) × (2 * 2 ^ h % 2 ^ 64 ≡ 2 ^ suc h) × (2 ≤ 2 ^ suc h) × (2 ^ suc h - 2 ≤ p)
room-mmr p h it =
    let low = (node-low mmr_rule mmr_merges_equals it.0 it.2.0 h it.2.1 it.1 it.2.2 it.2.4).1 in
    let double : 2 ^ suc h ≡ 2 ^ h * 2 = pow-suc 2 h in
    let root : position it.2.1 ≡ root_position it.2.0 h = node_position-mmr it.0 it.2.0 it.2.1 it.2.2
    ∙ ap (root_position it.2.0) (sym it.2.4) in (
      omega (arith, low),
      omega (arith, shl_whole 2 2 h 64 (omega arith) (omega (arith, low)), double),
      omega
          (arith, double, pow_pos h),
      omega (arith, it.2.3, root),
    )
