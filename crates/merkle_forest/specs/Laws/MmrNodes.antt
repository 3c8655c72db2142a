-- Where the nodes and the peaks of a Merkle Mountain Range stand.
use Rattle.std.proofs.Common.{◌≡◌, ℕ, zero, suc, ◌+◌, ◌-◌, ◌*◌, ◌^◌}
use Rattle.std.proofs.Common.{◌<◌, ◌≤◌, inl, inr, List, [], ◌∷◌, refl, sym, ◌∙◌}
use Rattle.std.proofs.Common.{ap, subst, arith, pow-suc, mul_assoc, le_antisymm}
use Rattle.merkle_forest.specs.Laws.Powers.{pow_le, pow_order}
use Rattle.std.proofs.lemmas.Nat.{pow_pos, pow_below, ones_cat, ones_le_self}
use Rattle.std.specs.Int.RustNames.{count_ones}
use Rattle.merkle_forest.specs.Forest.{Tree, leaf, branch, position, height, leaf_count, size, leaves, forest_of}
use Rattle.merkle_forest.specs.Forest.{mmr_rule}
use Rattle.merkle_forest.specs.Laws.Rules.{mmr_merges_equals}
use Rattle.merkle_forest.specs.Laws.ForestGrowth.{leaves-forest_of}
use Rattle.merkle_forest.specs.Nodes.{IsWithin, IsNodeAt, IsPeakAt, IsBranchOf}
use Rattle.merkle_forest.specs.Mmr.{leaf_position, root_position, mmr_tree, IsRange}
use Rattle.merkle_forest.specs.Laws.Mmr.{height-mmr_tree, leaf_count-mmr_tree, position-mmr_tree, ones-pow, ones-range}
use Rattle.merkle_forest.specs.Laws.Mmr.{size-range, forest_of-range}

-- the first leaf of the right half
leaf_position-right : (k a : ℕ) → leaf_position (a * 2 ^ suc k) + (2 ^ suc k - 1) ≡ leaf_position ((2 * a + 1) * 2 ^ k)
unfolding count_ones
leaf_position-right k a =
    let double : 2 ^ suc k ≡ 2 ^ k * 2 = pow-suc 2 k in
    let wide : a * 2 ^ suc k ≡ a * 2 ^ k * 2 = ap (λ n. a * n) double ∙ sym (mul_assoc a (2 ^ k) 2) in
    let right : (2 * a + 1) * 2 ^ k ≡ a * 2 ^ suc k + 2 ^ k = omega (arith, wide) in
    let whole : count_ones (a * 2 ^ suc k) ≡ count_ones a + 0 = ap count_ones (omega arith)
    ∙ ones_cat (suc k) a 0 (pow_pos (suc k)) in
    let half : count_ones ((2 * a + 1) * 2 ^ k) ≡ count_ones a + 1 =
    ap count_ones right ∙ ones_cat (suc k) a (2 ^ k) (pow_below k (suc k) (omega arith))
    ∙ ap (λ n. count_ones a + n) (ones-pow k) in
    let few : count_ones (a * 2 ^ suc k) ≤ a * 2 ^ suc k = ones_le_self (a * 2 ^ suc k) in
    let there : 0 < 2 ^ k = pow_pos k in
    omega (arith, double, right, whole, half, few, there)

pub left_half : (k a : ℕ) → a * 2 ^ suc k ≡ a * 2 * 2 ^ k
left_half k a = let wide : a * 2 ^ suc k ≡ a * (2 ^ k * 2) = ap (λ n. a * n) (pow-suc 2 k) in omega (arith, wide)

pub right_half : (k a : ℕ) → (2 * a + 1) * 2 ^ k ≡ a * 2 ^ suc k + 2 ^ k
right_half k a = omega (arith, left_half k a)

-- a tree over leaves from a multiple of their number on
pub record IsMmrNode (first : ℕ) (node : Tree) : Type 0 where
  pub times : ℕ
  pub high : ℕ
  pub aligned : first ≡ times * 2 ^ high
  pub is : node ≡ mmr_tree high (leaf_position first)

pub height-node : (first : ℕ) (node : Tree) (it : IsMmrNode first node) → height node ≡ it.high
height-node first node it = ap height it.is ∙ height-mmr_tree it.high (leaf_position first)

-- every node of such a tree is one
pub within-mmr : (k a first start at : ℕ) (node : Tree) → start ≡ a * 2 ^ k → at ≡ leaf_position start
    → IsWithin first node start (mmr_tree k at) → IsMmrNode first node
unfolding mmr_tree
within-mmr zero a first start at node aligned at_position within = record {
  times = a;
  high = 0;
  aligned = within.0 ∙ aligned;
  is = within.1 ∙ ap leaf (at_position ∙ ap leaf_position (sym within.0));
}
within-mmr (suc k) a first start at node aligned at_position (inl within) = record {
  times = a;
  high = suc k;
  aligned = within.0 ∙ aligned;
  is = within.1 ∙ ap (mmr_tree (suc k)) (at_position ∙ ap leaf_position (sym within.0));
}
within-mmr (suc k) a first start at node aligned at_position (inr (inl within)) =
    within-mmr k (a * 2) first start at node (aligned ∙ left_half k a) at_position within
within-mmr (suc k) a first start at node aligned at_position (inr (inr within)) =
    let there : start + leaf_count (mmr_tree k at) ≡ (2 * a + 1) * 2 ^ k =
    ap (λ n. n + leaf_count (mmr_tree k at)) aligned ∙ ap (λ n. a * 2 ^ suc k + n) (leaf_count-mmr_tree k at)
    ∙ sym (right_half k a) in
    within-mmr k (2 * a + 1) first (start + leaf_count (mmr_tree k at)) (at + (2 ^ suc k - 1)) node there
    (ap (λ n. n + (2 ^ suc k - 1)) (at_position ∙ ap leaf_position aligned) ∙ leaf_position-right k a
    ∙ ap leaf_position (sym there)) within

-- where a peak of a range stands, and how many leaves stand from its first on
pub record IsMmrPeak (h : ℕ) (peaks : List Tree) (first : ℕ) (node : Tree) : Type 0 where
  pub times : ℕ
  pub aligned : first ≡ times * 2 ^ height node
  pub is : node ≡ mmr_tree (height node) (leaf_position first)
  pub low : first + 2 ^ height node ≤ leaves peaks
  pub high : leaves peaks + 2 ^ h ≤ first + 2 ^ suc (height node)

head_peak : (h first : ℕ) (t node : Tree) (ts : List Tree) → IsRange h (t ∷ ts) → first ≡ leaves ts → node ≡ t
    → IsMmrPeak h (t ∷ ts) first node
head_peak h first t node ts range at is =
    let ones = ones-range (suc (height t)) ts range.2 in
    let same : height node ≡ height t = ap height is in
    let mine : leaf_count t ≡ 2 ^ height t = ap leaf_count range.1 ∙ leaf_count-mmr_tree (height t) (size ts) in
    let power : 2 ^ height node ≡ 2 ^ height t = ap (λ n. 2 ^ n) same in
    let double : 2 ^ suc (height node) ≡ 2 ^ height node * 2 = pow-suc 2 (height node) in
    let low : 2 ^ h ≤ 2 ^ height t = pow_le h (height t) range.0 in
    record {
      times = ones.0 * 2;
      aligned = at ∙ ones.1 ∙ left_half (height t) ones.0 ∙ ap (λ n. ones.0 * 2 * n) (sym power);
      is = is ∙ range.1 ∙ ap (λ n. mmr_tree n (size ts)) (sym same)
          ∙ ap (mmr_tree (height node)) (size-range (suc (height t)) ts range.2 ∙ ap leaf_position (sym at));
      low = omega (arith, mine, power);
      high = omega (arith, mine, power, double, low);
    }

pub peak-mmr : (h first : ℕ) (node : Tree) (peaks : List Tree) → IsRange h peaks → IsPeakAt first node peaks
    → IsMmrPeak h peaks first node
peak-mmr h first node [] range peak = absurd peak
peak-mmr h first node (t ∷ ts) range (inl peak) = head_peak h first t node ts range peak.0 peak.1
peak-mmr h first node (t ∷ ts) range (inr peak) =
    let rest = peak-mmr (suc (height t)) first node ts range.2 peak in
    let mine : leaf_count t ≡ 2 ^ height t = ap leaf_count range.1 ∙ leaf_count-mmr_tree (height t) (size ts) in
    let double : 2 ^ suc (height t) ≡ 2 ^ height t * 2 = pow-suc 2 (height t) in
    let low : 2 ^ h ≤ 2 ^ height t = pow_le h (height t) range.0 in
    record {
      times = rest.times;
      aligned = rest.aligned;
      is = rest.is;
      low = omega (arith, mine, rest.low);
      high = omega (arith, mine, double, low, rest.high);
    }

-- a peak begins at a multiple of its leaf count
pub node-mmr : (h first : ℕ) (node : Tree) (peaks : List Tree) → IsRange h peaks → IsNodeAt first node peaks
    → IsMmrNode first node
node-mmr h first node [] range stands = absurd stands
node-mmr h first node (t ∷ ts) range (inl within) =
    let peak = head_peak h (leaves ts) t t ts range refl refl in
    within-mmr (height t) peak.times first (leaves ts) (leaf_position (leaves ts)) node peak.aligned refl
    (subst (IsWithin first node (leaves ts)) peak.is within)
node-mmr h first node (t ∷ ts) range (inr stands) = node-mmr (suc (height t)) first node ts range.2 stands

-- the height of the peak that begins at a location is the index of the highest one bit of the number of leaves from
-- there on
pub peak_height-mmr : (n first h : ℕ) (node : Tree) → IsPeakAt first node (forest_of mmr_rule n) → 2 ^ h ≤ n - first
    → n - first < 2 * 2 ^ h → h ≡ height node
peak_height-mmr n first h node peak low high =
    let it = peak-mmr 0 first node (forest_of mmr_rule n) (forest_of-range n) peak in
    let all : leaves (forest_of mmr_rule n) ≡ n = leaves-forest_of mmr_rule mmr_merges_equals n in
    let double : 2 ^ suc (height node) ≡ 2 ^ height node * 2 = pow-suc 2 (height node) in
    let double_h : 2 ^ suc h ≡ 2 ^ h * 2 = pow-suc 2 h in
    le_antisymm (pow_order h (height node) (omega (arith, it.low, it.high, all, double)))
    (pow_order (height node) h (omega (arith, it.low, it.high, all, double_h)))

pub node_position-mmr : (n first : ℕ) (node : Tree) → IsNodeAt first node (forest_of mmr_rule n)
    → position node ≡ root_position first (height node)
node_position-mmr n first node stands =
    let it = node-mmr 0 first node (forest_of mmr_rule n) (forest_of-range n) stands in
    ap position it.is ∙ position-mmr_tree it.high (leaf_position first)
    ∙ ap (λ h. root_position first h) (sym (height-node first node it))

branch_parts : (p h k first : ℕ) (left right : Tree) → branch p left right ≡ mmr_tree k first → h ≡ suc (height left)
    → (p ≡ first + (2 ^ suc h - 2)) × (position left ≡ first + (2 ^ h - 2))
    × (position right ≡ first + (2 ^ h - 1) + (2 ^ h - 2))
unfolding mmr_tree
branch_parts p h zero first left right is high = absurd (let e : branch p left right ≡ leaf first = is in cc)
branch_parts p h (suc k) first left right is high =
    let whole : branch p left right ≡ branch (first + (2 ^ suc (suc k) - 2)) (mmr_tree k first)
    (mmr_tree k (first + (2 ^ suc k - 1))) = is in
    let at : p ≡ first + (2 ^ suc (suc k) - 2) = cc in
    let is_left : left ≡ mmr_tree k first = cc in
    let is_right : right ≡ mmr_tree k (first + (2 ^ suc k - 1)) = cc in
    let same : h ≡ suc k = high ∙ ap (λ t. suc (height t)) is_left ∙ ap (λ n. suc n) (height-mmr_tree k first) in (
      at ∙ ap (λ n. first + (2 ^ suc n - 2)) (sym same),
      ap position is_left ∙ position-mmr_tree k first ∙ ap (λ n. first + (2 ^ n - 2)) (sym same),
      ap position is_right ∙ position-mmr_tree k (first + (2 ^ suc k - 1))
          ∙ ap (λ n. first + (2 ^ n - 1) + (2 ^ n - 2)) (sym same),
    )

-- the children of a branch of height h stand 2 ^ h positions and one position before it
pub children-mmr : (p h : ℕ) (left right : Tree) → IsBranchOf mmr_rule p h left right
    → (p ≡ position left + 2 ^ h) × (p ≡ position right + 1)
children-mmr p h left right it =
    let node = node-mmr 0 it.first (branch p left right) (forest_of mmr_rule it.leaf_total)
    (forest_of-range it.leaf_total) it.stands in
    let parts = branch_parts p h node.high (leaf_position it.first) left right node.is it.high in
    let double : 2 ^ suc h ≡ 2 ^ h * 2 = pow-suc 2 h in
    let two : 2 ≤ 2 ^ h = pow_le 1 h (omega (arith, it.high)) in
    (omega (arith, parts.0, parts.1, double, two), omega (arith, parts.0, parts.2, double, two))

-- a peak begins before the last leaf
pub peak-within_mmr : (n first : ℕ) (node : Tree) → IsPeakAt first node (forest_of mmr_rule n) → first < n
peak-within_mmr n first node peak =
    let it = peak-mmr 0 first node (forest_of mmr_rule n) (forest_of-range n) peak in
    omega (arith, it.low, leaves-forest_of mmr_rule mmr_merges_equals n, pow_pos (height node))
