-- Where the nodes and the peaks of a Merkle Mountain Belt stand, and when they are born.
use Rattle.std.proofs.Common.{◌≡◌, ℕ, zero, suc, ◌+◌, ◌-◌, ◌*◌, ◌/◌}
use Rattle.std.proofs.Common.{◌%◌, ◌^◌, ◌≤◌, ◌⊎◌, inl, inr, List, [], ◌∷◌, refl}
use Rattle.std.proofs.Common.{sym, ◌∙◌, ap, subst, arith, pow-suc, le_antisymm}
use Rattle.std.proofs.lemmas.Nat.{pow_pos}
use Rattle.merkle_forest.specs.Forest.{Tree, position, height, leaf_count, leaves, forest_of, mmb_rule}
use Rattle.merkle_forest.specs.Laws.Rules.{mmb_merges_equals}
use Rattle.merkle_forest.specs.Laws.ForestGrowth.{leaves-forest_of, size-le}
use Rattle.merkle_forest.specs.Nodes.{IsWithin, IsNodeAt, IsPeakAt, HasNode, IsBirth}
use Rattle.merkle_forest.specs.Laws.MmrNodes.{left_half, right_half}
use Rattle.merkle_forest.specs.Laws.Nodes.{peak-node}
use Rattle.merkle_forest.specs.Laws.NodeGrowth.{leaf-at, node-stays}
use Rattle.merkle_forest.specs.Mmb.{leaf_position, birth, root_position, mmb_tree, IsBelt}
use Rattle.merkle_forest.specs.Laws.Mmb.{height-mmb_tree, leaf_count-mmb_tree, split, leaves-belt, forest_of-belt}

pub position-mmb_tree : (h first : ℕ) → position (mmb_tree h first) ≡ root_position first h
unfolding mmb_tree
position-mmb_tree zero first = refl
position-mmb_tree (suc h) first = refl

-- a node is born as long after its first leaf as the first node of its height is after the start
pub apart-mmb : (first h : ℕ) → birth first h ≡ first + birth 0 h
apart-mmb first zero = omega arith
apart-mmb first (suc h) = omega arith

-- the children of a node are there before it
pub birth-left : (h first : ℕ) → birth first h ≤ birth first (suc h)
birth-left zero first = omega arith
birth-left (suc h) first = omega (arith, pow-suc 2 h, pow_pos h)

pub birth-right : (h first : ℕ) → birth (first + 2 ^ h) h ≤ birth first (suc h)
birth-right zero first = omega arith
birth-right (suc h) first = omega (arith, pow-suc 2 h, pow_pos h)

-- a tree over leaves from a multiple of their number on, which is there before so many leaves are
pub record IsMmbNode (total first : ℕ) (node : Tree) : Type 0 where
  pub times : ℕ
  pub high : ℕ
  pub aligned : first ≡ times * 2 ^ high
  pub is : node ≡ mmb_tree high first
  pub born : birth first high ≤ total

pub height-node : (total first : ℕ) (node : Tree) (it : IsMmbNode total first node) → height node ≡ it.high
height-node total first node it = ap height it.is ∙ height-mmb_tree it.high first

-- every node of such a tree is one
within-mmb : (k a total first start : ℕ) (node : Tree) → start ≡ a * 2 ^ k → birth start k ≤ total
    → IsWithin first node start (mmb_tree k start) → IsMmbNode total first node
unfolding mmb_tree
within-mmb zero a total first start node aligned born within = record {
  times = a;
  high = 0;
  aligned = within.0 ∙ aligned;
  is = within.1 ∙ ap (mmb_tree 0) (sym within.0);
  born = omega (arith, within.0, born);
}
within-mmb (suc k) a total first start node aligned born (inl within) = record {
  times = a;
  high = suc k;
  aligned = within.0 ∙ aligned;
  is = within.1 ∙ ap (mmb_tree (suc k)) (sym within.0);
  born = omega (arith, within.0, born);
}
within-mmb (suc k) a total first start node aligned born (inr (inl within)) =
    within-mmb k (a * 2) total first start node (aligned ∙ left_half k a) (omega (arith, born, birth-left k start))
    within
within-mmb (suc k) a total first start node aligned born (inr (inr within)) =
    let place : start + leaf_count (mmb_tree k start) ≡ start + 2 ^ k =
    ap (λ n. start + n) (leaf_count-mmb_tree k start) in
    within-mmb k (2 * a + 1) total first (start + 2 ^ k) node
    (ap (λ n. n + 2 ^ k) aligned ∙ sym (right_half k a)) (omega (arith, born, birth-right k start))
    (subst (λ n. IsWithin first node n (mmb_tree k (start + 2 ^ k))) place within)

-- where a peak of a belt stands: of the number of leaves from its first on and one more, the highest digit is the one
-- after the peak's index, and the next one is the peak's
pub record IsMmbPeak (index : ℕ) (peaks : List Tree) (first : ℕ) (node : Tree) : Type 0 where
  pub at : ℕ
  pub digit : ℕ
  pub times : ℕ
  pub is_digit : (digit ≡ 0) ⊎ (digit ≡ 1)
  pub is : node ≡ mmb_tree (at + digit) first
  pub aligned : first ≡ times * 2 ^ suc at
  pub low : first + 2 ^ suc at + digit * 2 ^ at ≤ leaves peaks + 2 ^ index
  pub high : leaves peaks + 2 ^ suc index ≤ first + 2 ^ suc at + digit * 2 ^ at + 2 ^ at

-- of so many leaves, where the digits above are not all 0
above_first : (d q n : ℕ) → n + d ≡ q * d → n ≡ (q - 1) * d
above_first d zero n is = omega (arith, is)
above_first d (suc q) n is = let whole : suc q * d ≡ q * d + d = omega arith in
    let less : suc q - 1 ≡ q = omega arith in
    omega (arith, is, whole, ap (λ k. k * d) less)

head_peak : (index m first : ℕ) (t node : Tree) (ts : List Tree) → IsBelt index m (t ∷ ts) → first ≡ leaves ts
    → node ≡ t → IsMmbPeak index (t ∷ ts) first node
head_peak index m first t node ts belt at is =
    let it = split m in
    let before = leaves-belt (suc index) (m / 2) ts belt.1 in
    let mine : leaf_count t ≡ 2 ^ (index + m % 2) = ap leaf_count belt.0
    ∙ leaf_count-mmb_tree (index + m % 2) (leaves ts) in
    let double : 2 ^ suc index ≡ 2 ^ index * 2 = pow-suc 2 index in
    let bounds : (first + 2 ^ suc index + m % 2 * 2 ^ index ≤ leaves (t ∷ ts) + 2 ^ index)
    × (leaves (t ∷ ts) + 2 ^ suc index ≤ first + 2 ^ suc index + m % 2 * 2 ^ index + 2 ^ index) =
    elim it.digit [
      | inl even ↦ (
          let power : 2 ^ (index + m % 2) ≡ 2 ^ index = ap (λ n. 2 ^ n) (omega (arith, even)) in
          let none : m % 2 * 2 ^ index ≡ 0 * 2 ^ index = ap (λ n. n * 2 ^ index) even in
          (omega (arith, at, mine, power, none, double), omega (arith, at, mine, power, none, double)))
      | inr odd ↦ (
          let power : 2 ^ (index + m % 2) ≡ 2 ^ suc index = ap (λ n. 2 ^ n) (omega (arith, odd)) in
          let one : m % 2 * 2 ^ index ≡ 1 * 2 ^ index = ap (λ n. n * 2 ^ index) odd in
          (omega (arith, at, mine, power, one, double), omega (arith, at, mine, power, one, double)))
    ] in
    record {
      at = index;
      digit = m % 2;
      times = m / 2 - 1;
      is_digit = it.digit;
      is = is ∙ belt.0 ∙ ap (mmb_tree (index + m % 2)) (sym at);
      aligned = at ∙ above_first (2 ^ suc index) (m / 2) (leaves ts) before;
      low = bounds.0;
      high = bounds.1;
    }

pub peak-mmb : (index m first : ℕ) (node : Tree) (peaks : List Tree) → IsBelt index m peaks → IsPeakAt first node peaks
    → IsMmbPeak index peaks first node
peak-mmb index m first node [] belt peak = absurd peak
peak-mmb index m first node (t ∷ ts) belt (inl peak) = head_peak index m first t node ts belt peak.0 peak.1
peak-mmb index m first node (t ∷ ts) belt (inr peak) =
    let it = split m in
    let rest = peak-mmb (suc index) (m / 2) first node ts belt.1 peak in
    let mine : leaf_count t ≡ 2 ^ (index + m % 2) = ap leaf_count belt.0
    ∙ leaf_count-mmb_tree (index + m % 2) (leaves ts) in
    let double : 2 ^ suc index ≡ 2 ^ index * 2 = pow-suc 2 index in
    let fourfold : 2 ^ suc (suc index) ≡ 2 ^ suc index * 2 = pow-suc 2 (suc index) in
    let bounds : (2 ^ index ≤ leaf_count t) × (leaf_count t ≤ 2 ^ suc index) =
    elim it.digit [
      | inl even ↦ (
          let power : 2 ^ (index + m % 2) ≡ 2 ^ index = ap (λ n. 2 ^ n) (omega (arith, even)) in
          (omega (arith, mine, power), omega (arith, mine, power, double)))
      | inr odd ↦ (
          let power : 2 ^ (index + m % 2) ≡ 2 ^ suc index = ap (λ n. 2 ^ n) (omega (arith, odd)) in
          (omega (arith, mine, power, double), omega (arith, mine, power)))
    ] in
    record {
      at = rest.at;
      digit = rest.digit;
      times = rest.times;
      is_digit = rest.is_digit;
      is = rest.is;
      aligned = rest.aligned;
      low = omega (arith, rest.low, bounds.0, double);
      high = omega (arith, rest.high, bounds.1, double, fourfold);
    }

-- a peak is there before the leaves are
born-even : (i first total : ℕ) → first + 2 ^ suc i ≤ total + 1 → birth first i ≤ total
born-even zero first total low = omega (arith, low)
born-even (suc j) first total low = omega (arith, low, pow-suc 2 (suc j), pow-suc 2 j, pow_pos j)

born-peak : (i d first total : ℕ) → (d ≡ 0) ⊎ (d ≡ 1) → first + 2 ^ suc i + d * 2 ^ i ≤ total + 1
    → birth first (i + d) ≤ total
born-peak i d first total (inl even) low =
    let none : d * 2 ^ i ≡ 0 * 2 ^ i = ap (λ n. n * 2 ^ i) even in
    let high : i + d ≡ i = omega (arith, even) in
    let same : birth first (i + d) ≡ birth first i = ap (birth first) high in
    omega (arith, same, born-even i first total (omega (arith, low, none)))
born-peak i d first total (inr odd) low =
    let one : d * 2 ^ i ≡ 1 * 2 ^ i = ap (λ n. n * 2 ^ i) odd in
    let high : i + d ≡ suc i = omega (arith, odd) in
    let same : birth first (i + d) ≡ birth first (suc i) = ap (birth first) high in
    omega (arith, same, low, one, pow-suc 2 i, pow_pos i)

-- it begins at a multiple of its leaf count
aligned-peak : (i d times : ℕ) → (d ≡ 0) ⊎ (d ≡ 1) → (a : ℕ) × (times * 2 ^ suc i ≡ a * 2 ^ (i + d))
aligned-peak i d times (inl even) =
    let same : i + d ≡ i = omega (arith, even) in
    (times * 2, left_half i times ∙ ap (λ n. times * 2 * 2 ^ n) (sym same))
aligned-peak i d times (inr odd) =
    let same : i + d ≡ suc i = omega (arith, odd) in
    (times, ap (λ n. times * 2 ^ n) (sym same))

node-belt : (total first : ℕ) (node : Tree) (peaks : List Tree)
    → ((f : ℕ) (t : Tree) → IsPeakAt f t peaks → IsMmbNode total f t) → IsNodeAt first node peaks
    → IsMmbNode total first node
node-belt total first node [] born stands = absurd stands
node-belt total first node (t ∷ ts) born (inl within) =
    let it = born (leaves ts) t (inl (refl, refl)) in
    within-mmb it.high it.times total first (leaves ts) node it.aligned it.born
    (subst (IsWithin first node (leaves ts)) it.is within)
node-belt total first node (t ∷ ts) born (inr stands) =
    node-belt total first node ts (λ f u peak. born f u (inr peak)) stands

pub peak_node-mmb : (n first : ℕ) (node : Tree) → IsPeakAt first node (forest_of mmb_rule n) → IsMmbNode n first node
peak_node-mmb n first node peak =
    let it = peak-mmb 0 (suc n) first node (forest_of mmb_rule n) (forest_of-belt n) peak in
    let place = aligned-peak it.at it.digit it.times it.is_digit in
    record {
      times = place.0;
      high = it.at + it.digit;
      aligned = it.aligned ∙ place.1;
      is = it.is;
      born = born-peak it.at it.digit first n it.is_digit
          (omega (arith, it.low, leaves-forest_of mmb_rule mmb_merges_equals n));
    }

-- every node
pub node-mmb : (n first : ℕ) (node : Tree) → IsNodeAt first node (forest_of mmb_rule n) → IsMmbNode n first node
node-mmb n first node stands = node-belt n first node (forest_of mmb_rule n) (peak_node-mmb n) stands

-- a node begins at a multiple of its leaf count
pub aligned-mmb : (n first : ℕ) (node : Tree) → IsNodeAt first node (forest_of mmb_rule n)
    → (chunk : ℕ) × (first ≡ chunk * 2 ^ height node)
aligned-mmb n first node stands =
    let it = node-mmb n first node stands in
    (it.times, it.aligned ∙ ap (λ h. it.times * 2 ^ h) (sym (height-node n first node it)))

pub node_position-mmb : (n first : ℕ) (node : Tree) → IsNodeAt first node (forest_of mmb_rule n)
    → position node ≡ root_position first (height node)
node_position-mmb n first node stands =
    let it = node-mmb n first node stands in
    ap position it.is ∙ position-mmb_tree it.high first ∙ ap (root_position first) (sym (height-node n first node it))

-- the node over a chunk is the peak for the lowest digit that is 1, at its birth
peak-there : (j index m c first : ℕ) (peaks : List Tree) → IsBelt index m peaks → m ≡ suc c * 2 ^ suc j + 2 ^ j
    → first ≡ c * 2 ^ (suc j + index)
    → (node : Tree) × IsPeakAt first node peaks × (suc j + index ≡ height node)
peak-there j index m c first [] belt is at =
    absurd (let whole : suc c * 2 ^ suc j ≡ c * 2 ^ suc j + 2 ^ suc j = omega arith in
    omega (arith, belt, is, whole, pow_pos j, pow_pos (suc j)))
peak-there zero index m c first (t ∷ ts) belt is at =
    let odd : m % 2 ≡ 1 = omega (arith, is) in
    let half : m / 2 ≡ suc c = omega (arith, is) in
    let before = leaves-belt (suc index) (m / 2) ts belt.1 in
    let same : 1 + index ≡ suc index = omega arith in
    let power : c * 2 ^ (1 + index) ≡ c * 2 ^ suc index = ap (λ n. c * 2 ^ n) same in
    let whole : m / 2 * 2 ^ suc index ≡ suc c * 2 ^ suc index = ap (λ n. n * 2 ^ suc index) half in
    let parts : suc c * 2 ^ suc index ≡ c * 2 ^ suc index + 2 ^ suc index = omega arith in (
      t,
      inl (omega (arith, at, power, before, whole, parts), refl),
      omega (arith, odd, ap height belt.0, height-mmb_tree (index + m % 2) (leaves ts)),
    )
peak-there (suc j) index m c first (t ∷ ts) belt is at =
    let double : 2 ^ suc j ≡ 2 ^ j * 2 = pow-suc 2 j in
    let fourfold : suc c * 2 ^ suc (suc j) ≡ suc c * (2 ^ suc j * 2) = ap (λ n. suc c * n) (pow-suc 2 (suc j)) in
    let half : m / 2 ≡ suc c * 2 ^ suc j + 2 ^ j = omega (arith, is, double, fourfold) in
    let same : suc (suc j) + index ≡ suc j + suc index = omega arith in
    let rest = peak-there j (suc index) (m / 2) c first ts belt.1 half (at ∙ ap (λ n. c * 2 ^ n) same) in
    (rest.0, inr rest.1, same ∙ rest.2)

at_birth : (c h : ℕ) → HasNode (forest_of mmb_rule (birth (c * 2 ^ h) h)) (c * 2 ^ h) h
at_birth c zero =
    let n : ℕ = c * 2 ^ 0 in
    let it = leaf-at mmb_rule mmb_merges_equals n in
    let node = node-mmb (suc n) it.0 it.1 it.2 in
    let low : height it.1 ≡ 0 = sym it.4 in
    let root : position it.1 ≡ leaf_position it.0 = node_position-mmb (suc n) it.0 it.1 it.2
    ∙ ap (root_position it.0) low in
    let same : it.0 ≡ n = le_antisymm
    (size-le mmb_rule mmb_merges_equals it.0 n (omega (arith, root, it.3)))
    (size-le mmb_rule mmb_merges_equals n it.0 (omega (arith, root, it.3))) in
    let next : suc n ≡ n + 1 = omega arith in (
      it.1,
      subst (λ k. IsNodeAt n it.1 (forest_of mmb_rule k)) next
          (subst (λ k. IsNodeAt k it.1 (forest_of mmb_rule (suc n))) same it.2),
      it.4,
    )
at_birth c (suc j) =
    let first : ℕ = c * 2 ^ suc j in
    let n : ℕ = birth first (suc j) in
    let digits : suc n ≡ suc c * 2 ^ suc j + 2 ^ j =
    let parts : suc c * 2 ^ suc j ≡ c * 2 ^ suc j + 2 ^ suc j = omega arith in
    omega (arith, parts, pow-suc 2 j, pow_pos j) in
    let same : suc j ≡ suc j + 0 = omega arith in
    let place : c * 2 ^ suc j ≡ c * 2 ^ (suc j + 0) = ap (λ k. c * 2 ^ k) same in
    let it = peak-there j 0 (suc n) c first (forest_of mmb_rule n) (forest_of-belt n) digits place in
    let high : suc j ≡ height it.0 = omega (arith, it.2) in
    (it.0, peak-node first it.0 (forest_of mmb_rule n) it.1, high)

-- the forests that have the node over a chunk are those from its birth on
pub birth-mmb : (c h : ℕ) → IsBirth mmb_rule (c * 2 ^ h) h (birth (c * 2 ^ h) h)
birth-mmb c h n = (
  λ it. (let node = node-mmb n (c * 2 ^ h) it.0 it.1 in
      let same : birth (c * 2 ^ h) node.high ≡ birth (c * 2 ^ h) h =
      ap (birth (c * 2 ^ h)) (sym (height-node n (c * 2 ^ h) it.0 node) ∙ sym it.2) in
      omega (arith, same, node.born)),
  λ born. (let it = at_birth c h in
      (it.0, node-stays mmb_rule mmb_merges_equals (birth (c * 2 ^ h) h) n (c * 2 ^ h) it.0 born it.1, it.2)),
)
