-- Locations from positions, and heights and children of nodes, in a Merkle Mountain Belt.
use Rattle.std.proofs.Common.{◌≡◌, ℕ, zero, suc, ◌+◌, ◌-◌, ◌*◌, ◌/◌, ◌%◌, ◌^◌, ◌<◌, ◌≤◌, inl, inr, length, refl, sym}
use Rattle.std.proofs.Common.{◌∙◌, ap, subst, arith, pow-suc, le_antisymm}
use Rattle.std.proofs.lemmas.Nat.{pow_pos, div-mul-add, shl_whole}
use Rattle.merkle_forest.specs.Forest.{Tree, leaf, branch, position, height, leaves, forest_of, mmb_rule}
use Rattle.merkle_forest.specs.Laws.Rules.{mmb_merges_equals}
use Rattle.merkle_forest.specs.Laws.ForestGrowth.{size-twice, leaves-forest_of, size-le}
use Rattle.merkle_forest.specs.Nodes.{IsNodeAt, IsPeakAt, IsSize, IsBranchOf, StandsAt, IsFirstLeaf, IsSubtree}
use Rattle.merkle_forest.specs.Laws.Nodes.{peak-node, node-leaves}
use Rattle.merkle_forest.specs.Laws.Powers.{pow_order}
use Rattle.merkle_forest.specs.Mmb.{leaf_position, birth, root_position, mmb_tree}
use Rattle.merkle_forest.specs.Laws.Mmb.{height-mmb_tree, exponent-same, length-belt, forest_of-belt}
use Rattle.merkle_forest.specs.Laws.MmbNodes.{birth-left, birth-right, position-mmb_tree, height-node, node-mmb}
use Rattle.merkle_forest.specs.Laws.MmbNodes.{peak-mmb, node_position-mmb}
use Rattle.merkle_forest.specs.Laws.MmbCounts.{low-birth}

-- births and positions by whether a node is a leaf
pub birth-leaf : (first h : ℕ) → h ≡ 0 → birth first h ≡ first + 1
birth-leaf first h is = ap (birth first) is

pub birth-branch : (first h : ℕ) → 0 < h → birth first h ≡ first + (3 * 2 ^ (h - 1) - 1)
birth-branch first zero some = absurd (omega (arith, some))
birth-branch first (suc j) some =
    let less : j ≡ suc j - 1 = omega arith in ap (λ k. first + (3 * 2 ^ k - 1)) less

pub birth-low : (first h : ℕ) → first ≤ birth first h
birth-low first zero = omega arith
birth-low first (suc j) = omega arith

pub root-leaf : (first h : ℕ) → h ≡ 0 → root_position first h ≡ leaf_position first
root-leaf first h is = ap (root_position first) is

pub root-branch : (first h : ℕ) → 0 < h → root_position first h ≡ suc (leaf_position (first + (3 * 2 ^ (h - 1) - 2)))
root-branch first zero some = absurd (omega (arith, some))
root-branch first (suc j) some =
    let less : j ≡ suc j - 1 = omega arith in ap (λ k. suc (leaf_position (first + (3 * 2 ^ k - 2)))) less

-- the shifted number of the last leaf before a birth
pub three_shl : (h : ℕ) → h ≤ 62 → 3 * 2 ^ (h - 1) % 2 ^ 64 ≡ 3 * 2 ^ (h - 1)
three_shl h low = shl_whole 3 2 (h - 1) 64 (omega arith) (omega (arith, low))

below_power : (k : ℕ) → k + 1 ≤ 2 ^ k
below_power zero = omega arith
below_power (suc k) = omega (arith, below_power k, pow-suc 2 k)

-- two locations have two positions
pub location-same : (a b : ℕ) → leaf_position a ≡ leaf_position b → a ≡ b
location-same a b same =
    le_antisymm (size-le mmb_rule mmb_merges_equals a b (omega (arith, same)))
    (size-le mmb_rule mmb_merges_equals b a (omega (arith, same)))

-- the location of the leaf at a position p, by the greatest k for which 2 ^ k is at most p / 2 + 1
pub location-mmb : (n p k : ℕ) → p ≡ leaf_position n → 2 ^ k ≤ p / 2 + 1 → p / 2 + 1 < 2 * 2 ^ k → (p + k + 1) / 2 ≡ n
location-mmb n p k at low high =
    let peaks : ℕ = length (forest_of mmb_rule n) in
    let it = length-belt 0 (suc n) (forest_of mmb_rule n) (forest_of-belt n) in
    let sum : p + peaks ≡ 2 * n =
    omega (arith, at, size-twice (forest_of mmb_rule n), leaves-forest_of mmb_rule mmb_merges_equals n) in
    let double : 2 ^ suc k ≡ 2 ^ k * 2 = pow-suc 2 k in
    let fourfold : 2 ^ suc (suc k) ≡ 2 ^ suc k * 2 = pow-suc 2 (suc k) in
    let least : k ≤ peaks = pow_order k peaks (omega (arith, low, sum, it.1)) in
    let most : peaks ≤ suc k =
    pow_order peaks (suc k) (omega (arith, high, sum, it.0, double, fourfold, below_power peaks)) in
    omega (arith, sum, least, most)

-- the height of the peak that begins at a location: of the number of leaves from there on and one more, the highest
-- digit stands one above the peak's index, and the next one is the peak's
pub peak_height-mmb : (n first k : ℕ) (node : Tree) → IsPeakAt first node (forest_of mmb_rule n)
    → 2 ^ k ≤ n - first + 1 → n - first + 1 < 2 * 2 ^ k
    → (0 < k) × (height node ≡ k - 1 + (n - first + 1) / 2 ^ (k - 1) % 2)
peak_height-mmb n first k node peak low high =
    let it = peak-mmb 0 (suc n) first node (forest_of mmb_rule n) (forest_of-belt n) peak in
    let all : leaves (forest_of mmb_rule n) ≡ n = leaves-forest_of mmb_rule mmb_merges_equals n in
    let some : 0 < 2 ^ it.at = pow_pos it.at in
    let double : 2 ^ suc it.at ≡ 2 ^ it.at * 2 = pow-suc 2 it.at in
    let fourfold : 2 ^ suc (suc it.at) ≡ 2 ^ suc it.at * 2 = pow-suc 2 (suc it.at) in
    let twice : 2 ^ suc k ≡ 2 ^ k * 2 = pow-suc 2 k in
    let least : first + 2 ^ suc it.at + it.digit * 2 ^ it.at ≤ n + 1 = omega (arith, it.low, all) in
    let most : n + 2 ≤ first + 2 ^ suc it.at + it.digit * 2 ^ it.at + 2 ^ it.at = omega (arith, it.high, all) in
    let few : it.digit * 2 ^ it.at ≤ 2 ^ it.at =
    elim it.is_digit [
      | inl none ↦ (let zero_of : it.digit * 2 ^ it.at ≡ 0 * 2 ^ it.at = ap (λ d. d * 2 ^ it.at) none in
          omega (arith, zero_of))
      | inr one ↦ (let one_of : it.digit * 2 ^ it.at ≡ 1 * 2 ^ it.at = ap (λ d. d * 2 ^ it.at) one in
          omega (arith, one_of))
    ] in
    let same : k ≡ suc it.at =
    exponent-same k (suc it.at) (n - first + 1) low (omega (arith, high, twice))
    (omega (arith, least)) (omega (arith, least, most, few, double, fourfold, some)) in
    let index : k - 1 ≡ it.at = omega (arith, same) in
    let rest : n - first + 1 ≡ (2 + it.digit) * 2 ^ it.at + (n + 1 - (first + 2 ^ suc it.at + it.digit * 2 ^ it.at)) =
    omega (arith, least, double) in
    let quotient : (n - first + 1) / 2 ^ (k - 1) ≡ 2 + it.digit =
    ap (λ e. (n - first + 1) / 2 ^ e) index ∙ ap (λ r. r / 2 ^ it.at) rest
    ∙ div-mul-add (2 + it.digit) (2 ^ it.at) (n + 1 - (first + 2 ^ suc it.at + it.digit * 2 ^ it.at))
    (omega (arith, least, most)) in
    let digit : (2 + it.digit) % 2 ≡ it.digit = elim it.is_digit [
      | inl none ↦ omega (arith, none)
      | inr one ↦ omega (arith, one)
    ] in
    let parity : (n - first + 1) / 2 ^ (k - 1) % 2 ≡ it.digit = ap (λ d. d % 2) quotient ∙ digit in
    let high_is : height node ≡ it.at + it.digit = ap height it.is ∙ height-mmb_tree (it.at + it.digit) first in
    (omega (arith, same), omega (arith, high_is, index, parity))

-- a node of a forest is born by then
pub born-mmb : (n first : ℕ) (node : Tree) → n ≤ 2 ^ 62 → IsNodeAt first node (forest_of mmb_rule n)
    → birth first (height node) ≤ 2 ^ 62
born-mmb n first node few stands =
    let it = node-mmb n first node stands in
    let same : birth first (height node) ≡ birth first it.high = ap (birth first) (height-node n first node it) in
    omega (arith, it.born, same, few)

-- a peak begins before the last leaf
pub peak-before : (n first : ℕ) (node : Tree) → IsPeakAt first node (forest_of mmb_rule n) → first < n
peak-before n first node peak =
    let fits = node-leaves mmb_rule mmb_merges_equals n first node (peak-node first node (forest_of mmb_rule n) peak) in
    omega (arith, fits.1, pow_pos (height node))

-- what is known of a node at a position, by its height
pub record IsStanding (p h : ℕ) : Type 0 where
  pub first : ℕ
  pub at : p ≡ root_position first h
  pub born : birth first h ≤ 2 ^ 62
  pub low : h ≤ 61

pub standing-mmb : (p h : ℕ) → StandsAt mmb_rule p h → IsStanding p h
standing-mmb p h it =
    let born : birth it.2.0 h ≤ 2 ^ 62 =
    subst (λ k. birth it.2.0 k ≤ 2 ^ 62) (sym it.2.4) (born-mmb it.0 it.2.0 it.2.1 it.1 it.2.2) in
    record {
      first = it.2.0;
      at = it.2.3 ∙ node_position-mmb it.0 it.2.0 it.2.1 it.2.2 ∙ ap (root_position it.2.0) (sym it.2.4);
      born = born;
      low = low-birth it.2.0 h (2 ^ 62) (omega arith) born;
    }

-- the node over leaves of a forest of the family
pub subtree-mmb : (first h : ℕ) → IsSubtree mmb_rule first h → birth first h ≤ 2 ^ 62
subtree-mmb first h it =
    subst (λ k. birth first k ≤ 2 ^ 62) (sym it.2.2) (born-mmb it.0 first it.2.0 it.1 it.2.1)

-- a leaf's position tells its location
pub first_leaf-leaf : (p h found : ℕ) → h ≡ 0 → leaf_position found ≡ p → IsFirstLeaf mmb_rule p h found
first_leaf-leaf p h found leaf_high is n first node few stands at high =
    location-same found first (is ∙ at ∙ node_position-mmb n first node stands
    ∙ root-leaf first (height node) (sym high ∙ leaf_high))

pub leaf-size : (p h : ℕ) → h ≡ 0 → StandsAt mmb_rule p h → IsSize mmb_rule p
leaf-size p h leaf_high stands =
    let it = standing-mmb p h stands in
    (it.first, omega (arith, it.born, birth-leaf it.first h leaf_high), it.at ∙ root-leaf it.first h leaf_high)

-- the last leaf before a branch tells its first one
pub first_leaf-branch : (p h found location : ℕ) → 0 < h → suc (leaf_position found) ≡ p
    → location + (3 * 2 ^ (h - 1) - 2) ≡ found → IsFirstLeaf mmb_rule p h location
first_leaf-branch p h found location some is place n first node few stands at high =
    let root : p ≡ suc (leaf_position (first + (3 * 2 ^ (h - 1) - 2))) = at ∙ node_position-mmb n first node stands
    ∙ ap (root_position first) (sym high) ∙ root-branch first h some in
    let same : found ≡ first + (3 * 2 ^ (h - 1) - 2) =
    location-same found (first + (3 * 2 ^ (h - 1) - 2)) (omega (arith, is, root)) in
    omega (arith, same, place)

-- where a branch stands right after a leaf
pub record IsAfterLeaf (p h : ℕ) : Type 0 where
  pub some : 0 < p
  pub low : h ≤ 61
  pub least : 2 ≤ 3 * 2 ^ (h - 1)
  pub sized : IsSize mmb_rule (p - 1)
  pub room : (found : ℕ) → leaf_position found ≡ p - 1 → 3 * 2 ^ (h - 1) - 2 ≤ found

pub after-leaf : (p h : ℕ) → 0 < h → StandsAt mmb_rule p h → IsAfterLeaf p h
after-leaf p h some stands =
    let it = standing-mmb p h stands in
    let last : ℕ = it.first + (3 * 2 ^ (h - 1) - 2) in
    let root : p ≡ suc (leaf_position last) = it.at ∙ root-branch it.first h some in
    record {
      some = omega (arith, root);
      low = it.low;
      least = omega (arith, pow_pos (h - 1));
      sized = (last, omega (arith, it.born, birth-branch it.first h some), omega (arith, root));
      room = λ found is.
          (let same : found ≡ last = location-same found last (omega (arith, is, root)) in omega (arith, same));
    }

-- a branch stands over two trees of its half
branch_parts : (k first p h : ℕ) (left right : Tree) → branch p left right ≡ mmb_tree k first → h ≡ suc (height left)
    → (k ≡ h) × (left ≡ mmb_tree (h - 1) first) × (right ≡ mmb_tree (h - 1) (first + 2 ^ (h - 1)))
unfolding mmb_tree
branch_parts zero first p h left right is high =
    absurd (let e : branch p left right ≡ leaf (leaf_position first) = is in cc)
branch_parts (suc k) first p h left right is high =
    let whole : branch p left right
    ≡ branch (root_position first (suc k)) (mmb_tree k first) (mmb_tree k (first + 2 ^ k)) = is in
    let is_left : left ≡ mmb_tree k first = cc in
    let is_right : right ≡ mmb_tree k (first + 2 ^ k) = cc in
    let same : suc k ≡ h = ap (λ n. suc n) (sym (ap height is_left ∙ height-mmb_tree k first)) ∙ sym high in
    let less : k ≡ h - 1 = omega (arith, same) in (
      same,
      is_left ∙ ap (λ n. mmb_tree n first) less,
      is_right ∙ ap (λ n. mmb_tree n (first + 2 ^ n)) less,
    )

-- the positions of its children
pub record AreHalves (p h : ℕ) (left right : Tree) (first : ℕ) : Type 0 where
  pub at_left : position left ≡ root_position first (h - 1)
  pub at_right : position right ≡ root_position (first + 2 ^ (h - 1)) (h - 1)
  pub born_left : birth first (h - 1) ≤ 2 ^ 62
  pub born_right : birth (first + 2 ^ (h - 1)) (h - 1) ≤ 2 ^ 62
  pub some : 0 < h
  pub low : h ≤ 61

pub children-mmb : (p h location : ℕ) (left right : Tree) → IsBranchOf mmb_rule p h left right
    → IsFirstLeaf mmb_rule p h location → AreHalves p h left right location
children-mmb p h location left right it is_first =
    let node = node-mmb it.leaf_total it.first (branch p left right) it.stands in
    let parts = branch_parts node.high it.first p h left right node.is it.high in
    let place : location ≡ it.first =
    is_first it.leaf_total it.first (branch p left right) it.few it.stands refl it.high in
    let born : birth location node.high ≤ 2 ^ 62 =
    subst (λ f. birth f node.high ≤ 2 ^ 62) (sym place) (omega (arith, node.born, it.few)) in
    let whole : suc (h - 1) ≡ node.high = omega (arith, parts.0, it.high) in
    let birth_whole : birth location (suc (h - 1)) ≤ 2 ^ 62 = subst (λ k. birth location k ≤ 2 ^ 62) (sym whole) born in
    record {
      at_left = ap position parts.1 ∙ position-mmb_tree (h - 1) it.first
          ∙ ap (λ f. root_position f (h - 1)) (sym place);
      at_right = ap position parts.2 ∙ position-mmb_tree (h - 1) (it.first + 2 ^ (h - 1))
          ∙ ap (λ f. root_position (f + 2 ^ (h - 1)) (h - 1)) (sym place);
      born_left = omega (arith, birth_whole, birth-left (h - 1) location);
      born_right = omega (arith, birth_whole, birth-right (h - 1) location);
      some = omega (arith, it.high);
      low = omega (arith, low-birth location node.high (2 ^ 62) (omega arith) born, parts.0);
    }
