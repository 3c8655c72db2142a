-- The children of a branch and the peaks of a forest, as positions.
use Rattle.std.proofs.Common.{◌≡◌, ℕ, suc, ◌+◌, ◌*◌, ◌%◌, ◌-◌, ◌^◌, ◌<◌}
use Rattle.std.proofs.Common.{◌≤◌, inl, inr, List, [], ◌∷◌, sym, ◌∙◌, ap, subst, arith}
use Rattle.std.proofs.Math.Nat.{pow-le-pow_right}
use Rattle.merkle_forest.specs.Forest.{Tree, leaf, branch, position, height, leaf_count, leaves, Rule, forest_of}
use Rattle.merkle_forest.specs.Perfect.{IsPairing}
use Rattle.merkle_forest.specs.Laws.ForestGrowth.{forest_of-perfect, leaves-forest_of, height_fits}
use Rattle.merkle_forest.specs.Nodes.{IsWithin, IsNodeAt, IsPeakAt, IsBranchOf, HasPeak}
use Rattle.merkle_forest.specs.Laws.Nodes.{within-self, node-perfect, node-leaves, branch-height, peak-node, first_peak, next_peak}
use Rattle.std.proofs.lemmas.Nat.{pow_pos, one_shl}
use Rattle.merkle_theory.specs.Subtrees.{IsTreeAt}

pub pow_le : (a b : ℕ) → a ≤ b → 2 ^ a ≤ 2 ^ b
pow_le a b le = pow-le-pow_right {n = 2} (omega arith) le

-- the branch that stands at a subtree
pub record Parts (rule : Rule) (first p h : ℕ) : Type 0 where
  pub left : Tree
  pub right : Tree
  pub leaf_total : ℕ
  pub few : leaf_total ≤ 2 ^ 62
  pub stands : IsNodeAt first (branch p left right) (forest_of rule leaf_total)
  pub high : h ≡ suc (height left)

pub parts : (rule : Rule) (first p h : ℕ) (node : Tree) → IsTreeAt rule first p h node → 0 < h → Parts rule first p h
parts rule first p h (leaf q) it some = absurd (let level : h ≡ 0 = it.level in omega arith)
parts rule first p h (branch q left right) it some =
    let Stands : ℕ → Type 0 = λ n. IsNodeAt first (branch n left right) (forest_of rule it.leaf_total) in
    record {
      left = left;
      right = right;
      leaf_total = it.leaf_total;
      few = it.few;
      stands = subst Stands (sym it.subtree) it.stands;
      high = it.level;
    }

pub branch_of : (rule : Rule) (first p h : ℕ) (it : Parts rule first p h) → IsBranchOf rule p h it.left it.right
branch_of rule first p h it = record {
  leaf_total = it.leaf_total;
  few = it.few;
  first = first;
  stands =
      it.stands;
  high = it.high;
}

within_left : (first start p : ℕ) (left right t : Tree) → IsWithin first (branch p left right) start t
    → IsWithin first left start t
within_left first start p left right (leaf q) within = absurd (let e : branch p left right ≡ leaf q = within.1 in cc)
within_left first start p left right (branch q l r) (inl within) =
    let e : branch p left right ≡ branch q l r = within.1 in
    let same : left ≡ l = cc in
    let at : first ≡ start = within.0 in
    let At : ℕ → Type 0 = λ n. IsWithin n left start l in
    let Of : Tree → Type 0 = λ t. IsWithin start t start l in
    inr (inl (subst At (sym at) (subst Of (sym same) (within-self start l))))
within_left first start p left right (branch q l r) (inr (inl within)) =
    inr (inl (within_left first start p left right l within))
within_left first start p left right (branch q l r) (inr (inr within)) =
    inr (inr (within_left first (start + leaf_count l) p left right r within))

within_right : (first start p : ℕ) (left right t : Tree) → IsWithin first (branch p left right) start t
    → IsWithin (first + leaf_count left) right start t
within_right first start p left right (leaf q) within = absurd (let e : branch p left right ≡ leaf q = within.1 in cc)
within_right first start p left right (branch q l r) (inl within) =
    let e : branch p left right ≡ branch q l r = within.1 in
    let same : left ≡ l = cc in
    let other : right ≡ r = cc in
    let at : first ≡ start = within.0 in
    let there : start + leaf_count l ≡ first + leaf_count left = omega (arith, at, ap leaf_count same) in
    let At : ℕ → Type 0 = λ n. IsWithin n right (start + leaf_count l) r in
    let Of : Tree → Type 0 = λ t. IsWithin (start + leaf_count l) t (start + leaf_count l) r in
    inr (inr (subst At there (subst Of (sym other) (within-self (start + leaf_count l) r))))
within_right first start p left right (branch q l r) (inr (inl within)) =
    inr (inl (within_right first start p left right l within))
within_right first start p left right (branch q l r) (inr (inr within)) =
    inr (inr (within_right first (start + leaf_count l) p left right r within))

node_left : (first p : ℕ) (left right : Tree) (peaks : List Tree) → IsNodeAt first (branch p left right) peaks
    → IsNodeAt first left peaks
node_left first p left right [] stands = stands
node_left first p left right (t ∷ ts) (inl within) = inl (within_left first (leaves ts) p left right t within)
node_left first p left right (t ∷ ts) (inr stands) = inr (node_left first p left right ts stands)

node_right : (first p : ℕ) (left right : Tree) (peaks : List Tree) → IsNodeAt first (branch p left right) peaks
    → IsNodeAt (first + leaf_count left) right peaks
node_right first p left right [] stands = stands
node_right first p left right (t ∷ ts) (inl within) = inl (within_right first (leaves ts) p left right t within)
node_right first p left right (t ∷ ts) (inr stands) = inr (node_right first p left right ts stands)

-- how large the branch is
pub parts-fit : (rule : Rule) → IsPairing rule → (first p h : ℕ) (it : Parts rule first p h)
    → (first + 2 ^ h ≤ 2 ^ 62) × (h ≤ 62) × (leaf_count it.left ≡ 2 ^ height it.left)
    × (height it.left ≡ height it.right)
parts-fit rule pairs first p h it =
    let whole = node-leaves rule pairs it.leaf_total first (branch p it.left it.right) it.stands in
    let low = node-leaves rule pairs it.leaf_total first it.left
    (node_left first p it.left it.right (forest_of rule it.leaf_total) it.stands) in
    let power : 2 ^ h ≡ 2 ^ suc (height it.left) = ap (λ n. 2 ^ n) it.high in (
      omega (arith, whole.1, power, it.few),
      (branch-height rule pairs p h it.left it.right (branch_of rule first p h it)).0,
      low.0,
      (node-perfect first (branch p it.left it.right) (forest_of rule it.leaf_total)
          (forest_of-perfect rule pairs it.leaf_total) it.stands).0,
    )

pub left_position : (rule : Rule) → IsPairing rule → (first p h at low : ℕ) (it : Parts rule first p h)
    → at ≡ position it.left → low ≡ height it.left → IsTreeAt rule first at low it.left
left_position rule pairs first p h at low it subtree level =
    record {
      leaf_total = it.leaf_total;
      few = it.few;
      stands = node_left first p it.left it.right (forest_of rule it.leaf_total) it.stands;
      subtree = subtree;
      level = level;
    }

pub right_position : (rule : Rule) → IsPairing rule → (first middle p h at low : ℕ) (it : Parts rule first p h)
    → middle ≡ first + 2 ^ low → at ≡ position it.right → low ≡ height it.left → IsTreeAt rule middle at low it.right
right_position rule pairs first middle p h at low it half subtree level =
    let fit = parts-fit rule pairs first p h it in
    let power : 2 ^ low ≡ 2 ^ height it.left = ap (λ n. 2 ^ n) level in
    let there : middle ≡ first + leaf_count it.left = omega (arith, half, power, fit.2) in
    let Stands : ℕ → Type 0 = λ n. IsNodeAt n it.right (forest_of rule it.leaf_total) in
    record {
      leaf_total = it.leaf_total;
      few = it.few;
      stands = subst Stands (sym there) (node_right first p it.left it.right (forest_of rule it.leaf_total) it.stands);
      subtree = subtree;
      level = level ∙ fit.3;
    }

-- what stands after a peak
pub record After (rule : Rule) (leaf_total first : ℕ) (node : Tree) : Type 0 where
  pub later : first < first + 2 ^ height node
  pub fits : first + 2 ^ height node ≤ leaf_total
  pub next : first + 2 ^ height node < leaf_total → HasPeak (forest_of rule leaf_total) (first + 2 ^ height node)

pub after : (rule : Rule) → IsPairing rule → (leaf_total first : ℕ) (node : Tree)
    → IsPeakAt first node (forest_of rule leaf_total) → After rule leaf_total first node
after rule pairs leaf_total first node peak =
    let stands = peak-node first node (forest_of rule leaf_total) peak in
    let whole = node-leaves rule pairs leaf_total first node stands in
    let all : leaves (forest_of rule leaf_total) ≡ leaf_total = leaves-forest_of rule pairs leaf_total in
    let Next : ℕ → Type 0 = λ n. HasPeak (forest_of rule leaf_total) (first + n) in
    record {
      later = omega (arith, pow_pos (height node));
      fits = whole.1;
      next = λ more. subst Next whole.0 (next_peak first node (forest_of rule leaf_total) peak
          (omega (arith, whole.0, all, more)));
    }

pub peak_position : (rule : Rule) (leaf_total first p h : ℕ) (node : Tree) → leaf_total ≤ 2 ^ 62
    → IsPeakAt first node (forest_of rule leaf_total) → p ≡ position node → h ≡ height node
    → IsTreeAt rule first p h node
peak_position rule leaf_total first p h node few peak subtree level = record {
  leaf_total = leaf_total;
  few = few;
  stands = peak-node first node (forest_of rule leaf_total) peak;
  subtree = subtree;
  level = level;
}

pub first_of : (rule : Rule) → IsPairing rule → (leaf_total : ℕ) → 0 < leaf_total
    → HasPeak (forest_of rule leaf_total) 0
first_of rule pairs leaf_total some =
    first_peak (forest_of rule leaf_total) (omega (arith, leaves-forest_of rule pairs leaf_total))

-- the leaves below a peak of height h, as a shift gives their number
pub record Shift (h : ℕ) (node : Tree) : Type 0 where
  pub low : h < 64
  pub whole : (1 * 2 ^ h) % 2 ^ 64 ≡ 2 ^ height node

pub shift : (leaf_total first h : ℕ) (node : Tree) → leaf_total ≤ 2 ^ 62 → first + 2 ^ height node ≤ leaf_total
    → h ≡ height node → Shift h node
shift leaf_total first h node few fits level =
    let low : h < 64 = omega (arith, level, height_fits 62 (height node) (omega arith)) in
    record { low = low; whole = one_shl h 64 low ∙ ap (λ n. 2 ^ n) level }
