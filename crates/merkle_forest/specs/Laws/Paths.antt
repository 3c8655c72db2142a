-- Ways down a tree.
use Rattle.std.proofs.Common.{◌≡◌, ◌≤◌, ℕ, suc, ◌+◌, ◌-◌, ◌*◌, ◌%◌}
use Rattle.std.proofs.Common.{◌^◌, cond, ltb, [], ◌∷◌, refl, sym, ◌∙◌, ap, subst}
use Rattle.std.proofs.Common.{arith}
use Rattle.std.proofs.lemmas.Nat.{one_shl}
use Rattle.merkle_forest.specs.Forest.{Tree, leaf, branch, position, height, leaf_count, Rule, forest_of}
use Rattle.merkle_forest.specs.Laws.ForestGrowth.{forest_of-perfect}
use Rattle.merkle_forest.specs.Laws.Nodes.{node-leaves, node-perfect, subtree-low}
use Rattle.merkle_forest.specs.Laws.Places.{node-left, node-right}
use Rattle.merkle_forest.specs.Nodes.{IsNodeAt, IsSubtree}
use Rattle.merkle_forest.specs.Paths.{path_down, path_by}
use Rattle.merkle_forest.specs.Perfect.{IsPairing}

-- where nodes stand as `root_of` tells, the way down by it is that down the tree
pub path-down : (rule : Rule) → IsPairing rule → (root_of : ℕ → ℕ → ℕ)
    → ((n first : ℕ) (node : Tree) → IsNodeAt first node (forest_of rule n)
    → position node ≡ root_of first (height node))
    → (target n first : ℕ) (node : Tree) → IsNodeAt first node (forest_of rule n)
    → path_by root_of target first (height node) ≡ path_down target first node
unfolding path_by
path-down rule pairs root_of roots target n first (leaf p) stands = refl
path-down rule pairs root_of roots target n first (branch p left right) stands =
    let forest = forest_of rule n in
    let h = height left in
    let on_left = node-left first p left right forest stands in
    let on_right = node-right first p left right forest stands in
    let wide : leaf_count left ≡ 2 ^ h = (node-leaves rule pairs n first left on_left).0 in
    let even : h ≡ height right =
    (node-perfect first (branch p left right) forest (forest_of-perfect rule pairs n) stands).0 in
    let own : root_of first (suc h) ≡ p = sym (roots n first (branch p left right) stands) in
    let left_is : root_of first h ≡ position left = sym (roots n first left on_left) in
    let right_is : root_of (first + 2 ^ h) h ≡ position right =
    ap (λ k. root_of (first + k) h) (sym wide) ∙ ap (root_of (first + leaf_count left)) even
    ∙ sym (roots n (first + leaf_count left) right on_right) in
    let below_left : path_by root_of target first h ≡ path_down target first left =
    path-down rule pairs root_of roots target n first left on_left in
    let below_right : path_by root_of target (first + 2 ^ h) h ≡ path_down target (first + leaf_count left) right =
    ap (λ k. path_by root_of target (first + k) h) (sym wide)
    ∙ ap (path_by root_of target (first + leaf_count left)) even
    ∙ path-down rule pairs root_of roots target n (first + leaf_count left) right on_right in
    let begins : first + 2 ^ h ≡ first + leaf_count left = ap (λ k. first + k) (sym wide) in
    cc

children-of : (rule : Rule) → IsPairing rule → (n first h : ℕ) (node : Tree) → n ≤ 2 ^ 62
    → IsNodeAt first node (forest_of rule n) → suc h ≡ height node
    → IsSubtree rule first h × IsSubtree rule (first + 2 ^ h) h
children-of rule pairs n first h (leaf p) few stands high = absurd (omega (arith, high))
children-of rule pairs n first h (branch p left right) few stands high =
    let forest = forest_of rule n in
    let same : h ≡ height left = omega (arith, high) in
    let on_left = node-left first p left right forest stands in
    let on_right = node-right first p left right forest stands in
    let wide : leaf_count left ≡ 2 ^ h =
    (node-leaves rule pairs n first left on_left).0 ∙ ap (λ k. 2 ^ k) (sym same) in
    let even : height left ≡ height right =
    (node-perfect first (branch p left right) forest (forest_of-perfect rule pairs n) stands).0 in (
      (n, few, (left, on_left, same)),
      (n, few, (right, subst (λ k. IsNodeAt (first + k) right forest) wide on_right, same ∙ even)),
    )

-- over the leaves of a branch stand its two children
pub subtree-children : (rule : Rule) → IsPairing rule → (first h : ℕ) → IsSubtree rule first (suc h)
    → IsSubtree rule first h × IsSubtree rule (first + 2 ^ h) h
subtree-children rule pairs first h it =
    children-of rule pairs it.0 first h it.2.0 it.1 it.2.1 it.2.2

-- a node that is no leaf, by its height and its first leaf: how high its children are, and where they begin
pub record IsParted (rule : Rule) (first h : ℕ) : Type 0 where
  pub up : h ≡ suc (h - 1)
  pub low : h - 1 ≤ 62
  pub fits : first + 2 ^ (h - 1) ≤ 2 ^ 62
  pub width : 1 * 2 ^ (h - 1) % 2 ^ 64 ≡ 2 ^ (h - 1)
  pub left : IsSubtree rule first (h - 1)
  pub right : IsSubtree rule (first + 2 ^ (h - 1)) (h - 1)

pub parted : (rule : Rule) → IsPairing rule → (first h : ℕ) → IsSubtree rule first h → (h ≡ 0 → ⊥)
    → IsParted rule first h
parted rule pairs first h it high =
    let up : h ≡ suc (h - 1) = omega (arith, high) in
    let below = subtree-children rule pairs first (h - 1) (subst (IsSubtree rule first) up it) in
    let low = subtree-low rule pairs first (h - 1) below.0 in
    record {
      up = up;
      low = low.1;
      fits = low.0;
      width = one_shl (h - 1) 64 (omega (arith, low.1));
      left = below.0;
      right = below.1;
    }

-- a way down from such a node goes on over the child that holds the leaf
pub path-steps : (root_of : ℕ → ℕ → ℕ) (target first h : ℕ) → h ≡ suc (h - 1)
    → path_by root_of target first h ≡ cond (ltb target (first + 2 ^ (h - 1)))
    ((root_of first h, root_of (first + 2 ^ (h - 1)) (h - 1), h) ∷ path_by root_of target first (h - 1))
    ((root_of first h, root_of first (h - 1), h) ∷ path_by root_of target (first + 2 ^ (h - 1)) (h - 1))
unfolding path_by
path-steps root_of target first h up =
    let below = h - 1 in
    ap (path_by root_of target first) up
    ∙ ap (λ k. cond (ltb target (first + 2 ^ below))
    ((root_of first k, root_of (first + 2 ^ below) below, k) ∷ path_by root_of target first below)
    ((root_of first k, root_of first below, k) ∷ path_by root_of target (first + 2 ^ below) below)) (sym up)

-- from a leaf no branch is left
pub path-ends : (root_of : ℕ → ℕ → ℕ) (target first h : ℕ) → h ≡ 0 → path_by root_of target first h ≡ []
unfolding path_by
path-ends root_of target first h none = ap (path_by root_of target first) none
