-- Reading the grafted tree: what is kept, what is made, and where nothing is read.
use Rattle.std.proofs.Common.{◌≡◌, ℕ, ◌+◌, ◌-◌, ◌*◌, ◌/◌, ◌^◌}
use Rattle.std.proofs.Common.{◌<◌, ◌≤◌, List, Option, None, Some, refl, sym, ◌∙◌, ap}
use Rattle.std.proofs.Common.{subst, arith}
use Rattle.std.specs.Option.{option_or}
use Rattle.std.specs.Prelude.{option_and_then}
use Rattle.std.proofs.lemmas.Bool.{cond-true, cond-false, lt-ltb, le-ltb}
use Rattle.std.proofs.lemmas.Nat.{pow_pos}
use Rattle.std.proofs.Math.Nat.{mul-div_cancel}
use Rattle.merkle_forest.specs.Forest.{Tree, leaf, branch, position, height, leaf_count, Rule, forest_of}
use Rattle.merkle_forest.specs.Hashing.{Hash}
use Rattle.merkle_forest.specs.Laws.Nodes.{node-perfect}
use Rattle.merkle_forest.specs.Laws.ForestGrowth.{forest_of-perfect}
use Rattle.merkle_forest.specs.Laws.Places.{node-left, node-right}
use Rattle.merkle_forest.specs.Nodes.{IsNodeAt, StandsAt, IsHeightAt, IsBranchOf, HasBranch}
use Rattle.merkle_forest.specs.Perfect.{IsPairing}
use Rattle.merkle_core_parts.specs.Mem.{NodeHash}
use Rattle.merkle_theory.specs.Plans.{Lookup}
use Rattle.merkle_theory.specs.MultiReads.{both_there}
use Rattle.merkle_theory.specs.Subtrees.{IsTreeAt}
use Rattle.state_theory.specs.GraftedNodes.{TwoTrees, chunks_node, digest_of_found, grafted_lookup, known_or_made}
use Rattle.state_theory.specs.GraftedNodes.{node_over}
use Rattle.state_theory.specs.SameNodes.{IsSameNode}
use Rattle.state_theory.specs.Verifier.{node_at}
use Rattle.state_theory.specs.Laws.GraftedNodes.{Roots, node_over-is}
use Rattle.state_theory.specs.Laws.Verifier.{node_at-is}

-- ---- the branch that stands at a position
pub record Halves (rule : Rule) (p h : ℕ) : Type 0 where
  pub left : Tree
  pub right : Tree
  pub is : IsBranchOf rule p h left right

halves_of : (rule : Rule) (p h n first : ℕ) (t : Tree) → n ≤ 2 ^ 62 → IsNodeAt first t (forest_of rule n)
    → p ≡ position t → h ≡ height t
    → 0 < h → Halves rule p h
halves_of rule p h n first (leaf q) few stands at level some = absurd (omega (arith, level, some))
halves_of rule p h n first (branch q left right) few stands at level some =
    let At : ℕ → Type 0 = λ k. IsNodeAt first (branch k left right) (forest_of rule n) in
    record {
      left = left;
      right = right;
      is = record { leaf_total = n; few = few; first = first; stands = subst At (sym at) stands; high = level };
    }

pub halves : (rule : Rule) (p h : ℕ) → StandsAt rule p h → 0 < h → Halves rule p h
halves rule p h it some = halves_of rule p h it.0 it.2.0 it.2.1 it.1 it.2.2 it.2.3 it.2.4 some

pub has_branch : (rule : Rule) (p h : ℕ) → StandsAt rule p h → 0 < h → HasBranch rule p h
has_branch rule p h it some = let both = halves rule p h it some in (both.left, both.right, both.is)

-- its children stand one lower
pub left_stands : (rule : Rule) (p h at : ℕ) (left right : Tree) (it : IsBranchOf rule p h left right)
    → at ≡ position left
    → StandsAt rule at (h - 1)
left_stands rule p h at left right it same = (
  it.leaf_total,
  it.few,
  (
    it.first,
    left,
    node-left it.first p left right (forest_of rule it.leaf_total) it.stands,
    same,
    omega (arith, it.high),
  ),
)

pub right_stands : (rule : Rule) → IsPairing rule
    → (p h at : ℕ) (left right : Tree) (it : IsBranchOf rule p h left right)
    → at ≡ position right → StandsAt rule at (h - 1)
right_stands rule pairs p h at left right it same =
    let level : height left ≡ height right =
    (node-perfect it.first (branch p left right) (forest_of rule it.leaf_total)
    (forest_of-perfect rule pairs it.leaf_total) it.stands).0 in (
      it.leaf_total,
      it.few,
      (
        it.first + leaf_count left,
        right,
        node-right it.first p left right (forest_of rule it.leaf_total) it.stands,
        same,
        omega (arith, it.high, level),
      ),
    )

-- the same of a tree at the position
pub branch_at : (rule : Rule) (first p h q : ℕ) (left right : Tree) → IsTreeAt rule first p h (branch q left right)
    → IsBranchOf rule p h left right
branch_at rule first p h q left right it =
    let At : ℕ → Type 0 = λ k. IsNodeAt first (branch k left right) (forest_of rule it.leaf_total) in
    record {
      leaf_total = it.leaf_total;
      few = it.few;
      first = first;
      stands = subst At (sym it.subtree) it.stands;
      high = it.level;
    }

pub left_tree : (rule : Rule) (first p h q at : ℕ) (left right : Tree)
    → IsTreeAt rule first p h (branch q left right) → at ≡ position left
    → IsTreeAt rule first at (h - 1) left
left_tree rule first p h q at left right it same = record {
  leaf_total = it.leaf_total;
  few = it.few;
  stands = node-left first q left right (forest_of rule it.leaf_total) it.stands;
  subtree = same;
  level = omega (arith, it.level);
}

pub right_tree : (rule : Rule) → IsPairing rule → (first p h q at : ℕ) (left right : Tree)
    → IsTreeAt rule first p h (branch q left right)
    → at ≡ position right → IsTreeAt rule (first + leaf_count left) at (h - 1) right
right_tree rule pairs first p h q at left right it same =
    let level : height left ≡ height right =
    (node-perfect first (branch q left right) (forest_of rule it.leaf_total)
    (forest_of-perfect rule pairs it.leaf_total) it.stands).0 in
    record {
      leaf_total = it.leaf_total;
      few = it.few;
      stands = node-right first q left right (forest_of rule it.leaf_total) it.stands;
      subtree = same;
      level = omega (arith, it.level, level);
    }

-- ---- what is known is answered, and where it is not known a branch is made of its children
pub known : (node : NodeHash) (lookup : Lookup) (p : ℕ) (d : List ℕ) (t : Tree) → p ≡ position t → Some d ≡ lookup p
    → Some d ≡ known_or_made node lookup t
known node lookup p d (leaf q) at is = is ∙ ap lookup at
known node lookup p d (branch q left right) at is =
    ap (λ o. option_or o (both_there (node q) (known_or_made node lookup left) (known_or_made node lookup right))) (is
    ∙ ap lookup at)

pub no_leaf : (node : NodeHash) (lookup : Lookup) (p h : ℕ) (t : Tree) → p ≡ position t → h ≡ height t
    → h ≡ 0 → None ≡ lookup p
    → None ≡ known_or_made node lookup t
no_leaf node lookup p h (leaf q) at level low is = is ∙ ap lookup at
no_leaf node lookup p h (branch q left right) at level low is = absurd (omega (arith, level, low))

pub made : (node : NodeHash) (lookup : Lookup) (p q : ℕ) (left right : Tree) (one other : Option (List ℕ))
    → p ≡ q → None ≡ lookup p
    → one ≡ known_or_made node lookup left → other ≡ known_or_made node lookup right
    → both_there (node p) one other ≡ known_or_made node lookup (branch q left right)
made node lookup p q left right one other at is first second =
    ap (λ (k : ℕ). both_there (node k) one other) at
    ∙ ap (λ o. both_there (node q) o other) first
    ∙ ap (both_there (node q) (known_or_made node lookup left)) second
    ∙ ap (λ o. option_or o (both_there (node q) (known_or_made node lookup left) (known_or_made node lookup right)))
    (is ∙ ap lookup at)

pub left_missing : (node : NodeHash) (lookup : Lookup) (p q : ℕ) (left right : Tree) → p ≡ q → None ≡ lookup p
    → None ≡ known_or_made node lookup left → None ≡ known_or_made node lookup (branch q left right)
left_missing node lookup p q left right at is first =
    made node lookup p q left right None (known_or_made node lookup right) at is first refl

-- both children are answered
pub both_made : (node : NodeHash) (lookup : Lookup) (p q : ℕ) (left right : Tree) (a b d : List ℕ)
    → p ≡ q → None ≡ lookup p
    → Some a ≡ known_or_made node lookup left → Some b ≡ known_or_made node lookup right → d ≡ node p a b
    → Some d ≡ known_or_made node lookup (branch q left right)
both_made node lookup p q left right a b d at is first second same =
    ap (λ x. Some x) same ∙ made node lookup p q left right (Some a) (Some b) at is first second

pub right_missing : (node : NodeHash) (lookup : Lookup) (p q : ℕ) (left right : Tree) (d : List ℕ)
    → p ≡ q → None ≡ lookup p
    → Some d ≡ known_or_made node lookup left → None ≡ known_or_made node lookup right
    → None ≡ known_or_made node lookup (branch q left right)
right_missing node lookup p q left right d at is first second =
    made node lookup p q left right (Some d) None at is first second

-- ---- the three cases of a position of the grafted tree
pub read-none : (rule : Rule) (hash : Hash) (trees : TwoTrees) (p : ℕ) → node_at rule p ≡ None
    → None ≡ grafted_lookup rule hash trees p
unfolding grafted_lookup
read-none rule hash trees p none = sym (ap (digest_of_found rule hash trees p) none)

pub read-low : (rule : Rule) (hash : Hash) (trees : TwoTrees) (p first h : ℕ) (answer : Option (List ℕ))
    → node_at rule p ≡ Some (first, h)
    → h < trees.grafting_height → answer ≡ trees.operations p → answer ≡ grafted_lookup rule hash trees p
unfolding grafted_lookup
read-low rule hash trees p first h answer at low is =
    is ∙ sym (ap (digest_of_found rule hash trees p) at ∙ cond-true _ _ _ (lt-ltb h trees.grafting_height low))

pub read-high : (rule : Rule) (hash : Hash) (trees : TwoTrees) (p first h : ℕ) → node_at rule p ≡ Some (first, h)
    → trees.grafting_height ≤ h
    → option_and_then (known_or_made (chunks_node hash rule trees.grafting_height) trees.chunks)
    (node_over rule (first / 2 ^ trees.grafting_height) (h - trees.grafting_height)) ≡ grafted_lookup rule hash trees p
unfolding grafted_lookup
read-high rule hash trees p first h at high =
    sym (ap (digest_of_found rule hash trees p) at ∙ cond-false _ _ _ (le-ltb h trees.grafting_height high))

-- at a node that has a position in both trees
pub read-same : (rule : Rule) (root : ℕ → ℕ → ℕ) → IsPairing rule → Roots rule root
    → (hash : Hash) (trees : TwoTrees) (level p r q : ℕ)
    → level ≡ trees.grafting_height → r ≡ p → (it : IsSameNode rule level r q) (answer : Option (List ℕ))
    → answer ≡ known_or_made (chunks_node hash rule trees.grafting_height) trees.chunks it.over_chunks.0
    → answer ≡ grafted_lookup rule hash trees p
read-same rule root pairs roots hash trees level p r q same here it answer is =
    let node : NodeHash = chunks_node hash rule trees.grafting_height in
    let tree = it.over_chunks.1 in
    let begins : ℕ = it.chunk * 2 ^ level in
    let high : ℕ = it.high + level in
    let at : node_at rule p ≡ Some (begins, high) = ap (node_at rule) (sym here)
    ∙ node_at-is rule pairs begins r high it.over_operations in
    let over : node_over rule it.chunk it.high ≡ Some it.over_chunks.0 =
    node_over-is rule root pairs roots tree.leaf_total it.chunk it.high it.over_chunks.0 tree.few
    tree.stands tree.level in
    let first : begins / 2 ^ trees.grafting_height ≡ it.chunk =
    ap (λ k. begins / 2 ^ k) (sym same) ∙ mul-div_cancel it.chunk (pow_pos level) in
    let low : high - trees.grafting_height ≡ it.high = omega (arith, same) in
    is ∙ sym (ap (option_and_then (known_or_made node trees.chunks))
    (ap (λ k. node_over rule k (high - trees.grafting_height)) first ∙ ap (node_over rule it.chunk) low ∙ over))
    ∙ read-high rule hash trees p begins high at (omega (arith, same))

-- ---- of a node at the grafting height or above it
pub high_is : (rule : Rule) (p h k : ℕ) → StandsAt rule p h → IsHeightAt rule p k → h ≡ k
high_is rule p h k it all = it.2.4 ∙ sym (all it.0 it.2.0 it.2.1 it.1 it.2.2 it.2.3)

-- in the tree of the chunks it stands that much lower
pub low_is : (rule : Rule) (level p q h : ℕ) → IsHeightAt rule p h
    → (it : IsSameNode rule level p q) → h - level ≡ it.high
low_is rule level p q h all it =
    let tree = it.over_operations.1 in
    let same : h ≡ it.high + level =
    all tree.leaf_total (it.chunk * 2 ^ level) it.over_operations.0 tree.few tree.stands tree.subtree
    ∙ sym tree.level in
    omega (arith, same)

pub stands_there : (rule : Rule) (level p q h : ℕ) → IsHeightAt rule p h → (it : IsSameNode rule level p q)
    → StandsAt rule q (h - level)
stands_there rule level p q h all it =
    let tree = it.over_chunks.1 in (
      tree.leaf_total,
      tree.few,
      (it.chunk, it.over_chunks.0, tree.stands, tree.subtree, low_is rule level p q h all it ∙ tree.level),
    )

pub tree_there : (rule : Rule) (level p q h : ℕ) → IsHeightAt rule p h → (it : IsSameNode rule level p q)
    → IsTreeAt rule it.chunk q (h - level) it.over_chunks.0
tree_there rule level p q h all it =
    let tree = it.over_chunks.1 in
    record {
      leaf_total = tree.leaf_total;
      few = tree.few;
      stands = tree.stands;
      subtree = tree.subtree;
      level = low_is rule level p q h all it ∙ tree.level;
    }
