-- A node over whole chunks stands in the tree of the operations and in that of the chunks.
use Rattle.std.proofs.Common.{◌≡◌, ℕ, zero, suc, ◌+◌, ◌-◌, ◌*◌, ◌/◌}
use Rattle.std.proofs.Common.{◌^◌, ◌<◌, ◌≤◌, refl, sym, ◌∙◌, ap, subst, arith}
use Rattle.std.proofs.Common.{add-zero}
use Rattle.std.proofs.Math.Nat.{mul_assoc, mul-div_cancel, mul-le-mul_left}
use Rattle.std.proofs.lemmas.Nat.{pow_pos, pow-add}
use Rattle.merkle_forest.specs.Forest.{Tree, position, height, size, Rule, forest_of}
use Rattle.merkle_forest.specs.Laws.NodeGrowth.{node-stays, numbered, one-node}
use Rattle.merkle_forest.specs.Laws.Nodes.{node-leaves}
use Rattle.merkle_forest.specs.Nodes.{IsNodeAt, HasNode, IsSubtree, StandsAt, IsBirth, IsFirstLeaf, IsPositionOfNode}
use Rattle.merkle_forest.specs.Perfect.{IsPairing}
use Rattle.merkle_theory.specs.Subtrees.{HasTree}
use Rattle.state_theory.specs.SameNodes.{IsSameNode}

-- the tree at the position of a node
pub tree_at : (rule : Rule) (first h p : ℕ) → IsSubtree rule first h → IsPositionOfNode rule first h p
    → HasTree rule first p h
tree_at rule first h p there at = (
  there.2.0,
  record {
    leaf_total = there.0;
    few = there.1;
    stands = there.2.1;
    subtree = at there.0 there.2.0 there.1 there.2.1 there.2.2;
    level = there.2.2;
  },
)

-- so many leaves make room for the node's birth, since there are half as many chunks as operations or fewer
room : (x y p birth : ℕ) → 2 ≤ p → x * p + y * p ≤ 2 ^ 62 → birth ≤ x + 2 * y → birth ≤ 2 ^ 62
room x y p birth two fits late =
    omega (arith, mul-le-mul_left x two, mul-le-mul_left y two, fits, late)

pub record AreBorn (rule : Rule) (birth : ℕ → ℕ → ℕ) : Type 0 where
  pub births : (chunk h : ℕ) → IsBirth rule (chunk * 2 ^ h) h (birth (chunk * 2 ^ h) h)
  pub apart : (first h : ℕ) → birth first h ≡ first + birth 0 h
  pub soon : (h : ℕ) → birth 0 h ≤ 2 * 2 ^ h

pub born : {rule : Rule} {birth : ℕ → ℕ → ℕ}
    → ((chunk h : ℕ) → IsBirth rule (chunk * 2 ^ h) h (birth (chunk * 2 ^ h) h))
    → ((first h : ℕ) → birth first h ≡ first + birth 0 h) → ((h : ℕ) → birth 0 h ≤ 2 * 2 ^ h) → AreBorn rule birth
born births apart soon = record { births = births; apart = apart; soon = soon }

-- the node over as many chunks
pub in_chunks : (rule : Rule) (birth : ℕ → ℕ → ℕ) → IsPairing rule → AreBorn rule birth → (n chunk high level : ℕ)
    → n ≤ 2 ^ 62 → HasNode (forest_of rule n) (chunk * 2 ^ (high + level)) (high + level)
    → IsSubtree rule (chunk * 2 ^ high) high
in_chunks rule birth pairs are n chunk high zero few there =
    let At : ℕ → Type 0 = λ k. HasNode (forest_of rule n) (chunk * 2 ^ k) k in
    (n, few, subst At (add-zero high) there)
in_chunks rule birth pairs are n chunk high (suc level) few there =
    let fits = (node-leaves rule pairs n (chunk * 2 ^ (high + suc level)) there.0 there.1).1 in
    let split : 2 ^ (high + suc level) ≡ 2 ^ high * 2 ^ suc level = pow-add 2 high (suc level) in
    let tall : 2 ^ height there.0 ≡ 2 ^ high * 2 ^ suc level = ap (λ k. 2 ^ k) (sym there.2) ∙ split in
    let begins : chunk * 2 ^ (high + suc level) ≡ (chunk * 2 ^ high) * 2 ^ suc level =
    ap (λ k. chunk * k) split ∙ sym (mul_assoc chunk (2 ^ high) (2 ^ suc level)) in
    let two : 2 ≤ 2 ^ suc level = omega (arith, pow-add 2 1 level, pow_pos level) in
    let b : ℕ = birth (chunk * 2 ^ high) high in
    let soon : b ≤ chunk * 2 ^ high + 2 * 2 ^ high =
    omega (arith, are.apart (chunk * 2 ^ high) high, are.soon high) in (
      b,
      room (chunk * 2 ^ high) (2 ^ high) (2 ^ suc level) b two (omega (arith, fits, few, tall, begins)) soon,
      (are.births chunk high b).1 (omega arith),
    )

-- what stands over the operations at a position, and over the chunks
pub record IsOver (rule : Rule) (p h location level : ℕ) : Type 0 where
  pub chunk : ℕ
  pub first : location ≡ chunk * 2 ^ h
  pub quotient : location / 2 ^ level ≡ chunk * 2 ^ (h - level)
  pub below : IsSubtree rule (location / 2 ^ level) (h - level)
  pub over : HasTree rule ((location / 2 ^ level) * 2 ^ level) p (h - level + level)

pub over_at : (rule : Rule) (birth : ℕ → ℕ → ℕ) → IsPairing rule → AreBorn rule birth
    → ((n first : ℕ) (node : Tree) → IsNodeAt first node (forest_of rule n) → (chunk : ℕ)
    × (first ≡ chunk * 2 ^ height node))
    → (p h location level : ℕ) → StandsAt rule p h → IsFirstLeaf rule p h location → level ≤ h
    → IsOver rule p h location level
over_at rule birth pairs are aligned p h location level there is_first le =
    let n : ℕ = there.0 in
    let node : Tree = there.2.1 in
    let at : location ≡ there.2.0 = is_first n there.2.0 node there.1 there.2.2 there.2.3 there.2.4 in
    let part = aligned n there.2.0 node there.2.2 in
    let chunk : ℕ = part.0 in
    let high : ℕ = h - level in
    let sum : high + level ≡ h = omega (arith, le) in
    let begins : location ≡ chunk * 2 ^ h = at ∙ part.1 ∙ ap (λ k. chunk * 2 ^ k) (sym there.2.4) in
    let spread : chunk * 2 ^ h ≡ (chunk * 2 ^ high) * 2 ^ level =
    ap (λ k. chunk * 2 ^ k) (sym sum) ∙ ap (λ k. chunk * k) (pow-add 2 high level)
    ∙ sym (mul_assoc chunk (2 ^ high) (2 ^ level)) in
    let quotient : location / 2 ^ level ≡ chunk * 2 ^ high =
    ap (λ k. k / 2 ^ level) (begins ∙ spread) ∙ mul-div_cancel (chunk * 2 ^ high) (pow_pos level) in
    let AtHigh : ℕ → Type 0 = λ k. HasNode (forest_of rule n) (chunk * 2 ^ k) k in
    let stands : HasNode (forest_of rule n) (chunk * 2 ^ h) h =
    (node, subst (λ k. IsNodeAt k node (forest_of rule n)) (sym at ∙ begins) there.2.2, there.2.4) in
    let below : IsSubtree rule (chunk * 2 ^ high) high =
    in_chunks rule birth pairs are n chunk high level there.1 (subst AtHigh (sym sum) stands) in
    record {
      chunk = chunk;
      first = begins;
      quotient = quotient;
      below = subst (λ k. IsSubtree rule k high) (sym quotient) below;
      over = (
        node,
        record {
          leaf_total = n;
          few = there.1;
          stands = subst (λ k. IsNodeAt k node (forest_of rule n))
              (sym at ∙ begins ∙ spread ∙ ap (λ k. k * 2 ^ level) (sym quotient)) there.2.2;
          subtree = there.2.3;
          level = sum ∙ there.2.4;
        },
      );
    }

-- a node's position is one of the greatest tree
pub is_below : (rule : Rule) → IsPairing rule → (first p h : ℕ) → HasTree rule first p h
    → p < size (forest_of rule (2 ^ 62))
is_below rule pairs first p h it =
    let stays = node-stays rule pairs it.1.leaf_total (2 ^ 62) first it.0 it.1.few it.1.stands in
    omega (arith, it.1.subtree, (numbered rule pairs (2 ^ 62)).below first it.0 stays)

-- what is known of the node at a position is known of each
pub record AreOne (first other h k : ℕ) : Type 0 where
  pub begins : first ≡ other
  pub high : h ≡ k

pub one_tree : (rule : Rule) → IsPairing rule → (first other p q h k : ℕ) → HasTree rule first p h
    → HasTree rule other q k
    → p ≡ q → AreOne first other h k
one_tree rule pairs first other p q h k one more same =
    let it = one-node rule pairs one.1.leaf_total more.1.leaf_total first other one.0 more.0 one.1.stands more.1.stands
    (sym one.1.subtree ∙ same ∙ more.1.subtree) in
    record { begins = it.0; high = one.1.level ∙ ap height it.1 ∙ sym more.1.level }

same_factor : (x y level : ℕ) → x * 2 ^ level ≡ y * 2 ^ level → x ≡ y
same_factor x y level same =
    sym (mul-div_cancel x (pow_pos level)) ∙ ap (λ k. k / 2 ^ level) same ∙ mul-div_cancel y (pow_pos level)

-- the law that a node's position is that of its first leaf and its height
abbrev pub Roots : Rule → (ℕ → ℕ → ℕ) → Type 0
Roots rule root =
    (n first : ℕ) (node : Tree) → IsNodeAt first node (forest_of rule n) → position node ≡ root first (height node)

root_is : (rule : Rule) (root : ℕ → ℕ → ℕ) → Roots rule root → (first p h : ℕ)
    → HasTree rule first p h → p ≡ root first h
root_is rule root roots first p h it =
    it.1.subtree ∙ roots it.1.leaf_total first it.0 it.1.stands ∙ ap (root first) (sym it.1.level)

-- one node of the operations is one of the chunks, and the other way round
pub one_grafted : (rule : Rule) (root : ℕ → ℕ → ℕ) → IsPairing rule → Roots rule root → (level ops p q : ℕ)
    → IsSameNode rule level ops p → IsSameNode rule level ops q → p ≡ q
one_grafted rule root pairs roots level ops p q one other =
    let it = one_tree rule pairs _ _ ops ops _ _ one.over_operations other.over_operations refl in
    let chunk : one.chunk ≡ other.chunk = same_factor one.chunk other.chunk level it.begins in
    let high : one.high ≡ other.high = omega (arith, it.high) in
    root_is rule root roots one.chunk p one.high one.over_chunks ∙ ap (λ k. root k one.high) chunk
    ∙ ap (root other.chunk) high ∙ sym (root_is rule root roots other.chunk q other.high other.over_chunks)

pub one_ops : (rule : Rule) (root : ℕ → ℕ → ℕ) → IsPairing rule → Roots rule root → (level p q grafted : ℕ)
    → IsSameNode rule level p grafted → IsSameNode rule level q grafted → p ≡ q
one_ops rule root pairs roots level p q grafted one other =
    let it = one_tree rule pairs _ _ grafted grafted _ _ one.over_chunks other.over_chunks refl in
    root_is rule root roots _ p _ one.over_operations
    ∙ ap (λ k. root (k * 2 ^ level) (one.high + level)) it.begins
    ∙ ap (λ k. root (other.chunk * 2 ^ level) (k + level)) it.high
    ∙ sym (root_is rule root roots _ q _ other.over_operations)

-- what is said of a node's first leaf and height
pub at_node : (rule : Rule) (first other h k p : ℕ) → first ≡ other → h ≡ k → IsPositionOfNode rule first h p
    → IsPositionOfNode rule other k p
at_node rule first other h k p same high at =
    subst (λ i. IsPositionOfNode rule i k p) same (subst (λ i. IsPositionOfNode rule first i p) high at)

pub sub_node : (rule : Rule) (first other h k : ℕ) → first ≡ other → h ≡ k → IsSubtree rule first h
    → IsSubtree rule other k
sub_node rule first other h k same high at =
    subst (λ i. IsSubtree rule i k) same (subst (λ i. IsSubtree rule first i) high at)

-- a node at a position as a tree there
pub tree_of : (rule : Rule) (p h : ℕ) (it : StandsAt rule p h) → HasTree rule it.2.0 p h
tree_of rule p h it = (
  it.2.1,
  record { leaf_total = it.0; few = it.1; stands = it.2.2; subtree = it.2.3; level = it.2.4 },
)

pub sub_of : (rule : Rule) (first p h : ℕ) → HasTree rule first p h → IsSubtree rule first h
sub_of rule first p h it = (it.1.leaf_total, it.1.few, (it.0, it.1.stands, it.1.level))
