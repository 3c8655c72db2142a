-- A node by its place, and what stands after it was made anew, case by case.
use Rattle.std.proofs.Common.{◌≡◌, ℕ, suc, ◌+◌, ◌-◌, ◌^◌, ◌<◌}
use Rattle.std.proofs.Common.{◌≤◌, List, [], ◌∷◌, ◌++◌, Option, Some, sym, ◌∙◌, ap}
use Rattle.std.proofs.Common.{subst, arith}
use Rattle.std.proofs.lemmas.List.{map-append}
use Rattle.merkle_forest.specs.Forest.{Tree, leaf, branch, position, height, leaf_count, Rule, forest_of}
use Rattle.merkle_forest.specs.Nodes.{IsNodeAt, HasBranch, AreChildren}
use Rattle.merkle_forest.specs.Perfect.{IsPairing}
use Rattle.merkle_forest.specs.Laws.ForestGrowth.{height_fits, forest_of-perfect}
use Rattle.merkle_forest.specs.Laws.Nodes.{node-leaves, node-perfect}
use Rattle.merkle_forest.specs.Laws.NodeGrowth.{numbered, one-node}
use Rattle.merkle_core_parts.specs.Mem.{Replacement, NodeHash, encoded, node_count}
use Rattle.merkle_forest.specs.Laws.Places.{node-left, node-right}
use Rattle.merkle_core_parts.specs.Laws.Due.{not-due, due-first}
use Rattle.merkle_core_parts.specs.Laws.Rebuilt.{Digests, IsSetting, ArePending, IsDue, AreTaken, IsRight, IsPlace}
use Rattle.merkle_core_parts.specs.Laws.Rebuilt.{IsRebuilt, after-leaf, untouched-rebuilt, leaf-rebuilt, branch-rebuilt}

pub place-fits : (rule : Rule) → IsPairing rule → (n first p h : ℕ) → n ≤ 2 ^ 62 → IsPlace rule n first p h
    → (h ≤ 62) × (first + 2 ^ h ≤ n)
place-fits rule pairs n first p h few it =
    let whole = node-leaves rule pairs n first it.tree it.stands in
    let fits : first + 2 ^ h ≤ n = subst (λ k. first + 2 ^ k ≤ n) (sym it.high) whole.1 in
    (height_fits 62 h (omega (arith, fits, few)), fits)

pub place-below : (rule : Rule) → IsPairing rule → (n first p h : ℕ) → IsPlace rule n first p h → p < node_count rule n
place-below rule pairs n first p h it = omega (arith, it.at, (numbered rule pairs n).below first it.tree it.stands)

branch_of : (rule : Rule) (n first p h : ℕ) (tree : Tree) → n ≤ 2 ^ 62 → IsNodeAt first tree (forest_of rule n)
    → p ≡ position tree → h ≡ height tree → (h ≡ 0 → ⊥) → HasBranch rule p h
branch_of rule n first p h (leaf q) few stands at high some = absurd (some high)
branch_of rule n first p h (branch q l r) few stands at high some = (
  l,
  r,
  record {
    leaf_total = n;
    few = few;
    first = first;
    stands = subst (λ k. IsNodeAt first (branch k l r) (forest_of rule n)) (sym at) stands;
    high = high;
  },
)

pub place-branch : (rule : Rule) (n first p h : ℕ) → n ≤ 2 ^ 62 → IsPlace rule n first p h
    → (h ≡ 0 → ⊥) → HasBranch rule p h
place-branch rule n first p h few it some = branch_of rule n first p h it.tree few it.stands it.at it.high some

even : (rule : Rule) → IsPairing rule → (n first p : ℕ) (l r : Tree) → IsNodeAt first (branch p l r) (forest_of rule n)
    → height l ≡ height r
even rule pairs n first p l r stands =
    (node-perfect first (branch p l r) (forest_of rule n) (forest_of-perfect rule pairs n) stands).0

-- the two halves of a branch
pub record AreHalves (rule : Rule) (n first p h at_left at_right half : ℕ) : Type 0 where
  pub left : IsPlace rule n first at_left (h - 1)
  pub right : IsPlace rule n half at_right (h - 1)

halves_of : (rule : Rule) → IsPairing rule → (n first p h at_left at_right half : ℕ) (tree : Tree) → n ≤ 2 ^ 62
    → IsNodeAt first tree (forest_of rule n) → p ≡ position tree → h ≡ height tree → (h ≡ 0 → ⊥)
    → AreChildren rule p h at_left at_right → half ≡ first + 2 ^ (h - 1)
    → AreHalves rule n first p h at_left at_right half
halves_of rule pairs n first p h at_left at_right half (leaf q) few stands at high some children is = absurd (some high)
halves_of rule pairs n first p h at_left at_right half (branch q l r) few stands at high some children is =
    let here : IsNodeAt first (branch p l r) (forest_of rule n) =
    subst (λ k. IsNodeAt first (branch k l r) (forest_of rule n)) (sym at) stands in
    let both = children l r (record { leaf_total = n; few = few; first = first; stands = here; high = high }) in
    let lower : h - 1 ≡ height l = omega (arith, high) in
    let left_stands = node-left first q l r (forest_of rule n) stands in
    let right_stands = node-right first q l r (forest_of rule n) stands in
    let left_leaves = node-leaves rule pairs n first l left_stands in
    let whole = node-leaves rule pairs n first (branch q l r) stands in
    let right_leaves = node-leaves rule pairs n (first + leaf_count l) r right_stands in
    let same : half ≡ first + leaf_count l =
    is ∙ ap (λ k. first + 2 ^ k) lower ∙ ap (λ k. first + k) (sym left_leaves.0) in
    let heights : height l ≡ height r = even rule pairs n first q l r stands in
    record {
      left = record { tree = l; stands = left_stands; at = both.0; high = lower };
      right = record {
        tree = r;
        stands = subst (λ k. IsNodeAt k r (forest_of rule n)) (sym same) right_stands;
        at = both.1;
        high = lower ∙ heights;
      };
    }

pub place-halves : (rule : Rule) → IsPairing rule → (n first p h at_left at_right half : ℕ) → n ≤ 2 ^ 62
    → IsPlace rule n first p h → (h ≡ 0 → ⊥) → AreChildren rule p h at_left at_right → half ≡ first + 2 ^ (h - 1)
    → AreHalves rule n first p h at_left at_right half
place-halves rule pairs n first p h at_left at_right half few it some children is =
    halves_of rule pairs n first p h at_left at_right half it.tree few it.stands it.at it.high some children is

-- the tree at a place is one
pub place-tree : (rule : Rule) → IsPairing rule → (n first p h : ℕ) (t : Tree) → IsPlace rule n first p h
    → IsNodeAt first t (forest_of rule n) → p ≡ position t → (h ≡ height t) × (leaf_count t ≡ 2 ^ h)
place-tree rule pairs n first p h t it stands at =
    let same = one-node rule pairs n n first first it.tree t it.stands stands (sym it.at ∙ at) in
    let high : h ≡ height t = it.high ∙ ap height same.1 in
    (high, (node-leaves rule pairs n first t stands).0 ∙ ap (λ k. 2 ^ k) (sym high))

pub case-untouched : (rule : Rule) → IsPairing rule → (node : NodeHash) (n boundary : ℕ) (known : ℕ → Option (List ℕ))
    (before after : Digests) → IsSetting rule node n boundary known before after
    → (first p h : ℕ) (t : Tree) (changed us : List Replacement) (digest : List ℕ) → IsPlace rule n first p h
    → IsNodeAt first t (forest_of rule n) → p ≡ position t → ArePending rule n boundary before after first us
    → (IsDue (first + 2 ^ h) us → ⊥) → known p ≡ Some digest → IsRight rule n after changed
    → IsRebuilt rule n boundary before after first t changed changed digest (first + leaf_count t) us
case-untouched rule pairs node n boundary known before after setting first p h t changed us digest
    it stands at pending none
    is right =
    let tree = place-tree rule pairs n first p h t it stands at in
    untouched-rebuilt rule node n boundary known before after setting first t changed us digest stands pending
    (not-due first (first + leaf_count t) us pending.order
    (λ due. none (subst (λ k. IsDue (first + k) us) tree.1 due)))
    (ap known (sym at) ∙ is) right

leaf_case : (rule : Rule) → IsPairing rule → (n boundary : ℕ) (before after : Digests) (first p : ℕ) (t : Tree)
    (changed us rest : List Replacement) (digest : List ℕ) → 0 ≡ height t
    → IsNodeAt first t (forest_of rule n) → p ≡ position t → ArePending rule n boundary before after first us
    → AreTaken first boundary us rest digest → IsRight rule n after changed
    → IsRebuilt rule n boundary before after first t changed (changed ++ (p, digest)
    ∷ []) digest (first + leaf_count t) rest
leaf_case rule pairs n boundary before after first p (branch q l r) changed us rest digest high stands
    at pending taken right =
    absurd (omega arith)
leaf_case rule pairs n boundary before after first p (leaf q) changed us rest digest high stands
    at pending taken right =
    let end : suc first ≡ first + 1 = omega arith in
    subst (λ k. IsRebuilt rule n boundary before after first (leaf q) changed (changed ++ (k, digest)
    ∷ []) digest (first + 1)
    rest) (sym at)
    (subst (λ k. IsRebuilt rule n boundary before after first (leaf q) changed (changed ++ (q, digest)
    ∷ []) digest k rest) end
    (leaf-rebuilt rule pairs n boundary before after first q changed us rest digest stands pending
    (sym (taken.value (before first (leaf q)))) taken.order taken.bound taken.same right))

pub case-leaf : (rule : Rule) → IsPairing rule → (n boundary : ℕ) (before after : Digests) (first p h : ℕ) (t : Tree)
    (changed us rest : List Replacement) (digest : List ℕ) → IsPlace rule n first p h → h ≡ 0
    → IsNodeAt first t (forest_of rule n) → p ≡ position t → ArePending rule n boundary before after first us
    → AreTaken first boundary us rest digest → IsRight rule n after changed
    → IsRebuilt rule n boundary before after first t changed (changed ++ (p, digest)
    ∷ []) digest (first + leaf_count t) rest
case-leaf rule pairs n boundary before after first p h t changed us rest digest it none stands at pending taken right =
    leaf_case rule pairs n boundary before after first p t changed us rest digest
    (sym none ∙ (place-tree rule pairs n first p h t it stands at).0) stands at pending taken right

branch_case : (rule : Rule) → IsPairing rule → (node : NodeHash) (n boundary : ℕ) (known : ℕ → Option (List ℕ))
    (before after : Digests) → IsSetting rule node n boundary known before after
    → (first p h at_left at_right half : ℕ) (t : Tree) (old mid new us middle rest : List Replacement)
    (dl dr digest : List ℕ) → n ≤ 2 ^ 62 → AreChildren rule p h at_left at_right → half ≡ first + 2 ^ (h - 1)
    → h ≡ height t → (h ≡ 0 → ⊥) → IsNodeAt first t (forest_of rule n) → p ≡ position t → node_count rule boundary ≤ p
    → ((l : Tree) → IsNodeAt first l (forest_of rule n) → at_left ≡ position l
    → IsRebuilt rule n boundary before after first l old mid dl (first + leaf_count l) middle)
    → ((r : Tree) → ArePending rule n boundary before after half middle → IsRight rule n after mid
    → IsNodeAt half r (forest_of rule n) → at_right ≡ position r
    → IsRebuilt rule n boundary before after half r mid new dr (half + leaf_count r) rest)
    → digest ≡ node p dl dr
    → IsRebuilt rule n boundary before after first t old (new ++ (p, digest) ∷ []) digest (first + leaf_count t) rest
branch_case rule pairs node n boundary known before after setting first p h at_left at_right
    half (leaf q) old mid new us
    middle rest dl dr digest few children is high some stands at past one other hashed = absurd (some high)
branch_case rule pairs node n boundary known before after setting first p h at_left at_right half
    (branch q l r) old mid new us
    middle rest dl dr digest few children is high some stands at past one other hashed =
    let here : IsNodeAt first (branch p l r) (forest_of rule n) =
    subst (λ k. IsNodeAt first (branch k l r) (forest_of rule n)) (sym at) stands in
    let both = children l r (record { leaf_total = n; few = few; first = first; stands = here; high = high }) in
    let lower : h - 1 ≡ height l = omega (arith, high) in
    let left_stands = node-left first p l r (forest_of rule n) here in
    let right_stands = node-right first p l r (forest_of rule n) here in
    let same : half ≡ first + leaf_count l =
    is ∙ ap (λ k. first + 2 ^ k) lower
    ∙ ap (λ k. first + k) (sym (node-leaves rule pairs n first l left_stands).0) in
    let left = one l left_stands both.0 in
    let right : IsRebuilt rule n boundary before after (first + leaf_count l) r mid new dr
    (first + leaf_count l + leaf_count r) rest =
    subst (λ k. IsRebuilt rule n boundary before after k r mid new dr (k + leaf_count r) rest) same
    (other r (subst (λ k. ArePending rule n boundary before after k middle) (sym same) left.pending) left.right
    (subst (λ k. IsNodeAt k r (forest_of rule n)) (sym same) right_stands) both.1) in
    let end : first + leaf_count l + leaf_count r ≡ first + (leaf_count l + leaf_count r) = omega arith in
    subst (λ k. IsRebuilt rule n boundary before after first (branch k l r) old (new ++ (p, digest) ∷ []) digest
    (first + (leaf_count l + leaf_count r)) rest) at
    (subst (λ k. IsRebuilt rule n boundary before after first (branch p l r) old (new ++ (p, digest)
    ∷ []) digest k rest) end
    (branch-rebuilt rule pairs node n boundary known before after setting first p (first
    + leaf_count l + leaf_count r) l r old
    mid new middle rest dl dr digest here past left right hashed))

pub case-branch : (rule : Rule) → IsPairing rule → (node : NodeHash) (n boundary : ℕ) (known : ℕ → Option (List ℕ))
    (before after : Digests) → IsSetting rule node n boundary known before after
    → (first p h at_left at_right half : ℕ) (t : Tree) (old mid new us middle rest : List Replacement)
    (dl dr digest : List ℕ) → n ≤ 2 ^ 62 → IsPlace rule n first p h → AreChildren rule p h at_left at_right
    → half ≡ first + 2 ^ (h - 1) → (h ≡ 0 → ⊥) → IsNodeAt first t (forest_of rule n) → p ≡ position t
    → ArePending rule n boundary before after first us → IsDue (first + 2 ^ h) us
    → ((l : Tree) → IsNodeAt first l (forest_of rule n) → at_left ≡ position l
    → IsRebuilt rule n boundary before after first l old mid dl (first + leaf_count l) middle)
    → ((r : Tree) → ArePending rule n boundary before after half middle → IsRight rule n after mid
    → IsNodeAt half r (forest_of rule n) → at_right ≡ position r
    → IsRebuilt rule n boundary before after half r mid new dr (half + leaf_count r) rest)
    → digest ≡ node p dl dr
    → IsRebuilt rule n boundary before after first t old (new ++ (p, digest) ∷ []) digest (first + leaf_count t) rest
case-branch rule pairs node n boundary known before after setting first p h at_left at_right half t
    old mid new us middle rest
    dl dr digest few it children is some stands at pending due one other hashed =
    let tree = place-tree rule pairs n first p h t it stands at in
    let early : boundary < first + 2 ^ h = due-first boundary (first + 2 ^ h) us pending.bound due in
    let fits = place-fits rule pairs n first p h few it in
    branch_case rule pairs node n boundary known before after setting first p h at_left at_right
    half t old mid new us middle
    rest dl dr digest few children is tree.0 some stands at
    (omega (
      arith,
      at,
      after-leaf rule pairs n first boundary t stands (omega (arith, early, fits.1)) (omega (arith, early, tree.1)),
    ))
    one other hashed

-- one more replacement, as the code holds it
pub encoded-push : {D : Type 0} (encoding : D → List ℕ) (items after : List (ℕ × D)) (p : ℕ) (d : D)
    → after ≡ items ++ (p, d) ∷ [] → encoded encoding items ++ (p, encoding d) ∷ [] ≡ encoded encoding after
encoded-push {D} encoding items after p d is =
    sym (ap (encoded encoding) is ∙ map-append (λ (one : ℕ × D). (one.0, encoding one.1)) items ((p, d) ∷ []))
