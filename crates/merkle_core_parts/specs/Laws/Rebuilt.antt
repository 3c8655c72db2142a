-- A tree whose leaves get other digests, made anew from below: only the branches over such leaves.
use Rattle.std.proofs.Common.{◌≡◌, ℕ, suc, ◌+◌, ◌-◌, ◌<◌, ◌≤◌, ◌⊎◌, inl, inr, eqb, List, [], ◌∷◌, ◌++◌, Option, Some}
use Rattle.std.proofs.Common.{refl, sym, ◌∙◌, ap₂, subst, arith, eq-eqb}
use Rattle.std.proofs.lemmas.Bool.{cases_eq, cond-true, cond-false, ne_eqb}
use Rattle.std.specs.Prelude.{IfSome}
use Rattle.merkle_forest.specs.Forest.{Tree, leaf, branch, position, height, leaf_count, size, Rule, forest_of}
use Rattle.merkle_forest.specs.Nodes.{IsWithin, IsNodeAt}
use Rattle.merkle_forest.specs.Perfect.{IsPairing}
use Rattle.merkle_forest.specs.Laws.ForestGrowth.{leaves-forest_of}
use Rattle.merkle_forest.specs.Laws.Nodes.{node-fits, within-fits}
use Rattle.merkle_forest.specs.Laws.NodeGrowth.{numbered, one-node}
use Rattle.merkle_core_parts.specs.Mem.{Replacement, NodeHash, node_count, value_after}
use Rattle.merkle_core_parts.specs.Laws.Kept.{later}
use Rattle.merkle_forest.specs.Laws.Places.{node-left, node-right}
use Rattle.merkle_core_parts.specs.Laws.Replaced.{after-more, AreFrom, after-before}

-- the digest of each tree, told by the location of its first leaf
abbrev pub Digests : Type 0
Digests = ℕ → Tree → List ℕ

-- What is known of the nodes of a forest before and after: at a position stands what the node's digest was; a branch
-- whose children keep their digests keeps its own; and one that is not before the boundary is hashed from its children.
pub record IsSetting (rule : Rule) (node : NodeHash) (n boundary : ℕ) (known : ℕ → Option (List ℕ))
    (before after : Digests) : Type 0 where
  pub known_is : (f : ℕ) (t : Tree) → IsNodeAt f t (forest_of rule n)
      → IfSome (known (position t)) (λ d. d ≡ before f t)
  pub same : (f p : ℕ) (l r : Tree) → IsNodeAt f (branch p l r) (forest_of rule n) → before f l ≡ after f l
      → before (f + leaf_count l) r ≡ after (f + leaf_count l) r → before f (branch p l r) ≡ after f (branch p l r)
  pub hashed : (f p : ℕ) (l r : Tree) → IsNodeAt f (branch p l r) (forest_of rule n) → node_count rule boundary ≤ p
      → after f (branch p l r) ≡ node p (after f l) (after (f + leaf_count l) r)

-- from a location on, these replacements are what the leaves get, in order of location
pub record ArePending (rule : Rule) (n boundary : ℕ) (before after : Digests) (first : ℕ) (us : List Replacement)
    : Type 0 where
  pub order : AreFrom first us
  pub bound : AreFrom boundary us
  pub each : (k p : ℕ) → first ≤ k → IsNodeAt k (leaf p) (forest_of rule n)
      → after k (leaf p) ≡ value_after us k (before k (leaf p))

-- the changed nodes have their new digests
abbrev pub IsRight : Rule → ℕ → Digests → List Replacement → Type 0
IsRight rule n after changed = (f : ℕ) (t : Tree) → IsNodeAt f t (forest_of rule n)
    → ((x : List ℕ) → value_after changed (position t) x ≡ x)
    ⊎ ((x : List ℕ) → value_after changed (position t) x ≡ after f t)

-- a node has its new digest, changed or not
abbrev pub IsDone : Digests → Digests → List Replacement → ℕ → Tree → Type 0
IsDone before after changed f t = value_after changed (position t) (before f t) ≡ after f t

-- what stands after a tree was made anew
pub record IsRebuilt (rule : Rule) (n boundary : ℕ) (before after : Digests) (first : ℕ) (tree : Tree)
    (old new : List Replacement) (digest : List ℕ) (end : ℕ) (rest : List Replacement) : Type 0 where
  pub right : IsRight rule n after new
  pub keeps : (f : ℕ) (t : Tree) → IsNodeAt f t (forest_of rule n) → IsDone before after old f t
      → IsDone before after new f t
  pub done : (f : ℕ) (t : Tree) → IsWithin f t first tree → IsDone before after new f t
  pub low : (p : ℕ) (x : List ℕ) → size (forest_of rule n) ≤ p → value_after new p x ≡ value_after old p x
  pub value : digest ≡ after first tree
  pub pending : ArePending rule n boundary before after end rest

-- a node of the forest of n leaves, told by the location of its first leaf, its position and its height
pub record IsPlace (rule : Rule) (n first p h : ℕ) : Type 0 where
  pub tree : Tree
  pub stands : IsNodeAt first tree (forest_of rule n)
  pub at : p ≡ position tree
  pub high : h ≡ height tree

-- the first replacement is at an index before `end`
abbrev pub IsDue : ℕ → List Replacement → Type 0
IsDue end [] = ⊥
IsDue end (one ∷ more) = one.0 < end

-- the replacements at one leaf are taken up to these, and the last of them has this digest
pub record AreTakenTo (first boundary : ℕ) (us rest : List Replacement) (digest : List ℕ) : Type 0 where
  pub value : (x : List ℕ) → value_after us first x ≡ value_after rest first digest
  pub order : AreFrom first rest
  pub bound : AreFrom boundary rest
  pub same : (k : ℕ) (x : List ℕ) → suc first ≤ k → value_after us k x ≡ value_after rest k x

-- the replacements at one leaf are taken, and these stay
pub record AreTaken (first boundary : ℕ) (us rest : List Replacement) (digest : List ℕ) : Type 0 where
  pub value : (x : List ℕ) → value_after us first x ≡ digest
  pub order : AreFrom (suc first) rest
  pub bound : AreFrom boundary rest
  pub same : (k : ℕ) (x : List ℕ) → suc first ≤ k → value_after us k x ≡ value_after rest k x

-- leaves that keep their digests: so does the tree over them
pub unchanged : (rule : Rule) (node : NodeHash) (n boundary : ℕ) (known : ℕ → Option (List ℕ)) (before after : Digests)
    → IsSetting rule node n boundary known before after
    → (start : ℕ) (t : Tree) → IsNodeAt start t (forest_of rule n)
    → ((k p : ℕ) → start ≤ k → k < start + leaf_count t → IsNodeAt k (leaf p) (forest_of rule n)
    → before k (leaf p) ≡ after k (leaf p))
    → before start t ≡ after start t
unchanged rule node n boundary known before after it start (leaf p) stands each =
    each start p (omega arith) (omega arith) stands
unchanged rule node n boundary known before after it start (branch p l r) stands each =
    it.same start p l r stands
    (unchanged rule node n boundary known before after it start l (node-left start p l r (forest_of rule n) stands)
    (λ k q from lt here. each k q from (omega (arith, lt)) here))
    (unchanged rule node n boundary known before after it (start + leaf_count l) r
    (node-right start p l r (forest_of rule n) stands)
    (λ k q from lt here. each k q (omega (arith, from)) (omega (arith, lt)) here))

-- what stands within a node is a node
pub within-node : (f start : ℕ) (t tree : Tree) (peaks : List Tree) → IsWithin f t start tree
    → IsNodeAt start tree peaks
    → IsNodeAt f t peaks
within-node f start t (leaf p) peaks within stands =
    subst (λ s. IsNodeAt s t peaks) (sym within.0) (subst (λ u. IsNodeAt start u peaks) (sym within.1) stands)
within-node f start t (branch p l r) peaks (inl within) stands =
    subst (λ s. IsNodeAt s t peaks) (sym within.0) (subst (λ u. IsNodeAt start u peaks) (sym within.1) stands)
within-node f start t (branch p l r) peaks (inr (inl within)) stands =
    within-node f start t l peaks within (node-left start p l r peaks stands)
within-node f start t (branch p l r) peaks (inr (inr within)) stands =
    within-node f (start + leaf_count l) t r peaks within (node-right start p l r peaks stands)

done_same : (before after : Digests) (changed : List Replacement) (f : ℕ) (t : Tree)
    → before f t ≡ after f t
    → ((x : List ℕ) → value_after changed (position t) x ≡ x)
    ⊎ ((x : List ℕ) → value_after changed (position t) x ≡ after f t)
    → IsDone before after changed f t
done_same before after changed f t same (inl untouched) = untouched (before f t) ∙ same
done_same before after changed f t same (inr right) = right (before f t)

-- a tree that no replacement changes
pub untouched-rebuilt : (rule : Rule) (node : NodeHash) (n boundary : ℕ) (known : ℕ → Option (List ℕ))
    (before after : Digests) → IsSetting rule node n boundary known before after
    → (first : ℕ) (tree : Tree) (changed us : List Replacement) (digest : List ℕ)
    → IsNodeAt first tree (forest_of rule n) → ArePending rule n boundary before after first us
    → AreFrom (first + leaf_count tree) us → known (position tree) ≡ Some digest → IsRight rule n after changed
    → IsRebuilt rule n boundary before after first tree changed changed digest (first + leaf_count tree) us
untouched-rebuilt rule node n boundary known before after it first tree changed us digest stands pending from is right =
    let leaf_same : (k p : ℕ) → first ≤ k → k < first + leaf_count tree → IsNodeAt k (leaf p) (forest_of rule n)
    → before k (leaf p) ≡ after k (leaf p) =
    λ k p le lt here. sym (pending.each k p le here
    ∙ after-before (first + leaf_count tree) us k (before k (leaf p)) from lt) in
    let whole : before first tree ≡ after first tree =
    unchanged rule node n boundary known before after it first tree stands leaf_same in
    let there : IfSome (Some digest) (λ d. d ≡ before first tree) =
    subst (λ o. IfSome o (λ d. d ≡ before first tree)) is (it.known_is first tree stands) in
    record {
      right = right;
      keeps = λ f t here done. done;
      done = λ f t within. done_same before after changed f t
          (unchanged rule node n boundary known before after it f t
          (within-node f first t tree (forest_of rule n) within stands)
          (λ k p le lt here. leaf_same k p (omega (arith, le, (within-fits f first t tree within).0))
          (omega (arith, lt, (within-fits f first t tree within).1)) here))
          (right f t (within-node f first t tree (forest_of rule n) within stands));
      low = λ p x le. refl;
      value = there ∙ whole;
      pending = record {
        order = from;
        bound = pending.bound;
        each = λ k p le here. pending.each k p (omega (arith, le)) here;
      };
    }

-- one more changed node
changed_at : (rule : Rule) → IsPairing rule
    → (n : ℕ) (after : Digests) (changed : List Replacement) (g f : ℕ) (u t : Tree)
    → IsNodeAt g u (forest_of rule n) → IsNodeAt f t (forest_of rule n) → (x : List ℕ)
    → (position u ≡ position t) ⊎ (position u ≡ position t → ⊥)
    → (value_after (changed ++ (position u, after g u) ∷ []) (position t) x ≡ after f t)
    ⊎ (value_after (changed ++ (position u, after g u) ∷ []) (position t) x ≡ value_after changed (position t) x)
changed_at rule pairs n after changed g f u t one other x (inl same) =
    let it = one-node rule pairs n n g f u t one other same in
    inl (after-more changed (position u, after g u) (position t) x
    ∙ cond-true (eqb (position u) (position t)) (after g u) (value_after changed (position t) x)
    (eq-eqb (position u) (position t) same)
    ∙ ap₂ after it.0 it.1)
changed_at rule pairs n after changed g f u t one other x (inr apart) =
    inr (after-more changed (position u, after g u) (position t) x
    ∙ cond-false (eqb (position u) (position t)) (after g u) (value_after changed (position t) x)
    (ne_eqb (position u) (position t) apart))

right_more : (rule : Rule) → IsPairing rule
    → (n : ℕ) (after : Digests) (changed : List Replacement) (g f : ℕ) (u t : Tree)
    → IsNodeAt g u (forest_of rule n) → IsNodeAt f t (forest_of rule n)
    → (position u ≡ position t) ⊎ (position u ≡ position t → ⊥)
    → ((x : List ℕ) → value_after changed (position t) x ≡ x)
    ⊎ ((x : List ℕ) → value_after changed (position t) x ≡ after f t)
    → ((x : List ℕ) → value_after (changed ++ (position u, after g u) ∷ []) (position t) x ≡ x)
    ⊎ ((x : List ℕ) → value_after (changed ++ (position u, after g u) ∷ []) (position t) x ≡ after f t)
right_more rule pairs n after changed g f u t one other (inl same) before =
    let it = one-node rule pairs n n g f u t one other same in
    inr (λ x. after-more changed (position u, after g u) (position t) x
    ∙ cond-true (eqb (position u) (position t)) (after g u) (value_after changed (position t) x)
    (eq-eqb (position u) (position t) same)
    ∙ ap₂ after it.0 it.1)
right_more rule pairs n after changed g f u t one other (inr apart) before =
    let same : (x : List ℕ) → value_after (changed ++ (position u, after g u) ∷ []) (position t) x
    ≡ value_after changed (position t) x =
    λ x. after-more changed (position u, after g u) (position t) x
    ∙ cond-false (eqb (position u) (position t)) (after g u) (value_after changed (position t) x)
    (ne_eqb (position u) (position t) apart) in
    elim before [ inl untouched ↦ inl (λ x. same x ∙ untouched x) | inr right ↦ inr (λ x. same x ∙ right x) ]

done_more : (rule : Rule) → IsPairing rule → (n : ℕ) (before after : Digests) (changed : List Replacement) (g f : ℕ)
    (u t : Tree) → IsNodeAt g u (forest_of rule n) → IsNodeAt f t (forest_of rule n) → IsDone before after changed f t
    → IsDone before after (changed ++ (position u, after g u) ∷ []) f t
done_more rule pairs n before after changed g f u t one other done =
    elim (changed_at rule pairs n after changed g f u t one other (before f t) (cases_eq (position u) (position t))) [
      | inl now ↦ now
      | inr same ↦ same ∙ done
    ]

-- the location after a node's last leaf bounds its position
pub after-leaf : (rule : Rule) → IsPairing rule → (n f k : ℕ) (t : Tree) → IsNodeAt f t (forest_of rule n) → k ≤ n
    → k < f + leaf_count t → node_count rule k ≤ position t
after-leaf rule pairs n f k t stands le lt =
    let same : k + (n - k) ≡ n = omega (arith, le) in
    elim (later rule pairs k (n - k) f t (subst (λ m. IsNodeAt f t (forest_of rule m)) (sym same) stands)) [
      | inl old ↦ absurd (omega (arith, lt, node-fits f t (forest_of rule k) old, leaves-forest_of rule pairs k))
      | inr new ↦ new
    ]

done_self : (rule : Rule) → IsPairing rule
    → (n : ℕ) (before after : Digests) (changed : List Replacement) (f : ℕ) (t : Tree)
    → IsDone before after (changed ++ (position t, after f t) ∷ []) f t
done_self rule pairs n before after changed f t =
    after-more changed (position t, after f t) (position t) (before f t)
    ∙ cond-true (eqb (position t) (position t)) (after f t) (value_after changed (position t) (before f t))
    (eq-eqb (position t) (position t) refl)

low_more : (rule : Rule) → IsPairing rule → (n : ℕ) (changed : List Replacement) (f : ℕ) (t : Tree) (d : List ℕ)
    → IsNodeAt f t (forest_of rule n) → (p : ℕ) (x : List ℕ) → size (forest_of rule n) ≤ p
    → value_after (changed ++ (position t, d) ∷ []) p x ≡ value_after changed p x
low_more rule pairs n changed f t d stands p x le =
    let apart : position t ≡ p
    → ⊥ = λ same. absurd (omega (arith, same, le, (numbered rule pairs n).below f t stands)) in
    after-more changed (position t, d) p x
    ∙ cond-false (eqb (position t) p) d (value_after changed p x) (ne_eqb (position t) p apart)

-- a leaf with its new digest
pub leaf-rebuilt : (rule : Rule) → IsPairing rule → (n boundary : ℕ) (before after : Digests)
    → (first p : ℕ) (changed us rest : List Replacement) (digest : List ℕ)
    → IsNodeAt first (leaf p) (forest_of rule n) → ArePending rule n boundary before after first us
    → digest ≡ value_after us first (before first (leaf p))
    → AreFrom (suc first) rest → AreFrom boundary rest
    → ((k : ℕ) (x : List ℕ) → suc first ≤ k → value_after us k x ≡ value_after rest k x)
    → IsRight rule n after changed
    → IsRebuilt rule n boundary before after first (leaf p) changed (changed ++ (p, digest)
    ∷ []) digest (suc first) rest
leaf-rebuilt rule pairs n boundary before after first p changed us rest digest stands pending is
    order bound same right =
    let value : digest ≡ after first (leaf p) = is ∙ sym (pending.each first p (omega arith) stands) in
    subst (λ d. IsRebuilt rule n boundary before after first (leaf p) changed (changed ++ (p, d)
    ∷ []) d (suc first) rest)
    (sym value)
    (record {
      right = λ f t here. right_more rule pairs n after changed first f (leaf p) t stands here (cases_eq p (position t))
          (right f t here);
      keeps = λ f t here done. done_more rule pairs n before after changed first f (leaf p) t stands here done;
      done = λ f t within.
          (let At : ℕ → Type 0 = λ g. IsDone before after (changed ++ (p, after first (leaf p)) ∷ []) g t in
          let Of : Tree → Type 0 = λ u. IsDone before after (changed ++ (p, after first (leaf p)) ∷ []) first u in
          subst At (sym within.0) (subst Of (sym within.1)
          (done_self rule pairs n before after changed first (leaf p))));
      low = low_more rule pairs n changed first (leaf p) (after first (leaf p)) stands;
      value = refl;
      pending = record {
        order = order;
        bound = bound;
        each = λ k q le here. pending.each k q (omega (arith, le)) here ∙ same k (before k (leaf q)) le;
      };
    })

branch_done : (rule : Rule) → IsPairing rule → (n boundary : ℕ) (before after : Digests) (first p end : ℕ) (l r : Tree)
    (old mid new us rest : List Replacement) (dl dr : List ℕ) → IsNodeAt first (branch p l r) (forest_of rule n)
    → IsRebuilt rule n boundary before after first l old mid dl (first + leaf_count l) us
    → IsRebuilt rule n boundary before after (first + leaf_count l) r mid new dr end rest
    → (f : ℕ) (t : Tree) → IsWithin f t first (branch p l r)
    → IsDone before after (new ++ (p, after first (branch p l r)) ∷ []) f t
branch_done rule pairs n boundary before after first p end l r old mid new us rest dl dr stands
    one other f t (inl self) =
    let At : ℕ → Type 0 = λ g. IsDone before after (new ++ (p, after first (branch p l r)) ∷ []) g t in
    let Of : Tree → Type 0 = λ u. IsDone before after (new ++ (p, after first (branch p l r)) ∷ []) first u in
    subst At (sym self.0) (subst Of (sym self.1) (done_self rule pairs n before after new first (branch p l r)))
branch_done rule pairs n boundary before after first p end l r old mid new us rest dl dr stands one other f t
    (inr (inl within)) =
    let here = within-node f first t (branch p l r) (forest_of rule n) (inr (inl within)) stands in
    done_more rule pairs n before after new first f (branch p l r) t stands here
    (other.keeps f t here (one.done f t within))
branch_done rule pairs n boundary before after first p end l r old mid new us rest dl dr stands one other f t
    (inr (inr within)) =
    let here = within-node f first t (branch p l r) (forest_of rule n) (inr (inr within)) stands in
    done_more rule pairs n before after new first f (branch p l r) t stands here (other.done f t within)

-- a branch made from its children
pub branch-rebuilt : (rule : Rule) → IsPairing rule → (node : NodeHash) (n boundary : ℕ) (known : ℕ → Option (List ℕ))
    (before after : Digests) → IsSetting rule node n boundary known before after
    → (first p end : ℕ) (l r : Tree) (old mid new us rest : List Replacement) (dl dr digest : List ℕ)
    → IsNodeAt first (branch p l r) (forest_of rule n) → node_count rule boundary ≤ p
    → IsRebuilt rule n boundary before after first l old mid dl (first + leaf_count l) us
    → IsRebuilt rule n boundary before after (first + leaf_count l) r mid new dr end rest → digest ≡ node p dl dr
    → IsRebuilt rule n boundary before after first (branch p l r) old (new ++ (p, digest) ∷ []) digest end rest
branch-rebuilt rule pairs node n boundary known before after it first p end l r old mid new us rest dl dr digest stands
    past one other is =
    let value : digest ≡ after first (branch p l r) =
    is ∙ ap₂ (node p) one.value other.value ∙ sym (it.hashed first p l r stands past) in
    subst (λ d. IsRebuilt rule n boundary before after first (branch p l r) old (new ++ (p, d) ∷ []) d end rest)
    (sym value)
    (record {
      right = λ f t here. right_more rule pairs n after new first f (branch p l r) t stands here
          (cases_eq p (position t)) (other.right f t here);
      keeps = λ f t here done. done_more rule pairs n before after new first f (branch p l r) t stands here
          (other.keeps f t here (one.keeps f t here done));
      done = branch_done rule pairs n boundary before after first p end l r old mid new us rest dl dr stands one other;
      low = λ q x le. low_more rule pairs n new first (branch p l r) (after first (branch p l r)) stands q x le
          ∙ other.low q x le ∙ one.low q x le;
      value = refl;
      pending = other.pending;
    })
