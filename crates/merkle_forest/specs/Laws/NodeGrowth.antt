-- What a forest keeps of its nodes as it grows: each position is that of one node.
use Rattle.std.proofs.Common.{◌≡◌, ℕ, zero, suc, ◌+◌, ◌-◌, ◌<◌, ◌≤◌, ◌⊎◌, inl, inr, List, [], ◌∷◌, length, map, refl}
use Rattle.std.proofs.Common.{sym, ◌∙◌, ap, subst, arith, add-zero, add-suc}
use Rattle.std.proofs.lemmas.List.{length-map}
use Rattle.merkle_forest.specs.Forest.{Tree, leaf, branch, position, height, leaf_count, size, leaves, Rule, merged}
use Rattle.merkle_forest.specs.Forest.{forest_of, IsPairOfEquals}
use Rattle.merkle_forest.specs.Perfect.{IsPairing}
use Rattle.merkle_forest.specs.Laws.ForestGrowth.{leaves-merged, size-merged, pair_within, peaks_after_merges-keeps}
use Rattle.merkle_forest.specs.Laws.ForestGrowth.{peaks_after_merges-keeps_next, leaves-forest_of}
use Rattle.merkle_forest.specs.Nodes.{IsWithin, IsNodeAt, IsHeightAt, HasNodeAtPosition}

within : (peaks : List Tree) (index : ℕ) → IsPairOfEquals (map height peaks) index → suc index < length peaks
within peaks index pair = rw (← length-map peaks height) (pair_within (map height peaks) index pair)

-- a merge keeps the nodes
merged-keeps : (p index first : ℕ) (node : Tree) (peaks : List Tree) → suc index < length peaks
    → IsNodeAt first node peaks → IsNodeAt first node (merged p index peaks)
merged-keeps p zero first node [] lt stands = absurd stands
merged-keeps p zero first node (r ∷ []) lt stands = stands
merged-keeps p zero first node (r ∷ l ∷ ts) lt (inl stands) =
    let start : leaf_count l + leaves ts ≡ leaves ts + leaf_count l = omega arith in
    inl (inr (inr (subst (λ s. IsWithin first node s r) start stands)))
merged-keeps p zero first node (r ∷ l ∷ ts) lt (inr (inl stands)) = inl (inr (inl stands))
merged-keeps p zero first node (r ∷ l ∷ ts) lt (inr (inr stands)) = inr stands
merged-keeps p (suc index) first node [] lt stands = absurd stands
merged-keeps p (suc index) first node (t ∷ ts) lt (inl stands) =
    inl (subst (λ s. IsWithin first node s t) (sym (leaves-merged p index ts (omega arith))) stands)
merged-keeps p (suc index) first node (t ∷ ts) lt (inr stands) =
    inr (merged-keeps p index first node ts (omega arith) stands)

-- and makes one
record IsMerge (p : ℕ) (peaks after : List Tree) : Type 0 where
  first : ℕ
  node : Tree
  at : position node ≡ p
  from : (f : ℕ) (n : Tree) → IsNodeAt f n after → ((f ≡ first) × (n ≡ node)) ⊎ IsNodeAt f n peaks

past_newest : (first : ℕ) (node t : Tree) (ts after peaks : List Tree) → leaves after ≡ leaves ts
    → ((f : ℕ) (n : Tree) → IsNodeAt f n after → ((f ≡ first) × (n ≡ node)) ⊎ IsNodeAt f n ts)
    → (f : ℕ) (n : Tree) → IsNodeAt f n (t ∷ after) → ((f ≡ first) × (n ≡ node)) ⊎ IsNodeAt f n (t ∷ ts)
past_newest first node t ts after peaks same from f n (inl stands) =
    inr (inl (subst (λ s. IsWithin f n s t) same stands))
past_newest first node t ts after peaks same from f n (inr stands) =
    elim (from f n stands) [ inl new ↦ inl new | inr old ↦ inr (inr old) ]

two : (p : ℕ) (r l : Tree) (ts : List Tree) (f : ℕ) (n : Tree) → IsNodeAt f n (branch p l r ∷ ts)
    → ((f ≡ leaves ts) × (n ≡ branch p l r)) ⊎ IsNodeAt f n (r ∷ l ∷ ts)
two p r l ts f n (inl (inl new)) = inl new
two p r l ts f n (inl (inr (inl stands))) = inr (inr (inl stands))
two p r l ts f n (inl (inr (inr stands))) =
    let start : leaves ts + leaf_count l ≡ leaf_count l + leaves ts = omega arith in
    inr (inl (subst (λ s. IsWithin f n s r) start stands))
two p r l ts f n (inr stands) = inr (inr (inr stands))

merged-makes : (p index : ℕ) (peaks : List Tree) → suc index < length peaks → IsMerge p peaks (merged p index peaks)
merged-makes p zero [] lt = absurd (omega arith)
merged-makes p zero (r ∷ []) lt = absurd (omega arith)
merged-makes p zero (r ∷ l ∷ ts) lt = record { first = leaves ts; node = branch p l r; at = refl; from = two p r l ts }
merged-makes p (suc index) [] lt = absurd (omega arith)
merged-makes p (suc index) (t ∷ ts) lt =
    let it = merged-makes p index ts (omega arith) in
    record {
      first = it.first;
      node = it.node;
      at = it.at;
      from = past_newest it.first it.node t ts (merged p index ts) ts (leaves-merged p index ts (omega arith)) it.from;
    }

-- the nodes stand at positions below the node count, no two of them at one
pub record IsNumbered (peaks : List Tree) : Type 0 where
  pub below : (f : ℕ) (n : Tree) → IsNodeAt f n peaks → position n < size peaks
  pub same : (f g : ℕ) (n m : Tree) → IsNodeAt f n peaks → IsNodeAt g m peaks → position n ≡ position m
      → (f ≡ g) × (n ≡ m)

-- of nodes that are the new one, at the next position, or old ones, no two stand at one
new_same : (peaks : List Tree) (first : ℕ) (node : Tree) → IsNumbered peaks → position node ≡ size peaks
    → (f g : ℕ) (n m : Tree) → ((f ≡ first) × (n ≡ node)) ⊎ IsNodeAt f n peaks
    → ((g ≡ first) × (m ≡ node)) ⊎ IsNodeAt g m peaks
    → position n ≡ position m → (f ≡ g) × (n ≡ m)
new_same peaks first node numbered at f g n m (inl new) (inl new') same = (new.0 ∙ sym new'.0, new.1 ∙ sym new'.1)
new_same peaks first node numbered at f g n m (inl new) (inr old) same =
    absurd (let here : position n ≡ position node = ap position new.1 in
    omega (arith, here, at, same, numbered.below g m old))
new_same peaks first node numbered at f g n m (inr old) (inl new) same =
    absurd (let here : position m ≡ position node = ap position new.1 in
    omega (arith, here, at, same, numbered.below f n old))
new_same peaks first node numbered at f g n m (inr old) (inr old') same = numbered.same f g n m old old' same

new_below : (peaks : List Tree) (first : ℕ) (node : Tree) → IsNumbered peaks → position node ≡ size peaks
    → (f : ℕ) (n : Tree) → ((f ≡ first) × (n ≡ node)) ⊎ IsNodeAt f n peaks → position n < size peaks + 1
new_below peaks first node numbered at f n (inl new) = let here : position n ≡ position node = ap position new.1 in
    omega (arith, here, at)
new_below peaks first node numbered at f n (inr old) = omega (arith, numbered.below f n old)

numbered-merged : (index : ℕ) (peaks : List Tree) → IsPairOfEquals (map height peaks) index → IsNumbered peaks
    → IsNumbered (merged (size peaks) index peaks)
numbered-merged index peaks pair numbered =
    let it = merged-makes (size peaks) index peaks (within peaks index pair) in
    let grown = size-merged (size peaks) index peaks (within peaks index pair) in
    record {
      below = λ f n stands.
          omega (arith, grown, new_below peaks it.first it.node numbered it.at f n (it.from f n stands));
      same = λ f g n m one other same. new_same peaks it.first it.node numbered it.at f g n m (it.from f n one)
          (it.from g m other) same;
    }

numbered-leaf : (peaks : List Tree) → IsNumbered peaks → IsNumbered (leaf (size peaks) ∷ peaks)
numbered-leaf peaks numbered = record {
  below = λ f n stands. omega (arith, new_below peaks (leaves peaks) (leaf (size peaks)) numbered refl f n stands);
  same = λ f g n m one other same. new_same peaks (leaves peaks)
      (leaf (size peaks)) numbered refl f g n m one other same;
}

pub numbered : (rule : Rule) → IsPairing rule → (n : ℕ) → IsNumbered (forest_of rule n)
unfolding forest_of
numbered rule pairs zero = record { below = λ f n stands. absurd stands; same = λ f g n m one other same. absurd one }
numbered rule pairs (suc n) =
    peaks_after_merges-keeps_next rule IsNumbered pairs numbered-merged (length (forest_of rule n)) 0
    (leaf (size (forest_of rule n)) ∷ forest_of rule n) (numbered-leaf (forest_of rule n) (numbered rule pairs n))

-- a leaf keeps the nodes
leaf-keeps : (rule : Rule) → IsPairing rule → (n first : ℕ) (node : Tree) → IsNodeAt first node (forest_of rule n)
    → IsNodeAt first node (forest_of rule (suc n))
unfolding forest_of
leaf-keeps rule pairs n first node stands =
    peaks_after_merges-keeps rule (IsNodeAt first node) pairs
    (λ p index peaks pair there. merged-keeps p index first node peaks (within peaks index pair) there)
    (length (forest_of rule n)) 0 (leaf (size (forest_of rule n)) ∷ forest_of rule n) (inr stands)

more-keep : (rule : Rule) → IsPairing rule → (more n first : ℕ) (node : Tree) → IsNodeAt first node (forest_of rule n)
    → IsNodeAt first node (forest_of rule (n + more))
more-keep rule pairs zero n first node stands = simp add-zero stands
more-keep rule pairs (suc more) n first node stands =
    simp add-suc (leaf-keeps rule pairs (n + more) first node (more-keep rule pairs more n first node stands))

-- so a node of a forest is one of every greater forest
pub node-stays : (rule : Rule) → IsPairing rule → (n m first : ℕ) (node : Tree) → n ≤ m
    → IsNodeAt first node (forest_of rule n) → IsNodeAt first node (forest_of rule m)
node-stays rule pairs n m first node le stands =
    let end : n + (m - n) ≡ m = omega (arith, le) in
    subst (λ k. IsNodeAt first node (forest_of rule k)) end (more-keep rule pairs (m - n) n first node stands)

-- and two nodes at one position are one
pub one-node : (rule : Rule) → IsPairing rule → (n m f g : ℕ) (a b : Tree) → IsNodeAt f a (forest_of rule n)
    → IsNodeAt g b (forest_of rule m) → position a ≡ position b → (f ≡ g) × (a ≡ b)
one-node rule pairs n m f g a b one other same =
    (numbered rule pairs (n + m)).same f g a b (node-stays rule pairs n (n + m) f a (omega arith) one)
    (node-stays rule pairs m (n + m) g b (omega arith) other) same

-- the leaf after n leaves
pub leaf-at : (rule : Rule) → IsPairing rule → (n : ℕ)
    → HasNodeAtPosition (forest_of rule (suc n)) (size (forest_of rule n)) 0
unfolding forest_of
leaf-at rule pairs n = (
  n,
  leaf (size (forest_of rule n)),
  peaks_after_merges-keeps rule (IsNodeAt n (leaf (size (forest_of rule n)))) pairs
      (λ p index peaks pair there. merged-keeps p index n (leaf (size (forest_of rule n))) peaks
      (within peaks index pair) there)
      (length (forest_of rule n)) 0 (leaf (size (forest_of rule n)) ∷ forest_of rule n)
      (inl (sym (leaves-forest_of rule pairs n), refl)),
  refl,
  refl,
)

-- the height of one node at a position is that of each
pub height-at : (rule : Rule) → IsPairing rule → (n p h : ℕ) → HasNodeAtPosition (forest_of rule n) p h
    → IsHeightAt rule p h
height-at rule pairs n p h it m first node few stands index = it.4
    ∙ ap height (one-node rule pairs n m it.0 first it.1 node it.2 stands (sym it.3 ∙ index)).1
