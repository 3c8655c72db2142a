-- A batch's nodes over the tree of a list are those of the list that the batch makes of it.
use Rattle.std.proofs.Common.{◌≡◌, ℕ, zero, suc, ◌+◌, ◌-◌, ◌<◌, ◌≤◌, inl, inr, ltb, List, [], ◌∷◌, ◌++◌, length}
use Rattle.std.proofs.Common.{Option, Some, None, refl, sym, ◌∙◌, ap, ap₂, subst, arith, length-append}
use Rattle.std.proofs.lemmas.Bool.{cond-true, cond-false, lt-ltb, le-ltb}
use Rattle.std.specs.Prelude.{map, slice_get, slice_index_or, IfSome, IsSome, unwrap_or}
use Rattle.std.specs.Option.{option_map}
use Rattle.merkle_forest.specs.Forest.{Tree, leaf, position, Rule, forest_of}
use Rattle.merkle_forest.specs.Nodes.{IsNodeAt}
use Rattle.merkle_forest.specs.Peaks.{position_and_height}
use Rattle.merkle_forest.specs.Perfect.{IsPairing}
use Rattle.merkle_forest.specs.Trees.{peak_digests as forest_digests}
use Rattle.merkle_forest.specs.Laws.ForestGrowth.{leaves-forest_of}
use Rattle.merkle_forest.specs.Laws.Nodes.{node-fits, peak-node}
use Rattle.merkle_forest.specs.Laws.Peaks.{located_from-zero}
use Rattle.merkle_forest.specs.Laws.NodeGrowth.{numbered}
use Rattle.merkle_core_parts.specs.Layers.{IsLed}
use Rattle.merkle_core_parts.specs.Mem.{Additions, Layer, Replacement, NodeHash, node_count}
use Rattle.merkle_core_parts.specs.Mem.{tree_digest, replaced_from, with_leaves, digests_from}
use Rattle.merkle_core_parts.specs.Mem.{known_over, digest_at, value_after}
use Rattle.merkle_core_parts.specs.Laws.Batches.{get-back}
use Rattle.merkle_core_parts.specs.Laws.Kept.{kept}
use Rattle.merkle_core_parts.specs.Laws.Made.{AreMade, HavePeaks, known-some, get-front}
use Rattle.merkle_core_parts.specs.Laws.Mem.{get_some, at-peaks}
use Rattle.merkle_core_parts.specs.Laws.Rebuilt.{Digests, IsSetting, ArePending, IsRight}
use Rattle.merkle_core_parts.specs.Laws.Replaced.{get-replaced, length-replaced, AreFrom, get-replaced_from}
use Rattle.merkle_core_parts.specs.Laws.Updated.{AreRebuilt}

pub setting-of : (rule : Rule) (node : NodeHash) (list after : List (List ℕ)) (known : ℕ → Option (List ℕ)) (n : ℕ)
    → n ≡ length list
    → ((f : ℕ) (t : Tree) → IsNodeAt f t (forest_of rule (length list))
    → IfSome (known (position t)) (λ d. d ≡ tree_digest node list f t))
    → IsSetting rule node n 0 known (tree_digest node list) (tree_digest node after)
setting-of rule node list after known n is right = record {
  known_is = λ f t stands. right f t (subst (λ k. IsNodeAt f t (forest_of rule k)) is stands);
  same = λ f p l r stands left right. ap₂ (node p) left right;
  hashed = λ f p l r stands past. refl;
}

some_at : (xs : List (List ℕ)) (i : ℕ) → i < length xs → slice_get xs i ≡ Some (slice_index_or xs i [])
some_at [] i lt = absurd (omega arith)
some_at (x ∷ xs) zero lt = refl
some_at (x ∷ xs) (suc i) lt = some_at xs i (omega arith)

back_at : (xs ys : List (List ℕ)) (i : ℕ) → slice_get (xs ++ ys) (length xs + i) ≡ slice_get ys i
back_at xs ys i =
    let there : length xs + i - length xs ≡ i = omega arith in
    get-back xs ys (length xs + i) (omega arith) ∙ ap (slice_get ys) there

pub pending-of : (rule : Rule) → IsPairing rule → (node : NodeHash) (list : List (List ℕ)) (batch : Additions)
    (sorted : List Replacement) (n : ℕ) → n ≡ length list → AreFrom 0 sorted
    → ((k : ℕ) (old : List ℕ) → value_after batch.updates k old ≡ value_after sorted k old)
    → ArePending rule n 0 (tree_digest node list) (tree_digest node (with_leaves list batch)) 0 sorted
pending-of rule pairs node list batch sorted n is order same = record {
  order = order;
  bound = order;
  each = λ k p le stands.
      (let lt : k < length list =
      omega (arith, is, node-fits k (leaf p) (forest_of rule n) stands, leaves-forest_of rule pairs n) in
      get_some (with_leaves list batch) k (value_after sorted k (slice_index_or list k []))
      (get-replaced (list ++ batch.added) batch.updates k
      ∙ ap (option_map (value_after batch.updates k))
      (get-front list batch.added k (slice_index_or list k []) (some_at list k lt))
      ∙ ap (λ d. Some d) (same k (slice_index_or list k []))));
}

pub right-none : (rule : Rule) (node : NodeHash) (list : List (List ℕ)) (n : ℕ)
    → IsRight rule n (tree_digest node list) []
right-none rule node list n f t stands = inl (λ x. refl)

pub new-leaf : (node : NodeHash) (list : List (List ℕ)) (batch : Additions) (added : List (List ℕ)) (n : ℕ)
    → n ≡ length list
    → ((k : ℕ) → slice_get added k ≡ option_map (value_after batch.updates (n + k)) (slice_get batch.added k))
    → (k : ℕ) (d : List ℕ) (q : ℕ) → slice_get added k ≡ Some d
    → tree_digest node (with_leaves list batch) (n + k) (leaf q) ≡ d
new-leaf node list batch added n is each k d q there =
    get_some (with_leaves list batch) (n + k) d
    (get-replaced (list ++ batch.added) batch.updates (n + k)
    ∙ ap (option_map (value_after batch.updates (n + k)))
    (ap (λ m. slice_get (list ++ batch.added) (m + k)) is ∙ back_at list batch.added k)
    ∙ sym (each k) ∙ there)

none_more : (o : Option (List ℕ)) (x : List ℕ) → IsSome o → IfSome o (λ d. d ≡ x) → o ≡ Some x
none_more None x some sound = absurd cc
none_more (Some y) x some sound = ap (λ z. Some z) sound

-- the peaks of the base are made
pub base-made : (rule : Rule) → IsPairing rule → (node : NodeHash) (before after : ℕ → Tree → List ℕ) (n base_size : ℕ)
    (old changed peaks : List Replacement) → base_size ≡ node_count rule n → HavePeaks rule n peaks
    → AreRebuilt rule n before after old changed peaks
    → AreMade rule after n n (node_count rule n) (known_over base_size peaks [])
base-made rule pairs node before after n base_size old changed peaks sized have rebuilt = record {
  each = λ f t stands keeps lt.
      (let known : known_over base_size peaks [] (position t) ≡ digest_at peaks (position t) =
      cond-true (ltb (position t) base_size) (digest_at peaks (position t)) (slice_get [] (position t - base_size))
      (lt-ltb (position t) base_size (omega (arith, lt, sized))) in
      none_more (known_over base_size peaks [] (position t)) (after f t)
      (known-some rule n base_size peaks [] (position t) sized have keeps (omega (arith, lt, sized)))
      (subst (λ o. IfSome o (λ d. d ≡ after f t)) (sym known) (rebuilt.sound f t stands)));
}

-- changes may be told in another order that leaves the same
pub rebuilt-same : (rule : Rule) (n : ℕ) (before after : Digests) (old one other found : List Replacement)
    → ((k : ℕ) (x : List ℕ) → value_after one k x ≡ value_after other k x)
    → AreRebuilt rule n before after old one found → AreRebuilt rule n before after old other found
rebuilt-same rule n before after old one other found same it = record {
  right = λ f t stands. elim (it.right f t stands) [
    | inl untouched ↦ inl (λ x. sym (same (position t) x) ∙ untouched x)
    | inr right ↦ inr (λ x. sym (same (position t) x) ∙ right x)
  ];
  done = λ f t stands. sym (same (position t) (before f t)) ∙ it.done f t stands;
  low = λ p x past. sym (same p x) ∙ it.low p x past;
  sound = it.sound;
}

-- so the batch's nodes lead from the list to that which the batch makes of it
pub led-of : (rule : Rule) → IsPairing rule
    → (node : NodeHash) (list : List (List ℕ)) (batch : Additions) (layer : Layer)
    (n base_size : ℕ) (peaks : List Replacement) → n ≡ length list → base_size ≡ node_count rule n
    → AreRebuilt rule n (tree_digest node list) (tree_digest node (with_leaves list batch)) [] layer.changed peaks
    → AreMade rule (tree_digest node (with_leaves list batch)) n (n + length batch.added)
    (node_count rule (n + length batch.added)) (known_over base_size peaks layer.digests)
    → base_size + length layer.digests ≡ node_count rule (n + length batch.added)
    → layer.base.leaves ≡ n → layer.leaves ≡ n + length batch.added
    → IsLed node rule layer list (with_leaves list batch)
led-of rule pairs node list batch layer n base_size peaks is sized rebuilt made counted from leaves =
    let m = n + length batch.added in
    let long : length (with_leaves list batch) ≡ m =
    length-replaced (list ++ batch.added) batch.updates ∙ length-append list batch.added
    ∙ ap (λ k. k + length batch.added) (sym is) in
    let start : base_size ≡ node_count rule (length list) = sized ∙ ap (node_count rule) is in
    record {
      from = from ∙ is;
      to = leaves ∙ sym long;
      longer = omega (arith, is, long);
      counted = ap (λ k. k + length layer.digests) (sym start) ∙ counted ∙ ap (node_count rule) (sym long);
      old = λ f t stands. rebuilt.done f t (subst (λ k. IsNodeAt f t (forest_of rule k)) (sym is) stands);
      new = λ f t stands past.
          (let there : IsNodeAt f t (forest_of rule m) = subst (λ k. IsNodeAt f t (forest_of rule k)) long stands in
          let from_base : node_count rule n ≤ position t = omega (arith, past, ap (node_count rule) is) in
          ap (λ s. slice_get layer.digests (position t - s)) (sym start)
          ∙ sym (cond-false (ltb (position t) base_size) (digest_at peaks (position t))
          (slice_get layer.digests (position t - base_size))
          (le-ltb (position t) base_size (omega (arith, from_base, sized))))
          ∙ made.each f t there (inl from_base) ((numbered rule pairs m).below f t there));
      unchanged = λ p digest past. rebuilt.low p digest (omega (arith, past, ap (node_count rule) is));
    }

-- the digests at the peaks are those of the list's peaks
pub made-peaks : (rule : Rule) → IsPairing rule
    → (node : NodeHash) (list : List (List ℕ)) (n m : ℕ) (known : ℕ → Option (List ℕ))
    → n ≤ m → m ≡ length list → AreMade rule (tree_digest node list) n m (node_count rule m) known
    → digests_from rule m known 0 ≡ forest_digests (tree_digest node list) (forest_of rule (length list))
made-peaks rule pairs node list n m known le is made =
    ap (λ peaks. map (λ peak. unwrap_or (known peak.0) []) (map position_and_height peaks))
    (located_from-zero (forest_of rule m))
    ∙ at-peaks known (tree_digest node list) (forest_of rule m)
    (λ first tree stands.
    (let node_there = peak-node first tree (forest_of rule m) stands in
    made.each first tree node_there ((kept rule pairs n m le).peak tree (first, stands))
    ((numbered rule pairs m).below first tree node_there)))
    ∙ ap (λ k. forest_digests (tree_digest node list) (forest_of rule k)) is

-- lists that have the same at each index
pub list-same : (xs ys : List (List ℕ)) → ((k : ℕ) → slice_get xs k ≡ slice_get ys k) → xs ≡ ys
list-same [] [] each = refl
list-same [] (y ∷ ys) each = absurd (let bad : slice_get [] 0 ≡ slice_get (y ∷ ys) 0 = each 0 in cc bad)
list-same (x ∷ xs) [] each = absurd (let bad : slice_get (x ∷ xs) 0 ≡ slice_get [] 0 = each 0 in cc bad)
list-same (x ∷ xs) (y ∷ ys) each =
    let head : ◌≡◌ {A = Option (List ℕ)} (Some x) (Some y) = each 0 in
    let same : x ≡ y = cc in
    ap₂ (λ z zs. z ∷ zs) same (list-same xs ys (λ k. each (suc k)))

-- digests that were put in their places
pub put-all : (first : ℕ) (old new : List (List ℕ)) (us : List Replacement)
    → ((k : ℕ) → slice_get new k ≡ option_map (value_after us (first + k)) (slice_get old k))
    → new ≡ replaced_from first old us
put-all first old new us each =
    list-same new (replaced_from first old us) (λ k. each k ∙ sym (get-replaced_from first old us k))
