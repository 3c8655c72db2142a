-- A batch's nodes fit each tree of the list that they were made for.
use Rattle.std.proofs.Common.{◌≡◌, ℕ, zero, suc, ◌+◌, ◌-◌, ◌≤◌, ◌⊎◌, inl, inr, ltb, List, [], ◌∷◌, ◌++◌, length, Some}
use Rattle.std.proofs.Common.{sym, ◌∙◌, ap, subst, arith, length-append}
use Rattle.std.proofs.lemmas.Bool.{cases_lt, cond-true, cond-false, lt-ltb, le-ltb}
use Rattle.std.specs.Prelude.{slice_get}
use Rattle.std.specs.Option.{option_map}
use Rattle.merkle_forest.specs.Forest.{Tree, position, size, Rule, forest_of}
use Rattle.merkle_forest.specs.Nodes.{IsNodeAt}
use Rattle.merkle_forest.specs.Perfect.{IsPairing}
use Rattle.merkle_forest.specs.Laws.ForestGrowth.{size-mono}
use Rattle.merkle_core_parts.specs.Layers.{IsLed}
use Rattle.merkle_core_parts.specs.Mem.{Nodes, Layer, Growth, Replacement, NodeHash, tree_digest, AreNodesOf}
use Rattle.merkle_core_parts.specs.Mem.{AreKeptNodes, IsKept}
use Rattle.merkle_core_parts.specs.Mem.{node_count, own_layer, with_layer, with_batch, value_after, digest_at}
use Rattle.merkle_core_parts.specs.Mem.{known_over}
use Rattle.merkle_core_parts.specs.Laws.Kept.{kept, later}
use Rattle.merkle_core_parts.specs.Laws.Made.{get-front}
use Rattle.merkle_core_parts.specs.Laws.Replaced.{known-replaced, length-replaced_from, positions-replaced_at}

pub get-back : (xs ys : List (List ℕ)) (i : ℕ) → length xs ≤ i → slice_get (xs ++ ys) i ≡ slice_get ys (i - length xs)
get-back [] ys i le = let same : i ≡ i - 0 = omega arith in ap (slice_get ys) same
get-back (x ∷ xs) ys zero le = absurd (omega arith)
get-back (x ∷ xs) ys (suc i) le =
    let same : i - length xs ≡ suc i - suc (length xs) = omega arith in
    get-back xs ys i (omega arith) ∙ ap (slice_get ys) same

-- what stood there still stands with more nodes after it
pub known-old : (start : ℕ) (ps : List Replacement) (ds more : List (List ℕ)) (x : List ℕ) (p : ℕ)
    → known_over start ps ds p ≡ Some x → known_over start ps (ds ++ more) p ≡ Some x
known-old start ps ds more x p is =
    elim (cases_lt p start) [
      | inl before ↦
          cond-true (ltb p start) (digest_at ps p) (slice_get (ds ++ more) (p - start)) (lt-ltb p start before)
          ∙ sym (cond-true (ltb p start) (digest_at ps p) (slice_get ds (p - start)) (lt-ltb p start before)) ∙ is
      | inr after ↦
          cond-false (ltb p start) (digest_at ps p) (slice_get (ds ++ more) (p - start)) (le-ltb p start after)
          ∙ get-front ds more (p - start) x
          (sym (cond-false (ltb p start) (digest_at ps p) (slice_get ds (p - start)) (le-ltb p start after)) ∙ is)
    ]

pub known-new : (start : ℕ) (ps : List Replacement) (ds more : List (List ℕ)) (count p : ℕ) → start + length ds ≡ count
    → count ≤ p → known_over start ps (ds ++ more) p ≡ slice_get more (p - count)
known-new start ps ds more count p counted past =
    let same : p - start - length ds ≡ p - count = omega (arith, counted) in
    cond-false (ltb p start) (digest_at ps p) (slice_get (ds ++ more) (p - start))
    (le-ltb p start (omega (arith, past, counted)))
    ∙ get-back ds more (p - start) (omega (arith, past, counted)) ∙ ap (slice_get more) same

-- what a tree keeps that is pruned further, it kept before
pub kept-before : (rule : Rule) → IsPairing rule → (a b p : ℕ) → a ≤ b → IsKept rule b p → IsKept rule a p
kept-before rule pairs a b p le (inl after) = inl (omega (arith, after, size-mono rule pairs a b le))
kept-before rule pairs a b p le (inr (tree, peak, at)) =
    subst (IsKept rule a) at ((kept rule pairs a b le).peak tree peak)

-- two trees of one list have one digest at each node that both keep
alike : (node : NodeHash) (rule : Rule) (some : List (List ℕ)) (one other : Nodes) (more : List (List ℕ))
    (first : ℕ) (tree : Tree) → AreNodesOf node rule some one → AreNodesOf node rule some other
    → IsKept rule one.boundary (position tree) → IsKept rule other.boundary (position tree)
    → IsNodeAt first tree (forest_of rule (length some)) ⊎ (size (forest_of rule (length some)) ≤ position tree)
    → known_over (node_count rule other.boundary) other.pinned (other.digests ++ more) (position tree)
    ≡ known_over (node_count rule one.boundary) one.pinned (one.digests ++ more) (position tree)
alike node rule some one other more first tree ones others here there (inl old) =
    known-old (node_count rule other.boundary) other.pinned other.digests more (tree_digest node some first tree)
    (position tree) (others.digests first tree old there)
    ∙ sym (known-old (node_count rule one.boundary) one.pinned one.digests more (tree_digest node some first tree)
    (position tree) (ones.digests first tree old here))
alike node rule some one other more first tree ones others here there (inr after) =
    let count = node_count rule (length some) in
    known-new (node_count rule other.boundary) other.pinned other.digests more count (position tree)
    (others.shape.counted ∙ ap (node_count rule) others.counted) after
    ∙ sym (known-new (node_count rule one.boundary) one.pinned one.digests more count (position tree)
    (ones.shape.counted ∙ ap (node_count rule) ones.counted) after)

-- the shape of a tree with a layer's nodes
pub shape-with : (rule : Rule) (nodes : Nodes) (layer : Layer) → AreKeptNodes rule nodes → nodes.leaves ≤ layer.leaves
    → node_count rule nodes.leaves + length layer.digests ≡ node_count rule layer.leaves
    → AreKeptNodes rule (with_layer rule nodes layer)
shape-with rule nodes layer shape longer counted = record {
  within = omega (arith, shape.within, longer);
  pinned = positions-replaced_at nodes.pinned layer.changed ∙ shape.pinned;
  counted = omega (
    arith,
    length-replaced_from (node_count rule nodes.boundary) (nodes.digests ++ layer.digests) layer.changed,
    length-append nodes.digests layer.digests,
    shape.counted,
    counted,
  );
}

-- a layer that leads from one list to another makes of a tree of the one a tree of the other
pub led-nodes : (rule : Rule) → IsPairing rule
    → (node : NodeHash) (layer : Layer) (before after : List (List ℕ)) (nodes : Nodes)
    → IsLed node rule layer before after → AreNodesOf node rule before nodes
    → AreNodesOf node rule after (with_layer rule nodes layer)
led-nodes rule pairs node layer before after nodes led are =
    let start = node_count rule nodes.boundary in
    let counted : node_count rule nodes.leaves + length layer.digests ≡ node_count rule layer.leaves =
    ap (λ n. node_count rule n + length layer.digests) are.counted ∙ led.counted ∙ ap (node_count rule) (sym led.to) in
    let held : start + length nodes.digests ≡ node_count rule (length before) =
    are.shape.counted ∙ ap (node_count rule) are.counted in
    record {
      counted = led.to;
      shape = shape-with rule nodes layer are.shape (omega (arith, are.counted, led.longer, led.to)) counted;
      digests = λ first tree stands keeps.
          (let long : length before + (length after - length before) ≡ length after = omega (arith, led.longer) in
          let p = position tree in
          known-replaced start nodes.pinned (nodes.digests ++ layer.digests) layer.changed p
          ∙ elim (later rule pairs (length before) (length after - length before) first tree
          (subst (λ n. IsNodeAt first tree (forest_of rule n)) (sym long) stands)) [
            | inl there ↦
                ap (option_map (value_after layer.changed p))
                (known-old start nodes.pinned nodes.digests layer.digests (tree_digest node before first tree) p
                (are.digests first tree there keeps))
                ∙ ap (λ d. Some d) (led.old first tree there)
            | inr past ↦
                ap (option_map (value_after layer.changed p))
                (known-new start nodes.pinned nodes.digests layer.digests (node_count rule (length before)) p held past
                ∙ led.new first tree stands past)
                ∙ ap (λ d. Some d) (led.unchanged p (tree_digest node after first tree) past)
          ]);
    }

grows : (rule : Rule) (nodes : Nodes) (batch : Growth) → AreKeptNodes rule nodes
    → AreKeptNodes rule (with_batch rule nodes batch)
    → node_count rule nodes.leaves + length batch.digests ≡ node_count rule batch.leaves
grows rule nodes batch shape made =
    omega (
      arith,
      length-replaced_from (node_count rule nodes.boundary) (nodes.digests ++ batch.digests) batch.changed,
      length-append nodes.digests batch.digests,
      shape.counted,
      made.counted,
    )

pub fits-each : (rule : Rule) → IsPairing rule → (node : NodeHash) (some list : List (List ℕ)) (one other : Nodes)
    (batch : Growth) → length some ≤ length list → one.boundary ≤ other.boundary
    → AreNodesOf node rule some one → AreNodesOf node rule some other
    → AreNodesOf node rule list (with_batch rule one batch) → AreNodesOf node rule list (with_batch rule other batch)
fits-each rule pairs node some list one other batch longer less ones others made =
    let leaves : one.leaves ≡ other.leaves = ones.counted ∙ sym others.counted in
    let grown = grows rule one batch ones.shape made.shape in
    record {
      counted = made.counted;
      shape = shape-with rule other (own_layer batch) others.shape (omega (arith, others.counted, made.counted, longer))
          (subst (λ n. node_count rule n + length batch.digests ≡ node_count rule batch.leaves) leaves grown);
      digests = λ first tree stands keeps.
          (let long : length some + (length list - length some) ≡ length list = omega (arith, longer) in
          let kept_one = kept-before rule pairs one.boundary other.boundary (position tree) less keeps in
          known-replaced (node_count rule other.boundary) other.pinned (other.digests ++ batch.digests) batch.changed
          (position tree)
          ∙ ap (option_map (value_after batch.changed (position tree)))
          (alike node rule some one other batch.digests first tree ones others kept_one keeps
          (later rule pairs (length some) (length list - length some) first tree
          (subst (λ n. IsNodeAt first tree (forest_of rule n)) (sym long) stands)))
          ∙ sym (known-replaced (node_count rule one.boundary) one.pinned (one.digests ++ batch.digests) batch.changed
          (position tree))
          ∙ made.digests first tree stands kept_one);
    }
