-- What a tree is once a batch that waits for it is applied.
use Rattle.std.proofs.Common.{◌≡◌, ℕ, zero, suc, ◌+◌, ◌-◌, ◌<◌, ◌≤◌, inl, inr, ltb, cond, List, [], ◌∷◌, ◌++◌, length}
use Rattle.std.proofs.Common.{Option, Some, None, take, refl, sym, ◌∙◌, ap, ap₂, subst, arith}
use Rattle.std.proofs.lemmas.Bool.{cases_lt, cond-true, cond-false, lt-ltb, le-ltb}
use Rattle.std.specs.Prelude.{slice_get, unwrap_or}
use Rattle.std.specs.Option.{option_map, option_or}
use Rattle.merkle_forest.specs.Forest.{Rule}
use Rattle.merkle_forest.specs.Perfect.{IsPairing}
use Rattle.merkle_forest.specs.Laws.ForestGrowth.{size-mono}
use Rattle.merkle_core_parts.specs.Layers.{replacement_at, new_at, with_layers, waiting_for, IsWaiting, IsWhole}
use Rattle.merkle_core_parts.specs.Layers.{AreStacked, IsFirstAt, HasNone, bases}
use Rattle.merkle_core_parts.specs.Mem.{Base, Layer, Nodes, Growth, Replacement, AreKeptNodes, node_count, node_at}
use Rattle.merkle_core_parts.specs.Mem.{digest_at, known_over, own_layer, with_layer, value_after}
use Rattle.merkle_core_parts.specs.Laws.Batches.{known-new, shape-with}
use Rattle.merkle_core_parts.specs.Laws.Layers.{after-replacement, or_none, shape-layers, stacked-take, leaves-at}
use Rattle.merkle_core_parts.specs.Laws.Layers.{oldest-least, put-over}
use Rattle.merkle_core_parts.specs.Laws.Replaced.{known-replaced}

get_before : (xs ys : List (List ℕ)) (k : ℕ) → k < length xs → slice_get (xs ++ ys) k ≡ slice_get xs k
get_before [] ys k lt = absurd (omega arith)
get_before (x ∷ xs) ys zero lt = refl
get_before (x ∷ xs) ys (suc k) lt = get_before xs ys k (omega arith)

get_past : (xs : List (List ℕ)) (k : ℕ) → length xs ≤ k → slice_get xs k ≡ None
get_past [] k le = refl
get_past (x ∷ xs) zero le = absurd (omega arith)
get_past (x ∷ xs) (suc k) le = get_past xs k (omega arith)

-- with more nodes after it a tree has what it had, and where that is nothing, the new ones
known_more : (start : ℕ) (ps : List Replacement) (ds more : List (List ℕ)) (count p : ℕ) → start + length ds ≡ count
    → known_over start ps (ds ++ more) p
    ≡ option_or (known_over start ps ds p) (cond (ltb p count) None (slice_get more (p - count)))
known_more start ps ds more count p counted =
    let there = known_over start ps ds p in
    let new = slice_get more (p - count) in
    elim (cases_lt p count) [
      | inl low ↦
          (elim (cases_lt p start) [
            | inl before ↦
                cond-true (ltb p start) (digest_at ps p) (slice_get (ds ++ more) (p - start)) (lt-ltb p start before)
                ∙ sym (cond-true (ltb p start) (digest_at ps p) (slice_get ds (p - start)) (lt-ltb p start before))
            | inr after ↦
                cond-false (ltb p start) (digest_at ps p) (slice_get (ds ++ more) (p - start)) (le-ltb p start after)
                ∙ get_before ds more (p - start) (omega (arith, low, after, counted))
                ∙ sym (cond-false (ltb p start) (digest_at ps p) (slice_get ds (p - start)) (le-ltb p start after))
          ])
          ∙ sym (ap (option_or there) (cond-true (ltb p count) None new (lt-ltb p count low)) ∙ or_none there)
      | inr past ↦
          (let nothing : there ≡ None =
          cond-false (ltb p start) (digest_at ps p) (slice_get ds (p - start))
          (le-ltb p start (omega (arith, past, counted)))
          ∙ get_past ds (p - start) (omega (arith, past, counted)) in
          known-new start ps ds more count p counted past
          ∙ sym (ap (option_or there) (cond-false (ltb p count) None new (le-ltb p count past))
          ∙ ap (λ o. option_or o new) nothing))
    ]

-- so a tree with a layer has what the layer makes of what the tree has, or of what is new
pub node-with : (rule : Rule) (nodes : Nodes) (layer : Layer) (p : ℕ) → AreKeptNodes rule nodes
    → nodes.leaves ≡ layer.base.leaves → node_at rule (with_layer rule nodes layer) p
    ≡ option_map (value_after layer.changed p) (option_or (node_at rule nodes p) (new_at rule layer p))
node-with rule nodes layer p shape is =
    let start = node_count rule nodes.boundary in
    known-replaced start nodes.pinned (nodes.digests ++ layer.digests) layer.changed p
    ∙ ap (option_map (value_after layer.changed p))
    (known_more start nodes.pinned nodes.digests layer.digests (node_count rule layer.base.leaves) p
    (shape.counted ∙ ap (node_count rule) is))

-- what replacements make of a digest that is there
pub there-replaced : (us : List Replacement) (p : ℕ) (there new : Option (List ℕ)) (old digest : List ℕ)
    → option_or there new ≡ Some old → replacement_at us p ≡ Some digest
    → ◌≡◌ {A = Option (List ℕ)} (Some digest) (option_map (value_after us p) (option_or there new))
there-replaced us p there new old digest is at =
    sym (ap (option_map (value_after us p)) is
    ∙ ap (λ d. Some d) (after-replacement us p old ∙ ap (λ r. unwrap_or r old) at))

pub there-kept : (us : List Replacement) (p : ℕ) (there new : Option (List ℕ)) (old : List ℕ)
    → option_or there new ≡ Some old → replacement_at us p ≡ None
    → ◌≡◌ {A = Option (List ℕ)} (Some old) (option_map (value_after us p) (option_or there new))
there-kept us p there new old is at =
    sym (ap (option_map (value_after us p)) is
    ∙ ap (λ d. Some d) (after-replacement us p old ∙ ap (λ r. unwrap_or r old) at))

-- the shape of what will be
pub shape-after : (rule : Rule) (nodes : Nodes) (count : ℕ) (batch : Growth) → IsWaiting rule nodes count batch
    → AreKeptNodes rule (waiting_for rule nodes count batch).after
shape-after rule nodes count batch waits =
    let before = shape-layers rule nodes batch.base.leaves (take count batch.below) waits.shape waits.stacked
    waits.follows in
    shape-with rule (with_layers rule nodes (take count batch.below)) (own_layer batch) before.shape
    (omega (arith, before.leaves, waits.whole.grown))
    (ap (λ n. node_count rule n + length batch.digests) before.leaves ∙ waits.whole.counted)

-- the bases that a batch knows, wherever its layers are held
pub first-of : (tree : Base) (own : Layer) (below : List Layer) (batch : Growth) (count : ℕ) → own ≡ own_layer batch
    → below ≡ batch.below → IsFirstAt tree (bases own.base below) count
    → IsFirstAt tree (bases batch.base batch.below) count
first-of tree own below batch count is_own is_below at =
    subst (λ (ls : List Layer). IsFirstAt tree (bases batch.base ls) count) is_below
    (subst (λ (l : Layer). IsFirstAt tree (bases l.base below) count) is_own at)

pub none-of : (tree : Base) (own : Layer) (below : List Layer) (batch : Growth) → own ≡ own_layer batch
    → below ≡ batch.below → HasNone tree (bases own.base below) → HasNone tree (bases batch.base batch.below)
none-of tree own below batch is_own is_below none =
    subst (λ (ls : List Layer). HasNone tree (bases batch.base ls)) is_below
    (subst (λ (l : Layer). HasNone tree (bases l.base below)) is_own none)

-- a batch may wait for a tree that is one of its bases
pub waits-for : (rule : Rule) (nodes : Nodes) (count : ℕ) (batch : Growth) (tree : Base) → AreKeptNodes rule nodes
    → IsWhole rule (own_layer batch) → AreStacked rule batch.base.leaves batch.below → count ≤ length batch.below
    → IsFirstAt tree (bases batch.base batch.below) count → nodes.leaves ≡ tree.leaves
    → IsWaiting rule nodes count batch
waits-for rule nodes count batch tree shape whole stacked within at is = record {
  shape = shape;
  whole = whole;
  within = within;
  stacked = stacked-take rule batch.base.leaves batch.below count stacked;
  follows = is ∙ sym (leaves-at tree batch.base batch.below count at.there);
}

-- and has no fewer nodes than the tree
pub nodes-grow : (rule : Rule) → IsPairing rule → (nodes : Nodes) (count : ℕ) (batch : Growth)
    → IsWaiting rule nodes count batch
    → node_count rule nodes.boundary + length nodes.digests ≤ node_count rule batch.leaves
nodes-grow rule pairs nodes count batch waits =
    let least = oldest-least rule batch.base.leaves (take count batch.below) waits.stacked in
    omega (
      arith,
      waits.shape.counted,
      size-mono rule pairs nodes.leaves batch.leaves (omega (arith, waits.follows, least, waits.whole.grown)),
    )

-- what a tree has become that has the nodes of what waited
pub put-waiting : (rule : Rule) (nodes : Nodes) (count : ℕ) (batch : Growth) (own : Layer) (layers : List Layer) (n : ℕ)
    (pinned : List Replacement) (digests : List (List ℕ)) → own ≡ own_layer batch → layers ≡ take count batch.below
    → n ≡ batch.leaves → pinned ≡ (with_layer rule (with_layers rule nodes layers) own).pinned
    → digests ≡ (with_layer rule (with_layers rule nodes layers) own).digests
    → ◌≡◌ {A = Nodes} (record { leaves = n; boundary = nodes.boundary; pinned = pinned; digests = digests })
    (waiting_for rule nodes count batch).after
put-waiting rule nodes count batch own layers n pinned digests is_own is_layers is_n is_pinned is_digests =
    put-over rule nodes layers own n pinned digests (is_n ∙ sym (ap (λ (l : Layer). l.leaves) is_own)) is_pinned
    is_digests
    ∙ ap₂ (λ (l : Layer) (ls : List Layer). with_layer rule (with_layers rule nodes ls) l) is_own is_layers
