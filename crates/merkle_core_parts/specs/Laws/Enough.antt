-- What is read of a tree that was pruned, while leaves that are not pruned get other digests, is kept.
use Rattle.std.proofs.Common.{◌≡◌, ℕ, zero, suc, ◌+◌, ◌^◌, ◌-◌, ◌<◌, ◌≤◌, inl, inr, ltb, List, [], ◌∷◌, drop, length}
use Rattle.std.proofs.Common.{Option, Some, None, refl, sym, ap, subst, arith}
use Rattle.std.proofs.lemmas.Bool.{cases_lt, cond-false, le-ltb}
use Rattle.std.specs.Option.{option_or}
use Rattle.std.specs.Prelude.{IsSome, slice_get}
use Rattle.std.specs.List.{AllByRecursion}
use Rattle.merkle_forest.specs.Forest.{Tree, leaf, branch, position, height, leaf_count, Rule, forest_of}
use Rattle.merkle_forest.specs.Nodes.{IsNodeAt, AreChildren}
use Rattle.merkle_forest.specs.Perfect.{IsPairing}
use Rattle.merkle_forest.specs.Laws.ForestGrowth.{size-mono}
use Rattle.merkle_core_parts.specs.Errors.{IsRefusalOver}
use Rattle.merkle_core_parts.specs.Layers.{Layered, AreStacked, known_at, known_above, layer_at, replacement_at}
use Rattle.merkle_core_parts.specs.Layers.{oldest_leaves}
use Rattle.merkle_core_parts.specs.Mem.{Nodes, Layer, Replacement, AreKeptNodes, node_count, node_at, IsKept, encoded}
use Rattle.merkle_core_parts.specs.declared.error.Error.{Error}
use Rattle.merkle_core_parts.specs.declared.error.Error.TheVariants.{LocationOverflow, Empty, RangeOutOfBounds}
use Rattle.merkle_core_parts.specs.declared.error.Error.TheVariants.{InvalidSize, LeafOutOfBounds, ElementPruned}
use Rattle.merkle_core_parts.specs.declared.error.Error.TheVariants.{DuplicateLocation, UnsortedLocation}
use Rattle.merkle_core_parts.specs.declared.error.Error.TheVariants.{InvalidPinnedNodes, StaleBatch}
use Rattle.merkle_core_parts.specs.declared.error.Error.TheVariants.{InvalidInactivePeaks}
use Rattle.merkle_core_parts.specs.declared.error.Error.TheVariants.{AncestorDropped}
use Rattle.merkle_core_parts.specs.declared.error.Error.TheVariants.{MissingNode, Memory}
use Rattle.merkle_core_parts.specs.Laws.Due.{due-first}
use Rattle.merkle_core_parts.specs.Laws.Held.{kept-there}
use Rattle.merkle_core_parts.specs.Laws.Kept.{kept}
use Rattle.merkle_core_parts.specs.Laws.PlaceCases.{place-tree}
use Rattle.merkle_core_parts.specs.Laws.Rebuilt.{IsDue, IsPlace, after-leaf}
use Rattle.merkle_core_parts.specs.Laws.Replaced.{AreFrom, from-less}

-- out of memory, or a node is missing that is kept
abbrev pub IsRefusalOfKept : {F : Type 0} → Rule → ℕ → Error F → Type 0
IsRefusalOfKept rule boundary (MissingNode position) = IsKept rule boundary position
IsRefusalOfKept rule boundary AncestorDropped = Unit {0}
IsRefusalOfKept rule boundary Memory = Unit {0}
IsRefusalOfKept rule boundary other = ⊥

pub from-drop : (b k : ℕ) (us : List Replacement) → AreFrom b us → AreFrom b (drop k us)
from-drop b zero us from = from
from-drop b (suc k) [] from = tt
from-drop b (suc k) (u ∷ us) from = from-drop b k us (from-less b u.0 us from.0 from.1)

pub record AreKeptHalves (rule : Rule) (b at_left at_right : ℕ) : Type 0 where
  pub left : IsKept rule b at_left
  pub right : IsKept rule b at_right

halves_kept : (rule : Rule) → IsPairing rule → (n b first p h at_left at_right : ℕ) (tree : Tree) → n ≤ 2 ^ 62 → b ≤ n
    → IsNodeAt first tree (forest_of rule n) → p ≡ position tree → h ≡ height tree → (h ≡ 0 → ⊥)
    → AreChildren rule p h at_left at_right → b < first + leaf_count tree → AreKeptHalves rule b at_left at_right
halves_kept rule pairs n b first p h at_left at_right (leaf q) few le stands at high some children early =
    absurd (some high)
halves_kept rule pairs n b first p h at_left at_right (branch q l r) few le stands at high some children early =
    let here : IsNodeAt first (branch p l r) (forest_of rule n) =
    subst (λ k. IsNodeAt first (branch k l r) (forest_of rule n)) (sym at) stands in
    let both = children l r (record { leaf_total = n; few = few; first = first; stands = here; high = high }) in
    let past : node_count rule b ≤ q = after-leaf rule pairs n first b (branch q l r) stands le early in
    let it = kept rule pairs b n le in
    record {
      left = subst (IsKept rule b) (sym both.0) (it.left first q l r stands past);
      right = subst (IsKept rule b) (sym both.1) (it.right first q l r stands past);
    }

-- the halves of a place over such a leaf are kept
pub halves-kept : (rule : Rule) → IsPairing rule
    → (n b first p h at_left at_right : ℕ) (us : List Replacement) → n ≤ 2 ^ 62
    → b ≤ n → IsPlace rule n first p h → (h ≡ 0 → ⊥) → AreChildren rule p h at_left at_right → AreFrom b us
    → IsDue (first + 2 ^ h) us → AreKeptHalves rule b at_left at_right
halves-kept rule pairs n b first p h at_left at_right us few le it some children from due =
    let whole = place-tree rule pairs n first p h it.tree it it.stands it.at in
    halves_kept rule pairs n b first p h at_left at_right it.tree few le it.stands it.at it.high some children
    (subst (λ k. b < first + k) (sym whole.1) (due-first b (first + 2 ^ h) us from due))

-- all of these are at a location or after it
pub unencoded : {D : Type 0} (encoding : D → List ℕ) (b : ℕ) (us : List (ℕ × D))
    → AllByRecursion (λ (one : Replacement). b ≤ one.0) (encoded encoding us)
    → AllByRecursion (λ (one : ℕ × D). b ≤ one.0) us
unencoded encoding b [] all = tt
unencoded encoding b (u ∷ us) all = (all.0, unencoded encoding b us all.1)

pub from-all : {D : Type 0} (encoding : D → List ℕ) (b : ℕ) (us : List (ℕ × D))
    → AllByRecursion (λ (one : ℕ × D). b ≤ one.0) us → AreFrom 0 (encoded encoding us) → AreFrom b (encoded encoding us)
from-all encoding b [] all from = tt
from-all encoding b (u ∷ us) all from = (all.0, from.1)

some_or : (o q : Option (List ℕ)) → IsSome q → IsSome (option_or o q)
some_or None q some = some
some_or (Some x) q some = refl

some_at : (xs : List (List ℕ)) (i : ℕ) (q : Option (List ℕ)) → i < length xs → IsSome (option_or (slice_get xs i) q)
some_at [] i q lt = absurd (omega arith)
some_at (x ∷ xs) zero q lt = refl
some_at (x ∷ xs) (suc i) q lt = some_at xs i q (omega arith)

-- what a tree keeps is known over it, and what layers add to it
known_kept : (rule : Rule) (nodes : Nodes) (leaves : ℕ) (layers : List Layer) (p : ℕ) → AreKeptNodes rule nodes
    → AreStacked rule leaves layers → oldest_leaves leaves layers ≤ nodes.leaves
    → IsPairing rule → IsKept rule nodes.boundary p → p < node_count rule leaves
    → IsSome (known_above rule layers (node_at rule nodes) p)
known_kept rule nodes leaves [] p shape stacked le pairs keeps lt =
    kept-there rule nodes p shape keeps (omega (arith, lt, size-mono rule pairs leaves nodes.leaves le))
known_kept rule nodes leaves (layer ∷ below) p shape stacked le pairs keeps lt =
    let size = node_count rule layer.base.leaves in
    let rest = known_above rule below (node_at rule nodes) p in
    elim (cases_lt p size) [
      | inl low ↦
          some_or (layer_at rule layer p) rest
          (known_kept rule nodes layer.base.leaves below p shape stacked.2 le pairs keeps low)
      | inr past ↦
          subst (λ o. IsSome (option_or o rest))
          (sym (cond-false (ltb p size) (replacement_at layer.changed p) (slice_get layer.digests (p - size))
          (le-ltb p size past)))
          (some_at layer.digests (p - size) rest
          (omega (arith, past, lt, ap (node_count rule) stacked.0, stacked.1.counted)))
    ]

-- so nodes are made of such a tree and the layers over it unless out of memory
pub only-memory : {F : Type 0} (rule : Rule) → IsPairing rule → (known : Layered) (leaves : ℕ) (e : Error F)
    → AreKeptNodes rule known.tree → AreStacked rule leaves known.layers
    → oldest_leaves leaves known.layers ≤ known.tree.leaves → IsRefusalOver rule (node_count rule leaves) known e
    → IsRefusalOfKept rule known.tree.boundary e → e ≡ Memory
only-memory rule pairs known leaves (LocationOverflow l) shape stacked le refused keeps = absurd refused
only-memory rule pairs known leaves Empty shape stacked le refused keeps = absurd refused
only-memory rule pairs known leaves (RangeOutOfBounds l) shape stacked le refused keeps = absurd refused
only-memory rule pairs known leaves (DuplicateLocation l) shape stacked le refused keeps = absurd refused
only-memory rule pairs known leaves (UnsortedLocation l) shape stacked le refused keeps = absurd refused
only-memory rule pairs known leaves InvalidSize shape stacked le refused keeps = absurd refused
only-memory rule pairs known leaves (LeafOutOfBounds l) shape stacked le refused keeps = absurd refused
only-memory rule pairs known leaves (ElementPruned p) shape stacked le refused keeps = absurd refused
only-memory rule pairs known leaves InvalidPinnedNodes shape stacked le refused keeps = absurd refused
only-memory rule pairs known leaves StaleBatch shape stacked le refused keeps = absurd refused
only-memory rule pairs known leaves AncestorDropped shape stacked le refused keeps =
    let p = refused.1.0 in
    let after : node_count rule known.tree.boundary ≤ p =
    omega (arith, refused.1.3, size-mono rule pairs known.tree.boundary known.tree.leaves shape.within) in
    let some : IsSome (known_at rule known p) =
    known_kept rule known.tree leaves known.layers p shape stacked le pairs (inl after) refused.1.1 in
    absurd (let bad : IsSome {T = List ℕ} None = subst (λ o. IsSome o) refused.1.2 some in cc bad)
only-memory rule pairs known leaves InvalidInactivePeaks shape stacked le refused keeps = absurd refused
only-memory rule pairs known leaves (MissingNode p) shape stacked le refused keeps =
    let some : IsSome (known_at rule known p) =
    known_kept rule known.tree leaves known.layers p shape stacked le pairs keeps refused.0 in
    absurd (let bad : IsSome {T = List ℕ} None = subst (λ o. IsSome o) refused.1 some in cc bad)
only-memory rule pairs known leaves Memory shape stacked le refused keeps = refl
