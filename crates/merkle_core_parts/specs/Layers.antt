-- Batches over batches: what the layers of a batch know, which of them follow a tree, and from which list to which they
-- lead.
use Rattle.std.specs.Prelude.{◌≡◌, ◌==◌, Bool, true, ℕ, ◌+◌, ◌-◌, ◌^◌, ◌<◌, ◌≤◌, ◌⊎◌, List, [], ◌∷◌, map, length}
use Rattle.std.specs.Prelude.{slice_get, Option, Some, None}
use Rattle.std.specs.Prelude.{nat_lt, take, if◌then◌else◌}
use Rattle.std.specs.Option.{option_or}
use Rattle.merkle_forest.specs.Forest.{Tree, position, Rule, forest_of}
use Rattle.merkle_forest.specs.Nodes.{IsNodeAt}
use Rattle.merkle_core_parts.specs.Mem.{Base, Layer, Nodes, NodeHash, Replacement, AreNodesOf, tree_digest, node_count}
use Rattle.merkle_core_parts.specs.Mem.{node_at}
use Rattle.merkle_core_parts.specs.Mem.{AreKeptNodes, Growth, own_layer, with_layer, with_batch, value_after}

-- the digest that replacements leave at an index, where one of them is at it
abbrev pub replacement_at : List Replacement → ℕ → Option (List ℕ)
replacement_at [] index = None
replacement_at (one ∷ more) index =
    option_or (replacement_at more index) (if one.0 == index then Some one.1 else None)

-- the digest that a layer has at a position: one that it changes, or a new one
abbrev pub layer_at : Rule → Layer → ℕ → Option (List ℕ)
layer_at rule layer p =
    if nat_lt p (node_count rule layer.base.leaves) then replacement_at layer.changed p
    else slice_get layer.digests (p - node_count rule layer.base.leaves)

-- the digest of a new node of a layer at a position
abbrev pub new_at : Rule → Layer → ℕ → Option (List ℕ)
new_at rule layer p =
    if nat_lt p (node_count rule layer.base.leaves) then None
    else slice_get layer.digests (p - node_count rule layer.base.leaves)

-- the digest at a position, where layers stand over what is known without them: the newest layer that has one has it
abbrev pub known_above : Rule → List Layer → (ℕ → Option (List ℕ)) → ℕ → Option (List ℕ)
known_above rule [] known p = known p
known_above rule (layer ∷ below) known p = option_or (layer_at rule layer p) (known_above rule below known p)

-- the nodes that a batch makes, and those that the batches below it make
abbrev pub made_by : Rule → Growth → ℕ → Option (List ℕ)
made_by rule batch = known_above rule (own_layer batch ∷ batch.below) (λ p. None)

-- what the nodes that a batch needs are read from: a tree, the layers over it, the newest first, and whether others
-- were given up
pub record Layered : Type 0 where
  pub tree : Nodes
  pub layers : List Layer
  pub dropped : Bool

-- the digest at a position of the newest layer that has one, or else of the tree
abbrev pub known_at : Rule → Layered → ℕ → Option (List ℕ)
known_at rule known = known_above rule known.layers (node_at rule known.tree)

-- a tree with layers, the oldest of which comes first over it
abbrev pub with_layers : Rule → Nodes → List Layer → Nodes
with_layers rule nodes [] = nodes
with_layers rule nodes (layer ∷ below) = with_layer rule (with_layers rule nodes below) layer

-- the shape of a layer: it has each node that its leaves add
pub record IsWhole (rule : Rule) (layer : Layer) : Type 0 where
  pub few : layer.leaves ≤ 2 ^ 62
  pub grown : layer.base.leaves ≤ layer.leaves
  pub counted : node_count rule layer.base.leaves + length layer.digests ≡ node_count rule layer.leaves

-- layers are whole, each begins with the leaves that the one below it has, and these are the leaves that the newest one
-- has
abbrev pub AreStacked : Rule → ℕ → List Layer → Type 0
AreStacked rule leaves [] = Unit {0}
AreStacked rule leaves (layer ∷ below) =
    (layer.leaves ≡ leaves) × IsWhole rule layer × AreStacked rule layer.base.leaves below

-- the bases that a batch knows: its own, and those of the layers below it
abbrev pub bases : Base → List Layer → List Base
bases own below = own ∷ map (λ layer. layer.base) below

-- how many leaves the oldest of them has
abbrev pub oldest_leaves : ℕ → List Layer → ℕ
oldest_leaves own [] = own
oldest_leaves own (layer ∷ below) = oldest_leaves layer.base.leaves below

-- whether layers were given up, once these are too
abbrev pub given_up : Bool → List Layer → Bool
given_up dropped [] = dropped
given_up dropped (layer ∷ below) = true

-- a tree is the base at this index, and none before it: so many layers follow it
pub record IsFirstAt (tree : Base) (known : List Base) (index : ℕ) : Type 0 where
  pub there : slice_get known index ≡ Some tree
  pub none_before : (i : ℕ) → i < index → slice_get known i ≡ Some tree → ⊥

-- a tree is none of these bases
abbrev pub HasNone : Base → List Base → Type 0
HasNone tree known = (i : ℕ) → slice_get known i ≡ Some tree → ⊥

-- a layer leads from one list of leaf digests to another: its nodes, and those that it changes, are those of the other
pub record IsLed (node : NodeHash) (rule : Rule) (layer : Layer) (before after : List (List ℕ)) : Type 0 where
  pub from : layer.base.leaves ≡ length before
  pub to : layer.leaves ≡ length after
  pub longer : length before ≤ length after
  pub counted : node_count rule (length before) + length layer.digests ≡ node_count rule (length after)
  pub old : (first : ℕ) (tree : Tree) → IsNodeAt first tree (forest_of rule (length before))
      → value_after layer.changed (position tree) (tree_digest node before first tree)
      ≡ tree_digest node after first tree
  pub new : (first : ℕ) (tree : Tree) → IsNodeAt first tree (forest_of rule (length after))
      → node_count rule (length before) ≤ position tree
      → slice_get layer.digests (position tree - node_count rule (length before))
      ≡ Some (tree_digest node after first tree)
  pub unchanged : (p : ℕ) (digest : List ℕ) → node_count rule (length before) ≤ p
      → value_after layer.changed p digest ≡ digest

-- layers lead to a list, the newest first, each from the next of the earlier lists
abbrev pub AreLed : NodeHash → Rule → List Layer → List (List (List ℕ)) → List (List ℕ) → Type 0
AreLed node rule [] [] list = Unit {0}
AreLed node rule [] (before ∷ earlier) list = ⊥
AreLed node rule (layer ∷ below) [] list = ⊥
AreLed node rule (layer ∷ below) (before ∷ earlier) list =
    IsLed node rule layer before list × AreLed node rule below earlier before

-- a tree has the nodes of one of these lists
abbrev pub IsOfOne : NodeHash → Rule → Nodes → List (List (List ℕ)) → Type 0
IsOfOne node rule nodes [] = ⊥
IsOfOne node rule nodes (list ∷ lists) = AreNodesOf node rule list nodes ⊎ IsOfOne node rule nodes lists

-- a tree, and what it is once a batch that waits for it is applied, with those below it that the tree is without
pub record Waiting : Type 0 where
  pub before : Nodes
  pub after : Nodes

-- a tree for which a batch waits, that so many layers below it come before
abbrev pub waiting_for : Rule → Nodes → ℕ → Growth → Waiting
waiting_for rule nodes count batch = record {
  before = nodes;
  after = with_batch rule (with_layers rule nodes (take count batch.below)) batch;
}

-- what waits is shaped as it has to be: so many layers follow the tree, and then the batch
pub record IsWaiting (rule : Rule) (nodes : Nodes) (count : ℕ) (batch : Growth) : Type 0 where
  pub shape : AreKeptNodes rule nodes
  pub whole : IsWhole rule (own_layer batch)
  pub within : count ≤ length batch.below
  pub stacked : AreStacked rule batch.base.leaves (take count batch.below)
  pub follows : nodes.leaves ≡ oldest_leaves batch.base.leaves (take count batch.below)
