-- A state that grows: what a batch changes of it, and what its chunks' leaves are brought to.
use Rattle.std.specs.Prelude.{◌≡◌, ◌==◌, ℕ, ◌+◌, ◌*◌, ◌/◌, ◌^◌, ◌<◌, Bool, true, List, ◌++◌, length}
use Rattle.std.specs.Prelude.{Some, slice_get}
use Rattle.std.specs.List.{AllByRecursion, list_any}
use Rattle.merkle_forest.specs.Forest.{Tree, height}
use Rattle.merkle_forest.specs.Nodes.{IsNodeAt, nodes_of_height}
use Rattle.merkle_forest.specs.Trees.{plain_digest}
use Rattle.merkle_core_parts.specs.Mem.{Replacement}
pub use Rattle.state_theory.specs.Bits.{cleared}
use Rattle.state_theory.specs.Canonical.{Setting, State, chunk, forest}
use Rattle.state_theory.specs.Grafting.{grafted}

-- what is added to a state: operations, and a bit for each; the places whose bits are cleared then; and the new floor
pub record Change : Type 0 where
  pub operations : List (List ℕ)
  pub bits : List Bool
  pub cleared : List ℕ
  pub floor : ℕ

abbrev pub grown : State → Change → State
grown state change = record {
  operations = state.operations ++ change.operations;
  bits = cleared (state.bits ++ change.bits) change.cleared;
  floor = change.floor;
}

-- the digest of the leaf of a chunk that has its node: that of the node, with the chunk joined in
abbrev pub IsGraftedLeaf : Setting → State → ℕ → List ℕ → Type 0
IsGraftedLeaf setting state index digest = (node : Tree)
    → IsNodeAt (index * 2 ^ setting.grafting_height) node (forest setting state) → height node ≡ setting.grafting_height
    → digest ≡ grafted setting.hash (chunk setting state index)
    (plain_digest setting.hash state.operations (index * 2 ^ setting.grafting_height) node)

-- whether a leaf is among those that get another digest
abbrev pub is_updated : ℕ → List Replacement → Bool
is_updated index updates = list_any (λ one. one.0 == index) updates

-- Leaves that bring the tree of the chunks from one state to a later one: a leaf for each chunk that has its node
-- since, and another digest for each leaf over a place that is cleared.
pub record AreBrought (setting : Setting) (before after : State) (places : List ℕ) (more : List (List ℕ))
    (others : List Replacement) : Type 0 where
  pub counted : nodes_of_height setting.grafting_height (forest setting before) + length more
      ≡ nodes_of_height setting.grafting_height (forest setting after)
  pub added : (index : ℕ) (digest : List ℕ) → slice_get more index ≡ Some digest
      → IsGraftedLeaf setting after (nodes_of_height setting.grafting_height (forest setting before) + index) digest
  pub updates : AllByRecursion (λ one. IsGraftedLeaf setting after one.0 one.1) others
  pub covered : AllByRecursion (λ at. at / (8 * setting.width) < nodes_of_height setting.grafting_height
      (forest setting before)
      → is_updated (at / (8 * setting.width)) others ≡ true) places
