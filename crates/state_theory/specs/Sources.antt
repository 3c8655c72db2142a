-- What proofs are built from: known nodes of a tree, and bits of which chunks may be pruned.
use Rattle.std.specs.Prelude.{◌≡◌, ℕ, Bool, List, length, Some}
use Rattle.merkle_theory.specs.Plans.{Asked as Span, Lookup}
use Rattle.merkle_forest.specs.Forest.{Tree, position}
use Rattle.merkle_forest.specs.Nodes.{IsNodeAt}
use Rattle.state_theory.specs.Canonical.{Setting, State, forest, grafted_digests}

-- how many operations there are and which are shown, the bits and how many chunks of them are pruned, and the digests
-- that are known of the nodes
pub record Source : Type 0 where
  pub span : Span
  pub bits : List Bool
  pub pruned : ℕ
  pub known : Lookup

-- the bits are a state's, and so are the digests that are known of the nodes of its grafted tree
pub record IsSourceOf (setting : Setting) (state : State) (source : Source) : Type 0 where
  pub leaves : source.span.leaves ≡ length state.operations
  pub bits : source.bits ≡ state.bits
  pub known : (first : ℕ) (tree : Tree) (digest : List ℕ) → IsNodeAt first tree (forest setting state)
      → source.known (position tree) ≡ Some digest → digest ≡ grafted_digests setting state first tree
