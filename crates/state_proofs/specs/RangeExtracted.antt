-- Which nodes a proof over a range of operations tells, with their digests in the grafted tree, and why it may tell
-- none.
--
-- With chunks of eight bits, a state of 12 operations, and operation 7 shown:
--
--                 14                     over 0 to 7; the chunk over them is joined in
--           6           13
--                     9    12            the peak over 8 to 11 stands in the proof alone, as what is after the range
--                        10   11         operation 7
--
-- The proof gives 6, 9 and 10; 11, 12, 13 and 14 are made of these, of the operation and of the chunk. These seven are
-- told.
use Rattle.std.specs.Prelude.{◌≡◌, ◌≢◌, true, ℕ, ◌+◌, ◌^◌, ◌<◌, ◌≤◌, List, Some, None}
use Rattle.merkle_forest.specs.Forest.{Tree, leaf, branch, height, leaf_count, Rule, forest_of}
use Rattle.merkle_forest.specs.Hashing.{Hash, leaf_string, node_string}
use Rattle.merkle_forest.specs.Nodes.{IsNodeAt}
use Rattle.merkle_forest.specs.Trees.{Located}
use Rattle.merkle_proofs.specs.Extracted.{AreGiven, extracted_nodes}
use Rattle.merkle_theory.specs.MadeRoots.{peaks_of}
use Rattle.merkle_theory.specs.MadeTrees.{from}
use Rattle.merkle_theory.specs.Ranges.{Digests, meets}
use Rattle.merkle_proofs.specs.declared.extraction.ExtractionError.{ExtractionError}
use Rattle.merkle_proofs.specs.declared.extraction.ExtractionError.TheVariants.{InvalidProof, RootMismatch, Memory}
use Rattle.state_theory.specs.Grafting.{grafted}
use Rattle.state_theory.specs.Verified.{Shown, shown_bits, stop_of, IsShaped, FitsShown, VerifiesRange, given_by}
use Rattle.state_theory.specs.Verified.{graftable_shown, shown_grafted, RangeParts}
use Rattle.state_theory.specs.Verifier.{joined_chunk}

-- operations from a location on, and chunks over them, of so many bytes each
abbrev pub shown_with : ℕ → List (List ℕ) → List (List ℕ) → ℕ → Shown
shown_with start operations chunks width = record {
  start = start;
  operations = operations;
  chunks = chunks;
  width = width;
}

-- The digests of the nodes of the tree, as the proof shows them: of those over an operation that is shown they are made
-- of what is shown, at the grafting height with the chunk joined in.
pub record AreMadeOfShown (rule : Rule) (hash : Hash) (grafting_height : ℕ) (proof : RangeParts) (shown : Shown)
    (digest : Digests) : Type 0 where
  pub leaf : (at p : ℕ) → IsNodeAt at (leaf p) (forest_of rule proof.leaves)
      → meets shown.start (stop_of shown) (at, leaf p) ≡ true
      → digest at (leaf p) ≡ hash (leaf_string p (from shown.start shown.operations at))
  pub branch : (at p : ℕ) (left right : Tree) → IsNodeAt at (branch p left right) (forest_of rule proof.leaves)
      → meets shown.start (stop_of shown) (at, branch p left right) ≡ true
      → digest at (branch p left right)
      ≡ grafted hash (joined_chunk (given_by grafting_height (graftable_shown rule grafting_height proof) shown)
      (Some (at, height (branch p left right))))
      (hash (node_string p (digest at left) (digest (at + leaf_count left) right)))

-- and those of the nodes beside the range are the ones that the proof gives
pub record ShowsDigests (rule : Rule) (hash : Hash) (grafting_height : ℕ) (proof : RangeParts) (shown : Shown)
    (digest : Digests) : Type 0 where
  pub made : AreMadeOfShown rule hash grafting_height proof shown digest
  pub given : AreGiven proof.inactive shown.start (stop_of shown) (peaks_of rule proof.leaves) digest proof.digests

-- the nodes that it tells: the peaks that it gives singly, and in the peaks that meet the range each node that it gives
-- or that is made of others
abbrev pub told_by : Rule → RangeParts → Shown → List Located
told_by rule proof shown = extracted_nodes proof.inactive shown.start (stop_of shown) (peaks_of rule proof.leaves)

-- Why the proof leads to no root: there is no such size of chunks; there are too many leaves; there is no operation,
-- one is past the leaves, or the chunks are not those over them; the digest of the pending or of the partial chunk does
-- not fit; or the Merkle proof leads to no root of the grafted tree.
pub data LeadsNowhere (rule : Rule) (hash : Hash) (proof : RangeParts) (shown : Shown) : Type 0 where
  by_size : ((grafting_height : ℕ) → shown_bits shown ≡ 2 ^ grafting_height → grafting_height ≤ 62 → ⊥)
      → LeadsNowhere rule hash proof shown
  by_leaves : 2 ^ 62 < proof.leaves → LeadsNowhere rule hash proof shown
  by_shape : (IsShaped proof.leaves shown → ⊥) → LeadsNowhere rule hash proof shown
  by_chunks : (grafting_height : ℕ) → shown_bits shown ≡ 2 ^ grafting_height
      → (FitsShown hash (graftable_shown rule grafting_height proof) proof shown → ⊥)
      → LeadsNowhere rule hash proof shown
  by_digests : (grafting_height : ℕ) → shown_bits shown ≡ 2 ^ grafting_height
      → shown_grafted rule grafting_height proof shown ≡ None → LeadsNowhere rule hash proof shown

-- it leads to another one
pub record LeadsElsewhere (rule : Rule) (hash : Hash) (root : List ℕ) (proof : RangeParts) (shown : Shown)
    : Type 0 where
  pub other : List ℕ
  pub differs : other ≢ root
  pub leads : VerifiesRange rule hash other proof shown

-- why none is told, where this root is asked for: the proof leads to no root, or to another one, or memory is lacking
abbrev pub IsRefusalToTell : Rule → Hash → List ℕ → RangeParts → Shown → ExtractionError → Type 0
IsRefusalToTell rule hash root proof shown InvalidProof = LeadsNowhere rule hash proof shown
IsRefusalToTell rule hash root proof shown RootMismatch = LeadsElsewhere rule hash root proof shown
IsRefusalToTell rule hash root proof shown Memory = Unit {0}
