-- What a proof over a range must hold so that it shows the operations of the range and the chunks over them, and what a
-- proof of one operation must.
--
-- With chunks of eight bits, a state of 21 operations, and operations 5 to 17 shown:
--
--      chunk 0            chunk 1            chunk 2
--      . . . . . 5 6 7    8 9 10 .. 15       16 17 . . .       of the 21: three chunks are covered, the last is partial
--                |-------- shown ----------------|
use Rattle.std.specs.Prelude.{◌≡◌, ℕ, ◌+◌, ◌-◌, ◌*◌, ◌/◌, ◌%◌}
use Rattle.std.specs.Prelude.{◌^◌, ◌<◌, ◌≤◌, true, List, [], ◌∷◌, length, Option, None}
use Rattle.std.specs.Prelude.{Some, option_map, slice_get, slice_index_or}
use Rattle.std.specs.List.{AllByRecursion}
use Rattle.merkle_forest.specs.declared.bagging.Bagging.TheVariants.{BackwardFold}
use Rattle.merkle_forest.specs.Forest.{Rule, forest_of}
use Rattle.merkle_forest.specs.Hashing.{Hash}
use Rattle.merkle_forest.specs.Made.{Made, value}
use Rattle.merkle_forest.specs.Nodes.{nodes_of_height}
use Rattle.merkle_theory.specs.MadeTrees.{Over}
use Rattle.merkle_theory.specs.Reads.{range_root}
use Rattle.state_theory.specs.SetBits.{is_set}
use Rattle.state_theory.specs.ShownChunks.{FitsChunk}
use Rattle.state_theory.specs.Canonical.{canonical_string}
use Rattle.state_theory.specs.MadeGrafted.{grafted_over, grafted_names}
use Rattle.state_theory.specs.Verifier.{Given, claimed_chunk}

-- what a proof over a range of operations holds: the Merkle proof in the grafted tree, and the other parts of the
-- canonical string
pub record RangeParts : Type 0 where
  pub leaves : ℕ
  pub inactive : ℕ
  pub digests : List (List ℕ)
  pub pending : Option (List ℕ)
  pub partial : Option (List ℕ)
  pub operations_root : List ℕ

-- what is shown with a proof: operations from a location on, and the chunks over them, of so many bytes each
pub record Shown : Type 0 where
  pub start : ℕ
  pub operations : List (List ℕ)
  pub chunks : List (List ℕ)
  pub width : ℕ

abbrev pub shown_bits : Shown → ℕ
shown_bits shown = 8 * shown.width

abbrev pub stop_of : Shown → ℕ
stop_of shown = shown.start + length shown.operations

-- the indices of the chunks with the first and with the last operation
abbrev pub first_index : Shown → ℕ
first_index shown = shown.start / shown_bits shown

abbrev pub last_index : Shown → ℕ
last_index shown = (stop_of shown - 1) / shown_bits shown

-- the chunk at an index is among those over the operations, and it
abbrev pub Covers : Shown → ℕ → Type 0
Covers shown index = (first_index shown ≤ index) × (index < first_index shown + length shown.chunks)

abbrev pub covering : Shown → ℕ → List ℕ
covering shown index = slice_index_or shown.chunks (index - first_index shown) []

-- an operation is shown, all are within the tree, and the chunks are those over them, each of the width
pub record IsShaped (leaf_total : ℕ) (shown : Shown) : Type 0 where
  pub some : 0 < length shown.operations
  pub within : stop_of shown ≤ leaf_total
  pub counted : first_index shown + length shown.chunks ≡ last_index shown + 1
  pub wide : AllByRecursion (λ chunk. length chunk ≡ shown.width) shown.chunks

-- how many chunks are full, and how many have their node
abbrev pub full_shown : RangeParts → Shown → ℕ
full_shown proof shown = proof.leaves / shown_bits shown

abbrev pub graftable_shown : Rule → ℕ → RangeParts → ℕ
graftable_shown rule grafting_height proof = nodes_of_height grafting_height (forest_of rule proof.leaves)

-- The digests of the pending chunk, which is the first that has no node, and of the partial one, which follows the full
-- ones: each is held exactly where there is such a chunk, and is that of the chunk that is shown where this is covered.
pub record FitsShown (hash : Hash) (graftable : ℕ) (proof : RangeParts) (shown : Shown) : Type 0 where
  pub one_pending : full_shown proof shown ≤ graftable + 1
  pub pending : FitsChunk hash (covering shown graftable) (graftable < full_shown proof shown) (Covers shown graftable)
      proof.pending
  pub partial : FitsChunk hash (covering shown (full_shown proof shown)) (0 < proof.leaves % shown_bits shown)
      (Covers shown (full_shown proof shown)) proof.partial

-- the chunks that are joined in
abbrev pub given_by : ℕ → ℕ → Shown → Given
given_by grafting_height graftable shown = record {
  grafting_height = grafting_height;
  first = first_index shown;
  chunks = shown.chunks;
  graftable = graftable;
}

-- how a branch's string is hashed
abbrev pub shown_over : Rule → ℕ → RangeParts → Shown → Over
shown_over rule grafting_height proof shown =
    grafted_over grafting_height (claimed_chunk (given_by grafting_height
    (graftable_shown rule grafting_height proof) shown) shown.width)

-- the root of the grafted tree that the proof leads to, if it leads to one
abbrev pub shown_grafted : Rule → ℕ → RangeParts → Shown → Option Made
shown_grafted rule grafting_height proof shown =
    range_root grafted_names (shown_over rule grafting_height proof shown) BackwardFold rule proof.leaves
    proof.inactive shown.start
    shown.operations proof.digests

-- the proof shows, under this canonical root, that the encoded operations stand from the location on, and that the
-- chunks over them are these
pub record VerifiesRange (rule : Rule) (hash : Hash) (root : List ℕ) (proof : RangeParts) (shown : Shown) : Type 0 where
  pub grafting_height : ℕ
  pub whole : shown_bits shown ≡ 2 ^ grafting_height
  pub low : grafting_height ≤ 62
  pub few : proof.leaves ≤ 2 ^ 62
  pub shaped : IsShaped proof.leaves shown
  pub fits : FitsShown hash (graftable_shown rule grafting_height proof) proof shown
  pub grafted_root : List ℕ
  pub leads : option_map (value hash) (shown_grafted rule grafting_height proof shown) ≡ Some grafted_root
  pub seals : hash (canonical_string proof.operations_root grafted_root proof.pending
      (proof.leaves % shown_bits shown) proof.partial)
      ≡ root

-- what a proof of one operation holds: the operation's location, the chunk with its bit, and the proof over the
-- operation
pub record Parts : Type 0 where
  pub location : ℕ
  pub chunk : List ℕ
  pub range : RangeParts

-- what is shown with it: the operation alone, and the chunk
abbrev pub shown_alone : Parts → List ℕ → Shown
shown_alone proof operation = record {
  start = proof.location;
  operations = operation ∷ [];
  chunks = proof.chunk ∷ [];
  width = length proof.chunk;
}

-- at which bit of the chunk the operation's bit stands
abbrev pub bit_of : Parts → ℕ
bit_of proof = proof.location % (8 * length proof.chunk)

-- the proof shows that the encoded operation stands at its location and is active there, under this canonical root
pub record Verifies (rule : Rule) (hash : Hash) (root : List ℕ) (proof : Parts) (operation : List ℕ) : Type 0 where
  pub active : is_set (slice_get proof.chunk (bit_of proof / 8)) (bit_of proof) ≡ true
  pub shows : VerifiesRange rule hash root proof.range (shown_alone proof operation)
