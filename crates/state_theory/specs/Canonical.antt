-- The canonical root of a state: its operations, their activity bits and its floor.
use Rattle.std.specs.Prelude.{ℕ, ◌+◌, ◌*◌, ◌/◌, ◌%◌, ◌==◌, nat_lt, Bool, if◌then◌else◌, List, [], ◌++◌, length, Option}
use Rattle.std.specs.Prelude.{None, Some, option_map, slice_index_or}
use Rattle.merkle_forest.specs.declared.bagging.Bagging.TheVariants.{BackwardFold}
use Rattle.merkle_forest.specs.Forest.{Tree, Rule, forest_of}
use Rattle.merkle_forest.specs.Hashing.{Hash, number, root_of}
use Rattle.merkle_forest.specs.Nodes.{nodes_of_height}
use Rattle.merkle_forest.specs.Trees.{Located, located, peak_digests, inactive_peaks, tree_root}
use Rattle.state_theory.specs.Bits.{chunks_of}
use Rattle.state_theory.specs.Grafting.{grafted_digest, chunk_aligned_inactive_peaks}

-- how a tree grows, how strings are hashed, and how many bytes a chunk has: 8 times that is 2 to the grafting height
pub record Setting : Type 0 where
  pub rule : Rule
  pub hash : Hash
  pub width : ℕ
  pub grafting_height : ℕ

-- the encoded operations, a bit for each, and the last floor
pub record State : Type 0 where
  pub operations : List (List ℕ)
  pub bits : List Bool
  pub floor : ℕ

-- the setting, from the bytes of a chunk and the grafting height
abbrev pub setting_with : Rule → Hash → ℕ → ℕ → Setting
setting_with rule hash width grafting_height = record
    { rule = rule; hash = hash; width = width; grafting_height = grafting_height }

abbrev pub chunk_bits : Setting → ℕ
chunk_bits setting = 8 * setting.width

-- how many chunks are full, and whether a part of one is left over
abbrev pub full_chunks : Setting → State → ℕ
full_chunks setting state = length state.operations / chunk_bits setting

abbrev pub next_bit : Setting → State → ℕ
next_bit setting state = length state.operations % chunk_bits setting

-- all chunks, the partial one too
unfoldable pub chunks : Setting → State → List (List ℕ)
chunks setting state =
    chunks_of setting.width (full_chunks setting state + (if next_bit setting state == 0 then 0 else 1)) state.bits

abbrev pub chunk : Setting → State → ℕ → List ℕ
chunk setting state index = slice_index_or (chunks setting state) index []

abbrev pub forest : Setting → State → List Tree
forest setting state = forest_of setting.rule (length state.operations)

abbrev pub peaks : Setting → State → List Located
peaks setting state = located (forest setting state)

-- the digests of the grafted tree
unfoldable pub grafted_digests : Setting → State → ℕ → Tree → List ℕ
grafted_digests setting state =
    grafted_digest setting.hash setting.grafting_height (chunk_bits setting) (chunks setting state) state.operations

-- the root of the operations' tree
unfoldable pub operations_root : Setting → State → List ℕ
operations_root setting state =
    tree_root setting.hash BackwardFold setting.rule state.operations (inactive_peaks state.floor (peaks setting state))

-- the inactive peaks of the grafted tree
unfoldable pub grafted_inactive : Setting → State → ℕ
grafted_inactive setting state = chunk_aligned_inactive_peaks (chunk_bits setting) state.floor (peaks setting state)

-- the root of the grafted tree
unfoldable pub grafted_root : Setting → State → List ℕ
grafted_root setting state =
    root_of setting.hash BackwardFold (length state.operations) (grafted_inactive setting state)
    (peak_digests (grafted_digests setting state) (forest setting state))

-- the digest of the full chunk that isn't graftable yet, if there is one
unfoldable pub pending_digest : Setting → State → Option (List ℕ)
pending_digest setting state =
    let graftable = nodes_of_height setting.grafting_height (forest setting state) in
    if nat_lt graftable (full_chunks setting state) then Some (setting.hash (chunk setting state graftable)) else None

-- the digest of the partial chunk, if there is one
unfoldable pub partial_digest : Setting → State → Option (List ℕ)
partial_digest setting state =
    if next_bit setting state == 0 then None else Some (setting.hash (chunk setting state (full_chunks setting state)))

-- the bytes that may be there
abbrev pub if_any : Option (List ℕ) → List ℕ
if_any None = []
if_any (Some bytes) = bytes

-- both roots, the pending chunk's digest if any, and the next bit and the partial chunk's digest if any
unfoldable pub canonical_string : List ℕ → List ℕ → Option (List ℕ) → ℕ → Option (List ℕ) → List ℕ
canonical_string operations grafted pending next partial =
    operations ++ (grafted ++ (if_any pending ++ if_any (option_map (λ digest. number next ++ digest) partial)))

-- the canonical root
unfoldable pub canonical_root : Setting → State → List ℕ
canonical_root setting state =
    setting.hash (canonical_string (operations_root setting state) (grafted_root setting state)
    (pending_digest setting state) (next_bit setting state) (partial_digest setting state))
