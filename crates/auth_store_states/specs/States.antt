-- The state of a history that is hashed, and its root.
use Rattle.std.specs.Prelude.{ℕ, ◌*◌, ◌==◌, Bool, IsTrue, List, [], ◌∷◌, map, Option}
use Rattle.std.specs.Int.{w64, trailing_zeros}
use Rattle.std.specs.List.{list_any}
use Rattle.merkle_forest.specs.Forest.{Rule}
use Rattle.merkle_forest.specs.Hashing.{Hash}
use Rattle.state_ops.specs.Operation.{Operation, fixed_encoding}
use Rattle.state_theory.specs.Canonical.{Setting, State, canonical_root}
use Rattle.auth_store_parts.specs.Batch.{Word, map_after}
use Rattle.auth_store_parts.specs.History.{History, latest_map, last_floor, activity_bits, log_of}

-- whether a chunk may have so many bytes: one of the powers of two from 1 to 4096
abbrev pub is_chunk_width : ℕ → Bool
is_chunk_width width =
    list_any (λ power. width == power) (1 ∷ 2 ∷ 4 ∷ 8 ∷ 16 ∷ 32 ∷ 64 ∷ 128 ∷ 256 ∷ 512 ∷ 1024 ∷ 2048 ∷ 4096 ∷ [])

-- a chunk may have so many bytes
abbrev pub IsChunkWidth : ℕ → Type 0
IsChunkWidth width = IsTrue (is_chunk_width width)

-- the height of a tree over as many operations as a chunk of so many bytes has bits
abbrev pub grafting_height : ℕ → ℕ
grafting_height width = trailing_zeros w64 (8 * width)

-- the setting of chunks of this width: 8 times the width is 2 to the grafting height
abbrev pub setting_of_width : Rule → Hash → ℕ → Setting
setting_of_width rule hash width =
    record { rule = rule; hash = hash; width = width; grafting_height = grafting_height width }

-- the fixed encodings of a log's operations, from the sizes of keys and of values
abbrev pub encodings : ℕ → ℕ → List Operation → List (List ℕ)
encodings key value log = map (fixed_encoding key value) log

-- what is hashed of a log
abbrev pub state_of_log : ℕ → ℕ → List Operation → State
state_of_log key value log =
    record { operations = encodings key value log; bits = activity_bits log; floor = last_floor log }

-- the floor that the last commit of the history's log records
abbrev pub floor_of : History → ℕ
floor_of history = last_floor (log_of history)

-- what is hashed of a history
abbrev pub state_of_history : ℕ → ℕ → History → State
state_of_history key value history = state_of_log key value (log_of history)

-- the root of a history
abbrev pub root_of_history : Setting → ℕ → ℕ → History → List ℕ
root_of_history setting key value history = canonical_root setting (state_of_history key value history)

-- the history with the commit of a batch
abbrev pub commit_after : List Word → Option (List ℕ) → History → History
commit_after words metadata history = record { map = map_after words (latest_map history); metadata = metadata } ∷
    history
