-- Operations and their two encodings. A key, a value and an update are their own encodings, lists of bytes.
use Rattle.std.specs.Prelude.{ℕ, ◌+◌, ◌-◌, ◌^◌, ◌<◌, ◌≤◌, IfSome, max, Bool, true, false, List, ◌∷◌, ◌++◌, length}
use Rattle.std.specs.Prelude.{replicate, Option, None, Some, option_map}
use Rattle.std.specs.Int.{w64, to_be_bytes}
use Rattle.merkle_forest.specs.Codec.{option_encoding}
use Rattle.merkle_forest.specs.Varint.{varint}
use Rattle.state_ops_parts.specs.declared.operation.Operation as code
use Rattle.state_ops_parts.specs.declared.operation.Operation.TheVariants.{Delete, Update, CommitFloor}

-- what an operation says, where `U` is what an update says; a commit has metadata and a floor
pub data Operation (U : Type 0) : Type 0 where
  delete : List ℕ → Operation U
  update : U → Operation U
  commit_floor : Option (List ℕ) → ℕ → Operation U

-- what an operation of the code says, given how its keys and its values are encoded, and what its updates say
abbrev pub meaning_of : {F S A B C D E G U : Type 0} → (A → List ℕ) → (B → List ℕ) → (S → U)
    → code.Operation F S A B C D E G → Operation U
meaning_of key value said (Delete k) = delete (key k)
meaning_of key value said (Update u) = update (said u)
meaning_of key value said (CommitFloor metadata floor) = commit_floor (option_map value metadata) floor

-- what it says, where an update is its key and its value
abbrev pub fields_of : {F S A B C D E G : Type 0} → (A → List ℕ) → (B → List ℕ) → (S → A) → (S → B)
    → code.Operation F S A B C D E G
    → Operation (List ℕ × List ℕ)
fields_of key value key_of value_of o = meaning_of key value (λ u. (key (key_of u), value (value_of u))) o

-- the one size of all operations in bytes, from the sizes of keys, of values and of updates
abbrev pub fixed_size : ℕ → ℕ → ℕ → ℕ
fixed_size key value updated = max (1 + updated) (max (1 + 1 + value + 8) (1 + key))

-- the bytes, and zeros up to the size
abbrev pub padded : ℕ → List ℕ → List ℕ
padded size bytes = bytes ++ replicate (size - length bytes) 0

-- a flag, and the metadata or as many zeros
abbrev pub fixed_metadata : ℕ → Option (List ℕ) → List ℕ
fixed_metadata value None = 0 ∷ replicate value 0
fixed_metadata value (Some bytes) = 1 ∷ bytes

-- an operation without its padding; `spelled` is the encoding of an update
abbrev pub unpadded : {U : Type 0} → (U → List ℕ) → ℕ → Operation U → List ℕ
unpadded spelled value (delete k) = 0xD1 ∷ k
unpadded spelled value (update u) = 0xD2 ∷ spelled u
unpadded spelled value (commit_floor metadata floor) = 0xD3 ∷ (fixed_metadata value metadata ++ to_be_bytes w64 floor)

-- an operation's fixed encoding, from the sizes of keys, of values and of updates
abbrev pub fixed_encoding : {U : Type 0} → (U → List ℕ) → ℕ → ℕ → ℕ → Operation U → List ℕ
fixed_encoding spelled key value updated operation =
    padded (fixed_size key value updated) (unpadded spelled value operation)

-- an operation's variable encoding
abbrev pub variable_encoding : {U : Type 0} → (U → List ℕ) → Operation U → List ℕ
variable_encoding spelled (delete k) = 0xD1 ∷ k
variable_encoding spelled (update u) = 0xD2 ∷ spelled u
variable_encoding spelled (commit_floor metadata floor) =
    0xD3 ∷ (option_encoding (λ bytes. bytes) metadata ++ varint floor)

-- an operation of the code whose key, value and update are values, and whose floor is a number of the code
abbrev pub IsValue : {F S A B C D E G : Type 0} → (A → Type 0) → (B → Type 0) → (S → Type 0)
    → code.Operation F S A B C D E G → Type 0
IsValue key value updated (Delete k) = key k
IsValue key value updated (Update u) = updated u
IsValue key value updated (CommitFloor metadata floor) = IfSome metadata value × (floor < 2 ^ 64)

-- an operation of the code of such a key, value or update, or of a floor that is at most the greatest number of
-- operations
abbrev pub IsOperation : {F S A B C D E G : Type 0} → (A → Type 0) → (B → Type 0) → (S → Type 0)
    → code.Operation F S A B C D E G → Type 0
IsOperation key value updated (Delete k) = key k
IsOperation key value updated (Update u) = updated u
IsOperation key value updated (CommitFloor metadata floor) = IfSome metadata value × (floor ≤ 2 ^ 62)

-- the key of an operation, and the floor of a commit
abbrev pub key_in : {F S A B C D E G : Type 0} → (S → A) → code.Operation F S A B C D E G → Option A
key_in key (Delete k) = Some k
key_in key (Update u) = Some (key u)
key_in key (CommitFloor metadata floor) = None

abbrev pub floor_in : {F S A B C D E G : Type 0} → code.Operation F S A B C D E G → Option ℕ
floor_in (Delete k) = None
floor_in (Update u) = None
floor_in (CommitFloor metadata floor) = Some floor

-- which of the three an operation is
abbrev pub is_update : {F S A B C D E G : Type 0} → code.Operation F S A B C D E G → Bool
is_update (Delete k) = false
is_update (Update u) = true
is_update (CommitFloor metadata floor) = false

abbrev pub is_delete : {F S A B C D E G : Type 0} → code.Operation F S A B C D E G → Bool
is_delete (Delete k) = true
is_delete (Update u) = false
is_delete (CommitFloor metadata floor) = false
