-- The grammar of the fixed encoding of ordered operations: the operation at the front of the bytes and the bytes after
-- it, or the first fault from the left. `key` and `value` are the grammars of keys and of values.
use Rattle.std.specs.Prelude.{◌≡◌, ◌<◌, ◌≤◌, ◌^◌, ◌+◌, ℕ, List, length, IfSome}
use Rattle.merkle_forest.specs.Codec.{Outcome, ◌>>=◌}
use Rattle.state_ops_parts.specs.Grammar.{Found, Ends, item_at, told, fixed_at, Lacks, FixedLacks, OrderedLacks}
use Rattle.state_ops.specs.Operation.{Update, ordered, Operation, delete, update, commit_floor, fixed_size}

-- key, value and next key of an update
abbrev pub ordered_at : (List ℕ → Outcome) → (List ℕ → Outcome) → List ℕ → Found Update
ordered_at key value bytes =
    item_at key bytes >>= λ k. item_at value k.1 >>= λ v. told (ordered k.0 v.0) (item_at key v.1)

-- an operation of keys and values of these sizes
abbrev pub operation_at : (List ℕ → Outcome) → (List ℕ → Outcome) → ℕ → ℕ → List ℕ → Found Operation
operation_at key value key_size value_size bytes =
    fixed_at key value (ordered_at key value) key_size value_size (key_size + value_size + key_size) bytes

-- memory may be lacking for the operation at the front, where all of it is there: for its key, its value or its next
-- key
abbrev pub OperationLacks : (List ℕ → Outcome) → (List ℕ → Outcome) → Lacks → Lacks → ℕ → ℕ → List ℕ → Type 0
OperationLacks key value key_lacks value_lacks key_size value_size bytes =
    FixedLacks key_lacks value_lacks (OrderedLacks key value key_lacks value_lacks)
    (fixed_size key_size value_size) bytes

-- bytes of the size that the grammar reads, whatever follows
abbrev pub IsField : (List ℕ → Outcome) → ℕ → List ℕ → Type 0
IsField grammar size bytes = (length bytes ≡ size) × Ends grammar bytes

-- what has a fixed encoding: fields of their sizes, and a floor that is at most the greatest number of operations
abbrev pub HasEncoding : (List ℕ → Outcome) → (List ℕ → Outcome) → ℕ → ℕ → Operation → Type 0
HasEncoding key value key_size value_size (delete k) = IsField key key_size k
HasEncoding key value key_size value_size (update (ordered k v next)) =
    IsField key key_size k × (IsField value value_size v × IsField key key_size next)
HasEncoding key value key_size value_size (commit_floor metadata floor) =
    IfSome metadata (IsField value value_size) × (floor ≤ 2 ^ 62)

-- the keys and the values that an operation names are some, and its floor is a number of the code
abbrev pub IsOfFields : (List ℕ → Type 0) → (List ℕ → Type 0) → Operation → Type 0
IsOfFields IsKey IsValue (delete k) = IsKey k
IsOfFields IsKey IsValue (update (ordered k v next)) = IsKey k × (IsValue v × IsKey next)
IsOfFields IsKey IsValue (commit_floor metadata floor) = IfSome metadata IsValue × (floor < 2 ^ 64)
