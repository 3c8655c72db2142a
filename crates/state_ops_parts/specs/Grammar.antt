-- The grammar of operations: the operation at the front of the bytes and the bytes after it, or the first fault from
-- the left; and where memory may be lacking for it. `key`, `value` and `updated` are the grammars of keys, values and
-- updates, and memory may be lacking for one of them at the bytes of which `key_lacks`, `value_lacks` or
-- `updated_lacks` holds.
use Rattle.std.specs.Prelude.{◌≡◌, ◌≤◌, ◌⊎◌, ◌++◌, IfSome, ℕ, zero, suc, ◌-◌, ◌^◌, nat_lt, ◌==◌, if◌then◌else◌, List}
use Rattle.std.specs.Prelude.{[], ◌∷◌, length, take, drop, Option, None, Some, Result, Ok, Err}
use Rattle.std.specs.Int.{w64, from_be_bytes}
use Rattle.merkle_forest.specs.Codec.{Outcome, Refuses, ◌>>=◌, LacksAfter, OptionLacks}
use Rattle.merkle_forest.specs.Varint.{varint_at}
use Rattle.merkle_forest.specs.declared.codec.error.Error.{Error}
use Rattle.merkle_forest.specs.declared.codec.error.Error.TheVariants.{EndOfBuffer, InvalidBool, InvalidEnum, Invalid}
use Rattle.state_ops_parts.specs.Operation.{Operation, delete, update, commit_floor, fixed_size}

-- an item and the bytes after it, or its first fault
abbrev pub Found : Type 0 → Type 0
Found T = Result (T × List ℕ) Error

-- a reader found the item that the grammar finds and stands after it, or names its fault; the item stands there in its
-- spelling
abbrev pub ReadsAs : {T U : Type 0} → (T → U) → (T → List ℕ) → List ℕ → List ℕ → Found U → Type 0
    → Result T Error → Type 0
ReadsAs said encoding old new expected lacks (Ok item) = (expected ≡ Ok (said item, new)) × (old ≡ encoding item ++ new)
ReadsAs said encoding old new expected lacks (Err e) = Refuses lacks e expected

-- the bytes after the item alone
abbrev pub after_found : {T : Type 0} → Found T → Outcome
after_found found = found >>= λ x. Ok x.1

-- the bytes of an item, from the grammar of what stands after it
abbrev pub item_at : (List ℕ → Outcome) → List ℕ → Found (List ℕ)
item_at after bytes = after bytes >>= λ rest. Ok (take (length bytes - length rest) bytes, rest)

-- what is found, in other words
abbrev pub told : {T U : Type 0} → (T → U) → Found T → Found U
told say found = found >>= λ x. Ok (say x.0, x.1)

-- zeros alone, up to the end
abbrev pub after_zeros : List ℕ → Outcome
after_zeros [] = Ok []
after_zeros (zero ∷ bytes) = after_zeros bytes
after_zeros (suc b ∷ bytes) = Err Invalid

-- an item, and zeros alone after it
abbrev pub with_zeros : {T : Type 0} → T × List ℕ → Found T
with_zeros item = after_zeros item.1 >>= λ rest. Ok (item.0, rest)

-- after so many zeros
abbrev pub after_absent : ℕ → List ℕ → Outcome
after_absent size bytes =
    if nat_lt (length bytes) size then Err EndOfBuffer else
    (after_zeros (take size bytes) >>= λ _. Ok (drop size bytes))

-- a flag, and the metadata or as many zeros
abbrev pub fixed_metadata_at : (List ℕ → Outcome) → ℕ → List ℕ → Found (Option (List ℕ))
fixed_metadata_at value size [] = Err EndOfBuffer
fixed_metadata_at value size (zero ∷ bytes) = after_absent size bytes >>= λ rest. Ok (None, rest)
fixed_metadata_at value size (suc zero ∷ bytes) = told Some (item_at value bytes)
fixed_metadata_at value size (b ∷ bytes) = Err InvalidBool

-- a floor in eight bytes, which is at most the greatest number of operations
abbrev pub fixed_floor_at : List ℕ → Found ℕ
fixed_floor_at bytes =
    if nat_lt (length bytes) 8 then Err EndOfBuffer
    else (if nat_lt (2 ^ 62) (from_be_bytes w64 (take 8 bytes)) then Err Invalid
    else Ok (from_be_bytes w64 (take 8 bytes), drop 8 bytes))

-- metadata and a floor, of these grammars
abbrev pub commit_at : {U : Type 0} → (List ℕ → Found (Option (List ℕ))) → (List ℕ → Found ℕ)
    → List ℕ → Found (Operation U)
commit_at metadata floor bytes = metadata bytes >>= λ x. told (commit_floor x.0) (floor x.1)

-- an operation, its tag taken: a key, an update, or a commit
abbrev pub tagged_at : {U : Type 0} → (List ℕ → Outcome) → (List ℕ → Found U) → (List ℕ → Found (Operation U)) → ℕ
    → List ℕ → Found (Operation U)
tagged_at key updated commit tag bytes =
    if tag == 0xD1 then told delete (item_at key bytes)
    else (if tag == 0xD2 then told update (updated bytes)
    else (if tag == 0xD3 then commit bytes else Err (InvalidEnum tag)))

-- an operation behind its tag
abbrev pub operation_at : {U : Type 0} → (List ℕ → Outcome) → (List ℕ → Found U) → (List ℕ → Found (Operation U))
    → List ℕ → Found (Operation U)
operation_at key updated commit [] = Err EndOfBuffer
operation_at key updated commit (tag ∷ bytes) = tagged_at key updated commit tag bytes

-- an operation of the variable encoding
abbrev pub option_at : (List ℕ → Outcome) → List ℕ → Found (Option (List ℕ))
option_at value [] = Err EndOfBuffer
option_at value (zero ∷ bytes) = Ok (None, bytes)
option_at value (suc zero ∷ bytes) = told Some (item_at value bytes)
option_at value (b ∷ bytes) = Err InvalidBool

-- a floor in its shortest spelling, which is at most the greatest number of operations
abbrev pub floor_at : List ℕ → Found ℕ
floor_at bytes = varint_at bytes >>= λ x. if nat_lt (2 ^ 62) x.0 then Err Invalid else Ok x

abbrev pub variable_at : {U : Type 0} → (List ℕ → Outcome) → (List ℕ → Outcome) → (List ℕ → Found U)
    → List ℕ → Found (Operation U)
variable_at key value updated bytes = operation_at key updated (commit_at (option_at value) floor_at) bytes

-- an operation of the fixed encoding without its padding
abbrev pub unpadded_at : {U : Type 0} → (List ℕ → Outcome) → (List ℕ → Outcome) → (List ℕ → Found U) → ℕ
    → List ℕ → Found (Operation U)
unpadded_at key value updated size bytes =
    operation_at key updated (commit_at (fixed_metadata_at value size) fixed_floor_at) bytes

-- an operation and its padding, all of the bytes
abbrev pub padded_at : {U : Type 0} → (List ℕ → Outcome) → (List ℕ → Outcome) → (List ℕ → Found U) → ℕ
    → List ℕ → Found (Operation U)
padded_at key value updated size bytes =
    unpadded_at key value updated size bytes >>= with_zeros

-- an operation of the fixed encoding: the whole size is asked first
abbrev pub fixed_at : {U : Type 0} → (List ℕ → Outcome) → (List ℕ → Outcome) → (List ℕ → Found U) → ℕ → ℕ → ℕ
    → List ℕ → Found (Operation U)
fixed_at key value updated key_size value_size updated_size bytes =
    let size : ℕ = fixed_size key_size value_size updated_size in
    if nat_lt (length bytes) size then Err EndOfBuffer
    else (padded_at key value updated value_size (take size bytes) >>= λ x. Ok (x.0, drop size bytes))

abbrev pub Lacks : Type 1
Lacks = List ℕ → Type 0

-- after the key, the value and the next key of an ordered update, and after the key and the value of an unordered one
abbrev pub after_ordered : (List ℕ → Outcome) → (List ℕ → Outcome) → List ℕ → Outcome
after_ordered key value bytes = key bytes >>= value >>= key

abbrev pub after_unordered : (List ℕ → Outcome) → (List ℕ → Outcome) → List ℕ → Outcome
after_unordered key value bytes = key bytes >>= value

-- memory may be lacking for one of them
abbrev pub OrderedLacks : (List ℕ → Outcome) → (List ℕ → Outcome) → Lacks → Lacks → List ℕ → Type 0
OrderedLacks key value key_lacks value_lacks bytes =
    key_lacks bytes ⊎ LacksAfter (key bytes) (λ rest. value_lacks rest ⊎ LacksAfter (value rest) key_lacks)

abbrev pub UnorderedLacks : (List ℕ → Outcome) → Lacks → Lacks → List ℕ → Type 0
UnorderedLacks key key_lacks value_lacks bytes = key_lacks bytes ⊎ LacksAfter (key bytes) value_lacks

-- memory may be lacking for an operation, its tag taken
abbrev pub TagLacks : Lacks → Lacks → Lacks → ℕ → List ℕ → Type 0
TagLacks key_lacks value_lacks updated_lacks tag bytes =
    ((tag ≡ 0xD1) × key_lacks bytes)
    ⊎ (((tag ≡ 0xD2) × updated_lacks bytes) ⊎ ((tag ≡ 0xD3) × OptionLacks value_lacks bytes))

-- memory may be lacking for an operation behind its tag
abbrev pub OperationLacks : Lacks → Lacks → Lacks → List ℕ → Type 0
OperationLacks key_lacks value_lacks updated_lacks [] = ⊥
OperationLacks key_lacks value_lacks updated_lacks (tag ∷ bytes) =
    TagLacks key_lacks value_lacks updated_lacks tag bytes

-- memory may be lacking for the operation of the fixed size at the front, where all of it is there
abbrev pub FixedLacks : Lacks → Lacks → Lacks → ℕ → List ℕ → Type 0
FixedLacks key_lacks value_lacks updated_lacks size bytes =
    (size ≤ length bytes) × OperationLacks key_lacks value_lacks updated_lacks (take size bytes)

-- whatever follows these bytes, the grammar ends after them
abbrev pub Ends : (List ℕ → Outcome) → List ℕ → Type 0
Ends grammar bytes = (rest : List ℕ) → grammar (bytes ++ rest) ≡ Ok rest

-- whatever follows its spelling, the item is found there
abbrev pub IsFoundAs : {U : Type 0} → (List ℕ → Found U) → (U → List ℕ) → U → Type 0
IsFoundAs found spelled item = (rest : List ℕ) → found (spelled item ++ rest) ≡ Ok (item, rest)

-- an operation of such fields, and of a floor that is at most the greatest number of operations
abbrev pub HasFields : {U : Type 0} → (List ℕ → Outcome) → (List ℕ → Outcome) → (List ℕ → Found U)
    → (U → List ℕ) → Operation U → Type 0
HasFields key value updated spelled (delete k) = Ends key k
HasFields key value updated spelled (update u) = IsFoundAs updated spelled u
HasFields key value updated spelled (commit_floor metadata floor) = IfSome metadata (Ends value) × (floor ≤ 2 ^ 62)

-- whose fields have these sizes
abbrev pub HasSizes : {U : Type 0} → (U → List ℕ) → ℕ → ℕ → ℕ → Operation U → Type 0
HasSizes spelled key value updated (delete k) = length k ≡ key
HasSizes spelled key value updated (update u) = length (spelled u) ≡ updated
HasSizes spelled key value updated (commit_floor metadata floor) = IfSome metadata (λ bytes. length bytes ≡ value)
