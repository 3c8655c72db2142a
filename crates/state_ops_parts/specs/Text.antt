-- Operations as printed. Bytes are printed in lower hexadecimal digits, two a byte; a value by the bytes that encode
-- it.
use Rattle.std.specs.Prelude.{ℕ, List, ◌++◌, codes, Option, None, Some, option_map}
use Rattle.std.specs.Fmt.{decimal}
use Rattle.hex.specs.Hex.{encode_lower}
use Rattle.state_ops_parts.specs.declared.operation.Operation as code
use Rattle.state_ops_parts.specs.declared.operation.Operation.TheVariants.{Delete, Update, CommitFloor}

-- a name, and some bytes
unfoldable pub field_text : List ℕ → List ℕ → List ℕ
field_text name bytes = name ++ encode_lower bytes

-- the value of an update, which ends it
unfoldable pub value_text : List ℕ → List ℕ
value_text value = codes " value:" ++ (encode_lower value ++ codes "]")

-- [key:H next_key:H value:H]
unfoldable pub ordered_text : List ℕ → List ℕ → List ℕ → List ℕ
ordered_text key next_key value =
    field_text (codes "[key:") key ++ (field_text (codes " next_key:") next_key ++ value_text value)

-- [key:H value:H]
unfoldable pub unordered_text : List ℕ → List ℕ → List ℕ
unordered_text key value = field_text (codes "[key:") key ++ value_text value

-- [key:H <deleted>]
unfoldable pub delete_text : List ℕ → List ℕ
delete_text key = field_text (codes "[key:") key ++ codes " <deleted>]"

-- the metadata of a commit, where it has some
unfoldable pub metadata_text : Option (List ℕ) → List ℕ
metadata_text None = codes "[commit"
metadata_text (Some metadata) = field_text (codes "[commit ") metadata

-- the floor of a commit in decimal digits, which ends it
unfoldable pub floor_text : ℕ → List ℕ
floor_text floor = codes " with inactivity floor: " ++ (decimal floor ++ codes "]")

-- [commit H with inactivity floor: N], or [commit with inactivity floor: N]
unfoldable pub commit_text : Option (List ℕ) → ℕ → List ℕ
commit_text metadata floor = metadata_text metadata ++ floor_text floor

-- an operation, given the bytes of keys, how values are encoded and what updates print
abbrev pub operation_text : {F S A B C D E G : Type 0} → (A → List ℕ) → (B → List ℕ) → (S → Option (List ℕ))
    → code.Operation F S A B C D E G → Option (List ℕ)
operation_text key value update (Delete k) = Some (delete_text (key k))
operation_text key value update (Update u) = update u
operation_text key value update (CommitFloor metadata floor) = Some (commit_text (option_map value metadata) floor)
