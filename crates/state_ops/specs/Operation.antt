-- Ordered operations and their fixed encoding. A key or a value is its own encoding, a list of bytes.
use Rattle.std.specs.Prelude.{ℕ, ◌+◌, List, ◌++◌}
use Rattle.state_ops_parts.specs.Operation as all
use Rattle.state_ops_parts.specs.declared.operation.Operation as code
use Rattle.state_ops_parts.specs.declared.update.ordered.Ordered as code_update
pub use Rattle.state_ops_parts.specs.Operation.{delete, update, commit_floor}

-- what an ordered update says: key, value and next key
pub data Update : Type 0 where
  ordered : List ℕ → List ℕ → List ℕ → Update

-- what an operation over such updates says
abbrev pub Operation : Type 0
Operation = all.Operation Update

-- what an update of the code says, given how its keys and its values are encoded
abbrev pub fields_of : {K E V C D : Type 0} → (K → List ℕ) → (V → List ℕ) → code_update.Ordered K E C V D → Update
fields_of key value u = ordered (key u.key) (value u.value) (key u.next_key)

-- an operation of the code over such updates
abbrev pub Code : (F K V A B C D E G H : Type 0) → Type 0
Code F K V A B C D E G H = code.Operation F (code_update.Ordered K E C V D) K V A B G H

-- what it says
abbrev pub meaning_of : {F K V A B C D E G H : Type 0} → (K → List ℕ) → (V → List ℕ)
    → Code F K V A B C D E G H → Operation
meaning_of key value operation = all.meaning_of key value (fields_of key value) operation

-- the encoding of an update
abbrev pub spelled : Update → List ℕ
spelled (ordered k v next) = k ++ (v ++ next)

-- the one size of all operations in bytes, from the sizes of keys and of values
abbrev pub fixed_size : ℕ → ℕ → ℕ
fixed_size key value = all.fixed_size key value (key + value + key)

-- an operation without its padding
abbrev pub unpadded : ℕ → Operation → List ℕ
unpadded value operation = all.unpadded spelled value operation

-- an operation's fixed encoding
abbrev pub fixed_encoding : ℕ → ℕ → Operation → List ℕ
fixed_encoding key value operation = all.fixed_encoding spelled key value (key + value + key) operation
