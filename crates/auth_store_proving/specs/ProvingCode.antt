-- What an answered proof says, as the code holds it.
use Rattle.std.specs.Prelude.{ℕ, List, Option, option_map}
use Rattle.std.specs.declared.alloc.Global.{Global}
use Rattle.std.specs.declared.vec.Vec.{Vec}
use Rattle.auth_store_parts.specs.History as history
use Rattle.state_ops.specs.Operation.{meaning_of}
use Rattle.auth_store_proving.specs.Proving.{KeyAnswer, proved_value, proved_absent, OperationAnswer, RangeAnswer}
use Rattle.auth_store_proving.specs.Proving.{SliceAnswer}
use Rattle.auth_store_proving.specs.declared.ranges.ProvedOperation.{ProvedOperation}
use Rattle.auth_store_proving.specs.declared.ranges.ProvedRange.{ProvedRange}
use Rattle.auth_store_proving.specs.declared.ranges.ProvedSlice.{ProvedSlice}
use Rattle.auth_store_proving.specs.declared.key.KeyProof.{KeyProof}
use Rattle.auth_store_proving.specs.declared.key.KeyProof.TheVariants.{Value, Absent}

-- given how a value is encoded
abbrev pub key_answer_of : {V : Type 0} → (V → List ℕ) → KeyProof V → KeyAnswer
key_answer_of encoding (Value value bytes) = proved_value (encoding value) bytes.items
key_answer_of encoding (Absent bytes) = proved_absent bytes.items

-- a value with the bytes that prove it, given how a value is encoded
abbrev pub found_of : {V : Type 0} → (V → List ℕ) → Option (V × Vec ℕ Global) → Option (List ℕ × List ℕ)
found_of encoding found = option_map {U = List ℕ × List ℕ} (λ proved. (encoding proved.0, proved.1.items)) found

-- given how a key and a value are encoded
abbrev pub operation_answer_of : {F K V : Type 0} → (K → List ℕ) → (V → List ℕ) → ProvedOperation F K V
    → OperationAnswer
operation_answer_of key value proved = record {
  operation = meaning_of key value proved.operation;
  bytes = proved.bytes.items;
}

abbrev pub range_answer_of : {F K V : Type 0} → (K → List ℕ) → (V → List ℕ) → ProvedRange F K V → RangeAnswer
range_answer_of key value proved = record {
  operations = history.meanings key value proved.operations.items;
  active = proved.active.items;
  bytes = proved.bytes.items;
}

abbrev pub slice_answer_of : {F K V : Type 0} → (K → List ℕ) → (V → List ℕ) → ProvedSlice F K V → SliceAnswer
slice_answer_of key value proved = record {
  operations = history.meanings key value proved.operations.items;
  bytes = proved.bytes.items;
}
