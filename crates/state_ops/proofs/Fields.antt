-- The keys and the values of an operation of the code whose keys and values are such.
use Rattle.std.proofs.Common.{ℕ, List, None, Some, Result, Ok, Err}
use Rattle.std.specs.Prelude.{IfOk}
use Rattle.state_ops_parts.specs.Operation.{IsValue}
use Rattle.state_ops_parts.specs.declared.operation.Operation.TheVariants.{Delete, Update, CommitFloor}
use Rattle.state_ops.specs.Operation.{Code, meaning_of}
use Rattle.state_ops.specs.Reading.{IsOfFields}

pub is_of_fields : {F K V A B C D E G H : Type 0} (key_of : K → List ℕ) (value_of : V → List ℕ) (Key : K → Type 0) (Value : V → Type 0)
    (IsKey HasValue : List ℕ → Type 0) (key_field : (k : K) → Key k → IsKey (key_of k))
    (value_field : (v : V) → Value v → HasValue (value_of v)) (o : Code F K V A B C D E G H)
    → IsValue Key Value (λ u. Key u.key × (Value u.value × Key u.next_key)) o → IsOfFields IsKey HasValue (meaning_of key_of value_of o)
is_of_fields key_of value_of Key Value IsKey HasValue key_field value_field (Delete k) is = key_field k is
is_of_fields key_of value_of Key Value IsKey HasValue key_field value_field (Update u) is =
    (key_field u.key is.0, (value_field u.value is.1.0, key_field u.next_key is.1.1))
is_of_fields key_of value_of Key Value IsKey HasValue key_field value_field (CommitFloor None floor) is = (tt, is.1)
is_of_fields key_of value_of Key Value IsKey HasValue key_field value_field (CommitFloor (Some v) floor) is = (value_field v is.0, is.1)

-- so those of one that is read
pub all_of_fields : {F K V A B C D E G H X : Type 0} (key_of : K → List ℕ) (value_of : V → List ℕ) (Key : K → Type 0) (Value : V → Type 0)
    (IsKey HasValue : List ℕ → Type 0) (key_field : (k : K) → Key k → IsKey (key_of k))
    (value_field : (v : V) → Value v → HasValue (value_of v)) (result : Result (Code F K V A B C D E G H) X)
    → IfOk result (IsValue Key Value (λ u. Key u.key × (Value u.value × Key u.next_key)))
    → IfOk result (λ o. IsOfFields IsKey HasValue (meaning_of key_of value_of o))
all_of_fields key_of value_of Key Value IsKey HasValue key_field value_field (Ok o) is =
    is_of_fields key_of value_of Key Value IsKey HasValue key_field value_field o is
all_of_fields key_of value_of Key Value IsKey HasValue key_field value_field (Err e) is = tt
