-- Claims, as the code holds them.
use Rattle.std.specs.Prelude.{ℕ, List, map}
use Rattle.state_ops.specs.Operation.{meaning_of}
use Rattle.auth_store_client.specs.Claims.{Claim, has_value, is_absent, is_active, has_range, has_slice}
use Rattle.auth_store_client.specs.declared.claim.Claim as code
use Rattle.auth_store_client.specs.declared.claim.Claim.TheVariants.{Value, Absent, Active, Range, Slice}

-- what a claim of the code says, given how its keys and its values are encoded
abbrev pub claim_of : {F K V : Type 0} → (K → List ℕ) → (V → List ℕ) → code.Claim F K V → Claim
claim_of key value (Value k v) = has_value (key k) (value v)
claim_of key value (Absent k) = is_absent (key k)
claim_of key value (Active location operation) = is_active location (meaning_of key value operation)
claim_of key value (Range start operations active) =
    has_range start (map (meaning_of key value) operations.items) active.items
claim_of key value (Slice start operations) = has_slice start (map (meaning_of key value) operations.items)
