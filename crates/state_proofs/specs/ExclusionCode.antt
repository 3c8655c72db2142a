-- Proofs of absence, as the code holds them.
use Rattle.std.specs.Prelude.{ℕ, List, Option, option_map, IfSome}
use Rattle.state_proofs.specs.declared.operation.Proof.{Proof}
use Rattle.state_proofs.specs.declared.exclusion.ExclusionProof.{ExclusionProof}
use Rattle.state_proofs.specs.declared.exclusion.ExclusionProof.TheVariants.{KeyValue, Commit}
use Rattle.state_proofs.specs.Exclusion.{ExclusionParts, by_update, by_commit}
use Rattle.state_proofs.specs.ProofsCode.{form_parts_of}

-- what a proof of absence holds, from the bytes of a chunk, a key, a value and a digest and the digest that is held as
-- the pending one
abbrev pub form_exclusion_of : {F K E D C P A V B : Type 0} → (C → List ℕ) → (K → List ℕ) → (V → List ℕ) → (D → List ℕ)
    → (P → Option (List ℕ)) → ExclusionProof F K E D C P A V B → ExclusionParts
form_exclusion_of chunk key value digest held (KeyValue proof u) =
    by_update (form_parts_of chunk digest held proof) (key u.key) (value u.value) (key u.next_key)
form_exclusion_of chunk key value digest held (Commit proof metadata) =
    by_commit (form_parts_of chunk digest held proof) (option_map value metadata)

-- a proof of absence of values, from those of operations' proofs, keys and values
abbrev pub IsExclusionValue : {F K E D C P A V B : Type 0} → (Proof F D C P → Type 0) → (K → Type 0) → (V → Type 0)
    → ExclusionProof F K E D C P A V B → Type 0
IsExclusionValue is_proof is_key is_value (KeyValue proof u) =
    is_proof proof × (is_key u.key × (is_value u.value × is_key u.next_key))
IsExclusionValue is_proof is_key is_value (Commit proof metadata) = is_proof proof × IfSome metadata is_value

-- one whose proof of an operation is read under limits
abbrev pub IsExclusionWithin : {F K E D C P A V B : Type 0} → (Proof F D C P → Type 0)
    → ExclusionProof F K E D C P A V B → Type 0
IsExclusionWithin is_within (KeyValue proof u) = is_within proof
IsExclusionWithin is_within (Commit proof metadata) = is_within proof

-- so, and whose keys, value and metadata are, too
abbrev pub IsAbsenceWithin : {F K E D C P A V B : Type 0} → (Proof F D C P → Type 0) → (K → Type 0) → (V → Type 0)
    → (V → Type 0) → ExclusionProof F K E D C P A V B → Type 0
IsAbsenceWithin is_within is_key is_value is_metadata (KeyValue proof u) =
    is_within proof × (is_key u.key × (is_value u.value × is_key u.next_key))
IsAbsenceWithin is_within is_key is_value is_metadata (Commit proof metadata) =
    is_within proof × IfSome metadata is_metadata
