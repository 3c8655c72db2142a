-- A proof of absence is read again.
use Rattle.std.proofs.Common.{◌≡◌, ℕ, ◌^◌, ◌<◌, List, ◌++◌, length, Option, Some, None, Ok, refl}
use Rattle.std.specs.Prelude.{IfSome, option_map}
use Rattle.merkle_forest.specs.Codec.{Outcome, option_encoding, after_option}
use Rattle.state_ops_parts.specs.Grammar.{after_ordered}
use Rattle.state_ops_parts.specs.Laws.Updates.{three_again}
use Rattle.state_proofs.specs.declared.operation.Proof.{Proof}
use Rattle.state_proofs.specs.declared.exclusion.ExclusionProof.{ExclusionProof}
use Rattle.state_proofs.specs.declared.exclusion.ExclusionProof.TheVariants.{KeyValue, Commit}
use Rattle.state_proofs.specs.Exclusion.{exclusion_encoding, after_absence, after_exclusion}
use Rattle.state_proofs.specs.ExclusionCode.{form_exclusion_of, IsExclusionValue, IsExclusionWithin, IsAbsenceWithin}
use Rattle.state_theory.specs.Forms.{after_form}
use Rattle.state_theory.specs.Told.{Told}
use Rattle.state_theory.specs.Laws.Encoded.{Grammar}
use Rattle.state_proofs.specs.Laws.Reading.{IsFormWithin, IsRangeValue, read_key_value_again}

metadata_again : {V : Type 0} (encoding : V → List ℕ) (is_value within : V → Type 0) (after : List ℕ → Outcome)
    → ((v : V) (more : List ℕ) → is_value v → within v → after (encoding v ++ more) ≡ Ok more)
    → (m : Option V) (rest : List ℕ) → IfSome m is_value → IfSome m within
    → after_option after (option_encoding (λ bytes. bytes) (option_map encoding m) ++ rest) ≡ Ok rest
metadata_again encoding is_value within after again None rest value small = refl
metadata_again encoding is_value within after again (Some v) rest value small = again v rest value small

-- where each key and each value may be read
no_limits : {F K E D C P A V B : Type 0} (is_within : Proof F D C P → Type 0) (p : ExclusionProof F K E D C P A V B)
    → IsExclusionWithin is_within p
    → IsAbsenceWithin is_within (λ _. Unit {0}) (λ _. Unit {0}) (λ _. Unit {0}) p
no_limits is_within (KeyValue proof u) within = (within, (tt, (tt, tt)))
no_limits is_within (Commit proof None) within = (within, tt)
no_limits is_within (Commit proof (Some v)) within = (within, tt)

module _ {D P : Type 0} (encoding : D → List ℕ) (is_digest : D → Type 0) (size : ℕ)
    (sized : (d : D) → is_digest d → length (encoding d) ≡ size)
    (held : P → Option (List ℕ)) (is_held : P → Type 0) (IsPending : Option (List ℕ) → Type 0)
    (holds : (p : P) → is_held p → IsPending (held p))
    (digest after : List ℕ → Outcome)
    (pending : Option (List ℕ) → List ℕ) (grammar : Grammar digest after IsPending pending size)
    {K V : Type 0} (key_encoding : K → List ℕ) (value_encoding : V → List ℕ)
    (is_key : K → Type 0) (is_value : V → Type 0) where
  abbrev IsValue : {F E C A B : Type 0} → ExclusionProof F K E D C P A V B → Type 0
  IsValue p = IsExclusionValue (λ q. (q.loc < 2 ^ 64) × IsRangeValue is_digest is_held q.range_proof) is_key is_value p

  abbrev encoded : {F E C A B : Type 0} → (C → List ℕ) → ExclusionProof F K E D C P A V B → List ℕ
  encoded chunk p = exclusion_encoding pending (form_exclusion_of chunk key_encoding value_encoding encoding held p)

  -- what is read within its limits is read again
  pub absence_again : {F E C A B : Type 0} (after_key after_value after_metadata : List ℕ → Outcome)
      (key_within : K → Type 0) (value_within metadata_within : V → Type 0)
      → ((k : K) (more : List ℕ) → is_key k → key_within k → after_key (key_encoding k ++ more) ≡ Ok more)
      → ((v : V) (more : List ℕ) → is_value v → value_within v → after_value (value_encoding v ++ more) ≡ Ok more)
      → ((v : V) (more : List ℕ) → is_value v → metadata_within v → after_metadata (value_encoding v ++ more) ≡ Ok more)
      → (chunk : C → List ℕ) (told : Told) (p : ExclusionProof F K E D C P A V B) (rest : List ℕ)
      → IsValue p → IsAbsenceWithin (λ q. IsFormWithin chunk told q) key_within value_within metadata_within p
      → after_absence (after_form digest after told) (after_ordered after_key after_value) after_metadata
      (encoded chunk p ++ rest) ≡ Ok rest
  absence_again after_key after_value after_metadata key_within value_within metadata_within key_again value_again
      again chunk told (KeyValue proof u) rest value within =
      read_key_value_again encoding is_digest size sized held is_held IsPending holds digest after pending grammar chunk
      told (after_ordered after_key after_value) proof
      (key_encoding u.key ++ (value_encoding u.value ++ key_encoding u.next_key)) rest value.0 within.0
      (three_again after_key after_value (key_encoding u.key) (value_encoding u.value) (key_encoding u.next_key) rest
      (λ more. key_again u.key more value.1.0 within.1.0) (λ more. value_again u.value more value.1.1.0 within.1.1.0)
      (λ more. key_again u.next_key more value.1.1.1 within.1.1.1))
  absence_again after_key after_value after_metadata key_within value_within metadata_within key_again value_again
      again chunk told (Commit proof metadata) rest value within =
      read_key_value_again encoding is_digest size sized held is_held IsPending holds digest after pending grammar chunk
      told (after_option after_metadata) proof (option_encoding (λ bytes. bytes) (option_map value_encoding metadata))
      rest value.0 within.0
      (metadata_again value_encoding is_value metadata_within after_metadata again metadata rest value.1 within.1)

  -- so where there are none on keys and on values
  pub exclusion_again : {F E C A B : Type 0} (after_key after_value : List ℕ → Outcome)
      → ((k : K) (more : List ℕ) → is_key k → after_key (key_encoding k ++ more) ≡ Ok more)
      → ((v : V) (more : List ℕ) → is_value v → after_value (value_encoding v ++ more) ≡ Ok more)
      → (chunk : C → List ℕ) (told : Told) (p : ExclusionProof F K E D C P A V B) (rest : List ℕ)
      → IsValue p → IsExclusionWithin (λ q. IsFormWithin chunk told q) p
      → after_exclusion (after_form digest after told) after_key after_value (encoded chunk p ++ rest) ≡ Ok rest
  exclusion_again after_key after_value key_again value_again chunk told p rest value within =
      absence_again after_key after_value after_value (λ _. Unit {0}) (λ _. Unit {0}) (λ _. Unit {0})
      (λ k more is _. key_again k more is) (λ v more is _. value_again v more is) (λ v more is _. value_again v more is)
      chunk told p rest value (no_limits (λ q. IsFormWithin chunk told q) p within)
