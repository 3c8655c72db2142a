-- A proof of absence that is read is within the limits.
use Rattle.std.proofs.Common.{◌≡◌, ℕ, ◌<◌, ◌^◌, List, ◌++◌, length, Option, Some, None, Ok, Err, refl, sym, ◌∙◌, ap, append_assoc}
use Rattle.std.specs.Prelude.{IfSome, option_map}
use Rattle.merkle_forest.specs.Codec.{◌>>=◌, Outcome, option_encoding, after_option}
use Rattle.state_ops_parts.specs.Grammar.{after_ordered}
use Rattle.state_proofs.specs.declared.exclusion.ExclusionProof.{ExclusionProof}
use Rattle.state_proofs.specs.declared.exclusion.ExclusionProof.TheVariants.{KeyValue, Commit}
use Rattle.state_theory.specs.Encoded.{operation_proof_encoding, after_operation_proof}
use Rattle.state_proofs.specs.Exclusion.{exclusion_encoding, after_exclusion}
use Rattle.state_proofs.specs.ExclusionCode.{form_exclusion_of, IsExclusionValue, IsExclusionWithin}
use Rattle.state_theory.specs.Laws.Encoded.{Grammar}
use Rattle.state_proofs.specs.Laws.Reading.{IsRangeValue, read_operation_fits}
use Rattle.state_proofs.specs.ProofsCode.{form_parts_of}
use Rattle.auth_store_client.specs.Claims.{Terms, FitsExclusion}

-- what is read behind something is read behind what that left
first_read : (outcome : Outcome) (after : List ℕ → Outcome) (new : List ℕ) → (outcome >>= after) ≡ Ok new
    → (more : List ℕ) × (outcome ≡ Ok more)
first_read (Ok more) after new is = (more, refl)
first_read (Err e) after new is = absurd cc

some_field : {V : Type 0} (encoding : V → List ℕ) (is_value : V → Type 0) (IsValue : List ℕ → Type 0)
    → ((v : V) → is_value v → IsValue (encoding v)) → (m : Option V) → IfSome m is_value → IfSome (option_map encoding m) IsValue
some_field encoding is_value IsValue field None value = tt
some_field encoding is_value IsValue field (Some v) value = field v value

module _ (terms : Terms) {D P : Type 0} (encoding : D → List ℕ) (is_digest : D → Type 0)
    (sized : (d : D) → is_digest d → length (encoding d) ≡ terms.format.size)
    (held : P → Option (List ℕ)) (is_held : P → Type 0)
    (holds : (p : P) → is_held p → terms.format.IsPending (held p))
    (digest after : List ℕ → Outcome)
    (grammar : Grammar digest after terms.format.IsPending terms.format.pending terms.format.size)
    {K V : Type 0} (key_encoding : K → List ℕ) (value_encoding : V → List ℕ) (is_key : K → Type 0) (is_value : V → Type 0)
    (after_key after_value : List ℕ → Outcome)
    (key_field : (k : K) → is_key k → terms.IsKey (key_encoding k))
    (value_field : (v : V) → is_value v → terms.IsValue (value_encoding v)) where
  abbrev after_proof : List ℕ → Outcome
  after_proof = after_operation_proof digest after terms.format.width terms.format.most

  pub exclusion_fits : {F E C A B : Type 0} (chunk : C → List ℕ) (p : ExclusionProof F K E D C P A V B) (rest new : List ℕ)
      → IsExclusionValue (λ q. (q.loc < 2 ^ 64) × IsRangeValue is_digest is_held q.range_proof) is_key is_value p
      → IsExclusionWithin (λ q. length (chunk q.chunk) ≡ terms.format.width) p
      → after_exclusion after_proof after_key after_value
      (exclusion_encoding terms.format.pending (form_exclusion_of chunk key_encoding value_encoding encoding held p) ++ rest) ≡ Ok new
      → FitsExclusion terms (form_exclusion_of chunk key_encoding value_encoding encoding held p)
  exclusion_fits chunk (KeyValue proof u) rest new value within read =
      let spelled : List ℕ = key_encoding u.key ++ (value_encoding u.value ++ key_encoding u.next_key) in
      let whole : List ℕ = operation_proof_encoding terms.format.pending (form_parts_of chunk encoding held proof) in
      let behind = first_read (after_proof ((whole ++ spelled) ++ rest)) (after_ordered after_key after_value) new read in (
        read_operation_fits encoding is_digest terms.format.size sized held is_held terms.format.IsPending holds digest after
            terms.format.pending grammar chunk terms.format.width terms.format.most proof (spelled ++ rest) behind.0 value.0 within
            (sym (ap after_proof (append_assoc whole spelled rest)) ∙ behind.1),
        key_field u.key value.1.0,
        value_field u.value value.1.1.0,
        key_field u.next_key value.1.1.1,
      )
  exclusion_fits chunk (Commit proof metadata) rest new value within read =
      let spelled : List ℕ = option_encoding (λ bytes. bytes) (option_map value_encoding metadata) in
      let whole : List ℕ = operation_proof_encoding terms.format.pending (form_parts_of chunk encoding held proof) in
      let behind = first_read (after_proof ((whole ++ spelled) ++ rest)) (after_option after_value) new read in (
        read_operation_fits encoding is_digest terms.format.size sized held is_held terms.format.IsPending holds digest after
            terms.format.pending grammar chunk terms.format.width terms.format.most proof (spelled ++ rest) behind.0 value.0 within
            (sym (ap after_proof (append_assoc whole spelled rest)) ∙ behind.1),
        some_field value_encoding is_value terms.IsValue value_field metadata value.1,
      )
