-- Bytes of a proof that is the honest one are the honest bytes.
use Rattle.std.proofs.Common.{◌≡◌, ℕ, ◌+◌, List, length, map, Option, ◌∙◌, ap, subst}
use Rattle.std.specs.Prelude.{IfSome}
use Rattle.std.proofs.lemmas.List.{length-map}
use Rattle.state_ops.specs.Operation.{Operation, fixed_encoding}
use Rattle.state_theory.specs.Canonical.{Setting, State}
use Rattle.state_theory.specs.Encoded.{FitsRange, operation_proof_encoding}
use Rattle.state_theory.specs.Honest.{honest_range, honest_parts, operation_proof}
use Rattle.state_theory.specs.MadeRanges.{HasDigestsOf}
use Rattle.state_theory.specs.Verified.{Parts, RangeParts}
use Rattle.auth_store_client.specs.Claims.{range_encoding}
use Rattle.auth_store_client.specs.Proving.{chunks_over, range_bytes}

-- what is within the limits has digests of their size
pub digests_of : (IsPending : Option (List ℕ) → Type 0) (size most : ℕ) (proof : RangeParts) → size ≡ 32
    → ((held : Option (List ℕ)) → IsPending held → IfSome held (λ digest. length digest ≡ size)) → FitsRange IsPending size most proof
    → HasDigestsOf 32 proof
digests_of IsPending size most proof is sized fits =
    subst (λ (n : ℕ). HasDigestsOf n proof) is (record {
      digests = fits.digests;
      pending = sized proof.pending fits.pending;
      partial = fits.partial;
      operations_root = fits.operations_root;
    })

module _ (pending : Option (List ℕ) → List ℕ) (setting : Setting) (state : State) where
  pub operation_bytes : (location : ℕ) (proof : Parts) (bytes : List ℕ) → bytes ≡ operation_proof_encoding pending proof
      → proof ≡ honest_parts setting state proof.location → proof.location ≡ location → bytes ≡ operation_proof pending setting state location
  operation_bytes location proof bytes is honest at =
      is ∙ ap (operation_proof_encoding pending) honest ∙ ap (operation_proof pending setting state) at

  pub bytes_of_range : (key_size value_size start : ℕ) (operations : List Operation) (proof : RangeParts) (chunks : List (List ℕ)) (bytes : List ℕ)
      → let stop = start + length (map (fixed_encoding key_size value_size) operations) in
      bytes ≡ range_encoding pending proof chunks → proof ≡ honest_range setting state start stop → chunks ≡ chunks_over setting state start stop
      → bytes ≡ range_bytes pending setting state start (start + length operations)
  bytes_of_range key_size value_size start operations proof chunks bytes is honest over =
      let encodings : List (List ℕ) = map (fixed_encoding key_size value_size) operations in
      is ∙ ap (λ p. range_encoding pending p chunks) honest
      ∙ ap (range_encoding pending (honest_range setting state start (start + length encodings))) over
      ∙ ap (λ n. range_bytes pending setting state start (start + n)) (length-map operations (fixed_encoding key_size value_size))
