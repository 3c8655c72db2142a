-- The bytes of a proof are read again, and stand for one proof.
use Rattle.std.proofs.Common.{◌≡◌, ℕ, ◌^◌, ◌<◌, ◌≤◌, List, ◌++◌, length, Option, Some, None, Ok, ◌∙◌, ap, append_assoc}
use Rattle.std.proofs.Common.{arith}
use Rattle.std.specs.Prelude.{IfSome}
use Rattle.merkle_forest.specs.Codec.{◌>>=◌, Outcome, option_encoding, after_fixed, after_option}
use Rattle.merkle_forest.specs.Laws.Codec.{fixed_again, option_again}
use Rattle.merkle_forest.specs.Laws.Lists.{bind_ok}
use Rattle.merkle_forest.specs.Varint.{varint, after_number}
use Rattle.merkle_forest.specs.Laws.Varint.{after_number_again, number_within}
use Rattle.merkle_theory.specs.Laws.Proofs.{proof_again, proof_within}
use Rattle.merkle_theory.specs.Proofs.{proof_encoding, after_proof}
use Rattle.state_theory.specs.Encoded.{range_proof_encoding, operation_proof_encoding, after_range_proof}
use Rattle.state_theory.specs.Encoded.{after_operation_proof, FitsRange, Fits}
use Rattle.state_theory.specs.Verified.{RangeParts, Parts}

-- how a digest and what is held of the pending one are read: any bytes of its size are a digest
pub record Grammar (digest held : List ℕ → Outcome) (IsPending : Option (List ℕ) → Type 0)
    (pending : Option (List ℕ) → List ℕ) (size : ℕ) : Type 0 where
  pub any : (bytes : List ℕ) → digest bytes ≡ after_fixed size bytes
  pub again : (d : Option (List ℕ)) (rest : List ℕ) → IsPending d → held (pending d ++ rest) ≡ Ok rest
  pub once : (d e : Option (List ℕ)) (rest more : List ℕ) → IsPending d → IsPending e
      → pending d ++ rest ≡ pending e ++ more → (d ≡ e) × (rest ≡ more)

-- the grammar of these three laws
pub grammar_of : {digest held : List ℕ → Outcome} {IsPending : Option (List ℕ) → Type 0}
    {pending : Option (List ℕ) → List ℕ} {size : ℕ}
    → ((bytes : List ℕ) → digest bytes ≡ after_fixed size bytes)
    → ((d : Option (List ℕ)) (rest : List ℕ) → IsPending d → held (pending d ++ rest) ≡ Ok rest)
    → ((d e : Option (List ℕ)) (rest more : List ℕ) → IsPending d → IsPending e
    → pending d ++ rest ≡ pending e ++ more → (d ≡ e) × (rest ≡ more))
    → Grammar digest held IsPending pending size
grammar_of any again once = record { any = any; again = again; once = once }

within_all : (v : Option (List ℕ)) → IfSome v (λ d. Unit {0})
within_all None = tt
within_all (Some d) = tt

module _ (digest held : List ℕ → Outcome) (IsPending : Option (List ℕ) → Type 0)
    (pending : Option (List ℕ) → List ℕ) (size most : ℕ)
    (grammar : Grammar digest held IsPending pending size) where
  digest_again : (d more : List ℕ) → length d ≡ size → digest (d ++ more) ≡ Ok more
  digest_again d more is = grammar.any (d ++ more) ∙ fixed_again size d more is

  -- what follows the Merkle proof is read again
  rest_again : (proof : RangeParts) (rest : List ℕ) → IsPending proof.pending
      → IfSome proof.partial (λ d. length d ≡ size)
      → length proof.operations_root ≡ size
      → (held (pending proof.pending ++ (option_encoding (λ d. d) proof.partial ++ (proof.operations_root ++ rest)))
      >>= after_option digest >>= digest) ≡ Ok rest
  rest_again proof rest is sized last =
      let root : List ℕ = proof.operations_root ++ rest in
      let partial : List ℕ = option_encoding (λ d. d) proof.partial ++ root in
      let two : after_option digest partial ≡ Ok root =
      option_again (λ d. d) digest (λ d. length d ≡ size) (λ d. Unit {0})
      (λ d more sized within. digest_again d more sized) proof.partial root sized (within_all proof.partial) in
      rw (grammar.again proof.pending partial is, two) (digest_again proof.operations_root rest last)

  range_first : (proof : RangeParts) (rest : List ℕ) → range_proof_encoding pending proof ++ rest
      ≡ proof_encoding proof.leaves proof.inactive proof.digests ++
      (pending proof.pending ++ (option_encoding (λ d. d) proof.partial ++ (proof.operations_root ++ rest)))
  range_first proof rest = simp append_assoc

  -- a proof over a range is read again
  pub range_again : (proof : RangeParts) (rest : List ℕ) → length proof.digests < 2 ^ 64
      → FitsRange IsPending size most proof
      → after_range_proof digest held most (range_proof_encoding pending proof ++ rest) ≡ Ok rest
  range_again proof rest countable fits =
      let more : List ℕ = pending proof.pending ++
      (option_encoding (λ d. d) proof.partial ++ (proof.operations_root ++ rest)) in
      rw (
        range_first proof rest,
        proof_again digest size most proof.leaves proof.inactive proof.digests more
            grammar.any fits.leaves fits.inactive countable fits.few fits.digests,
      )
      (rest_again proof rest fits.pending fits.partial fits.operations_root)

  -- so is one of one operation
  pub operation_again : (width : ℕ) (proof : Parts) (rest : List ℕ) → length proof.range.digests < 2 ^ 64
      → Fits IsPending width size most proof
      → after_operation_proof digest held width most (operation_proof_encoding pending proof ++ rest) ≡ Ok rest
  operation_again width proof rest countable fits =
      let range : List ℕ = range_proof_encoding pending proof.range ++ rest in
      let whole : operation_proof_encoding pending proof ++ rest ≡ varint proof.location ++ (proof.chunk ++ range) =
      append_assoc (varint proof.location) (proof.chunk ++ range_proof_encoding pending proof.range) rest
      ∙ ap (λ bytes. varint proof.location ++ bytes)
      (append_assoc proof.chunk (range_proof_encoding pending proof.range) rest) in
      rw (
        whole,
        after_number_again (2 ^ 62) proof.location (proof.chunk ++ range)
            (omega (arith, fits.location)) fits.location,
        fixed_again width proof.chunk range fits.chunk,
      )
      (range_again proof.range rest countable fits.range)

  -- a proof over a range that is read is within the limits of its counts
  pub range_within : (proof : RangeParts) (rest new : List ℕ) → proof.leaves < 2 ^ 64 → proof.inactive < 2 ^ 64
      → length proof.digests < 2 ^ 64
      → after_range_proof digest held most (range_proof_encoding pending proof ++ rest) ≡ Ok new
      → (proof.leaves ≤ 2 ^ 62) × (length proof.digests ≤ most)
  range_within proof rest new low small countable read =
      let more : List ℕ = pending proof.pending ++
      (option_encoding (λ d. d) proof.partial ++ (proof.operations_root ++ rest)) in
      let front : List ℕ = proof_encoding proof.leaves proof.inactive proof.digests ++ more in
      let whole : (after_proof digest most front >>= held >>= after_option digest >>= digest) ≡ Ok new =
      rw (range_first proof rest) at read in
      let three = bind_ok (after_proof digest most front >>= held >>= after_option digest) digest new whole in
      let two = bind_ok (after_proof digest most front >>= held) (after_option digest) three.0 three.1 in
      let one = bind_ok (after_proof digest most front) held two.0 two.1 in
      proof_within digest most proof.leaves proof.inactive proof.digests more one.0 low small countable one.1

  -- so is one of one operation
  pub operation_within : (width : ℕ) (proof : Parts) (rest new : List ℕ) → proof.location < 2 ^ 64
      → length proof.chunk ≡ width
      → proof.range.leaves < 2 ^ 64 → proof.range.inactive < 2 ^ 64 → length proof.range.digests < 2 ^ 64
      → after_operation_proof digest held width most (operation_proof_encoding pending proof ++ rest) ≡ Ok new
      → (proof.location ≤ 2 ^ 62) × ((proof.range.leaves ≤ 2 ^ 62) × (length proof.range.digests ≤ most))
  operation_within width proof rest new at sized low small countable read =
      let range : List ℕ = range_proof_encoding pending proof.range ++ rest in
      let whole : operation_proof_encoding pending proof ++ rest ≡ varint proof.location ++ (proof.chunk ++ range) =
      append_assoc (varint proof.location) (proof.chunk ++ range_proof_encoding pending proof.range) rest
      ∙ ap (λ bytes. varint proof.location ++ bytes)
      (append_assoc proof.chunk (range_proof_encoding pending proof.range) rest) in
      let front : List ℕ = varint proof.location ++ (proof.chunk ++ range) in
      let all : (after_number (2 ^ 62) front >>= after_fixed width >>= after_range_proof digest held most) ≡ Ok new =
      rw whole at read in
      let two = bind_ok (after_number (2 ^ 62) front >>= after_fixed width)
      (after_range_proof digest held most) new all in
      let one = bind_ok (after_number (2 ^ 62) front) (after_fixed width) two.0 two.1 in
      let few : proof.location ≤ 2 ^ 62 = number_within (2 ^ 62) proof.location (proof.chunk ++ range) one.0 at one.1 in
      let read_range : after_range_proof digest held most range ≡ Ok new =
      rw (
        after_number_again (2 ^ 62) proof.location
            (proof.chunk ++ range) at few,
        fixed_again width proof.chunk range sized,
      ) at all in
      (few, range_within proof.range rest new low small countable read_range)
