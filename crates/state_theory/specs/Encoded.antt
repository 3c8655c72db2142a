-- How proofs are encoded and read, and what bytes show.
use Rattle.std.specs.Prelude.{◌≡◌, ℕ, ◌^◌, ◌<◌, ◌≤◌, ◌⊎◌, List, ◌++◌, length, Option, IfSome}
use Rattle.std.specs.List.{All}
use Rattle.merkle_forest.specs.Codec.{◌>>=◌, Outcome, LacksAfter, option_encoding, after_fixed, after_option}
use Rattle.merkle_forest.specs.Forest.{Rule}
use Rattle.merkle_forest.specs.Hashing.{Hash}
use Rattle.merkle_forest.specs.Varint.{varint, after_number}
use Rattle.merkle_theory.specs.Proofs.{proof_encoding, after_proof, ProofLacks}
use Rattle.state_theory.specs.Verified.{RangeParts, Parts, Verifies}

-- Merkle proof, pending digest as the family encodes it, partial digest if any, and root of the operations' tree
abbrev pub range_proof_encoding : (Option (List ℕ) → List ℕ) → RangeParts → List ℕ
range_proof_encoding pending proof =
    proof_encoding proof.leaves proof.inactive proof.digests
    ++ (pending proof.pending ++ (option_encoding (λ digest. digest) proof.partial ++ proof.operations_root))

-- location, chunk, and the proof over the one operation
abbrev pub operation_proof_encoding : (Option (List ℕ) → List ℕ) → Parts → List ℕ
operation_proof_encoding pending proof =
    varint proof.location ++ (proof.chunk ++ range_proof_encoding pending proof.range)

-- the proof of an update, and the next key that it names
abbrev pub key_value_proof_encoding : (Option (List ℕ) → List ℕ) → Parts → List ℕ → List ℕ
key_value_proof_encoding pending proof next_key = operation_proof_encoding pending proof ++ next_key

-- The bytes after a proof, or its first fault: a chunk has `width` bytes, and there are up to `most` digests; `digest`,
-- `pending` and `key` are the grammars of a digest, of what is held of the pending one, and of a key.
abbrev pub after_range_proof : (List ℕ → Outcome) → (List ℕ → Outcome) → ℕ → List ℕ → Outcome
after_range_proof digest pending most bytes =
    after_proof digest most bytes >>= pending >>= after_option digest >>= digest

abbrev pub after_operation_proof : (List ℕ → Outcome) → (List ℕ → Outcome) → ℕ → ℕ → List ℕ → Outcome
after_operation_proof digest pending width most bytes =
    after_number (2 ^ 62) bytes >>= after_fixed width >>= after_range_proof digest pending most

abbrev pub after_key_value_proof : (List ℕ → Outcome) → (List ℕ → Outcome) → (List ℕ → Outcome) → ℕ → ℕ → List ℕ
    → Outcome
after_key_value_proof digest pending key width most bytes =
    after_operation_proof digest pending width most bytes >>= key

-- memory may be lacking for the chunk, as its form says, and for the digests of a proof
abbrev pub OperationProofLacks : (List ℕ → Type 0) → ℕ → ℕ → List ℕ → Type 0
OperationProofLacks chunk width most bytes = LacksAfter (after_number (2 ^ 62) bytes)
    (λ rest. chunk rest ⊎ LacksAfter (after_fixed width rest) (ProofLacks most))

-- How the proofs of a store are hashed and encoded: how a tree grows, how strings are hashed, how many bytes a chunk
-- and a digest have, how many digests a proof may have, which pending digests it may hold and how they are encoded, and
-- which bytes are a key.
pub record Format : Type 1 where
  pub rule : Rule
  pub hash : Hash
  pub width : ℕ
  pub size : ℕ
  pub most : ℕ
  pub IsPending : Option (List ℕ) → Type 0
  pub pending : Option (List ℕ) → List ℕ
  pub IsKey : List ℕ → Type 0

-- the format of a family's trees, a hash function, chunks of `width` bytes and digests of `size`, of which a proof has
-- up to 122
abbrev pub format_of : Rule → Hash → ℕ → ℕ → (Option (List ℕ) → Type 0) → (Option (List ℕ) → List ℕ) → (List ℕ → Type 0)
    → Format
format_of rule hash width size IsPending pending IsKey = record {
  rule = rule;
  hash = hash;
  width = width;
  size = size;
  most = 122;
  IsPending = IsPending;
  pending = pending;
  IsKey = IsKey;
}

-- the parts are within the limits of a proof over a range: a digest has `size` bytes, and there are up to `most`
pub record FitsRange (IsPending : Option (List ℕ) → Type 0) (size most : ℕ) (proof : RangeParts) : Type 0 where
  pub leaves : proof.leaves ≤ 2 ^ 62
  pub inactive : proof.inactive < 2 ^ 64
  pub few : length proof.digests ≤ most
  pub digests : All (λ digest. length digest ≡ size) proof.digests
  pub pending : IsPending proof.pending
  pub partial : IfSome proof.partial (λ digest. length digest ≡ size)
  pub operations_root : length proof.operations_root ≡ size

-- the parts are within the limits of a proof of one operation: a chunk has `width` bytes
pub record Fits (IsPending : Option (List ℕ) → Type 0) (width size most : ℕ) (proof : Parts) : Type 0 where
  pub location : proof.location ≤ 2 ^ 62
  pub chunk : length proof.chunk ≡ width
  pub range : FitsRange IsPending size most proof.range

-- the bytes are those of a proof within the limits, which shows the encoded operation active under this root
pub record ShowsOperation (format : Format) (root operation bytes : List ℕ) : Type 0 where
  pub proof : Parts
  pub is : bytes ≡ operation_proof_encoding format.pending proof
  pub fits : Fits format.IsPending format.width format.size format.most proof
  pub verifies : Verifies format.rule format.hash root proof operation

-- the bytes are those of a proof within the limits and of a next key, which show the update active under this root;
-- `update` gives its encoding from the next key
pub record ShowsUpdate (format : Format) (root : List ℕ) (update : List ℕ → List ℕ) (bytes : List ℕ) : Type 0 where
  pub proof : Parts
  pub next_key : List ℕ
  pub is : bytes ≡ key_value_proof_encoding format.pending proof next_key
  pub fits : Fits format.IsPending format.width format.size format.most proof
  pub key : format.IsKey next_key
  pub verifies : Verifies format.rule format.hash root proof (update next_key)
