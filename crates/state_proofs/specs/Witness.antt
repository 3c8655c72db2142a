-- What leads from the root of the operations' tree to the canonical one.
use Rattle.std.specs.Prelude.{◌≡◌, ℕ, ◌^◌, ◌<◌, List, ◌++◌, length, Option, None, Some, option_map, IfSome}
use Rattle.merkle_forest.specs.Codec.{◌>>=◌, Outcome, option_encoding, after_option}
use Rattle.merkle_forest.specs.Made.{Made, bytes}
use Rattle.merkle_forest.specs.Varint.{varint, after_varint}
use Rattle.state_proofs.specs.declared.witness.OpsRootWitness.{OpsRootWitness}
use Rattle.state_theory.specs.Canonical.{Setting, State, next_bit, grafted_root, pending_digest, partial_digest}
use Rattle.state_theory.specs.Canonical.{canonical_string}
use Rattle.state_theory.specs.MadeCanonical.{canonical_made}

-- the grafted root, the digest of the pending chunk if any, and the next bit and the digest of the partial chunk if any
pub record WitnessParts : Type 0 where
  pub grafted_root : List ℕ
  pub pending : Option (List ℕ)
  pub partial : Option (ℕ × List ℕ)

-- what a witness of the code holds
abbrev pub witness_of : {F D P : Type 0} → (D → List ℕ) → (P → Option (List ℕ)) → OpsRootWitness F D P → WitnessParts
witness_of digest held witness = record {
  grafted_root = digest witness.grafted_root;
  pending = held witness.pending_chunk_digest;
  partial = option_map (λ x. (x.0, digest x.1)) witness.partial_chunk;
}

-- the next bit, which counts only where there is a partial chunk
abbrev pub next_of : Option (ℕ × List ℕ) → ℕ
next_of None = 0
next_of (Some x) = x.0

-- the canonical string over this root of the operations' tree
abbrev pub witnessed_string : WitnessParts → List ℕ → List ℕ
witnessed_string witness operations =
    canonical_string operations witness.grafted_root witness.pending (next_of witness.partial)
    (option_map (λ x. x.1) witness.partial)

-- the next bit as a varint, and the digest
abbrev pub next_encoding : ℕ × List ℕ → List ℕ
next_encoding x = varint x.0 ++ x.1

-- grafted root, pending digest as the family encodes it, and next bit and partial digest if any
abbrev pub witness_encoding : (Option (List ℕ) → List ℕ) → WitnessParts → List ℕ
witness_encoding pending witness =
    witness.grafted_root ++ (pending witness.pending ++ option_encoding next_encoding witness.partial)

-- the bytes after a witness, or its first fault; `digest` and `pending` are the grammars of a digest and of what is
-- held of the pending one
abbrev pub after_next : (List ℕ → Outcome) → List ℕ → Outcome
after_next digest front = after_varint front >>= digest

abbrev pub after_witness : (List ℕ → Outcome) → (List ℕ → Outcome) → List ℕ → Outcome
after_witness digest pending front = digest front >>= pending >>= after_option (after_next digest)

-- the next bit is a number of the code
abbrev pub HasNext : {D : Type 0} → (D → Type 0) → Option (ℕ × D) → Type 0
HasNext is_value partial = IfSome partial (λ x. (x.0 < 2 ^ 64) × is_value x.1)

-- the honest witness of a state
abbrev pub honest_witness : Setting → State → WitnessParts
honest_witness setting state = record {
  grafted_root = grafted_root setting state;
  pending = pending_digest setting state;
  partial = option_map (λ digest. (next_bit setting state, digest)) (partial_digest setting state);
}

-- the canonical root as a witness leads to it
abbrev pub witnessed_made : WitnessParts → List ℕ → Made
witnessed_made witness operations = canonical_made (record {
  operations = bytes operations;
  grafted = bytes witness.grafted_root;
  pending_chunk = option_map (λ digest. bytes digest) witness.pending;
  partial_chunk = option_map (λ x. (x.0, bytes x.1)) witness.partial;
})

-- its digests have this size
pub record HasWitnessOf (size : ℕ) (witness : WitnessParts) : Type 0 where
  pub grafted_root : length witness.grafted_root ≡ size
  pub pending : IfSome witness.pending (λ digest. length digest ≡ size)
  pub partial : IfSome witness.partial (λ x. length x.1 ≡ size)
