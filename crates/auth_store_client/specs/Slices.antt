-- What bytes hold that show operations without their bits: a witness of the root of the operations' tree, and a proof
-- in this tree.
use Rattle.std.specs.Prelude.{◌≡◌, ℕ, ◌^◌, ◌<◌, ◌≤◌, List, ◌++◌, length, Option, Some, IfSome}
use Rattle.std.specs.List.{All}
use Rattle.merkle_forest.specs.Codec.{◌>>=◌, Outcome}
use Rattle.merkle_forest.specs.Forest.{Rule}
use Rattle.merkle_forest.specs.Hashing.{Hash}
use Rattle.merkle_theory.specs.Proofs.{proof_encoding, after_proof}
use Rattle.state_theory.specs.LogProofs.{log_root}
use Rattle.state_proofs.specs.Witness.{WitnessParts, witness_encoding, witnessed_string, after_witness}

-- the witness, and the parts of the Merkle proof
pub record SliceParts : Type 0 where
  pub witness : WitnessParts
  pub leaves : ℕ
  pub inactive : ℕ
  pub digests : List (List ℕ)

-- the witness, and the proof after it
abbrev pub slice_encoding : (Option (List ℕ) → List ℕ) → SliceParts → List ℕ
slice_encoding pending slice =
    witness_encoding pending slice.witness ++ proof_encoding slice.leaves slice.inactive slice.digests

-- The bytes after these, or their first fault: there are up to `most` digests; `digest` and `pending` are the grammars
-- of a digest and of what is held of the pending one.
abbrev pub after_slice : (List ℕ → Outcome) → (List ℕ → Outcome) → ℕ → List ℕ → Outcome
after_slice digest pending most bytes = after_witness digest pending bytes >>= after_proof digest most

-- the parts are within the limits: a digest has `size` bytes, and there are up to `most`
pub record FitsSlice (IsPending : Option (List ℕ) → Type 0) (size most : ℕ) (slice : SliceParts) : Type 0 where
  pub grafted_root : length slice.witness.grafted_root ≡ size
  pub pending : IsPending slice.witness.pending
  pub partial : IfSome slice.witness.partial (λ x. (x.0 < 2 ^ 64) × (length x.1 ≡ size))
  pub leaves : slice.leaves ≤ 2 ^ 62
  pub inactive : slice.inactive < 2 ^ 64
  pub few : length slice.digests ≤ most
  pub digests : All (λ digest. length digest ≡ size) slice.digests

-- the parts show, under this canonical root, that the encoded operations stand from the location on: the proof leads
-- from them to a root of the operations' tree, and the witness from there to the canonical one
pub record VerifiesSlice (rule : Rule) (hash : Hash) (root : List ℕ) (slice : SliceParts) (start : ℕ)
    (operations : List (List ℕ)) : Type 0 where
  pub operations_root : List ℕ
  pub leads : log_root rule hash slice.leaves slice.inactive start operations slice.digests ≡ Some operations_root
  pub seals : hash (witnessed_string slice.witness operations_root) ≡ root
