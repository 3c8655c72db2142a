-- What bytes hold that show operations without their bits, as the code holds it.
use Rattle.std.specs.Prelude.{ℕ, List, map, Option}
use Rattle.state_proofs.specs.Witness.{witness_of}
use Rattle.auth_store_client.specs.Slices.{SliceParts}
use Rattle.auth_store_client.specs.declared.slice.Slice.{Slice}

-- the parts, from the bytes of a digest and the digest that is held as the pending one
abbrev pub slice_of : {F D P : Type 0} → (D → List ℕ) → (P → Option (List ℕ)) → Slice F D P → SliceParts
slice_of digest held slice = record {
  witness = witness_of digest held slice.witness;
  leaves = slice.proof.leaves;
  inactive = slice.proof.inactive_peaks;
  digests = map digest slice.proof.digests.items;
}
