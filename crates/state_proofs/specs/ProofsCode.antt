-- Proofs, as the code holds them.
use Rattle.std.specs.Prelude.{ℕ, List, Option, map, option_map}
use Rattle.std.specs.declared.alloc.Global.{Global}
use Rattle.std.specs.declared.vec.Vec.{Vec}
use Rattle.state_proofs.specs.declared.operation.Proof.{Proof}
use Rattle.state_proofs.specs.declared.proof.RangeProof.{RangeProof}
use Rattle.state_theory.specs.Verified.{RangeParts, Parts}

-- what a proof over a range holds, from the bytes of a digest and the digest that is held as the pending one
abbrev pub range_parts_of : {F D P : Type 0} → (D → List ℕ) → (P → Option (List ℕ)) → RangeProof F D P → RangeParts
range_parts_of digest held proof = record {
  leaves = proof.proof.leaves;
  inactive = proof.proof.inactive_peaks;
  digests = map digest proof.proof.digests.items;
  pending = held proof.pending_chunk_digest;
  partial = option_map digest proof.partial_chunk_digest;
  operations_root = digest proof.ops_root;
}

-- what a proof of one operation holds, from the bytes of its chunk, too
abbrev pub form_parts_of : {F D C P : Type 0} → (C → List ℕ) → (D → List ℕ) → (P → Option (List ℕ))
    → Proof F D C P → Parts
form_parts_of chunk digest held proof = record {
  location = proof.loc;
  chunk = chunk proof.chunk;
  range = range_parts_of digest held proof.range_proof;
}

-- one whose chunk is a vector of bytes
abbrev pub parts_of : {F D P : Type 0} → (D → List ℕ) → (P → Option (List ℕ)) → Proof F D (Vec ℕ Global) P → Parts
parts_of digest held proof = form_parts_of (λ chunk. chunk.items) digest held proof
