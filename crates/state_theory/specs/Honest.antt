-- The honest proofs of a state, and their bytes.
use Rattle.std.specs.Prelude.{ℕ, ◌+◌, ◌/◌, List, length, take, drop, Option}
use Rattle.merkle_forest.specs.declared.bagging.Bagging.TheVariants.{BackwardFold}
use Rattle.merkle_theory.specs.Ranges.{range_digests}
use Rattle.state_theory.specs.Canonical.{Setting, State, chunk_bits, chunk, peaks, grafted_digests}
use Rattle.state_theory.specs.Canonical.{grafted_inactive}
use Rattle.state_theory.specs.Canonical.{operations_root, pending_digest, partial_digest}
use Rattle.state_theory.specs.Encoded.{operation_proof_encoding, key_value_proof_encoding}
use Rattle.state_theory.specs.Verified.{RangeParts, Parts}

-- the digests that lead from the operations from `start` up to `stop` to the grafted root
unfoldable pub grafted_range : Setting → State → ℕ → ℕ → List (List ℕ)
grafted_range setting state start stop =
    let inactive = grafted_inactive setting state in
    range_digests setting.hash (grafted_digests setting state) BackwardFold start stop
    (take inactive (peaks setting state)) (drop inactive (peaks setting state))

-- what the honest proof over the operations from `start` up to `stop` holds
abbrev pub honest_range : Setting → State → ℕ → ℕ → RangeParts
honest_range setting state start stop = record {
  leaves = length state.operations;
  inactive = grafted_inactive setting state;
  digests = grafted_range setting state start stop;
  pending = pending_digest setting state;
  partial = partial_digest setting state;
  operations_root = operations_root setting state;
}

-- what the honest proof of the operation at a location holds
abbrev pub honest_parts : Setting → State → ℕ → Parts
honest_parts setting state location = record {
  location = location;
  chunk = chunk setting state (location / chunk_bits setting);
  range = honest_range setting state location (location + 1);
}

-- the honest bytes are the encoding of the honest parts
abbrev pub operation_proof : (Option (List ℕ) → List ℕ) → Setting → State → ℕ → List ℕ
operation_proof pending setting state location = operation_proof_encoding pending (honest_parts setting state location)

-- so are those of the proof of an update, and the next key that it names
abbrev pub key_value_proof : (Option (List ℕ) → List ℕ) → Setting → State → ℕ → List ℕ → List ℕ
key_value_proof pending setting state location next_key =
    key_value_proof_encoding pending (honest_parts setting state location) next_key
