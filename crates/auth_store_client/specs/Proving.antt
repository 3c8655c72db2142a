-- The honest bytes that prove what a history holds: a key's value, an operation that is active, operations with their
-- activity bits, and operations alone.
use Rattle.std.specs.Prelude.{ℕ, ◌+◌, ◌-◌, ◌/◌, List, ◌++◌, length, take, drop, Option}
use Rattle.std.specs.List.{flat_map}
use Rattle.merkle_forest.specs.declared.bagging.Bagging.TheVariants.{BackwardFold}
use Rattle.merkle_forest.specs.Trees.{inactive_peaks}
use Rattle.merkle_core_parts.specs.Mem.{plain_leaf_digests, plain_node, tree_digest}
use Rattle.merkle_theory.specs.MadeRoots.{peaks_of}
use Rattle.merkle_theory.specs.Plans.{honest_digests}
use Rattle.merkle_theory.specs.Proofs.{proof_encoding}
use Rattle.state_theory.specs.Canonical.{Setting, State, chunk_bits, chunks}
use Rattle.state_theory.specs.Encoded.{range_proof_encoding}
use Rattle.state_theory.specs.Honest.{honest_range, key_value_proof, operation_proof}
use Rattle.state_proofs.specs.Witness.{honest_witness, witness_encoding}
use Rattle.auth_store_parts.specs.Map.{next_key}
use Rattle.auth_store_parts.specs.History.{History, latest_map, log_of, active_location}
use Rattle.auth_store_client.specs.States.{state_of_history}

-- The honest bytes that prove a key of the latest state: the proof of its active update, with its next key. A family
-- encodes its pending digest by `pending`; keys and values have these sizes.
abbrev pub honest_proof : (Option (List ℕ) → List ℕ) → Setting → ℕ → ℕ → History → List ℕ → List ℕ
honest_proof pending setting key_size value_size history key =
    key_value_proof pending setting (state_of_history key_size value_size history)
    (active_location key (log_of history)) (next_key (latest_map history) key)

-- those that prove the operation at a location of the log active
abbrev pub honest_operation : (Option (List ℕ) → List ℕ) → Setting → ℕ → ℕ → History → ℕ → List ℕ
honest_operation pending setting key_size value_size history location =
    operation_proof pending setting (state_of_history key_size value_size history) location

-- the chunks with the activity bits of the operations from `start` up to `stop`, of which there is one
abbrev pub chunks_over : Setting → State → ℕ → ℕ → List (List ℕ)
chunks_over setting state start stop =
    let first = start / chunk_bits setting in
    take ((stop - 1) / chunk_bits setting + 1 - first) (drop first (chunks setting state))

-- those that prove the operations from `start` up to `stop` of a state, and their bits: the proof over them, and the
-- chunks over them
abbrev pub range_bytes : (Option (List ℕ) → List ℕ) → Setting → State → ℕ → ℕ → List ℕ
range_bytes pending setting state start stop =
    range_proof_encoding pending (honest_range setting state start stop)
    ++ flat_map (λ chunk. chunk) (chunks_over setting state start stop)

abbrev pub honest_range_bytes : (Option (List ℕ) → List ℕ) → Setting → ℕ → ℕ → History → ℕ → ℕ → List ℕ
honest_range_bytes pending setting key_size value_size history start stop =
    range_bytes pending setting (state_of_history key_size value_size history) start stop

-- the inactive peaks of a state's tree of operations, and the digests that lead from the operations from `start` up to
-- `stop` to its root
abbrev pub log_inactive : Setting → State → ℕ
log_inactive setting state = inactive_peaks state.floor (peaks_of setting.rule (length state.operations))

abbrev pub log_digests : Setting → State → ℕ → ℕ → List (List ℕ)
log_digests setting state start stop =
    honest_digests setting.hash
    (tree_digest (plain_node setting.hash) (plain_leaf_digests setting.hash setting.rule 0 state.operations))
    BackwardFold
    setting.rule (length state.operations) (log_inactive setting state) start stop

-- those that prove that the operations from `start` up to `stop` of a state stand there: the witness of the root of its
-- tree of operations, and the proof over them in that tree
abbrev pub slice_bytes : (Option (List ℕ) → List ℕ) → Setting → State → ℕ → ℕ → List ℕ
slice_bytes pending setting state start stop =
    witness_encoding pending (honest_witness setting state)
    ++ proof_encoding (length state.operations) (log_inactive setting state) (log_digests setting state start stop)

abbrev pub honest_slice_bytes : (Option (List ℕ) → List ℕ) → Setting → ℕ → ℕ → History → ℕ → ℕ → List ℕ
honest_slice_bytes pending setting key_size value_size history start stop =
    slice_bytes pending setting (state_of_history key_size value_size history) start stop
