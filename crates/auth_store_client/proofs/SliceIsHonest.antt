-- What shows operations without their bits is the honest slice, where the root that it leads to agrees with the state's.
use Rattle.std.proofs.Common.{◌≡◌, ℕ, ◌+◌, ◌<◌, ◌≤◌, ◌^◌, List, length, map, Option, Some, None, sym, ◌∙◌, ap}
use Rattle.std.specs.Prelude.{IfSome}
use Rattle.std.proofs.lemmas.List.{length-map}
use Rattle.merkle_forest.specs.declared.bagging.Bagging.TheVariants.{BackwardFold}
use Rattle.merkle_forest.specs.Perfect.{IsPairing}
use Rattle.merkle_forest.specs.Trees.{plain_digest}
use Rattle.merkle_theory.specs.HonestReads.{ReadsHonestly}
use Rattle.merkle_theory.specs.Laws.HonestReads.{read_at, plain_made, plain_children}
use Rattle.merkle_theory.specs.Laws.MadeTrees.{AllSized}
use Rattle.merkle_theory.specs.MadeTrees.{whole, plain_over}
use Rattle.state_ops.specs.Operation.{Operation, fixed_encoding}
use Rattle.state_theory.specs.Canonical.{Setting, State}
use Rattle.state_theory.specs.MadeStates.{operations_names}
use Rattle.state_proofs.specs.Witness.{WitnessParts, honest_witness}
use Rattle.auth_store_client.specs.Proving.{log_inactive, log_digests, slice_bytes}
use Rattle.auth_store_client.specs.Slices.{SliceParts, slice_encoding}
use Rattle.auth_store_client.proofs.HonestSlices.{honest_slice, plainly}
use Rattle.auth_store_client.proofs.SoundSlices.{SliceTold}

-- a number that is within the limits
pub partial_low : (size : ℕ) (held : Option (ℕ × List ℕ)) → IfSome held (λ x. (x.0 < 2 ^ 64) × (length x.1 ≡ size))
    → IfSome held (λ x. x.0 < 2 ^ 64)
partial_low size None is = tt
partial_low size (Some x) is = is.0

abbrev parts_of : WitnessParts → ℕ → ℕ → List (List ℕ) → SliceParts
parts_of witness leaf_total inactive digests = record { witness = witness; leaves = leaf_total; inactive = inactive; digests = digests }

module _ (setting : Setting) (hash_sized : (xs : List ℕ) → length (setting.hash xs) ≡ 32) (pairs : IsPairing setting.rule) (state : State)
    (few : length state.operations ≤ 2 ^ 62) (slice : SliceParts) (start : ℕ) (elements : List (List ℕ)) (sized : AllSized 32 slice.digests)
    (told : SliceTold setting hash_sized pairs state few slice start elements sized) where
  digests_are : ReadsHonestly setting.rule → slice.digests ≡ log_digests setting state start (start + length elements)
  digests_are law =
      read_at setting.hash operations_names plain_over plain_over BackwardFold (plain_digest setting.hash state.operations) (whole state.operations)
      setting.rule (length state.operations) (log_inactive setting state) slice.leaves slice.inactive start elements slice.digests told.made law
      (plain_made setting.hash state.operations) (plain_children setting.hash) told.is told.tells.leaf_count told.tells.inactive_count told.agrees
      ∙ sym (plainly setting state pairs few start (start + length elements))

  slice_is_honest : ReadsHonestly setting.rule → slice.witness ≡ honest_witness setting state
      → slice ≡ honest_slice setting state start (start + length elements)
  slice_is_honest law witness_is =
      ap (λ w. parts_of w slice.leaves slice.inactive slice.digests) witness_is
      ∙ ap (λ n. parts_of (honest_witness setting state) n slice.inactive slice.digests) told.tells.leaf_count
      ∙ ap (λ n. parts_of (honest_witness setting state) (length state.operations) n slice.digests) told.tells.inactive_count
      ∙ ap (parts_of (honest_witness setting state) (length state.operations) (log_inactive setting state)) (digests_are law)

-- so its bytes are the honest ones
pub bytes_of_slice : (pending : Option (List ℕ) → List ℕ) (setting : Setting) (hash_sized : (xs : List ℕ) → length (setting.hash xs) ≡ 32)
    (pairs : IsPairing setting.rule) (state : State) (few : length state.operations ≤ 2 ^ 62) (slice : SliceParts) (key_size value_size start : ℕ)
    (operations : List Operation) (bytes : List ℕ) (sized : AllSized 32 slice.digests)
    → SliceTold setting hash_sized pairs state few slice start (map (fixed_encoding key_size value_size) operations) sized
    → ReadsHonestly setting.rule → slice.witness ≡ honest_witness setting state → bytes ≡ slice_encoding pending slice
    → bytes ≡ slice_bytes pending setting state start (start + length operations)
bytes_of_slice pending setting hash_sized pairs state few slice key_size value_size start operations bytes sized told law witness_is is =
    let encodings : List (List ℕ) = map (fixed_encoding key_size value_size) operations in
    is ∙ ap (slice_encoding pending) (slice_is_honest setting hash_sized pairs state few slice start encodings sized told law witness_is)
    ∙ ap (λ n. slice_bytes pending setting state start (start + n)) (length-map operations (fixed_encoding key_size value_size))
