-- The canonical root as a witness and a proof in the operations' tree lead to it, and the strings that are hashed on
-- the way.
use Rattle.std.specs.Prelude.{ℕ, List, option_map}
use Rattle.merkle_forest.specs.declared.bagging.Bagging.TheVariants.{BackwardFold}
use Rattle.merkle_forest.specs.Made.{Made, bytes, Strings, strings}
use Rattle.merkle_theory.specs.MadeTrees.{plain_over}
use Rattle.merkle_theory.specs.Reads.{range_root}
use Rattle.state_theory.specs.Canonical.{Setting}
use Rattle.state_theory.specs.MadeCanonical.{if_made, canonical_made}
use Rattle.state_theory.specs.MadeStates.{operations_names}
use Rattle.auth_store_client.specs.Slices.{SliceParts}

-- the canonical root over the root of the operations' tree, as a witness leads to it
abbrev pub slice_over : SliceParts → Made → Made
slice_over slice operations = canonical_made (record {
  operations = operations;
  grafted = bytes slice.witness.grafted_root;
  pending_chunk = option_map (λ digest. bytes digest) slice.witness.pending;
  partial_chunk = option_map (λ x. (x.0, bytes x.1)) slice.witness.partial;
})

-- the strings that are hashed when the operations' tree is rebuilt from a proof and encoded operations, and the
-- canonical root over it
abbrev pub slice_strings : Setting → SliceParts → ℕ → List (List ℕ) → Strings
slice_strings setting slice start operations =
    strings setting.hash (if_made (option_map (slice_over slice)
    (range_root operations_names plain_over BackwardFold setting.rule slice.leaves slice.inactive start operations
    slice.digests)))
