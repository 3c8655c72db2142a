-- The honest witness of a state and the honest proof in its tree of operations are within the limits of a slice.
use Rattle.std.proofs.Common.{◌≡◌, ℕ, ◌+◌, ◌*◌, ◌^◌, ◌<◌, ◌≤◌, List}
use Rattle.std.proofs.Common.{[], length, take, drop, Option, Some, None, refl, sym, subst, arith}
use Rattle.std.specs.Prelude.{IfSome, option_map, slice_index_or}
use Rattle.std.proofs.Math.Nat.{div-add-mod}
use Rattle.merkle_forest.specs.declared.bagging.Bagging.TheVariants.{BackwardFold}
use Rattle.merkle_forest.specs.Forest.{leaf, branch, leaf_count, forest_of}
use Rattle.merkle_forest.specs.Hashing.{Hash, leaf_string, node_string, root_of}
use Rattle.merkle_forest.specs.Laws.Trees.{length-located}
use Rattle.merkle_forest.specs.Perfect.{IsPairing}
use Rattle.merkle_forest.specs.Trees.{plain_digest, tree_root}
use Rattle.merkle_core_parts.specs.Laws.Plain.{digest-plain}
use Rattle.merkle_core_parts.specs.Mem.{plain_leaf_digests, plain_node, tree_digest}
use Rattle.merkle_theory.specs.Laws.MadeRoots.{peak_count}
use Rattle.merkle_theory.specs.Laws.Sized.{AreSized, IsSized, Gives, range_sized}
use Rattle.merkle_theory.specs.MadeRoots.{peaks_of}
use Rattle.merkle_theory.specs.Plans.{honest_digests}
use Rattle.merkle_theory.specs.Ranges.{Digests}
use Rattle.state_theory.specs.Canonical.{Setting, State, next_bit, chunk_bits, grafted_root, operations_root, partial_digest}
use Rattle.state_theory.specs.Laws.FewDigests.{AreFew, ranges_are_few}
use Rattle.state_theory.specs.Laws.HonestSizes.{MayHold, may_hold, partial_of_size}
use Rattle.state_proofs.specs.Witness.{honest_witness}
use Rattle.auth_store_client.specs.Proving.{log_inactive, log_digests}
use Rattle.auth_store_client.specs.Slices.{SliceParts, FitsSlice}
use Rattle.auth_store_client.proofs.SameDigests.{range_same}
use Rattle.auth_store_client.proofs.SoundSlices.{inactive_few}

-- what the honest bytes of a slice hold
abbrev pub honest_slice : Setting → State → ℕ → ℕ → SliceParts
honest_slice setting state start stop = record {
  witness = honest_witness setting state;
  leaves = length state.operations;
  inactive = log_inactive setting state;
  digests = log_digests setting state start stop;
}

pub root_is : (setting : Setting) (state : State)
    → operations_root setting state ≡ tree_root setting.hash BackwardFold setting.rule state.operations (log_inactive setting state)
unfolding operations_root
root_is setting state = refl

pub peaks_enough : (setting : Setting) (state : State) → log_inactive setting state ≤ length (peaks_of setting.rule (length state.operations))
peaks_enough setting state = inactive_few state.floor (peaks_of setting.rule (length state.operations))

plain_sized : (size : ℕ) (hash : Hash) (elements : List (List ℕ)) → IsSized size hash → Gives size (plain_digest hash elements)
plain_sized size hash elements sized at (leaf p) = sized (leaf_string p (slice_index_or elements at []))
plain_sized size hash elements sized at (branch p left right) =
    sized (node_string p (plain_digest hash elements at left) (plain_digest hash elements (at + leaf_count left) right))

next_sized : (size n : ℕ) (partial : Option (List ℕ)) → n < 2 ^ 64 → IfSome partial (λ digest. length digest ≡ size)
    → IfSome (option_map {U = ℕ × List ℕ} (λ digest. (n, digest)) partial) (λ x. (x.0 < 2 ^ 64) × (length x.1 ≡ size))
next_sized size n None low is = tt
next_sized size n (Some d) low is = (low, is)

module _ (setting : Setting) (state : State) (pairs : IsPairing setting.rule) (few : length state.operations ≤ 2 ^ 62) where
  abbrev total : ℕ
  total = length state.operations

  abbrev held : Digests
  held = tree_digest (plain_node setting.hash) (plain_leaf_digests setting.hash setting.rule 0 state.operations)

  -- the digests are the plain ones
  pub plainly : (start stop : ℕ) → log_digests setting state start stop
      ≡ honest_digests setting.hash (plain_digest setting.hash state.operations) BackwardFold setting.rule total (log_inactive setting state) start stop
  plainly start stop =
      range_same held (plain_digest setting.hash state.operations) (forest_of setting.rule total)
      (λ first tree stands. digest-plain setting.hash setting.rule pairs state.operations first tree stands) setting.hash start stop
      (log_inactive setting state)

  inactive_within : log_inactive setting state ≤ length (forest_of setting.rule total)
  inactive_within = omega (
    arith,
    inactive_few state.floor (peaks_of setting.rule total),
    length-located (forest_of setting.rule total),
  )

  digests_few : (start stop : ℕ) → AreFew setting.rule → start < stop → stop ≤ total → length (log_digests setting state start stop) ≤ 244
  digests_few start stop law some within =
      ranges_are_few setting.rule law setting.hash held total (log_inactive setting state) start stop few some within inactive_within

  grafted_sized : (size : ℕ) → IsSized size setting.hash → length (grafted_root setting state) ≡ size
  unfolding grafted_root root_of
  grafted_sized size sized = sized _

  pub slice_fits : (start stop size : ℕ) (IsPending : Option (List ℕ) → Type 0) → IsSized size setting.hash → AreFew setting.rule
      → IsPending None → MayHold setting.rule IsPending size → 0 < setting.width → 8 * setting.width ≡ 2 ^ setting.grafting_height
      → setting.grafting_height ≤ 62 → start < stop → stop ≤ total → FitsSlice IsPending size 244 (honest_slice setting state start stop)
  slice_fits start stop size IsPending sized law none held wide whole low some within =
      let inactive : ℕ = log_inactive setting state in
      record {
        grafted_root = grafted_sized size sized;
        pending = may_hold setting state size IsPending sized none held whole low few;
        partial = next_sized size (next_bit setting state) (partial_digest setting state)
            (omega (arith, few, div-add-mod total (chunk_bits setting))) (partial_of_size size setting state sized);
        leaves = few;
        inactive = omega (arith, few, inactive_few state.floor (peaks_of setting.rule total), peak_count setting.rule pairs total);
        few = digests_few start stop law some within;
        digests = subst (AreSized size) (sym (plainly start stop))
            (range_sized size setting.hash (plain_digest setting.hash state.operations) BackwardFold start stop
            (take inactive (peaks_of setting.rule total)) (drop inactive (peaks_of setting.rule total)) sized
            (plain_sized size setting.hash state.operations sized));
      }
