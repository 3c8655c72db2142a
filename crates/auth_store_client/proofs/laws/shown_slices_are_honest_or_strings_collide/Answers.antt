use Rattle.std.proofs.Common.{◌≡◌, ◌≤◌, ◌^◌, ℕ, List, length, map, inl, ⊎_elim, inr, ◌∙◌, subst, arith}
use Rattle.std.specs.List.{All}
use Rattle.std.proofs.lemmas.List.{length-map}
use Rattle.merkle_theory.specs.Laws.MadeTrees.{AllSized, all_sized}
use Rattle.state_ops.specs.Operation.{fixed_encoding}
use Rattle.state_theory.specs.Canonical.{Setting, State}
use Rattle.state_proofs.specs.Witness.{HasWitnessOf, honest_witness}
use Rattle.auth_store_parts.specs.History.{log_of}
use Rattle.auth_store_client.specs.States.{setting_of_width, state_of_history}
use Rattle.auth_store_client.proofs.SliceIsHonest.{partial_low, bytes_of_slice}
use Rattle.auth_store_client.proofs.SoundSlices.{slice_told, partial_sized}
use Rattle.auth_store_client.proofs.laws.shown_slices_are_honest_or_strings_collide.Goals as goal

pub returns : goal.returns
returns g c history start operations bytes size few shown =
    let key_size : ℕ = g.K.FixedSize.SIZE in
    let value_size : ℕ = g.V.FixedSize.SIZE in
    let setting : Setting = setting_of_width g.F.Family.merge_rule g.H.HashFunction.hash_of g.row.N in
    let pairs = g.met.F.Family.merges_equals in
    let state : State = state_of_history key_size value_size history in
    let slice = shown.slice in
    let held : HasWitnessOf 32 slice.witness =
    subst (λ (n : ℕ). HasWitnessOf n slice.witness) size (record {
      grafted_root = shown.fits.grafted_root;
      pending = g.met.F.PendingOf.pending_sized slice.witness.pending shown.fits.pending;
      partial = partial_sized g.H.Digest.FixedSize.SIZE slice.witness.partial shown.fits.partial;
    }) in
    let hash_sized : (xs : List ℕ) → length (g.H.HashFunction.hash_of xs) ≡ 32 = λ xs. g.met.H.HashFunction.sized xs ∙ size in
    let small : length state.operations ≤ 2 ^ 62 = omega (arith, length-map (log_of history) (fixed_encoding key_size value_size), few) in
    let sized : AllSized 32 slice.digests =
    all_sized 32 slice.digests (subst (λ (n : ℕ). All (λ digest. length digest ≡ n) slice.digests) size shown.fits.digests) in
    ⊎_elim
    (λ both. inl (bytes_of_slice g.F.PendingOf.pending_encoding setting hash_sized pairs state small slice key_size value_size start operations bytes
    sized both.0 c.proofs_that_agree_with_a_root_are_honest.ensures both.1 shown.is))
    inr
    (slice_told setting hash_sized pairs state small slice start (map (fixed_encoding key_size value_size) operations) sized
    (slice.witness ≡ honest_witness setting state)
    (λ root root_sized seals. ⊎_elim
    (λ is. ⊎_elim (λ honest. inl (is, honest)) inr
    (c.verified_witnesses_are_honest_or_strings_collide.ensures setting state slice.witness root hash_sized small held
    (partial_low g.H.Digest.FixedSize.SIZE slice.witness.partial shown.fits.partial) root_sized seals))
    inr (c.witnessed_roots_are_the_states_or_strings_collide.ensures setting state slice.witness root hash_sized held root_sized seals))
    shown.verifies)
