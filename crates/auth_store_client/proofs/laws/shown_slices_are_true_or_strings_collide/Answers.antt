use Rattle.std.proofs.Common.{◌≡◌, ℕ, List, length, map, inl, ⊎_elim, inr, ◌∙◌, subst, arith}
use Rattle.std.specs.List.{All}
use Rattle.std.proofs.lemmas.List.{length-map}
use Rattle.merkle_theory.specs.Laws.MadeTrees.{all_sized}
use Rattle.state_ops.specs.Operation.{fixed_encoding}
use Rattle.state_theory.specs.Canonical.{Setting, State}
use Rattle.state_proofs.specs.Witness.{HasWitnessOf}
use Rattle.auth_store_parts.specs.History.{log_of}
use Rattle.auth_store_client.specs.States.{setting_of_width, state_of_history}
use Rattle.auth_store_client.proofs.SoundRanges.{slice_true}
use Rattle.auth_store_client.proofs.SoundSlices.{slice_is_true, partial_sized}
use Rattle.auth_store_client.proofs.laws.shown_slices_are_true_or_strings_collide.Goals as goal

pub returns : goal.returns
returns g c history start operations bytes size alone few shown =
    let key_size : ℕ = g.K.FixedSize.SIZE in
    let value_size : ℕ = g.V.FixedSize.SIZE in
    let setting : Setting = setting_of_width g.F.Family.merge_rule g.H.HashFunction.hash_of g.row.N in
    let state : State = state_of_history key_size value_size history in
    let witness = shown.slice.witness in
    let fits = shown.fits in
    let held : HasWitnessOf 32 witness =
    subst (λ (n : ℕ). HasWitnessOf n witness) size (record {
      grafted_root = fits.grafted_root;
      pending = g.met.F.PendingOf.pending_sized witness.pending fits.pending;
      partial = partial_sized g.H.Digest.FixedSize.SIZE witness.partial fits.partial;
    }) in
    let hash_sized : (xs : List ℕ) → length (g.H.HashFunction.hash_of xs) ≡ 32 = λ xs. g.met.H.HashFunction.sized xs ∙ size in
    ⊎_elim
    (λ stands. inl (slice_true key_size value_size history start operations alone stands.0 stands.1))
    inr
    (slice_is_true setting hash_sized g.met.F.Family.merges_equals state
    (omega (arith, length-map (log_of history) (fixed_encoding key_size value_size), few)) shown.slice start
    (map (fixed_encoding key_size value_size) operations)
    (all_sized 32 shown.slice.digests (subst (λ (n : ℕ). All (λ digest. length digest ≡ n) shown.slice.digests) size fits.digests))
    (λ root root_sized seals. c.witnessed_roots_are_the_states_or_strings_collide.ensures setting state witness root hash_sized held root_sized seals)
    shown.verifies)
