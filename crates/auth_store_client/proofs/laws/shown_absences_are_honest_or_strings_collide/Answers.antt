use Rattle.std.proofs.Common.{◌≡◌, ◌≤◌, ◌^◌, ℕ, List, length, inl, ⊎_elim, inr, ◌∙◌, ap, subst, arith}
use Rattle.std.proofs.lemmas.List.{length-map}
use Rattle.state_ops.specs.Operation.{fixed_encoding}
use Rattle.state_theory.specs.Canonical.{Setting, State}
use Rattle.state_proofs.specs.Exclusion.{proof_of, operation_of, exclusion_encoding}
use Rattle.state_theory.specs.MadeRanges.{HasActive, HasDigestsOf}
use Rattle.auth_store_client.specs.Claims.{Terms, terms}
use Rattle.auth_store_client.specs.Laws.Widths.{width_is_whole}
use Rattle.auth_store_client.specs.States.{grafting_height, setting_of_width, state_of_history}
use Rattle.auth_store_parts.specs.History.{log_of}
use Rattle.auth_store_client.proofs.HonestAbsences.{named, fits_of, named_fields, named_is, parts_honest}
use Rattle.auth_store_client.proofs.laws.shown_absences_are_honest_or_strings_collide.Goals as goal

pub returns : goal.returns
returns g c history key bytes size is_width sound shown =
    let key_size : ℕ = g.K.FixedSize.SIZE in
    let value_size : ℕ = g.V.FixedSize.SIZE in
    let hash = g.H.HashFunction.hash_of in
    let state : State = state_of_history key_size value_size history in
    let setting : Setting = setting_of_width g.F.Family.merge_rule hash g.row.N in
    let those : Terms = terms g.F.Family.merge_rule hash g.row.N g.H.Digest.FixedSize.SIZE g.F.PendingOf.is_pending g.F.PendingOf.pending_encoding
    (g.K.Read.after tt) (g.V.Read.after tt) key_size value_size in
    let whole = width_is_whole g.row.N is_width in
    let fits = fits_of those shown.proof shown.fits in
    let proof = proof_of shown.proof in
    let operation : List ℕ = operation_of key_size value_size shown.proof in
    let small : length state.operations ≤ 2 ^ 62 =
    omega (arith, length-map (log_of history) (fixed_encoding key_size value_size), sound.few) in
    let hash_sized : (xs : List ℕ) → length (hash xs) ≡ 32 = λ xs. g.met.H.HashFunction.sized xs ∙ size in
    let digests : HasDigestsOf 32 proof.range =
    subst (λ (n : ℕ). HasDigestsOf n proof.range) size (record {
      digests = fits.range.digests;
      pending = g.met.F.PendingOf.pending_sized proof.range.pending fits.range.pending;
      partial = fits.range.partial;
      operations_root = fits.range.operations_root;
    }) in
    ⊎_elim
    (λ active. ⊎_elim
    (λ honest. inl (shown.is ∙ ap (exclusion_encoding g.F.PendingOf.pending_encoding)
    (parts_honest setting key_size value_size history sound.states key shown.proof
    (c.sound_histories_are_read_again.ensures.alone history (named shown.proof) sound (named_fields those shown.proof shown.fits))
    (subst (HasActive state proof.location) (named_is key_size value_size shown.proof) active) shown.excludes.leaves_out honest)))
    inr
    (c.verified_operations_are_honest_or_strings_collide.ensures hash g.row.N (grafting_height g.row.N) state proof operation hash_sized
    whole.0 whole.1 small fits.chunk digests shown.excludes.verifies))
    inr
    (c.verified_operations_are_active_or_strings_collide.ensures hash g.row.N (grafting_height g.row.N) state proof operation hash_sized
    whole.0 whole.1 small fits.chunk digests shown.excludes.verifies)
