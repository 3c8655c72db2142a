use Rattle.std.proofs.Common.{◌<◌, ℕ, List, inl, ⊎_elim, inr, refl, ◌∙◌, subst, arith}
use Rattle.std.proofs.lemmas.List.{length-map}
use Rattle.std.proofs.lemmas.Nat.{pow_pos}
use Rattle.merkle_forest.specs.Codec.{Outcome}
use Rattle.state_ops.specs.Operation.{fixed_encoding}
use Rattle.state_theory.specs.MadeRanges.{HasDigestsOf}
use Rattle.auth_store_parts.specs.History.{log_of}
use Rattle.auth_store_client.specs.Claims.{Terms, terms, shown_of}
use Rattle.auth_store_client.specs.States.{grafting_height, setting_of_width, state_of_history}
use Rattle.auth_store_client.specs.Laws.Widths.{width_is_whole}
use Rattle.auth_store_client.proofs.SoundRanges.{range_true}
use Rattle.auth_store_client.proofs.laws.shown_ranges_are_true_or_strings_collide.Goals as goal

pub returns : goal.returns
returns g c history start operations active bytes size is_width alone few shown =
    let key_size : ℕ = g.K.FixedSize.SIZE in
    let value_size : ℕ = g.V.FixedSize.SIZE in
    let key : List ℕ → Outcome = g.K.Read.after tt in
    let value : List ℕ → Outcome = g.V.Read.after tt in
    let those : Terms = terms g.F.Family.merge_rule g.H.HashFunction.hash_of g.row.N g.H.Digest.FixedSize.SIZE g.F.PendingOf.is_pending
    g.F.PendingOf.pending_encoding key value key_size value_size in
    let whole = width_is_whole g.row.N is_width in
    let some : 0 < g.row.N = omega (arith, whole.0, pow_pos (grafting_height g.row.N)) in
    let digests : HasDigestsOf 32 shown.proof =
    subst (λ (n : ℕ). HasDigestsOf n shown.proof) size (record {
      digests = shown.fits.digests;
      pending = g.met.F.PendingOf.pending_sized shown.proof.pending shown.fits.pending;
      partial = shown.fits.partial;
      operations_root = shown.fits.operations_root;
    }) in
    ⊎_elim
    (λ has. inl (range_true key_size value_size (setting_of_width g.F.Family.merge_rule g.H.HashFunction.hash_of g.row.N) history start
    operations active shown.chunks some alone shown.proof.leaves shown.verifies.shaped has shown.bits))
    inr
    (c.verified_ranges_are_the_states_or_strings_collide.ensures g.H.HashFunction.hash_of g.row.N (grafting_height g.row.N)
    (state_of_history key_size value_size history) shown.proof (shown_of those start operations shown.chunks)
    (λ xs. g.met.H.HashFunction.sized xs ∙ size) whole.0 whole.1
    (omega (arith, length-map (log_of history) (fixed_encoding key_size value_size), few)) refl digests shown.verifies)
