use Rattle.std.proofs.Common.{ℕ, List, inl, ⊎_elim, inr, ◌∙◌, subst, arith}
use Rattle.std.proofs.lemmas.List.{length-map}
use Rattle.merkle_forest.specs.Codec.{Outcome}
use Rattle.state_ops.specs.Operation.{fixed_encoding}
use Rattle.state_proofs.specs.Exclusion.{proof_of}
use Rattle.state_theory.specs.MadeRanges.{HasDigestsOf}
use Rattle.auth_store_parts.specs.History.{log_of}
use Rattle.auth_store_client.specs.Claims.{Terms, terms}
use Rattle.auth_store_client.specs.States.{grafting_height, state_of_history}
use Rattle.auth_store_client.specs.Laws.Widths.{width_is_whole}
use Rattle.auth_store_client.proofs.Absent.{absent, fields_of, fits_of}
use Rattle.auth_store_client.proofs.laws.shown_absences_are_true_or_strings_collide.Goals as goal

pub returns : goal.returns
returns g c history asked bytes size is_width states all few shown =
    let key_size : ℕ = g.K.FixedSize.SIZE in
    let value_size : ℕ = g.V.FixedSize.SIZE in
    let key : List ℕ → Outcome = g.K.Read.after tt in
    let value : List ℕ → Outcome = g.V.Read.after tt in
    let those : Terms = terms g.F.Family.merge_rule g.H.HashFunction.hash_of g.row.N g.H.Digest.FixedSize.SIZE g.F.PendingOf.is_pending
    g.F.PendingOf.pending_encoding key value key_size value_size in
    let whole = width_is_whole g.row.N is_width in
    let fits = fits_of those shown.proof shown.fits in
    let proof = proof_of shown.proof in
    let digests : HasDigestsOf 32 proof.range =
    subst (λ (n : ℕ). HasDigestsOf n proof.range) size (record {
      digests = fits.range.digests;
      pending = g.met.F.PendingOf.pending_sized proof.range.pending fits.range.pending;
      partial = fits.range.partial;
      operations_root = fits.range.operations_root;
    }) in
    ⊎_elim
    (λ found. inl (absent key value key_size value_size (λ operation rest has. c.encoded_is_read_again.ensures key value key_size value_size
    operation rest has) history asked states all shown.proof
    (fields_of key value key_size value_size those (λ k is. is) (λ v is. is) shown.proof shown.fits) found.0 found.1))
    inr
    (c.verified_absences_are_the_states_or_strings_collide.ensures g.H.HashFunction.hash_of g.row.N
    (grafting_height g.row.N) key_size value_size (state_of_history key_size value_size history) shown.proof asked
    (λ xs. g.met.H.HashFunction.sized xs ∙ size) whole.0 whole.1
    (omega (arith, length-map (log_of history) (fixed_encoding key_size value_size), few)) fits.chunk digests shown.excludes)
