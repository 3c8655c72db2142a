use Rattle.std.proofs.Common.{◌≡◌, ℕ, List, true, Some, inl, ⊎_elim, inr, ◌∙◌, subst, arith}
use Rattle.std.specs.Prelude.{slice_get}
use Rattle.std.proofs.lemmas.List.{length-map}
use Rattle.state_ops.specs.Operation.{fixed_encoding}
use Rattle.state_theory.specs.MadeRanges.{HasDigestsOf}
use Rattle.auth_store_parts.specs.History.{activity_bits, log_of}
use Rattle.auth_store_client.specs.States.{grafting_height, state_of_history}
use Rattle.auth_store_client.specs.Laws.Standing.{stands}
use Rattle.auth_store_client.specs.Laws.Widths.{width_is_whole}
use Rattle.auth_store_client.proofs.laws.shown_operations_are_active_or_strings_collide.Goals as goal

pub returns : goal.returns
returns g c history location operation bytes size is_width alone few shown =
    let key_size : ℕ = g.K.FixedSize.SIZE in
    let value_size : ℕ = g.V.FixedSize.SIZE in
    let encoded : List ℕ = fixed_encoding key_size value_size operation in
    let whole = width_is_whole g.row.N is_width in
    let proof = shown.shown.proof in
    let range = shown.shown.fits.range in
    let digests : HasDigestsOf 32 proof.range =
    subst (λ (n : ℕ). HasDigestsOf n proof.range) size (record {
      digests = range.digests;
      pending = g.met.F.PendingOf.pending_sized proof.range.pending range.pending;
      partial = range.partial;
      operations_root = range.operations_root;
    }) in
    ⊎_elim
    (λ there. inl (
      stands key_size value_size (log_of history) location operation alone
          (subst (λ at. slice_get (state_of_history key_size value_size history).operations at ≡ Some encoded) shown.at there.stands),
      subst (λ at. slice_get (activity_bits (log_of history)) at ≡ Some true) shown.at there.active,
    ))
    inr
    (c.verified_operations_are_active_or_strings_collide.ensures g.H.HashFunction.hash_of g.row.N
    (grafting_height g.row.N) (state_of_history key_size value_size history) proof encoded
    (λ xs. g.met.H.HashFunction.sized xs ∙ size) whole.0 whole.1
    (omega (arith, length-map (log_of history) (fixed_encoding key_size value_size), few)) shown.shown.fits.chunk digests
    shown.shown.verifies)
