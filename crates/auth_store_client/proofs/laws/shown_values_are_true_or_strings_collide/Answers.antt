use Rattle.std.proofs.Common.{ℕ, List, inl, ⊎_elim, inr, ◌∙◌, subst, arith}
use Rattle.std.proofs.lemmas.List.{length-map}
use Rattle.state_ops.specs.Operation.{fixed_encoding, update, ordered}
use Rattle.state_theory.specs.MadeRanges.{HasDigestsOf}
use Rattle.auth_store_parts.specs.History.{log_of}
use Rattle.auth_store_client.specs.States.{grafting_height, state_of_history}
use Rattle.auth_store_client.specs.Laws.Sound.{has_value_there}
use Rattle.auth_store_client.specs.Laws.Widths.{width_is_whole}
use Rattle.auth_store_client.proofs.laws.shown_values_are_true_or_strings_collide.Goals as goal

pub returns : goal.returns
returns g c history key value bytes size is_width states sizes few wide long shown =
    let key_size : ℕ = g.K.FixedSize.SIZE in
    let value_size : ℕ = g.V.FixedSize.SIZE in
    let operation : List ℕ = fixed_encoding key_size value_size
    (update (ordered key value shown.next_key)) in
    let whole = width_is_whole g.row.N is_width in
    let range = shown.fits.range in
    let digests : HasDigestsOf 32 shown.proof.range =
    subst (λ (n : ℕ). HasDigestsOf n shown.proof.range) size (record {
      digests = range.digests;
      pending = g.met.F.PendingOf.pending_sized shown.proof.range.pending range.pending;
      partial = range.partial;
      operations_root = range.operations_root;
    }) in
    ⊎_elim
    (λ there. inl (has_value_there key_size value_size history shown.proof.location key value
    shown.next_key states sizes wide long there))
    inr
    (c.verified_operations_are_active_or_strings_collide.ensures g.H.HashFunction.hash_of g.row.N
    (grafting_height g.row.N) (state_of_history key_size value_size history) shown.proof operation
    (λ xs. g.met.H.HashFunction.sized xs ∙ size) whole.0 whole.1
    (omega (arith, length-map (log_of history) (fixed_encoding key_size value_size), few)) shown.fits.chunk digests
    shown.verifies)
