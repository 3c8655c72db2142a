use Rattle.std.proofs.Common.{ℕ, inl, ⊎_elim, inr, ◌∙◌, arith}
use Rattle.std.proofs.lemmas.List.{length-map}
use Rattle.state_ops.specs.Operation.{fixed_encoding}
use Rattle.state_theory.specs.Canonical.{Setting, State}
use Rattle.auth_store_parts.specs.History.{log_of}
use Rattle.auth_store_client.specs.States.{grafting_height, setting_of_width, state_of_history}
use Rattle.auth_store_client.specs.Laws.Widths.{width_is_whole}
use Rattle.auth_store_client.proofs.HonestBytes.{digests_of, operation_bytes}
use Rattle.auth_store_client.proofs.laws.shown_operations_are_honest_or_strings_collide.Goals as goal

pub returns : goal.returns
returns g c history location operation bytes size is_width few shown =
    let key_size : ℕ = g.K.FixedSize.SIZE in
    let value_size : ℕ = g.V.FixedSize.SIZE in
    let state : State = state_of_history key_size value_size history in
    let setting : Setting = setting_of_width g.F.Family.merge_rule g.H.HashFunction.hash_of g.row.N in
    let whole = width_is_whole g.row.N is_width in
    let proof = shown.shown.proof in
    ⊎_elim
    (λ honest. inl (operation_bytes g.F.PendingOf.pending_encoding setting state location proof bytes shown.shown.is honest shown.at))
    inr
    (c.verified_operations_are_honest_or_strings_collide.ensures g.H.HashFunction.hash_of g.row.N (grafting_height g.row.N) state proof
    (fixed_encoding key_size value_size operation) (λ xs. g.met.H.HashFunction.sized xs ∙ size) whole.0 whole.1
    (omega (arith, length-map (log_of history) (fixed_encoding key_size value_size), few)) shown.shown.fits.chunk
    (digests_of g.F.PendingOf.is_pending g.H.Digest.FixedSize.SIZE 122 proof.range size g.met.F.PendingOf.pending_sized shown.shown.fits.range)
    shown.shown.verifies)
