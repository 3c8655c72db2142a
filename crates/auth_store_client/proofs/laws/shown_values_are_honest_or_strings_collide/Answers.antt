use Rattle.std.proofs.Common.{◌≡◌, ◌≤◌, ◌^◌, ℕ, List, length, inl, ⊎_elim, inr, ◌∙◌, arith}
use Rattle.std.proofs.lemmas.List.{length-map}
use Rattle.merkle_forest.specs.Codec.{Outcome}
use Rattle.state_ops.specs.Operation.{fixed_encoding, update, ordered}
use Rattle.state_theory.specs.Canonical.{Setting, State}
use Rattle.state_theory.specs.MadeRanges.{HasDigestsOf}
use Rattle.auth_store_parts.specs.History.{log_of}
use Rattle.auth_store_client.specs.States.{grafting_height, setting_of_width, state_of_history}
use Rattle.auth_store_client.specs.Laws.Widths.{width_is_whole}
use Rattle.auth_store_client.proofs.HonestBytes.{digests_of}
use Rattle.auth_store_client.proofs.HonestValues.{bytes_of_value}
use Rattle.auth_store_client.proofs.laws.shown_values_are_honest_or_strings_collide.Goals as goal

pub returns : goal.returns
returns g c history key value bytes size is_width sound wide long shown =
    let key_size : ℕ = g.K.FixedSize.SIZE in
    let value_size : ℕ = g.V.FixedSize.SIZE in
    let hash = g.H.HashFunction.hash_of in
    let state : State = state_of_history key_size value_size history in
    let setting : Setting = setting_of_width g.F.Family.merge_rule hash g.row.N in
    let whole = width_is_whole g.row.N is_width in
    let operation : List ℕ = fixed_encoding key_size value_size (update (ordered key value shown.next_key)) in
    let small : length state.operations ≤ 2 ^ 62 =
    omega (arith, length-map (log_of history) (fixed_encoding key_size value_size), sound.few) in
    let hash_sized : (xs : List ℕ) → length (hash xs) ≡ 32 = λ xs. g.met.H.HashFunction.sized xs ∙ size in
    let digests : HasDigestsOf 32 shown.proof.range =
    digests_of g.F.PendingOf.is_pending g.H.Digest.FixedSize.SIZE 122 shown.proof.range size g.met.F.PendingOf.pending_sized shown.fits.range in
    let grammar : List ℕ → Outcome = g.K.Read.after tt in
    ⊎_elim
    (λ active. ⊎_elim
    (λ honest. inl (bytes_of_value grammar (g.V.Read.after tt) key_size value_size g.F.PendingOf.pending_encoding setting history key value
    shown.next_key shown.proof bytes sound wide long shown.key.0 shown.is active honest))
    inr
    (c.verified_operations_are_honest_or_strings_collide.ensures hash g.row.N (grafting_height g.row.N) state shown.proof operation hash_sized
    whole.0 whole.1 small shown.fits.chunk digests shown.verifies))
    inr
    (c.verified_operations_are_active_or_strings_collide.ensures hash g.row.N (grafting_height g.row.N) state shown.proof operation hash_sized
    whole.0 whole.1 small shown.fits.chunk digests shown.verifies)
