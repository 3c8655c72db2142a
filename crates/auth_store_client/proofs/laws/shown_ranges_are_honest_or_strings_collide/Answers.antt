use Rattle.std.proofs.Common.{◌≡◌, ◌<◌, ◌≤◌, ◌+◌, ◌^◌, ℕ, List, length, map, inl, ⊎_elim, inr, refl, ◌∙◌, ap, subst, arith}
use Rattle.std.proofs.lemmas.List.{length-map}
use Rattle.std.proofs.lemmas.Nat.{pow_pos}
use Rattle.state_ops.specs.Operation.{fixed_encoding}
use Rattle.state_theory.specs.Canonical.{Setting, State}
use Rattle.state_theory.specs.Honest.{honest_range}
use Rattle.state_theory.specs.MadeRanges.{HasDigestsOf}
use Rattle.state_theory.specs.Verified.{RangeParts, Shown, IsShaped}
use Rattle.auth_store_parts.specs.History.{log_of}
use Rattle.auth_store_client.specs.States.{grafting_height, setting_of_width, state_of_history}
use Rattle.auth_store_client.specs.Laws.Widths.{width_is_whole}
use Rattle.auth_store_client.proofs.HonestBytes.{digests_of, bytes_of_range}
use Rattle.auth_store_client.proofs.HonestChunks.{chunks_are}
use Rattle.auth_store_client.proofs.laws.shown_ranges_are_honest_or_strings_collide.Goals as goal

pub returns : goal.returns
returns g c history start operations active bytes size is_width few shown =
    let key_size : ℕ = g.K.FixedSize.SIZE in
    let value_size : ℕ = g.V.FixedSize.SIZE in
    let hash = g.H.HashFunction.hash_of in
    let state : State = state_of_history key_size value_size history in
    let setting : Setting = setting_of_width g.F.Family.merge_rule hash g.row.N in
    let whole = width_is_whole g.row.N is_width in
    let some : 0 < g.row.N = omega (arith, whole.0, pow_pos (grafting_height g.row.N)) in
    let small : length state.operations ≤ 2 ^ 62 = omega (arith, length-map (log_of history) (fixed_encoding key_size value_size), few) in
    let hash_sized : (xs : List ℕ) → length (hash xs) ≡ 32 = λ xs. g.met.H.HashFunction.sized xs ∙ size in
    let digests : HasDigestsOf 32 shown.proof =
    digests_of g.F.PendingOf.is_pending g.H.Digest.FixedSize.SIZE 244 shown.proof size g.met.F.PendingOf.pending_sized shown.fits in
    let it : Shown = record {
      start = start;
      operations = map (fixed_encoding key_size value_size) operations;
      chunks = shown.chunks;
      width = g.row.N;
    } in
    ⊎_elim
    (λ has. ⊎_elim
    (λ (honest : shown.proof ≡ honest_range setting state start (start + length (map (fixed_encoding key_size value_size) operations))).
    let shaped : IsShaped (length state.operations) it =
    subst (λ (n : ℕ). IsShaped n it) (ap (λ (proof : RangeParts). proof.leaves) honest) shown.verifies.shaped in
    inl (bytes_of_range g.F.PendingOf.pending_encoding setting state key_size value_size start operations shown.proof shown.chunks bytes shown.is
    honest (chunks_are setting state it some refl shaped has)))
    inr
    (c.verified_ranges_are_honest_or_strings_collide.ensures hash g.row.N (grafting_height g.row.N) state shown.proof it hash_sized whole.0 whole.1
    small refl digests shown.verifies))
    inr
    (c.verified_ranges_are_the_states_or_strings_collide.ensures hash g.row.N (grafting_height g.row.N) state shown.proof it hash_sized whole.0
    whole.1 small refl digests shown.verifies)
