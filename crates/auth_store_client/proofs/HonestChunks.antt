-- The chunks that are shown over operations of a state are those over them, each in its place.
use Rattle.std.proofs.Common.{◌≡◌, ℕ, ◌-◌, ◌*◌, ◌/◌, ◌<◌, ◌≤◌, List, length, map, sym, ◌∙◌, ap, arith}
use Rattle.std.specs.List.{range_with_len}
use Rattle.state_theory.specs.Canonical.{Setting, State, chunk}
use Rattle.state_theory.specs.MadeRanges.{HasRange}
use Rattle.state_theory.specs.Verified.{Shown, stop_of, first_index, last_index, IsShaped}
use Rattle.auth_store_client.specs.Proving.{chunks_over}
use Rattle.auth_store_client.proofs.HonestRanges.{shown, count, shaped, has}
use Rattle.auth_store_client.proofs.Lists.{by_values}

pub chunks_are : (setting : Setting) (state : State) (it : Shown) → 0 < setting.width → it.width ≡ setting.width
    → IsShaped (length state.operations) it → HasRange setting state it → it.chunks ≡ chunks_over setting state it.start (stop_of it)
chunks_are setting state it some wide is holds =
    let start : ℕ = it.start in
    let stop : ℕ = stop_of it in
    let later : start < stop = omega (arith, is.some) in
    let within : stop ≤ length state.operations = is.within in
    let over : List (List ℕ) = chunks_over setting state start stop in
    let own : Shown = shown setting state start stop some later within in
    let own_is = shaped setting state start stop some later within in
    let end : stop_of own ≡ stop = omega (arith, count setting state start stop some later within, later) in
    let first : first_index it ≡ first_index own = ap (λ w. start / (8 * w)) wide in
    let last : last_index it ≡ last_index own =
    ap (λ w. (stop - 1) / (8 * w)) wide ∙ ap (λ n. (n - 1) / (8 * setting.width)) (sym end) in
    let long : length it.chunks ≡ length over = omega (arith, is.counted, own_is.counted, first, last) in
    by_values (chunk setting state) it.chunks (first_index it) holds.chunks
    ∙ ap (λ k. map (chunk setting state) (range_with_len k (length it.chunks))) first
    ∙ ap (λ n. map (chunk setting state) (range_with_len (first_index own) n)) long
    ∙ sym (by_values (chunk setting state) over (first_index own) (has setting state start stop some later within).chunks)
