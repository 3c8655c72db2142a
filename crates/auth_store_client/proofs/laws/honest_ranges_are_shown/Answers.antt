use Rattle.std.proofs.Common.{◌≡◌, ◌<◌, ◌≤◌, ◌+◌, ◌-◌, ◌^◌, ℕ}
use Rattle.std.proofs.Common.{List, length, map, take, drop, refl, sym, ◌∙◌, ap, subst, arith}
use Rattle.std.proofs.lemmas.List.{length-map}
use Rattle.std.proofs.lemmas.Nat.{pow_pos}
use Rattle.state_ops.specs.Operation.{Operation, fixed_encoding}
use Rattle.state_theory.specs.Canonical.{Setting, State}
use Rattle.state_theory.specs.Honest.{honest_range}
use Rattle.state_theory.specs.Laws.HonestSizes.{honest_range_fits}
use Rattle.state_theory.specs.Verified.{Shown, VerifiesRange}
use Rattle.auth_store_parts.specs.History.{log_of}
use Rattle.auth_store_parts.specs.Laws.Places.{length-activity_bits}
use Rattle.auth_store_client.specs.Claims.{bits_over}
use Rattle.auth_store_client.specs.Laws.Widths.{width_is_whole}
use Rattle.auth_store_client.specs.Proving.{chunks_over}
use Rattle.auth_store_client.specs.States.{grafting_height, root_of_history, setting_of_width, state_of_history}
use Rattle.auth_store_client.proofs.HonestRanges.{shown, count, shaped, has, bits_are, map-part}
use Rattle.auth_store_client.proofs.laws.honest_ranges_are_shown.Goals as goal

pub returns : goal.returns
returns g c history start stop is_width few some within =
    let encoding : Operation → List ℕ = fixed_encoding g.K.FixedSize.SIZE g.V.FixedSize.SIZE in
    let rule = g.F.Family.merge_rule in
    let hash = g.H.HashFunction.hash_of in
    let setting : Setting = setting_of_width rule hash g.row.N in
    let state : State = state_of_history g.K.FixedSize.SIZE g.V.FixedSize.SIZE history in
    let log : List Operation = log_of history in
    let root : List ℕ = root_of_history setting g.K.FixedSize.SIZE g.V.FixedSize.SIZE history in
    let whole = width_is_whole g.row.N is_width in
    let wide : 0 < g.row.N = omega (arith, whole.0, pow_pos (grafting_height g.row.N)) in
    let total : length state.operations ≡ length log = length-map log encoding in
    let small : length state.operations ≤ 2 ^ 62 = omega (arith, total, few) in
    let there : stop ≤ length state.operations = omega (arith, total, within) in
    let operations : List Operation = take (stop - start) (drop start log) in
    let over : List (List ℕ) = chunks_over setting state start stop in
    let own : Shown = shown setting state start stop wide some there in
    let same : own.operations ≡ map encoding operations = sym (map-part encoding start stop log) in
    let end : start + length own.operations ≡ stop = omega (arith, count setting state start stop wide some there, some) in
    let verified : VerifiesRange rule hash root (honest_range setting state start stop) own =
    subst (λ (n : ℕ). VerifiesRange rule hash root (honest_range setting state start n) own) end
    (c.honest_ranges_verify.ensures hash g.row.N (grafting_height g.row.N) state own whole.0 whole.1 small refl
    (shaped setting state start stop wide some there) (has setting state start stop wide some there)) in
    record {
      proof = honest_range setting state start stop;
      chunks = over;
      is = refl;
      fits = honest_range_fits setting state start stop g.H.Digest.FixedSize.SIZE g.F.PendingOf.is_pending g.met.F.Family.merges_equals
          g.met.H.HashFunction.sized c.honest_digests_are_few.ensures g.met.F.PendingOf.none_pending g.met.F.PendingOf.some_pending
          whole.0 whole.1 small some there;
      verifies = subst (λ (es : List (List ℕ)). VerifiesRange rule hash root (honest_range setting state start stop) (record {
        start = start;
        operations = es;
        chunks = over;
        width = g.row.N;
      })) same verified;
      bits = bits_are setting state start stop wide some there (length-activity_bits log ∙ sym total)
          ∙ ap (λ n. bits_over g.row.N start over n) (ap length same ∙ length-map operations encoding);
    }
