use Rattle.std.proofs.Common.{◌≡◌, ◌<◌, ◌≤◌, ◌-◌, ◌^◌, ℕ, List, length, take, drop, Some, refl, sym, ◌∙◌, ap, arith}
use Rattle.std.proofs.lemmas.List.{length-map}
use Rattle.std.proofs.lemmas.Nat.{pow_pos}
use Rattle.merkle_forest.specs.declared.bagging.Bagging.TheVariants.{BackwardFold}
use Rattle.state_ops.specs.Operation.{Operation, fixed_encoding}
use Rattle.state_theory.specs.Canonical.{Setting, State, operations_root}
use Rattle.state_theory.specs.LogProofs.{log_root}
use Rattle.auth_store_parts.specs.History.{log_of}
use Rattle.auth_store_client.specs.Laws.Widths.{width_is_whole}
use Rattle.auth_store_client.specs.Proving.{log_digests, log_inactive}
use Rattle.auth_store_client.specs.States.{grafting_height, setting_of_width, state_of_history}
use Rattle.auth_store_client.proofs.HonestRanges.{map-part}
use Rattle.auth_store_client.proofs.HonestSlices.{honest_slice, root_is, peaks_enough, slice_fits}
use Rattle.auth_store_client.proofs.laws.honest_slices_are_shown.Goals as goal

pub returns : goal.returns
returns g c history start stop is_width few some within =
    let encoding : Operation → List ℕ = fixed_encoding g.K.FixedSize.SIZE g.V.FixedSize.SIZE in
    let rule = g.F.Family.merge_rule in
    let hash = g.H.HashFunction.hash_of in
    let setting : Setting = setting_of_width rule hash g.row.N in
    let state : State = state_of_history g.K.FixedSize.SIZE g.V.FixedSize.SIZE history in
    let log : List Operation = log_of history in
    let whole = width_is_whole g.row.N is_width in
    let wide : 0 < g.row.N = omega (arith, whole.0, pow_pos (grafting_height g.row.N)) in
    let total : length state.operations ≡ length log = length-map log encoding in
    let small : length state.operations ≤ 2 ^ 62 = omega (arith, total, few) in
    let there : stop ≤ length state.operations = omega (arith, total, within) in
    let operations : List Operation = take (stop - start) (drop start log) in
    record {
      slice = honest_slice setting state start stop;
      is = refl;
      fits = slice_fits setting state g.met.F.Family.merges_equals small start stop g.H.Digest.FixedSize.SIZE g.F.PendingOf.is_pending
          g.met.H.HashFunction.sized c.honest_digests_are_few.ensures g.met.F.PendingOf.none_pending g.met.F.PendingOf.some_pending
          wide whole.0 whole.1 some there;
      verifies = record {
        operations_root = operations_root setting state;
        leads = ap (λ es. log_root rule hash (length state.operations) (log_inactive setting state) start es (log_digests setting state start stop))
            (map-part encoding start stop log)
            ∙ c.built_proofs_lead_to_the_root.ensures hash BackwardFold state.operations (log_inactive setting state) start stop small some there
            (peaks_enough setting state)
            ∙ ap (λ root. Some root) (sym (root_is setting state));
        seals = c.honest_witnesses_lead_to_the_root.ensures setting state;
      };
    }
