use Rattle.std.proofs.Common.{◌≡◌, ◌<◌, ℕ, List, length, sym, subst, arith}
use Rattle.std.proofs.lemmas.List.{length-map}
use Rattle.std.proofs.lemmas.Option.{slice_get_within}
use Rattle.state_ops.specs.Operation.{Operation, fixed_encoding}
use Rattle.state_theory.specs.Canonical.{State}
use Rattle.state_theory.specs.Encoded.{ShowsOperation}
use Rattle.state_theory.specs.Laws.Once.{numbers_once}
use Rattle.auth_store_parts.specs.History.{log_of}
use Rattle.auth_store_client.specs.Claims.{Terms, terms}
use Rattle.auth_store_client.specs.Laws.Encodings.{encoding_at}
use Rattle.auth_store_client.specs.Laws.Widths.{width_is_whole}
use Rattle.auth_store_client.specs.Proving.{honest_operation}
use Rattle.auth_store_client.specs.States.{grafting_height, root_of_history, setting_of_width, state_of_history}
use Rattle.auth_store_client.proofs.laws.honest_operations_are_shown.Goals as goal

pub returns : goal.returns
returns g c history location operation is_width few stands active =
    let encoding : Operation → List ℕ = fixed_encoding g.K.FixedSize.SIZE g.V.FixedSize.SIZE in
    let those : Terms = terms g.F.Family.merge_rule g.H.HashFunction.hash_of g.row.N g.H.Digest.FixedSize.SIZE g.F.PendingOf.is_pending
    g.F.PendingOf.pending_encoding (g.K.Read.after tt) (g.V.Read.after tt) g.K.FixedSize.SIZE g.V.FixedSize.SIZE in
    let setting = setting_of_width g.F.Family.merge_rule g.H.HashFunction.hash_of g.row.N in
    let state : State = state_of_history g.K.FixedSize.SIZE g.V.FixedSize.SIZE history in
    let whole = width_is_whole g.row.N is_width in
    let count : length state.operations ≡ length (log_of history) = length-map (log_of history) encoding in
    let within : location < length (log_of history) = slice_get_within (log_of history) location operation stands in
    let it : ShowsOperation those.format (root_of_history setting g.K.FixedSize.SIZE g.V.FixedSize.SIZE history) (encoding operation)
    (honest_operation g.F.PendingOf.pending_encoding setting g.K.FixedSize.SIZE g.V.FixedSize.SIZE history location) =
    subst (λ (bytes : List ℕ). ShowsOperation those.format (root_of_history setting g.K.FixedSize.SIZE g.V.FixedSize.SIZE history) bytes
    (honest_operation g.F.PendingOf.pending_encoding setting g.K.FixedSize.SIZE g.V.FixedSize.SIZE history location))
    (encoding_at encoding (log_of history) location operation stands)
    (c.honest_bytes_show_the_operation.ensures g.row.N (grafting_height g.row.N) state location whole.0 whole.1 (omega (arith, count, few))
    (omega (arith, count, within)) active) in
    record {
      shown = it;
      at = sym (numbers_once location it.proof.location _ _ (omega (arith, within, few)) (omega (arith, it.fits.location)) it.is).0;
    }
