use Rattle.std.proofs.Common.{◌≡◌, ℕ, List, length, arith}
use Rattle.std.proofs.lemmas.List.{length-map}
use Rattle.state_ops.specs.Operation.{Operation, fixed_encoding}
use Rattle.state_theory.specs.Canonical.{Setting}
use Rattle.auth_store_client.specs.Laws.Widths.{width_is_whole}
use Rattle.auth_store_client.specs.Claims.{Terms, terms}
use Rattle.auth_store_parts.specs.History.{log_of}
use Rattle.auth_store_client.specs.States.{grafting_height, root_of_history, setting_of_width, state_of_history}
use Rattle.auth_store_client.specs.Laws.Absent.{shows_absence}
use Rattle.auth_store_client.proofs.laws.honest_proofs_show_absence.Goals as goal

pub returns : goal.returns
returns g c history key is_width states few absent fields =
    let key_size : ℕ = g.K.FixedSize.SIZE in
    let value_size : ℕ = g.V.FixedSize.SIZE in
    let setting : Setting = setting_of_width g.F.Family.merge_rule g.H.HashFunction.hash_of g.row.N in
    let those : Terms = terms g.F.Family.merge_rule g.H.HashFunction.hash_of g.row.N g.H.Digest.FixedSize.SIZE g.F.PendingOf.is_pending
    g.F.PendingOf.pending_encoding (g.K.Read.after tt) (g.V.Read.after tt) key_size value_size in
    let whole = width_is_whole g.row.N is_width in
    let encoding : Operation → List ℕ = fixed_encoding key_size value_size in
    let count : length (state_of_history key_size value_size history).operations ≡ length (log_of history) =
    length-map (log_of history) encoding in
    shows_absence those setting history key (root_of_history setting key_size value_size history)
    (λ location within bit. c.honest_bytes_show_the_operation.ensures g.row.N (grafting_height g.row.N)
    (state_of_history key_size value_size history) location whole.0 whole.1 (omega (arith, count, few)) within bit)
    few states absent fields
