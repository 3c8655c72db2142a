use Rattle.std.proofs.Common.{◌≡◌, ℕ, List, length, arith}
use Rattle.std.proofs.lemmas.List.{length-map}
use Rattle.std.proofs.lemmas.Option.{slice_get_within}
use Rattle.state_ops.specs.Operation.{Operation, update, ordered, fixed_encoding}
use Rattle.auth_store_parts.specs.History.{active_location, latest_map, log_of}
use Rattle.auth_store_parts.specs.Map.{next_key}
use Rattle.auth_store_client.specs.States.{grafting_height, state_of_history}
use Rattle.auth_store_parts.specs.Laws.Actives.{StandsAt-log_of}
use Rattle.auth_store_client.specs.Laws.Encodings.{encoding_at}
use Rattle.auth_store_client.specs.Laws.Widths.{width_is_whole}
use Rattle.auth_store_client.proofs.laws.honest_proofs_show_true_values.Goals as goal

pub returns : goal.returns
returns g c history key value is_width states few holds is_key =
    let log : List Operation = log_of history in
    let location : ℕ = active_location key log in
    let next : List ℕ = next_key (latest_map history) key in
    let encoding : Operation → List ℕ = fixed_encoding g.K.FixedSize.SIZE g.V.FixedSize.SIZE in
    let stands = StandsAt-log_of key value history states holds in
    let whole = width_is_whole g.row.N is_width in
    let count : length (state_of_history g.K.FixedSize.SIZE g.V.FixedSize.SIZE history).operations ≡ length log =
    length-map log encoding in
    c.honest_bytes_show_the_update.ensures g.row.N (grafting_height g.row.N)
    (state_of_history g.K.FixedSize.SIZE g.V.FixedSize.SIZE history) location
    (λ n. encoding (update (ordered key value n))) next whole.0 whole.1 (omega (arith, count, few))
    (omega (arith, count, slice_get_within log location (update (ordered key value next)) stands.update_at))
    stands.bit_at (encoding_at encoding log location (update (ordered key value next)) stands.update_at) is_key
