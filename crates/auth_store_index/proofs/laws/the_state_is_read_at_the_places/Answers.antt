use Rattle.auth_store_parts.specs.Laws.Places.{places_of-append}
use Rattle.auth_store_index.specs.Laws.Readings.{read-places_of, read-log_of, value_at-replayed, next_key-replayed}
use Rattle.auth_store_index.proofs.laws.the_state_is_read_at_the_places.Goals as goal

pub returns : goal.returns
returns c = record {
  grown = places_of-append;
  read = read-places_of;
  latest = read-log_of;
  value = value_at-replayed;
  next = next_key-replayed;
}
