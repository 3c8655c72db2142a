use Rattle.auth_store_index.specs.Laws.Floors.{active_in_committed, active_in_log_of, behind_chunks}
use Rattle.auth_store_index.proofs.laws.active_places_stand_behind_the_floor.Goals as goal

pub returns : goal.returns
returns c = record { committed = active_in_committed; log = active_in_log_of; chunks = behind_chunks }
