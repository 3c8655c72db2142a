use Rattle.auth_store_index.specs.Laws.Floors.{active-taken}
use Rattle.auth_store_index.proofs.laws.active_places_are_taken.Goals as goal

pub returns : goal.returns
returns c = active-taken
