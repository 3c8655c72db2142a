use Rattle.auth_store_index.specs.Laws.Clears.{get_cleared, length_cleared}
use Rattle.auth_store_index.proofs.laws.cleared_bits_are_not_set.Goals as goal

pub returns : goal.returns
returns c = record { bit = get_cleared; length = length_cleared }
