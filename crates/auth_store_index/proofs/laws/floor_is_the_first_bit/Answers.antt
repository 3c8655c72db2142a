use Rattle.auth_store_index.specs.Laws.Floors.{floor_of_bits, next_floor}
use Rattle.auth_store_index.proofs.laws.floor_is_the_first_bit.Goals as goal

pub returns : goal.returns
returns c = record { first = floor_of_bits; next = next_floor }
