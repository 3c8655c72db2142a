use Rattle.auth_store_index.specs.Laws.Bits.{bits_grow}
use Rattle.auth_store_index.proofs.laws.bits_grow_with_the_log.Goals as goal

pub returns : goal.returns
returns c = bits_grow
