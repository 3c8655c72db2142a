use Rattle.auth_store_machine.proofs.Opens.{fewer}
use Rattle.fault_storage_parts.specs.Crc32.{crc32}
use Rattle.auth_store_session.proofs.laws.chance_is_asked_of_each_opening.Goals as goal

pub returns : goal.returns
returns c = λ size old new more none. fewer crc32 size more none
