use Rattle.auth_store_machine.proofs.Opens.{shown_is}
use Rattle.auth_store_log.specs.Records.{recovered_log}
use Rattle.fault_storage_parts.specs.Crc32.{crc32}
use Rattle.auth_store_session.proofs.laws.an_opening_shows_what_stood.Goals as goal

pub returns : goal.returns
returns c = λ format size history now pending calls shown stood written image none bytes.
    shown_is format history pending now (recovered_log format crc32 size shown) (c.one_history_a_log.ensures.history format)
    stood.written stood.next written (stood.shown shown image none.0) bytes
