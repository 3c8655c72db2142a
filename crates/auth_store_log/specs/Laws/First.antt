-- The first commit is read again.
use Rattle.std.proofs.Common.{[], None, arith}
use Rattle.state_ops.specs.Operation.{commit_floor}
use Rattle.auth_store_parts.specs.History.{log_of}
use Rattle.auth_store_log.specs.Records.{Format, AreRecorded}
use Rattle.auth_store_log.specs.Laws.Recorded.{encoded_is_recorded}

-- so is the log of the empty history
pub empty_recorded : (format : Format) → AreRecorded format (log_of [])
empty_recorded format = (encoded_is_recorded format (commit_floor None 0) (tt, omega arith), tt)
