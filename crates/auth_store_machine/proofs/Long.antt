-- How long a log is, and its bytes.
use Rattle.std.proofs.Common.{◌≡◌, ◌+◌, ◌*◌, ◌<◌, ◌≤◌, ◌++◌, List, [], ◌∷◌, length, length-append, arith}
use Rattle.std.proofs.lemmas.Nat.{mul-le}
use Rattle.state_ops.specs.Operation.{Operation, commit_floor}
use Rattle.auth_store_parts.specs.History.{History, Commit, latest_map, log_of, appended, batch_operations, inactivity_floor}
use Rattle.auth_store_log.specs.Records.{Format, record_size, record_of, log_bytes, history_bytes, AreRecorded}

-- each record has two bytes or more
two_bytes : (format : Format) → 2 ≤ record_size format
two_bytes format = omega arith

-- so a log has no more than half as many operations as bytes
pub log_long : (format : Format) (log : List Operation) → AreRecorded format log
    → 2 * length log ≤ length (log_bytes format.key_size format.value_size log)
log_long format [] recorded = omega arith
log_long format (operation ∷ log) recorded =
    let more = log_long format log recorded.1 in
    let here = recorded.0.sized in
    omega (arith, more, here, two_bytes format, length-append (record_of format operation) (log_bytes format.key_size format.value_size log))

-- a log has so many bytes for each operation
pub log_length : (format : Format) (log : List Operation) → AreRecorded format log
    → length (log_bytes format.key_size format.value_size log) ≡ length log * record_size format
log_length format [] recorded = omega arith
log_length format (operation ∷ log) recorded =
    let more = log_length format log recorded.1 in
    omega (arith, more, recorded.0.sized, length-append (record_of format operation) (log_bytes format.key_size format.value_size log))

-- the bytes of a history with a commit more are more
pub commit_long : (format : Format) (history : History) (commit : Commit) → AreRecorded format (log_of history)
    → AreRecorded format (log_of (commit ∷ history)) → length (history_bytes format history) < length (history_bytes format (commit ∷ history))
commit_long format history commit recorded later =
    let log = log_of history in
    let all = log_of (commit ∷ history) in
    let changes = batch_operations (latest_map history) commit.map in
    let next = appended log (latest_map history) commit.map commit.metadata in
    let size = record_size format in
    let count = length-append log next in
    let some = length-append changes (commit_floor commit.metadata (inactivity_floor (log ++ changes)) ∷ []) in
    let more : length log + 1 ≤ length all = omega (arith, count, some) in
    omega (
      arith,
      log_length format log recorded,
      log_length format all later,
      two_bytes format,
      mul-le (length log + 1) size (length all) size more (omega arith),
    )
