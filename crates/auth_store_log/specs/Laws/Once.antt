-- The bytes of a log are those of no other.
use Rattle.std.proofs.Common.{◌≡◌, ℕ, List, [], ◌∷◌, ◌++◌, length, take, drop, append_assoc, Ok, refl, sym, ◌∙◌, ap}
use Rattle.std.proofs.Common.{arith}
use Rattle.std.proofs.lemmas.List.{append-nil, take-append-drop, length-append}
use Rattle.state_ops_parts.specs.Grammar.{Found}
use Rattle.state_ops.specs.Operation.{Operation}
use Rattle.auth_store_parts.specs.History.{History, log_of, history_of, AreStates}
use Rattle.auth_store_parts.specs.Laws.Logs.{history_of-log_of}
use Rattle.auth_store_log.specs.Records.{Format, record_of, operation_in, log_bytes, history_bytes, IsRecorded}
use Rattle.auth_store_log.specs.Records.{AreRecorded}
use Rattle.auth_store_log.specs.Laws.Recorded.{record_front}

-- what a log has behind these operations, whose bytes are these
pub record GoesOn (format : Format) (front log : List Operation) (rest : List ℕ) : Type 0 where
  pub more : List Operation
  pub whole : log ≡ front ++ more
  pub bytes : rest ≡ log_bytes format.key_size format.value_size more
  pub recorded : AreRecorded format more

module _ (format : Format) where
  some_bytes : (operation : Operation) (rest : List ℕ) → IsRecorded format operation
      → [] ≡ record_of format operation ++ rest → ⊥
  some_bytes operation rest is none =
      absurd (omega (arith, is.sized, ap length none, length-append (record_of format operation) rest))

  -- what begins the bytes of a log, and is a log, begins it
  pub goes_on : (front log : List Operation) (rest : List ℕ) → AreRecorded format front → AreRecorded format log
      → log_bytes format.key_size format.value_size log ≡ log_bytes format.key_size format.value_size front ++ rest
      → GoesOn format front log rest
  goes_on [] log rest fronts logs same = record { more = log; whole = refl; bytes = sym same; recorded = logs }
  goes_on (operation ∷ front) [] rest fronts logs same =
      absurd (some_bytes operation (log_bytes format.key_size format.value_size front ++ rest) fronts.0
      (same ∙ append_assoc (record_of format operation) (log_bytes format.key_size format.value_size front) rest))
  goes_on (operation ∷ front) (other ∷ log) rest fronts logs same =
      let key = format.key_size in
      let value = format.value_size in
      let here = record_of format operation in
      let there = record_of format other in
      let behind : List ℕ = log_bytes key value front ++ rest in
      let parts : there ++ log_bytes key value log ≡ here ++ behind = same
      ∙ append_assoc here (log_bytes key value front) rest in
      let found : ◌≡◌ {A = Found Operation} (Ok (other, log_bytes key value log)) (Ok (operation, behind)) =
      sym (record_front format other (log_bytes key value log) logs.0) ∙ ap (operation_in format) parts
      ∙ record_front format operation behind fronts.0 in
      let pairs : ◌≡◌ {A = Operation × List ℕ} (other, log_bytes key value log) (operation, behind) = cc in
      let one : other ≡ operation = ap (λ (p : Operation × List ℕ). p.0) pairs in
      let later = goes_on front log rest fronts.1 logs.1 (ap (λ (p : Operation × List ℕ). p.1) pairs) in
      record {
        more = later.more;
        whole = ap (λ o. o ∷ log) one ∙ ap (λ l. operation ∷ l) later.whole;
        bytes = later.bytes;
        recorded = later.recorded;
      }

  -- no log has no bytes but the empty one
  none_behind : (more : List Operation) → AreRecorded format more
      → [] ≡ log_bytes format.key_size format.value_size more → more ≡ []
  none_behind [] are none = refl
  none_behind (operation ∷ more) are none =
      absurd (some_bytes operation (log_bytes format.key_size format.value_size more) are.0 none)

  -- one log has these bytes
  pub log_once : (one other : List Operation) → AreRecorded format one → AreRecorded format other
      → log_bytes format.key_size format.value_size one ≡ log_bytes format.key_size format.value_size other
      → one ≡ other
  log_once one other ones others same =
      let bytes = log_bytes format.key_size format.value_size one in
      let behind = goes_on one other [] ones others (sym same ∙ sym (append-nil bytes)) in
      sym (behind.whole ∙ ap (λ l. one ++ l) (none_behind behind.more behind.recorded behind.bytes) ∙ append-nil one)

  -- one history has this log
  pub history_once : (one other : History) → AreStates one → AreStates other → AreRecorded format (log_of one)
      → AreRecorded format (log_of other)
      → history_bytes format one ≡ history_bytes format other → one ≡ other
  history_once one other ones others recorded recorded_other same =
      sym (history_of-log_of one ones)
      ∙ ap history_of (log_once (log_of one) (log_of other) recorded recorded_other same)
      ∙ history_of-log_of other others

  -- where a history has the log of these bytes, the operations that have them are the log of the history that they
  -- stand for
  pub only_log : (log : List Operation) (history : History) → AreRecorded format log → AreStates history
      → AreRecorded format (log_of history)
      → log_bytes format.key_size format.value_size log ≡ history_bytes format history → log ≡ log_of (history_of log)
  only_log log history are states recorded same =
      let one = log_once log (log_of history) are recorded same in
      one ∙ ap log_of (sym (ap history_of one ∙ history_of-log_of history states))

  -- a beginning of the bytes of a log that are a log's is that of the log
  pub log_begins : (one other : List Operation) → AreRecorded format one → AreRecorded format other
      → take (length (log_bytes format.key_size format.value_size one))
      (log_bytes format.key_size format.value_size other)
      ≡ log_bytes format.key_size format.value_size one → (more : List Operation) × (other ≡ one ++ more)
  log_begins one other ones others begins =
      let bytes = log_bytes format.key_size format.value_size one in
      let all = log_bytes format.key_size format.value_size other in
      let behind = goes_on one other (drop (length bytes) all) ones others
      (sym (take-append-drop (length bytes) all) ∙ ap (λ l. l ++ drop (length bytes) all) begins) in
      (behind.more, behind.whole)
