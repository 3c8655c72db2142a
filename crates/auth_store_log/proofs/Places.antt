-- What was read of the record at an index.
use Rattle.std.proofs.Common.{◌≡◌, ℕ, ◌+◌, ◌*◌, ◌≤◌, List, [], ◌++◌}
use Rattle.std.proofs.Common.{length, take, drop, Result, Ok, Err, Some, sym, ◌∙◌, ap, arith}
use Rattle.std.specs.Prelude.{IfOk, IfErr, slice_get}
use Rattle.std.proofs.lemmas.List.{append-nil, take_at, take_all, length-append, length-take, length-drop}
use Rattle.state_ops.specs.Operation.{Operation}
use Rattle.auth_store_log.specs.declared.error.LogError.{LogError}
use Rattle.auth_store_log.specs.Records.{Format, record_size, record_of, log_bytes, IsRecorded, AreRecorded, IsNoLog}
use Rattle.auth_store_log.specs.Laws.Places.{stands_in, record_once}

-- a refusal of which two things are known
pub both_err : {T : Type 0} (r : Result T LogError) (P Q R : LogError → Type 0) → IfErr r P → IfErr r Q
    → ((e : LogError) → P e → Q e → R e) → IfErr r R
both_err (Ok x) P Q R p q make = tt
both_err (Err e) P Q R p q make = make e p q

-- an answer of which two things are known
pub both_ok : {T E : Type 0} (r : Result T E) (P Q R : T → Type 0) → IfOk r P → IfOk r Q → ((x : T) → P x → Q x → R x) → IfOk r R
both_ok (Ok x) P Q R p q make = make x p q
both_ok (Err e) P Q R p q make = tt

module _ (format : Format) (index : ℕ) (list bytes : List ℕ) (read : bytes ≡ take (record_size format) (drop (index * record_size format) list)) where
  -- the operation that was read is the one at the index
  pub read_at_index : (operation : Operation) (rest : List ℕ) (log : List Operation) → IsRecorded format operation
      → bytes ≡ record_of format operation ++ rest
      → AreRecorded format log → log_bytes format.key_size format.value_size log ≡ list → slice_get log index ≡ Some operation
  read_at_index operation rest log is stands are same =
      let size = record_size format in
      let behind = drop (index * size) list in
      let long : length bytes ≡ length (record_of format operation) + length rest = ap length stands ∙ length-append (record_of format operation) rest in
      let within : (index + 1) * size ≤ length (log_bytes format.key_size format.value_size log) =
      omega (arith, long, is.sized, ap length read, length-take size behind, length-drop (index * size) list, ap length same) in
      let there = stands_in format log index are within in
      let front : take size bytes ≡ record_of format operation = ap (take size) stands ∙ take_at (record_of format operation) rest size is.sized in
      let all : take size bytes ≡ bytes = take_all size bytes (omega (arith, ap length read, length-take size behind)) in
      let one : there.operation ≡ operation = record_once format there.operation operation there.recorded is
      (sym there.bytes ∙ ap (λ l. take size (drop (index * size) l)) same ∙ sym read ∙ sym all ∙ front) in
      there.at ∙ ap Some one

  -- bytes that are none of a record are none of a log
  pub no_log : (index + 1) * record_size format ≤ length list
      → ((operation : Operation) (rest : List ℕ) → IsRecorded format operation → bytes ≡ record_of format operation ++ rest → ⊥)
      → IsNoLog format list
  no_log within none log are same =
      let there = stands_in format log index are (omega (arith, within, ap length same)) in
      none there.operation [] there.recorded
      (read ∙ ap (λ l. take (record_size format) (drop (index * record_size format) l)) (sym same) ∙ there.bytes
      ∙ sym (append-nil (record_of format there.operation)))
