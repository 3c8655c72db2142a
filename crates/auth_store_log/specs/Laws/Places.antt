-- Where the record of an operation stands in the bytes of a log.
use Rattle.std.proofs.Common.{◌≡◌, ℕ, zero, suc, ◌+◌, ◌*◌, ◌≤◌, List, [], ◌∷◌, ◌++◌, length, take, drop, Some, Ok, refl}
use Rattle.std.proofs.Common.{sym, ◌∙◌, ap, arith}
use Rattle.std.specs.Prelude.{slice_get}
use Rattle.std.proofs.lemmas.List.{take_at, drop_at, drop-drop, length-append}
use Rattle.state_ops_parts.specs.Grammar.{Found}
use Rattle.state_ops.specs.Operation.{Operation}
use Rattle.auth_store_log.specs.Records.{Format, record_size, record_of, operation_in, log_bytes, IsRecorded}
use Rattle.auth_store_log.specs.Records.{AreRecorded}

-- the operation at an index of a log, and its record there
pub record StandsIn (format : Format) (log : List Operation) (index : ℕ) : Type 0 where
  pub operation : Operation
  pub recorded : IsRecorded format operation
  pub at : slice_get log index ≡ Some operation
  pub bytes : take (record_size format) (drop (index
      * record_size format) (log_bytes format.key_size format.value_size log)) ≡ record_of format operation

module _ (format : Format) where
  pub stands_in : (log : List Operation) (index : ℕ) → AreRecorded format log
      → (index + 1) * record_size format ≤ length (log_bytes format.key_size format.value_size log)
      → StandsIn format log index
  stands_in [] index are within = absurd (omega (arith, within))
  stands_in (operation ∷ log) zero are within =
      let size = record_size format in
      let later = log_bytes format.key_size format.value_size log in
      let none : zero * size ≡ 0 = omega arith in
      record {
        operation = operation;
        recorded = are.0;
        at = refl;
        bytes =
            ap (λ n. take size (drop n (record_of format operation ++ later))) none
            ∙ take_at (record_of format operation) later size are.0.sized;
      }
  stands_in (operation ∷ log) (suc index) are within =
      let size = record_size format in
      let front = record_of format operation in
      let later = log_bytes format.key_size format.value_size log in
      let there = stands_in log index are.1 (omega (arith, within, length-append front later, are.0.sized)) in
      let one_more : suc index * size ≡ size + index * size = omega arith in
      let behind : drop (suc index * size) (front ++ later) ≡ drop (index * size) later =
      ap (λ n. drop n (front ++ later)) one_more ∙ sym (drop-drop (index * size) size (front ++ later))
      ∙ ap (drop (index * size)) (drop_at front later size are.0.sized) in
      record {
        operation = there.operation;
        recorded = there.recorded;
        at = there.at;
        bytes = ap (take size) behind ∙ there.bytes;
      }

  -- one operation has this record
  pub record_once : (one other : Operation) → IsRecorded format one → IsRecorded format other
      → record_of format one ≡ record_of format other → one ≡ other
  record_once one other ones others same =
      let found : ◌≡◌ {A = Found Operation} (Ok (one, [])) (Ok (other, [])) = sym ones.again
      ∙ ap (operation_in format) same ∙ others.again in
      let pairs : ◌≡◌ {A = Operation × List ℕ} (one, []) (other, []) = cc in
      ap (λ (p : Operation × List ℕ). p.0) pairs
