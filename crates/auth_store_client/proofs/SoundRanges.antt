-- What is said of a range is true of the history, where the operations and the chunks that are shown are the state's.
use Rattle.std.proofs.Common.{◌≡◌, ℕ, zero, suc, ◌+◌, ◌<◌, Bool, List, [], ◌∷◌, length, map, sym, ◌∙◌, ap, arith}
use Rattle.std.specs.List.{AllByRecursion}
use Rattle.std.specs.Prelude.{slice_get}
use Rattle.std.proofs.lemmas.List.{length-map}
use Rattle.std.proofs.lemmas.Option.{slice_get_within}
use Rattle.state_ops.specs.Operation.{Operation, fixed_encoding}
use Rattle.state_theory.specs.Canonical.{Setting, State}
use Rattle.state_theory.specs.MadeRanges.{HasRange}
use Rattle.state_theory.specs.Verified.{Shown, IsShaped}
use Rattle.auth_store_parts.specs.History.{History, activity_bits, log_of}
use Rattle.auth_store_parts.specs.Laws.Places.{length-activity_bits}
use Rattle.auth_store_client.specs.Claims.{IsTrueOf, has_range, has_slice, bits_over}
use Rattle.auth_store_client.specs.Laws.Standing.{stands}
use Rattle.auth_store_client.specs.Soundness.{IsAlone}
use Rattle.auth_store_client.specs.States.{state_of_history}
use Rattle.auth_store_client.proofs.Bits.{over_is, some_at}
use Rattle.auth_store_client.proofs.Lists.{stand, get_range, length-range}

module _ (key_size value_size : ℕ) where
  abbrev encoding : Operation → List ℕ
  encoding = fixed_encoding key_size value_size

  -- what stands in a log under encodings
  pub logged : (log operations : List Operation) (start : ℕ) → AllByRecursion (IsAlone key_size value_size log) operations
      → ((i : ℕ) → i < length (map encoding operations) → slice_get (map encoding log) (start + i) ≡ slice_get (map encoding operations) i)
      → (i : ℕ) → i < length operations → slice_get log (start + i) ≡ slice_get operations i
  logged log [] start alone each i lt = absurd (omega (arith, lt))
  logged log (op ∷ operations) start alone each zero lt =
      stands key_size value_size log (start + 0) op alone.0 (each 0 (omega arith))
  logged log (op ∷ operations) start alone each (suc i) lt =
      ap (slice_get log) (omega arith)
      ∙ logged log operations (suc start) alone.1
      (λ j below. ap (slice_get (map encoding log)) (omega arith) ∙ each (suc j) (omega (arith, below))) i (omega (arith, lt))

  pub range_true : (setting : Setting) (history : History) (start : ℕ) (operations : List Operation) (active : List Bool)
      (chunks : List (List ℕ)) → 0 < setting.width → AllByRecursion (IsAlone key_size value_size (log_of history)) operations
      → (leaves : ℕ)
      → (let shown : Shown = record { start = start; operations = map encoding operations; chunks = chunks; width = setting.width } in
      IsShaped leaves shown → HasRange setting (state_of_history key_size value_size history) shown
      → active ≡ bits_over setting.width start chunks (length operations) → IsTrueOf (has_range start operations active) history)
  range_true setting history start operations active chunks some alone leaves shaped has bits =
      let state : State = state_of_history key_size value_size history in
      let log : List Operation = log_of history in
      let count : length (map encoding operations) ≡ length operations = length-map operations encoding in
      let total : length state.operations ≡ length log = length-map log encoding in
      let lengths : length active ≡ length operations = ap length bits ∙ length-range _ start (length operations) in
      let there = logged log operations start alone has.stands in
      let within : (i : ℕ) → i < length operations → start + i < length log =
      λ i lt. let op = some_at operations i lt in slice_get_within log (start + i) op.0 (there i lt ∙ op.1) in (
        omega (arith, shaped.some, count),
        stand log operations start there,
        lengths,
        stand (activity_bits log) active start
            (λ i lt. over_is setting state some (length-activity_bits log ∙ sym total) start (length (map encoding operations)) chunks shaped.counted
            has.chunks i (omega (arith, lt, lengths, count)) (omega (arith, within i (omega (arith, lt, lengths)), total))
            ∙ sym (ap (λ bs. slice_get bs i) bits ∙ get_range _ start (length operations) i (omega (arith, lt, lengths)))),
      )

  pub slice_true : (history : History) (start : ℕ) (operations : List Operation)
      → AllByRecursion (IsAlone key_size value_size (log_of history)) operations → 0 < length (map encoding operations)
      → ((i : ℕ) → i < length (map encoding operations)
      → slice_get (state_of_history key_size value_size history).operations (start + i) ≡ slice_get (map encoding operations) i)
      → IsTrueOf (has_slice start operations) history
  slice_true history start operations alone some each = (
    omega (arith, some, length-map operations encoding),
    stand (log_of history) operations start (logged (log_of history) operations start alone each),
  )
