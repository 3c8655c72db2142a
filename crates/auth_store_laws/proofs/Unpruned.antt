-- What is pruned of a live store changes no answer but that to a prune.
use Rattle.std.proofs.Common.{◌≡◌, ℕ, inl, inr, refl, ap, sym, ◌∙◌, ⊎_elim}
use Rattle.std.specs.Prelude.{if◌then◌else◌, nat_le, nat_lt, false, Option, None, Some, Ok, Err, length, slice_get, slice_index_or}
use Rattle.state_ops.specs.Operation.{Operation}
use Rattle.auth_store_parts.specs.History.{History, activity_bits, log_of}
use Rattle.auth_store_client.specs.Proving.{honest_operation, honest_range_bytes, honest_slice_bytes}
use Rattle.auth_store_proving.specs.Proving.{answer_of_found, between, is_before_chunks, range_refusal, unless_refused}
use Rattle.auth_store_proving.specs.declared.error.Unprovable.TheVariants.{EmptyRange, OutOfRange, Pruned, Inactive}
use Rattle.auth_store_machine.specs.Machine.{Machine, Power, State, closed, live, failed, doubtful, Request, ask_open}
use Rattle.auth_store_machine.specs.Machine.{ask_commit, ask_get, ask_root, ask_commits, ask_floor, ask_len}
use Rattle.auth_store_machine.specs.Machine.{ask_prune, ask_proof, ask_close, ask_crash, ask_config, ask_cut, Answer}
use Rattle.auth_store_machine.specs.Machine.{Question, of_key, of_operation, of_range, of_slice, operation_is}
use Rattle.auth_store_machine.specs.Machine.{range_is, slice_is, as_proved, proof_of, told_proof, IsStepLive}
use Rattle.auth_store_machine.specs.Machine.{AsksNoPrune, IsBehind, kept_history}

-- a state of which another number of chunks is pruned, where it is live
abbrev pub with_pruned : ℕ → State → State
with_pruned other (live history pruned) = live history other
with_pruned other (closed history pending) = closed history pending
with_pruned other (failed history commit) = failed history commit
with_pruned other (doubtful history) = doubtful history

pub keeps_history : (other : ℕ) (state : State) → kept_history (with_pruned other state) ≡ kept_history state
keeps_history other (live history pruned) = refl
keeps_history other (closed history pending) = refl
keeps_history other (failed history commit) = refl
keeps_history other (doubtful history) = refl

module _ (m : Machine) (history : History) (pruned other : ℕ) where
  found_alike : (location : ℕ) (found : Option Operation) → is_before_chunks m.setting pruned location ≡ false
      → is_before_chunks m.setting other location ≡ false
      → answer_of_found m.pending m.setting m.key_size m.value_size history pruned location found
      ≡ answer_of_found m.pending m.setting m.key_size m.value_size history other location found
  found_alike location None behind too = refl
  found_alike location (Some operation) behind too =
      ap (λ before. if before then Err Pruned
      else if slice_index_or (activity_bits (log_of history)) location false then Ok (record {
        operation = operation;
        bytes = honest_operation m.pending m.setting m.key_size m.value_size history location;
      })
      else Err Inactive) (behind ∙ sym too)

  range_alike : (start stop : ℕ) → is_before_chunks m.setting pruned start ≡ false → is_before_chunks m.setting other start ≡ false
      → range_refusal m.setting history pruned start stop ≡ range_refusal m.setting history other start stop
  range_alike start stop behind too =
      ap (λ before. if nat_le stop start then Some EmptyRange
      else if nat_lt (length (log_of history)) stop then Some OutOfRange
      else if before then Some Pruned
      else None) (behind ∙ sym too)

  -- a proof behind what is pruned in both is the same
  proofs_alike : (question : Question) → IsBehind m pruned (ask_proof question) → IsBehind m other (ask_proof question)
      → proof_of m history pruned question ≡ proof_of m history other question
  proofs_alike (of_key key) behind too = refl
  proofs_alike (of_operation location) behind too =
      ap (as_proved operation_is) (found_alike location (slice_get (log_of history) location) behind too)
  proofs_alike (of_range start stop) behind too =
      ap (λ refusal. as_proved range_is (unless_refused refusal (record {
        operations = between start stop (log_of history);
        active = between start stop (activity_bits (log_of history));
        bytes = honest_range_bytes m.pending m.setting m.key_size m.value_size history start stop;
      }))) (range_alike start stop behind too)
  proofs_alike (of_slice start stop) behind too =
      ap (λ refusal. as_proved slice_is (unless_refused refusal (record {
        operations = between start stop (log_of history);
        bytes = honest_slice_bytes m.pending m.setting m.key_size m.value_size history start stop;
      }))) (range_alike start stop behind too)

pub steps_unpruned : (m : Machine) (before after : Power) (history : History) (pruned other : ℕ) (request : Request) (answer : Answer)
    (next : State) → AsksNoPrune request → IsBehind m pruned request → IsBehind m other request
    → IsStepLive m before after history pruned request answer next
    → IsStepLive m before after history other request answer (with_pruned other next)
steps_unpruned m before after history pruned other (ask_prune location) answer next asked behind too step = absurd asked
steps_unpruned m before after history pruned other (ask_commit words metadata) answer next asked behind too step = ⊎_elim
    (λ c. inl (c.0, ap (with_pruned other) c.1, c.2, c.3))
    (λ r. inr (
      r.0,
      r.1,
      ⊎_elim (λ kept. inl (ap (with_pruned other) kept.0, kept.1)) (λ lost. inr (ap (with_pruned other) lost.0, lost.1, lost.2)) r.2,
    ))
    step
steps_unpruned m before after history pruned other (ask_get key) answer next asked behind too step = (ap (with_pruned other) step.0, step.1, step.2)
steps_unpruned m before after history pruned other (ask_proof question) answer next asked behind too step = (
  ap (with_pruned other) step.0,
  step.1,
  ⊎_elim (λ said. inl (said ∙ ap told_proof (proofs_alike m history pruned other question behind too))) inr step.2,
)
steps_unpruned m before after history pruned other ask_open answer next asked behind too step = (step.0, ap (with_pruned other) step.1, step.2)
steps_unpruned m before after history pruned other ask_root answer next asked behind too step = (step.0, ap (with_pruned other) step.1, step.2)
steps_unpruned m before after history pruned other ask_commits answer next asked behind too step = (step.0, ap (with_pruned other) step.1, step.2)
steps_unpruned m before after history pruned other ask_floor answer next asked behind too step = (step.0, ap (with_pruned other) step.1, step.2)
steps_unpruned m before after history pruned other ask_len answer next asked behind too step = (step.0, ap (with_pruned other) step.1, step.2)
steps_unpruned m before after history pruned other ask_close answer next asked behind too step = (step.0, ap (with_pruned other) step.1, step.2)
steps_unpruned m before after history pruned other ask_crash answer next asked behind too step = (step.0, ap (with_pruned other) step.1, step.2)
steps_unpruned m before after history pruned other ask_config answer next asked behind too step = (step.0, ap (with_pruned other) step.1, step.2)
steps_unpruned m before after history pruned other (ask_cut calls) answer next asked behind too step = (step.0, ap (with_pruned other) step.1, step.2)

-- a prune leaves the history
pub prune_leaves : (m : Machine) (before after : Power) (history : History) (pruned location : ℕ) (answer : Answer) (next : State)
    → IsStepLive m before after history pruned (ask_prune location) answer next → (chunks : ℕ) × (next ≡ live history chunks)
prune_leaves m before after history pruned location answer next step = ⊎_elim
    (λ done. (done.0, done.2))
    (⊎_elim (λ past. (pruned, past.1)) (λ lacks. (pruned, lacks.1)))
    step.0
