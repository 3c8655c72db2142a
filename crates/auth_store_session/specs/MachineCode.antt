-- The machine's requests and answers, as the code holds them.
use Rattle.std.specs.Prelude.{◌≡◌, ⊤, ℕ, List, [], ◌∷◌, map, Option, Some, option_map, Result, Ok, Err}
use Rattle.fault_storage_parts.specs.declared.config.Config as settings
use Rattle.auth_store_device.specs.Devices.{after_asking}
use Rattle.auth_store_parts.specs.Batch.{meanings}
use Rattle.auth_store_proving.specs.ProvingCode.{key_answer_of, operation_answer_of, range_answer_of, slice_answer_of}
use Rattle.auth_store_machine.specs.declared.error.StoreError.{StoreError}
use Rattle.auth_store_session.specs.declared.session.Step.{Step}
use Rattle.auth_store_session.specs.declared.session.Step.TheVariants.{Open, Commit, Get, Root, Commits, Floor, Len}
use Rattle.auth_store_session.specs.declared.session.Step.TheVariants.{Prune, ProveKey, ProveOperation, ProveRange}
use Rattle.auth_store_session.specs.declared.session.Step.TheVariants.{ProveLog, Close, Crash, Config, CutAfter}
use Rattle.auth_store_session.specs.declared.session.Answer.{Answer}
use Rattle.auth_store_session.specs.declared.session.Answer.TheVariants as answers
use Rattle.auth_store_machine.specs.Machine.{Request, ask_open, ask_commit, ask_get, ask_root, ask_commits, ask_floor}
use Rattle.auth_store_machine.specs.Machine.{ask_len, ask_prune, ask_proof, ask_close, ask_crash, ask_config, ask_cut}
use Rattle.auth_store_machine.specs.Machine.{of_key, of_operation, of_range, of_slice}
use Rattle.auth_store_machine.specs.Machine as machine

-- what a step asks, given how keys and values are encoded
abbrev pub request_of : {K V : Type 0} → (K → List ℕ) → (V → List ℕ) → Step K V → Request
request_of key value (Open sizes) = ask_open
request_of key value (Commit batch metadata) =
    ask_commit (meanings key value batch.words.items) (option_map value metadata)
request_of key value (Get k) = ask_get (key k)
request_of key value Root = ask_root
request_of key value Commits = ask_commits
request_of key value Floor = ask_floor
request_of key value Len = ask_len
request_of key value (Prune location) = ask_prune location
request_of key value (ProveKey k) = ask_proof (of_key (key k))
request_of key value (ProveOperation location) = ask_proof (of_operation location)
request_of key value (ProveRange start stop) = ask_proof (of_range start stop)
request_of key value (ProveLog start stop) = ask_proof (of_slice start stop)
request_of key value Close = ask_close
request_of key value Crash = ask_crash
request_of key value (Config config) = ask_config
request_of key value (CutAfter calls) = ask_cut calls

-- what an answer says, given how digests, keys and values are encoded
abbrev pub meaning_of : {F D K V : Type 0} → (D → List ℕ) → (K → List ℕ) → (V → List ℕ) → Answer F D K V
    → machine.Answer
meaning_of digest key value answers.Opened = machine.opened
meaning_of digest key value (answers.Committed root) = machine.committed (digest root)
meaning_of digest key value (answers.Value found) = machine.value (option_map value found)
meaning_of digest key value (answers.Root root) = machine.root_is (digest root)
meaning_of digest key value (answers.Commits count) = machine.commits_are count
meaning_of digest key value (answers.Floor location) = machine.floor_is location
meaning_of digest key value (answers.Len count) = machine.len_is count
meaning_of digest key value (answers.Pruned chunks) = machine.pruned_to chunks
meaning_of digest key value (answers.Proof found) = machine.proof (machine.key_is (key_answer_of value found))
meaning_of digest key value (answers.Operation proved) =
    machine.proof (machine.operation_is (operation_answer_of key value proved))
meaning_of digest key value (answers.Range proved) = machine.proof (machine.range_is (range_answer_of key value proved))
meaning_of digest key value (answers.Slice proved) = machine.proof (machine.slice_is (slice_answer_of key value proved))
meaning_of digest key value answers.Closed = machine.has_closed
meaning_of digest key value answers.Crashed = machine.has_crashed
meaning_of digest key value answers.Set = machine.is_set
meaning_of digest key value (answers.Refused error) = machine.refused error
meaning_of digest key value answers.NotOpen = machine.not_open
meaning_of digest key value answers.StillOpen = machine.still_open

-- what a list of steps asks
abbrev pub requests_of : {K V : Type 0} → (K → List ℕ) → (V → List ℕ) → List (Step K V) → List Request
requests_of key value steps = map (request_of key value) steps

-- what a list of answers says
abbrev pub meanings_of : {F D K V : Type 0} → (D → List ℕ) → (K → List ℕ) → (V → List ℕ) → List (Answer F D K V)
    → List machine.Answer
meanings_of digest key value given = map (meaning_of digest key value) given

-- what is answered where a call's answer says this, or is a refusal
abbrev pub answer_of : {T : Type 0} → (T → machine.Answer) → Result T StoreError → machine.Answer
answer_of said (Ok value) = said value
answer_of said (Err e) = machine.refused e

-- the settings after a step, and after steps
abbrev pub config_after : {K V : Type 0} → Step K V → Option settings.Config → Option settings.Config
config_after (Config config) before = Some config
config_after _ before = before

abbrev pub config_after_all : {K V : Type 0} → List (Step K V) → Option settings.Config → Option settings.Config
config_after_all [] before = before
config_after_all (step ∷ steps) before = config_after_all steps (config_after step before)

-- how many calls are let through after a step: as many as it says, and as before where it makes no call of the device
abbrev pub IsLeftBy : {K V : Type 0} → Step K V → Option ℕ → Option ℕ → Type 0
IsLeftBy (CutAfter calls) before after = after ≡ after_asking calls before
IsLeftBy (Open sizes) before after = ⊤
IsLeftBy (Commit batch metadata) before after = ⊤
IsLeftBy (Get k) before after = ⊤
IsLeftBy (ProveKey k) before after = ⊤
IsLeftBy (ProveOperation location) before after = ⊤
IsLeftBy (ProveRange start stop) before after = ⊤
IsLeftBy (ProveLog start stop) before after = ⊤
IsLeftBy Crash before after = ⊤
IsLeftBy _ before after = after ≡ before
