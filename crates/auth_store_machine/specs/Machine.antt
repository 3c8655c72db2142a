-- The machine of a session: what each request answers, and what it leaves.
use Rattle.std.specs.Prelude.{◌≡◌, ◌<◌, ◌≤◌, ◌+◌, ◌*◌, ◌++◌, ◌^◌, ◌⊎◌, ℕ, ⊤, Bool, true, false, IsTrue, IsFalse, List}
use Rattle.std.specs.Prelude.{[], ◌∷◌, length, Option, None, Some, Result, Ok, Err}
use Rattle.merkle_forest.specs.Forest.{Rule}
use Rattle.merkle_forest.specs.Hashing.{Hash}
use Rattle.state_theory.specs.Canonical.{Setting}
use Rattle.state_ops.specs.Operation.{Operation, fixed_size}
use Rattle.paged_blob_parts.specs.Calls.{Call, file_of}
use Rattle.paged_blob_parts.specs.Flushes.{physical_size}
use Rattle.paged_blob_parts.specs.Images.{IsImage}
use Rattle.paged_blob_parts.specs.Moments.{Grows}
use Rattle.auth_store_parts.specs.Batch.{Word, map_after}
use Rattle.auth_store_parts.specs.Map.{value_at}
use Rattle.auth_store_device.specs.Devices.{after_asking, is_cut}
use Rattle.auth_store_parts.specs.History.{History, Commit, latest_map, log_of}
use Rattle.auth_store_ledger.specs.Store.{setting_of_width, floor_of, root_of_history, commit_after, IsPrunedUpTo}
use Rattle.auth_store_log.specs.Records.{log_bytes}
use Rattle.auth_store_proving.specs.Proving.{KeyAnswer, OperationAnswer, RangeAnswer, SliceAnswer, honest_answer}
use Rattle.auth_store_proving.specs.Proving.{answer_of_operation, answer_of_range, answer_of_slice, is_before_chunks}
use Rattle.auth_store_proving.specs.declared.error.Unprovable.{Unprovable}
use Rattle.auth_store_machine.specs.declared.error.StoreError.{StoreError}
use Rattle.auth_store_machine.specs.declared.error.StoreError.TheVariants as refusals
use Rattle.auth_store_machine.specs.Refusals.{IsOfChange, IsOfRead, of_reason}

-- what stays the same in a run: trees, hashes and chunks, how the family encodes a pending digest, the sizes of keys
-- and of values, and how many bytes a page of the disk has
pub record Machine : Type 0 where
  pub setting : Setting
  pub pending : Option (List ℕ) → List ℕ
  pub key_size : ℕ
  pub value_size : ℕ
  pub page_size : ℕ

abbrev pub machine : Rule → Hash → (Option (List ℕ) → List ℕ) → ℕ → ℕ → ℕ → ℕ → Machine
machine rule hash pending width key value page = record {
  setting = setting_of_width rule hash width;
  pending = pending;
  key_size = key;
  value_size = value;
  page_size = page;
}

-- Where a session stands: closed, with the history that the next opening shows, perhaps with the commit that is
-- pending; open with a history, of which so many chunks are pruned; open and failed, with the commit that failed, which
-- the next opening shows or not; or closed in doubt, where the next opening may show by chance what was never written,
-- but behind the log of this history.
pub data State : Type 0 where
  closed : History → Option Commit → State
  live : History → ℕ → State
  failed : History → Commit → State
  doubtful : History → State

-- the state after the store is closed, where one is open
abbrev pub at_rest : State → State
at_rest (closed history pending) = closed history pending
at_rest (live history pruned) = closed history None
at_rest (failed history commit) = closed history (Some commit)
at_rest (doubtful history) = doubtful history

-- the state where the next opening is not by chance
abbrev pub as_it_is : State → State
as_it_is state = state

-- the state where the next opening may be by chance
abbrev pub in_doubt : State → State
in_doubt (closed history pending) = doubtful history
in_doubt (live history pruned) = live history pruned
in_doubt (failed history commit) = failed history commit
in_doubt (doubtful history) = doubtful history

-- the history that has to stay: its last commit was acknowledged, or shown by an opening
abbrev pub kept_history : State → History
kept_history (closed history pending) = history
kept_history (live history pruned) = history
kept_history (failed history commit) = history
kept_history (doubtful history) = history

-- the log of the one history begins that of the other
abbrev pub Begins : History → History → Type 0
Begins history later = (more : List Operation) × (log_of later ≡ log_of history ++ more)

-- the state is not in doubt
abbrev pub IsCertain : State → Type 0
IsCertain (doubtful history) = ⊥
IsCertain _ = ⊤

-- the later history is the other with commits after it
abbrev pub GoesOn : History → History → Type 0
GoesOn history later = (more : History) × (later ≡ more ++ history)

-- of what a session is asked for a proof: of a key's value or its absence, that the operation at a location is active,
-- and of the operations from one location up to another, with their activity bits or without
pub data Question : Type 0 where
  of_key : List ℕ → Question
  of_operation : ℕ → Question
  of_range : ℕ → ℕ → Question
  of_slice : ℕ → ℕ → Question

-- what is proved, with the bytes of the proof
pub data Proved : Type 0 where
  key_is : KeyAnswer → Proved
  operation_is : OperationAnswer → Proved
  range_is : RangeAnswer → Proved
  slice_is : SliceAnswer → Proved

-- what a session is asked
pub data Request : Type 0 where
  ask_open : Request
  ask_commit : List Word → Option (List ℕ) → Request
  ask_get : List ℕ → Request
  ask_root : Request
  ask_commits : Request
  ask_floor : Request
  ask_len : Request
  ask_prune : ℕ → Request
  ask_proof : Question → Request
  ask_close : Request
  ask_crash : Request
  ask_config : Request
  ask_cut : ℕ → Request

-- what it answers
pub data Answer : Type 0 where
  opened : Answer
  committed : List ℕ → Answer
  value : Option (List ℕ) → Answer
  root_is : List ℕ → Answer
  commits_are : ℕ → Answer
  floor_is : ℕ → Answer
  len_is : ℕ → Answer
  pruned_to : ℕ → Answer
  proof : Proved → Answer
  has_closed : Answer
  has_crashed : Answer
  is_set : Answer
  refused : StoreError → Answer
  not_open : Answer
  still_open : Answer

-- What the machine sees of the device under it and of its cache: how many faults were injected so far, and how many
-- calls a cut refused since the last crash; how many names the cache has given, and which number the next file of the
-- disk has; the calls that were made of the log, the newest first, which say what bytes the disk may have; and how many
-- more calls are let through until the power is cut, where that was asked for since the last crash.
pub record Power : Type 0 where
  pub injected : ℕ
  pub refused : ℕ
  pub names : ℕ
  pub files : ℕ
  pub calls : List Call
  pub left : Option ℕ

-- the power after a cut was asked for that lets so many calls through, unless one stands
abbrev pub asked_to_cut : ℕ → Power → Power
asked_to_cut calls power = record power { left = after_asking calls power.left }

-- a crash ends a cut and the count of the calls that it refused
abbrev pub IsCrash : Power → Power → Type 0
IsCrash before after = after ≡ record before { left = None; refused = 0 }

-- the refusal that an answer tells of, and a call's result
abbrev pub refusal_in : Answer → Option StoreError
refusal_in (refused error) = Some error
refusal_in answer = None

abbrev pub refusal_of : {T : Type 0} → Result T StoreError → Option StoreError
refusal_of (Ok _) = None
refusal_of (Err error) = Some error

-- how many injected faults a refusal tells of, and how many calls that a cut refused
abbrev pub faults_in : Option StoreError → ℕ
faults_in (Some (refusals.Fault kind)) = 1
faults_in refusal = 0

abbrev pub cuts_in : Option StoreError → ℕ
cuts_in (Some refusals.PowerCut) = 1
cuts_in refusal = 0

-- calls use up some of those that a cut lets through, and none asks for a cut
abbrev pub IsSpent : Option ℕ → Option ℕ → Type 0
IsSpent None after = after ≡ None
IsSpent (Some before) after = (left : ℕ) × (after ≡ Some left) × (left ≤ before)

-- an opening gives three names of the cache and one number of a file at most, no other call gives one, and the record
-- of the calls goes on
pub record GivesNumbers (openings : ℕ) (before after : Power) : Type 0 where
  pub names : (before.names ≤ after.names) × (after.names ≤ before.names + 3 * openings)
  pub files : (before.files ≤ after.files) × (after.files ≤ before.files + openings)
  pub calls : Grows before.calls after.calls

-- What calls leave of the power, with so many openings among them, of which the last was refused for that, or none: a
-- fault that was injected, and a call that a cut refused, ends them; and they use up what a cut lets through.
pub record Leaves (openings : ℕ) (refusal : Option StoreError) (before after : Power) : Type 0 where
  pub injected : after.injected ≡ before.injected + faults_in refusal
  pub refused : after.refused ≡ before.refused + cuts_in refusal
  pub left : IsSpent before.left after.left
  pub numbers : GivesNumbers openings before after

-- a count of refusals is about to pass its type
abbrev pub IsEnding : Power → Type 0
IsEnding power = (2 ^ 64 ≤ power.injected + 1) ⊎ (2 ^ 64 ≤ power.refused + 1)

-- the calls that were made of the log may have left so many bytes that their places end
abbrev pub MayEndDisk : List Call → Type 0
MayEndDisk calls = (bytes : List ℕ) × IsImage (file_of calls) bytes × (2 ^ 64 ≤ length bytes + 4096)

-- and in an opening the names of the cache, the places on the disk, or the numbers of its files are
abbrev pub IsEndingOpening : Power → Type 0
IsEndingOpening power =
    IsEnding power ⊎ (2 ^ 64 ≤ power.names + 3) ⊎ MayEndDisk power.calls ⊎ (2 ^ 64 ≤ power.files + 1)

-- what there is, as this
abbrev pub as_proved : {A : Type 0} → (A → Proved) → Result A Unprovable → Result Proved Unprovable
as_proved said (Ok answer) = Ok (said answer)
as_proved said (Err why) = Err why

-- The honest proof of what is asked, where so many chunks are pruned, or why there is none. Of a key there is always
-- one: of its value, or that it is absent.
abbrev pub proof_of : Machine → History → ℕ → Question → Result Proved Unprovable
proof_of m history pruned (of_key key) =
    Ok (key_is (honest_answer m.pending m.setting m.key_size m.value_size history key))
proof_of m history pruned (of_operation location) =
    as_proved operation_is (answer_of_operation m.pending m.setting m.key_size m.value_size history pruned location)
proof_of m history pruned (of_range start stop) =
    as_proved range_is (answer_of_range m.pending m.setting m.key_size m.value_size history pruned start stop)
proof_of m history pruned (of_slice start stop) =
    as_proved slice_is (answer_of_slice m.pending m.setting m.key_size m.value_size history pruned start stop)

-- the answer that tells it
abbrev pub told_proof : Result Proved Unprovable → Answer
told_proof (Ok proved) = proof proved
told_proof (Err why) = refused (of_reason why)

-- the history, or the history with the pending commit
abbrev pub IsShownOf : History → Option Commit → History → Type 0
IsShownOf history None shown = shown ≡ history
IsShownOf history (Some commit) shown = (shown ≡ history) ⊎ (shown ≡ commit ∷ history)

-- Why a call of the device may refuse a request: a fault was injected in it, a cut of the power stands, a number ended,
-- or there was no memory.
abbrev pub MayRefuse : Power → Power → StoreError → Type 0
MayRefuse before after (refusals.Fault kind) = before.injected < after.injected
MayRefuse before after refusals.PowerCut = IsTrue (is_cut after.left)
MayRefuse before after refusals.NumberEnded = IsEnding before
MayRefuse before after refusals.Memory = ⊤
MayRefuse before after _ = ⊥

-- the commit of a batch: the latest map after its words, with its metadata
abbrev pub commit_of : List Word → Option (List ℕ) → History → Commit
commit_of words metadata history = record { map = map_after words (latest_map history); metadata = metadata }

-- the log of the history would have more than 2^62 operations
abbrev pub PassesLimit : History → Type 0
PassesLimit history = 2 ^ 62 < length (log_of history)

-- the pages of the history's log would end past the numbers of the disk
abbrev pub PassesDisk : Machine → History → Type 0
PassesDisk m history =
    2 ^ 64 ≤ physical_size m.page_size (length (log_bytes m.key_size m.value_size (log_of history))) + 4096

-- the pages of the first operation of a log would
abbrev pub PassesFirst : Machine → Type 0
PassesFirst m = 2 ^ 64 ≤ physical_size m.page_size (fixed_size m.key_size m.value_size) + 4096

-- why a read may be refused, of a value or of the operations that a proof is of: a fault came into a read
abbrev pub MayRefuseRead : Power → Power → StoreError → Type 0
MayRefuseRead before after (refusals.Fault kind) = (before.injected < after.injected) × IsOfRead kind
MayRefuseRead before after error = MayRefuse before after error

-- why an opening may be refused
abbrev pub MayRefuseOpening : Machine → Power → Power → StoreError → Type 0
MayRefuseOpening m before after refusals.NumberEnded = IsEndingOpening before ⊎ PassesFirst m
MayRefuseOpening m before after error = MayRefuse before after error

-- why a commit that leads to this history may be refused before anything is appended: a read was, the log would pass
-- its limit, or there was no memory
abbrev pub MayRefuseBatch : Machine → Power → Power → History → StoreError → Type 0
MayRefuseBatch m before after next refusals.NumberEnded = IsEnding before ⊎ PassesLimit next
MayRefuseBatch m before after next error = MayRefuseRead before after error

-- and why while it is made durable: a fault came into a write or a sync, a cut of the power stands, a number ended, or
-- there was no memory
abbrev pub MayRefuseAppend : Machine → Power → Power → History → StoreError → Type 0
MayRefuseAppend m before after next (refusals.Fault kind) = (before.injected < after.injected) × IsOfChange kind
MayRefuseAppend m before after next refusals.NumberEnded = IsEnding before ⊎ PassesDisk m next
MayRefuseAppend m before after next error = MayRefuse before after error

-- An opening shows the history that stands, with the pending commit or without it, and no cut stood before; or it is
-- refused, and nothing changes.
abbrev pub IsOpening : Machine → Power → Power → History → Option Commit → Answer → State → Type 0
IsOpening m before after history pending answer next =
    ((answer ≡ opened) × IsFalse (is_cut before.left)
    × ((shown : History) × IsShownOf history pending shown × (next ≡ live shown 0)))
    ⊎ ((error : StoreError) × (answer ≡ refused error) × (next ≡ closed history pending)
    × MayRefuseOpening m before after error)

-- a closed session can only be opened, and crash, which ends a cut
abbrev pub IsStepClosed : Machine → Power → Power → History → Option Commit → Request → Answer → State → Type 0
IsStepClosed m before after history pending ask_open answer next = IsOpening m before after history pending answer next
IsStepClosed m before after history pending ask_crash answer next =
    (answer ≡ has_crashed) × (next ≡ closed history pending) × IsCrash before after
IsStepClosed m before after history pending ask_config answer next =
    (answer ≡ is_set) × (next ≡ closed history pending) × (after ≡ before)
IsStepClosed m before after history pending (ask_cut calls) answer next =
    (answer ≡ is_set) × (next ≡ closed history pending) × (after ≡ asked_to_cut calls before)
IsStepClosed m before after history pending _ answer next =
    (answer ≡ not_open) × (next ≡ closed history pending) × (after ≡ before)

-- In doubt an opening shows a history that goes on behind the log of this one, and no cut stood before; or it is
-- refused, also where what it shows is the log of no history, and the doubt stays.
abbrev pub IsOpeningInDoubt : Machine → Power → Power → History → Answer → State → Type 0
IsOpeningInDoubt m before after history answer next =
    ((answer ≡ opened) × IsFalse (is_cut before.left)
    × ((shown : History) × Begins history shown × (next ≡ live shown 0)))
    ⊎ ((error : StoreError) × (answer ≡ refused error) × (next ≡ doubtful history)
    × ((error ≡ refusals.Corrupt) ⊎ MayRefuseOpening m before after error))

-- all else is as without it
abbrev pub IsStepInDoubt : Machine → Power → Power → History → Request → Answer → State → Type 0
IsStepInDoubt m before after history ask_open answer next = IsOpeningInDoubt m before after history answer next
IsStepInDoubt m before after history ask_crash answer next =
    (answer ≡ has_crashed) × (next ≡ doubtful history) × IsCrash before after
IsStepInDoubt m before after history ask_config answer next =
    (answer ≡ is_set) × (next ≡ doubtful history) × (after ≡ before)
IsStepInDoubt m before after history (ask_cut calls) answer next =
    (answer ≡ is_set) × (next ≡ doubtful history) × (after ≡ asked_to_cut calls before)
IsStepInDoubt m before after history _ answer next = (answer ≡ not_open) × (next ≡ doubtful history) × (after ≡ before)

-- A commit is in, with the root of the history with it, and no cut stood before; or it is refused before anything is
-- appended, and the store is as it was, as where the log would pass 2^62 operations; or while it is made durable, and
-- the store has failed.
abbrev pub IsCommitting : Machine → Power → Power → History → ℕ → List Word → Option (List ℕ) → Answer → State → Type 0
IsCommitting m before after history pruned words metadata answer next =
    let later = commit_after words metadata history in
    ((answer ≡ committed (root_of_history m.setting m.key_size m.value_size later)) × (next ≡ live later pruned)
    × (length (log_of later) ≤ 2 ^ 62) × IsFalse (is_cut before.left))
    ⊎ ((error : StoreError) × (answer ≡ refused error)
    × (((next ≡ live history pruned) × MayRefuseBatch m before after later error)
    ⊎ ((next ≡ failed history (commit_of words metadata history)) × (length (log_of later) ≤ 2 ^ 62)
    × MayRefuseAppend m before after later error)))

-- Pruning up to a location keeps all but the chunks that are settled before it, and changes nothing else; it is refused
-- past the floor, or out of memory.
abbrev pub IsPruning : Machine → History → ℕ → ℕ → Answer → State → Type 0
IsPruning m history pruned location answer next =
    ((chunks : ℕ) × (answer ≡ pruned_to chunks) × (next ≡ live history chunks) × (location ≤ floor_of history)
    × IsPrunedUpTo m.setting history pruned location chunks)
    ⊎ ((answer ≡ refused refusals.PastFloor) × (next ≡ live history pruned) × (floor_of history < location))
    ⊎ ((answer ≡ refused refusals.Memory) × (next ≡ live history pruned) × (location ≤ floor_of history))

-- a step of an open store that has not failed
abbrev pub IsStepLive : Machine → Power → Power → History → ℕ → Request → Answer → State → Type 0
IsStepLive m before after history pruned ask_open answer next =
    (answer ≡ still_open) × (next ≡ live history pruned) × (after ≡ before)
IsStepLive m before after history pruned ask_crash answer next =
    (answer ≡ still_open) × (next ≡ live history pruned) × (after ≡ before)
IsStepLive m before after history pruned ask_config answer next =
    (answer ≡ is_set) × (next ≡ live history pruned) × (after ≡ before)
IsStepLive m before after history pruned (ask_cut calls) answer next =
    (answer ≡ is_set) × (next ≡ live history pruned) × (after ≡ asked_to_cut calls before)
IsStepLive m before after history pruned ask_close answer next =
    (answer ≡ has_closed) × (next ≡ closed history None) × (after ≡ before)
IsStepLive m before after history pruned (ask_commit words metadata) answer next =
    IsCommitting m before after history pruned words metadata answer next
IsStepLive m before after history pruned (ask_get key) answer next =
    (next ≡ live history pruned) × (after.calls ≡ before.calls)
    × ((answer ≡ value (value_at (latest_map history) key))
    ⊎ ((error : StoreError) × (answer ≡ refused error) × MayRefuseRead before after error))
IsStepLive m before after history pruned (ask_proof question) answer next =
    (next ≡ live history pruned) × (after.calls ≡ before.calls)
    × ((answer ≡ told_proof (proof_of m history pruned question))
    ⊎ ((error : StoreError) × (answer ≡ refused error) × MayRefuseRead before after error))
IsStepLive m before after history pruned (ask_prune location) answer next =
    IsPruning m history pruned location answer next × (after ≡ before)
IsStepLive m before after history pruned ask_root answer next =
    (answer ≡ root_is (root_of_history m.setting m.key_size m.value_size history)) × (next ≡ live history pruned)
    × (after ≡ before)
IsStepLive m before after history pruned ask_commits answer next =
    (answer ≡ commits_are (length history)) × (next ≡ live history pruned) × (after ≡ before)
IsStepLive m before after history pruned ask_floor answer next =
    (answer ≡ floor_is (floor_of history)) × (next ≡ live history pruned) × (after ≡ before)
IsStepLive m before after history pruned ask_len answer next =
    (answer ≡ len_is (length (log_of history))) × (next ≡ live history pruned) × (after ≡ before)

-- a failed store can only be closed
abbrev pub IsStepFailed : Power → Power → History → Commit → Request → Answer → State → Type 0
IsStepFailed before after history commit ask_open answer next =
    (answer ≡ still_open) × (next ≡ failed history commit) × (after ≡ before)
IsStepFailed before after history commit ask_crash answer next =
    (answer ≡ still_open) × (next ≡ failed history commit) × (after ≡ before)
IsStepFailed before after history commit ask_config answer next =
    (answer ≡ is_set) × (next ≡ failed history commit) × (after ≡ before)
IsStepFailed before after history commit (ask_cut calls) answer next =
    (answer ≡ is_set) × (next ≡ failed history commit) × (after ≡ asked_to_cut calls before)
IsStepFailed before after history commit ask_close answer next =
    (answer ≡ has_closed) × (next ≡ closed history (Some commit)) × (after ≡ before)
IsStepFailed before after history commit _ answer next =
    (answer ≡ refused refusals.Failed) × (next ≡ failed history commit) × (after ≡ before)

-- One step, from a state to the next, with the power before it and after it.
abbrev pub IsStep : Machine → Power → Power → State → Request → Answer → State → Type 0
IsStep m before after (closed history pending) request answer next =
    IsStepClosed m before after history pending request answer next
IsStep m before after (live history pruned) request answer next =
    IsStepLive m before after history pruned request answer next
IsStep m before after (failed history commit) request answer next =
    IsStepFailed before after history commit request answer next
IsStep m before after (doubtful history) request answer next = IsStepInDoubt m before after history request answer next

-- how many openings a request may make
abbrev pub openings_in : Request → ℕ
openings_in ask_open = 1
openings_in request = 0

-- What a request makes of the power without its calls: a cut is asked for, or a crash ends it.
abbrev pub turned : Request → Answer → Power → Power
turned (ask_cut calls) answer power = asked_to_cut calls power
turned ask_crash has_crashed power = record power { left = None; refused = 0 }
turned request answer power = power

-- The power before a step and after it: a fault was injected in it where its answer tells of one, and a cut refused a
-- call where it tells of that, and no more; its calls use up what a cut lets through, and are recorded. So in a run
-- there are as many answers that tell of an injected fault as faults were injected; one that tells of a cut comes only
-- after so many calls as were asked for since the last crash; and an opening says that a number ends only after so many
-- openings, or calls that left so many bytes.
abbrev pub Passes : Request → Answer → Power → Power → Type 0
Passes request answer before after =
    Leaves (openings_in request) (refusal_in answer) (turned request answer before) after

-- A run: an answer for each request, one step after the other; each step meets the power that the one before left, and
-- the state that it left, as that is seen.
abbrev pub IsRunSeen : (State → State) → Machine → Power → State → List Request → List Answer → Power → State → Type 0
IsRunSeen see m before first [] [] after last = (after ≡ before) × (last ≡ first)
IsRunSeen see m before first [] (answer ∷ answers) after last = ⊥
IsRunSeen see m before first (request ∷ requests) [] after last = ⊥
IsRunSeen see m before first (request ∷ requests) (answer ∷ answers) after last =
    (now : Power) × (next : State) × IsStep m before now (see first) request answer next
    × Passes request answer before now × IsRunSeen see m now next requests answers after last

-- a run in which no opening is by chance
abbrev pub IsRun : Machine → Power → State → List Request → List Answer → Power → State → Type 0
IsRun m before first requests answers after last = IsRunSeen as_it_is m before first requests answers after last

-- a run in which each opening may be
abbrev pub IsRunInDoubt : Machine → Power → State → List Request → List Answer → Power → State → Type 0
IsRunInDoubt m before first requests answers after last = IsRunSeen in_doubt m before first requests answers after last

-- how many answers tell of an injected fault
abbrev pub faults_told : List Answer → ℕ
faults_told [] = 0
faults_told (answer ∷ answers) = faults_told answers + faults_in (refusal_in answer)

-- how many openings requests may make
abbrev pub openings_of : List Request → ℕ
openings_of [] = 0
openings_of (request ∷ requests) = openings_of requests + openings_in request

-- no request asks for a cut of the power
abbrev pub AskNoCut : List Request → Type 0
AskNoCut [] = ⊤
AskNoCut (ask_cut calls ∷ requests) = ⊥
AskNoCut (request ∷ requests) = AskNoCut requests

-- no answer tells of one
abbrev pub TellNoCut : List Answer → Type 0
TellNoCut [] = ⊤
TellNoCut (refused refusals.PowerCut ∷ answers) = ⊥
TellNoCut (answer ∷ answers) = TellNoCut answers

-- no request asks for a crash
abbrev pub AskNoCrash : List Request → Type 0
AskNoCrash [] = ⊤
AskNoCrash (ask_crash ∷ requests) = ⊥
AskNoCrash (request ∷ requests) = AskNoCrash requests

-- the request is not to prune
abbrev pub AsksNoPrune : Request → Type 0
AsksNoPrune (ask_prune location) = ⊥
AsksNoPrune _ = ⊤

-- what it asks a proof of does not stand before so many chunks
abbrev pub IsBehind : Machine → ℕ → Request → Type 0
IsBehind m pruned (ask_proof (of_operation location)) = IsFalse (is_before_chunks m.setting pruned location)
IsBehind m pruned (ask_proof (of_range start stop)) = IsFalse (is_before_chunks m.setting pruned start)
IsBehind m pruned (ask_proof (of_slice start stop)) = IsFalse (is_before_chunks m.setting pruned start)
IsBehind m pruned _ = ⊤

-- an opening or a commit has succeeded
abbrev pub acknowledges : Answer → Bool
acknowledges opened = true
acknowledges (committed root) = true
acknowledges _ = false

-- none of them has
abbrev pub AcknowledgeNone : List Answer → Type 0
AcknowledgeNone [] = ⊤
AcknowledgeNone (answer ∷ answers) = IsFalse (acknowledges answer) × AcknowledgeNone answers

-- an answer of this kind, or a refusal
abbrev pub IsSaid : (Answer → Bool) → Answer → Type 0
IsSaid is_kind (refused error) = ⊤
IsSaid is_kind answer = IsTrue (is_kind answer)

abbrev pub is_opened : Answer → Bool
is_opened opened = true
is_opened _ = false

abbrev pub is_root_of_commit : Answer → Bool
is_root_of_commit (committed root) = true
is_root_of_commit _ = false

abbrev pub is_value : Answer → Bool
is_value (value found) = true
is_value _ = false

abbrev pub is_root : Answer → Bool
is_root (root_is root) = true
is_root _ = false

abbrev pub is_commits : Answer → Bool
is_commits (commits_are count) = true
is_commits _ = false

abbrev pub is_floor : Answer → Bool
is_floor (floor_is location) = true
is_floor _ = false

abbrev pub is_len : Answer → Bool
is_len (len_is count) = true
is_len _ = false

abbrev pub is_pruned : Answer → Bool
is_pruned (pruned_to chunks) = true
is_pruned _ = false

abbrev pub is_proof : Answer → Bool
is_proof (proof found) = true
is_proof _ = false

-- What kind of answer a request has, of a session with an open store or without one, whatever its openings show.
abbrev pub IsAnswerTo : Bool → Request → Answer → Type 0
IsAnswerTo is_open ask_config answer = answer ≡ is_set
IsAnswerTo is_open (ask_cut calls) answer = answer ≡ is_set
IsAnswerTo false ask_open answer = IsSaid is_opened answer
IsAnswerTo false ask_crash answer = answer ≡ has_crashed
IsAnswerTo false _ answer = answer ≡ not_open
IsAnswerTo true ask_open answer = answer ≡ still_open
IsAnswerTo true ask_crash answer = answer ≡ still_open
IsAnswerTo true ask_close answer = answer ≡ has_closed
IsAnswerTo true (ask_commit words metadata) answer = IsSaid is_root_of_commit answer
IsAnswerTo true (ask_get key) answer = IsSaid is_value answer
IsAnswerTo true ask_root answer = IsSaid is_root answer
IsAnswerTo true ask_commits answer = IsSaid is_commits answer
IsAnswerTo true ask_floor answer = IsSaid is_floor answer
IsAnswerTo true ask_len answer = IsSaid is_len answer
IsAnswerTo true (ask_prune location) answer = IsSaid is_pruned answer
IsAnswerTo true (ask_proof question) answer = IsSaid is_proof answer

-- whether a session has an open store after an answer, by whether it had one before
abbrev pub is_open_after : Bool → Answer → Bool
is_open_after before opened = true
is_open_after before has_closed = false
is_open_after before _ = before

-- An answer for each request, each of its request's kind.
abbrev pub AreAnswersTo : Bool → List Request → List Answer → Type 0
AreAnswersTo is_open [] [] = ⊤
AreAnswersTo is_open (request ∷ requests) (answer ∷ answers) =
    IsAnswerTo is_open request answer × AreAnswersTo (is_open_after is_open answer) requests answers
AreAnswersTo is_open _ _ = ⊥
