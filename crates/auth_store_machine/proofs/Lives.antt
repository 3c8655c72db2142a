-- What a store's parts say of what it is seen as.
use Rattle.std.proofs.Common.{◌≡◌, ◌⊎◌, ◌+◌, ◌<◌, ◌≤◌, ℕ, List}
use Rattle.std.proofs.Common.{Option, None, Some, Result, Ok, Err, ap, refl, subst, sym, ◌∙◌}
use Rattle.std.specs.Prelude.{IfErr, IfOk, IfSome, IsSomeAnd, is_some, length, option_map, true}
use Rattle.fault_storage_parts.specs.Crc32.{crc32}
use Rattle.paged_blob_parts.specs.Caches.{Cache}
use Rattle.paged_blob_parts.specs.CachedContent.{HoldsPagesOf}
use Rattle.paged_blob_parts.specs.Calls.{Call}
use Rattle.paged_blob_parts.specs.Writers.{IsWriter, WriterState, written}
use Rattle.state_ops.specs.Operation.{Operation}
use Rattle.state_theory.specs.Canonical.{Setting}
use Rattle.auth_store_device.specs.Devices.{DeviceState, failures_of}
use Rattle.auth_store_parts.specs.History.{AreStates, History, history_of, log_of}
use Rattle.auth_store_parts.specs.Laws.Logs.{history_of-log_of}
use Rattle.auth_store_ledger.specs.Store.{IsLedgerOf, IsPrunedUpTo, floor_of}
use Rattle.auth_store_proving.specs.declared.error.Unprovable.{Unprovable as NoProof}
use Rattle.auth_store_log.specs.Records.{AreRecorded, Format, history_bytes}
use Rattle.auth_store_machine.specs.declared.error.StoreError.{StoreError}
use Rattle.auth_store_machine.specs.declared.error.StoreError.TheVariants.{Fault, PowerCut, NumberEnded, Memory}
use Rattle.auth_store_machine.specs.declared.error.StoreError.TheVariants.{Corrupt, Failed, PastFloor, Inactive}
use Rattle.auth_store_machine.specs.declared.error.StoreError.TheVariants.{OutOfRange, Pruned, EmptyRange, Header}
use Rattle.auth_store_machine.specs.Machine.{Proved, as_proved}
use Rattle.auth_store_machine.specs.Reads.{IsLiveOn, IsProofRefusal, LiveParts, live_on, log_in, operations_in, seen_on}
use Rattle.auth_store_machine.specs.Standing.{AnswersProof, power_of}
use Rattle.auth_store_machine.specs.Stores.{IsCache, IsLive, IsLiveAt, IsPruned, IsStore, IsWritten, LiveState, OpeningsShow, StoreState, with_pruned}
use Rattle.auth_store_machine.proofs.Logs.{log_again}
use Rattle.auth_store_machine.proofs.OnDevice.{one_history, read_on_device, store_of}

-- A writer of the log of a history, all of it durable, with a ledger of it, is live.
pub live_with : (setting : Setting) (format : Format) (calls : List Call) (cache : Cache) (parts : LiveParts) (history : History)
    → IsWriter crc32 calls parts.writer → written crc32 calls parts.writer ≡ history_bytes format history
    → parts.writer.synced ≡ length (written crc32 calls parts.writer) → parts.writer.page_size ≡ cache.page_size + 12
    → parts.writer.blob_id < cache.next_id → HoldsPagesOf (written crc32 calls parts.writer) cache parts.writer.blob_id
    → IsLedgerOf setting format (log_of history) parts.ledger → AreRecorded format (log_of history) → AreStates history
    → IsLiveOn setting format calls cache parts × ((live_on format calls parts).history ≡ history)
live_with setting format calls cache parts history writer content synced sized named cached ledger recorded states =
    let log : log_in format calls parts.writer ≡ log_of history =
    ap (operations_in format) content ∙ log_again format (log_of history) recorded in
    let same : history_of (log_in format calls parts.writer) ≡ history = ap history_of log ∙ history_of-log_of history states in
    let bytes : written crc32 calls parts.writer ≡ history_bytes format (history_of (log_in format calls parts.writer)) =
    content ∙ ap (history_bytes format) (sym same) in (
      record {
        live = record {
          writer = writer;
          content = bytes;
          synced = synced ∙ ap length bytes;
          sized = sized;
          named = named;
          cached = subst (λ b. HoldsPagesOf b cache parts.writer.blob_id) bytes cached;
          log = subst (IsWritten format) (sym same) (record { states = states; recorded = recorded; few = ledger.keeps.few });
        };
        ledger = subst (λ (l : List Operation). IsLedgerOf setting format l parts.ledger) (sym log) ledger;
      },
      same,
    )

-- how many chunks are pruned of the parts
pub is_pruned : (format : Format) (calls : List Call) (parts : Option LiveParts) (pruned : ℕ)
    → IfSome parts (λ now. now.ledger.kept.bits.pruned ≡ pruned) → IsPruned (seen_on format calls parts) pruned
is_pruned format calls None pruned is = tt
is_pruned format calls (Some now) pruned is = is

-- parts that live are live
pub are_live : (setting : Setting) (format : Format) (calls : List Call) (cache : Cache) (parts : Option LiveParts)
    → IfSome parts (IsLiveOn setting format calls cache) → IfSome (seen_on format calls parts) (IsLive format calls cache)
are_live setting format calls cache None is = tt
are_live setting format calls cache (Some now) is = is.live

-- a store that was live stays so through calls that its blob does not record
pub stays_at : {R : Type 0} (format : Format) (device new : DeviceState R) (cache names : Cache) (parts : Option LiveParts) (pruned : ℕ)
    (at : StoreState R) (now : LiveParts) → store_of device cache (seen_on format device.calls parts) pruned ≡ at → parts ≡ Some now
    → new.calls ≡ device.calls → (history : History) → IsLiveAt at history
    → IsLiveAt (store_of new names (seen_on format new.calls parts) pruned) history
stays_at format device new cache names parts pruned at now view is same history stands = (
  live_on format new.calls now,
  ap (seen_on format new.calls) is,
  ap (λ (calls : List Call). (live_on format calls now).history) same
      ∙ one_history device cache (seen_on format device.calls parts) pruned at (live_on format device.calls now) history view
      (ap (seen_on format device.calls) is) stands,
)

-- one that was live has not failed
pub not_failed : {R : Type 0} (format : Format) (device : DeviceState R) (cache : Cache) (parts : Option LiveParts) (pruned : ℕ)
    (at : StoreState R) (now : LiveParts) → store_of device cache (seen_on format device.calls parts) pruned ≡ at → parts ≡ Some now
    → at.live ≡ None → ⊥
not_failed format device cache parts pruned at now view is none =
    let both : Some (live_on format device.calls now) ≡ None =
    sym (ap (seen_on format device.calls) is) ∙ (ap (λ s. s.live) view ∙ none) in cc

pub has_failed : {R : Type 0} (at : StoreState R) (history : History) → at.live ≡ None → IsLiveAt at history → ⊥
has_failed at history none (now, is, same) = let both : None ≡ Some now = sym none ∙ is in cc

-- a store that failed before has no parts
pub no_parts : (format : Format) (calls : List Call) (parts : Option LiveParts) → seen_on format calls parts ≡ None → parts ≡ None
no_parts format calls None is = refl
no_parts format calls (Some now) is = absurd (cc)

-- ---- pruned

-- parts that are pruned keep their writer, and their ledger is that of the log
module _ (setting : Setting) (format : Format) (calls : List Call) (cache : Cache) where
  pub pruned_live : (old new : Option LiveParts) (location chunks : ℕ)
      → option_map (λ (now : LiveParts). now.writer) new ≡ option_map (λ (was : LiveParts). was.writer) old
      → IfSome old (λ was. (log : List Operation) → IsLedgerOf setting format log was.ledger
      → IsSomeAnd new (λ now. IsLedgerOf setting format log now.ledger) × (location ≤ floor_of (history_of log))
      × IsPrunedUpTo setting (history_of log) was.ledger.kept.bits.pruned location chunks)
      → IfSome old (IsLiveOn setting format calls cache) → IfSome new (IsLiveOn setting format calls cache)
  pruned_live None None location chunks same keeps is = tt
  pruned_live None (Some now) location chunks same keeps is = absurd (cc)
  pruned_live (Some was) None location chunks same keeps is = tt
  pruned_live (Some was) (Some now) location chunks same keeps is =
      let writer : now.writer ≡ was.writer = cc in
      let of = (keeps (log_in format calls was.writer) is.ledger).0 in
      subst (λ (w : WriterState). IsLiveOn setting format calls cache (record { ledger = now.ledger; writer = w })) (sym writer) (record {
        live = record {
          writer = is.live.writer;
          content = is.live.content;
          synced = is.live.synced;
          sized = is.live.sized;
          named = is.live.named;
          cached = is.live.cached;
          log = is.live.log;
        };
        ledger = of;
      })

  -- and are seen as before, with so many chunks pruned
  pub seen_pruned : (old new : Option LiveParts) (location chunks : ℕ)
      → option_map (λ (now : LiveParts). now.writer) new ≡ option_map (λ (was : LiveParts). was.writer) old
      → IfSome old (λ was. (log : List Operation) → IsLedgerOf setting format log was.ledger
      → IsSomeAnd new (λ now. IsLedgerOf setting format log now.ledger) × (location ≤ floor_of (history_of log))
      × IsPrunedUpTo setting (history_of log) was.ledger.kept.bits.pruned location chunks)
      → IfSome old (IsLiveOn setting format calls cache) → IfSome new (λ now. now.ledger.kept.bits.pruned ≡ chunks)
      → seen_on format calls new ≡ with_pruned (seen_on format calls old) chunks
  seen_pruned None None location chunks same keeps is count = refl
  seen_pruned None (Some now) location chunks same keeps is count = absurd (cc)
  seen_pruned (Some was) None location chunks same keeps is count = absurd (keeps (log_in format calls was.writer) is.ledger).0
  seen_pruned (Some was) (Some now) location chunks same keeps is count =
      let writer : now.writer ≡ was.writer = cc in
      let live : WriterState → ℕ → LiveState = λ w n. record { history = history_of (log_in format calls w); writer = w; pruned = n } in
      ap (λ (w : WriterState). Some (live w now.ledger.kept.bits.pruned)) writer ∙ ap (λ (n : ℕ). Some (live was.writer n)) count

-- ---- proofs

-- what a request for a proof answers, on a device
module _ {R P A : Type 0} (old new : DeviceState R) (cache now : Cache) (wrap : A → Proved) (meaning : P → A) (expected : Result A NoProof) where
  pub answers_on_device : (result : Result P StoreError) → (0 < new.refused → new.left ≡ Some 0)
      → IfOk result (λ proved. expected ≡ Ok (meaning proved))
      → IfErr result (IsProofRefusal (failures_of old) (failures_of new) expected)
      → AnswersProof (power_of old cache) (power_of new now) (λ proved. wrap (meaning proved)) (as_proved wrap expected) result
  answers_on_device (Ok proved) law is cause = ap (as_proved wrap) is
  answers_on_device (Err (Fault kind)) law is cause = read_on_device old new cache now (Fault kind) law cause
  answers_on_device (Err PowerCut) law is cause = read_on_device old new cache now PowerCut law cause
  answers_on_device (Err NumberEnded) law is cause = read_on_device old new cache now NumberEnded law cause
  answers_on_device (Err Memory) law is cause = tt
  answers_on_device (Err Corrupt) law is cause = read_on_device old new cache now Corrupt law cause
  answers_on_device (Err Failed) law is cause = read_on_device old new cache now Failed law cause
  answers_on_device (Err PastFloor) law is cause = read_on_device old new cache now PastFloor law cause
  answers_on_device (Err Inactive) law is cause = ap (as_proved wrap) cause
  answers_on_device (Err OutOfRange) law is cause = ap (as_proved wrap) cause
  answers_on_device (Err Pruned) law is cause = ap (as_proved wrap) cause
  answers_on_device (Err EmptyRange) law is cause = ap (as_proved wrap) cause
  answers_on_device (Err (Header fault)) law is cause = read_on_device old new cache now (Header fault) law cause

-- ---- what a ledger says

-- what holds of a ledger of each log holds of the history of a live store
pub of_history : {R : Type 0} (setting : Setting) (format : Format) (P : History → Type 0) (device : DeviceState R) (cache : Cache)
    (parts : Option LiveParts) (pruned : ℕ) (at : StoreState R) (now made : LiveParts) (history : History)
    → store_of device cache (seen_on format device.calls parts) pruned ≡ at → parts ≡ Some now
    → IfSome parts (IsLiveOn setting format device.calls cache) → made ≡ now → IsLiveAt at history
    → ((log : List Operation) → IsLedgerOf setting format log made.ledger → P (history_of log)) → P history
of_history setting format P device cache parts pruned at now made history view has lives same stands holds =
    let is : IsLiveOn setting format device.calls cache now =
    subst (λ (l : Option LiveParts). IfSome l (IsLiveOn setting format device.calls cache)) has lives in
    let log : List Operation = log_in format device.calls now.writer in
    let one : history_of log ≡ history =
    one_history device cache (seen_on format device.calls parts) pruned at (live_on format device.calls now) history view
    (ap (seen_on format device.calls) has) stands in
    subst P one (holds log (subst (λ (p : LiveParts). IsLedgerOf setting format log p.ledger) (sym same) is.ledger))

-- what a prune of a live store answers
module _ {R : Type 0} (setting : Setting) (format : Format) (device : DeviceState R) (cache : Cache) (parts : Option LiveParts) where
  pub pruned_of : (new : Option LiveParts) (pruned : ℕ) (at : StoreState R) (location chunks : ℕ) (history : History)
      → store_of device cache (seen_on format device.calls parts) pruned ≡ at → IsLiveAt at history
      → IfSome parts (IsLiveOn setting format device.calls cache) → IfSome parts (λ now. now.ledger.kept.bits.pruned ≡ pruned)
      → IfSome parts (λ was. (log : List Operation) → IsLedgerOf setting format log was.ledger
      → IsSomeAnd new (λ now. IsLedgerOf setting format log now.ledger) × (location ≤ floor_of (history_of log))
      × IsPrunedUpTo setting (history_of log) was.ledger.kept.bits.pruned location chunks)
      → (location ≤ floor_of history) × IsPrunedUpTo setting history at.pruned location chunks
  pruned_of new pruned at location chunks history view stands lives are said = by parts refl
    where
      by : (p : Option LiveParts) → parts ≡ p
          → (location ≤ floor_of history) × IsPrunedUpTo setting history at.pruned location chunks
      by None none =
          let gone : None ≡ at.live = ap (seen_on format device.calls) (sym none) ∙ ap (λ s. s.live) view in
          absurd (has_failed at history (sym gone) stands)
      by (Some was) has =
          let is = subst (λ (l : Option LiveParts). IfSome l (IsLiveOn setting format device.calls cache)) has lives in
          let number = subst (λ (l : Option LiveParts). IfSome l (λ now. now.ledger.kept.bits.pruned ≡ pruned)) has are in
          let log : List Operation = log_in format device.calls was.writer in
          let all = subst (λ (l : Option LiveParts). IfSome l (λ was. (log : List Operation) → IsLedgerOf setting format log was.ledger
          → IsSomeAnd new (λ now. IsLedgerOf setting format log now.ledger) × (location ≤ floor_of (history_of log))
          × IsPrunedUpTo setting (history_of log) was.ledger.kept.bits.pruned location chunks)) has said log is.ledger in
          let one : history_of log ≡ history =
          one_history device cache (seen_on format device.calls parts) pruned at (live_on format device.calls was) history view
          (ap (seen_on format device.calls) has) stands in (
            subst (λ (h : History). location ≤ floor_of h) one all.1,
            subst (λ (n : ℕ). IsPrunedUpTo setting history n location chunks) (number ∙ ap (λ s. s.pruned) view)
                (subst (λ (h : History). IsPrunedUpTo setting h was.ledger.kept.bits.pruned location chunks) one all.2),
          )

  -- and why it is refused
  pub unpruned_of : (pruned : ℕ) (at : StoreState R) (location : ℕ) (Past Lacks : Type 0) (history : History)
      → store_of device cache (seen_on format device.calls parts) pruned ≡ at → IsLiveAt at history
      → IfSome parts (IsLiveOn setting format device.calls cache)
      → IfSome parts (λ was. (log : List Operation) → IsLedgerOf setting format log was.ledger
      → (Past × (floor_of (history_of log) < location)) ⊎ (Lacks × (location ≤ floor_of (history_of log))))
      → (Past × (floor_of history < location)) ⊎ (Lacks × (location ≤ floor_of history))
  unpruned_of pruned at location Past Lacks history view stands lives said = by parts refl
    where
      by : (p : Option LiveParts) → parts ≡ p → (Past × (floor_of history < location)) ⊎ (Lacks × (location ≤ floor_of history))
      by None none =
          let gone : None ≡ at.live = ap (seen_on format device.calls) (sym none) ∙ ap (λ s. s.live) view in
          absurd (has_failed at history (sym gone) stands)
      by (Some was) has =
          let is = subst (λ (l : Option LiveParts). IfSome l (IsLiveOn setting format device.calls cache)) has lives in
          let log : List Operation = log_in format device.calls was.writer in
          let all = subst (λ (l : Option LiveParts). IfSome l (λ was. (log : List Operation) → IsLedgerOf setting format log was.ledger
          → (Past × (floor_of (history_of log) < location)) ⊎ (Lacks × (location ≤ floor_of (history_of log))))) has said log is.ledger in
          let one : history_of log ≡ history =
          one_history device cache (seen_on format device.calls parts) pruned at (live_on format device.calls was) history view
          (ap (seen_on format device.calls) has) stands in
          subst (λ (h : History). (Past × (floor_of h < location)) ⊎ (Lacks × (location ≤ floor_of h))) one all

-- ---- the whole store

pub is_store : {R : Type 0} (setting : Setting) (format : Format) (device : DeviceState R) (cache : Cache) (parts : Option LiveParts) (pruned : ℕ)
    → is_some device.log ≡ true → IsCache cache → IfSome parts (IsLiveOn setting format device.calls cache)
    → IsStore format (store_of device cache (seen_on format device.calls parts) pruned)
is_store setting format device cache parts pruned opened named lives =
    record { opened = opened; cache = named; live = are_live setting format device.calls cache parts lives }

-- openings show the history of one that is live
pub parts_shown : {R : Type 0} (setting : Setting) (format : Format) (device : DeviceState R) (cache : Cache) (parts : Option LiveParts)
    (pruned : ℕ) (at : StoreState R) (history : History) → store_of device cache (seen_on format device.calls parts) pruned ≡ at
    → IfSome parts (IsLiveOn setting format device.calls cache)
    → IfSome parts (λ now. (calls : List Call) (cache : Cache) → IsLive format calls cache (live_on format calls now)
    → OpeningsShow format (cache.page_size + 12) (live_on format calls now).history None calls)
    → IsLiveAt at history → OpeningsShow format (at.cache.page_size + 12) history None at.device.calls
parts_shown {R = R} setting format device cache (Some now) pruned at history view is shown live =
    subst (λ (s : StoreState R). OpeningsShow format (s.cache.page_size + 12) history None s.device.calls) view
    (subst (λ h. OpeningsShow format (cache.page_size + 12) h None device.calls)
    (one_history device cache (seen_on format device.calls (Some now)) pruned at (live_on format device.calls now) history view refl live)
    (shown device.calls cache is.live))
parts_shown setting format device cache None pruned at history view is shown live =
    absurd (has_failed at history (ap (λ s. s.live) (sym view)) live)

-- calls that change nothing of what was called leave it what it was
pub kept_through : {R : Type 0} (setting : Setting) (format : Format) (device new : DeviceState R) (cache : Cache) (parts : Option LiveParts)
    → new.calls ≡ device.calls → IfSome parts (IsLiveOn setting format device.calls cache)
    → IfSome parts (IsLiveOn setting format new.calls cache)
kept_through setting format device new cache parts same is =
    subst (λ (calls : List Call). IfSome parts (IsLiveOn setting format calls cache)) (sym same) is
