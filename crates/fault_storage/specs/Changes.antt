-- Writes and resizes that may fail: what each makes of a blob and its store, made or failed. What is drawn for one that
-- failed is drawn at once, by the settings of now.
use Rattle.std.specs.Prelude.{◌≡◌, ℕ, ◌+◌, ◌-◌, ◌^◌, ◌<◌, ◌≤◌, ◌⊎◌, ◌&&◌, min, max, nat_lt, Bool, true, false}
use Rattle.std.specs.Prelude.{if◌then◌else◌, Option, Some, None, Result, Ok, Err, List, length, replicate}
use Rattle.rand_core.specs.Stream.{Stream, next_u64}
use Rattle.fault_storage_parts.specs.declared.config.ResizeConfig.{ResizeConfig}
use Rattle.fault_storage_parts.specs.declared.config.WriteConfig.{WriteConfig}
use Rattle.fault_storage_parts.specs.declared.error.Call.{Call}
use Rattle.fault_storage_parts.specs.declared.error.Call.TheVariants.{Write, Resize}
use Rattle.fault_storage_parts.specs.declared.error.Error.{Error}
use Rattle.fault_storage_parts.specs.declared.error.Error.TheVariants.{Injected, NumberEnded, Memory}
use Rattle.fault_storage_parts.specs.declared.probability.Probability.{Probability}
use Rattle.fault_storage_parts.specs.Draws.{Rate, sample, kept_bytes, length_between}
use Rattle.fault_storage_parts.specs.DrawsCode.{rate_of, mode_of}
use Rattle.fault_storage_parts.specs.Files.{Mutation, written, fixed, resized_to, resized, with_bytes, with_kept}
use Rattle.fault_storage.specs.declared.faulty.Blob.{Blob}
use Rattle.fault_storage.specs.declared.faulty.Storage.{Storage}
use Rattle.fault_storage.specs.declared.storage.WriteMode.{WriteMode}
use Rattle.fault_storage.specs.declared.storage.WriteMode.TheVariants.{Plain, Sync}
use Rattle.fault_storage.specs.Stores.{Store, Handle, showing, issued, plain_write, fixed_write, synced_write, resizing}

-- a write that is made: of a plain one a crash keeps bytes by the settings of now
abbrev pub made_write : WriteConfig → WriteMode → ℕ → List ℕ → Handle → Store → Handle × Store
made_write config Plain offset bytes handle store =
    plain_write offset bytes (mode_of config.mode) (rate_of config.retention) handle store
made_write config Sync offset bytes handle store = synced_write offset bytes handle store

-- what it issues, and the live bytes after it
abbrev pub mutation_for : WriteConfig → WriteMode → ℕ → List ℕ → Mutation
mutation_for config Plain at bytes = written at bytes (mode_of config.mode) (rate_of config.retention)
mutation_for config Sync at bytes = fixed at bytes (replicate (length bytes) true)

abbrev pub shown_after : WriteMode → ℕ → List ℕ → List ℕ → List ℕ
shown_after Plain at bytes live = with_bytes at bytes live
shown_after Sync at bytes live = with_kept at bytes (replicate (length bytes) true) live

-- a write that fails: the bytes that are drawn are durable at once, and live
abbrev pub failed_write : WriteConfig → ℕ → List ℕ → Handle → Store → Stream → (Handle × Store) × Stream
failed_write config offset bytes handle store words =
    let drawn = kept_bytes (mode_of config.mode) (rate_of config.retention) (length bytes) words in
    (fixed_write offset bytes drawn.0 handle store, drawn.1)

-- how far a resize goes that fails: where the sample of its retention rate is true, to a length strictly between the
-- old and the new one, which takes a word, if there is one
abbrev pub failed_length : Rate → ℕ → ℕ → Stream → Option ℕ × Stream
failed_length retention old asked words =
    let drawn = sample retention words in let low = min old asked in let high = max old asked in
    if drawn.0 && nat_lt (low + 1) high then (
      Some (length_between low high (next_u64 drawn.1).0),
      (next_u64 drawn.1).1,
    ) else (None, drawn.1)

-- the whole file resized to a length: live at once, and a crash keeps it by this rate
abbrev pub resized_whole : Option ℕ → Rate → Handle → Store → Handle × Store
resized_whole None rate handle store = (handle, store)
resized_whole (Some all) rate handle store =
    (showing (resized all handle.live) handle, issued handle.number (resized_to all rate) store)

-- a resize that fails
abbrev pub failed_resize : ResizeConfig → ℕ → Handle → Store → Stream → (Handle × Store) × Stream
failed_resize config size handle store words =
    let gone = failed_length (rate_of config.retention) (length handle.live) (handle.offset + size) words in
    (resized_whole gone.0 (rate_of config.retention) handle store, gone.1)

-- A change of a blob and its store beside a generator. Refused as not made, since a number would pass its end or there
-- is no memory, it takes no word and changes nothing. Else one draw decides: it fails, and what it leaves may be drawn
-- too, or it is made.
abbrev pub IsDrawnChange : {R : Type 0} → (R → Stream) → Call → Probability → ℕ
    → (Handle → Store → Stream → (Handle × Store) × Stream)
    → (Handle → Store → Handle × Store) → Handle → Store → R → Result Unit Error → Handle → Store → R → Type 0
IsDrawnChange stream call rate end failed made blob store rng result changed left later =
    let drawn = sample (rate_of rate) (stream rng) in
    ((result ≡ Err NumberEnded) × (2 ^ 64 ≤ end) × (changed ≡ blob) × (left ≡ store) × (later ≡ rng))
    ⊎ ((result ≡ Err Memory) × (end < 2 ^ 64) × (changed ≡ blob) × (left ≡ store) × (later ≡ rng))
    ⊎ ((end < 2 ^ 64) × (drawn.0 ≡ true) × (result ≡ Err (Injected call))
    × (((changed, left), stream later) ≡ failed blob store drawn.1))
    ⊎ ((end < 2 ^ 64) × (drawn.0 ≡ false) × (result ≡ Ok tt) × ((changed, left) ≡ made blob store)
    × (stream later ≡ drawn.1))

-- the answer says that a fault was injected
abbrev pub is_injected : Result Unit Error → Bool
is_injected (Err (Injected call)) = true
is_injected _ = false

-- A change of a blob that may fail: as above, and a fault is counted. Where the count has ended, it is not made.
abbrev pub IsFaultyChange : {R : Type 0} → (R → Stream) → Call → Probability → ℕ
    → (Handle → Store → Stream → (Handle × Store) × Stream)
    → (Handle → Store → Handle × Store) → Blob Handle → Storage Store R → Result Unit Error → Blob Handle
    → Storage Store R → Type 0
IsFaultyChange stream call rate end failed made blob old result changed new =
    let drawn = sample (rate_of rate) (stream old.rng) in
    ((result ≡ Err NumberEnded) × ((old.injections ≡ 2 ^ 64 - 1) ⊎ (2 ^ 64 ≤ end)) × (changed ≡ blob) × (new ≡ old))
    ⊎ ((result ≡ Err Memory) × (old.injections < 2 ^ 64 - 1) × (end < 2 ^ 64) × (changed ≡ blob) × (new ≡ old))
    ⊎ ((old.injections < 2 ^ 64 - 1) × (end < 2 ^ 64) × (drawn.0 ≡ true) × (result ≡ Err (Injected call))
    × (((changed.inner, new.inner), stream new.rng) ≡ failed blob.inner old.inner drawn.1)
    × (new ≡ record old { inner = new.inner; rng = new.rng; injections = old.injections + 1 }))
    ⊎ ((old.injections < 2 ^ 64 - 1) × (end < 2 ^ 64) × (drawn.0 ≡ false) × (result ≡ Ok tt)
    × ((changed.inner, new.inner) ≡ made blob.inner old.inner) × (new ≡ record old { inner = new.inner; rng = new.rng })
    × (stream new.rng ≡ drawn.1))

-- a write, and a resize, by the settings of the store
abbrev pub FaultyWrites : {R : Type 0} → (R → Stream) → Blob Handle → ℕ → List ℕ → WriteMode → Storage Store R
    → Result Unit Error → Blob Handle
    → Storage Store R → Type 0
FaultyWrites stream blob offset bytes mode old result changed new =
    IsFaultyChange stream Write old.config.write.rate (blob.inner.offset + offset
    + length bytes) (failed_write old.config.write offset bytes)
    (made_write old.config.write mode offset bytes) blob old result changed new

abbrev pub FaultyResizes : {R : Type 0} → (R → Stream) → Blob Handle → ℕ → Storage Store R → Result Unit Error
    → Blob Handle → Storage Store R → Type 0
FaultyResizes stream blob size old result changed new =
    IsFaultyChange stream Resize old.config.resize.rate (blob.inner.offset
    + size) (failed_resize old.config.resize size)
    (resizing size (rate_of old.config.resize.retention)) blob old result changed new
