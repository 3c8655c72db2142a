-- The open log is carried on by each call that the store took.
use Rattle.std.proofs.Common.{◌≡◌, ℕ, ◌+◌, ◌-◌, ◌^◌, ◌<◌, ◌≤◌, min, max}
use Rattle.std.proofs.Common.{◌&&◌, nat_lt, Bool, true, false, cond, Option, Some, None, Result, Ok, Err}
use Rattle.std.proofs.Common.{List, [], ◌∷◌, length, take, drop, sym, ◌∙◌, ap, subst, inl, inr, refl, arith}
use Rattle.std.proofs.lemmas.Bool.{leb-true, leb-false, and_parts}
use Rattle.rand_core.specs.Stream.{Stream, next_u64}
use Rattle.fault_storage_parts.specs.Draws.{sample, kept_bytes, length_between}
use Rattle.fault_storage_parts.specs.DrawsCode.{rate_of, mode_of}
use Rattle.fault_storage_parts.specs.declared.config.WriteConfig.{WriteConfig}
use Rattle.fault_storage_parts.specs.declared.config.ResizeConfig.{ResizeConfig}
use Rattle.fault_storage_parts.specs.declared.error.Call.{Call as CallBelow}
use Rattle.fault_storage_parts.specs.declared.error.Call.TheVariants.{Read, Write, Sync, Resize}
use Rattle.fault_storage_parts.specs.declared.error.Error.{Error as StorageError}
use Rattle.fault_storage_parts.specs.declared.error.Error.TheVariants.{Injected, Memory}
use Rattle.fault_storage_parts.specs.declared.probability.Probability.{Probability}
use Rattle.fault_storage.specs.declared.faulty.Blob.{Blob}
use Rattle.fault_storage.specs.declared.faulty.Storage.{Storage}
use Rattle.fault_storage.specs.Changes.{IsFaultyChange, FaultyWrites, FaultyResizes, made_write, failed_write, failed_resize, resized_whole}
use Rattle.fault_storage.specs.Directory.{MemoryReads, MemorySyncs}
use Rattle.fault_storage.specs.Faults.{IsFaultyCall}
use Rattle.std.specs.declared.alloc.Global.{Global}
use Rattle.std.specs.declared.vec.Vec.{Vec}
use Rattle.paged_blob_parts.specs.Answers.{Failures, IsReadCause, IsSlice}
use Rattle.paged_blob_parts.specs.declared.error.CallKind.TheVariants as kinds
use Rattle.std.proofs.lemmas.List.{length-drop, drop-drop}
use Rattle.fault_storage.specs.Stores.{Store, Handle, resizing, fixed_write}
use Rattle.paged_blob_parts.specs.declared.blob.WriteMode.{WriteMode}
use Rattle.paged_blob_parts.specs.declared.blob.WriteMode.TheVariants as modes
use Rattle.paged_blob_parts.specs.WriteModes.{is_sync, place_of}
use Rattle.paged_blob_parts.specs.Calls.{Call, wrote, synced, resized_to as resized_call, File, file_of}
use Rattle.auth_store_device.specs.declared.log.Told.TheVariants.{Made, Failed}
use Rattle.auth_store_device.specs.Devices.{told_of, mode_below, refusal_of}
use Rattle.auth_store_device.specs.Logs.{behind_header, IsOpenLog}
use Rattle.auth_store_device.proofs.Outcomes.{made-headed}
use Rattle.auth_store_device.proofs.Reached.{between_is}
use Rattle.auth_store_device.proofs.Carried.{plain_carried, empty_carried, empty_failed, synced_carried, torn_carried, resized_carried, part_carried}
use Rattle.auth_store_device.proofs.Carried.{nowhere_carried, carried_published}

module _ {R : Type 0} (stream : R → Stream) where
  -- a change that was made
  pub change_made : (call : CallBelow) (rate : Probability) (end : ℕ) (failed : Handle → Store → Stream → (Handle × Store) × Stream)
      (made : Handle → Store → Handle × Store) (blob changed : Blob Handle) (old new : Storage Store R) (answer : Result Unit StorageError)
      → IsFaultyChange stream call rate end failed made blob old answer changed new → told_of answer ≡ Made
      → ◌≡◌ {A = Handle × Store} (changed.inner, new.inner) (made blob.inner old.inner)
  change_made call rate end failed made blob changed old new answer (inl ended) is = let e = sym is ∙ ap told_of ended.0 in cc
  change_made call rate end failed made blob changed old new answer (inr (inl want)) is = let e = sym is ∙ ap told_of want.0 in cc
  change_made call rate end failed made blob changed old new answer (inr (inr (inl fails))) is = let e = sym is ∙ ap told_of fails.3 in cc
  change_made call rate end failed made blob changed old new answer (inr (inr (inr makes))) is = makes.4

  -- and one that failed
  pub change_failed : (call : CallBelow) (rate : Probability) (end : ℕ) (failed : Handle → Store → Stream → (Handle × Store) × Stream)
      (made : Handle → Store → Handle × Store) (blob changed : Blob Handle) (old new : Storage Store R) (answer : Result Unit StorageError)
      → IsFaultyChange stream call rate end failed made blob old answer changed new → told_of answer ≡ Failed
      → ◌≡◌ {A = Handle × Store} (changed.inner, new.inner) (failed blob.inner old.inner (sample (rate_of rate) (stream old.rng)).1).0
  change_failed call rate end failed made blob changed old new answer (inl ended) is = let e = sym is ∙ ap told_of ended.0 in cc
  change_failed call rate end failed made blob changed old new answer (inr (inl want)) is = let e = sym is ∙ ap told_of want.0 in cc
  change_failed call rate end failed made blob changed old new answer (inr (inr (inl fails))) is = ap (λ (p : (Handle × Store) × Stream). p.0) fails.4
  change_failed call rate end failed made blob changed old new answer (inr (inr (inr makes))) is = let e = sym is ∙ ap told_of makes.3 in cc

-- a handle whose data begin at 8
abbrev pub at_eight : ℕ → List ℕ → Handle
at_eight number live = record { number = number; offset = 8; live = live }

eight : (handle : Handle) → handle.offset ≡ 8 → at_eight handle.number handle.live ≡ handle
eight handle is = ap (λ n. record { number = handle.number; offset = n; live = handle.live }) (sym is)

-- what a change makes of a handle and its store, where it carries one on whose data begin at 8
from_eight : (store : Store) (file file_now : File) (handle : Handle) (change : Handle → Store → Handle × Store)
    → ((number : ℕ) (live : List ℕ) → IsOpenLog store file (at_eight number live)
    → IsOpenLog (change (at_eight number live) store).1 file_now (change (at_eight number live) store).0)
    → IsOpenLog store file handle → IsOpenLog (change handle store).1 file_now (change handle store).0
from_eight store file file_now handle change step o =
    let is = eight handle o.opened.offset in
    subst (λ h. IsOpenLog (change h store).1 file_now (change h store).0) is (step handle.number handle.live (subst (IsOpenLog store file) (sym is) o))

made_at : (config : WriteConfig) (mode : WriteMode) (offset : ℕ) (bytes : List ℕ) (store : Store) (calls : List Call) (number : ℕ) (live : List ℕ)
    → IsOpenLog store (file_of calls) (at_eight number live)
    → IsOpenLog (made_write config (mode_below mode) offset bytes (at_eight number live) store).1 (file_of (wrote (place_of mode offset bytes) bytes
    (is_sync mode) true ∷ calls))
    (made_write config (mode_below mode) offset bytes (at_eight number live) store).0
made_at config modes.Plain offset bytes store calls number live o =
    plain_carried store (file_of calls) (at_eight number live) offset bytes (mode_of config.mode) (rate_of config.retention) o
made_at config modes.Sync offset [] store calls number live o = empty_carried store (file_of calls) (at_eight number live) offset o
made_at config modes.Sync offset (byte ∷ bytes) store calls number live o =
    synced_carried store (file_of calls) (at_eight number live) offset byte bytes o

torn_at : (offset : ℕ) (bytes : List ℕ) (kept : List Bool) (mode : WriteMode) (store : Store) (calls : List Call) (number : ℕ) (live : List ℕ)
    → IsOpenLog store (file_of calls) (at_eight number live)
    → IsOpenLog (fixed_write offset bytes kept (at_eight number live) store).1
    (file_of (wrote (place_of mode offset bytes) bytes (is_sync mode) false ∷ calls))
    (fixed_write offset bytes kept (at_eight number live) store).0
torn_at offset bytes kept modes.Plain store calls number live o = torn_carried store (file_of calls) (at_eight number live) offset bytes kept o
torn_at offset [] kept modes.Sync store calls number live o = empty_failed store (file_of calls) (at_eight number live) offset kept o
torn_at offset (byte ∷ bytes) kept modes.Sync store calls number live o =
    torn_carried store (file_of calls) (at_eight number live) offset (byte ∷ bytes) kept o

-- how far a resize goes that failed lies between the lengths
part_at : (config : ResizeConfig) (size : ℕ) (store : Store) (calls : List Call) (words : Stream) (number : ℕ) (live : List ℕ)
    → IsOpenLog store (file_of calls) (at_eight number live)
    → IsOpenLog (failed_resize config size (at_eight number live) store words).0.1 (file_of (resized_call size false ∷ calls))
    (failed_resize config size (at_eight number live) store words).0.0
part_at config size store calls words number live o = at (drawn.0 && nat_lt (low + 1) high) refl
  where
    drawn : Bool × Stream
    drawn = sample (rate_of config.retention) words

    low : ℕ
    low = min (length live) (8 + size)

    high : ℕ
    high = max (length live) (8 + size)

    reached : ℕ
    reached = length_between low high (next_u64 drawn.1).0

    at : (b : Bool) → (drawn.0 && nat_lt (low + 1) high) ≡ b
        → let gone : Option ℕ × Stream = cond b (Some reached, (next_u64 drawn.1).1) (None, drawn.1) in
        IsOpenLog (resized_whole gone.0 (rate_of config.retention) (at_eight number live) store).1 (file_of (resized_call size false ∷ calls))
        (resized_whole gone.0 (rate_of config.retention) (at_eight number live) store).0
    at true is =
        part_carried store (file_of calls) (at_eight number live) size reached (rate_of config.retention)
        (between_is (length live) (8 + size) (next_u64 drawn.1).0 (leb-true _ _ (and_parts _ _ is).1)) o
    at false is = nowhere_carried store (file_of calls) (at_eight number live) size o

module _ {R : Type 0} (stream : R → Stream) where
  pub write_made : (blob changed : Blob Handle) (offset : ℕ) (bytes : List ℕ) (mode : WriteMode) (old new : Storage Store R)
      (answer : Result Unit StorageError)
      (calls now : List Call) → FaultyWrites stream blob offset bytes (mode_below mode) old answer changed new → told_of answer ≡ Made
      → now ≡ wrote (place_of mode offset bytes) bytes (is_sync mode) true ∷ calls → IsOpenLog old.inner (file_of calls) blob.inner
      → IsOpenLog new.inner (file_of now) changed.inner
  write_made blob changed offset bytes mode old new answer calls now writes told recorded o =
      let is = change_made stream Write old.config.write.rate (blob.inner.offset + offset + length bytes) (failed_write old.config.write offset bytes)
      (made_write old.config.write (mode_below mode) offset bytes) blob changed old new answer writes told in
      subst (λ c. IsOpenLog new.inner (file_of c) changed.inner) (sym recorded)
      (subst (λ (p : Handle × Store). IsOpenLog p.1 (file_of (wrote (place_of mode offset bytes) bytes (is_sync mode) true ∷ calls)) p.0) (sym is)
      (from_eight old.inner (file_of calls) (file_of (wrote (place_of mode offset bytes) bytes (is_sync mode) true ∷ calls)) blob.inner
      (made_write old.config.write (mode_below mode) offset bytes)
      (made_at old.config.write mode offset bytes old.inner calls) o))

  pub write_failed : (blob changed : Blob Handle) (offset : ℕ) (bytes : List ℕ) (mode : WriteMode) (old new : Storage Store R)
      (answer : Result Unit StorageError)
      (calls now : List Call) → FaultyWrites stream blob offset bytes (mode_below mode) old answer changed new → told_of answer ≡ Failed
      → now ≡ wrote (place_of mode offset bytes) bytes (is_sync mode) false ∷ calls → IsOpenLog old.inner (file_of calls) blob.inner
      → IsOpenLog new.inner (file_of now) changed.inner
  write_failed blob changed offset bytes mode old new answer calls now writes told recorded o =
      let is = change_failed stream Write old.config.write.rate (blob.inner.offset + offset + length bytes) (failed_write old.config.write offset bytes)
      (made_write old.config.write (mode_below mode) offset bytes) blob changed old new answer writes told in
      let words = (sample (rate_of old.config.write.rate) (stream old.rng)).1 in
      let kept = (kept_bytes (mode_of old.config.write.mode) (rate_of old.config.write.retention) (length bytes) words).0 in
      subst (λ c. IsOpenLog new.inner (file_of c) changed.inner) (sym recorded)
      (subst (λ (p : Handle × Store). IsOpenLog p.1 (file_of (wrote (place_of mode offset bytes) bytes (is_sync mode) false ∷ calls)) p.0) (sym is)
      (from_eight old.inner (file_of calls) (file_of (wrote (place_of mode offset bytes) bytes (is_sync mode) false ∷ calls)) blob.inner
      (fixed_write offset bytes kept) (torn_at offset bytes kept mode old.inner calls) o))

  pub resize_made : (blob changed : Blob Handle) (size : ℕ) (old new : Storage Store R) (answer : Result Unit StorageError)
      (calls now : List Call) → FaultyResizes stream blob size old answer changed new → told_of answer ≡ Made
      → now ≡ resized_call size true ∷ calls → IsOpenLog old.inner (file_of calls) blob.inner
      → IsOpenLog new.inner (file_of now) changed.inner
  resize_made blob changed size old new answer calls now resizes told recorded o =
      let is = change_made stream Resize old.config.resize.rate (blob.inner.offset + size) (failed_resize old.config.resize size)
      (resizing size (rate_of old.config.resize.retention)) blob changed old new answer resizes told in
      let rate = rate_of old.config.resize.retention in
      subst (λ c. IsOpenLog new.inner (file_of c) changed.inner) (sym recorded)
      (subst (λ (p : Handle × Store). IsOpenLog p.1 (file_of (resized_call size true ∷ calls)) p.0) (sym is)
      (from_eight old.inner (file_of calls) (file_of (resized_call size true ∷ calls)) blob.inner (resizing size rate)
      (λ number live at. resized_carried old.inner (file_of calls) (at_eight number live) size rate at) o))

  pub resize_failed : (blob changed : Blob Handle) (size : ℕ) (old new : Storage Store R) (answer : Result Unit StorageError)
      (calls now : List Call) → FaultyResizes stream blob size old answer changed new → told_of answer ≡ Failed
      → now ≡ resized_call size false ∷ calls → IsOpenLog old.inner (file_of calls) blob.inner
      → IsOpenLog new.inner (file_of now) changed.inner
  resize_failed blob changed size old new answer calls now resizes told recorded o =
      let is = change_failed stream Resize old.config.resize.rate (blob.inner.offset + size) (failed_resize old.config.resize size)
      (resizing size (rate_of old.config.resize.retention)) blob changed old new answer resizes told in
      let words = (sample (rate_of old.config.resize.rate) (stream old.rng)).1 in
      subst (λ c. IsOpenLog new.inner (file_of c) changed.inner) (sym recorded)
      (subst (λ (p : Handle × Store). IsOpenLog p.1 (file_of (resized_call size false ∷ calls)) p.0) (sym is)
      (from_eight old.inner (file_of calls) (file_of (resized_call size false ∷ calls)) blob.inner
      (λ handle store. (failed_resize old.config.resize size handle store words).0)
      (part_at old.config.resize size old.inner calls words) o))

  -- what a read found is a slice of what is live
  pub read_slice : (rate : Probability) (handle : Handle) (offset count : ℕ) (old new : Storage Store R) (bytes : Vec ℕ Global) (file : File)
      → IsFaultyCall stream Read rate (MemoryReads handle offset count) old (Ok bytes) new → IsOpenLog old.inner file handle
      → IsSlice file offset count bytes.items
  read_slice rate handle offset count old new bytes file (inl (full, is, same)) o = cc
  read_slice rate handle offset count old new bytes file (inr (inl (room, inl is, answers, same))) o = cc
  read_slice rate handle offset count old new bytes file (inr (inl (room, inr is, answers, same))) o = cc
  read_slice rate handle offset count old new bytes file (inr (inr (inl (room, drawn, is, same, words)))) o = cc
  read_slice rate handle offset count old new bytes file (inr (inr (inr (room, drawn, made, (same, (has, is)), kept, words)))) o =
      let within = leb-true (handle.offset + offset + count) (length handle.live) has in
      record {
        live = behind_header handle.live;
        found = o.opened.live;
        within = omega (arith, within, o.opened.offset, length-drop 8 handle.live);
        slice = is ∙ ap (λ n. take count (drop (n + offset) handle.live)) o.opened.offset
            ∙ ap (take count) (ap (λ n. drop n handle.live) (omega arith) ∙ sym (drop-drop offset 8 handle.live));
      }

  -- and why one is refused
  pub read_cause : (rate : Probability) (handle : Handle) (offset count : ℕ) (old new : Storage Store R) (e : StorageError)
      (file : File) (failures : Failures)
      → old.injections < 2 ^ 64 - 1 → IsFaultyCall {T = Vec ℕ Global} stream Read rate (MemoryReads handle offset count) old (Err e) new
      → IsOpenLog old.inner file handle → IsReadCause failures file offset count (refusal_of kinds.Read e)
  read_cause rate handle offset count old new e file failures some (inl (full, is, same)) o = absurd (omega (arith, some, full))
  read_cause rate handle offset count old new e file failures some (inr (inl (room, inl is, (below, inl (short, has)), same))) o = cc
  read_cause rate handle offset count old new e file failures some (inr (inl (room, inl is, (below, inr (want, has)), same))) o = cc
  read_cause rate handle offset count old new e file failures some (inr (inl (room, inr is, answers, same))) o =
      let want : Memory ≡ e = cc in subst (λ x. IsReadCause failures file offset count (refusal_of kinds.Read x)) want tt
  read_cause rate handle offset count old new e file failures some (inr (inr (inl (room, drawn, is, same, words)))) o =
      let injected : Injected Read ≡ e = cc in subst (λ x. IsReadCause failures file offset count (refusal_of kinds.Read x)) injected refl
  read_cause rate handle offset count old new e file failures some (inr (inr (inr (room, drawn, made, (below, inr (want, has)), same, words)))) o =
      subst (λ x. IsReadCause failures file offset count (refusal_of kinds.Read x)) (sym want) tt
  read_cause rate handle offset count old new e file failures some (inr (inr (inr (room, drawn, made, (below, inl (short, has)), same, words)))) o =
      let live = handle.live in
      let long : 8 ≤ length live = (made-headed live o.opened.headed).long in
      let ends : length live < handle.offset + offset + count = leb-false (handle.offset + offset + count) (length live) has in
      let eight : handle.offset ≡ 8 = o.opened.offset in
      subst (λ x. IsReadCause failures file offset count (refusal_of kinds.Read x)) (sym short)
      (record { live = behind_header live; found = o.opened.live; short = omega (arith, long, ends, eight, length-drop 8 live) })

  -- what a sync made durable is what was live
  pub sync_made : (rate : Probability) (handle : Handle) (old new : Storage Store R) (answer : Result Unit StorageError) (calls now : List Call)
      → IsFaultyCall stream Sync rate (MemorySyncs handle) old answer new → told_of answer ≡ Made
      → now ≡ synced (behind_header handle.live) true ∷ calls → IsOpenLog old.inner (file_of calls) handle → IsOpenLog new.inner (file_of now) handle
  sync_made rate handle old new answer calls now (inl ended) told recorded o = let e = sym told ∙ ap told_of ended.1 in cc
  sync_made rate handle old new answer calls now (inr (inl (room, inl is, answers, same))) told recorded o = let e = sym told ∙ ap told_of is in cc
  sync_made rate handle old new answer calls now (inr (inl (room, inr is, answers, same))) told recorded o = let e = sym told ∙ ap told_of is in cc
  sync_made rate handle old new answer calls now (inr (inr (inl (room, drawn, is, same, words)))) told recorded o = let e = sym told ∙ ap told_of is in cc
  sync_made rate handle old new (Ok _) calls now (inr (inr (inr (room, drawn, made, (there, is), kept, words)))) told recorded o =
      subst (λ c. IsOpenLog new.inner (file_of c) handle) (sym recorded)
      (subst (λ s. IsOpenLog s (file_of (synced (behind_header handle.live) true ∷ calls)) handle) (sym is) (carried_published old.inner
      (file_of calls) handle o))
  sync_made rate handle old new (Err e) calls now (inr (inr (inr (room, drawn, made, (same, inl (is, none)), kept, words)))) told recorded o =
      let unmade = sym told ∙ ap (λ x. told_of {T = Unit} (Err x)) is in cc
  sync_made rate handle old new (Err e) calls now (inr (inr (inr (room, drawn, made, (same, inr (is, some)), kept, words)))) told recorded o =
      let unmade = sym told ∙ ap (λ x. told_of {T = Unit} (Err x)) is in cc
