-- Which number the next file of the store has: no call of the log changes it.
use Rattle.std.proofs.Common.{◌≡◌, ℕ, ◌+◌, Bool, true, false, cond, Option, Some, None, Result, Ok, Err}
use Rattle.std.proofs.Common.{List, length, inl, inr, refl, ap, ◌∙◌}
use Rattle.rand_core.specs.Stream.{Stream}
use Rattle.fault_storage_parts.specs.Draws.{Rate, sample}
use Rattle.fault_storage_parts.specs.DrawsCode.{rate_of}
use Rattle.fault_storage_parts.specs.Files.{Mutation, resized_to}
use Rattle.fault_storage_parts.specs.declared.config.WriteConfig.{WriteConfig}
use Rattle.fault_storage_parts.specs.declared.error.Call.{Call}
use Rattle.fault_storage_parts.specs.declared.error.Call.TheVariants.{Write, Sync, Resize}
use Rattle.fault_storage_parts.specs.declared.error.Error.{Error}
use Rattle.fault_storage_parts.specs.declared.probability.Probability.{Probability}
use Rattle.fault_storage.specs.declared.faulty.Blob.{Blob}
use Rattle.fault_storage.specs.declared.faulty.Storage.{Storage}
use Rattle.fault_storage.specs.declared.storage.WriteMode.{WriteMode}
use Rattle.fault_storage.specs.declared.storage.WriteMode.TheVariants as modes
use Rattle.fault_storage.specs.Changes.{IsFaultyChange, FaultyWrites, FaultyResizes, made_write, failed_write, failed_resize, resized_whole}
use Rattle.fault_storage.specs.Directory.{MemorySyncs}
use Rattle.fault_storage.specs.Faults.{IsFaultyCall}
use Rattle.fault_storage.specs.Stores.{Store, Handle, resizing, is_there, issued}

either_next : (b : Bool) (one other : Store) → one.next ≡ other.next → (cond b one other).next ≡ other.next
either_next true one other is = is
either_next false one other is = refl

issued_next : (number : ℕ) (mutation : Mutation) (store : Store) → (issued number mutation store).next ≡ store.next
issued_next number mutation store = either_next (is_there number store) _ store refl

whole_next : (gone : Option ℕ) (rate : Rate) (handle : Handle) (store : Store)
    → (resized_whole gone rate handle store).1.next ≡ store.next
whole_next None rate handle store = refl
whole_next (Some all) rate handle store = issued_next handle.number (resized_to all rate) store

made_next : (config : WriteConfig) (mode : WriteMode) (offset : ℕ) (bytes : List ℕ) (handle : Handle) (store : Store)
    → (made_write config mode offset bytes handle store).1.next ≡ store.next
made_next config modes.Plain offset bytes handle store = issued_next handle.number _ store
made_next config modes.Sync offset bytes handle store = issued_next handle.number _ store

module _ {R : Type 0} (stream : R → Stream) where
  change_next : (call : Call) (rate : Probability) (end : ℕ) (failed : Handle → Store → Stream → (Handle × Store) × Stream)
      (made : Handle → Store → Handle × Store) (blob changed : Blob Handle) (old new : Storage Store R) (answer : Result Unit Error)
      → ((words : Stream) → (failed blob.inner old.inner words).0.1.next ≡ old.inner.next)
      → (made blob.inner old.inner).1.next ≡ old.inner.next
      → IsFaultyChange stream call rate end failed made blob old answer changed new → new.inner.next ≡ old.inner.next
  change_next call rate end failed made blob changed old new answer fails makes (inl ended) =
      ap (λ (s : Storage Store R). s.inner.next) ended.3
  change_next call rate end failed made blob changed old new answer fails makes (inr (inl want)) =
      ap (λ (s : Storage Store R). s.inner.next) want.4
  change_next call rate end failed made blob changed old new answer fails makes (inr (inr (inl lost))) =
      ap (λ (p : (Handle × Store) × Stream). p.0.1.next) lost.4 ∙ fails (sample (rate_of rate) (stream old.rng)).1
  change_next call rate end failed made blob changed old new answer fails makes (inr (inr (inr done))) =
      ap (λ (p : Handle × Store). p.1.next) done.4 ∙ makes

  pub write_next : (blob changed : Blob Handle) (offset : ℕ) (bytes : List ℕ) (mode : WriteMode) (old new : Storage Store R)
      (answer : Result Unit Error) → FaultyWrites stream blob offset bytes mode old answer changed new
      → new.inner.next ≡ old.inner.next
  write_next blob changed offset bytes mode old new answer =
      change_next Write old.config.write.rate (blob.inner.offset + offset + length bytes)
      (failed_write old.config.write offset bytes) (made_write old.config.write mode offset bytes) blob changed old new
      answer (λ words. issued_next blob.inner.number _ old.inner)
      (made_next old.config.write mode offset bytes blob.inner old.inner)

  pub resize_next : (blob changed : Blob Handle) (size : ℕ) (old new : Storage Store R) (answer : Result Unit Error)
      → FaultyResizes stream blob size old answer changed new → new.inner.next ≡ old.inner.next
  resize_next blob changed size old new answer =
      change_next Resize old.config.resize.rate (blob.inner.offset + size) (failed_resize old.config.resize size)
      (resizing size (rate_of old.config.resize.retention)) blob changed old new answer
      (λ words. whole_next _ (rate_of old.config.resize.retention) blob.inner old.inner)
      (issued_next blob.inner.number _ old.inner)

  pub sync_next : (rate : Probability) (handle : Handle) (old new : Storage Store R) (answer : Result Unit Error)
      → IsFaultyCall stream Sync rate (MemorySyncs handle) old answer new → new.inner.next ≡ old.inner.next
  sync_next rate handle old new answer (inl ended) = ap (λ (s : Storage Store R). s.inner.next) ended.2
  sync_next rate handle old new answer (inr (inl unmade)) = ap (λ (s : Storage Store R). s.inner.next) unmade.3
  sync_next rate handle old new answer (inr (inr (inl lost))) = ap (λ (s : Storage Store R). s.inner.next) lost.3
  sync_next rate handle old new (Ok done) (inr (inr (inr answers))) = ap (λ (s : Store). s.next) answers.3.1
  sync_next rate handle old new (Err error) (inr (inr (inr answers))) = ap (λ (s : Store). s.next) answers.3.0
