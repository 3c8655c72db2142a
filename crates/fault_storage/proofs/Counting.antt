-- What follows of a call that may fail.
use Rattle.std.proofs.Common.{◌≡◌, ◌-◌, ◌^◌, ◌<◌, ℕ, List, false, Result, refl, ap, sym, ◌∙◌, inl, inr, subst, arith}
use Rattle.std.proofs.lemmas.Bool.{false≢true}
use Rattle.rand_core.specs.Stream.{Stream}
use Rattle.fault_storage_parts.specs.declared.error.Call.{Call}
use Rattle.fault_storage_parts.specs.declared.error.Error.{Error}
use Rattle.fault_storage_parts.specs.declared.probability.Probability.{Probability}
use Rattle.fault_storage_parts.specs.declared.config.WriteConfig.{WriteConfig}
use Rattle.fault_storage_parts.specs.Draws.{prefix, never, sample}
use Rattle.fault_storage_parts.specs.DrawsCode.{rate_of, mode_of}
use Rattle.fault_storage_parts.specs.Settings.{IsDefault}
use Rattle.fault_storage.specs.declared.faulty.Blob.{Blob}
use Rattle.fault_storage.specs.declared.faulty.Storage.{Storage}
use Rattle.fault_storage.specs.declared.storage.WriteMode.{WriteMode}
use Rattle.fault_storage.specs.declared.storage.WriteMode.TheVariants.{Plain, Sync}
use Rattle.fault_storage.specs.Stores.{Store, Handle, plain_write, memory_write, resizing}
use Rattle.fault_storage.specs.Changes.{made_write, FaultyWrites, FaultyResizes}
use Rattle.fault_storage.specs.Directory.{MemoryWrites, MemoryResizes}
use Rattle.fault_storage.specs.Faults.{IsFaultyCall, IsPlainCall}

-- a rate of zero takes no word, and never comes about
pub sample-zero : (rate : Probability) (words : Stream) → rate.numerator ≡ 0 → sample (rate_of rate) words ≡ (false, words)
unfolding sample
sample-zero rate words zero = rw zero refl

pub plain-call : {S R T : Type 0} (stream : R → Stream) (call : Call) (rate : Probability) (Answers : S → Result T Error → S → Type 0)
    (old new : Storage S R) (result : Result T Error)
    → rate.numerator ≡ 0 → old.injections < 2 ^ 64 - 1 → IsFaultyCall stream call rate Answers old result new
    → IsPlainCall stream Answers old result new
plain-call stream call rate Answers old new result zero room (inl full) = absurd (omega (arith, full.0))
plain-call stream call rate Answers old new result zero room (inr (inl refused)) =
    let same = sym refused.3 in (
      subst (λ s. Answers old.inner result s) (ap (λ s. s.inner) same) refused.2,
      sym (ap (λ s. stream s.rng) same),
      sym (ap (λ s. s.injections) same),
      sym
          (ap (λ s. s.config) same),
    )
plain-call stream call rate Answers old new result zero room (inr (inr (inl failed))) =
    absurd (false≢true (sym (ap (λ d. d.0) (sample-zero rate (stream old.rng) zero)) ∙ failed.1))
plain-call stream call rate Answers old new result zero room (inr (inr (inr made))) =
    (made.3, made.5 ∙ ap (λ d. d.1) (sample-zero rate (stream old.rng) zero), ap (λ s. s.injections) made.4, ap (λ s. s.config) made.4)

-- where a write tears as in memory, it is made as in memory
made-plain : (config : WriteConfig) (mode : WriteMode) (offset : ℕ) (bytes : List ℕ) (handle : Handle) (store : Store) → mode_of config.mode ≡ prefix
    → rate_of config.retention ≡ never
    → made_write config mode offset bytes handle store ≡ memory_write mode offset bytes handle store
made-plain config Plain offset bytes handle store torn kept =
    ap (λ m. plain_write offset bytes m (rate_of config.retention) handle store) torn ∙ ap (λ r. plain_write offset bytes prefix r handle store) kept
made-plain config Sync offset bytes handle store torn kept = refl

pub plain-write : {R : Type 0} (stream : R → Stream) (blob changed : Blob Handle) (offset : ℕ) (bytes : List ℕ) (mode : WriteMode)
    (old new : Storage Store R) (result : Result Unit Error)
    → IsDefault old.config → old.injections < 2 ^ 64 - 1 → FaultyWrites stream blob offset bytes mode old result changed new
    → IsPlainCall stream (λ below answer after. MemoryWrites blob.inner offset bytes mode below answer changed.inner after) old result new
plain-write stream blob changed offset bytes mode old new result quiet room (inl (ended, inl full, kept, same)) = absurd (omega arith)
plain-write stream blob changed offset bytes mode old new result quiet room (inl (ended, inr far, kept, same)) = (
  subst (λ r. MemoryWrites blob.inner offset bytes mode old.inner r changed.inner new.inner) (sym ended)
      (ap (λ b. b.inner) kept, ap (λ s. s.inner) same, inl (refl, far)),
  ap (λ s. stream s.rng) same,
  ap (λ s. s.injections) same,
  ap (λ s. s.config) same,
)
plain-write stream blob changed offset bytes mode old new result quiet room (inr (inl (want, below, near, kept, same))) = (
  subst (λ r. MemoryWrites blob.inner offset bytes mode old.inner r changed.inner new.inner) (sym want)
      (ap (λ b. b.inner) kept, ap (λ s. s.inner) same, inr (refl, near)),
  ap (λ s. stream s.rng) same,
  ap (λ s. s.injections) same,
  ap (λ s. s.config) same,
)
plain-write stream blob changed offset bytes mode old new result quiet room (inr (inr (inl (below, near, drawn, failed, left, same)))) =
    absurd (false≢true (sym (ap (λ d. d.0) (sample-zero old.config.write.rate (stream old.rng) (ap (λ r. r.numerator) quiet.writing))) ∙ drawn))
plain-write stream blob changed offset bytes mode old new result quiet room (inr (inr (inr (below, near, drawn, made, left, same, words)))) = (
  subst (λ r. MemoryWrites blob.inner offset bytes mode old.inner r changed.inner new.inner) (sym made)
      (near, left ∙ made-plain old.config.write mode offset bytes blob.inner old.inner quiet.torn quiet.kept_of_writes),
  words ∙ ap (λ d. d.1) (sample-zero old.config.write.rate (stream old.rng) (ap (λ r. r.numerator) quiet.writing)),
  ap (λ s. s.injections) same,
  ap (λ s. s.config) same,
)

pub plain-resize : {R : Type 0} (stream : R → Stream) (blob changed : Blob Handle) (size : ℕ) (old new : Storage Store R) (result : Result Unit Error)
    → IsDefault old.config → old.injections < 2 ^ 64 - 1 → FaultyResizes stream blob size old result changed new
    → IsPlainCall stream (λ below answer after. MemoryResizes blob.inner size below answer changed.inner after) old result new
plain-resize stream blob changed size old new result quiet room (inl (ended, inl full, kept, same)) = absurd (omega arith)
plain-resize stream blob changed size old new result quiet room (inl (ended, inr far, kept, same)) = (
  subst (λ r. MemoryResizes blob.inner size old.inner r changed.inner new.inner) (sym ended)
      (ap (λ b. b.inner) kept, ap (λ s. s.inner) same, inl (refl, far)),
  ap (λ s. stream s.rng) same,
  ap (λ s. s.injections) same,
  ap (λ s. s.config) same,
)
plain-resize stream blob changed size old new result quiet room (inr (inl (want, below, near, kept, same))) = (
  subst (λ r. MemoryResizes blob.inner size old.inner r changed.inner new.inner) (sym want)
      (ap (λ b. b.inner) kept, ap (λ s. s.inner) same, inr (refl, near)),
  ap (λ s. stream s.rng) same,
  ap (λ s. s.injections) same,
  ap (λ s. s.config) same,
)
plain-resize stream blob changed size old new result quiet room (inr (inr (inl (below, near, drawn, failed, left, same)))) =
    absurd (false≢true (sym (ap (λ d. d.0) (sample-zero old.config.resize.rate (stream old.rng) (ap (λ r. r.numerator) quiet.resizing))) ∙ drawn))
plain-resize stream blob changed size old new result quiet room (inr (inr (inr (below, near, drawn, made, left, same, words)))) = (
  subst (λ r. MemoryResizes blob.inner size old.inner r changed.inner new.inner) (sym made)
      (near, left ∙ ap (λ r. resizing size r blob.inner old.inner) quiet.kept_of_resizes),
  words ∙ ap (λ d. d.1) (sample-zero old.config.resize.rate (stream old.rng) (ap (λ r. r.numerator) quiet.resizing)),
  ap (λ s. s.injections) same,
  ap (λ s. s.config) same,
)
