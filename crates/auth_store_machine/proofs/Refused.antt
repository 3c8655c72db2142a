-- Why a call over the blob refuses, from the causes of its parts.
use Rattle.std.proofs.Common.{◌≡◌, refl, ap, Some, ◌⊎◌, ◌+◌, ◌<◌, ◌≤◌, ◌^◌, ℕ, true, inl, inr, rules, ⊎_elim, arith, max}
use Rattle.std.proofs.lemmas.Bool.{cases_lt}
use Rattle.std.specs.Prelude.{Result, Ok, Err, IsFalse}
use Rattle.paged_blob_parts.specs.Answers.{Failures, failures_after, IsPastNumbers, IsCause}
use Rattle.paged_blob_parts.specs.declared.error.CallKind.{CallKind}
use Rattle.paged_blob_parts.specs.declared.error.CallKind.TheVariants.{Write, Sync}
use Rattle.paged_blob_parts.specs.declared.error.Error.{Error}
use Rattle.paged_blob_parts.specs.declared.error.Error.TheVariants.{Injected, BlobMissing, BlobInsufficientLength}
use Rattle.paged_blob_parts.specs.declared.error.Error.TheVariants.{NumberEnded, Memory, PowerCut, ChecksumMismatch}
use Rattle.auth_store_log.specs.Causes.{IsLogCause}
use Rattle.auth_store_machine.specs.Refusals.{of_blob}
use Rattle.auth_store_machine.specs.Stores.{IsRefusal, IsOpenRefusal, IsAppendRefusal}

-- an opening stands after a call as before it
pub open_after : {T : Type 0} (result : Result T Error) (failures : Failures) → failures.is_open ≡ true
    → (failures_after result failures).is_open ≡ true
open_after (Ok value) failures is = is
open_after (Err (Injected kind)) failures is = is
open_after (Err PowerCut) failures is = is
open_after (Err BlobMissing) failures is = is
open_after (Err BlobInsufficientLength) failures is = is
open_after (Err NumberEnded) failures is = is
open_after (Err Memory) failures is = is
open_after (Err ChecksumMismatch) failures is = is

-- the settings stay in a call
pub settings_after : {T : Type 0} (result : Result T Error) (failures : Failures)
    → (failures_after result failures).settings ≡ failures.settings
settings_after (Ok value) failures = refl
settings_after (Err (Injected kind)) failures = refl
settings_after (Err PowerCut) failures = refl
settings_after (Err BlobMissing) failures = refl
settings_after (Err BlobInsufficientLength) failures = refl
settings_after (Err NumberEnded) failures = refl
settings_after (Err Memory) failures = refl
settings_after (Err ChecksumMismatch) failures = refl

-- where an opening stands, none is missing
is_missing : (failures : Failures) → failures.is_open ≡ true → IsFalse failures.is_open → ⊥
is_missing failures is none = search rules

-- a call that is refused for a cause of this kind
pub refused_by : (T : Type 0) (failures : Failures) (kind : CallKind) (reach : ℕ) (Ends : Type 0) (e : Error) → failures.is_open ≡ true
    → (IsPastNumbers reach → Ends) → IsCause failures kind reach e
    → IsRefusal failures (failures_after {T = T} (Err e) failures) Ends (of_blob e)
refused_by T failures kind reach Ends (Injected injected) is ends cause = omega arith
refused_by T failures kind reach Ends PowerCut is ends cause = omega arith
refused_by T failures kind reach Ends BlobMissing is ends cause = absurd (is_missing failures is cause)
refused_by T failures kind reach Ends BlobInsufficientLength is ends cause = absurd cause
refused_by T failures kind reach Ends ChecksumMismatch is ends cause = absurd cause
refused_by T failures kind reach Ends Memory is ends cause = tt
refused_by T failures kind reach Ends NumberEnded is ends (inl past) = inr (ends past)
refused_by T failures kind reach Ends NumberEnded is ends (inr ended) = inl ended

-- an append that is refused
pub append_refused : (T : Type 0) (failures : Failures) (reach : ℕ) (e : Error) → failures.is_open ≡ true
    → IsCause failures Write reach e ⊎ IsCause failures Sync 0 e
    → IsAppendRefusal failures (failures_after {T = T} (Err e) failures) (2 ^ 64 ≤ reach + 4096) (of_blob e)
append_refused T failures reach (Injected injected) is (inl cause) = (omega arith, inl (ap (λ k. Some k) cause))
append_refused T failures reach (Injected injected) is (inr cause) = (omega arith, inr (ap (λ k. Some k) cause))
append_refused T failures reach PowerCut is cause = omega arith
append_refused T failures reach BlobMissing is (inl cause) = absurd (is_missing failures is cause)
append_refused T failures reach BlobMissing is (inr cause) = absurd (is_missing failures is cause)
append_refused T failures reach BlobInsufficientLength is (inl cause) = absurd cause
append_refused T failures reach BlobInsufficientLength is (inr cause) = absurd cause
append_refused T failures reach ChecksumMismatch is (inl cause) = absurd cause
append_refused T failures reach ChecksumMismatch is (inr cause) = absurd cause
append_refused T failures reach Memory is cause = tt
append_refused T failures reach NumberEnded is (inl (inl past)) = inr past
append_refused T failures reach NumberEnded is (inl (inr ended)) = inl ended
append_refused T failures reach NumberEnded is (inr (inl past)) = absurd (omega (arith, past))
append_refused T failures reach NumberEnded is (inr (inr ended)) = inl ended

-- a recovery that is refused
pub recovery_refused : (T : Type 0) (failures : Failures) (names one other : ℕ) (IsNone : Type 0) (e : Error) → failures.is_open ≡ true
    → IsLogCause failures (names + 3) (max one other) e
    → IsOpenRefusal failures (failures_after {T = T} (Err e) failures)
    ((2 ^ 64 ≤ names + 3) ⊎ (2 ^ 64 ≤ one + 4096) ⊎ (2 ^ 64 ≤ other + 4096)) IsNone (of_blob e)
recovery_refused T failures names one other IsNone (Injected injected) is cause = omega arith
recovery_refused T failures names one other IsNone PowerCut is cause = omega arith
recovery_refused T failures names one other IsNone BlobMissing is cause = absurd (is_missing failures is cause)
recovery_refused T failures names one other IsNone BlobInsufficientLength is cause = absurd cause
recovery_refused T failures names one other IsNone ChecksumMismatch is cause = absurd cause
recovery_refused T failures names one other IsNone Memory is cause = tt
recovery_refused T failures names one other IsNone NumberEnded is (inl past) = inr (inr (past_one one other past))
  where
    past_one : (one other : ℕ) → 2 ^ 64 ≤ max one other + 4096 → (2 ^ 64 ≤ one + 4096) ⊎ (2 ^ 64 ≤ other + 4096)
    past_one one other past = ⊎_elim (λ (more : one < other). inr (omega (arith, past, more))) (λ (more : other ≤ one). inl (omega (arith, past, more)))
        (cases_lt one other)
recovery_refused T failures names one other IsNone NumberEnded is (inr (inl ended)) = inl ended
recovery_refused T failures names one other IsNone NumberEnded is (inr (inr many)) = inr (inl many)
