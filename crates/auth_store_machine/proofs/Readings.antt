-- What the refusals of a ledger that reads a log leave, and why they come.
use Rattle.std.proofs.Common.{◌≡◌, ℕ, Some, None, ap, sym, subst, refl, inl, inr, length, arith}
use Rattle.std.specs.Prelude.{Option, Result, Err, IfErr}
use Rattle.paged_blob_parts.specs.Answers.{Failures}
use Rattle.paged_blob_parts.specs.Writers.{WriterState}
use Rattle.auth_store_parts.specs.History.{History, log_of}
use Rattle.auth_store_index.specs.Refusals.{IfLog}
use Rattle.auth_store_index.specs.declared.values.ReadError.{ReadError}
use Rattle.auth_store_index.specs.declared.values.ReadError.TheVariants as reads
use Rattle.auth_store_proving.specs.Proving.{IsUnproved}
use Rattle.auth_store_ledger.specs.Refusals.{IsUncommitted}
use Rattle.auth_store_ledger.specs.declared.error.CommitError.{CommitError}
use Rattle.auth_store_ledger.specs.declared.error.CommitError.TheVariants as commits
use Rattle.auth_store_proving.specs.declared.error.ProofError.{ProofError}
use Rattle.auth_store_proving.specs.declared.error.ProofError.TheVariants as proofs
use Rattle.auth_store_proving.specs.declared.error.Unprovable.{Unprovable}
use Rattle.auth_store_proving.specs.declared.error.Unprovable.TheVariants as reasons
use Rattle.auth_store_log.specs.Records.{Format}
use Rattle.auth_store_log.specs.declared.error.LogError.{LogError}
use Rattle.auth_store_machine.specs.declared.error.StoreError.{StoreError}
use Rattle.auth_store_machine.specs.declared.error.StoreError.TheVariants.{Fault, PowerCut, NumberEnded, Memory}
use Rattle.auth_store_machine.specs.declared.error.StoreError.TheVariants.{Corrupt, Failed, PastFloor, Inactive}
use Rattle.auth_store_machine.specs.declared.error.StoreError.TheVariants.{OutOfRange, Pruned, EmptyRange, Header}
use Rattle.auth_store_machine.specs.Machine.{PassesLimit, cuts_in, faults_in, refusal_of}
use Rattle.auth_store_machine.specs.Reads.{IsProofRefusal, IsReadable, Leads, LeavesRead, Over, Refuses}
use Rattle.auth_store_machine.specs.Refusals.{of_commit, of_log, of_proof, of_read, of_reason}
use Rattle.auth_store_machine.specs.Stores.{IsBatchRefusal, IsReadRefusal, Raises}
use Rattle.auth_store_machine.proofs.Powers.{raises_none}

-- calls that were not refused raised nothing
pub quiet : (one other : Over) → LeavesRead None one other → other.failures ≡ one.failures
quiet one other is =
    let injected : other.failures.injected ≡ one.failures.injected = omega (arith, is.raised.injected) in
    let refused : other.failures.refused ≡ one.failures.refused = omega (arith, is.raised.refused) in
    λ i. record {
      injected = injected i;
      refused = refused i;
      is_open = is.opened i;
      is_asked = is.raised.asked i;
      settings = is.settings i;
      files = is.raised.files i;
    }

-- a request that reads nothing leaves all as it was
pub read_none : (one : Over) → LeavesRead None one one
read_none one = record {
  calls = refl;
  raised = raises_none None one.failures refl refl;
  opened = refl;
  settings = refl;
  left = omega arith;
  cache = refl;
}

-- what is said of a refusal is said of the result that tells it
pub cause_told : {T : Type 0} (P : StoreError → Type 0) (result : Result T StoreError) (told error : StoreError)
    → result ≡ Err told → told ≡ error → P error → IfErr result P
cause_told P result told error is same holds = subst (λ r. IfErr r P) (sym is) (subst P (sym same) holds)

-- so of what it leaves
pub left_told : {T : Type 0} (one other : Over) (result : Result T StoreError) (told error : StoreError)
    → result ≡ Err told → told ≡ error → LeavesRead (Some error) one other → LeavesRead (refusal_of result) one other
left_told one other result told error is same left =
    subst (λ r. LeavesRead (refusal_of r) one other) (sym is)
    (subst (λ (x : StoreError). LeavesRead (Some x) one other) (sym same) left)

module _ (format : Format) (writer : WriterState) (one other : Over) where
  -- reads of which none was refused, in a request that was refused for no call, or not at all
  pub read_all : (refusal : Option StoreError) → faults_in refusal ≡ 0 → cuts_in refusal ≡ 0 → Leads format writer one other
      → LeavesRead refusal one other
  read_all refusal faults cuts leads = record {
    calls = leads.calls;
    raised = subst (Raises refusal one.failures) (sym leads.failures) (raises_none refusal one.failures faults cuts);
    opened = ap (λ (f : Failures). f.is_open) leads.failures;
    settings = ap (λ (f : Failures). f.settings) leads.failures;
    left = leads.left;
    cache = leads.cache;
  }

  -- and of which the last was
  pub read_some : (error : LogError) → Refuses format writer one other error → LeavesRead (Some (of_log error)) one other
  read_some error refuses = record {
    calls = refuses.calls;
    raised = refuses.raised;
    opened = refuses.opened;
    settings = refuses.settings;
    left = refuses.left;
    cache = refuses.cache;
  }

  module _ (A B C : Type 0) where
    -- where reads lead, through the same references of blob, cache and writer, of which none was refused
    abbrev pub Led : Type 0
    Led = A × B × C × Leads format writer one other

    -- and of which the last was refused for that
    abbrev pub Ended : LogError → Type 0
    Ended e = A × B × C × Refuses format writer one other e

    -- ---- of a read

    pub read_left : (error : ReadError LogError) → IfLog Led Ended error
        → LeavesRead (Some (of_read error)) one other
    read_left (reads.Memory e) leads = read_all (Some Memory) refl refl leads.3
    read_left (reads.Log e) refuses = read_some e refuses.3

    pub read_stays : (error : ReadError LogError) → IfLog Led Ended error
        → IsReadable format one writer → IsReadable format other writer
    read_stays (reads.Memory e) leads is = leads.3.readable is
    read_stays (reads.Log e) refuses is = refuses.3.readable is

    pub read_cause : (error : ReadError LogError) → IfLog Led Ended error
        → IsReadable format one writer → IsReadRefusal one.failures other.failures (of_read error)
    read_cause (reads.Memory e) leads is = tt
    read_cause (reads.Log e) refuses is = refuses.3.cause is

    -- through the same references
    pub read_names : (error : ReadError LogError) → IfLog Led Ended error → A × B
    read_names (reads.Memory e) leads = (leads.0, leads.1)
    read_names (reads.Log e) refuses = (refuses.0, refuses.1)

    -- ---- of a batch

    pub batch_left : (count : ℕ) (error : CommitError LogError)
        → IsUncommitted count Led Ended error
        → LeavesRead (Some (of_commit error)) one other
    batch_left count commits.NumberEnded said = read_all (Some NumberEnded) refl refl said.0.3
    batch_left count commits.Memory leads = read_all (Some Memory) refl refl leads.3
    batch_left count (commits.Log e) refuses = read_some e refuses.3

    pub batch_stays : (count : ℕ) (error : CommitError LogError)
        → IsUncommitted count Led Ended error
        → IsReadable format one writer → IsReadable format other writer
    batch_stays count commits.NumberEnded said is = said.0.3.readable is
    batch_stays count commits.Memory leads is = leads.3.readable is
    batch_stays count (commits.Log e) refuses is = refuses.3.readable is

    pub batch_names : (count : ℕ) (error : CommitError LogError)
        → IsUncommitted count Led Ended error → A × B
    batch_names count commits.NumberEnded said = (said.0.0, said.0.1)
    batch_names count commits.Memory leads = (leads.0, leads.1)
    batch_names count (commits.Log e) refuses = (refuses.0, refuses.1)

    -- what refuses a read refuses a batch
    of_batch : (Ends : Type 0) (error : StoreError) → IsReadRefusal one.failures other.failures error
        → IsBatchRefusal one.failures other.failures Ends error
    of_batch Ends (Fault kind) cause = cause
    of_batch Ends PowerCut cause = cause
    of_batch Ends NumberEnded (inl ended) = inl ended
    of_batch Ends NumberEnded (inr none) = absurd none
    of_batch Ends Memory cause = cause
    of_batch Ends Corrupt cause = absurd cause
    of_batch Ends Failed cause = absurd cause
    of_batch Ends PastFloor cause = absurd cause
    of_batch Ends Inactive cause = absurd cause
    of_batch Ends OutOfRange cause = absurd cause
    of_batch Ends Pruned cause = absurd cause
    of_batch Ends EmptyRange cause = absurd cause
    of_batch Ends (Header fault) cause = absurd cause

    pub batch_cause : (next : History) (error : CommitError LogError)
        → IsUncommitted (length (log_of next)) Led Ended error
        → IsReadable format one writer → IsBatchRefusal one.failures other.failures (PassesLimit next) (of_commit error)
    batch_cause next commits.NumberEnded said is = inr said.1
    batch_cause next commits.Memory leads is = tt
    batch_cause next (commits.Log e) refuses is = of_batch (PassesLimit next) (of_log e) (refuses.3.cause is)

    -- ---- of a proof

    module _ {X : Type 0} (expected : Result X Unprovable) where
      pub proof_left : (error : ProofError LogError)
          → IsUnproved Led Ended expected error
          → LeavesRead (Some (of_proof error)) one other
      proof_left (proofs.Unprovable reasons.Inactive) said = read_all (Some (of_reason reasons.Inactive)) refl refl said.0.3
      proof_left (proofs.Unprovable reasons.OutOfRange) said = read_all (Some (of_reason reasons.OutOfRange)) refl refl said.0.3
      proof_left (proofs.Unprovable reasons.Pruned) said = read_all (Some (of_reason reasons.Pruned)) refl refl said.0.3
      proof_left (proofs.Unprovable reasons.EmptyRange) said = read_all (Some (of_reason reasons.EmptyRange)) refl refl said.0.3
      proof_left proofs.Memory leads = read_all (Some Memory) refl refl leads.3
      proof_left (proofs.Log e) refuses = read_some e refuses.3

      pub proof_stays : (error : ProofError LogError)
          → IsUnproved Led Ended expected error
          → IsReadable format one writer → IsReadable format other writer
      proof_stays (proofs.Unprovable why) said is = said.0.3.readable is
      proof_stays proofs.Memory leads is = leads.3.readable is
      proof_stays (proofs.Log e) refuses is = refuses.3.readable is

      pub proof_names : (error : ProofError LogError) → IsUnproved Led Ended expected error → A × B
      proof_names (proofs.Unprovable why) said = (said.0.0, said.0.1)
      proof_names proofs.Memory leads = (leads.0, leads.1)
      proof_names (proofs.Log e) refuses = (refuses.0, refuses.1)

      -- what refuses a read refuses a proof, and is none of the reasons why there is no proof
      of_proved : (error : StoreError) → IsReadRefusal one.failures other.failures error
          → IsProofRefusal one.failures other.failures expected error
      of_proved (Fault kind) cause = cause
      of_proved PowerCut cause = cause
      of_proved NumberEnded (inl ended) = inl ended
      of_proved NumberEnded (inr none) = absurd none
      of_proved Memory cause = cause
      of_proved Corrupt cause = absurd cause
      of_proved Failed cause = absurd cause
      of_proved PastFloor cause = absurd cause
      of_proved Inactive cause = absurd cause
      of_proved OutOfRange cause = absurd cause
      of_proved Pruned cause = absurd cause
      of_proved EmptyRange cause = absurd cause
      of_proved (Header fault) cause = absurd cause

      pub proof_cause : (error : ProofError LogError)
          → IsUnproved Led Ended expected error
          → IsReadable format one writer → IsProofRefusal one.failures other.failures expected (of_proof error)
      proof_cause (proofs.Unprovable reasons.Inactive) said is = said.1
      proof_cause (proofs.Unprovable reasons.OutOfRange) said is = said.1
      proof_cause (proofs.Unprovable reasons.Pruned) said is = said.1
      proof_cause (proofs.Unprovable reasons.EmptyRange) said is = said.1
      proof_cause proofs.Memory leads is = tt
      proof_cause (proofs.Log e) refuses is = of_proved (of_log e) (refuses.3.cause is)
