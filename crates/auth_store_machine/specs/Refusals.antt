-- The refusals of a store by their numbers, and from those of what it stands on.
use Rattle.std.specs.Prelude.{◌≡◌, ◌⊎◌, ℕ, List, codes, Option, Some, None}
use Rattle.paged_blob_parts.specs.declared.error.CallKind.{CallKind}
use Rattle.paged_blob_parts.specs.declared.error.CallKind.TheVariants.{Read, Write, Sync}
use Rattle.paged_blob_parts.specs.declared.error.Error.{Error}
use Rattle.paged_blob_parts.specs.declared.error.Error.TheVariants as blobs
use Rattle.auth_store_device.specs.declared.error.OpenError.{OpenError}
use Rattle.auth_store_device.specs.declared.error.OpenError.TheVariants as openings
use Rattle.auth_store_log.specs.declared.error.LogError.{LogError}
use Rattle.auth_store_log.specs.declared.error.LogError.TheVariants as logs
use Rattle.auth_store_index.specs.declared.values.ReadError.{ReadError}
use Rattle.auth_store_index.specs.declared.values.ReadError.TheVariants as reads
use Rattle.auth_store_ledger.specs.declared.error.CommitError.{CommitError}
use Rattle.auth_store_ledger.specs.declared.error.CommitError.TheVariants as commits
use Rattle.auth_store_ledger.specs.declared.error.LedgerError.{LedgerError}
use Rattle.auth_store_ledger.specs.declared.error.LedgerError.TheVariants as ledgers
use Rattle.auth_store_proving.specs.declared.error.ProofError.{ProofError}
use Rattle.auth_store_proving.specs.declared.error.ProofError.TheVariants as proofs
use Rattle.auth_store_proving.specs.declared.error.Unprovable.{Unprovable}
use Rattle.auth_store_proving.specs.declared.error.Unprovable.TheVariants as reasons
use Rattle.auth_store_machine.specs.declared.error.StoreError.{StoreError}
use Rattle.auth_store_machine.specs.declared.error.StoreError.TheVariants.{Fault, PowerCut, NumberEnded, Memory}
use Rattle.auth_store_machine.specs.declared.error.StoreError.TheVariants.{Corrupt, Failed, PastFloor, Inactive}
use Rattle.auth_store_machine.specs.declared.error.StoreError.TheVariants.{OutOfRange, Pruned, EmptyRange, Header}

abbrev pub number_of : StoreError → List ℕ
number_of (Fault kind) = codes "S1"
number_of PowerCut = codes "S2"
number_of NumberEnded = codes "S3"
number_of Memory = codes "S4"
number_of Corrupt = codes "S5"
number_of Failed = codes "S6"
number_of PastFloor = codes "S7"
number_of Inactive = codes "S8"
number_of OutOfRange = codes "S9"
number_of Pruned = codes "S10"
number_of EmptyRange = codes "S11"
number_of (Header fault) = codes "S12"

-- what a ledger refuses
abbrev pub of_ledger : LedgerError → StoreError
of_ledger ledgers.NumberEnded = NumberEnded
of_ledger ledgers.Memory = Memory

-- that there is no proof
abbrev pub of_reason : Unprovable → StoreError
of_reason reasons.Inactive = Inactive
of_reason reasons.OutOfRange = OutOfRange
of_reason reasons.Pruned = Pruned
of_reason reasons.EmptyRange = EmptyRange

-- what a call of the open log, or over it, refuses
abbrev pub of_blob : Error → StoreError
of_blob (blobs.Injected kind) = Fault (Some kind)
of_blob blobs.PowerCut = PowerCut
of_blob blobs.NumberEnded = NumberEnded
of_blob blobs.Memory = Memory
of_blob blobs.BlobMissing = Corrupt
of_blob blobs.BlobInsufficientLength = Corrupt
of_blob blobs.ChecksumMismatch = Corrupt

-- what reading a log refuses
abbrev pub of_log : LogError → StoreError
of_log logs.Corrupt = Corrupt
of_log (logs.Refused error) = of_blob error

-- what a ledger refuses that reads a log for it: of a read
abbrev pub of_read : ReadError LogError → StoreError
of_read (reads.Memory e) = Memory
of_read (reads.Log error) = of_log error

-- of a commit
abbrev pub of_commit : CommitError LogError → StoreError
of_commit commits.NumberEnded = NumberEnded
of_commit commits.Memory = Memory
of_commit (commits.Log error) = of_log error

-- and where it is asked for a proof
abbrev pub of_proof : ProofError LogError → StoreError
of_proof (proofs.Unprovable why) = of_reason why
of_proof proofs.Memory = Memory
of_proof (proofs.Log error) = of_log error

-- what an opening of the device refuses
abbrev pub of_opening : OpenError → StoreError
of_opening (openings.Header fault) = Header fault
of_opening openings.Injected = Fault None
of_opening openings.NumberEnded = NumberEnded
of_opening openings.Memory = Memory
of_opening openings.PowerCut = PowerCut

-- a fault came into a write or a sync: what makes a commit durable makes no other call
abbrev pub IsOfChange : Option CallKind → Type 0
IsOfChange kind = (kind ≡ Some Write) ⊎ (kind ≡ Some Sync)

-- a fault came into a read: what reads a value or operations makes no other call
abbrev pub IsOfRead : Option CallKind → Type 0
IsOfRead kind = kind ≡ Some Read
