-- Why a batch is not committed, and why the log is not read for it.
use Rattle.std.specs.Prelude.{ℕ, ◌^◌, ◌<◌}
use Rattle.auth_store_index.specs.declared.values.ReadError.{ReadError}
use Rattle.auth_store_index.specs.declared.values.ReadError.TheVariants as reads
use Rattle.auth_store_ledger.specs.declared.error.CommitError.{CommitError}
use Rattle.auth_store_ledger.specs.declared.error.CommitError.TheVariants as commits
use Rattle.auth_store_ledger.specs.declared.error.LedgerError.{LedgerError}
use Rattle.auth_store_ledger.specs.declared.error.LedgerError.TheVariants as ledgers

-- why there is no commit where the log is not read for it
abbrev pub commit_unread : {E : Type 0} → ReadError E → CommitError E
commit_unread (reads.Memory e) = commits.Memory
commit_unread (reads.Log why) = commits.Log why

-- why there is no commit where the ledger refuses it
abbrev pub commit_refused : {E : Type 0} → LedgerError → CommitError E
commit_refused ledgers.NumberEnded = commits.NumberEnded
commit_refused ledgers.Memory = commits.Memory

-- why there is no commit with which the log would have so many operations: they are too many, or memory was lacking,
-- where no read was refused; or the log refused a read, of which this holds then
abbrev pub IsUncommitted : {E : Type 0} → ℕ → Type 0 → (E → Type 0) → CommitError E → Type 0
IsUncommitted count unrefused refused commits.NumberEnded = unrefused × (2 ^ 62 < count)
IsUncommitted count unrefused refused commits.Memory = unrefused
IsUncommitted count unrefused refused (commits.Log why) = refused why
