-- Why there is no commit.
use Rattle.std.proofs.Common.{◌≡◌, ◌⊎◌, ◌+◌, ◌≤◌, ◌^◌, ℕ, Result, inl, inr, sym, subst, arith}
use Rattle.std.specs.Prelude.{IfErr, IsErrAnd}
use Rattle.auth_store_index.specs.declared.values.ReadError.{ReadError}
use Rattle.auth_store_index.specs.declared.values.ReadError.TheVariants as reads
use Rattle.auth_store_index.specs.Refusals.{IfLog}
use Rattle.auth_store_ledger.specs.Laws.Reads.{passed_on}
use Rattle.auth_store_ledger.specs.declared.error.CommitError.{CommitError}
use Rattle.auth_store_ledger.specs.declared.error.LedgerError.{LedgerError}
use Rattle.auth_store_ledger.specs.declared.error.LedgerError.TheVariants as ledgers
use Rattle.auth_store_ledger.specs.Refusals.{IsUncommitted, commit_refused, commit_unread}

-- what was read where the log refused, or memory was lacking, is why there is no commit
pub uncommitted_read : {T E : Type 0} (r : Result T (CommitError E)) (count : ℕ) (unrefused : Type 0) (refused : E → Type 0) (error : ReadError E)
    → IsErrAnd r (λ e. e ≡ commit_unread error) → IfLog unrefused refused error → IfErr r (IsUncommitted count unrefused refused)
uncommitted_read {T} {E} r count unrefused refused error is holds =
    passed_on r (IsUncommitted count unrefused refused) (commit_unread error) is (unread error holds)
  where
    unread : (error : ReadError E) → IfLog unrefused refused error → IsUncommitted count unrefused refused (commit_unread error)
    unread (reads.Memory a) holds = holds
    unread (reads.Log why) holds = holds

-- the ledger's own refusal is why there is no commit, where no read was refused
pub uncommitted_refused : {T E : Type 0} (r : Result T (CommitError E)) (count : ℕ) (unrefused : Type 0) (refused : E → Type 0)
    (error : LedgerError) (reached : ℕ) → IsErrAnd r (λ e. e ≡ commit_refused error) → unrefused → count ≡ reached + 1
    → (error ≡ ledgers.Memory) ⊎ ((error ≡ ledgers.NumberEnded) × (2 ^ 62 ≤ reached)) → IfErr r (IsUncommitted count unrefused refused)
uncommitted_refused {T} {E} r count unrefused refused error reached is led long why =
    passed_on r (IsUncommitted count unrefused refused) (commit_refused error) is (told error why)
  where
    told : (error : LedgerError) → (error ≡ ledgers.Memory) ⊎ ((error ≡ ledgers.NumberEnded) × (2 ^ 62 ≤ reached))
        → IsUncommitted count unrefused refused (commit_refused error)
    told error (inl same) = subst (λ (e : LedgerError). IsUncommitted count unrefused refused (commit_refused e)) (sym same) led
    told error (inr (same, ended)) = subst (λ (e : LedgerError). IsUncommitted count unrefused refused (commit_refused e)) (sym same)
        (led, omega (arith, long, ended))
