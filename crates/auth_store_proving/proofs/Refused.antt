-- Why there is no proof, behind a read that was refused.
use Rattle.std.proofs.Common.{◌≡◌, Result}
use Rattle.std.specs.Prelude.{IfErr, IsErrAnd}
use Rattle.auth_store_index.specs.declared.values.ReadError.{ReadError}
use Rattle.auth_store_index.specs.declared.values.ReadError.TheVariants as reads
use Rattle.auth_store_index.specs.Refusals.{IfLog}
use Rattle.auth_store_ledger.specs.Laws.Reads.{passed_on}
use Rattle.auth_store_proving.specs.declared.error.ProofError.{ProofError}
use Rattle.auth_store_proving.specs.declared.error.Unprovable.{Unprovable}
use Rattle.auth_store_proving.specs.Proving.{IsUnproved}
use Rattle.auth_store_proving.specs.Refusals.{proof_unread}

-- what was read where the log refused, or memory was lacking, is why there is no proof
pub unproved_read : {T A E : Type 0} (r : Result T (ProofError E)) (unrefused : Type 0) (refused : E → Type 0) (answer : Result A Unprovable)
    (error : ReadError E) → IsErrAnd r (λ e. e ≡ proof_unread error) → IfLog unrefused refused error
    → IfErr r (IsUnproved unrefused refused answer)
unproved_read {T} {A} {E} r unrefused refused answer error is holds =
    passed_on r (IsUnproved unrefused refused answer) (proof_unread error) is (unread error holds)
  where
    unread : (error : ReadError E) → IfLog unrefused refused error → IsUnproved unrefused refused answer (proof_unread error)
    unread (reads.Memory a) holds = holds
    unread (reads.Log why) holds = holds
