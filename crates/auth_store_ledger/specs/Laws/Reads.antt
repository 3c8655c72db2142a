-- What is left of a log behind reads, one after the other.
use Rattle.std.proofs.Common.{◌≡◌, Result, Ok, Err, sym, subst}
use Rattle.std.specs.Prelude.{IfErr, IsErrAnd}
use Rattle.auth_store_index.specs.declared.values.ReadError.{ReadError}
use Rattle.auth_store_index.specs.declared.values.ReadError.TheVariants as reads
use Rattle.auth_store_index.specs.Refusals.{IfLog}

module _ {S E : Type 0} (leads : S → S → Type 0) (refuses : S → S → E → Type 0)
    (more_leads : (one mid other : S) → leads one mid → leads mid other → leads one other)
    (more_refuses : (one mid other : S) (error : E) → leads one mid → refuses mid other error
    → refuses one other error) where
  -- what is refused behind reads of which none was
  pub refused_behind : (one mid other : S) (error : ReadError E) → leads one mid
      → IfLog (leads mid other) (refuses mid other) error → IfLog (leads one other) (refuses one other) error
  refused_behind one mid other (reads.Memory a) first second = more_leads one mid other first second
  refused_behind one mid other (reads.Log e) first second = more_refuses one mid other e first second

-- what holds of an error holds of the call that passes it on
pub passed_on : {T E : Type 0} (r : Result T E) (P : E → Type 0) (error : E) → IsErrAnd r (λ e. e ≡ error) → P error
    → IfErr r P
passed_on (Ok v) P error is holds = tt
passed_on (Err e) P error is holds = subst P (sym is) holds
