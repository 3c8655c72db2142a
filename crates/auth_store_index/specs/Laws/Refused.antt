-- What reads leave of a log where the last may be refused: told of all of them, from what is told of the last ones.
use Rattle.std.proofs.Common.{◌≡◌, subst, sym}
use Rattle.std.specs.Prelude.{Result, Ok, Err, IfErr, IsErrAnd}
use Rattle.auth_store_index.specs.declared.values.ReadError as code
use Rattle.auth_store_index.specs.declared.values.ReadError.TheVariants.{Memory, Log}
use Rattle.auth_store_index.specs.Refusals.{IfLog}

-- an answer that is refused for this
pub refused_at : {E T : Type 0} (unrefused : Type 0) (refused : E → Type 0) (r : Result T (code.ReadError E))
    (e : code.ReadError E) → IsErrAnd r (λ y. y ≡ e) → IfLog unrefused refused e → IfErr r (IfLog unrefused refused)
refused_at unrefused refused (Ok x) e is holds = tt
refused_at unrefused refused (Err y) e is holds = subst (IfLog unrefused refused) (sym is) holds

-- reads of which none was refused stand before others
module _ {L E : Type 0} (leads : L → L → Type 0) (refuses : L → L → E → Type 0)
    (more_leads : (one mid other : L) → leads one mid → leads mid other → leads one other)
    (more_refuses : (one mid other : L) (error : E) → leads one mid → refuses mid other error
    → refuses one other error) where
  pub if_log_more : (one mid other : L) (e : code.ReadError E) → leads one mid
      → IfLog (leads mid other) (refuses mid other) e → IfLog (leads one other) (refuses one other) e
  if_log_more one mid other (Memory e) before is = more_leads one mid other before is
  if_log_more one mid other (Log e) before is = more_refuses one mid other e before is

  -- so where the answer is given as it is
  pub refused_more : {T : Type 0} (one mid other : L) (r : Result T (code.ReadError E)) → leads one mid
      → IfErr r (IfLog (leads mid other) (refuses mid other)) → IfErr r (IfLog (leads one other) (refuses one other))
  refused_more one mid other (Ok x) before is = tt
  refused_more one mid other (Err e) before is = if_log_more one mid other e before is

  -- so where it is given on
  pub refused_further : {T : Type 0} (one mid other : L) (r : Result T (code.ReadError E)) (e : code.ReadError E)
      → IsErrAnd r (λ y. y ≡ e) → leads one mid → IfLog (leads mid other) (refuses mid other) e
      → IfErr r (IfLog (leads one other) (refuses one other))
  refused_further one mid other r e is before holds =
      refused_at (leads one other) (refuses one other) r e is (if_log_more one mid other e before holds)
