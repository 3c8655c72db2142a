-- Operations that are read again as they were written, in parts.
use Rattle.std.proofs.Common.{◌≡◌, ℕ, List, [], ◌∷◌, ◌++◌, map, ap, sym, subst, ◌∙◌}
use Rattle.std.proofs.lemmas.List.{map-append}
use Rattle.state_ops.specs.Operation.{Operation}
use Rattle.auth_store_log.specs.Records.{Format, FloorFits, FloorsFit, IsRecorded, AreRecorded}
use Rattle.auth_store_ledger.specs.Store.{AreWritten}

pub written_together : (format : Format) (one other : List Operation) → AreWritten format one → AreWritten format other
    → AreWritten format (one ++ other)
written_together format [] other ones others = others
written_together format (operation ∷ one) other ones others = (ones.0, written_together format one other ones.1 others)

pub all_recorded : (format : Format) (log : List Operation) → AreWritten format log → FloorsFit log
    → AreRecorded format log
all_recorded format [] all fits = tt
all_recorded format (operation ∷ log) all fits = (all.0 fits.0, all_recorded format log all.1 fits.1)

-- one operation more
pub written_more : (format : Format) (log more : List Operation) (operation : Operation) → more ≡ log ++ operation ∷ []
    → AreWritten format log → (FloorFits operation → IsRecorded format operation) → AreWritten format more
written_more format log more operation is all one =
    subst (AreWritten format) (sym is) (written_together format log (operation ∷ []) all (one, tt))

-- the encodings of more
pub encoded_together : {B : Type 0} (bytes : B → List ℕ) (encoding : Operation → List ℕ) (encoded added now : List B)
    (log others more : List Operation) → now ≡ encoded ++ added → more ≡ log ++ others → map bytes encoded ≡ map encoding log
    → map bytes added ≡ map encoding others → map bytes now ≡ map encoding more
encoded_together bytes encoding encoded added now log others more is is_more same other =
    ap (map bytes) is ∙ map-append bytes encoded added
    ∙ (ap (λ l. l ++ map bytes added) same ∙ ap (λ l. map encoding log ++ l) other
    ∙ sym (ap (map encoding) is_more ∙ map-append encoding log others))
