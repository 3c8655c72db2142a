-- What a loop over records has done so far.
use Rattle.std.proofs.Common.{◌≡◌, ℕ, ◌+◌, ◌<◌, List, [], ◌∷◌, ◌++◌}
use Rattle.std.proofs.Common.{map, length, get_or, take, append_assoc, sym, ◌∙◌, ap, subst}
use Rattle.std.proofs.lemmas.List.{map_more, map-append, append-nil}
use Rattle.std.proofs.lemmas.Grind.{flat_map-append}
use Rattle.state_ops.specs.Operation.{Operation}
use Rattle.auth_store_log.specs.Records.{Format, record_of, log_bytes, IsRecorded, AreRecorded, FloorFits, FloorsFit}
use Rattle.auth_store_log.specs.Laws.Recorded.{recorded_together}
use Rattle.auth_store_log.specs.Laws.Floors.{floors_apart}
use Rattle.auth_store_log.specs.Laws.Once.{goes_on}

-- the meanings of one item more
pub meaning_more : {A : Type 0} (meaning : A → Operation) (items : List A) (i : ℕ) (item : A) → i < length items → item ≡ get_or items i item
    → map meaning (take (i + 1) items) ≡ map meaning (take i items) ++ meaning item ∷ []
meaning_more meaning items i item within is =
    map_more meaning items i item within ∙ ap (λ x. map meaning (take i items) ++ meaning x ∷ []) (sym is)

module _ (format : Format) where
  -- the bytes of one operation more
  pub bytes_more : (log : List Operation) (operation : Operation)
      → log_bytes format.key_size format.value_size (log ++ operation ∷ [])
      ≡ log_bytes format.key_size format.value_size log ++ record_of format operation
  bytes_more log operation =
      flat_map-append (record_of format) log (operation ∷ [])
      ∙ ap (λ l. log_bytes format.key_size format.value_size log ++ l) (append-nil (record_of format operation))

  pub recorded_more : (log : List Operation) (operation : Operation) → AreRecorded format log → IsRecorded format operation
      → AreRecorded format (log ++ operation ∷ [])
  recorded_more log operation are is = recorded_together format log (operation ∷ []) are (is, tt)

  -- where floors that fit make records of both, they make a record of all
  pub fits_more : (log : List Operation) (operation : Operation) → (FloorsFit log → AreRecorded format log)
      → (FloorFits operation → IsRecorded format operation) → FloorsFit (log ++ operation ∷ []) → AreRecorded format (log ++ operation ∷ [])
  fits_more log operation logs one fits =
      let parts = floors_apart log (operation ∷ []) fits in
      recorded_more log operation (logs parts.0) (one parts.1.0)

  -- bytes that no record begins, and that are some, end no log
  pub refuted : (front log : List Operation) (rest : List ℕ) → AreRecorded format front → AreRecorded format log
      → log_bytes format.key_size format.value_size log ≡ log_bytes format.key_size format.value_size front ++ rest → (rest ≡ [] → ⊥)
      → ((operation : Operation) (after : List ℕ) → IsRecorded format operation → rest ≡ record_of format operation ++ after → ⊥) → ⊥
  refuted front log rest fronts logs same some none =
      let behind = goes_on format front log rest fronts logs same in
      by behind.more behind.bytes behind.recorded
    where
      by : (more : List Operation) → rest ≡ log_bytes format.key_size format.value_size more → AreRecorded format more → ⊥
      by [] bytes are = some bytes
      by (operation ∷ more) bytes are = none operation (log_bytes format.key_size format.value_size more) are.0 bytes

  -- one record more was read
  module _ {A : Type 0} (meaning : A → Operation) (log new : List A) (item : A) (pushed : new ≡ log ++ item ∷ []) where
    grown : map meaning new ≡ map meaning log ++ meaning item ∷ []
    grown = ap (map meaning) pushed ∙ map-append meaning log (item ∷ [])

    pub pushed_bytes : (all rest after : List ℕ) → all ≡ log_bytes format.key_size format.value_size (map meaning log) ++ rest
        → rest ≡ record_of format (meaning item) ++ after → all ≡ log_bytes format.key_size format.value_size (map meaning new) ++ after
    pushed_bytes all rest after so_far there =
        let before = log_bytes format.key_size format.value_size (map meaning log) in
        so_far ∙ ap (λ l. before ++ l) there ∙ sym (append_assoc before (record_of format (meaning item)) after)
        ∙ ap (λ l. l ++ after) (sym (ap (log_bytes format.key_size format.value_size) grown ∙ bytes_more (map meaning log) (meaning item)))

    pub pushed_recorded : AreRecorded format (map meaning log) → IsRecorded format (meaning item) → AreRecorded format (map meaning new)
    pushed_recorded are is = subst (AreRecorded format) (sym grown) (recorded_more (map meaning log) (meaning item) are is)
