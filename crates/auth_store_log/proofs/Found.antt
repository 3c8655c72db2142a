-- What is read of the records of some bytes.
use Rattle.std.proofs.Common.{◌≡◌, ℕ, zero, suc, ◌+◌, ◌*◌, ◌/◌, ◌<◌, ◌≤◌, Bool}
use Rattle.std.proofs.Common.{true, false, List, [], ◌∷◌, ◌++◌, length, take, drop, Result, Ok, Err}
use Rattle.std.proofs.Common.{refl, sym, ◌∙◌, ap, arith}
use Rattle.std.specs.Prelude.{◌||◌}
use Rattle.std.proofs.lemmas.List.{drop-drop}
use Rattle.std.proofs.Math.Nat.{div-eq_of_lt, div-mul-le_self, mul-le-mul_right}
use Rattle.merkle_forest.specs.declared.codec.error.Error.{Error}
use Rattle.merkle_forest.specs.declared.codec.error.Error.TheVariants.{EndOfBuffer, ExtraData, InvalidVarint, InvalidBool, InvalidEnum, InvalidLength, Invalid}
use Rattle.merkle_forest.specs.declared.codec.error.Error.TheVariants.{Memory}
use Rattle.merkle_forest.specs.Codec.{Refuses}
use Rattle.state_ops.specs.Operation.{Operation}
use Rattle.auth_store_parts.specs.History.{is_commit}
use Rattle.auth_store_log.specs.Records.{Format, record_size, operation_in, is_commit_found, is_commit_record, pieces, whole_records, up_to_last, committed}
use Rattle.auth_store_log.specs.Laws.Records.{last_passes, then_none, up_to_last-le, length-pieces}

-- a refusal that is not for want of memory is the fault that was found
pub refused_for : {A : Type 0} (lacks : Type 0) (fault : Error) (found : Result A Error) → Refuses lacks fault found → (fault ≡ Memory → ⊥)
    → found ≡ Err fault
refused_for lacks EndOfBuffer found refused other = refused
refused_for lacks ExtraData found refused other = refused
refused_for lacks InvalidVarint found refused other = refused
refused_for lacks InvalidBool found refused other = refused
refused_for lacks (InvalidEnum tag) found refused other = refused
refused_for lacks InvalidLength found refused other = refused
refused_for lacks Invalid found refused other = refused
refused_for lacks Memory found refused other = absurd (other refl)

module _ (format : Format) (bytes : List ℕ) where
  pub commit_found : (operation : Operation) (rest : List ℕ) → operation_in format bytes ≡ Ok (operation, rest)
      → is_commit_record format bytes ≡ is_commit operation
  unfolding is_commit_record
  commit_found operation rest is = ap is_commit_found is

  pub none_found : (fault : Error) → operation_in format bytes ≡ Err fault → is_commit_record format bytes ≡ false
  unfolding is_commit_record
  none_found fault is = ap is_commit_found is

-- one piece more
pub pieces_more : (size count : ℕ) (bytes : List ℕ)
    → pieces size (suc count) bytes ≡ pieces size count bytes ++ take size (drop (count * size) bytes) ∷ []
pieces_more size zero bytes = ap (λ n. take size (drop n bytes) ∷ []) {x = 0} {y = 0 * size} (omega arith)
pieces_more size (suc count) bytes =
    ap (λ l. take size bytes ∷ l) (pieces_more size count (drop size bytes))
    ∙ ap (λ l. take size bytes ∷ (pieces size count (drop size bytes) ++ take size l ∷ []))
    (drop-drop (count * size) size bytes ∙ ap (λ n. drop n bytes) {x = size + count * size} {y = suc count * size} (omega arith))

module _ (passes : List ℕ → Bool) (size count : ℕ) (bytes : List ℕ) where
  pub last_is : passes (take size (drop (count * size) bytes)) ≡ true → up_to_last passes (pieces size (suc count) bytes) ≡ suc count
  last_is is =
      let record_there = take size (drop (count * size) bytes) in
      ap (up_to_last passes) (pieces_more size count bytes) ∙ last_passes passes (pieces size count bytes) record_there is
      ∙ ap suc (length-pieces size count bytes)

  pub last_is_not : passes (take size (drop (count * size) bytes)) ≡ false
      → up_to_last passes (pieces size (suc count) bytes) ≡ up_to_last passes (pieces size count bytes)
  last_is_not is =
      let record_there = take size (drop (count * size) bytes) in
      ap (up_to_last passes) (pieces_more size count bytes)
      ∙ then_none passes (pieces size count bytes) (record_there ∷ []) (ap (λ b. or_none b) is)
    where
      or_none : Bool → Bool
      or_none b = b || false

-- what is committed, by how many records there are up to the last commit
module _ (format : Format) (bytes : List ℕ) where
  pub committed_short : length bytes < record_size format → [] ≡ committed format bytes
  unfolding committed whole_records
  committed_short short =
      let size = record_size format in
      let none : length bytes / size ≡ 0 = div-eq_of_lt {n = length bytes} {m = size} short in
      let nothing : 0 * size ≡ 0 = omega arith in
      sym (ap (λ n. take (up_to_last (is_commit_record format) (pieces size n bytes) * size) bytes) none ∙ ap (λ n. take n bytes) nothing)

  pub committed_count : (count : ℕ)
      → count ≡ up_to_last (is_commit_record format) (pieces (record_size format) (length bytes / record_size format) bytes)
      → take (count * record_size format) bytes ≡ committed format bytes
  unfolding committed whole_records
  committed_count count is = ap (λ n. take (n * record_size format) bytes) is

  pub count_within : (count : ℕ)
      → count ≡ up_to_last (is_commit_record format) (pieces (record_size format) (length bytes / record_size format) bytes)
      → count * record_size format ≤ length bytes
  count_within count is =
      let size = record_size format in
      let records : List (List ℕ) = pieces size (length bytes / size) bytes in
      let few = up_to_last-le (is_commit_record format) records in
      let long = length-pieces size (length bytes / size) bytes in
      let more = mul-le-mul_right {m = count} {n = length bytes / size} size (omega (arith, is, few, long)) in
      omega (arith, more, div-mul-le_self (length bytes) size)
