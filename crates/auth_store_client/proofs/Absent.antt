-- What a proof of absence says of the history whose operation it is of.
use Rattle.std.proofs.Common.{◌≡◌, ◌≤◌, ◌^◌, ℕ, List, [], ◌++◌, Ok, Some, None, sym, ◌∙◌, ap, append-nil}
use Rattle.std.specs.Prelude.{IfSome}
use Rattle.merkle_forest.specs.Codec.{Outcome}
use Rattle.state_ops.specs.Operation.{Operation, update, ordered, commit_floor, fixed_encoding}
use Rattle.state_ops.specs.Reading.{HasEncoding, IsField, operation_at}
use Rattle.state_theory.specs.Encoded.{Fits}
use Rattle.state_proofs.specs.Exclusion.{ExclusionParts, by_update, by_commit, proof_of, operation_of, LeavesOut}
use Rattle.state_theory.specs.MadeRanges.{HasActive}
use Rattle.auth_store_parts.specs.History.{History, AreStates, latest_map, log_of}
use Rattle.auth_store_parts.specs.Map.{value_at}
use Rattle.auth_store_client.specs.Claims.{Terms, FitsExclusion}
use Rattle.auth_store_client.specs.Laws.Standing.{alone_in, stands, no_room, no_room_at_all}
use Rattle.auth_store_client.specs.Soundness.{IsReadAgain, AreReadAgain}
use Rattle.auth_store_client.specs.States.{state_of_history}

-- the proof of the operation is within the limits
pub fits_of : (terms : Terms) (proof : ExclusionParts) → FitsExclusion terms proof
    → Fits terms.format.IsPending terms.format.width terms.format.size terms.format.most (proof_of proof)
fits_of terms (by_update proof k v n) fits = fits.0
fits_of terms (by_commit proof metadata) fits = fits.0

module _ (key value : List ℕ → Outcome) (key_size value_size : ℕ) where
  -- the fields of the operation that a proof is of
  abbrev pub HaveFields : ExclusionParts → Type 0
  HaveFields (by_update proof k v n) = IsField key key_size k × (IsField value value_size v × IsField key key_size n)
  HaveFields (by_commit proof metadata) = IfSome metadata (IsField value value_size) × (proof.location ≤ 2 ^ 62)

  -- what is encoded is read again, whatever follows
  abbrev pub ReadsAgain : Type 0
  ReadsAgain = (operation : Operation) (rest : List ℕ) → HasEncoding key value key_size value_size operation
      → operation_at key value key_size value_size (fixed_encoding key_size value_size operation ++ rest) ≡ Ok (operation, rest)

  again_alone : ReadsAgain → (operation : Operation) → HasEncoding key value key_size value_size operation
      → IsReadAgain key value key_size value_size operation
  again_alone again operation has =
      ap (operation_at key value key_size value_size) (sym (append-nil (fixed_encoding key_size value_size operation)))
      ∙ again operation [] has

  -- the operation stands in the log and is active: where it leaves a key out, the state lacks the key
  pub absent : ReadsAgain → (history : History) (asked : List ℕ) → AreStates history
      → AreReadAgain key value key_size value_size (log_of history) → (proof : ExclusionParts) → HaveFields proof
      → HasActive (state_of_history key_size value_size history) (proof_of proof).location (operation_of key_size value_size proof)
      → LeavesOut proof asked → value_at (latest_map history) asked ≡ None
  absent again history asked states all (by_update proof k v n) fields there leaves =
      no_room history proof.location k v n asked states
      (stands key_size value_size (log_of history) proof.location (update (ordered k v n))
      (alone_in key value key_size value_size (log_of history) (update (ordered k v n)) all
      (again_alone again (update (ordered k v n)) fields)) there.stands)
      there.active leaves.0 leaves.1
  absent again history asked states all (by_commit proof metadata) fields there leaves =
      no_room_at_all history proof.location metadata asked states
      (stands key_size value_size (log_of history) proof.location (commit_floor metadata proof.location)
      (alone_in key value key_size value_size (log_of history) (commit_floor metadata proof.location) all
      (again_alone again (commit_floor metadata proof.location) fields)) there.stands)
      there.active

  pub fields_of : (terms : Terms) → ((k : List ℕ) → terms.IsKey k → IsField key key_size k)
      → ((v : List ℕ) → terms.IsValue v → IsField value value_size v) → (proof : ExclusionParts) → FitsExclusion terms proof
      → HaveFields proof
  fields_of terms is_key is_value (by_update proof k v n) fits = (is_key k fits.1, (is_value v fits.2, is_key n fits.3))
  fields_of terms is_key is_value (by_commit proof None) fits = (tt, fits.0.location)
  fields_of terms is_key is_value (by_commit proof (Some m)) fits = (is_value m fits.1, fits.0.location)
