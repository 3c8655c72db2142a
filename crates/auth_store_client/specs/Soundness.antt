-- What a client's yes means: which strings are hashed for a history, and which are rebuilt from a claim and the proof
-- that the bytes encode.
use Rattle.std.specs.Prelude.{◌≡◌, ◌⊎◌, ℕ, List, [], Ok, Some, length, map, slice_get}
use Rattle.std.specs.List.{AllByRecursion}
use Rattle.merkle_forest.specs.Codec.{Outcome}
use Rattle.merkle_forest.specs.Made.{Collision, Strings}
use Rattle.state_ops.specs.Operation.{Operation, fixed_encoding, update, ordered}
use Rattle.state_ops.specs.Reading.{operation_at}
use Rattle.state_theory.specs.Canonical.{Setting}
use Rattle.state_proofs.specs.Exclusion.{proof_of, operation_of}
use Rattle.state_theory.specs.MadeRanges as ranges
use Rattle.state_theory.specs.MadeStates as states
use Rattle.auth_store_parts.specs.History.{History, Commit}
use Rattle.auth_store_client.specs.Claims.{Claim, has_value, is_absent, is_active, has_range, has_slice, IsTrueOf}
use Rattle.auth_store_client.specs.Claims.{Terms, encoded, shown_of, Shows}
use Rattle.auth_store_client.specs.Fields.{IsSound}
use Rattle.auth_store_client.specs.HonestBytes.{honest_bytes}
use Rattle.auth_store_client.specs.MadeSlices.{slice_strings}
use Rattle.auth_store_client.specs.States.{root_of_history, state_of_history}

-- each key and each value of the history has its size
abbrev pub HasSizes : ℕ → ℕ → History → Type 0
HasSizes key value history =
    AllByRecursion (λ (commit : Commit). AllByRecursion
    (λ (entry : List ℕ × List ℕ). (length entry.0 ≡ key) × (length entry.1 ≡ value)) commit.map) history

-- an operation whose encoding is read as it again
abbrev pub IsReadAgain : (List ℕ → Outcome) → (List ℕ → Outcome) → ℕ → ℕ → Operation → Type 0
IsReadAgain key value key_size value_size operation =
    operation_at key value key_size value_size (fixed_encoding key_size value_size operation) ≡ Ok (operation, [])

-- so is each of these
abbrev pub AreReadAgain : (List ℕ → Outcome) → (List ℕ → Outcome) → ℕ → ℕ → List Operation → Type 0
AreReadAgain key value key_size value_size log = AllByRecursion (IsReadAgain key value key_size value_size) log

-- no other operation of the log has the operation's encoding
abbrev pub IsAlone : ℕ → ℕ → List Operation → Operation → Type 0
IsAlone key_size value_size log operation = (location : ℕ) (other : Operation) → slice_get log location ≡ Some other
    → fixed_encoding key_size value_size other ≡ fixed_encoding key_size value_size operation → other ≡ operation

-- the strings that are hashed for a history
abbrev pub hashed_strings : Setting → ℕ → ℕ → History → Strings
hashed_strings setting key value history = states.hashed_strings setting (state_of_history key value history)

-- The strings that are hashed when the canonical root is rebuilt from the proof that the bytes encode and from the
-- operation that it is of: the update that the claim says, with the next key in the bytes; the operation in the bytes
-- that leaves a key out; or the one that is claimed to be active. Where several are claimed it is rebuilt from these,
-- with the chunks over them or with the witness.
abbrev pub rebuilt_strings : Setting → (terms : Terms) → (claim : Claim) → (root bytes : List ℕ)
    → Shows terms claim root bytes → Strings
rebuilt_strings setting terms (has_value key value) root bytes shown =
    ranges.rebuilt_strings setting shown.proof (encoded terms (update (ordered key value shown.next_key)))
rebuilt_strings setting terms (is_absent key) root bytes shown =
    ranges.rebuilt_strings setting (proof_of shown.proof) (operation_of terms.key_size terms.value_size shown.proof)
rebuilt_strings setting terms (is_active location operation) root bytes shown =
    ranges.rebuilt_strings setting shown.shown.proof (encoded terms operation)
rebuilt_strings setting terms (has_range start operations active) root bytes shown =
    ranges.range_strings setting shown.proof (shown_of terms start operations shown.chunks)
rebuilt_strings setting terms (has_slice start operations) root bytes shown =
    slice_strings setting shown.slice start (map (encoded terms) operations)

-- The claim is true of the history, or among the strings that are hashed for it and those that are rebuilt two differ
-- at one site and have one digest.
abbrev pub IsTrueOrCollides : Setting → (terms : Terms) → (claim : Claim) → History → (root bytes : List ℕ)
    → Shows terms claim root bytes → Type 0
IsTrueOrCollides setting terms claim history root bytes shown = IsTrueOf claim history
    ⊎ Collision setting.hash (hashed_strings setting terms.key_size terms.value_size history)
    (rebuilt_strings setting terms claim root bytes shown)

-- The bytes are these, the honest ones of the claim, or among the strings that are hashed for the history and those
-- that are rebuilt two differ at one site and have one digest.
abbrev pub AreOrCollide : Setting → (terms : Terms) → (claim : Claim) → History → (honest root bytes : List ℕ)
    → Shows terms claim root bytes → Type 0
AreOrCollide setting terms claim history honest root bytes shown = (bytes ≡ honest)
    ⊎ Collision setting.hash (hashed_strings setting terms.key_size terms.value_size history)
    (rebuilt_strings setting terms claim root bytes shown)

-- The bytes show the claim under the root: and of each history of keys and values whose root this is, the claim is
-- true, and these are the honest bytes of it, or strings collide.
pub record IsProved (setting : Setting) (terms : Terms) (claim : Claim) (root bytes : List ℕ) : Type 0 where
  pub shown : Shows terms claim root bytes
  pub sound : (history : History) → IsSound terms.IsKey terms.IsValue history
      → root ≡ root_of_history setting terms.key_size terms.value_size history
      → IsTrueOrCollides setting terms claim history root bytes shown
  pub honest : (history : History) → IsSound terms.IsKey terms.IsValue history
      → root ≡ root_of_history setting terms.key_size terms.value_size history
      → AreOrCollide setting terms claim history
      (honest_bytes terms.format.pending setting terms.key_size terms.value_size history claim) root bytes shown
