-- How a proof of one operation is read, as the form of the proof's chunk has it.
use Rattle.std.specs.Prelude.{ℕ, Bool, if◌then◌else◌, List, Ok, Err}
use Rattle.merkle_forest.specs.Codec.{◌>>=◌, Outcome, LacksAfter}
use Rattle.merkle_forest.specs.declared.codec.error.Error.TheVariants.{Invalid}
use Rattle.state_theory.specs.Encoded.{after_operation_proof, OperationProofLacks}
use Rattle.state_theory.specs.Told.{Told}

-- what may not be told is a fault before any byte
abbrev pub after_told : Bool → List ℕ → Outcome
after_told allowed bytes = if allowed then Ok bytes else Err Invalid

-- the bytes after the proof, or its first fault
abbrev pub after_form : (List ℕ → Outcome) → (List ℕ → Outcome) → Told → List ℕ → Outcome
after_form digest pending told bytes =
    after_told told.allowed bytes >>= after_operation_proof digest pending told.width told.most

-- so with the next key of an update
abbrev pub after_key_value_form : (List ℕ → Outcome) → (List ℕ → Outcome) → (List ℕ → Outcome) → Told → List ℕ → Outcome
after_key_value_form digest pending key told bytes = after_form digest pending told bytes >>= key

-- memory may be lacking for the proof, where it may be lacking for its chunk
abbrev pub FormLacks : (List ℕ → Type 0) → Told → List ℕ → Type 0
FormLacks chunk told bytes = LacksAfter (after_told told.allowed bytes) (OperationProofLacks chunk told.width told.most)
