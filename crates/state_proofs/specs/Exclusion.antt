-- Proofs that a key is not in a state: by an update whose cyclic span holds the key, or by the commit of an empty map.
use Rattle.std.specs.Prelude.{◌≡◌, ℕ, ◌⊎◌, ◌==◌, if◌then◌else◌, List, [], ◌∷◌, ◌++◌}
use Rattle.std.specs.Prelude.{Option, Err}
use Rattle.merkle_forest.specs.Codec.{◌>>=◌, Outcome, LacksAfter, OptionLacks, option_encoding, after_option}
use Rattle.merkle_forest.specs.declared.codec.error.Error.TheVariants.{EndOfBuffer, InvalidEnum}
use Rattle.merkle_forest.specs.Forest.{Rule}
use Rattle.merkle_forest.specs.Hashing.{Hash}
use Rattle.state_ops_parts.specs.Grammar.{Lacks, after_ordered, OrderedLacks}
use Rattle.state_ops_parts.specs.Operation.{Operation}
use Rattle.state_ops.specs.Operation.{ordered, update, commit_floor, fixed_encoding}
use Rattle.state_ops.specs.Spans.{IsLeftOut}
use Rattle.state_theory.specs.Encoded.{operation_proof_encoding}
use Rattle.state_theory.specs.Verified.{Parts, Verifies}

-- a proof of an update of a key with a value and a next key; or of a commit with metadata
pub data ExclusionParts : Type 0 where
  by_update : Parts → List ℕ → List ℕ → List ℕ → ExclusionParts
  by_commit : Parts → Option (List ℕ) → ExclusionParts

-- the proof of the operation
abbrev pub proof_of : ExclusionParts → Parts
proof_of (by_update proof key value next) = proof
proof_of (by_commit proof metadata) = proof

-- the encoded operation, of keys and values of these sizes: a commit's floor is its own place, as in an empty map
abbrev pub operation_of : ℕ → ℕ → ExclusionParts → List ℕ
operation_of key_size value_size (by_update proof key value next) =
    fixed_encoding key_size value_size (update (ordered key value next))
operation_of key_size value_size (by_commit proof metadata) =
    fixed_encoding key_size value_size (commit_floor metadata proof.location)

-- the encoded operation, where `spelled` is how operations are encoded
abbrev pub operation_as : (Operation (List ℕ) → List ℕ) → ExclusionParts → List ℕ
operation_as spelled (by_update proof key value next) = spelled (update (key ++ (value ++ next)))
operation_as spelled (by_commit proof metadata) = spelled (commit_floor metadata proof.location)

-- the operation leaves no room for the key: an update of another one whose span holds it, or the commit of an empty map
abbrev pub LeavesOut : ExclusionParts → List ℕ → Type 0
LeavesOut (by_update proof key value next) asked = IsLeftOut key next asked
LeavesOut (by_commit proof metadata) asked = Unit {0}

-- the proof shows that the key is not in the state of this root
pub record Excludes (rule : Rule) (hash : Hash) (key_size value_size : ℕ) (root : List ℕ) (proof : ExclusionParts)
    (asked : List ℕ) : Type 0 where
  pub leaves_out : LeavesOut proof asked
  pub verifies : Verifies rule hash root (proof_of proof) (operation_of key_size value_size proof)

-- the proof shows that the key is not in the state of this root, where operations are encoded as `spelled` says; keys
-- are in the order of their bytes: `asked` are those of the key, and `span` is the proof with its keys' bytes in place
-- of their encodings
pub record ExcludesAs (rule : Rule) (hash : Hash) (spelled : Operation (List ℕ) → List ℕ) (root : List ℕ)
    (proof span : ExclusionParts) (asked : List ℕ) : Type 0 where
  pub leaves_out : LeavesOut span asked
  pub verifies : Verifies rule hash root (proof_of proof) (operation_as spelled proof)

-- the tag 1, the proof and the update without its tag; or the tag 2, the proof and the metadata if any
abbrev pub exclusion_encoding : (Option (List ℕ) → List ℕ) → ExclusionParts → List ℕ
exclusion_encoding pending (by_update proof key value next) =
    1 ∷ (operation_proof_encoding pending proof ++ (key ++ (value ++ next)))
exclusion_encoding pending (by_commit proof metadata) =
    2 ∷ (operation_proof_encoding pending proof ++ option_encoding (λ bytes. bytes) metadata)

-- the bytes after two items, of these grammars
abbrev pub after_both : (List ℕ → Outcome) → (List ℕ → Outcome) → List ℕ → Outcome
after_both first second bytes = first bytes >>= second

-- The bytes after such a proof, or its first fault, in the grammars of an operation's proof, of an update and of the
-- metadata's value.
abbrev pub after_tag : (List ℕ → Outcome) → (List ℕ → Outcome) → (List ℕ → Outcome) → ℕ → List ℕ → Outcome
after_tag proof updated metadata tag bytes =
    if tag == 1 then after_both proof updated bytes
    else (if tag == 2 then after_both proof (after_option metadata) bytes else Err (InvalidEnum tag))

abbrev pub after_absence : (List ℕ → Outcome) → (List ℕ → Outcome) → (List ℕ → Outcome) → List ℕ → Outcome
after_absence proof updated metadata [] = Err EndOfBuffer
after_absence proof updated metadata (tag ∷ bytes) = after_tag proof updated metadata tag bytes

-- so in those of an operation's proof, of a key and of a value
abbrev pub after_exclusion : (List ℕ → Outcome) → (List ℕ → Outcome) → (List ℕ → Outcome) → List ℕ → Outcome
after_exclusion proof key value bytes = after_absence proof (after_ordered key value) value bytes

-- memory may be lacking for it
abbrev pub BothLack : (List ℕ → Outcome) → Lacks → Lacks → List ℕ → Type 0
BothLack first first_lacks second_lacks bytes = first_lacks bytes ⊎ LacksAfter (first bytes) second_lacks

abbrev pub TagLacks : (List ℕ → Outcome) → Lacks → Lacks → Lacks → ℕ → List ℕ → Type 0
TagLacks proof proof_lacks updated_lacks metadata_lacks tag bytes =
    ((tag ≡ 1) × BothLack proof proof_lacks updated_lacks bytes)
    ⊎ ((tag ≡ 2) × BothLack proof proof_lacks (OptionLacks metadata_lacks) bytes)

abbrev pub AbsenceLacks : (List ℕ → Outcome) → Lacks → Lacks → Lacks → List ℕ → Type 0
AbsenceLacks proof proof_lacks updated_lacks metadata_lacks [] = ⊥
AbsenceLacks proof proof_lacks updated_lacks metadata_lacks (tag ∷ bytes) =
    TagLacks proof proof_lacks updated_lacks metadata_lacks tag bytes

abbrev pub ExclusionLacks : (List ℕ → Outcome) → (List ℕ → Outcome) → (List ℕ → Outcome) → Lacks → Lacks → Lacks
    → List ℕ → Type 0
ExclusionLacks proof key value proof_lacks key_lacks value_lacks bytes =
    AbsenceLacks proof proof_lacks (OrderedLacks key value key_lacks value_lacks) value_lacks bytes
