-- Claims about a history, and when bytes show them under a root.
use Rattle.std.specs.Prelude.{◌≡◌, ◌-◌, ◌*◌, ◌/◌, ◌%◌, ◌<◌, ⊤, ℕ, Bool, true, List, [], ◌++◌, map, length, take, drop}
use Rattle.std.specs.Prelude.{Option, None, Some, slice_get, slice_index_or, IfSome}
use Rattle.std.specs.List.{AllByRecursion, flat_map, range_with_len}
use Rattle.merkle_forest.specs.Codec.{Outcome}
use Rattle.merkle_forest.specs.Forest.{Rule}
use Rattle.merkle_forest.specs.Hashing.{Hash}
use Rattle.state_ops.specs.Operation.{Operation, fixed_encoding, update, ordered}
use Rattle.state_ops.specs.Reading.{IsField, IsOfFields}
use Rattle.state_theory.specs.SetBits.{is_set}
use Rattle.state_theory.specs.Encoded.{Format, format_of, range_proof_encoding, FitsRange, Fits, ShowsOperation}
use Rattle.state_theory.specs.Encoded.{ShowsUpdate}
use Rattle.state_proofs.specs.Exclusion.{ExclusionParts, by_update, by_commit, exclusion_encoding, Excludes}
use Rattle.state_theory.specs.Verified.{RangeParts, Shown, VerifiesRange}
use Rattle.auth_store_parts.specs.History.{History, activity_bits, latest_map, log_of}
use Rattle.auth_store_parts.specs.Map.{value_at}
use Rattle.auth_store_client.specs.Slices.{SliceParts, slice_encoding, FitsSlice, VerifiesSlice}

-- What is said of a history: a key has a value; a key is not there; an operation stands at a location of its log and is
-- active; operations stand in the log from a location on, with these activity bits; or they stand there, and nothing is
-- said of their bits.
pub data Claim : Type 0 where
  has_value : List ℕ → List ℕ → Claim
  is_absent : List ℕ → Claim
  is_active : ℕ → Operation → Claim
  has_range : ℕ → List Operation → List Bool → Claim
  has_slice : ℕ → List Operation → Claim

-- The keys and the values that a claim names are some. The key that is not there may be any.
abbrev pub ClaimsFields : (List ℕ → Type 0) → (List ℕ → Type 0) → Claim → Type 0
ClaimsFields IsKey IsValue (has_value key value) = IsKey key × IsValue value
ClaimsFields IsKey IsValue (is_absent key) = ⊤
ClaimsFields IsKey IsValue (is_active location operation) = IsOfFields IsKey IsValue operation
ClaimsFields IsKey IsValue (has_range start operations active) = AllByRecursion (IsOfFields IsKey IsValue) operations
ClaimsFields IsKey IsValue (has_slice start operations) = AllByRecursion (IsOfFields IsKey IsValue) operations

-- ---- when a claim is true

-- these stand in the list from a location on
abbrev pub StandFrom : {A : Type 0} → List A → ℕ → List A → Type 0
StandFrom list start some = take (length some) (drop start list) ≡ some

-- The claim holds of the history. One of a range or of a slice names an operation at least.
abbrev pub IsTrueOf : Claim → History → Type 0
IsTrueOf (has_value key value) history = value_at (latest_map history) key ≡ Some value
IsTrueOf (is_absent key) history = value_at (latest_map history) key ≡ None
IsTrueOf (is_active location operation) history =
    (slice_get (log_of history) location ≡ Some operation)
    × (slice_get (activity_bits (log_of history)) location ≡ Some true)
IsTrueOf (has_range start operations active) history =
    (0 < length operations) × StandFrom (log_of history) start operations × (length active ≡ length operations)
    × StandFrom (activity_bits (log_of history)) start active
IsTrueOf (has_slice start operations) history = (0 < length operations) × StandFrom (log_of history) start operations

-- ---- when bytes show it

-- How a store's proofs are encoded: their format, how many bytes a key and a value have, and which bytes are one.
pub record Terms : Type 1 where
  pub format : Format
  pub key_size : ℕ
  pub value_size : ℕ
  pub IsKey : List ℕ → Type 0
  pub IsValue : List ℕ → Type 0

-- The terms of a family's trees, a hash function, chunks of `width` bytes and digests of `size`, of which a proof of
-- one operation has up to 122; the family says which pending digests a proof may hold and how they are encoded; `key`
-- and `value` are the grammars of keys and of values.
abbrev pub terms : Rule → Hash → ℕ → ℕ → (Option (List ℕ) → Type 0) → (Option (List ℕ) → List ℕ) → (List ℕ → Outcome)
    → (List ℕ → Outcome) → ℕ → ℕ → Terms
terms rule hash width size IsPending pending key value key_size value_size = record {
  format = format_of rule hash width size IsPending pending (IsField key key_size);
  key_size = key_size;
  value_size = value_size;
  IsKey = IsField key key_size;
  IsValue = IsField value value_size;
}

-- the encoding of an operation
abbrev pub encoded : Terms → Operation → List ℕ
encoded terms operation = fixed_encoding terms.key_size terms.value_size operation

-- the parts of a proof of absence are within the limits, and encode keys and values
abbrev pub FitsExclusion : Terms → ExclusionParts → Type 0
FitsExclusion terms (by_update proof key value next) =
    Fits terms.format.IsPending terms.format.width terms.format.size terms.format.most proof
    × terms.IsKey key × terms.IsValue value × terms.IsKey next
FitsExclusion terms (by_commit proof metadata) =
    Fits terms.format.IsPending terms.format.width terms.format.size terms.format.most proof
    × IfSome metadata terms.IsValue

-- the bytes are those of a proof that the key is not in the state of this root
pub record ShowsAbsence (terms : Terms) (root key bytes : List ℕ) : Type 0 where
  pub proof : ExclusionParts
  pub is : bytes ≡ exclusion_encoding terms.format.pending proof
  pub fits : FitsExclusion terms proof
  pub excludes : Excludes terms.format.rule terms.format.hash terms.key_size terms.value_size root proof key

-- the bytes are those of a proof that the operation is active at this location
pub record ShowsActive (terms : Terms) (root : List ℕ) (location : ℕ) (operation : Operation)
    (bytes : List ℕ) : Type 0 where
  pub shown : ShowsOperation terms.format root (encoded terms operation) bytes
  pub at : shown.proof.location ≡ location

-- how many digests the proof over several operations may have: twice as many as that of one
abbrev pub range_most : Terms → ℕ
range_most terms = 2 * terms.format.most

-- the proof over a range, and the chunks over it, one after the other
abbrev pub range_encoding : (Option (List ℕ) → List ℕ) → RangeParts → List (List ℕ) → List ℕ
range_encoding pending proof chunks = range_proof_encoding pending proof ++ flat_map (λ chunk. chunk) chunks

-- what they show: the encoded operations from a location on, and the chunks over them
abbrev pub shown_of : Terms → ℕ → List Operation → List (List ℕ) → Shown
shown_of terms start operations chunks = record {
  start = start;
  operations = map (encoded terms) operations;
  chunks = chunks;
  width = terms.format.width;
}

-- whether the bit of a location is set, in the chunks of `width` bytes over the locations from `start` on
abbrev pub bit_over : ℕ → ℕ → List (List ℕ) → ℕ → Bool
bit_over width start chunks location =
    let bits = 8 * width in
    let bit = location % bits in
    is_set (slice_get (slice_index_or chunks (location / bits - start / bits) []) (bit / 8)) bit

-- the bits of so many locations from `start` on
abbrev pub bits_over : ℕ → ℕ → List (List ℕ) → ℕ → List Bool
bits_over width start chunks count = map (bit_over width start chunks) (range_with_len start count)

-- the bytes are those of a proof that the operations stand from this location on and have these activity bits
pub record ShowsRange (terms : Terms) (root : List ℕ) (start : ℕ) (operations : List Operation) (active : List Bool)
    (bytes : List ℕ) : Type 0 where
  pub proof : RangeParts
  pub chunks : List (List ℕ)
  pub is : bytes ≡ range_encoding terms.format.pending proof chunks
  pub fits : FitsRange terms.format.IsPending terms.format.size (range_most terms) proof
  pub verifies : VerifiesRange terms.format.rule terms.format.hash root proof (shown_of terms start operations chunks)
  pub bits : active ≡ bits_over terms.format.width start chunks (length operations)

-- the bytes are those of a proof that the operations stand from this location on
pub record ShowsSlice (terms : Terms) (root : List ℕ) (start : ℕ) (operations : List Operation)
    (bytes : List ℕ) : Type 0 where
  pub slice : SliceParts
  pub is : bytes ≡ slice_encoding terms.format.pending slice
  pub fits : FitsSlice terms.format.IsPending terms.format.size (range_most terms) slice
  pub verifies : VerifiesSlice terms.format.rule terms.format.hash root slice start (map (encoded terms) operations)

-- The bytes show the claim under this root. That a key has a value is shown by a proof of the update that says so.
abbrev pub Shows : Terms → Claim → List ℕ → List ℕ → Type 0
Shows terms (has_value key value) root bytes =
    ShowsUpdate terms.format root (λ next_key. encoded terms (update (ordered key value next_key))) bytes
Shows terms (is_absent key) root bytes = ShowsAbsence terms root key bytes
Shows terms (is_active location operation) root bytes = ShowsActive terms root location operation bytes
Shows terms (has_range start operations active) root bytes = ShowsRange terms root start operations active bytes
Shows terms (has_slice start operations) root bytes = ShowsSlice terms root start operations bytes
