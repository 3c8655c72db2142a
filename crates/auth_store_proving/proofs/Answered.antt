-- What is answered where proofs of operations are asked for by their locations.
use Rattle.std.proofs.Common.{◌≡◌, ℕ, ◌+◌, ◌-◌, ◌*◌, ◌/◌, ◌<◌, ◌≤◌, Bool, true, false, inl, inr, zero, suc, refl}
use Rattle.std.proofs.Common.{List, [], ◌∷◌, ◌++◌, append-nil, length, length-drop, take, drop, get_or, slice_get}
use Rattle.std.proofs.Common.{slice_index_or, Option, None, Some, Result, Ok, Err, sym, ◌∙◌, ap, arith}
use Rattle.std.specs.List.{flat_map}
use Rattle.std.proofs.lemmas.Bool.{cases_lt, cond-true, cond-false, le-leb, le-ltb, lt-leb, lt-ltb}
use Rattle.std.proofs.lemmas.Grind.{flat_map-append}
use Rattle.std.proofs.lemmas.List.{get_or-drop, take_more}
use Rattle.std.proofs.lemmas.Nat.{div-add-mod', le-div}
use Rattle.std.proofs.lemmas.Option.{get_or_from_slice_get, slice_get_past}
use Rattle.std.proofs.Math.Nat.{mul_comm}
use Rattle.merkle_theory.specs.Proofs.{proof_encoding}
use Rattle.state_ops.specs.Operation.{Operation}
use Rattle.state_theory.specs.Canonical.{Setting, State, chunk_bits, chunks}
use Rattle.state_theory.specs.Laws.Chunks.{location_chunks}
use Rattle.auth_store_client.specs.Proving.{honest_operation}
use Rattle.auth_store_proving.specs.declared.error.Unprovable.{Unprovable}
use Rattle.auth_store_proving.specs.declared.error.Unprovable.TheVariants.{EmptyRange, OutOfRange, Pruned, Inactive}
use Rattle.auth_store_ledger.specs.History.{History, activity_bits, log_of}
use Rattle.auth_store_proving.specs.Proving.{OperationAnswer, RangeAnswer, SliceAnswer, answer_of_found}
use Rattle.auth_store_proving.specs.Proving.{answer_of_operation, is_before_chunks, range_refusal}
use Rattle.auth_store_proving.specs.Proving.{unless_refused}

module _ (setting : Setting) (history : History) (pruned start stop : ℕ) where
  pub refused_empty : stop ≤ start → Some EmptyRange ≡ range_refusal setting history pruned start stop
  refused_empty le = sym (cond-true _ _ _ (le-leb stop start le))

  pub refused_past : start < stop → length (log_of history) < stop → Some OutOfRange ≡ range_refusal setting history pruned start stop
  refused_past some past =
      sym (cond-false _ _ _ (lt-leb stop start some) ∙ cond-true _ _ _ (lt-ltb (length (log_of history)) stop past))

  pub refused_pruned : start < stop → stop ≤ length (log_of history) → is_before_chunks setting pruned start ≡ true
      → Some Pruned ≡ range_refusal setting history pruned start stop
  refused_pruned some within before =
      sym (cond-false _ _ _ (lt-leb stop start some) ∙ (cond-false _ _ _ (le-ltb (length (log_of history)) stop within)
      ∙ cond-true _ _ _ before))

  pub not_refused : start < stop → stop ≤ length (log_of history) → is_before_chunks setting pruned start ≡ false
      → None ≡ range_refusal setting history pruned start stop
  not_refused some within behind =
      sym (cond-false _ _ _ (lt-leb stop start some) ∙ (cond-false _ _ _ (le-ltb (length (log_of history)) stop within)
      ∙ cond-false _ _ _ behind))

-- where nothing is refused, the range is in the log
pub in_range : (setting : Setting) (history : History) (pruned start stop : ℕ) → None ≡ range_refusal setting history pruned start stop
    → (start < stop) × (stop ≤ length (log_of history))
in_range setting history pruned start stop none = elim (cases_lt start stop) [
  | inr le ↦ absurd (let clash : ◌≡◌ {A = Option Unprovable} None (Some EmptyRange) =
      none ∙ sym (refused_empty setting history pruned start stop le) in cc)
  | inl some ↦ elim (cases_lt (length (log_of history)) stop) [
    | inl past ↦ absurd (let clash : ◌≡◌ {A = Option Unprovable} None (Some OutOfRange) =
        none ∙ sym (refused_past setting history pruned start stop some past) in cc)
    | inr within ↦ (some, within)
  ]
]

-- the answer that is refused, and the one that is not
pub unless_some : {A : Type 0} (refusal : Option Unprovable) (answer : A) (why : Unprovable) → Some why ≡ refusal
    → unless_refused refusal answer ≡ Err why
unless_some refusal answer why is = ap (λ (r : Option Unprovable). unless_refused r answer) (sym is)

pub unless_none : {A : Type 0} (refusal : Option Unprovable) (answer : A) → None ≡ refusal → Ok answer ≡ unless_refused refusal answer
unless_none refusal answer is = ap (λ (r : Option Unprovable). unless_refused r answer) is

module _ (pending : Option (List ℕ) → List ℕ) (setting : Setting) (key value : ℕ) (history : History) (pruned location : ℕ) where
  abbrev answer : Result OperationAnswer Unprovable
  answer = answer_of_operation pending setting key value history pruned location

  pub operation_missing : slice_get (log_of history) location ≡ None → answer ≡ Err OutOfRange
  operation_missing is = ap (answer_of_found pending setting key value history pruned location) is

  module _ (operation : Operation) (is : slice_get (log_of history) location ≡ Some operation) where
    there : answer ≡ answer_of_found pending setting key value history pruned location (Some operation)
    there = ap (answer_of_found pending setting key value history pruned location) is

    pub operation_pruned : is_before_chunks setting pruned location ≡ true → answer ≡ Err Pruned
    operation_pruned before = there ∙ cond-true _ _ _ before

    bit_is : (bit : Bool) → slice_get (activity_bits (log_of history)) location ≡ Some bit
        → slice_index_or (activity_bits (log_of history)) location false ≡ bit
    bit_is bit at = get_or_from_slice_get (activity_bits (log_of history)) location bit false at

    pub operation_inactive : is_before_chunks setting pruned location ≡ false
        → slice_get (activity_bits (log_of history)) location ≡ Some false → answer ≡ Err Inactive
    operation_inactive behind bit = there ∙ (cond-false _ _ _ behind ∙ cond-false _ _ _ (bit_is false bit))

    pub operation_answered : (bytes : List ℕ) → is_before_chunks setting pruned location ≡ false
        → slice_get (activity_bits (log_of history)) location ≡ Some true
        → bytes ≡ honest_operation pending setting key value history location
        → (let proved : OperationAnswer = record { operation = operation; bytes = bytes } in Ok proved ≡ answer)
    operation_answered bytes behind bit same =
        ap (λ (b : List ℕ). let proved : OperationAnswer = record { operation = operation; bytes = b } in Ok proved) same
        ∙ sym (there ∙ (cond-false _ _ _ behind ∙ cond-true _ _ _ (bit_is true bit)))

-- the chunks from one on, and the next one
pub chunk_more : (chunks : List (List ℕ)) (first index : ℕ) → first ≤ index → index < length chunks
    → flat_map (λ chunk. chunk) (take (index + 1 - first) (drop first chunks))
    ≡ flat_map (λ chunk. chunk) (take (index - first) (drop first chunks)) ++ slice_index_or chunks index []
chunk_more chunks first index from within =
    let rest : List (List ℕ) = drop first chunks in
    let step : index + 1 - first ≡ index - first + 1 = omega (arith, from) in
    let sum : first + (index - first) ≡ index = omega (arith, from) in
    let front : List (List ℕ) = take (index - first) rest in
    ap (λ (n : ℕ). flat_map (λ chunk. chunk) (take n rest)) step
    ∙ (ap (flat_map (λ chunk. chunk)) (take_more rest (index - first) [] (omega (arith, length-drop first chunks, within, from)))
    ∙ (flat_map-append (λ chunk. chunk) front (get_or rest (index - first) [] ∷ [])
    ∙ ap (λ (l : List ℕ). flat_map (λ chunk. chunk) front ++ l) (append-nil (get_or rest (index - first) [])
    ∙ (get_or-drop first chunks (index - first) [] ∙ ap (λ (n : ℕ). get_or chunks n []) sum))))

-- what stands from `start` on, and the next one
pub item_more : {A : Type 0} (items : List A) (start at : ℕ) (item : A) → start ≤ at → slice_get items at ≡ Some item
    → take (at + 1 - start) (drop start items) ≡ take (at - start) (drop start items) ++ item ∷ []
item_more {A} items start at item from is =
    let rest : List A = drop start items in
    let step : at + 1 - start ≡ at - start + 1 = omega (arith, from) in
    let sum : start + (at - start) ≡ at = omega (arith, from) in
    let within : at < length items = some_within items at item is in
    ap (λ (n : ℕ). take n rest) step
    ∙ (take_more rest (at - start) item (omega (arith, length-drop start items, within, from))
    ∙ ap (λ (x : A). take (at - start) rest ++ x ∷ []) (get_or-drop start items (at - start) item
    ∙ (ap (λ (n : ℕ). get_or items n item) sum ∙ get_or_from_slice_get items at item item is)))
  where
    some_within : (xs : List A) (i : ℕ) (x : A) → slice_get xs i ≡ Some x → i < length xs
    some_within xs i x get = elim (cases_lt i (length xs)) [
      | inl lt ↦ lt
      | inr le ↦ absurd (let clash : ◌≡◌ {A = Option A} None (Some x) = sym (slice_get_past xs i le) ∙ get in cc)
    ]

-- where a place is within, something stands there
pub some_there : {A : Type 0} (items : List A) (at : ℕ) → at < length items → (item : A) × (slice_get items at ≡ Some item)
some_there [] at within = absurd (omega (arith, within))
some_there (x ∷ items) zero within = (x, refl)
some_there (x ∷ items) (suc at) within = some_there items at (omega (arith, within))

-- a chunk up to that of a location of the log is there
pub chunk_within : (setting : Setting) (state : State) (location chunk : ℕ) → 0 < setting.width → location < length state.operations
    → chunk ≤ location / chunk_bits setting → chunk < length (chunks setting state)
chunk_within setting state location chunk some within le = omega (arith, location_chunks setting state location some within, le)

-- a proof's encoding, part by part
pub same_proof : (leaves count inactive peaks : ℕ) (digests others : List (List ℕ)) → leaves ≡ count → inactive ≡ peaks → digests ≡ others
    → proof_encoding leaves inactive digests ≡ proof_encoding count peaks others
same_proof leaves count inactive peaks digests others p q r = λ i. proof_encoding (p i) (q i) (r i)

-- answers, part by part
pub same_range : (operations others : List Operation) (active bits : List Bool) (bytes proof : List ℕ) → operations ≡ others → active ≡ bits
    → bytes ≡ proof
    → (let one : RangeAnswer = record { operations = operations; active = active; bytes = bytes } in let other : RangeAnswer =
    record { operations = others; active = bits; bytes = proof } in one ≡ other)
same_range operations others active bits bytes proof p q r = λ i. record { operations = p i; active = q i; bytes = r i }

pub same_slice : (operations others : List Operation) (bytes proof : List ℕ) → operations ≡ others → bytes ≡ proof
    → (let one : SliceAnswer = record { operations = operations; bytes = bytes } in let other : SliceAnswer =
    record { operations = others; bytes = proof } in one ≡ other)
same_slice operations others bytes proof p q = λ i. record { operations = p i; bytes = q i }

-- so many chunks that end by a location stand before its own
pub chunks_before : (size chunks location : ℕ) → 0 < size → size * chunks ≤ location → chunks ≤ location / size
chunks_before size chunks location some le = le-div chunks location size some (omega (arith, mul_comm chunks size, le))

pub chunk_order : (size start last : ℕ) → 0 < size → start ≤ last → start / size ≤ last / size
chunk_order size start last some le = le-div (start / size) last size some (omega (arith, div-add-mod' start size, le))
