-- Which operations are recorded: those that have an encoding, and those that were read.
use Rattle.std.proofs.Common.{◌≡◌, ℕ, ◌+◌, ◌≤◌, ltb, Bool, true, false, cond, List, [], ◌∷◌, ◌++◌, length, take, drop}
use Rattle.std.proofs.Common.{None, Some, Ok, Err, refl, sym, ◌∙◌, ap}
use Rattle.std.proofs.Common.{arith}
use Rattle.std.proofs.lemmas.Bool.{le-ltb, ltb-false}
use Rattle.std.proofs.lemmas.List.{append-nil, take_at, drop_at, take_all, drop_all, length-append, length-drop}
use Rattle.merkle_forest.specs.declared.codec.error.Error.TheVariants.{EndOfBuffer}
use Rattle.merkle_forest.specs.Codec.{Outcome, ◌>>=◌}
use Rattle.state_ops_parts.specs.declared.operation.Operation.TheVariants.{Delete, Update, CommitFloor}
use Rattle.state_ops_parts.specs.Operation.{IsValue}
use Rattle.state_ops_parts.specs.Grammar.{Found, padded_at}
use Rattle.state_ops_parts.specs.Laws.Again.{fixed_sized}
use Rattle.state_ops.specs.Operation.{Operation, Code, delete, update, ordered, commit_floor, spelled, meaning_of}
use Rattle.state_ops.specs.Reading.{IsField, IsOfFields, HasEncoding, ordered_at}
use Rattle.state_ops.specs.Laws.Again.{read_again, sizes}
use Rattle.auth_store_log.specs.Records.{Format, record_size, record_of, operation_in, IsRecorded, AreRecorded}
use Rattle.auth_store_log.specs.Records.{FloorFits}

-- what stands in the frame of a record, which is taken whole
abbrev framed : Format → List ℕ → Found Operation
framed format bytes = padded_at format.key format.value (ordered_at format.key format.value) format.value_size bytes

-- what was found in a frame is found there again, with nothing behind it
taken : (short : Bool) (found : Found Operation) (behind rest : List ℕ) (operation : Operation)
    → ◌≡◌ {A = Found Operation} (cond {A = Found Operation} short (Err EndOfBuffer) (found >>= λ x. Ok (
      x.0,
      behind,
    ))) (Ok (operation, rest))
    → (short ≡ false) × (((after : List ℕ)
    → ◌≡◌ {A = Found Operation} (found >>= λ x. Ok (x.0, after)) (Ok (operation, after))) × (behind ≡ rest))
taken true found behind rest operation is = absurd (cc)
taken false (Err e) behind rest operation is = absurd (cc)
taken false (Ok x) behind rest operation is =
    let whole : ◌≡◌ {A = Found Operation} (Ok (x.0, behind)) (Ok (operation, rest)) = is in
    let pairs : ◌≡◌ {A = Operation × List ℕ} (x.0, behind) (operation, rest) = cc in
    let same : x.0 ≡ operation = ap (λ (p : Operation × List ℕ). p.0) pairs in (
      refl,
      (
        (λ after. ap {B = Found Operation} (λ (o : Operation). Ok (o, after)) same),
        ap (λ (p : Operation × List ℕ). p.1) pairs,
      ),
    )

-- what has an encoding is of keys and values
encoded_fields : (key value : List ℕ → Outcome) (ks vs : ℕ) (operation : Operation)
    → HasEncoding key value ks vs operation
    → IsOfFields (IsField key ks) (IsField value vs) operation
encoded_fields key value ks vs (delete k) has = has
encoded_fields key value ks vs (update (ordered k v next)) has = has
encoded_fields key value ks vs (commit_floor metadata floor) has = (has.0, omega (arith, has.1))

module _ (format : Format) where
  -- what has an encoding is recorded
  pub encoded_is_recorded : (operation : Operation)
      → HasEncoding format.key format.value format.key_size format.value_size operation
      → IsRecorded format operation
  encoded_is_recorded operation has =
      let ks = format.key_size in
      let vs = format.value_size in
      record {
        sized = fixed_sized spelled ks vs (ks + vs + ks) operation (sizes format.key format.value ks vs operation has);
        again = ap (operation_in format) (sym (append-nil (record_of format operation)))
            ∙ read_again format.key format.value ks vs operation [] has;
        fields = encoded_fields format.key format.value ks vs operation has;
      }

  -- a record is found at the front of more bytes
  pub record_front : (operation : Operation) (rest : List ℕ) → IsRecorded format operation
      → operation_in format (record_of format operation ++ rest) ≡ Ok (operation, rest)
  record_front operation rest is =
      let size = record_size format in
      let front = record_of format operation in
      let short : Bool = ltb (length front) size in
      let parts = taken short (framed format (take size front)) (drop size front) [] operation is.again in
      let long : ltb (length (front ++ rest)) size
      ≡ false = le-ltb _ _ (omega (arith, is.sized, length-append front rest)) in
      let here : take size (front ++ rest) ≡ take size front =
      take_at front rest size is.sized ∙ sym (take_all size front (omega (arith, is.sized))) in
      ap (λ b. cond {A = Found Operation} b (Err EndOfBuffer) (framed format (take size (front ++ rest)) >>= λ x.
      Ok (x.0, drop size (front ++ rest)))) long
      ∙ ap (λ bytes. framed format bytes >>= λ x. Ok (x.0, drop size (front ++ rest))) here
      ∙ ap (λ after. framed format (take size front) >>= λ x. Ok (x.0, after)) (drop_at front rest size is.sized)
      ∙ parts.1.0 rest

  -- what was read, and stands there in its spelling, is recorded
  pub read_is_recorded : (operation : Operation) (bytes rest : List ℕ)
      → operation_in format bytes ≡ Ok (operation, rest)
      → bytes ≡ record_of format operation ++ rest
      → IsOfFields (IsField format.key format.key_size) (IsField format.value format.value_size) operation
      → IsRecorded format operation
  read_is_recorded operation bytes rest found stands fields =
      let size = record_size format in
      let front = record_of format operation in
      let parts = taken (ltb (length bytes) size) (framed format (take size bytes))
      (drop size bytes) rest operation found in
      let enough : size ≤ length bytes = ltb-false (length bytes) size parts.0 in
      let sized : length front ≡ size =
      omega (arith, enough, ap length stands, length-append front rest, ap length parts.1.1, length-drop size bytes) in
      let long : ltb (length front) size ≡ false = le-ltb _ _ (omega (arith, sized)) in
      let here : take size front ≡ take size bytes =
      take_all size front (omega (arith, sized)) ∙ sym (ap (take size) stands ∙ take_at front rest size sized) in
      record {
        sized = sized;
        again =
            ap (λ b. cond {A = Found Operation} b (Err EndOfBuffer)
            (framed format (take size front) >>= λ x. Ok (x.0, drop size front))) long
            ∙ ap (λ frame. framed format frame >>= λ x. Ok (x.0, drop size front)) here
            ∙ ap (λ after. framed format (take size bytes) >>= λ x. Ok (x.0, after))
            (drop_all size front (omega (arith, sized)))
            ∙ parts.1.0 [];
        fields = fields;
      }

  -- recorded operations one after the other
  pub recorded_together : (one other : List Operation) → AreRecorded format one → AreRecorded format other
      → AreRecorded format (one ++ other)
  recorded_together [] other ones others = others
  recorded_together (operation ∷ one) other ones others = (ones.0, recorded_together one other ones.1 others)

-- an operation of the code, whose keys and values are values, has an encoding
pub value_is_encoded : {F K V A B C D E G H : Type 0} (key_of : K → List ℕ)
    (value_of : V → List ℕ) (key value : List ℕ → Outcome) (ks vs : ℕ)
    (Key : K → Type 0) (Value : V → Type 0) → ((k : K) → Key k → IsField key ks (key_of k))
    → ((v : V) → Value v → IsField value vs (value_of v))
    → (operation : Code F K V A B C D E G H)
    → IsValue Key Value (λ u. Key u.key × (Value u.value × Key u.next_key)) operation
    → FloorFits (meaning_of key_of value_of operation)
    → HasEncoding key value ks vs (meaning_of key_of value_of operation)
value_is_encoded key_of value_of key value ks vs Key Value key_field value_field (Delete k) is fits = key_field k is
value_is_encoded key_of value_of key value ks vs Key Value key_field value_field (Update u) is fits =
    (key_field u.key is.0, (value_field u.value is.1.0, key_field u.next_key is.1.1))
value_is_encoded key_of value_of key value ks vs Key Value key_field value_field (CommitFloor None floor) is fits =
    (tt, fits)
value_is_encoded key_of value_of key value ks vs Key Value key_field value_field (CommitFloor (Some v) floor) is fits =
    (value_field v is.0, fits)
