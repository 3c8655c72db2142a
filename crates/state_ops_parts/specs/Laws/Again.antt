-- What is encoded is read again.
use Rattle.std.proofs.Common.{◌≡◌, ℕ, zero, suc, ◌+◌, ◌-◌, ◌^◌, ◌≤◌, ltb, false, cond, List, [], ◌++◌, length, take}
use Rattle.std.proofs.Common.{drop, replicate, append_assoc, Option, None, Some, Ok, Err, refl, sym, ◌∙◌, ap, arith}
use Rattle.std.specs.Prelude.{IfSome}
use Rattle.std.specs.Int.{w64, to_be_bytes, from_be_bytes}
use Rattle.std.proofs.lemmas.Nat.{from_be_bytes-to_be_bytes_8}
use Rattle.std.proofs.lemmas.Bool.{le-ltb}
use Rattle.std.proofs.lemmas.List.{take_at, drop_at, length-append, length-replicate}
use Rattle.merkle_forest.specs.declared.codec.error.Error.TheVariants.{EndOfBuffer}
use Rattle.merkle_forest.specs.Codec.{Outcome, ◌>>=◌, option_encoding}
use Rattle.merkle_forest.specs.Varint.{varint}
use Rattle.merkle_forest.specs.Laws.Varint.{varint_again}
use Rattle.state_ops_parts.specs.Operation.{Operation, delete, update, commit_floor, fixed_size, fixed_metadata}
use Rattle.state_ops_parts.specs.Operation.{unpadded, fixed_encoding, variable_encoding}
use Rattle.state_ops_parts.specs.Grammar.{Found, item_at, told, after_zeros, with_zeros, fixed_metadata_at}
use Rattle.state_ops_parts.specs.Grammar.{fixed_floor_at, option_at, floor_at, commit_at, unpadded_at, padded_at}
use Rattle.state_ops_parts.specs.Grammar.{fixed_at, variable_at, Ends, HasFields, HasSizes}
use Rattle.state_ops_parts.specs.Laws.Found.{item_is, zeros_with}

zeros_again : (count : ℕ) → after_zeros (replicate count 0) ≡ Ok []
zeros_again zero = refl
zeros_again (suc count) = zeros_again count

item_again : (grammar : List ℕ → Outcome) (bytes rest : List ℕ) → Ends grammar bytes
    → item_at grammar (bytes ++ rest) ≡ Ok (bytes, rest)
item_again grammar bytes rest ends = item_is grammar (bytes ++ rest) bytes rest (ends rest) refl

-- a frame of a known size is taken from the front
framed : {T : Type 0} (size : ℕ) (fault : Found T) (f : List ℕ → Found T) (old bytes new : List ℕ)
    → old ≡ bytes ++ new → length bytes ≡ size
    → cond (ltb (length old) size) fault (f (take size old) >>= λ x. Ok (x.0, drop size old))
    ≡ (f bytes >>= λ x. Ok (x.0, new))
framed size fault f old bytes new is sized =
    let long : ltb (length old) size ≡ false = le-ltb _ _ (omega (arith, ap length is, length-append bytes new)) in
    let front : take size old ≡ bytes = ap (take size) is ∙ take_at bytes new size sized in
    let back : drop size old ≡ new = ap (drop size) is ∙ drop_at bytes new size sized in
    rw (long, front, back) refl

floor_number : (bytes front back : List ℕ) (n : ℕ) → bytes ≡ front ++ back → length front ≡ 8
    → from_be_bytes w64 front ≡ n → n ≤ 2 ^ 62 → fixed_floor_at bytes ≡ Ok (n, back)
floor_number bytes front back n is sized at small =
    let long : ltb (length bytes) 8 ≡ false = le-ltb _ _ (omega (arith, ap length is, length-append front back)) in
    let number : from_be_bytes w64 (take 8 bytes) ≡ n = ap (λ x. from_be_bytes w64 (take 8 x)) is
    ∙ (ap (from_be_bytes w64) (take_at front back 8 sized) ∙ at) in
    let within : ltb (2 ^ 62) n ≡ false = le-ltb _ _ small in
    let rest : drop 8 bytes ≡ back = ap (drop 8) is ∙ drop_at front back 8 sized in
    rw (long, number, within, rest) refl

fixed_floor_again : (n : ℕ) (rest : List ℕ) → n ≤ 2 ^ 62 → fixed_floor_at (to_be_bytes w64 n ++ rest) ≡ Ok (n, rest)
fixed_floor_again n rest small =
    floor_number (to_be_bytes w64 n ++ rest) (to_be_bytes w64 n) rest n refl refl
    (from_be_bytes-to_be_bytes_8 n (omega arith)) small

floor_again : (n : ℕ) (rest : List ℕ) → n ≤ 2 ^ 62 → floor_at (varint n ++ rest) ≡ Ok (n, rest)
floor_again n rest small =
    let within : ltb (2 ^ 62) n ≡ false = le-ltb _ _ small in
    rw (varint_again n rest (omega arith), within) refl

absent_again : (size : ℕ) (rest : List ℕ) → cond (ltb (length (replicate size 0 ++ rest)) size) (Err EndOfBuffer)
    (after_zeros (take size (replicate size 0 ++ rest)) >>= λ _. Ok (drop size (replicate size 0 ++ rest))) ≡ Ok rest
absent_again size rest =
    let bytes : List ℕ = replicate size 0 in
    let sized : length bytes ≡ size = length-replicate {A = ℕ} size 0 in
    let long : ltb (length (bytes ++ rest)) size
    ≡ false = le-ltb _ _ (omega (arith, sized, length-append bytes rest)) in
    rw (long, take_at bytes rest size sized, drop_at bytes rest size sized, zeros_again size) refl

fixed_metadata_again : (value : List ℕ → Outcome) (size : ℕ) (metadata : Option (List ℕ)) (rest : List ℕ)
    → IfSome metadata (Ends value)
    → fixed_metadata_at value size (fixed_metadata size metadata ++ rest) ≡ Ok (metadata, rest)
fixed_metadata_again value size None rest h = rw (absent_again size rest) refl
fixed_metadata_again value size (Some bytes) rest h = ap (told Some) (item_again value bytes rest h)

option_again : (value : List ℕ → Outcome) (metadata : Option (List ℕ)) (rest : List ℕ)
    → IfSome metadata (Ends value)
    → option_at value (option_encoding (λ bytes. bytes) metadata ++ rest) ≡ Ok (metadata, rest)
option_again value None rest h = refl
option_again value (Some bytes) rest h = ap (told Some) (item_again value bytes rest h)

-- a commit is read again where its metadata and its floor are
commit_again : {U : Type 0} (metadata_at : List ℕ → Found (Option (List ℕ)))
    (number_at : List ℕ → Found ℕ) (front back rest : List ℕ)
    (metadata : Option (List ℕ)) (floor : ℕ)
    → metadata_at (front ++ (back ++ rest)) ≡ Ok (metadata, back ++ rest) → number_at (back ++ rest) ≡ Ok (floor, rest)
    → commit_at {U = U} metadata_at number_at ((front ++ back) ++ rest) ≡ Ok (commit_floor metadata floor, rest)
commit_again {U} metadata_at number_at front back rest metadata floor first second =
    ap (λ x. metadata_at x >>= λ y. told (commit_floor y.0) (number_at y.1)) (append_assoc front back rest)
    ∙ (ap (λ x. x >>= λ y. told (commit_floor y.0) (number_at y.1)) first ∙ ap (told (commit_floor metadata)) second)

unpadded_again : {U : Type 0} (key value : List ℕ → Outcome) (updated : List ℕ → Found U)
    (spelled : U → List ℕ) (size : ℕ) (operation : Operation U)
    (rest : List ℕ)
    → HasFields key value updated spelled operation
    → unpadded_at key value updated size (unpadded spelled size operation ++ rest) ≡ Ok (operation, rest)
unpadded_again key value updated spelled size (delete k) rest h = ap (told delete) (item_again key k rest h)
unpadded_again key value updated spelled size (update u) rest h = ap (told update) (h rest)
unpadded_again key value updated spelled size (commit_floor metadata floor) rest h =
    commit_again (fixed_metadata_at value size) fixed_floor_at (fixed_metadata size metadata)
    (to_be_bytes w64 floor) rest metadata floor
    (fixed_metadata_again value size metadata (to_be_bytes w64 floor ++ rest) h.0) (fixed_floor_again floor rest h.1)

pub variable_again : {U : Type 0} (key value : List ℕ → Outcome) (updated : List ℕ → Found U)
    (spelled : U → List ℕ) (operation : Operation U) (rest : List ℕ)
    → HasFields key value updated spelled operation
    → variable_at key value updated (variable_encoding spelled operation ++ rest) ≡ Ok (operation, rest)
variable_again key value updated spelled (delete k) rest h = ap (told delete) (item_again key k rest h)
variable_again key value updated spelled (update u) rest h = ap (told update) (h rest)
variable_again key value updated spelled (commit_floor metadata floor) rest h =
    commit_again (option_at value) floor_at (option_encoding (λ bytes. bytes) metadata)
    (varint floor) rest metadata floor
    (option_again value metadata (varint floor ++ rest) h.0) (floor_again floor rest h.1)

length-metadata : (size : ℕ) (metadata : Option (List ℕ)) → IfSome metadata (λ bytes. length bytes ≡ size)
    → length (fixed_metadata size metadata) ≡ size + 1
length-metadata size None h = omega (arith, length-replicate {A = ℕ} size 0)
length-metadata size (Some bytes) h = omega (arith, h)

unpadded_fits : {U : Type 0} (spelled : U → List ℕ) (key value updated : ℕ) (operation : Operation U)
    → HasSizes spelled key value updated operation
    → length (unpadded spelled value operation) ≤ fixed_size key value updated
unpadded_fits spelled key value updated (delete k) h = omega (arith, h)
unpadded_fits spelled key value updated (update u) h = omega (arith, h)
unpadded_fits spelled key value updated (commit_floor metadata floor) h =
    omega (
      arith,
      length-metadata value metadata h,
      length-append (fixed_metadata value metadata) (to_be_bytes w64 floor),
    )

-- operations of the fixed encoding have one size
pub fixed_sized : {U : Type 0} (spelled : U → List ℕ) (key value updated : ℕ) (operation : Operation U)
    → HasSizes spelled key value updated operation
    → length (fixed_encoding spelled key value updated operation) ≡ fixed_size key value updated
fixed_sized spelled key value updated operation h =
    let bytes : List ℕ = unpadded spelled value operation in
    let size : ℕ = fixed_size key value updated in
    let padding : ℕ = size - length bytes in
    let fits : length bytes ≤ size = unpadded_fits spelled key value updated operation h in
    omega (arith, fits, length-append bytes (replicate padding 0), length-replicate {A = ℕ} padding 0)

pub fixed_again : {U : Type 0} (key value : List ℕ → Outcome) (updated : List ℕ → Found U)
    (spelled : U → List ℕ) (key_size value_size updated_size : ℕ)
    (operation : Operation U) (rest : List ℕ)
    → HasFields key value updated spelled operation → HasSizes spelled key_size value_size updated_size operation
    → fixed_at key value updated key_size value_size updated_size
    (fixed_encoding spelled key_size value_size updated_size operation ++ rest) ≡ Ok (operation, rest)
fixed_again {U} key value updated spelled ks vs us operation rest fields sizes =
    let size : ℕ = fixed_size ks vs us in
    let bytes : List ℕ = unpadded spelled vs operation in
    let padding : List ℕ = replicate (size - length bytes) 0 in
    let behind : Operation U × List ℕ → Found (Operation U) = λ x. Ok (x.0, rest) in
    framed size (Err EndOfBuffer) (padded_at key value updated vs) (fixed_encoding spelled ks vs us operation ++ rest)
    (fixed_encoding spelled ks vs us operation) rest refl (fixed_sized spelled ks vs us operation sizes)
    ∙ (ap (λ x. x >>= with_zeros >>= behind) (unpadded_again key value updated spelled vs operation padding fields)
    ∙ ap (λ x. x >>= behind) (zeros_with operation padding (zeros_again (size - length bytes))))

-- what is found in one place is one
once : {T : Type 0} (found : Found T) (one other : T) (rest more : List ℕ) → found ≡ Ok (one, rest)
    → found ≡ Ok (other, more) → (one ≡ other) × (rest ≡ more)
once {T} found one other rest more first second =
    let same : ◌≡◌ {A = Found T} (Ok (one, rest)) (Ok (other, more)) = sym first ∙ second in
    let pairs : ◌≡◌ {A = T × List ℕ} (one, rest) (other, more) = cc in
    (ap (λ (x : T × List ℕ). x.0) pairs, ap (λ (x : T × List ℕ). x.1) pairs)

pub fixed_once : {U : Type 0} (key value : List ℕ → Outcome) (updated : List ℕ → Found U)
    (spelled : U → List ℕ) (ks vs us : ℕ) (one other : Operation U)
    (rest more : List ℕ)
    → HasFields key value updated spelled one → HasSizes spelled ks vs us one
    → HasFields key value updated spelled other → HasSizes spelled ks vs us other
    → fixed_encoding spelled ks vs us one ++ rest ≡ fixed_encoding spelled ks vs us other ++ more
    → (one ≡ other) × (rest ≡ more)
fixed_once key value updated spelled ks vs us one other rest more fields sizes fields_other sizes_other same =
    once (fixed_at key value updated ks vs us (fixed_encoding spelled ks vs us one ++ rest)) one other rest more
    (fixed_again key value updated spelled ks vs us one rest fields sizes)
    (ap (fixed_at key value updated ks vs us) same
    ∙ fixed_again key value updated spelled ks vs us other more fields_other sizes_other)

pub variable_once : {U : Type 0} (key value : List ℕ → Outcome) (updated : List ℕ → Found U)
    (spelled : U → List ℕ) (one other : Operation U)
    (rest more : List ℕ)
    → HasFields key value updated spelled one → HasFields key value updated spelled other
    → variable_encoding spelled one ++ rest ≡ variable_encoding spelled other ++ more → (one ≡ other) × (rest ≡ more)
variable_once key value updated spelled one other rest more fields fields_other same =
    once (variable_at key value updated (variable_encoding spelled one ++ rest)) one other rest more
    (variable_again key value updated spelled one rest fields)
    (ap (variable_at key value updated) same ∙ variable_again key value updated spelled other more fields_other)
