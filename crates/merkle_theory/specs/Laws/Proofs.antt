-- A Merkle proof that was encoded is read again, and what is read is within the limits.
use Rattle.std.proofs.Common.{◌≡◌, ℕ, ◌+◌, ◌^◌, ◌<◌, ◌≤◌, List, [], ◌∷◌, ◌++◌, length, map, Result, Ok, Err, refl, sym}
use Rattle.std.proofs.Common.{◌∙◌, ap, append_assoc, arith}
use Rattle.std.specs.List.{flat_map, All}
use Rattle.std.specs.Prelude.{OnOk}
use Rattle.std.proofs.lemmas.List.{length-map, length-append}
use Rattle.std.proofs.lemmas.List.Concat.{flat_map-cons}
use Rattle.std.proofs.lemmas.List.Elements.{All-nil, All-cons, All-head, All-tail}
use Rattle.merkle_forest.specs.Codec.{◌>>=◌, Outcome, after_fixed}
use Rattle.merkle_forest.specs.Laws.Codec.{fixed_again}
use Rattle.merkle_forest.specs.Laws.Lists.{bind_ok, list_again, list_within}
use Rattle.merkle_forest.specs.Lists.{list_encoding, AreItems, after_items, after_list}
use Rattle.merkle_forest.specs.Varint.{varint, after_varint, after_number}
use Rattle.merkle_forest.specs.Laws.Varint.{after_varint_again, after_number_again, number_within}
use Rattle.merkle_theory.specs.Proofs.{proof_encoding, after_proof}

flat_map-bytes : {D : Type 0} (encoding : D → List ℕ) (digests : List D)
    → flat_map encoding digests ≡ flat_map (λ d. d) (map encoding digests)
flat_map-bytes encoding [] = refl
flat_map-bytes encoding (d ∷ digests) =
    flat_map-cons encoding d digests ∙ ap (λ rest. encoding d ++ rest) (flat_map-bytes encoding digests)
    ∙ sym (flat_map-cons (λ d. d) (encoding d) (map encoding digests))

-- a list of digests is encoded as the list of their bytes
pub list_encoding-bytes : {D : Type 0} (encoding : D → List ℕ) (digests : List D)
    → list_encoding encoding digests ≡ list_encoding (λ d. d) (map encoding digests)
list_encoding-bytes encoding digests =
    ap (λ bytes. varint (length digests) ++ bytes) (flat_map-bytes encoding digests)
    ∙ ap (λ count. varint count ++ flat_map (λ d. d) (map encoding digests)) (sym (length-map digests encoding))

-- values of one size have encodings of that size
pub all_sized : {D : Type 0} (encoding : D → List ℕ) (is_value : D → Type 0) (size : ℕ) (digests : List D)
    → ((d : D) → is_value d → length (encoding d) ≡ size) → All is_value digests
    → All (λ bytes. length bytes ≡ size) (map encoding digests)
all_sized encoding is_value size [] sized values = All-nil (λ bytes. length bytes ≡ size)
all_sized encoding is_value size (d ∷ digests) sized values =
    All-cons (λ bytes. length bytes ≡ size) (encoding d) (map encoding digests)
    (sized d (All-head is_value d digests values))
    (all_sized encoding is_value size digests sized (All-tail is_value d digests values))

-- the encoding, the leaf count first
parts_first : (leaves inactive : ℕ) (digests : List (List ℕ)) (rest : List ℕ)
    → proof_encoding leaves inactive digests ++ rest
    ≡ varint leaves ++ (varint inactive ++ (list_encoding (λ d. d) digests ++ rest))
parts_first leaves inactive digests rest = simp append_assoc

-- a proof within the limits is read again
pub proof_again : (digest : List ℕ → Outcome) (size most leaves inactive : ℕ) (digests : List (List ℕ)) (rest : List ℕ)
    → ((bytes : List ℕ) → digest bytes ≡ after_fixed size bytes) → leaves ≤ 2 ^ 62 → inactive < 2 ^ 64
    → length digests < 2 ^ 64 → length digests ≤ most → All (λ d. length d ≡ size) digests
    → after_proof digest most (proof_encoding leaves inactive digests ++ rest) ≡ Ok rest
proof_again digest size most leaves inactive digests rest any few small countable least sized =
    let last : List ℕ = list_encoding (λ d. d) digests ++ rest in
    let first : after_number (2 ^ 62) (varint leaves ++ (varint inactive ++ last)) ≡ Ok (varint inactive ++ last) =
    after_number_again (2 ^ 62) leaves (varint inactive ++ last) (omega (arith, few)) few in
    let again : (d more : List ℕ) → length d ≡ size → Unit {0} → digest (d ++ more) ≡ Ok more =
    λ d more is within. any (d ++ more) ∙ fixed_again size d more is in
    let third : after_list digest 0 most last ≡ Ok rest =
    list_again (λ d. d) digest (λ d. length d ≡ size) (λ d. Unit {0}) again 0 most digests rest (countable, sized)
    (omega arith) least (λ k d lt. tt) in
    rw (parts_first leaves inactive digests rest, first, after_varint_again inactive last small) third

-- a proof that is read is within them
pub proof_within : (digest : List ℕ → Outcome) (most leaves inactive : ℕ) (digests : List (List ℕ)) (rest new : List ℕ)
    → leaves < 2 ^ 64 → inactive < 2 ^ 64 → length digests < 2 ^ 64
    → after_proof digest most (proof_encoding leaves inactive digests ++ rest) ≡ Ok new
    → (leaves ≤ 2 ^ 62) × (length digests ≤ most)
proof_within digest most leaves inactive digests rest new low small countable read =
    let last : List ℕ = list_encoding (λ d. d) digests ++ rest in
    let whole : (after_number (2 ^ 62) (varint leaves ++ (varint inactive ++ last)) >>= after_varint >>= after_list
    digest 0 most) ≡ Ok new =
    rw (parts_first leaves inactive digests rest) at read in
    let two = bind_ok (after_number (2 ^ 62) (varint leaves ++ (varint inactive ++ last)) >>= after_varint)
    (after_list digest 0 most) new whole in
    let one = bind_ok (after_number (2 ^ 62) (varint leaves ++ (varint inactive ++ last))) after_varint two.0 two.1 in
    let few : leaves ≤ 2 ^ 62 = number_within (2 ^ 62) leaves (varint inactive ++ last) one.0 low one.1 in
    let first : after_number (2 ^ 62) (varint leaves ++ (varint inactive ++ last)) ≡ Ok (varint inactive ++ last) =
    after_number_again (2 ^ 62) leaves (varint inactive ++ last) low few in
    let third : (after_list digest 0 most last) ≡ Ok new =
    rw (first, after_varint_again inactive last small) at whole in
    let listed : (after_list digest 0 most (varint (length digests) ++ (flat_map (λ d. d) digests ++ rest))) ≡ Ok new =
    rw (append_assoc (varint (length digests)) (flat_map (λ d. d) digests) rest) at third in (
      few,
      (list_within (λ x. after_items digest x.0 x.1) 0 most (length digests)
          (flat_map (λ d. d) digests ++ rest) new countable listed).1,
    )

-- so is one of digests of the code
pub read_parts_again : {D : Type 0} (encoding : D → List ℕ) (digest : List ℕ → Outcome)
    (is_value : D → Type 0) (size : ℕ)
    → ((d : D) → is_value d → length (encoding d) ≡ size) → ((bytes : List ℕ) → digest bytes ≡ after_fixed size bytes)
    → (most leaves inactive : ℕ) (digests : List D) (rest : List ℕ) → leaves < 2 ^ 64 → inactive < 2 ^ 64
    → AreItems is_value digests
    → leaves ≤ 2 ^ 62 → length digests ≤ most
    → after_proof digest most (proof_encoding leaves inactive (map encoding digests) ++ rest) ≡ Ok rest
read_parts_again encoding digest is_value size sized any most leaves inactive digests rest low small values few least =
    let count = length-map digests encoding in
    proof_again digest size most leaves inactive (map encoding digests) rest any few small
    (omega (arith, count, values.0))
    (omega (arith, count, least)) (all_sized encoding is_value size digests sized values.1)

-- the length of the encoding, part by part
pub length-proof : {D : Type 0} (encoding : D → List ℕ) (leaves inactive : ℕ) (digests : List D)
    → length (proof_encoding leaves inactive (map encoding digests))
    ≡ length (varint leaves) + length (varint inactive) + length (list_encoding encoding digests)
length-proof encoding leaves inactive digests =
    omega (
      arith,
      length-append (varint leaves) (varint inactive ++ list_encoding (λ d. d) (map encoding digests)),
      length-append (varint inactive) (list_encoding (λ d. d) (map encoding digests)),
      ap length (list_encoding-bytes encoding digests),
    )

-- the parts that were read one after the other are the encoding
pub parts_joined : {D : Type 0}
    (encoding : D → List ℕ) (leaves inactive : ℕ) (digests : List D) (start second third rest : List ℕ)
    → start ≡ varint leaves ++ second → second ≡ varint inactive ++ third
    → third ≡ list_encoding encoding digests ++ rest
    → start ≡ proof_encoding leaves inactive (map encoding digests) ++ rest
parts_joined encoding leaves inactive digests start second third rest first next last =
    rw (first, next, last, list_encoding-bytes encoding digests) (simp append_assoc)

-- so are the parts that were written one after the other
pub parts_written : {D T E : Type 0}
    (encoding : D → List ℕ) (leaves inactive : ℕ) (digests : List D)
    (old first second new : List ℕ) (result : Result T E)
    → first ≡ old ++ varint leaves → second ≡ first ++ varint inactive
    → OnOk result (new ≡ second ++ list_encoding encoding digests)
    → OnOk result (new ≡ old ++ proof_encoding leaves inactive (map encoding digests))
parts_written encoding leaves inactive digests old first second new (Ok u) one two three =
    rw (three, two, one, list_encoding-bytes encoding digests) (simp append_assoc)
parts_written encoding leaves inactive digests old first second new (Err e) one two three = tt
