-- What a crash in the creation of a V1 region may leave, told by the front of the region: its first twelve bytes, after which it is
-- zero.
use Rattle.std.proofs.Common.{
  ◌≡◌,
  ◌≢◌,
  ◌∙◌,
  ℕ,
  ◌+◌,
  ◌-◌,
  ◌/◌,
  ◌%◌,
  ◌<◌,
  ◌≤◌,
  ◌^◌,
  ◌⊎◌,
  inl,
  inr,
  List,
  [],
  ◌∷◌,
  ◌++◌,
  length,
  take,
  drop,
  replicate,
  get_or,
  ap,
  sym,
  refl,
  arith,
  append_assoc,
}
use Rattle.std.proofs.lemmas.List.{
  length-append,
  length-take-le,
  length-replicate,
  get_or_append_left,
  get_or-append_right,
  get_or-replicate,
  get_or_past,
  get_or-take,
  get_or-drop,
  ext_get_or,
}
use Rattle.std.proofs.lemmas.Bool.{cases_lt}
use Rattle.std.proofs.lemmas.Nat.{from_be_bytes-to_be_bytes_2}
use Rattle.std.specs.Int.{w16, w32, to_be_bytes, from_be_bytes}
use Rattle.fault_storage_parts.specs.declared.header.Layout.TheVariants.{V1}
use Rattle.fault_storage_parts.specs.Crc32.{crc32}
use Rattle.fault_storage_parts.specs.Headers.{prelude, front, created, version_in, IsTornCreation}

pub created-front : (v : ℕ) → created V1 v ≡ front v ++ replicate 4084 0
unfolding created
created-front v = sym (append_assoc (prelude V1 v) (to_be_bytes w32 (crc32 (prelude V1 v))) (replicate 4084 0))

pub length-front : (v : ℕ) → length (front v) ≡ 12
length-front v = refl

pub length-created : (v : ℕ) → length (created V1 v) ≡ 4096
length-created v =
    ap length (created-front v) ∙ length-append (front v) (replicate 4084 0) ∙ ap (λ n. 12 + n) (length-replicate {A = ℕ} 4084 0)

-- zeros, and what is past them
pub zeros-at : (n i : ℕ) → ◌≡◌ {A = ℕ} (get_or (replicate n 0) i 0) 0
zeros-at n i = elim (cases_lt i n) [
  | inl lt ↦ get_or-replicate n i 0 0 lt
  | inr le ↦ get_or_past (replicate n 0) i 0 (omega (arith, length-replicate {A = ℕ} n 0, le))
]

pub region-at : (v i : ℕ) → i < 12 → get_or (created V1 v) i 0 ≡ get_or (front v) i 0
region-at v i lt =
    ap (λ l. get_or l i 0) (created-front v) ∙ get_or_append_left (front v) (replicate 4084 0) 0 i lt

pub region-past : (v i : ℕ) → 12 ≤ i → get_or (created V1 v) i 0 ≡ 0
region-past v i le =
    ap (λ l. get_or l i 0) (created-front v) ∙ get_or-append_right (front v) (replicate 4084 0) 12 i 0 (length-front v) le ∙ zeros-at 4084 (i - 12)

front-first : (v w i : ℕ) → i < 6 → get_or (front v) i 0 ≡ get_or (front w) i 0
front-first v w i lt =
    let same : take 6 (front v) ≡ take 6 (front w) = refl in
    sym (get_or-take 6 (front v) i 0 lt) ∙ ap (λ l. get_or l i 0) same ∙ get_or-take 6 (front w) i 0 lt

-- a torn creation, byte by byte
torn-at : (bytes : List ℕ) (t : IsTornCreation bytes) (i : ℕ) → i < t.count → get_or bytes i 0 ≡ get_or (created V1 t.version) i 0
torn-at bytes t i lt =
    let within : t.count ≤ length bytes = t.within in
    let few : length bytes ≤ 4096 = t.few in
    let held : length (take t.count (created V1 t.version)) ≡ t.count =
    length-take-le t.count (created V1 t.version) (omega (arith, length-created t.version, within, few)) in
    ap (λ l. get_or l i 0) t.is
    ∙ get_or_append_left (take t.count (created V1 t.version)) (replicate (length bytes - t.count) 0) 0 i (omega (arith, held, lt))
    ∙ get_or-take t.count (created V1 t.version) i 0 lt

torn-past : (bytes : List ℕ) (t : IsTornCreation bytes) (i : ℕ) → t.count ≤ i → get_or bytes i 0 ≡ 0
torn-past bytes t i le =
    let within : t.count ≤ length bytes = t.within in
    let few : length bytes ≤ 4096 = t.few in
    let held : length (take t.count (created V1 t.version)) ≡ t.count =
    length-take-le t.count (created V1 t.version) (omega (arith, length-created t.version, within, few)) in
    ap (λ l. get_or l i 0) t.is
    ∙ get_or-append_right (take t.count (created V1 t.version)) (replicate (length bytes - t.count) 0) t.count i 0 held le
    ∙ zeros-at (length bytes - t.count) (i - t.count)

-- the version that is said is the one that was written, where both of its bytes were
said-whole : (bytes : List ℕ) (w : ℕ) → w < 2 ^ 16 → get_or bytes 6 0 ≡ get_or (front w) 6 0 → get_or bytes 7 0 ≡ get_or (front w) 7 0
    → version_in bytes ≡ w
said-whole bytes w small six seven =
    ap (λ b. from_be_bytes w16 (b ∷ get_or bytes 7 0 ∷ [])) six
    ∙ ap (λ b. from_be_bytes w16 (get_or (front w) 6 0 ∷ b ∷ [])) seven
    ∙ from_be_bytes-to_be_bytes_2 w small

-- the first byte of the version that is said, where that byte was written and the second was not
said-half : (bytes : List ℕ) (w : ℕ) → w < 2 ^ 16 → get_or bytes 6 0 ≡ get_or (front w) 6 0 → get_or bytes 7 0 ≡ 0
    → get_or (front w) 6 0 ≡ get_or (front (version_in bytes)) 6 0
said-half bytes w small six seven = let high : get_or bytes 6 0 ≡ w / 256 % 256 = six in omega (arith, high, seven)

-- k is how many first bytes are those of the front
pub record Matches (bytes front_bytes : List ℕ) (k : ℕ) : Type 0 where
  pub within : k ≤ length bytes
  pub few : k ≤ 12
  pub same : (i : ℕ) → i < k → get_or bytes i 0 ≡ get_or front_bytes i 0
  pub all : k < length bytes → k < 12 → get_or bytes k 0 ≢ get_or front_bytes k 0

pub said-front : (bytes : List ℕ) (t : IsTornCreation bytes) (i : ℕ) → i < t.count → i < 12
    → get_or bytes i 0 ≡ get_or (front (version_in bytes)) i 0
said-front bytes t i lt front_lt =
    let written : (j : ℕ) → j < t.count → j < 12 → get_or bytes j 0 ≡ get_or (front t.version) j 0 =
    λ j l m. torn-at bytes t j l ∙ region-at t.version j m in
    elim (cases_lt i 6) [
      | inl first ↦ written i lt front_lt ∙ front-first t.version (version_in bytes) i first
      | inr later ↦ elim (cases_lt 7 t.count) [
        | inl whole ↦ written i lt front_lt
            ∙ ap (λ v. get_or (front v) i 0) (sym (said-whole bytes t.version t.small (written 6 (omega (arith, whole)) (omega arith))
            (written 7 whole (omega arith))))
        | inr half ↦
            let six : i ≡ 6 = omega (arith, later, half, lt) in
            let at_six : 6 < t.count = omega (arith, six, lt) in
            ap (λ j. get_or bytes j 0) six ∙ written 6 at_six (omega arith)
            ∙ said-half bytes t.version t.small (written 6 at_six (omega arith)) (torn-past bytes t 7 half)
            ∙ ap (λ j. get_or (front (version_in bytes)) j 0) (sym six)
      ]
    ]

-- what is written ends at the match, or at the front's end
past-match : (bytes : List ℕ) (t : IsTornCreation bytes) (k : ℕ) → Matches bytes (front (version_in bytes)) k → (t.count ≤ k) ⊎ (k ≡ 12)
past-match bytes t k m = elim (cases_lt k t.count) [
  | inr le ↦ inl le
  | inl lt ↦ elim (cases_lt k 12) [
    | inl short ↦
        let within : t.count ≤ length bytes = t.within in
        absurd (m.all (omega (arith, lt, within)) short (said-front bytes t k lt short))
    | inr long ↦ let few : k ≤ 12 = m.few in inr (omega (arith, few, long))
  ]
]

pub torn-zeros : (bytes : List ℕ) (t : IsTornCreation bytes) (k : ℕ) → Matches bytes (front (version_in bytes)) k
    → (i : ℕ) → k ≤ i → get_or bytes i 0 ≡ 0
torn-zeros bytes t k m i le = elim (cases_lt i t.count) [
  | inr past ↦ torn-past bytes t i past
  | inl lt ↦ elim (past-match bytes t k m) [
    | inl ends ↦ absurd (omega (arith, ends, le, lt))
    | inr whole ↦ torn-at bytes t i lt ∙ region-past t.version i (omega (arith, whole, le))
  ]
]

pub torn-some : (bytes : List ℕ) (t : IsTornCreation bytes) (k : ℕ) → Matches bytes (front (version_in bytes)) k → 0 < k
torn-some bytes t k m = elim (past-match bytes t k m) [
  | inl ends ↦ let some : 0 < t.count = t.some in omega (arith, some, ends)
  | inr whole ↦ omega (arith, whole)
]

-- bytes that match and are zero afterwards are a beginning of the region, followed by zeros
begun : (bytes : List ℕ) (v k : ℕ) → length bytes ≤ 4096 → Matches bytes (front v) k → ((i : ℕ) → k ≤ i → get_or bytes i 0 ≡ 0)
    → bytes ≡ take k (created V1 v) ++ replicate (length bytes - k) 0
begun bytes v k few m zeros =
    let within : k ≤ length bytes = m.within in
    let front_few : k ≤ 12 = m.few in
    let held : length (take k (created V1 v)) ≡ k = length-take-le k (created V1 v) (omega (arith, length-created v, front_few)) in
    let long : length (take k (created V1 v) ++ replicate (length bytes - k) 0) ≡ length bytes =
    length-append (take k (created V1 v)) (replicate (length bytes - k) 0) ∙ omega (arith, held, length-replicate {A = ℕ} (length bytes - k) 0, within) in
    ext_get_or 0 bytes (take k (created V1 v) ++ replicate (length bytes - k) 0) (sym long) (λ i lt. elim (cases_lt i k) [
      | inl first ↦ m.same i first ∙ sym (region-at v i (omega (arith, first, front_few))) ∙ sym (get_or-take k (created V1 v) i 0 first)
          ∙ sym (get_or_append_left (take k (created V1 v)) (replicate (length bytes - k) 0) 0 i (omega (arith, held, first)))
      | inr later ↦ zeros i later
          ∙ sym (get_or-append_right (take k (created V1 v)) (replicate (length bytes - k) 0) k i 0 held later ∙ zeros-at (length bytes - k) (i - k))
    ])

-- a whole region matches the front, and is as long as a page
whole-matches : (bytes : List ℕ) (other k : ℕ) → other < 2 ^ 16 → bytes ≡ created V1 other → Matches bytes (front (version_in bytes)) k
    → (k ≡ 12) × (length bytes ≡ 4096)
whole-matches bytes other k small is m =
    let long : length bytes ≡ 4096 = ap length is ∙ length-created other in
    let written : (j : ℕ) → j < 12 → get_or bytes j 0 ≡ get_or (front other) j 0 = λ j l. ap (λ b. get_or b j 0) is ∙ region-at other j l in
    let said : version_in bytes ≡ other = said-whole bytes other small (written 6 (omega arith)) (written 7 (omega arith)) in
    elim (cases_lt k 12) [
      | inl short ↦ absurd (m.all (omega (arith, long, short)) short (written k short ∙ ap (λ v. get_or (front v) k 0) (sym said)))
      | inr whole ↦ let few : k ≤ 12 = m.few in (omega (arith, few, whole), long)
    ]

pub torn-made : (bytes : List ℕ) (k : ℕ) → version_in bytes < 2 ^ 16 → length bytes ≤ 4096 → 0 < k → Matches bytes (front (version_in bytes)) k
    → ((i : ℕ) → k ≤ i → get_or bytes i 0 ≡ 0) → (k < 12) ⊎ (length bytes < 4096) → IsTornCreation bytes
torn-made bytes k small few some m zeros unfinished = record {
  version = version_in bytes;
  small = small;
  count = k;
  some = some;
  within = m.within;
  few = few;
  is = begun bytes (version_in bytes) k few m zeros;
  unfinished = λ other other_small is. let whole : (k ≡ 12) × (length bytes ≡ 4096) = whole-matches bytes other k other_small is m in
      elim unfinished [ inl short ↦ omega (arith, whole.0, short) | inr short ↦ omega (arith, whole.1, short) ];
}

-- a region whose front matches is not whole only where it ends early
pub torn-short : (bytes : List ℕ) (t : IsTornCreation bytes) (k : ℕ) → version_in bytes < 2 ^ 16 → Matches bytes (front (version_in bytes)) k
    → 12 ≤ k → length bytes < 4096
torn-short bytes t k small m long = elim (cases_lt (length bytes) 4096) [
  | inl lt ↦ lt
  | inr le ↦
      let few : length bytes ≤ 4096 = t.few in
      let front_few : k ≤ 12 = m.few in
      let page : length bytes ≡ 4096 = omega (arith, few, le) in
      absurd (t.unfinished (version_in bytes) small (ext_get_or 0 bytes (created V1 (version_in bytes)) (page ∙ sym (length-created (version_in bytes)))
      (λ i lt. elim (cases_lt i k) [
        | inl first ↦ m.same i first ∙ sym (region-at (version_in bytes) i (omega (arith, first, front_few)))
        | inr later ↦ torn-zeros bytes t k m i later ∙ sym (region-past (version_in bytes) i (omega (arith, later, long)))
      ])))
]

-- what is zero from a place on
pub zeros-from : (bytes : List ℕ) (k : ℕ) → ((i : ℕ) → i < length (drop k bytes) → get_or (drop k bytes) i 0 ≡ 0) → (i : ℕ) → k ≤ i
    → get_or bytes i 0 ≡ 0
zeros-from bytes k zeros i le =
    let here : k + (i - k) ≡ i = omega (arith, le) in
    sym (get_or-drop k bytes (i - k) 0 ∙ ap (λ j. get_or bytes j 0) here) ∙ elim (cases_lt (i - k) (length (drop k bytes))) [
      | inl lt ↦ zeros (i - k) lt
      | inr past ↦ get_or_past (drop k bytes) (i - k) 0 past
    ]

pub zeros-behind : (bytes : List ℕ) (k : ℕ) → ((i : ℕ) → k ≤ i → get_or bytes i 0 ≡ 0) → (i : ℕ) → i < length (drop k bytes)
    → get_or (drop k bytes) i 0 ≡ 0
zeros-behind bytes k zeros i lt = get_or-drop k bytes i 0 ∙ zeros (k + i) (omega arith)
