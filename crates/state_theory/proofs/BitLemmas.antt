-- Bits and bytes.
use Rattle.std.proofs.Common.{◌≡◌, ℕ, zero, suc, ◌+◌, ◌-◌, ◌*◌, ◌/◌}
use Rattle.std.proofs.Common.{◌%◌, ◌^◌, ◌<◌, ◌≤◌, ◌≢◌, Bool, true, false, eqb}
use Rattle.std.proofs.Common.{inl, inr, List, [], ◌∷◌, ◌++◌, length, take, drop, get_or, replicate, refl, sym, ◌∙◌, ap}
use Rattle.std.proofs.Common.{ap₂, subst, arith, append_assoc, length-append}
use Rattle.std.specs.Prelude.{slice_set, if◌then◌else◌}
use Rattle.std.specs.Int.{bit_at}
use Rattle.std.proofs.Math.Nat.{pow-suc}
use Rattle.std.proofs.lemmas.Bool.{cases_eq, cases_lt, eqb-true, eqb-false, eq-eqb, ne_eqb}
use Rattle.std.proofs.lemmas.List.{ext_get_or, length-set, get_or-set_same, get_or-set_other, get_or_append_left}
use Rattle.std.proofs.lemmas.List.{get_or-append-add, set-append_left, set-append_right, take_at, take_all, drop_at}
use Rattle.std.proofs.lemmas.List.{drop_all, drop-drop, replicate-append-replicate, get_or-take, get_or-drop, take-append-drop}
use Rattle.std.proofs.lemmas.Nat.Bits.{bit_at_lowest, bit_at-suc}
use Rattle.state_theory.specs.Bits.{byte_of, chunk_of, bits_of, bits_in}

-- ---- the bits of a number
pub length-bits_of : (count n : ℕ) → length (bits_of count n) ≡ count
length-bits_of zero n = refl
length-bits_of (suc count) n = ap (λ k. suc k) (length-bits_of count (n / 2))

pub at-bits_of : (count n k : ℕ) → k < count → get_or (bits_of count n) k false ≡ eqb (bit_at n k) 1
at-bits_of zero n k lt = absurd (omega arith)
at-bits_of (suc count) n zero lt = ap (λ bit. eqb bit 1) (sym (bit_at_lowest n))
at-bits_of (suc count) n (suc k) lt =
    at-bits_of count (n / 2) k (omega arith) ∙ ap (λ bit. eqb bit 1) (sym (bit_at-suc n k))

-- numbers that differ in one bit
pub bits_of-set : (count a b k : ℕ) (bit : Bool) → k < count → eqb (bit_at b k) 1 ≡ bit
    → ((i : ℕ) → i < count → i ≢ k → bit_at b i ≡ bit_at a i)
    → bits_of count b ≡ slice_set (bits_of count a) k bit
bits_of-set count a b k bit lt same other =
    ext_get_or false (bits_of count b) (slice_set (bits_of count a) k bit)
    (length-bits_of count b ∙ sym (length-set (bits_of count a) k bit ∙ length-bits_of count a)) each
  where
    each : (i : ℕ) → i < length (bits_of count b) → get_or (bits_of count b) i false ≡ get_or (slice_set (bits_of count a) k bit) i false
    each i below =
        let within : i < count = subst (λ n. i < n) (length-bits_of count b) below in
        elim (cases_eq i k) [
          | inl is ↦ at-bits_of count b i within ∙ ap (λ j. eqb (bit_at b j) 1) is ∙ same
              ∙ sym (ap (λ j. get_or (slice_set (bits_of count a) k bit) j false) is
              ∙ get_or-set_same (bits_of count a) k bit false (subst (λ n. k < n) (sym (length-bits_of count a)) lt))
          | inr differ ↦ at-bits_of count b i within ∙ ap (λ x. eqb x 1) (other i within differ)
              ∙ sym (get_or-set_other (bits_of count a) k i bit false differ ∙ at-bits_of count a i within)
        ]

bit_and_half : (n : ℕ) → (if_one : Bool) → if_one ≡ eqb (n % 2) 1 → byte_of (if_one ∷ []) + 2 * (n / 2) ≡ n
bit_and_half n true is = omega (arith, eqb-true (n % 2) 1 (sym is))
bit_and_half n false is = let odd = eqb-false (n % 2) 1 (sym is) in omega arith

pub byte_of-bits_of : (count n : ℕ) → n < 2 ^ count → byte_of (bits_of count n) ≡ n
byte_of-bits_of zero n lt = omega arith
byte_of-bits_of (suc count) n lt =
    let half = byte_of-bits_of count (n / 2) (omega (arith, pow-suc 2 count)) in
    let whole = bit_and_half n (eqb (n % 2) 1) refl in
    omega (arith, half, whole)

-- ---- the bits of bytes
pub length-bits_in : (bytes : List ℕ) → length (bits_in bytes) ≡ 8 * length bytes
unfolding bits_in
length-bits_in [] = refl
length-bits_in (byte ∷ bytes) =
    length-append (bits_of 8 byte) (bits_in bytes) ∙ ap₂ (λ a b. a + b) (length-bits_of 8 byte) (length-bits_in bytes)
    ∙ omega arith

pub bits_in-append : (xs ys : List ℕ) → bits_in (xs ++ ys) ≡ bits_in xs ++ bits_in ys
unfolding bits_in
bits_in-append [] ys = refl
bits_in-append (x ∷ xs) ys =
    ap (λ bits. bits_of 8 x ++ bits) (bits_in-append xs ys) ∙ sym (append_assoc (bits_of 8 x) (bits_in xs) (bits_in ys))

pub bits_in-zeros : (n : ℕ) → bits_in (replicate n 0) ≡ replicate (8 * n) false
unfolding bits_in
bits_in-zeros zero = refl
bits_in-zeros (suc n) =
    let more : 8 + 8 * n ≡ 8 * suc n = omega arith in
    ap (λ bits. bits_of 8 0 ++ bits) (bits_in-zeros n) ∙ replicate-append-replicate 8 (8 * n) false
    ∙ ap (λ k. replicate k false) more

pub at-bits_in : (bytes : List ℕ) (index bit : ℕ) → index < length bytes → bit < 8
    → get_or (bits_in bytes) (8 * index + bit) false ≡ eqb (bit_at (get_or bytes index 0) bit) 1
unfolding bits_in
at-bits_in [] index bit within small = absurd (omega arith)
at-bits_in (byte ∷ bytes) zero bit within small =
    ap (λ k. get_or (bits_of 8 byte ++ bits_in bytes) k false) (omega arith)
    ∙ get_or_append_left (bits_of 8 byte) (bits_in bytes) false bit
    (subst (λ n. bit < n) (sym (length-bits_of 8 byte)) small) ∙ at-bits_of 8 byte bit small
at-bits_in (byte ∷ bytes) (suc index) bit within small =
    let at : 8 * suc index + bit ≡ 8 + (8 * index + bit) = omega arith in
    ap (λ k. get_or (bits_of 8 byte ++ bits_in bytes) k false) at
    ∙ get_or-append-add (bits_of 8 byte) (bits_in bytes) (8 * index + bit) false
    ∙ at-bits_in bytes index bit (omega arith) small

pub set-bits_in : (bytes : List ℕ) (index bit byte : ℕ) (value : Bool) → index < length bytes → bit < 8
    → bits_of 8 byte ≡ slice_set (bits_of 8 (get_or bytes index 0)) bit value
    → bits_in (slice_set bytes index byte) ≡ slice_set (bits_in bytes) (8 * index + bit) value
unfolding bits_in
set-bits_in [] index bit byte value within small is = absurd (omega arith)
set-bits_in (first ∷ bytes) zero bit byte value within small is =
    let at : bit ≡ 8 * 0 + bit = omega arith in
    ap (λ bits. bits ++ bits_in bytes) is
    ∙ sym (set-append_left (bits_of 8 first) (bits_in bytes) bit value
    (subst (λ n. bit < n) (sym (length-bits_of 8 first)) small))
    ∙ ap (λ k. slice_set (bits_of 8 first ++ bits_in bytes) k value) at
set-bits_in (first ∷ bytes) (suc index) bit byte value within small is =
    let at : 8 * suc index + bit - 8 ≡ 8 * index + bit = omega arith in
    ap (λ bits. bits_of 8 first ++ bits) (set-bits_in bytes index bit byte value (omega arith) small is
    ∙ ap (λ k. slice_set (bits_in bytes) k value) (sym at))
    ∙ sym (set-append_right (bits_of 8 first) (bits_in bytes) 8 (8 * suc index + bit) value refl (omega arith))

pub drop-bits_in : (count : ℕ) (bytes : List ℕ) → drop (8 * count) (bits_in bytes) ≡ bits_in (drop count bytes)
unfolding bits_in
drop-bits_in zero bytes = refl
drop-bits_in (suc count) [] = drop_all (8 * suc count) [] (omega arith)
drop-bits_in (suc count) (byte ∷ bytes) =
    let more : 8 * suc count ≡ 8 + 8 * count = omega arith in
    let whole = bits_of 8 byte ++ bits_in bytes in
    ap (λ k. drop k whole) more ∙ sym (drop-drop (8 * count) 8 whole)
    ∙ ap (drop (8 * count)) (drop_at (bits_of 8 byte) (bits_in bytes) 8 (length-bits_of 8 byte))
    ∙ drop-bits_in count bytes

pub bits_in-front : (count : ℕ) (bytes : List ℕ) → bits_in bytes ≡ bits_in (take count bytes) ++ bits_in (drop count bytes)
bits_in-front count bytes =
    ap bits_in (sym (take-append-drop count bytes)) ∙ bits_in-append (take count bytes) (drop count bytes)

-- ---- zeros after the last bit
byte_of-zeros : (n : ℕ) → byte_of (replicate n false) ≡ 0
byte_of-zeros zero = refl
byte_of-zeros (suc n) = omega (arith, byte_of-zeros n)

byte_of-padded : (bits : List Bool) (n : ℕ) → byte_of (bits ++ replicate n false) ≡ byte_of bits
byte_of-padded [] n = byte_of-zeros n
byte_of-padded (bit ∷ bits) n = ap (λ rest. (if bit then 1 else 0) + 2 * rest) (byte_of-padded bits n)

take_padded : (m n : ℕ) (bits : List Bool)
    → (k : ℕ) × (take m (bits ++ replicate n false) ≡ take m bits ++ replicate k false)
take_padded zero n bits = (0, refl)
take_padded (suc m) n (bit ∷ bits) = ((take_padded m n bits).0, ap (λ more. bit ∷ more) (take_padded m n bits).1)
take_padded (suc m) zero [] = (0, refl)
take_padded (suc m) (suc n) [] =
    let more = take_padded m n [] in
    let none = ap (λ front. front ++ replicate more.0 false) (take_all m [] (omega arith)) in
    (suc more.0, ap (λ rest. false ∷ rest) (more.1 ∙ none))

pub drop_padded : (m n : ℕ) (bits : List Bool)
    → (k : ℕ) × (drop m (bits ++ replicate n false) ≡ drop m bits ++ replicate k false)
drop_padded zero n bits = (n, refl)
drop_padded (suc m) n (bit ∷ bits) = drop_padded m n bits
drop_padded (suc m) zero [] = (0, refl)
drop_padded (suc m) (suc n) [] =
    let more = drop_padded m n [] in
    (more.0, more.1 ∙ ap (λ front. front ++ replicate more.0 false) (drop_all m [] (omega arith)))

pub chunk_of-padded : (width n : ℕ) (bits : List Bool) → chunk_of width (bits ++ replicate n false) ≡ chunk_of width bits
unfolding chunk_of
chunk_of-padded zero n bits = refl
chunk_of-padded (suc width) n bits =
    let front = take_padded 8 n bits in
    let back = drop_padded 8 n bits in
    ap₂ (λ byte bytes. byte ∷ bytes) (ap byte_of front.1 ∙ byte_of-padded (take 8 bits) front.0)
    (ap (chunk_of width) back.1 ∙ chunk_of-padded width back.0 (drop 8 bits))

-- ---- chunks of bytes
pub chunk_of-bits_in : (width : ℕ) (bytes : List ℕ) → width ≤ length bytes
    → ((i : ℕ) → i < length bytes → get_or bytes i 0 < 256) → chunk_of width (bits_in bytes) ≡ take width bytes
unfolding chunk_of bits_in
chunk_of-bits_in zero bytes within small = refl
chunk_of-bits_in (suc width) [] within small = absurd (omega arith)
chunk_of-bits_in (suc width) (byte ∷ bytes) within small =
    ap₂ (λ x xs. x ∷ xs)
    (ap byte_of (take_at (bits_of 8 byte) (bits_in bytes) 8 refl) ∙ byte_of-bits_of 8 byte (small 0 (omega arith)))
    (ap (chunk_of width) (drop_at (bits_of 8 byte) (bits_in bytes) 8 refl)
    ∙ chunk_of-bits_in width bytes (omega arith) (λ i lt. small (suc i) (omega arith)))

-- ---- the bits of a chunk
lowest : (bit : Bool) (rest : ℕ) → eqb (((if bit then 1 else 0) + 2 * rest) % 2) 1 ≡ bit
lowest true rest = eq-eqb _ 1 (omega arith)
lowest false rest = ne_eqb _ 1 (λ one. let clash = one in omega arith)

half : (bit : Bool) (rest : ℕ) → ((if bit then 1 else 0) + 2 * rest) / 2 ≡ rest
half true rest = omega arith
half false rest = omega arith

at-byte_of : (count : ℕ) (bits : List Bool) (k : ℕ) → k < count → get_or (bits_of count (byte_of bits)) k false ≡ get_or bits k false
at-byte_of zero bits k lt = absurd (omega arith)
at-byte_of (suc count) [] zero lt = refl
at-byte_of (suc count) [] (suc k) lt = at-byte_of count [] k (omega arith)
at-byte_of (suc count) (bit ∷ bits) zero lt = lowest bit (byte_of bits)
at-byte_of (suc count) (bit ∷ bits) (suc k) lt =
    ap (λ n. get_or (bits_of count n) k false) (half bit (byte_of bits)) ∙ at-byte_of count bits k (omega arith)

pub at-chunk_of : (width : ℕ) (bits : List Bool) (k : ℕ) → k < 8 * width
    → get_or (bits_in (chunk_of width bits)) k false ≡ get_or bits k false
unfolding chunk_of bits_in
at-chunk_of zero bits k lt = absurd (omega arith)
at-chunk_of (suc width) bits k lt =
    let first = bits_of 8 (byte_of (take 8 bits)) in
    let more = bits_in (chunk_of width (drop 8 bits)) in
    elim (cases_lt k 8) [
      | inl within ↦ get_or_append_left first more false k (subst (λ n. k < n) (sym (length-bits_of 8 (byte_of (take 8 bits)))) within)
          ∙ at-byte_of 8 (take 8 bits) k within ∙ get_or-take 8 bits k false within
      | inr past ↦
          let whole : 8 + (k - 8) ≡ k = omega (arith, past) in
          ap (λ n. get_or (first ++ more) n false) (sym whole) ∙ get_or-append-add first more (k - 8) false
          ∙ at-chunk_of width (drop 8 bits) (k - 8) (omega (arith, lt, past))
          ∙ get_or-drop 8 bits (k - 8) false ∙ ap (λ n. get_or bits n false) whole
    ]

pub first_of_zeros : (n at : ℕ) (bit : Bool) → at ≡ 0 → 0 < n
    → slice_set (replicate n false) at bit ≡ bit ∷ replicate (n - 1) false
first_of_zeros zero at bit is lt = absurd (omega arith)
first_of_zeros (suc n) zero bit is lt = let left : n ≡ suc n - 1 = omega arith in ap (λ k. bit ∷ replicate k false) left
first_of_zeros (suc n) (suc at) bit is lt = absurd (omega arith)
