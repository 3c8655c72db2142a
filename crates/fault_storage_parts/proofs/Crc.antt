-- The division by the polynomial is linear, so that eight bits may be divided at once.
use Rattle.std.proofs.Common.{
  ◌≡◌,
  ℕ,
  zero,
  suc,
  ◌+◌,
  ◌*◌,
  ◌/◌,
  ◌%◌,
  ◌^◌,
  ◌<◌,
  ◌≤◌,
  ◌∷◌,
  ◌++◌,
  [],
  List,
  length,
  take,
  get_or,
  Bool,
  true,
  false,
  ◌&&◌,
  cond,
  eqb,
  bit_xor,
  ◌⊎◌,
  inl,
  inr,
  refl,
  sym,
  ◌∙◌,
  ap,
  arith,
}
use Rattle.std.specs.Int.Bits.{xor_self, xor_assoc, xor_zero_l, xor_zero_r, xor_shifted}
use Rattle.std.proofs.lemmas.Nat.{xor_comm, xor_shr, xor_mod, shr_split}
use Rattle.std.proofs.lemmas.Bool.{cases_eq, eqb-true}
use Rattle.fault_storage_parts.specs.Crc32.{polynomial, after_bit, after_bits, after_bytes}

parity : (n : ℕ) → (n % 2 ≡ 0) ⊎ (n % 2 ≡ 1)
parity n = cases (n % 2) (omega arith)
  where
    cases : (r : ℕ) → r < 2 → (r ≡ 0) ⊎ (r ≡ 1)
    cases zero lt = inl refl
    cases (suc zero) lt = inr refl
    cases (suc (suc r)) lt = absurd (omega arith)

after_even : (n : ℕ) → n % 2 ≡ 0 → after_bit n ≡ n / 2
after_even n even = ap (λ r. cond (eqb r 1) (bit_xor (n / 2) polynomial) (n / 2)) even

after_odd : (n : ℕ) → n % 2 ≡ 1 → after_bit n ≡ bit_xor (n / 2) polynomial
after_odd n odd = ap (λ r. cond (eqb r 1) (bit_xor (n / 2) polynomial) (n / 2)) odd

-- a polynomial taken out twice is none
twice : (a b p : ℕ) → bit_xor (bit_xor a p) (bit_xor b p) ≡ bit_xor a b
twice a b p =
    xor_assoc a p (bit_xor b p)
    ∙ ap (bit_xor a) (ap (bit_xor p) (xor_comm b p) ∙ sym (xor_assoc p p b) ∙ ap (λ z. bit_xor z b) (xor_self p) ∙ xor_zero_l b)

once : (a b p : ℕ) → bit_xor (bit_xor a p) b ≡ bit_xor (bit_xor a b) p
once a b p = xor_assoc a p b ∙ ap (bit_xor a) (xor_comm p b) ∙ sym (xor_assoc a b p)

pub bit-xor : (a b : ℕ) → after_bit (bit_xor a b) ≡ bit_xor (after_bit a) (after_bit b)
bit-xor a b =
    let half : bit_xor a b / 2 ≡ bit_xor (a / 2) (b / 2) = xor_shr a b 1 in
    let low : bit_xor a b % 2 ≡ bit_xor (a % 2) (b % 2) = xor_mod a b 1 in
    elim (parity a) [
      | inl x ↦ elim (parity b) [
        | inl y ↦ after_even (bit_xor a b) (low ∙ ap (λ r. bit_xor r (b % 2)) x ∙ ap (bit_xor 0) y) ∙ half
            ∙ sym (ap (λ l. bit_xor l (after_bit b)) (after_even a x) ∙ ap (bit_xor (a / 2)) (after_even b y))
        | inr y ↦ after_odd (bit_xor a b) (low ∙ ap (λ r. bit_xor r (b % 2)) x ∙ ap (bit_xor 0) y) ∙ ap (λ h. bit_xor h polynomial) half
            ∙ xor_assoc (a / 2) (b / 2) polynomial
            ∙ sym (ap (λ l. bit_xor l (after_bit b)) (after_even a x) ∙ ap (bit_xor (a / 2)) (after_odd b y))
      ]
      | inr x ↦ elim (parity b) [
        | inl y ↦ after_odd (bit_xor a b) (low ∙ ap (λ r. bit_xor r (b % 2)) x ∙ ap (bit_xor 1) y) ∙ ap (λ h. bit_xor h polynomial) half
            ∙ sym (once (a / 2) (b / 2) polynomial)
            ∙ sym (ap (λ l. bit_xor l (after_bit b)) (after_odd a x) ∙ ap (bit_xor (bit_xor (a / 2) polynomial)) (after_even b y))
        | inr y ↦ after_even (bit_xor a b) (low ∙ ap (λ r. bit_xor r (b % 2)) x ∙ ap (bit_xor 1) y) ∙ half
            ∙ sym (twice (a / 2) (b / 2) polynomial)
            ∙ sym (ap (λ l. bit_xor l (after_bit b)) (after_odd a x) ∙ ap (bit_xor (bit_xor (a / 2) polynomial)) (after_odd b y))
      ]
    ]

pub bits-xor : (k a b : ℕ) → after_bits k (bit_xor a b) ≡ bit_xor (after_bits k a) (after_bits k b)
unfolding after_bits
bits-xor zero a b = refl
bits-xor (suc k) a b = ap (after_bits k) (bit-xor a b) ∙ bits-xor k (after_bit a) (after_bit b)

-- zeros that fall out leave what stands above them
bits-shl : (k h : ℕ) → after_bits k (h * 2 ^ k) ≡ h
unfolding after_bits
bits-shl zero h = omega arith
bits-shl (suc k) h =
    let even : (h * 2 ^ suc k) % 2 ≡ 0 = omega (arith, doubled h k) in
    let half : h * 2 ^ suc k / 2 ≡ h * 2 ^ k = omega (arith, doubled h k) in
    ap (after_bits k) (after_even (h * 2 ^ suc k) even ∙ half) ∙ bits-shl k h
  where
    doubled : (h k : ℕ) → h * 2 ^ suc k ≡ 2 * (h * 2 ^ k)
    doubled h k = grind arith

-- what eight bits make of the low byte, below what stands above it
pub byte-split : (n : ℕ) → after_bits 8 n ≡ bit_xor (n / 2 ^ 8) (after_bits 8 (n % 2 ^ 8))
byte-split n =
    let whole : n ≡ bit_xor (n / 2 ^ 8 * 2 ^ 8) (n % 2 ^ 8) = sym (xor_shifted (n / 2 ^ 8) 8 (n % 2 ^ 8) (omega arith) ∙ shr_split n 8) in
    ap (after_bits 8) whole ∙ bits-xor 8 (n / 2 ^ 8 * 2 ^ 8) (n % 2 ^ 8) ∙ ap (λ h. bit_xor h (after_bits 8 (n % 2 ^ 8))) (bits-shl 8 (n / 2 ^ 8))

-- a byte joined to the low end
pub byte-step : (left byte : ℕ) → byte < 2 ^ 8 → after_bits 8 (bit_xor left byte) ≡ bit_xor (left / 2 ^ 8) (after_bits 8 (bit_xor (left % 2 ^ 8) byte))
byte-step left byte lt =
    let high : bit_xor left byte / 2 ^ 8 ≡ left / 2 ^ 8 =
    xor_shr left byte 8 ∙ ap (bit_xor (left / 2 ^ 8)) (omega arith) ∙ xor_zero_r (left / 2 ^ 8) in
    let low : bit_xor left byte % 2 ^ 8 ≡ bit_xor (left % 2 ^ 8) byte = xor_mod left byte 8 ∙ ap (bit_xor (left % 2 ^ 8)) (omega arith) in
    byte-split (bit_xor left byte) ∙ ap (λ h. bit_xor h (after_bits 8 (bit_xor left byte % 2 ^ 8))) high
    ∙ ap (λ l. bit_xor (left / 2 ^ 8) (after_bits 8 l)) low

-- so many bits, and so many more
pub bits-add : (j k n : ℕ) → after_bits k (after_bits j n) ≡ after_bits (j + k) n
unfolding after_bits
bits-add zero k n =
    let same : k ≡ zero + k = omega arith in
    ap (λ i. after_bits i n) same
bits-add (suc j) k n =
    let next : suc (j + k) ≡ suc j + k = omega arith in
    bits-add j k (after_bit n) ∙ ap (λ i. after_bits i n) next

-- a byte joined to the low end of one of two parts
more : (part other byte : ℕ) → byte < 2 ^ 8 → after_bits 8 (bit_xor (bit_xor part other) byte)
    ≡ bit_xor (part / 2 ^ 8) (bit_xor (after_bits 8 (bit_xor (part % 2 ^ 8) byte)) (after_bits 8 other))
more part other byte lt =
    ap (after_bits 8) (once part byte other) ∙ bits-xor 8 (bit_xor part byte) other ∙ ap (λ l. bit_xor l (after_bits 8 other)) (byte-step part byte lt)
    ∙ xor_assoc (part / 2 ^ 8) (after_bits 8 (bit_xor (part % 2 ^ 8) byte)) (after_bits 8 other)

-- four bytes at once
pub four-bytes : (left a b c d : ℕ) → a < 2 ^ 8 → b < 2 ^ 8 → c < 2 ^ 8 → d < 2 ^ 8
    → after_bits 8 (bit_xor (after_bits 8 (bit_xor (after_bits 8 (bit_xor (after_bits 8 (bit_xor left a)) b)) c)) d)
    ≡ bit_xor (after_bits 8 (bit_xor (left / 2 ^ 8 / 2 ^ 8 / 2 ^ 8) d)) (bit_xor (after_bits 16 (bit_xor (left / 2 ^ 8 / 2 ^ 8 % 2 ^ 8) c))
    (bit_xor (after_bits 24 (bit_xor (left / 2 ^ 8 % 2 ^ 8) b)) (after_bits 32 (bit_xor (left % 2 ^ 8) a))))
four-bytes left a b c d la lb lc ld =
    let one = left / 2 ^ 8 in let two = left / 2 ^ 8 / 2 ^ 8 in let three = left / 2 ^ 8 / 2 ^ 8 / 2 ^ 8 in
    let e = bit_xor (left % 2 ^ 8) a in let f = bit_xor (left / 2 ^ 8 % 2 ^ 8) b in let g = bit_xor (left / 2 ^ 8 / 2 ^ 8 % 2 ^ 8) c in
    let after : ℕ → ℕ = after_bits 8 in
    let first : after (bit_xor left a) ≡ bit_xor one (after e) = byte-step left a la in
    let second : after (bit_xor (after (bit_xor left a)) b) ≡ bit_xor two (bit_xor (after f) (after (after e))) =
    ap (λ s. after (bit_xor s b)) first ∙ more one (after e) b lb in
    let third : after (bit_xor (after (bit_xor (after (bit_xor left a)) b)) c) ≡ bit_xor three
    (bit_xor (after g) (after (bit_xor (after f) (after (after e))))) =
    ap (λ s. after (bit_xor s c)) second ∙ more two (bit_xor (after f) (after (after e))) c lc in
    let spread : after (bit_xor (after f) (after (after e))) ≡ bit_xor (after_bits 16 f) (after_bits 24 e) =
    bits-xor 8 (after f) (after (after e)) ∙ ap (λ x. bit_xor x (after (after (after e)))) (bits-add 8 8 f)
    ∙ ap (bit_xor (after_bits 16 f)) (ap after (bits-add 8 8 e) ∙ bits-add 16 8 e) in
    let rest : after (bit_xor (after g) (bit_xor (after_bits 16 f) (after_bits 24 e))) ≡ bit_xor (after_bits 16 g)
    (bit_xor (after_bits 24 f) (after_bits 32 e)) =
    bits-xor 8 (after g) (bit_xor (after_bits 16 f) (after_bits 24 e))
    ∙ ap (λ x. bit_xor x (after (bit_xor (after_bits 16 f) (after_bits 24 e)))) (bits-add 8 8 g)
    ∙ ap (bit_xor (after_bits 16 g)) (bits-xor 8 (after_bits 16 f) (after_bits 24 e) ∙ ap (λ x. bit_xor x (after (after_bits 24 e))) (bits-add 16 8 f)
    ∙ ap (bit_xor (after_bits 24 f)) (bits-add 24 8 e)) in
    ap (λ s. after (bit_xor s d)) (third ∙ ap (λ x. bit_xor three (bit_xor (after g) x)) spread)
    ∙ ap after (once three d (bit_xor (after g) (bit_xor (after_bits 16 f) (after_bits 24 e))))
    ∙ bits-xor 8 (bit_xor three d) (bit_xor (after g) (bit_xor (after_bits 16 f) (after_bits 24 e)))
    ∙ ap (bit_xor (after (bit_xor three d))) rest

-- four bytes at once, and thirty-two bits more
pub four-bytes-on : (left a b c d : ℕ) → a < 2 ^ 8 → b < 2 ^ 8 → c < 2 ^ 8 → d < 2 ^ 8
    → after_bits 32 (after_bits 8 (bit_xor (after_bits 8 (bit_xor (after_bits 8 (bit_xor (after_bits 8 (bit_xor left a)) b)) c)) d))
    ≡ bit_xor (after_bits 40 (bit_xor (left / 2 ^ 8 / 2 ^ 8 / 2 ^ 8) d)) (bit_xor (after_bits 48 (bit_xor (left / 2 ^ 8 / 2 ^ 8 % 2 ^ 8) c))
    (bit_xor (after_bits 56 (bit_xor (left / 2 ^ 8 % 2 ^ 8) b)) (after_bits 64 (bit_xor (left % 2 ^ 8) a))))
four-bytes-on left a b c d la lb lc ld =
    let e = bit_xor (left % 2 ^ 8) a in let f = bit_xor (left / 2 ^ 8 % 2 ^ 8) b in let g = bit_xor (left / 2 ^ 8 / 2 ^ 8 % 2 ^ 8) c in
    let h = bit_xor (left / 2 ^ 8 / 2 ^ 8 / 2 ^ 8) d in
    ap (after_bits 32) (four-bytes left a b c d la lb lc ld)
    ∙ spread 8 h (bit_xor (after_bits 16 g) (bit_xor (after_bits 24 f) (after_bits 32 e)))
    ∙ ap (bit_xor (after_bits 40 h)) (spread 16 g (bit_xor (after_bits 24 f) (after_bits 32 e))
    ∙ ap (bit_xor (after_bits 48 g)) (spread 24 f (after_bits 32 e) ∙ ap (bit_xor (after_bits 56 f)) (bits-add 32 32 e)))
  where
    spread : (j part other : ℕ) → after_bits 32 (bit_xor (after_bits j part) other) ≡ bit_xor (after_bits (j + 32) part) (after_bits 32 other)
    spread j part other = bits-xor 32 (after_bits j part) other ∙ ap (λ x. bit_xor x (after_bits 32 other)) (bits-add j 32 part)

no-bits : (part : ℕ) → after_bits 0 part ≡ part
unfolding after_bits
no-bits part = refl

-- some bytes, and the others
pub bytes-append : (left : ℕ) (bytes others : List ℕ) → after_bytes left (bytes ++ others) ≡ after_bytes (after_bytes left bytes) others
unfolding after_bytes
bytes-append left [] others = refl
bytes-append left (byte ∷ bytes) others = bytes-append (after_bits 8 (bit_xor left byte)) bytes others

-- bytes behind two parts, of which only one meets them
pub bytes-xor : (part other : ℕ) (bytes : List ℕ)
    → after_bytes (bit_xor part other) bytes ≡ bit_xor (after_bits (8 * length bytes) part) (after_bytes other bytes)
unfolding after_bytes
bytes-xor part other [] = ap (λ x. bit_xor x other) (sym (no-bits part))
bytes-xor part other (byte ∷ bytes) =
    let next = after_bits 8 (bit_xor other byte) in
    let bits : 8 + 8 * length bytes ≡ 8 * length (byte ∷ bytes) = omega arith in
    ap (λ s. after_bytes (after_bits 8 s) bytes) (xor_assoc part other byte) ∙ ap (λ s. after_bytes s bytes) (bits-xor 8 part (bit_xor other byte))
    ∙ bytes-xor (after_bits 8 part) next bytes
    ∙ ap (λ x. bit_xor x (after_bytes next bytes)) (bits-add 8 (8 * length bytes) part ∙ ap (λ k. after_bits k part) bits)

-- four bytes more, divided apart from those before them
pub four-more : (left first last : ℕ) (bytes : List ℕ) (a b c d : ℕ) → first ≡ after_bits 32 (after_bytes left bytes)
    → last ≡ after_bytes 0 (a ∷ b ∷ c ∷ d ∷ []) → bit_xor first last ≡ after_bytes left (bytes ++ (a ∷ b ∷ c ∷ d ∷ []))
four-more left first last bytes a b c d first-is last-is =
    let others = a ∷ b ∷ c ∷ d ∷ [] in let before = after_bytes left bytes in
    ap (λ x. bit_xor x last) first-is ∙ ap (bit_xor (after_bits 32 before)) last-is ∙ sym (bytes-xor before 0 others)
    ∙ ap (λ s. after_bytes s others) (xor_zero_r before) ∙ sym (bytes-append left bytes others)

-- the first eight bytes
pub front-eight : (bytes : List ℕ) → 8 ≤ length bytes
    → get_or bytes 0 0 ∷ get_or bytes 1 0 ∷ get_or bytes 2 0 ∷ get_or bytes 3 0 ∷ get_or bytes 4 0 ∷ get_or bytes 5 0 ∷ get_or bytes 6
    0 ∷ get_or bytes 7 0 ∷ []
    ≡ take 8 bytes
front-eight [] lt = absurd (omega arith)
front-eight (a ∷ []) lt = absurd (omega arith)
front-eight (a ∷ b ∷ []) lt = absurd (omega arith)
front-eight (a ∷ b ∷ c ∷ []) lt = absurd (omega arith)
front-eight (a ∷ b ∷ c ∷ d ∷ []) lt = absurd (omega arith)
front-eight (a ∷ b ∷ c ∷ d ∷ e ∷ []) lt = absurd (omega arith)
front-eight (a ∷ b ∷ c ∷ d ∷ e ∷ f ∷ []) lt = absurd (omega arith)
front-eight (a ∷ b ∷ c ∷ d ∷ e ∷ f ∷ g ∷ []) lt = absurd (omega arith)
front-eight (a ∷ b ∷ c ∷ d ∷ e ∷ f ∷ g ∷ h ∷ rest) lt = refl

-- two functions of a number are one below n
unfoldable pub agree_below : (ℕ → ℕ) → (ℕ → ℕ) → ℕ → Bool
agree_below f g zero = true
agree_below f g (suc n) = eqb (f n) (g n) && agree_below f g n

pub agree_at : (f g : ℕ → ℕ) (n : ℕ) → agree_below f g n ≡ true → (k : ℕ) → k < n → f k ≡ g k
unfolding agree_below
agree_at f g zero h k lt = absurd (omega arith)
agree_at f g (suc n) h k lt =
    let both = and_both (eqb (f n) (g n)) (agree_below f g n) h in
    elim (cases_eq k n) [ inl same ↦ ap f same ∙ eqb-true (f n) (g n) both.0 ∙ sym (ap g same) | inr other ↦ agree_at f g n both.1 k (omega arith) ]
  where
    and_both : (x y : Bool) → (x && y) ≡ true → (x ≡ true) × (y ≡ true)
    and_both true y h = (refl, h)
    and_both false y h = cc
