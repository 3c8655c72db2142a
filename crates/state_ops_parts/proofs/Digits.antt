-- Hexadecimal digits of bytes, a part at a time.
use Rattle.std.proofs.Common.{◌≡◌, ℕ, ltb, true, ◌+◌, ◌/◌, ◌%◌, ◌<◌, ◌≤◌, List, [], ◌∷◌, ◌++◌, length, take, get_or}
use Rattle.std.proofs.Common.{slice_index, refl, sym, ◌∙◌, ap, append_assoc, arith}
use Rattle.std.proofs.lemmas.List.{take_more}
use Rattle.std.proofs.lemmas.Bool.{and_parts, ltb-true}
use Rattle.std.proofs.lemmas.Str.Ascii.{IsAscii-nil, IsAscii-cons}
use Rattle.std.specs.List.{list_all}
use Rattle.std.specs.Str.{IsAscii}
use Rattle.hex.proofs.HexLemmas.{IsAscii-encode_with}
use Rattle.hex.specs.Hex.{encode_with, encode_lower, lower_digits}
use Rattle.merkle_forest.specs.Varint.{varint}
use Rattle.merkle_forest.specs.Laws.Varint.{varint_small, varint_large}

encode-append : (t a b : List ℕ) → encode_with t (a ++ b) ≡ encode_with t a ++ encode_with t b
unfolding encode_with
encode-append t [] b = refl
encode-append t (x ∷ a) b = ap (λ s. slice_index t (x / 16) ∷ slice_index t (x % 16) ∷ s) (encode-append t a b)

pub encode_lower-append : (a b : List ℕ) → encode_lower (a ++ b) ≡ encode_lower a ++ encode_lower b
encode_lower-append a b = encode-append lower_digits a b

pub encode_lower-nil : encode_lower [] ≡ []
unfolding encode_with
encode_lower-nil = refl

-- the digits of one more byte
pub encode_lower-more : (bytes : List ℕ) (i : ℕ) → i < length bytes
    → encode_lower (take i bytes) ++ encode_lower (get_or bytes i 0 ∷ []) ≡ encode_lower (take (i + 1) bytes)
encode_lower-more bytes i within =
    sym (encode_lower-append (take i bytes) (get_or bytes i 0 ∷ [])) ∙ ap encode_lower (sym (take_more bytes i 0 within))

-- the digits of one more group of a number
pub encode_lower-group : (done : List ℕ) (n byte : ℕ) (all : List ℕ) → 128 ≤ n → byte ≡ n % 128 + 128
    → done ++ encode_lower (varint n) ≡ all → (done ++ encode_lower (byte ∷ [])) ++ encode_lower (varint (n / 128)) ≡ all
encode_lower-group done n byte all large is whole =
    let group : byte ≡ 128 + n % 128 = omega arith in
    let split : varint n ≡ (byte ∷ []) ++ varint (n / 128) = varint_large n large ∙ ap (λ b. b ∷ varint (n / 128)) (sym group) in
    append_assoc done (encode_lower (byte ∷ [])) (encode_lower (varint (n / 128)))
    ∙ (ap (λ s. done ++ s) (sym (encode_lower-append (byte ∷ []) (varint (n / 128))) ∙ ap encode_lower (sym split)) ∙ whole)

-- the digits of the last group of a number
pub encode_lower-last : (done : List ℕ) (n : ℕ) (all : List ℕ) → n < 128
    → done ++ encode_lower (varint n) ≡ all → done ++ encode_lower (n ∷ []) ≡ all
encode_lower-last done n all small whole = ap (λ s. done ++ encode_lower s) (sym (varint_small n small)) ∙ whole

are_ascii : (bytes : List ℕ) → list_all (λ b. ltb b 128) bytes ≡ true → IsAscii bytes
are_ascii [] all = IsAscii-nil
are_ascii (b ∷ bytes) all =
    let parts = and_parts (ltb b 128) (list_all (λ b. ltb b 128) bytes) all in
    IsAscii-cons b bytes (ltb-true b 128 parts.0) (are_ascii bytes parts.1)

pub IsAscii-encode_lower : (bytes : List ℕ) → IsAscii (encode_lower bytes)
IsAscii-encode_lower bytes = IsAscii-encode_with lower_digits bytes (are_ascii lower_digits refl)
