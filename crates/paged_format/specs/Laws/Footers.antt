-- A footer that was written is read again, from the page too.
use Rattle.std.proofs.Common.{◌≡◌, ℕ, ◌+◌, ◌-◌, ◌<◌, ◌≤◌, ◌^◌, ltb, false, List, ◌++◌, length, take, drop, Ok, refl}
use Rattle.std.proofs.Common.{sym, ◌∙◌, ap, arith}
use Rattle.std.specs.Int.{w16, w32, from_be_bytes}
use Rattle.std.proofs.lemmas.Bool.{le-ltb}
use Rattle.std.proofs.lemmas.List.{drop_at, length-append, drop-drop}
use Rattle.std.proofs.lemmas.Nat.{from_be_bytes-to_be_bytes_2, from_be_bytes-to_be_bytes_4}
use Rattle.merkle_forest.specs.Codec.{after_fixed}
use Rattle.paged_format.specs.declared.footer.Footer.{Footer}
use Rattle.paged_format.specs.declared.footer.Slot.TheVariants.{First, Second}
use Rattle.paged_format.specs.Footers.{footer_bytes, slot_len, slot_crc}

pub read_footer_again : (f : Footer) (rest : List ℕ)
    → after_fixed 12 (footer_bytes f.len1 f.crc1 f.len2 f.crc2 ++ rest) ≡ Ok rest
read_footer_again f rest =
    let bytes = footer_bytes f.len1 f.crc1 f.len2 f.crc2 in
    let long : ltb (length (bytes ++ rest)) 12 ≡ false = le-ltb _ _ (omega (arith, length-append bytes rest)) in
    rw (long, drop_at bytes rest 12 refl) refl

-- what stands behind a place, from a later one on
later : (k m j : ℕ) (page : List ℕ) → m ≡ k + j → drop m page ≡ drop j (drop k page)
later k m j page is = ap (λ n. drop n page) is ∙ sym (drop-drop j k page)

-- a page whose last twelve bytes are a footer has its slots
module _ (size : ℕ) (page : List ℕ) (len1 crc1 len2 crc2 : ℕ)
    (is : drop (size - 12) page ≡ footer_bytes len1 crc1 len2 crc2) where
  pub first_len : len1 < 2 ^ 16 → slot_len size First page ≡ len1
  unfolding slot_len
  first_len below = ap (λ rest. from_be_bytes w16 (take 2 rest)) is ∙ from_be_bytes-to_be_bytes_2 len1 below

  pub first_crc : crc1 < 2 ^ 32 → slot_crc size First page ≡ crc1
  unfolding slot_crc
  first_crc below =
      let place : drop (size - 12 + 2) page ≡ drop 2 (drop (size - 12) page) = later (size - 12) (size
      - 12 + 2) 2 page refl in
      ap (λ rest. from_be_bytes w32 (take 4 rest)) (place ∙ ap (λ rest. drop 2 rest) is)
      ∙ from_be_bytes-to_be_bytes_4 crc1 below

  pub second_len : 12 ≤ size → len2 < 2 ^ 16 → slot_len size Second page ≡ len2
  unfolding slot_len
  second_len room below =
      let place : drop (size - 6) page ≡ drop 6 (drop (size - 12) page) = later (size - 12) (size
      - 6) 6 page (omega arith) in
      ap (λ rest. from_be_bytes w16 (take 2 rest)) (place ∙ ap (λ rest. drop 6 rest) is)
      ∙ from_be_bytes-to_be_bytes_2 len2 below

  pub second_crc : 12 ≤ size → crc2 < 2 ^ 32 → slot_crc size Second page ≡ crc2
  unfolding slot_crc
  second_crc room below =
      let place : drop (size - 6 + 2) page ≡ drop 8 (drop (size - 12) page) = later (size - 12) (size - 6
      + 2) 8 page (omega arith) in
      ap (λ rest. from_be_bytes w32 (take 4 rest)) (place ∙ ap (λ rest. drop 8 rest) is)
      ∙ from_be_bytes-to_be_bytes_4 crc2 below
