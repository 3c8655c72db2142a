-- The definitions computed at small files, with a checksum that is always 7.
use Rattle.std.proofs.Common.{◌≡◌, ℕ, List, [], ◌∷◌, ◌++◌, length, take, replicate, Some, None, refl}
use Rattle.paged_format.specs.declared.footer.Slot.TheVariants.{First, Second}
use Rattle.paged_format.specs.Footers.{footer_bytes, slot_len, slot_crc}
use Rattle.paged_format.specs.Pages.{vouches, vouched_len, greater_slot, counted_slot, shown_len, content_of, first_pages, recovered}

abbrev seven : List ℕ → ℕ
seven bytes = 7

-- a page of 64 bytes with these two slots
abbrev page_with : ℕ → ℕ → ℕ → ℕ → List ℕ
page_with len1 crc1 len2 crc2 = replicate 52 1 ++ footer_bytes len1 crc1 len2 crc2

footer : footer_bytes 0x0102 0x03040506 0x0708 0x090A0B0C ≡ 1 ∷ 2 ∷ 3 ∷ 4 ∷ 5 ∷ 6 ∷ 7 ∷ 8 ∷ 9 ∷ 10 ∷ 11 ∷ 12 ∷ []
footer = refl

-- of two slots that verify the one of the greater length counts, on a tie the first
greater : greater_slot 100 200 ≡ Some (Second, 200)
greater = refl

tie : counted_slot seven 64 (page_with 8 7 8 7) ≡ Some (First, 8)
unfolding counted_slot vouched_len vouches slot_len slot_crc
tie = refl

second_greater : counted_slot seven 64 (page_with 8 7 12 7) ≡ Some (Second, 12)
unfolding counted_slot vouched_len vouches slot_len slot_crc
second_greater = refl

-- a slot whose checksum is another, or whose length is past the content, does not verify
wrong : counted_slot seven 64 (page_with 8 7 12 8) ≡ Some (First, 8)
unfolding counted_slot vouched_len vouches slot_len slot_crc
wrong = refl

long : counted_slot seven 64 (page_with 53 7 0 7) ≡ None
unfolding counted_slot vouched_len vouches slot_len slot_crc
long = refl

-- a page of zeros is invalid, whatever the checksum
zeros : (sum : List ℕ → ℕ) → counted_slot sum 64 (replicate 64 0) ≡ None
unfolding counted_slot vouched_len vouches slot_len slot_crc
zeros sum = refl

-- pages of lengths 52, 8, 52
partial : length (recovered seven 64 (page_with 52 7 0 0 ++ (page_with 8 7 0 0 ++ page_with 52 7 0 0))) ≡ 60
unfolding content_of first_pages shown_len vouched_len vouches slot_len slot_crc
partial = refl

-- 52, a page of zeros, 52
invalid : length (recovered seven 64 (page_with 52 7 0 0 ++ (replicate 64 0 ++ page_with 52 7 0 0))) ≡ 52
unfolding content_of first_pages shown_len vouched_len vouches slot_len slot_crc
invalid = refl

-- a whole page and a piece of one
piece : length (recovered seven 64 (page_with 52 7 0 0 ++ take 63 (page_with 52 7 0 0))) ≡ 52
unfolding content_of first_pages shown_len vouched_len vouches slot_len slot_crc
piece = refl
