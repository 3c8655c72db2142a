-- The footer of a page: two slots, each a length and a checksum.
use Rattle.std.specs.Prelude.{ℕ, ◌+◌, ◌-◌, ◌==◌, Bool, IsTrue, List, [], ◌∷◌, ◌++◌, take, drop}
use Rattle.std.specs.List.{list_any}
use Rattle.std.specs.Int.{w16, w32, to_be_bytes, from_be_bytes}
use Rattle.paged_format.specs.declared.footer.Slot.{Slot}
use Rattle.paged_format.specs.declared.footer.Slot.TheVariants.{First, Second}

-- whether a page on the disk may have so many bytes: one of the powers of two from 16 to 65536
abbrev pub is_page_size : ℕ → Bool
is_page_size size =
    list_any (λ power. size == power) (16 ∷ 32 ∷ 64 ∷ 128 ∷ 256 ∷ 512 ∷ 1024 ∷ 2048 ∷ 4096 ∷ 8192
    ∷ 16384 ∷ 32768 ∷ 65536 ∷ [])

-- a page on the disk may have so many bytes
abbrev pub IsPageSize : ℕ → Type 0
IsPageSize size = IsTrue (is_page_size size)

-- how many bytes of content a page of so many bytes has: its footer takes twelve
abbrev pub content_size : ℕ → ℕ
content_size size = size - 12

-- a slot's six bytes
abbrev pub slot_bytes : ℕ → ℕ → List ℕ
slot_bytes len crc = to_be_bytes w16 len ++ to_be_bytes w32 crc

-- the first slot, then the second one
abbrev pub footer_bytes : ℕ → ℕ → ℕ → ℕ → List ℕ
footer_bytes len1 crc1 len2 crc2 = slot_bytes len1 crc1 ++ slot_bytes len2 crc2

-- where a slot begins in a page of so many bytes
abbrev pub slot_start : ℕ → Slot → ℕ
slot_start size First = size - 12
slot_start size Second = size - 6

-- the length that a slot says
unfoldable pub slot_len : ℕ → Slot → List ℕ → ℕ
slot_len size slot page = from_be_bytes w16 (take 2 (drop (slot_start size slot) page))

-- its checksum
unfoldable pub slot_crc : ℕ → Slot → List ℕ → ℕ
slot_crc size slot page = from_be_bytes w32 (take 4 (drop (slot_start size slot + 2) page))
