-- Which slot of a page counts, and what is recovered of pages that stand one after the other.
use Rattle.std.specs.Prelude.{ℕ, zero, suc, ◌/◌, ◌==◌, nat_lt, nat_le, max, Bool, ◌&&◌, if◌then◌else◌, Option, None}
use Rattle.std.specs.Prelude.{Some}
use Rattle.std.specs.Prelude.{List, [], ◌∷◌, ◌++◌, length, take, drop}
use Rattle.paged_format.specs.declared.footer.Slot.{Slot}
use Rattle.paged_format.specs.declared.footer.Slot.TheVariants.{First, Second}
use Rattle.paged_format.specs.Footers.{content_size, slot_len, slot_crc}

-- whether a length is one or more and within a page's content, and this is the checksum of as many first bytes
unfoldable pub vouches : (List ℕ → ℕ) → ℕ → List ℕ → ℕ → ℕ → Bool
vouches sum size page len crc = nat_lt 0 len && (nat_le len (content_size size) && (crc == sum (take len page)))

-- whether a slot's length is one or more and within the content, and its checksum that of as many first bytes
abbrev pub verifies : (List ℕ → ℕ) → ℕ → Slot → List ℕ → Bool
verifies sum size slot page = vouches sum size page (slot_len size slot page) (slot_crc size slot page)

-- the length that a slot vouches for: 0 where it does not verify
unfoldable pub vouched_len : (List ℕ → ℕ) → ℕ → Slot → List ℕ → ℕ
vouched_len sum size slot page = if verifies sum size slot page then slot_len size slot page else 0

-- of two slots that vouch for these lengths the one with the greater counts, on a tie the first, and none where both
-- are 0
abbrev pub greater_slot : ℕ → ℕ → Option (Slot × ℕ)
greater_slot first second =
    if nat_lt first second then Some (Second, second) else (if nat_lt 0 first then Some (First, first) else None)

-- the slot that counts, and its length
unfoldable pub counted_slot : (List ℕ → ℕ) → ℕ → List ℕ → Option (Slot × ℕ)
counted_slot sum size page = greater_slot (vouched_len sum size First page) (vouched_len sum size Second page)

-- how many bytes of content a page shows: 0 where no slot counts
unfoldable pub shown_len : (List ℕ → ℕ) → ℕ → List ℕ → ℕ
shown_len sum size page = max (vouched_len sum size First page) (vouched_len sum size Second page)

-- the content of pages of so many bytes: it goes on behind a page only where that is whole
unfoldable pub content_of : (List ℕ → ℕ) → ℕ → List (List ℕ) → List ℕ
content_of sum size [] = []
content_of sum size (page ∷ pages) =
    take (shown_len sum size page) page
    ++ (if shown_len sum size page == content_size size then content_of sum size pages else [])

-- the first pages of so many bytes
unfoldable pub first_pages : ℕ → ℕ → List ℕ → List (List ℕ)
first_pages size zero bytes = []
first_pages size (suc count) bytes = take size bytes ∷ first_pages size count (drop size bytes)

-- the pages of a file; a piece of a page at the end is none
abbrev pub pages_of : ℕ → List ℕ → List (List ℕ)
pages_of size bytes = first_pages size (length bytes / size) bytes

-- the recoverable prefix of a file of pages of so many bytes
abbrev pub recovered : (List ℕ → ℕ) → ℕ → List ℕ → List ℕ
recovered sum size bytes = content_of sum size (pages_of size bytes)
