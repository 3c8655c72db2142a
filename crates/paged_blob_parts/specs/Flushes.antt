-- What a flush puts on the disk: pages of content, each with a footer in which the slot that is durable stays.
use Rattle.std.specs.Prelude.{ℕ, zero, suc, ◌+◌, ◌-◌, ◌*◌, ◌/◌, ◌%◌, ◌<◌, ◌^◌, ⊤}
use Rattle.std.specs.Prelude.{◌==◌, nat_lt, if◌then◌else◌, Option, None, Some, List, [], ◌++◌, length, take, drop}
use Rattle.paged_format.specs.declared.footer.Slot.{Slot}
use Rattle.paged_format.specs.declared.footer.Slot.TheVariants.{First, Second}
use Rattle.paged_format.specs.Footers.{content_size, footer_bytes}
use Rattle.paged_blob_parts.specs.Calls.{resized}
use Rattle.paged_blob_parts.specs.declared.flush.DurableSlot.{DurableSlot}

-- the footer in which a slot stays, while the other says this length and checksum
abbrev pub footer_beside : Slot → ℕ → ℕ → ℕ → ℕ → List ℕ
footer_beside First kept_len kept_crc len crc = footer_bytes kept_len kept_crc len crc
footer_beside Second kept_len kept_crc len crc = footer_bytes len crc kept_len kept_crc

-- where no slot is to stay, the first one says it, and the second is zero
abbrev pub footer_over : Option DurableSlot → ℕ → ℕ → List ℕ
footer_over None len crc = footer_bytes len crc 0 0
footer_over (Some kept) len crc = footer_beside kept.slot kept.len kept.crc len crc

-- the other slot
abbrev pub other : Slot → Slot
other First = Second
other Second = First

-- the slot that such a footer says anew
abbrev pub free_slot : Option DurableSlot → Slot
free_slot None = First
free_slot (Some kept) = other kept.slot

-- a page on the disk: content, zeros behind it, and the footer
unfoldable pub page_bytes : (List ℕ → ℕ) → ℕ → Option DurableSlot → List ℕ → List ℕ
page_bytes sum size kept bytes = resized (content_size size) bytes ++ footer_over kept (length bytes) (sum bytes)

-- so many pages of content; in the first of them a slot stays
unfoldable pub pages_bytes : (List ℕ → ℕ) → ℕ → ℕ → Option DurableSlot → List ℕ → List ℕ
pages_bytes sum size zero kept bytes = []
pages_bytes sum size (suc count) kept bytes =
    page_bytes sum size kept (take (content_size size) bytes)
    ++ pages_bytes sum size count None (drop (content_size size) bytes)

-- how many pages so many bytes of content fill, the last one perhaps in part
abbrev pub page_count : ℕ → ℕ → ℕ
page_count size len = (len + (content_size size - 1)) / content_size size

-- how many bytes they have on the disk
abbrev pub physical_size : ℕ → ℕ → ℕ
physical_size size len = page_count size len * size

-- what a flush of content writes
abbrev pub flushed_bytes : (List ℕ → ℕ) → ℕ → Option DurableSlot → List ℕ → List ℕ
flushed_bytes sum size kept bytes = pages_bytes sum size (page_count size (length bytes)) kept bytes

-- of content in which a slot stays: the slot that vouches for its last page, where that is not whole
abbrev pub last_slot : (List ℕ → ℕ) → ℕ → Option DurableSlot → List ℕ → Option DurableSlot
last_slot sum size kept bytes =
    if length bytes % content_size size == 0
    then None
    else Some (record {
      slot = free_slot (if nat_lt (length bytes) (content_size size) then kept else None);
      len = length bytes % content_size size;
      crc = sum (drop (length bytes - length bytes % content_size size) bytes);
    })

-- the checksum of each of so many pages of content is one of four bytes
abbrev pub SumsFit : (List ℕ → ℕ) → ℕ → ℕ → List ℕ → Type 0
SumsFit sum size zero bytes = ⊤
SumsFit sum size (suc count) bytes =
    (sum (take (content_size size) bytes) < 2 ^ 32) × SumsFit sum size count (drop (content_size size) bytes)
