-- What the pages of a flush say.
use Rattle.std.proofs.Common.{◌≡◌, ℕ, zero, suc, ◌+◌, ◌-◌, ◌*◌, ◌/◌, ◌<◌, ◌≤◌, ◌^◌, Option, Some, None}
use Rattle.std.proofs.Common.{List, [], ◌++◌, length, take, drop, replicate, sym, ◌∙◌, ap, subst, ⊎_elim, refl, arith}
use Rattle.std.proofs.lemmas.Bool.{cases_lt}
use Rattle.std.proofs.lemmas.List.{length-append, length-take, length-replicate, take_at, take_all, take-append-le}
use Rattle.std.proofs.lemmas.List.{drop_at}
use Rattle.std.proofs.lemmas.List.{drop-drop}
use Rattle.std.proofs.Math.Nat.{div-eq-sub-div, div-eq_of_lt}
use Rattle.paged_format.specs.declared.footer.Slot.{Slot}
use Rattle.paged_format.specs.declared.footer.Slot.TheVariants.{First, Second}
use Rattle.paged_format.specs.Footers.{content_size, slot_bytes, footer_bytes, slot_len, slot_crc}
use Rattle.paged_format.specs.Laws.Footers.{first_len, first_crc, second_len, second_crc}
use Rattle.paged_blob_parts.specs.Calls.{resized}
use Rattle.paged_blob_parts.specs.Chance.{page_at, slot_in}
use Rattle.paged_blob_parts.specs.Flushes.{footer_over, footer_beside, page_bytes, pages_bytes, page_count, SumsFit}
use Rattle.paged_blob_parts.specs.Flushes.{other, free_slot}
use Rattle.paged_blob_parts.specs.declared.flush.DurableSlot.{DurableSlot}

-- the slot that stays vouches for no more than so many bytes
abbrev pub StaysWithin : Option DurableSlot → ℕ → Type 0
StaysWithin None len = Unit {0}
StaysWithin (Some kept) len = kept.len ≤ len

pub length-footer_over : (kept : Option DurableSlot) (len crc : ℕ) → length (footer_over kept len crc) ≡ 12
length-footer_over None len crc = refl
length-footer_over (Some kept) len crc = beside kept.slot kept.len kept.crc
  where
    beside : (slot : Slot) (kept_len kept_crc : ℕ) → length (footer_beside slot kept_len kept_crc len crc) ≡ 12
    beside First kept_len kept_crc = refl
    beside Second kept_len kept_crc = refl

-- what a page of a flush says, of content that it has room for
module _ (sum : List ℕ → ℕ) (size : ℕ) (kept : Option DurableSlot) (bytes : List ℕ) (room : 12
    ≤ size) (within : length bytes ≤ content_size size) where
  content_part : List ℕ
  content_part = resized (content_size size) bytes

  length-content_part : length content_part ≡ content_size size
  unfolding content_part resized
  length-content_part = simp (length-append, length-take, length-replicate) (omega arith)

  is_page : page_bytes sum size kept bytes ≡ content_part ++ footer_over kept (length bytes) (sum bytes)
  unfolding page_bytes content_part
  is_page = refl

  pub length-page_bytes : length (page_bytes sum size kept bytes) ≡ size
  length-page_bytes =
      ap length is_page ∙ length-append content_part (footer_over kept (length bytes) (sum bytes))
      ∙ omega (arith, length-content_part, length-footer_over kept (length bytes) (sum bytes), room)

  -- its first bytes are those of the content
  pub page_begins : (n : ℕ) → n ≤ length bytes → take n (page_bytes sum size kept bytes) ≡ take n bytes
  unfolding content_part resized
  page_begins n le =
      let all : take (content_size size) bytes ≡ bytes = take_all (content_size size) bytes within in
      let zeros : List ℕ = replicate (content_size size - length bytes) 0 in
      ap (take n) is_page
      ∙ take-append-le n content_part (footer_over kept (length bytes) (sum bytes)) (omega (
        arith,
        length-content_part,
        le,
        within,
      ))
      ∙ take-append-le n (take (content_size size) bytes) zeros (omega (arith, ap length all, le))
      ∙ ap (take n) all

  -- and its last ones the footer
  pub page_ends : drop (size - 12) (page_bytes sum size kept bytes) ≡ footer_over kept (length bytes) (sum bytes)
  page_ends =
      ap (drop (size - 12)) is_page ∙ drop_at content_part (footer_over kept (length bytes) (sum bytes)) (size
      - 12) length-content_part

-- how many pages content fills, page by page
pub count_more : (size len : ℕ) → 12 < size → 0 < len
    → page_count size len ≡ suc (page_count size (len - content_size size))
count_more size len some_room some =
    let room = content_size size in
    let is : (len + (room - 1)) / room ≡ (len + (room - 1) - room) / room
    + 1 = div-eq-sub-div (omega arith) (omega arith) in
    ⊎_elim
    (λ short.
    let here : (len + (room - 1) - room) / room ≡ 0 = div-eq_of_lt (omega arith) in
    let none : (len - room + (room - 1)) / room ≡ 0 = div-eq_of_lt (omega arith) in
    omega (arith, is, here, none))
    (λ long.
    let same : (len + (room - 1) - room) / room ≡ (len - room + (room - 1)) / room = ap (λ n. n / room) (omega arith) in
    omega (arith, is, same))
    (cases_lt len room)

pub count_none : (size len : ℕ) → 12 < size → len ≡ 0 → page_count size len ≡ 0
count_none size len some_room none = div-eq_of_lt (omega arith)

-- the bytes of a flush, page by page
pub pages_more : (sum : List ℕ → ℕ) (size count next : ℕ) (kept : Option DurableSlot) (bytes : List ℕ)
    → count ≡ suc next
    → pages_bytes sum size count kept bytes
    ≡ page_bytes sum size kept (take (content_size size) bytes)
    ++ pages_bytes sum size next None (drop (content_size size) bytes)
unfolding pages_bytes
pages_more sum size count next kept bytes is = ap (λ n. pages_bytes sum size n kept bytes) is

pub pages_none : (sum : List ℕ → ℕ) (size count : ℕ) (kept : Option DurableSlot) (bytes : List ℕ) → count ≡ 0
    → pages_bytes sum size count kept bytes ≡ []
unfolding pages_bytes
pages_none sum size count kept bytes is = ap (λ n. pages_bytes sum size n kept bytes) is

pub fit_more : (sum : List ℕ → ℕ) (size count next : ℕ) (bytes : List ℕ) → count ≡ suc next
    → sum (take (content_size size) bytes) < 2 ^ 32
    → SumsFit sum size next (drop (content_size size) bytes) → SumsFit sum size count bytes
fit_more sum size count next bytes is one rest = subst (λ n. SumsFit sum size n bytes) (sym is) (one, rest)

pub fit_none : (sum : List ℕ → ℕ) (size count : ℕ) (bytes : List ℕ) → count ≡ 0 → SumsFit sum size count bytes
fit_none sum size count bytes is = subst (λ n. SumsFit sum size n bytes) (sym is) tt

-- what the slots of a page say whose last twelve bytes are such a footer
module _ (size : ℕ) (page : List ℕ) (room : 12 ≤ size) (len crc : ℕ) where
  beside_says : (stays : Slot) (kept_len kept_crc : ℕ)
      → drop (size - 12) page ≡ footer_beside stays kept_len kept_crc len crc → len < 2 ^ 16
      → kept_len ≤ len → (slot : Slot) → slot_len size slot page ≤ len
  beside_says First kept_len kept_crc is short less First =
      omega (arith, first_len size page kept_len kept_crc len crc is (omega (arith, short, less)), less)
  beside_says First kept_len kept_crc is short less Second =
      omega (arith, second_len size page kept_len kept_crc len crc is room short)
  beside_says Second kept_len kept_crc is short less First =
      omega (arith, first_len size page len crc kept_len kept_crc is short)
  beside_says Second kept_len kept_crc is short less Second =
      omega (arith, second_len size page len crc kept_len kept_crc is room (omega (arith, short, less)), less)

  -- none says more than the new one
  pub slots_say : (kept : Option DurableSlot) → drop (size - 12) page ≡ footer_over kept len crc
      → len < 2 ^ 16 → StaysWithin kept len
      → (slot : Slot) → slot_len size slot page ≤ len
  slots_say None is short stays First = omega (arith, first_len size page len crc 0 0 is short)
  slots_say None is short stays Second = omega (arith, second_len size page len crc 0 0 is room (omega arith))
  slots_say (Some kept) is short stays slot = beside_says kept.slot kept.len kept.crc is short stays slot

  beside_new : (stays : Slot) (kept_len kept_crc : ℕ)
      → drop (size - 12) page ≡ footer_beside stays kept_len kept_crc len crc → len < 2 ^ 16
      → crc < 2 ^ 32 → (slot_len size (other stays) page ≡ len) × (slot_crc size (other stays) page ≡ crc)
  beside_new First kept_len kept_crc is short sum_fits = (
    second_len size page kept_len kept_crc len crc is room short,
    second_crc size page kept_len kept_crc len crc is room sum_fits,
  )
  beside_new Second kept_len kept_crc is short sum_fits = (
    first_len size page len crc kept_len kept_crc is short,
    first_crc size page len crc kept_len kept_crc is sum_fits,
  )

  -- the new one says the length and the checksum
  pub new_says : (kept : Option DurableSlot) → drop (size - 12) page ≡ footer_over kept len crc
      → len < 2 ^ 16 → crc < 2 ^ 32
      → (slot_len size (free_slot kept) page ≡ len) × (slot_crc size (free_slot kept) page ≡ crc)
  new_says None is short sum_fits =
      (first_len size page len crc 0 0 is short, first_crc size page len crc 0 0 is sum_fits)
  new_says (Some kept) is short sum_fits = beside_new kept.slot kept.len kept.crc is short sum_fits

  second_place : (len1 crc1 len2 crc2 : ℕ) → drop (size - 12) page ≡ footer_bytes len1 crc1 len2 crc2
      → take 6 (drop (size - 6) page) ≡ slot_bytes len2 crc2
  second_place len1 crc1 len2 crc2 is =
      let place : drop (size - 6) page ≡ drop 6 (drop (size - 12) page) = ap (λ n. drop n page) (omega arith)
      ∙ sym (drop-drop 6 (size - 12) page) in
      ap (take 6) (place ∙ ap (drop 6) is)

  -- in six bytes
  beside_in : (stays : Slot) (kept_len kept_crc : ℕ)
      → drop (size - 12) page ≡ footer_beside stays kept_len kept_crc len crc
      → (slot_in size stays page ≡ slot_bytes kept_len kept_crc)
      × (slot_in size (other stays) page ≡ slot_bytes len crc)
  unfolding slot_in
  beside_in First kept_len kept_crc is = (ap (take 6) is, second_place kept_len kept_crc len crc is)
  beside_in Second kept_len kept_crc is = (second_place len crc kept_len kept_crc is, ap (take 6) is)

  pub new_in : (kept : Option DurableSlot) → drop (size - 12) page ≡ footer_over kept len crc
      → slot_in size (free_slot kept) page ≡ slot_bytes len crc
  unfolding slot_in
  new_in None is = ap (take 6) is
  new_in (Some kept) is = (beside_in kept.slot kept.len kept.crc is).1

  pub kept_in : (kept : DurableSlot) → drop (size - 12) page ≡ footer_over (Some kept) len crc
      → slot_in size kept.slot page ≡ slot_bytes kept.len kept.crc
  kept_in kept is = (beside_in kept.slot kept.len kept.crc is).0

-- the slot that stays in a page of a flush: in the first
abbrev pub stays_in : ℕ → Option DurableSlot → Option DurableSlot
stays_in zero kept = kept
stays_in (suc page) kept = None

module _ (sum : List ℕ → ℕ) (size : ℕ) (room : 12 ≤ size) where
  -- the bytes of a flush are so many pages
  pub length-pages_bytes : (count : ℕ) (kept : Option DurableSlot) (bytes : List ℕ)
      → length (pages_bytes sum size count kept bytes) ≡ count * size
  unfolding pages_bytes
  length-pages_bytes zero kept bytes = omega arith
  length-pages_bytes (suc count) kept bytes =
      let page = page_bytes sum size kept (take (content_size size) bytes) in
      let rest = pages_bytes sum size count None (drop (content_size size) bytes) in
      let long : length page ≡ size = length-page_bytes sum size kept (take (content_size size) bytes) room (omega (
        arith,
        length-take
            (content_size size) bytes,
      )) in
      length-append page rest ∙ omega (arith, long, length-pages_bytes count None (drop (content_size size) bytes))

  -- each of them is one page of the content
  pub page_of_pages : (count page : ℕ) (kept : Option DurableSlot) (bytes : List ℕ) → page < count
      → page_at size page (pages_bytes sum size count kept bytes)
      ≡ page_bytes sum size (stays_in page kept) (page_at (content_size size) page bytes)
  unfolding pages_bytes
  page_of_pages zero page kept bytes below = absurd (omega (arith, below))
  page_of_pages (suc count) zero kept bytes below =
      let front = page_bytes sum size kept (take (content_size size) bytes) in
      let rest = pages_bytes sum size count None (drop (content_size size) bytes) in
      let long : length front ≡ size = length-page_bytes sum size kept (take (content_size size) bytes) room (omega (
        arith,
        length-take
            (content_size size) bytes,
      )) in
      let none : 0 * size ≡ 0 = omega arith in
      let nothing : 0 ≡ 0 * content_size size = omega arith in
      ap (λ n. take size (drop n (front ++ rest))) none ∙ take_at front rest size long
      ∙ ap (λ n. page_bytes sum size kept (take (content_size size) (drop n bytes))) nothing
  page_of_pages (suc count) (suc page) kept bytes below =
      let front = page_bytes sum size kept (take (content_size size) bytes) in
      let rest = pages_bytes sum size count None (drop (content_size size) bytes) in
      let long : length front ≡ size = length-page_bytes sum size kept (take (content_size size) bytes) room (omega (
        arith,
        length-take
            (content_size size) bytes,
      )) in
      let on : suc page * size ≡ size + page * size = omega arith in
      let on_content : content_size size + page * content_size size ≡ suc page * content_size size = omega arith in
      let none : stays_in page None ≡ None = nothing_stays page in
      ap (λ n. take size (drop n (front ++ rest))) on
      ∙ ap (take size) (sym (drop-drop (page * size) size (front ++ rest))
      ∙ ap (drop (page * size)) (drop_at front rest size long))
      ∙ page_of_pages count page None (drop (content_size size) bytes) (omega (arith, below))
      ∙ ap (λ k. page_bytes sum size k (page_at (content_size size) page (drop (content_size size) bytes))) none
      ∙ ap (λ l. page_bytes sum size None (take (content_size size) l)) (drop-drop (page
      * content_size size) (content_size size) bytes
      ∙ ap (λ n. drop n bytes) on_content)
    where
      nothing_stays : (page : ℕ) → stays_in page None ≡ None
      nothing_stays zero = refl
      nothing_stays (suc page) = refl

  pub sum_of_page : (count page : ℕ) (bytes : List ℕ) → SumsFit sum size count bytes → page < count
      → sum (page_at (content_size size) page bytes) < 2 ^ 32
  sum_of_page zero page bytes fit below = absurd (omega (arith, below))
  sum_of_page (suc count) zero bytes fit below =
      let none : 0 ≡ 0 * content_size size = omega arith in
      subst (λ n. sum (take (content_size size) (drop n bytes)) < 2 ^ 32) none fit.0
  sum_of_page (suc count) (suc page) bytes fit below =
      let on : content_size size + page * content_size size ≡ suc page * content_size size = omega arith in
      let rec = sum_of_page count page (drop (content_size size) bytes) fit.1 (omega (arith, below)) in
      subst (λ l. sum (take (content_size size) l)
      < 2 ^ 32) (drop-drop (page * content_size size) (content_size size) bytes ∙ ap (λ n. drop n bytes) on) rec
