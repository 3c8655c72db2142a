-- A flush at the page where the tip begins: what holds of the file at each moment stays, also where the write fails, and the content is
-- on the disk as far as it was flushed.
use Rattle.std.proofs.Common.{◌≡◌, ℕ, zero, suc, ◌+◌, ◌-◌, ◌*◌, ◌/◌, ◌%◌, ◌==◌}
use Rattle.std.proofs.Common.{ltb, cond, ◌<◌, ◌≤◌, ◌^◌, min, Bool, true, false, Option, Some, None}
use Rattle.std.proofs.Common.{List, [], ◌∷◌, length, get_or, take, drop, sym, ◌∙◌, ap, subst, inr, ⊎_elim, refl, arith}
use Rattle.std.proofs.lemmas.Bool.{cases_lt, cases_Bool, and_parts, leb-true, ltb-true, eqb-true, eqb-false, lt-ltb, le-ltb, or_cases, cond-true, cond-false}
use Rattle.std.proofs.lemmas.List.{length-take, length-drop, length-take-le, take-take, take_all, drop-drop, drop-take, get_or-take, get_or-drop}
use Rattle.std.proofs.lemmas.Nat.{mul-le, div-add-mod', mod_below, le-div}
use Rattle.std.proofs.Math.Nat.{le-div_iff_mul-le, div-eq_of_lt}
use Rattle.paged_format.specs.declared.footer.Slot.{Slot}
use Rattle.paged_format.specs.declared.footer.Slot.TheVariants.{First, Second}
use Rattle.paged_format.specs.Footers.{content_size, slot_bytes, slot_start, slot_len, slot_crc}
use Rattle.paged_format.specs.Pages.{verifies}
use Rattle.paged_format.specs.Laws.Pages.{vouched, vouching}
use Rattle.paged_blob_parts.specs.Calls.{Change, write, whole, with_bytes, File, after_change}
use Rattle.paged_blob_parts.specs.Images.{is_within, least_length}
use Rattle.paged_blob_parts.specs.Chance.{page_at, slot_in}
use Rattle.paged_blob_parts.specs.Writers.{from_page, ShowsContent, HoldsContent, EachBeginning, OnlyAt, IsDurablePage, share}
use Rattle.paged_blob_parts.specs.Writers.{IsKeptIn, ShowsLength, AreShown, IsDurableSlot, IsBegun, StandsIn, EndsBy}
use Rattle.paged_blob_parts.specs.Flushes.{footer_over, page_bytes, page_count, flushed_bytes, last_slot, free_slot, SumsFit}
use Rattle.paged_blob_parts.specs.Laws.Flushes.{StaysWithin, stays_in, page_begins, page_ends, slots_say}
use Rattle.paged_blob_parts.specs.Laws.Flushes.{new_says, new_in, kept_in, length-pages_bytes, page_of_pages, sum_of_page}
use Rattle.paged_blob_parts.specs.declared.flush.DurableSlot.{DurableSlot}
use Rattle.paged_blob_parts.specs.Laws.Writers.{of_beginning}
use Rattle.paged_blob_parts.proofs.Bytes.{length-with_bytes}
use Rattle.paged_blob_parts.proofs.FlushedPages.{page_byte, pages_apart, new_length, page_before, page_laid, page_behind}

-- a byte that a write leaves, or writes again as it is, has no other value
pub only_after : (file : File) (offset : ℕ) (bytes : List ℕ) (kept ok : Bool) (i value : ℕ)
    → (offset ≤ i → i < offset + length bytes → get_or bytes (i - offset) 0 ≡ value) → OnlyAt file i value
    → OnlyAt (after_change (write offset bytes kept) ok file) i value
only_after file offset bytes kept ok i value again only = λ held may.
    ⊎_elim
    (λ given.
    let parts = and_parts (is_within offset (length bytes) i) _ given in
    let place = and_parts _ _ parts.0 in
    eqb-true _ _ parts.1 ∙ again (leb-true _ _ place.0) (ltb-true _ _ place.1))
    (λ left. only held (and_parts _ _ left).1)
    (or_cases _ _ may)

-- the least length since the base, and the length with each change whole
least_whole : (base : List ℕ) (changes : List Change) → least_length base changes ≤ length (whole base changes)
least_whole base [] = omega arith
least_whole base (change ∷ earlier) = omega arith

-- what a page says of the content hangs on its bytes alone
shows_same : (size : ℕ) (content file shown : List ℕ) (page : ℕ) (slot : Slot) → page_at size page shown ≡ page_at size page file
    → ShowsContent size content file page slot → ShowsContent size content shown page slot
shows_same size content file shown page slot same s =
    let P : List ℕ → Type 0 = λ p. (slot_len size slot p ≤ length (from_page size page content))
    × (take (slot_len size slot p) p ≡ take (slot_len size slot p) (from_page size page content)) in
    let there : P (page_at size page shown) = subst P (sym same) (s.within, s.bytes) in
    record { within = there.0; bytes = there.1 }

-- some bytes of the content that begin a page: page by page
module _ (size : ℕ) (some_room : 12 < size) where
  pub count_above : (len page : ℕ) → page < page_count size len → page * content_size size < len
  count_above len page below =
      let room = content_size size in
      let on : (page + 1) * room ≤ len + (room - 1) = (le-div_iff_mul-le {k = room} {x = page + 1} {y = len + (room - 1)} (omega (arith, some_room))).0
      (omega (arith, below)) in
      omega (arith, on, some_room)

  pub count_below : (len page : ℕ) → page_count size len ≤ page → len ≤ page * content_size size
  count_below len page past =
      let room = content_size size in
      ⊎_elim
      (λ more.
      let on : (page + 1) * room ≤ len + (room - 1) = omega (arith, more, some_room) in
      let there : page + 1 ≤ page_count size len = (le-div_iff_mul-le {k = room} {x = page + 1} {y = len + (room - 1)} (omega (arith, some_room))).1 on in
      absurd (omega (arith, there, past)))
      (λ le. le)
      (cases_lt (page * room) len)

  pub piece_long : (bytes : List ℕ) (page : ℕ) → length (page_at (content_size size) page bytes) ≡ min (content_size size)
      (length bytes - page * content_size size)
  piece_long bytes page =
      length-take (content_size size) (drop (page * content_size size) bytes) ∙ ap (min (content_size size)) (length-drop (page * content_size size) bytes)

  pub piece_is : (content : List ℕ) (first n page : ℕ) → page * content_size size ≤ n
      → page_at (content_size size) page (take n (from_page size first content))
      ≡ take (min (content_size size) (n - page * content_size size)) (from_page size (first + page) content)
  piece_is content first n page before =
      let room = content_size size in
      let rest = from_page size first content in
      let split : n ≡ page * room + (n - page * room) = omega (arith, before) in
      let later : drop (page * room) rest ≡ from_page size (first + page) content = drop-drop (page * room) (first * room) content
      ∙ ap (λ m. drop m content) (omega arith) in
      ap (λ m. take room (drop (page * room) (take m rest))) split
      ∙ ap (take room) (drop-take (page * room) (n - page * room) rest)
      ∙ take_both room (n - page * room) (drop (page * room) rest)
      ∙ ap (take (min room (n - page * room))) later
    where
      take_both : (a b : ℕ) (l : List ℕ) → take a (take b l) ≡ take (min a b) l
      take_both a b l =
          ⊎_elim
          (λ less. take-take a b l (omega (arith, less)) ∙ ap (λ m. take m l) (omega (arith, less)))
          (λ more. take_all a (take b l) (omega (arith, length-take b l, more)) ∙ ap (λ m. take m l) (omega (arith, more)))
          (cases_lt a b)

-- a page that has the share of a slot that stays has the slot's bytes
stays_at : (slot : Option DurableSlot) (page first_len len : ℕ) → StaysWithin slot first_len → (page ≡ 0 → first_len ≤ len)
    → StaysWithin (stays_in page slot) len
stays_at None zero first_len len stays same = tt
stays_at (Some kept) zero first_len len stays same = omega (arith, stays, same refl)
stays_at slot (suc page) first_len len stays same = tt

-- the slot that is durable says no more than a page has room for
pub durable_len : (sum : List ℕ → ℕ) (size len : ℕ) (file : File) (page : ℕ) → IsDurablePage sum size len file page → len ≤ content_size size
durable_len sum size len file page d =
    let old = page_at size page d.shown in
    let v = vouched sum size old (slot_len size d.slot old) (slot_crc size d.slot old) d.verified in
    omega (arith, v.fits, d.says)

pub said_len : (sum : List ℕ → ℕ) (size len : ℕ) (file : File) (page : ℕ) (d : IsDurablePage sum size len file page)
    → slot_len size d.slot (page_at size page d.shown) ≤ content_size size
said_len sum size len file page d =
    let old = page_at size page d.shown in
    let v = vouched sum size old (slot_len size d.slot old) (slot_crc size d.slot old) d.verified in
    omega (arith, v.fits)

slot_ends : (size : ℕ) (slot : Slot) → 12 ≤ size → slot_start size slot + 6 ≤ size
slot_ends size First room = omega (arith, room)
slot_ends size Second room = omega (arith, room)

pub whole_has : (P : List ℕ → Type 0) (base : List ℕ) (changes : List Change) → EachBeginning P base changes → P (whole base changes)
whole_has P base [] each = each
whole_has P base (change ∷ earlier) each = each.0

module _ (sum : List ℕ → ℕ) (size : ℕ) (some_room : 12 < size) (small : size ≤ 65536) (content file : List ℕ) (first n : ℕ)
    (slot : Option DurableSlot)
    (bytes : List ℕ) (reach : first * size ≤ length file) (is : bytes ≡ take n (from_page size first content))
    (within : n ≤ length (from_page size first content)) (stays : StaysWithin slot (min (content_size size) n)) where
  pages : List ℕ
  pages = flushed_bytes sum size slot bytes

  next : List ℕ
  next = with_bytes (first * size) pages file

  count : ℕ
  count = page_count size (length bytes)

  piece : ℕ → List ℕ
  piece page = page_at (content_size size) page bytes

  laid : ℕ → List ℕ
  laid page = page_bytes sum size (stays_in page slot) (piece page)

  long : length bytes ≡ n
  long = ap length is ∙ length-take-le n (from_page size first content) within

  pages_long : length pages ≡ count * size
  unfolding pages count
  pages_long = length-pages_bytes sum size (omega (arith, some_room)) (page_count size (length bytes)) slot bytes

  piece_len : (page : ℕ) → length (piece page) ≡ min (content_size size) (n - page * content_size size)
  unfolding piece
  piece_len page = piece_long size some_room bytes page ∙ ap (λ m. min (content_size size) (m - page * content_size size)) long

  before : (page : ℕ) → page < count → page * content_size size < n
  unfolding count
  before page below = omega (arith, count_above size some_room (length bytes) page below, long)

  at_page : (page : ℕ) → page < count → page_at size (first + page) next ≡ laid page
  unfolding pages next count laid piece
  at_page page below =
      let there = mul-le (page + 1) size (page_count size (length bytes)) size (omega (arith, below)) (omega arith) in
      page_laid size first (flushed_bytes sum size slot bytes) file reach page (omega (arith, there, pages_long))
      ∙ page_of_pages sum size (omega (arith, some_room)) (page_count size (length bytes)) page slot bytes below

  piece_content : (page : ℕ) → page < count → piece page ≡ take (length (piece page)) (from_page size (first + page) content)
  unfolding piece
  piece_content page below =
      ap (page_at (content_size size) page) is ∙ piece_is size some_room content first n page (omega (arith, before page below))
      ∙ ap (λ m. take m (from_page size (first + page) content)) (sym (piece_len page))

  piece_within : (page : ℕ) → page < count → length (piece page) ≤ length (from_page size (first + page) content)
  piece_within page below =
      omega (arith, ap length (piece_content page below), length-take (length (piece page)) (from_page size (first + page) content))

  piece_fits : (page : ℕ) → length (piece page) ≤ content_size size
  piece_fits page = omega (arith, piece_len page)

  piece_stays : (page : ℕ) → StaysWithin (stays_in page slot) (length (piece page))
  piece_stays page =
      stays_at slot page (min (content_size size) n) (length (piece page)) stays
      (λ none. let nothing = ap (λ m. m * content_size size) none in omega (arith, piece_len page, nothing))

  laid_ends : (page : ℕ) → drop (size - 12) (laid page) ≡ footer_over (stays_in page slot) (length (piece page)) (sum (piece page))
  unfolding laid
  laid_ends page = page_ends sum size (stays_in page slot) (piece page) (omega (arith, some_room)) (piece_fits page)

  laid_begins : (page m : ℕ) → m ≤ length (piece page) → take m (laid page) ≡ take m (piece page)
  unfolding laid
  laid_begins page m le = page_begins sum size (stays_in page slot) (piece page) (omega (arith, some_room)) (piece_fits page) m le

  laid_says : (page : ℕ) (s : Slot) → slot_len size s (laid page) ≤ length (piece page)
  laid_says page s =
      slots_say size (laid page) (omega (arith, some_room)) (length (piece page)) (sum (piece page)) (stays_in page slot) (laid_ends page)
      (omega (arith, piece_fits page, small)) (piece_stays page) s

  -- a page that was laid vouches for bytes of the content alone
  shows_laid : (page : ℕ) → page < count → (s : Slot) → ShowsContent size content next (first + page) s
  shows_laid page below s =
      let here = at_page page below in
      let m = slot_len size s (laid page) in
      let rest = from_page size (first + page) content in
      let le = laid_says page s in
      let P : List ℕ → Type 0 = λ p. (slot_len size s p ≤ length rest) × (take (slot_len size s p) p ≡ take (slot_len size s p) rest) in
      let there : P (laid page) = (
        omega (arith, le, piece_within page below),
        laid_begins page m le ∙ ap (take m) (piece_content page below) ∙ take-take m (length (piece page)) rest le,
      ) in
      let shown : P (page_at size (first + page) next) = subst P (sym here) there in
      record { within = shown.0; bytes = shown.1 }

  -- each slot that verifies does
  pub holds_next : HoldsContent sum size content file
      → HoldsContent sum size content (with_bytes (first * size) (flushed_bytes sum size slot bytes) file)
  unfolding next pages
  holds_next holds = λ page s ok.
      let V : List ℕ → Type 0 = λ p. verifies sum size s p ≡ true in
      ⊎_elim
      (λ earlier.
      let same = page_before size first pages file reach page earlier in
      shows_same size content file (with_bytes (first * size) pages file) page s same (holds page s (subst V same ok)))
      (λ from.
      let j = page - first in
      let place : first + j ≡ page = omega (arith, from) in
      ⊎_elim
      (λ below. subst (λ p. ShowsContent size content (with_bytes (first * size) pages file) p s) place (shows_laid j below s))
      (λ past.
      let far = mul-le count size j size past (omega arith) in
      let spread : first * size + j * size ≡ page * size = omega (arith, ap (λ p. p * size) place) in
      let same = page_behind size first pages file reach page (omega (arith, pages_long, far, spread)) in
      shows_same size content file (with_bytes (first * size) pages file) page s same (holds page s (subst V same ok)))
      (cases_lt j count))
      (cases_lt page first)

  -- and the new slot of each page does, for all that it has
  new_stands : SumsFit sum size (page_count size (length bytes)) bytes → (page : ℕ) → page < count
      → StandsIn sum size next (first + page) (record { slot = free_slot (stays_in page slot); len = length (piece page); crc = sum (piece page) })
  unfolding next count piece
  new_stands fit page below =
      let here = at_page page below in
      let new = free_slot (stays_in page slot) in
      let len = length (piece page) in
      let fits = piece_fits page in
      let sums : sum (piece page) < 2 ^ 32 = sum_of_page sum size (omega (arith, some_room)) (page_count size (length bytes)) page bytes fit below in
      let says = new_says size (laid page) (omega (arith, some_room)) len (sum (piece page)) (stays_in page slot) (laid_ends page) (omega
      (arith, fits, small)) sums in
      let front : take len (laid page) ≡ piece page = laid_begins page len (omega arith) ∙ take_all len (piece page) (omega arith) in
      let ok : verifies sum size new (laid page) ≡ true = vouching sum size (laid page) (slot_len size new (laid page)) (slot_crc size new
      (laid page)) (record {
        some = omega (arith, says.0, piece_len page, before page below, some_room);
        fits = omega (arith, says.0, fits);
        sums = says.1 ∙ ap sum (sym front) ∙ ap (λ m. sum (take m (laid page))) (sym says.0);
      }) in
      let there = new_in size (laid page) (omega (arith, some_room)) len (sum (piece page)) (stays_in page slot) (laid_ends page) in
      let V : List ℕ → Type 0 = λ p. (verifies sum size new p ≡ true) × (slot_len size new p ≡ len) × (slot_in size new p ≡ slot_bytes len (sum
      (piece page))) in
      let stands : V (page_at size (first + page) (with_bytes (first * size) pages file)) = subst V (sym here) (ok, says.0, there) in
      record { verified = stands.0; says = stands.1; bytes = stands.2 }

  shows_new : SumsFit sum size (page_count size (length bytes)) bytes → (page : ℕ) → page < count
      → ShowsLength sum size (length (piece page)) next (first + page)
  unfolding next count
  shows_new fit page below =
      let s = new_stands fit page below in
      let end = mul-le (page + 1) size (page_count size (length bytes)) size (omega (arith, below)) (omega arith) in
      record {
        slot = free_slot (stays_in page slot);
        verified = s.verified;
        says = s.says;
        reach = omega (arith, end, pages_long, new_length size first pages file reach);
      }

  same_shown : (len page : ℕ) → page < first → ShowsLength sum size len file page → ShowsLength sum size len next page
  unfolding next
  same_shown len page earlier s =
      let same = page_before size first pages file reach page earlier in
      let V : List ℕ → Type 0 = λ p. (verifies sum size s.slot p ≡ true) × (slot_len size s.slot p ≡ len) in
      let there : V (page_at size page (with_bytes (first * size) pages file)) = subst V (sym same) (s.verified, s.says) in
      record {
        slot = s.slot;
        verified = there.0;
        says = there.1;
        reach = omega (arith, s.reach, new_length size first pages file reach);
      }

  -- so the content is on the disk as far as it was flushed
  pub shown_next : SumsFit sum size (page_count size (length bytes)) bytes → AreShown sum size (first * content_size size) file
      → AreShown sum size (first * content_size size + n) (with_bytes (first * size) (flushed_bytes sum size slot bytes) file)
  unfolding count next pages
  shown_next fit shown = λ page below.
      let room = content_size size in
      let S : ℕ → Type 0 = λ len. ShowsLength sum size len next page in
      ⊎_elim
      (λ earlier.
      let apart = pages_apart room page first earlier in
      let all : share size page (first * room) ≡ share size page (first * room + n) = omega (arith, apart) in
      subst S all (same_shown (share size page (first * room)) page earlier (shown page (omega (arith, apart, some_room)))))
      (λ from.
      let j = page - first in
      let place : first + j ≡ page = omega (arith, from) in
      let spread : first * room + j * room ≡ page * room = omega (arith, ap (λ p. p * room) place) in
      let inside : j < page_count size (length bytes) =
      ⊎_elim (λ lt. lt) (λ past. absurd (omega (arith, count_below size some_room (length bytes) j past, long, spread, below))) (cases_lt j
      (page_count size (length bytes))) in
      let len : length (piece j) ≡ share size page (first * room + n) = piece_len j ∙ omega (arith, spread) in
      subst S len (subst (λ p. ShowsLength sum size (length (piece j)) next p) place (shows_new fit j inside)))
      (cases_lt page first)

  -- how many bytes the file has then
  pub next_ends : length file ≤ first * size + page_count size (length bytes) * size
      → length (with_bytes (first * size) (flushed_bytes sum size slot bytes) file) ≡ first * size + page_count size (length bytes) * size
  unfolding pages count
  next_ends short = new_length size first pages file reach ∙ omega (arith, pages_long, short)

  inside : (page : ℕ) → page * content_size size < n → page < count
  unfolding count
  inside page below =
      ⊎_elim
      (λ lt. lt)
      (λ past. absurd (omega (arith, count_below size some_room (length bytes) page past, long, below)))
      (cases_lt page (page_count size (length bytes)))

  -- where the last page is not whole, its new slot vouches for what is there of it
  last_stands : SumsFit sum size (page_count size (length bytes)) bytes → 0 < n % content_size size
      → StandsIn sum size next (first + n / content_size size) (record {
        slot = free_slot (cond (ltb (length bytes) (content_size size)) slot None);
        len = length bytes % content_size size;
        crc = sum (drop (length bytes - length bytes % content_size size) bytes);
      })
  unfolding piece
  last_stands fit part =
      let room = content_size size in
      let w = n / room in
      let r = n % room in
      let split : w * room + r ≡ n = div-add-mod' n room in
      let less : r < room = mod_below n room (omega (arith, some_room)) in
      let m : length bytes % room ≡ r = ap (λ l. l % room) long in
      let place : w * room ≡ length bytes - length bytes % room = omega (arith, split, m, long) in
      let below : w < count = inside w (omega (arith, split, part)) in
      let len : length (piece w) ≡ length bytes % room = piece_len w ∙ omega (arith, split, less, m) in
      let is_piece : piece w ≡ drop (length bytes - length bytes % room) bytes =
      take_all room (drop (w * room) bytes) (omega (arith, length-drop (w * room) bytes, split, long, less)) ∙ ap (λ l. drop l bytes) place in
      let kept : stays_in w slot ≡ cond (ltb (length bytes) room) slot None =
      ⊎_elim
      (λ short. ap (λ k. stays_in k slot) (div-eq_of_lt (omega (arith, short, long))) ∙ sym (cond-true _ _ _ (lt-ltb _ _ short)))
      (λ full. nothing_stays w (le-div 1 n room (omega (arith, some_room)) (omega (arith, full, long))) ∙ sym (cond-false _ _ _ (le-ltb _ _ full)))
      (cases_lt (length bytes) room) in
      let S : Slot → ℕ → ℕ → Type 0 = λ s l c. StandsIn sum size next (first + w) (record { slot = s; len = l; crc = c }) in
      subst (λ s. S s (length bytes % room) (sum (drop (length bytes - length bytes % room) bytes))) (ap free_slot kept)
      (subst (λ l. S (free_slot (stays_in w slot)) l (sum (drop (length bytes - length bytes % room) bytes))) len
      (subst (λ p. S (free_slot (stays_in w slot)) (length (piece w)) (sum p)) is_piece (new_stands fit w below)))
    where
      nothing_stays : (page : ℕ) → 0 < page → stays_in page slot ≡ None
      nothing_stays zero some = absurd (omega (arith, some))
      nothing_stays (suc page) some = refl

  -- how the content ends on the disk
  pub last_next : SumsFit sum size (page_count size (length bytes)) bytes
      → EndsBy sum size (with_bytes (first * size) (flushed_bytes sum size slot bytes) file) (first * content_size size + n) (first + n / content_size size)
      (last_slot sum size slot bytes)
  unfolding next pages
  last_next fit =
      let room = content_size size in
      let split : n / room * room + n % room ≡ n = div-add-mod' n room in
      let spread : first * room + n ≡ (first + n / room) * room + n % room = omega (arith, split) in
      let m : length bytes % room ≡ n % room = ap (λ l. l % room) long in
      let E : Option DurableSlot → Type 0 = EndsBy sum size (with_bytes (first * size) (flushed_bytes sum size slot bytes) file) (first * room + n)
      (first + n / room) in
      ⊎_elim
      (λ whole. subst E (sym (cond-true _ _ _ whole)) (omega (arith, spread, m, eqb-true _ _ whole)))
      (λ part. subst E (sym (cond-false _ _ _ part))
      (omega (arith, spread, m), last_stands fit (omega (arith, m, some_part (length bytes % room) part))))
      (cases_Bool (length bytes % room == 0))
    where
      some_part : (k : ℕ) → (k == 0) ≡ false → 0 < k
      some_part zero is = absurd (eqb-false 0 0 is refl)
      some_part (suc k) is = omega arith

-- each byte of a slot
slot_byte : (size : ℕ) (s : Slot) (new old : List ℕ) → slot_in size s new ≡ slot_in size s old → (i : ℕ) → i < 6
    → get_or new (slot_start size s + i) 0 ≡ get_or old (slot_start size s + i) 0
unfolding slot_in
slot_byte size s new old same i below =
    sym (get_or-drop (slot_start size s) new i 0) ∙ sym (get_or-take 6 (drop (slot_start size s) new) i 0 below)
    ∙ ap (λ l. get_or l i 0) same
    ∙ get_or-take 6 (drop (slot_start size s) old) i 0 below ∙ get_or-drop (slot_start size s) old i 0

-- what is durable stays so under a flush
module _ (sum : List ℕ → ℕ) (size : ℕ) (some_room : 12 < size) (content : List ℕ) (file : File) (first : ℕ) (pages : List ℕ) (ok : Bool) where
  reach_next : (end : ℕ) → end ≤ least_length file.base file.changes
      → end ≤ least_length (after_change (write (first * size) pages false) ok file).base (after_change (write (first * size) pages false) ok file).changes
  reach_next end le =
      let live = whole file.base file.changes in
      omega (arith, le, least_whole file.base file.changes, length-with_bytes (first * size) pages live)

  -- an earlier page, which is not written
  pub durable_before : (len page : ℕ) → page < first → IsDurablePage sum size len file page
      → IsDurablePage sum size len (after_change (write (first * size) pages false) ok file) page
  durable_before len page earlier d =
      let apart = pages_apart size page first earlier in
      let fits = said_len sum size len file page d in
      let ends = slot_ends size d.slot (omega (arith, some_room)) in
      record {
        shown = d.shown;
        beginning = inr d.beginning;
        slot = d.slot;
        verified = d.verified;
        says = d.says;
        reach = reach_next ((page + 1) * size) d.reach;
        bytes = λ i below. only_after file (first * size) pages false ok (page * size + i) (get_or d.shown (page * size + i) 0)
            (λ from to. absurd (omega (arith, from, apart, below, fits))) (d.bytes i below);
        slot_bytes = λ i below. only_after file (first * size) pages false ok (page * size + (slot_start size d.slot + i))
            (get_or d.shown (page * size + (slot_start size d.slot + i)) 0)
            (λ from to. absurd (omega (arith, from, apart, below, ends))) (d.slot_bytes i below);
      }

  -- the page where the tip begins: its durable bytes, and the slot that vouches for them, are written again as they are
  pub durable_again : (slot : DurableSlot) (bytes : List ℕ) → page_at size 0 pages ≡ page_bytes sum size (Some slot) bytes
      → slot.len ≤ length bytes → length bytes ≤ content_size size → bytes ≡ take (length bytes) (from_page size first content)
      → EachBeginning (HoldsContent sum size content) file.base file.changes → IsDurableSlot sum size file first slot
      → IsDurablePage sum size slot.len (after_change (write (first * size) pages false) ok file) first
  durable_again slot bytes laid within fits is holds kept =
      let d = kept.durable in
      let room : 12 ≤ size = omega (arith, some_room) in
      let new = page_bytes sum size (Some slot) bytes in
      let old = page_at size first d.shown in
      let ends = slot_ends size d.slot room in
      let byte : (i : ℕ) → i < size → get_or pages (first * size + i - first * size) 0 ≡ get_or new i 0 = λ i below.
      ap (λ m. get_or pages m 0) (omega arith) ∙ sym (page_byte size 0 pages i below) ∙ ap (λ p. get_or p i 0) laid in
      let old_byte : (i : ℕ) → i < size → get_or old i 0 ≡ get_or d.shown (first * size + i) 0 = λ i below. page_byte size first d.shown i below in
      let shows = of_beginning (HoldsContent sum size content) file.base file.changes d.shown holds d.beginning first d.slot d.verified in
      let rest = from_page size first content in
      let old_front : take slot.len old ≡ take slot.len rest = ap (λ m. take m old) (sym kept.says) ∙ shows.bytes ∙ ap (λ m. take m rest) kept.says in
      let new_front : take slot.len new ≡ take slot.len rest =
      page_begins sum size (Some slot) bytes room fits slot.len within ∙ ap (take slot.len) is ∙ take-take slot.len (length bytes) rest within in
      let front : (i : ℕ) → i < slot.len → get_or new i 0 ≡ get_or old i 0 = λ i below.
      sym (get_or-take slot.len new i 0 below) ∙ ap (λ l. get_or l i 0) (new_front ∙ sym old_front) ∙ get_or-take slot.len old i 0 below in
      let new_slot : slot_in size slot.slot new ≡ slot_bytes slot.len slot.crc =
      kept_in size new room (length bytes) (sum bytes) slot (page_ends sum size (Some slot) bytes room fits) in
      let same_slot : slot_in size d.slot new ≡ slot_in size d.slot old = ap (λ s. slot_in size s new) kept.slot_is ∙ new_slot ∙ sym kept.bytes
      ∙ ap (λ s. slot_in size s old) (sym kept.slot_is) in
      let in_slot : (i : ℕ) → i < 6 → get_or new (slot_start size d.slot + i) 0 ≡ get_or old (slot_start size d.slot + i) 0 =
      λ i below. slot_byte size d.slot new old same_slot i below in
      record {
        shown = d.shown;
        beginning = inr d.beginning;
        slot = d.slot;
        verified = d.verified;
        says = d.says;
        reach = reach_next ((first + 1) * size) d.reach;
        bytes = λ i inside.
            let below : i < slot.len = omega (arith, inside, kept.says) in
            let short : i < size = omega (arith, below, within, fits, some_room) in
            only_after file (first * size) pages false ok (first * size + i) (get_or d.shown (first * size + i) 0)
            (λ from to. byte i short ∙ front i below ∙ old_byte i short) (d.bytes i inside);
        slot_bytes = λ i below.
            let short : slot_start size d.slot + i < size = omega (arith, below, ends) in
            only_after file (first * size) pages false ok (first * size + (slot_start size d.slot + i)) (get_or d.shown (first * size +
            (slot_start size d.slot + i)) 0)
            (λ from to. byte (slot_start size d.slot + i) short ∙ in_slot i below ∙ old_byte (slot_start size d.slot + i) short) (d.slot_bytes i below);
      }

-- the slot that is durable says no more than the first page that is flushed has
pub stays_min : (sum : List ℕ → ℕ) (size : ℕ) (file : File) (synced first n : ℕ) (slot : Option DurableSlot)
    → IsBegun sum size file synced first slot
    → StaysWithin slot n → StaysWithin slot (min (content_size size) n)
stays_min sum size file synced first n None begun stays = tt
stays_min sum size file synced first n (Some kept) begun stays = omega (arith, stays, durable_len sum size kept.len file first begun.1.durable)

-- the page where the tip begins, and those behind it, after a flush
durable_from : (sum : List ℕ → ℕ) (size : ℕ) → 12 < size → (content : List ℕ) (file : File) (synced first n : ℕ) (slot : Option DurableSlot)
    (bytes : List ℕ) (ok : Bool) → bytes ≡ take n (from_page size first content) → n ≤ length (from_page size first content) → 0 < n
    → IsBegun sum size file synced first slot → StaysWithin slot n → EachBeginning (HoldsContent sum size content) file.base file.changes
    → (page : ℕ) → first ≤ page → page * content_size size < synced
    → IsDurablePage sum size (share size page synced) (after_change (write (first * size) (flushed_bytes sum size slot bytes) false) ok file) page
durable_from sum size some_room content file synced first n None bytes ok is within some begun stays holds page from below =
    absurd (omega (arith, mul-le first (content_size size) page (content_size size) from (omega arith), begun, below))
durable_from sum size some_room content file synced first n (Some kept) bytes ok is within some begun stays holds page from below =
    let room = content_size size in
    let next = after_change (write (first * size) (flushed_bytes sum size (Some kept) bytes) false) ok file in
    let fits = durable_len sum size kept.len file first begun.1.durable in
    let long : length bytes ≡ n = ap length is ∙ length-take-le n (from_page size first content) within in
    let here : page ≡ first = ⊎_elim
    (λ later. absurd (omega (arith, mul-le (first + 1) room page room (omega (arith, later)) (omega arith), begun.0, fits, below)))
    (λ le. omega (arith, le, from))
    (cases_lt first page) in
    let piece = page_at room 0 bytes in
    let none : 0 * room ≤ n = omega arith in
    let is_piece : piece ≡ take (min room (n - 0 * room)) (from_page size first content) =
    ap (page_at room 0) is ∙ piece_is size some_room content first n 0 none
    ∙ ap (λ p. take (min room (n - 0 * room)) (from_page size p content)) (omega arith) in
    let piece_length : length piece ≡ min room (n - 0 * room) = piece_long size some_room bytes 0 ∙ ap (λ m. min room (m - 0 * room)) long in
    let first_there : 0 < page_count size (length bytes) = ⊎_elim
    (λ lt. lt)
    (λ past. absurd (omega (arith, count_below size some_room (length bytes) 0 past, long, some)))
    (cases_lt 0 (page_count size (length bytes))) in
    let laid = page_of_pages sum size (omega (arith, some_room)) (page_count size (length bytes)) 0 (Some kept) bytes first_there in
    let again = durable_again sum size some_room content file first (flushed_bytes sum size (Some kept) bytes) ok kept piece laid
    (omega (arith, piece_length, stays, fits)) (omega (arith, piece_length))
    (is_piece ∙ ap (λ m. take m (from_page size first content)) (sym piece_length)) holds begun.1 in
    let shared : kept.len ≡ share size first synced = omega (arith, begun.0, fits) in
    let D : ℕ → Type 0 = λ len. IsDurablePage sum size len next first in
    subst (λ p. IsDurablePage sum size (share size p synced) next p) (sym here) (subst D shared again)

-- What holds of the file at each moment stays under a flush of content at the page where the tip begins, whether the write succeeds or not.
pub flush_kept : (sum : List ℕ → ℕ) (size : ℕ) → 12 < size → size ≤ 65536 → (content : List ℕ) (file : File) (synced first n : ℕ)
    (slot : Option DurableSlot) (bytes : List ℕ) (ok : Bool) → IsKeptIn sum size content synced file
    → first * size ≤ length (whole file.base file.changes) → bytes ≡ take n (from_page size first content)
    → n ≤ length (from_page size first content) → 0 < n → IsBegun sum size file synced first slot → StaysWithin slot n
    → IsKeptIn sum size content synced (after_change (write (first * size) (flushed_bytes sum size slot bytes) false) ok file)
flush_kept sum size some_room small content file synced first n slot bytes ok k reach is within some begun stays = record {
  within = k.within;
  beginnings = (
    holds_next sum size some_room small content (whole file.base file.changes) first n slot bytes reach is within
        (stays_min sum size file synced first n slot begun stays) (whole_has (HoldsContent sum size content) file.base file.changes k.beginnings),
    k.beginnings,
  );
  durable = λ page below.
      ⊎_elim
      (λ earlier. durable_before sum size some_room content file first (flushed_bytes sum size slot bytes) ok (share size page synced) page earlier
      (k.durable page below))
      (λ from. durable_from sum size some_room content file synced first n slot bytes ok is within some begun stays
      k.beginnings page from below)
      (cases_lt page first);
}
