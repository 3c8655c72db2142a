-- A blob that was cut is one that a writer of the content has.
use Rattle.std.proofs.Common.{◌≡◌, ◌⊎◌, ℕ, ◌+◌, ◌-◌, ◌*◌, ◌/◌}
use Rattle.std.proofs.Common.{◌%◌, ◌<◌, ◌≤◌, ◌^◌, true, Option, Some, None, List, length}
use Rattle.std.proofs.Common.{sym, ◌∙◌, ap, subst, inl, inr, ⊎_elim, refl, arith}
use Rattle.std.proofs.lemmas.Bool.{cases_lt}
use Rattle.std.proofs.lemmas.List.{length-drop}
use Rattle.std.proofs.lemmas.Nat.{mul-le, div-add-mod', mod_below, mod-mul-add, div-mul-add}
use Rattle.paged_format.specs.declared.footer.Slot.{Slot}
use Rattle.paged_format.specs.declared.footer.Slot.TheVariants.{First, Second}
use Rattle.paged_format.specs.Footers.{content_size, slot_len, slot_crc}
use Rattle.paged_format.specs.Pages.{verifies}
use Rattle.paged_format.specs.Laws.Pages.{vouched}
use Rattle.paged_blob_parts.specs.Calls.{Call, Change, whole, file_of}
use Rattle.paged_blob_parts.specs.Images.{least_length}
use Rattle.paged_blob_parts.specs.Chance.{page_at, slot_in, IsBeginning}
use Rattle.paged_blob_parts.specs.Writers.{HoldsContent, EachBeginning, IsDurablePage, share, AreShown, IsBegun, pages_begun, IsWriterOf}
use Rattle.paged_blob_parts.specs.Flushes.{physical_size}
use Rattle.paged_blob_parts.specs.Shrinks.{other_slot, IsCut}
use Rattle.paged_blob.specs.ShrinksCode.{EndsWith, tip_of, slot_of}
use Rattle.paged_blob.specs.declared.shrink.LastPage.{LastPage}
use Rattle.paged_blob_parts.proofs.FlushedPages.{pages_apart}
use Rattle.paged_blob_parts.proofs.FlushLaws.{said_len}
use Rattle.paged_blob_parts.proofs.Regions.{says_len}

same_or_other : (a b : Slot) → (a ≡ b) ⊎ (a ≡ other_slot b)
same_or_other First First = inl refl
same_or_other First Second = inr refl
same_or_other Second First = inr refl
same_or_other Second Second = inl refl

module _ (sum : List ℕ → ℕ) (size : ℕ) (some_room : 12 < size) (small : size ≤ 65536) (content : List ℕ) (calls : List Call)
    (c : IsCut sum size content calls) where
  abbrev base : List ℕ
  base = (file_of calls).base

  abbrev live : List ℕ
  live = whole (file_of calls).base (file_of calls).changes

  abbrev pages : ℕ
  pages = length content / content_size size

  live_is : live ≡ base
  live_is = ap (whole base) c.settled

  least_is : least_length (file_of calls).base (file_of calls).changes ≡ length base
  least_is = ap (least_length base) c.settled

  shown_is : (len page : ℕ) (d : IsDurablePage sum size len (file_of calls) page) → d.shown ≡ base
  shown_is len page d = subst (λ (changes : List Change). IsBeginning base changes d.shown) c.settled d.beginning

  split : pages * content_size size + length content % content_size size ≡ length content
  split = div-add-mod' (length content) (content_size size)

  less : length content % content_size size < content_size size
  less = mod_below (length content) (content_size size) (omega (arith, some_room))

  cut_shown : AreShown sum size (pages * content_size size) live
  cut_shown = λ page below.
      let room = content_size size in
      let before : page < pages =
      ⊎_elim (λ lt. lt) (λ past. absurd (omega (arith, mul-le pages room page room past (omega arith), below))) (cases_lt page pages) in
      let apart = pages_apart room page pages before in
      let d = c.durable page (omega (arith, below, split)) in
      let most = said_len sum size (share size page (length content)) (file_of calls) page d in
      let same : page_at size page live ≡ page_at size page d.shown =
      ap (page_at size page) (live_is ∙ sym (shown_is (share size page (length content)) page d)) in
      let V : List ℕ → Type 0 = λ p. verifies sum size d.slot p ≡ true in
      record {
        slot = d.slot;
        verified = subst V (sym same) d.verified;
        says = ap (slot_len size d.slot) same ∙ omega (arith, most, d.says, apart, split);
        reach = omega (arith, d.reach, least_is, ap length live_is);
      }

  cut_begun : (last : Option LastPage) → EndsWith size content base last → IsBegun sum size (file_of calls) (length content) pages (slot_of last)
  cut_begun None ends = omega (arith, ends, split)
  cut_begun (Some last) ends =
      let room = content_size size in
      let len = length last.bytes.items in
      let long : len ≡ length content - pages * room = ap length ends.bytes ∙ length-drop (pages * room) content in
      let d = c.durable pages (omega (arith, long, ends.some)) in
      let shown = shown_is (share size pages (length content)) pages d in
      let there = ap (page_at size pages) shown in
      let said : slot_len size last.slot (page_at size pages base) ≡ len =
      says_len size some_room last.slot (page_at size pages base) len last.crc (omega (arith, long, split, less, small)) ends.alone.says in
      let none : slot_len size (other_slot last.slot) (page_at size pages base) ≡ 0 =
      says_len size some_room (other_slot last.slot) (page_at size pages base) 0 0 (omega arith) ends.alone.cleared in
      let seen = page_at size pages d.shown in
      let v = vouched sum size seen (slot_len size d.slot seen) (slot_crc size d.slot seen) d.verified in
      let is : d.slot ≡ last.slot = ⊎_elim (λ same. same)
      (λ other. absurd (omega (arith, v.some, ap (λ s. slot_len size s seen) other ∙ ap (slot_len size (other_slot last.slot)) there ∙ none)))
      (same_or_other d.slot last.slot) in (
        omega (arith, long, split),
        record {
          durable = record {
            shown = d.shown;
            beginning = d.beginning;
            slot = d.slot;
            verified = d.verified;
            says = omega (arith, d.says, long, split, less);
            reach = d.reach;
            bytes = d.bytes;
            slot_bytes = d.slot_bytes;
          };
          slot_is = is;
          says = ap (λ s. slot_len size s (page_at size pages d.shown)) is ∙ ap (slot_len size last.slot) there ∙ said;
          bytes = ap (slot_in size last.slot) there ∙ ends.alone.says;
        },
      )

  cut_pages : (last : Option LastPage) → EndsWith size content base last
      → (length content + (content_size size - 1)) / content_size size ≡ pages + pages_begun (slot_of last)
  cut_pages None ends =
      let room = content_size size in
      let place : length content + (room - 1) ≡ pages * room + (room - 1) = omega (arith, split, ends) in
      ap (λ m. m / room) place ∙ div-mul-add pages room (room - 1) (omega (arith, some_room)) ∙ omega arith
  cut_pages (Some last) ends =
      let room = content_size size in
      let r = length content % room in
      let long : length last.bytes.items ≡ length content - pages * room = ap length ends.bytes ∙ length-drop (pages * room) content in
      let some : 0 < r = omega (arith, long, ends.some, split) in
      let place : length content + (room - 1) ≡ (pages + 1) * room + (r - 1) = omega (arith, split, some, some_room) in
      ap (λ m. m / room) place ∙ div-mul-add (pages + 1) room (r - 1) (omega (arith, less))

  pub cut_writer : (capacity : ℕ) (last : Option LastPage) → EndsWith size content base last → physical_size size (length content) + 4096 < 2 ^ 64
      → IsWriterOf sum size calls content (length content) (tip_of size content capacity) (slot_of last)
  cut_writer capacity last ends numbers =
      let room = content_size size in
      let place : pages * room ≡ pages * room + 0 = omega arith in
      let page : pages * room / room ≡ pages = ap (λ m. m / room) place ∙ div-mul-add pages room 0 (omega (arith, some_room)) in
      let P : List Change → Type 0 = λ changes. EachBeginning (HoldsContent sum size content) base changes in
      record {
        sound = c.sound;
        kept = record { within = omega arith; beginnings = subst P (sym c.settled) c.holds; durable = c.durable };
        tip_begins = ap (λ m. m % room) place ∙ mod-mul-add pages room 0 (omega (arith, some_room));
        tip_within = omega (arith, split);
        tip_bytes = refl;
        shown = cut_shown;
        begun = subst (λ p. IsBegun sum size (file_of calls) (length content) p (slot_of last)) (sym page) (cut_begun last ends);
        ends = ap length live_is ∙ c.long ∙ ap (λ n. n * size) (cut_pages last ends) ∙ ap (λ p. (p + pages_begun (slot_of last)) * size) (sym page);
        numbers = numbers;
      }
