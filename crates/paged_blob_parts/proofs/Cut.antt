-- The last page of a file that is cut gets the one slot that it ends with, by three durable writes.
use Rattle.std.proofs.Common.{◌≡◌, ℕ, ◌+◌, ◌-◌, ◌*◌, ◌<◌, ◌≤◌, ◌^◌}
use Rattle.std.proofs.Common.{Bool, true, List, [], ◌∷◌, ◌++◌, length, take, drop, sym, ◌∙◌, ap}
use Rattle.std.proofs.Common.{inr, ⊎_elim, refl, arith}
use Rattle.std.proofs.lemmas.Bool.{cases_lt}
use Rattle.std.specs.Int.{w16, to_be_bytes}
use Rattle.std.proofs.lemmas.List.{take-take, length-drop}
use Rattle.std.proofs.Math.Nat.{mul-le-mul_right}
use Rattle.paged_format.specs.declared.footer.Slot.{Slot}
use Rattle.paged_format.specs.declared.footer.Slot.TheVariants.{First, Second}
use Rattle.paged_format.specs.Footers.{content_size, slot_bytes, slot_start, slot_len, slot_crc}
use Rattle.paged_format.specs.Pages.{verifies, recovered}
use Rattle.paged_format.specs.Laws.Pages.{vouching}
use Rattle.paged_blob_parts.specs.Calls.{Call, write, resize, whole, with_bytes, File, file_of}
use Rattle.paged_blob_parts.specs.Chance.{page_at, slot_in}
use Rattle.paged_blob_parts.specs.Writers.{from_page, ShowsContent, Keeps}
use Rattle.paged_blob_parts.specs.Shrinks.{other_slot, IsLastPage}
use Rattle.paged_blob_parts.specs.Laws.Durable.{withstands_keeps}
use Rattle.paged_blob_parts.proofs.Bytes.{length-resized, length-with_bytes}
use Rattle.paged_blob_parts.proofs.Shown.{holds_shown}
use Rattle.paged_blob_parts.proofs.Regions.{resize_avoids, write_avoids_page, write_avoids_slot, avoided_same}
use Rattle.paged_blob_parts.proofs.Regions.{same_content, same_slot, sure_still, sure_written}
use Rattle.paged_blob_parts.proofs.Regions.{untouched_write, slot_written, length_written, says_len, says_crc, silent}
use Rattle.paged_blob_parts.proofs.Stages.{SureSlot, sure_base, sure_change, Stage, stage_holds, first_stage, stage_change}
use Rattle.paged_blob_parts.proofs.Stages.{stage_withstands, holds_resized, holds_written}

pub twice_other : (slot : Slot) → other_slot (other_slot slot) ≡ slot
twice_other First = refl
twice_other Second = refl

-- a slot of no length, then its length, is the slot
pub said_in_two : (len crc : ℕ) → to_be_bytes w16 len ++ drop 2 (slot_bytes 0 crc) ≡ slot_bytes len crc
said_in_two len crc = refl

module _ (sum : List ℕ → ℕ) (size : ℕ) (footer : 12 < size) (old : List ℕ) (most page len : ℕ) where
  slot_ends : (slot : Slot) → slot_start size slot + 6 ≤ size
  slot_ends First = omega (arith, footer)
  slot_ends Second = omega (arith, footer)

  -- a moment at which the file ends behind the page, and this slot of it is sure
  pub record Point (file : File) (slot : Slot) : Type 0 where
    pub stage : Stage sum size footer old most page file
    pub long : length (whole file.base file.changes) ≡ (page + 1) * size
    pub sure : SureSlot sum size footer len file page slot

  -- so many bytes withstand it
  pub point_keeps : (calls : List Call) (slot : Slot) → Point (file_of calls) slot → len < content_size size
      → page * content_size size + len ≤ length old → Keeps sum size old (page * content_size size + len) calls
  point_keeps calls slot p part within =
      withstands_keeps sum size (omega (arith, footer)) old (page * content_size size + len) calls
      (stage_withstands sum size footer old most page len (file_of calls) p.stage part within (λ some. (slot, p.sure)))

  -- the page begins with the content
  pub front : (file : File) (slot : Slot) → Point file slot → page * content_size size ≤ length old → (page + 1) * size ≤ most
      → take len (page_at size page (whole file.base file.changes)) ≡ take len (from_page size page old)
  front file slot p within there =
      let here = page_at size page (whole file.base file.changes) in
      let m = slot_len size slot here in
      let s = stage_holds sum size footer old most page file p.stage page slot within there p.sure.verified in
      sym (take-take len m here p.sure.says) ∙ ap (take len) s.bytes ∙ take-take len m (from_page size page old) p.sure.says

  -- the other slot is written
  pub write_point : (file : File) (slot : Slot) (at : ℕ) (bytes : List ℕ) (kept failed : Bool) → Point file slot
      → at ≡ page * size + slot_start size (other_slot slot) → length bytes ≤ 6 → (page + 1) * size ≤ most
      → (verifies sum size (other_slot slot) (page_at size page (with_bytes at bytes (whole file.base file.changes))) ≡ true
      → ShowsContent size old (with_bytes at bytes (whole file.base file.changes)) page (other_slot slot))
      → Point (record { base = file.base; changes = write at bytes kept ∷ file.changes; failed = failed }) slot
  write_point file slot at bytes kept failed p is short there shows =
      let live = whole file.base file.changes in
      let long = length-with_bytes at bytes live in
      let same_long : length (with_bytes at bytes live) ≡ (page + 1) * size = omega (arith, long, p.long, is, short, slot_ends (other_slot slot)) in
      record {
        stage = stage_change sum size footer old most page file (write at bytes kept) failed p.stage
            (holds_written sum size footer old most live at bytes kept page (other_slot slot) p.long is short
            (stage_holds sum size footer old most page file p.stage) shows)
            (omega (arith, same_long, there)) (omega (arith, same_long))
            (λ k below there_slot. write_avoids_page size footer at bytes kept page k there_slot (omega (arith, is)) below);
        long = same_long;
        sure = sure_change sum size footer len file (write at bytes kept) failed page slot p.sure
            (write_avoids_slot size footer at bytes kept page slot is short) (omega (arith, same_long));
      }

-- a file of pages that was cut behind this one
module _ (sum : List ℕ → ℕ) (size : ℕ) (footer : 12 < size) (live : List ℕ) (page : ℕ) (counted : Slot) (len crc : ℕ)
    (last : IsLastPage sum size live page counted len crc) where
  abbrev shown : List ℕ
  shown = recovered sum size live

  abbrev PointOf : File → Slot → Type 0
  PointOf file slot = Point sum size footer shown (length live) page len file slot

  -- it is cut
  pub trimmed_point : (failed : Bool) → PointOf (record { base = live; changes = resize ((page + 1) * size) ∷ []; failed = failed }) counted
  trimmed_point failed =
      let end = (page + 1) * size in
      let fresh : File = record { base = live; changes = []; failed = failed } in
      let long = length-resized end live in
      record {
        stage = stage_change sum size footer shown (length live) page fresh (resize end) failed
            (first_stage sum size footer live failed page (omega (arith, last.reached)))
            (holds_resized sum size footer shown (length live) live (page + 1) last.there (holds_shown sum size footer live))
            (omega (arith, long, last.there)) (omega (arith, long))
            (λ k below slot. resize_avoids size footer end k slot (mul-le-mul_right size (omega (arith, below))));
        long = long;
        sure = sure_change sum size footer len fresh (resize end) failed page counted
            (sure_base sum size footer len live failed page counted last.counts last.says last.there)
            (resize_avoids size footer end page counted (omega arith)) (omega (arith, long));
      }

  -- the checksum is that of the content there
  content_sum : crc ≡ sum (take len (from_page size page shown))
  content_sum =
      let here = page_at size page live in
      let m = slot_len size counted here in
      let s = holds_shown sum size footer live page counted (omega (arith, last.reached)) last.there last.counts in
      last.sums ∙ ap sum (sym (take-take len m here last.says) ∙ ap (take len) s.bytes ∙ take-take len m (from_page size page shown) last.says)

  module _ (at : ℕ) (is : at ≡ page * size + slot_start size (other_slot counted)) (small : len < 2 ^ 16) (fits : crc < 2 ^ 32) where
    -- the first write: no length, and the checksum
    pub first_point : (file : File) (kept failed : Bool) → PointOf file counted
        → PointOf (record { base = file.base; changes = write at (slot_bytes 0 crc) kept ∷ file.changes; failed = failed }) counted
    first_point file kept failed p =
        let now = whole file.base file.changes in
        let new = page_at size page (with_bytes at (slot_bytes 0 crc) now) in
        let says : slot_in size (other_slot counted) new ≡ slot_bytes 0 crc =
        slot_written size footer page at (other_slot counted) (slot_bytes 0 crc) now is refl (omega (arith, p.long)) in
        let none : slot_len size (other_slot counted) new ≡ 0 = says_len size footer (other_slot counted) new 0 crc (omega arith) says in
        write_point sum size footer shown (length live) page len file counted at (slot_bytes 0 crc) kept failed p is (omega arith) last.there
        (λ ok. absurd (silent sum size footer (other_slot counted) new none ok))

    second_says : (now : List ℕ) → length now ≡ (page + 1) * size
        → slot_in size (other_slot counted) (page_at size page (with_bytes at (to_be_bytes w16 len) (with_bytes at (slot_bytes 0 crc) now)))
        ≡ slot_bytes len crc
    second_says now long =
        let mid = with_bytes at (slot_bytes 0 crc) now in
        let mid_long : (page + 1) * size ≤ length mid = omega (arith, length-with_bytes at (slot_bytes 0 crc) now, long) in
        length_written size footer page at (other_slot counted) (to_be_bytes w16 len) mid is refl mid_long
        ∙ ap (λ six. to_be_bytes w16 len ++ drop 2 six)
        (slot_written size footer page at (other_slot counted) (slot_bytes 0 crc) now is refl (omega (arith, long)))
        ∙ said_in_two len crc

    -- the page of a file to which these bytes of the other slot were written
    same_front_of : (file : File) (bytes : List ℕ) (kept : Bool) → PointOf file counted → length bytes ≤ 6
        → take len (page_at size page (with_bytes at bytes (whole file.base file.changes))) ≡ take len (from_page size page shown)
    same_front_of file bytes kept p short =
        let now = whole file.base file.changes in
        let grown = length-with_bytes at bytes now in
        let same = avoided_same size footer (write at bytes kept) page counted now
        (write_avoids_slot size footer at bytes kept page counted is short) (omega (arith, p.long)) (omega (arith, p.long, grown)) in
        same_content sum size footer page counted now (with_bytes at bytes now) len same (omega (arith, last.part))
        ∙ front sum size footer shown (length live) page len file counted p (omega (arith, last.reached)) last.there

    -- the file after the first write
    abbrev Mid : File → Bool → File
    Mid file failed = record { base = file.base; changes = write at (slot_bytes 0 crc) true ∷ file.changes; failed = failed }

    abbrev two : List ℕ
    two = to_be_bytes w16 len

    second_len : (file : File) → PointOf file counted
        → slot_len size (other_slot counted) (page_at size page (with_bytes at two (with_bytes at (slot_bytes 0 crc) (whole file.base file.changes)))) ≡ len
    second_len file p =
        let now = whole file.base file.changes in
        says_len size footer (other_slot counted) (page_at size page (with_bytes at two (with_bytes at (slot_bytes 0 crc) now))) len crc small
        (second_says now p.long)

    second_front : (file : File) (failed : Bool) → PointOf file counted
        → take len (page_at size page (with_bytes at two (with_bytes at (slot_bytes 0 crc) (whole file.base file.changes))))
        ≡ take len (from_page size page shown)
    second_front file failed p = same_front_of (Mid file failed) two true (first_point file true failed p) (omega arith)

    -- the slot that is written then vouches for the content
    second_vouches : (file : File) (failed : Bool) → PointOf file counted
        → verifies sum size (other_slot counted) (page_at size page (with_bytes at two (with_bytes at (slot_bytes 0 crc) (whole file.base file.changes))))
        ≡ true
    second_vouches file failed p =
        let now = whole file.base file.changes in
        let new = page_at size page (with_bytes at two (with_bytes at (slot_bytes 0 crc) now)) in
        let says = second_len file p in
        let crc_is : slot_crc size (other_slot counted) new ≡ crc = says_crc size footer (other_slot counted) new len crc fits (second_says now p.long) in
        vouching sum size new (slot_len size (other_slot counted) new) (slot_crc size (other_slot counted) new) (record {
          some = omega (arith, says, last.some);
          fits = omega (arith, says, last.part);
          sums = crc_is ∙ content_sum ∙ ap sum (sym (second_front file failed p)) ∙ ap (λ n. sum (take n new)) (sym says);
        })

    -- the second write: its length
    pub second_point : (file : File) (kept failed again : Bool) → PointOf file counted
        → PointOf (record { base = file.base; changes = write at two kept ∷ (write at (slot_bytes 0 crc) true ∷ file.changes); failed = again }) counted
    second_point file kept failed again p =
        let now = whole file.base file.changes in
        let new = page_at size page (with_bytes at two (with_bytes at (slot_bytes 0 crc) now)) in
        let says = second_len file p in
        let left : length (from_page size page shown) ≡ length shown - page * content_size size = length-drop (page * content_size size) shown in
        write_point sum size footer shown (length live) page len (Mid file failed) counted at two kept again (first_point file true failed p) is
        (omega arith) last.there
        (λ ok. record {
          within = omega (arith, says, left, last.reached);
          bytes = ap (λ n. take n new) says ∙ second_front file failed p ∙ sym (ap (λ n. take n (from_page size page shown)) says);
        })

    -- once both are made, the slot is sure
    pub handed_point : (file : File) (failed again : Bool) → PointOf file counted
        → PointOf (record { base = file.base; changes = write at two true ∷ (write at (slot_bytes 0 crc) true ∷ file.changes); failed = again })
        (other_slot counted)
    handed_point file failed again p =
        let now = whole file.base file.changes in
        let mid = Mid file failed in
        let second = second_point file true failed again p in
        let grown = length-with_bytes at (slot_bytes 0 crc) now in
        record {
          stage = second.stage;
          long = second.long;
          sure = record {
            verified = second_vouches file failed p;
            says = omega (arith, second_len file p);
            reach = second.sure.reach;
            content = second.sure.content;
            slot_bytes = λ i below.
                let place = page * size + (slot_start size (other_slot counted) + i) in
                ⊎_elim
                (λ first. sure_written mid at two true place (omega (arith, is)) (omega (arith, is, first)))
                (λ later. sure_still mid (write at two true) true place
                (sure_written file at (slot_bytes 0 crc) true place (omega (arith, is)) (omega (arith, is, below)))
                (untouched_write at two true place (inr (omega (arith, is, later)))))
                (cases_lt i 2);
          };
        }

    -- the third write: the slot that counted is cleared
    pub third_point : (file : File) (at_counted : ℕ) (kept failed : Bool) → at_counted ≡ page * size + slot_start size counted
        → PointOf file (other_slot counted)
        → PointOf (record { base = file.base; changes = write at_counted (slot_bytes 0 0) kept ∷ file.changes; failed = failed }) (other_slot counted)
    third_point file at_counted kept failed place p =
        let now = whole file.base file.changes in
        let there : at_counted ≡ page * size + slot_start size (other_slot (other_slot counted)) =
        place ∙ ap (λ slot. page * size + slot_start size slot) (sym (twice_other counted)) in
        let new = page_at size page (with_bytes at_counted (slot_bytes 0 0) now) in
        let says : slot_in size (other_slot (other_slot counted)) new ≡ slot_bytes 0 0 =
        slot_written size footer page at_counted (other_slot (other_slot counted)) (slot_bytes 0 0) now there refl (omega (arith, p.long)) in
        let none : slot_len size (other_slot (other_slot counted)) new ≡ 0 =
        says_len size footer (other_slot (other_slot counted)) new 0 0 (omega arith) says in
        write_point sum size footer shown (length live) page len file (other_slot counted) at_counted (slot_bytes 0 0) kept failed p there (omega arith)
        last.there
        (λ ok. absurd (silent sum size footer (other_slot (other_slot counted)) new none ok))

    -- what the slots then say
    pub third_says : (file : File) (at_counted : ℕ) (kept : Bool) → at_counted ≡ page * size + slot_start size counted → PointOf file counted
        → (slot_in size (other_slot counted)
        (page_at size page (with_bytes at_counted (slot_bytes 0 0) (with_bytes at two (with_bytes at (slot_bytes 0 crc) (whole file.base file.changes)))))
        ≡ slot_bytes len crc)
        × (slot_in size counted
        (page_at size page (with_bytes at_counted (slot_bytes 0 0) (with_bytes at two (with_bytes at (slot_bytes 0 crc) (whole file.base file.changes)))))
        ≡ slot_bytes 0 0)
    third_says file at_counted kept place p =
        let now = with_bytes at two (with_bytes at (slot_bytes 0 crc) (whole file.base file.changes)) in
        let second = second_point file true true true p in
        let there : at_counted ≡ page * size + slot_start size (other_slot (other_slot counted)) =
        place ∙ ap (λ slot. page * size + slot_start size slot) (sym (twice_other counted)) in
        let grown = length-with_bytes at_counted (slot_bytes 0 0) now in
        let same = avoided_same size footer (write at_counted (slot_bytes 0 0) kept) page (other_slot counted) now
        (write_avoids_slot size footer at_counted (slot_bytes 0 0) kept page (other_slot counted) there (omega arith)) (omega (arith, second.long))
        (omega (arith, second.long, grown)) in (
          same_slot sum size footer page (other_slot counted) now (with_bytes at_counted (slot_bytes 0 0) now) same
              ∙ second_says (whole file.base file.changes) p.long,
          slot_written size footer page at_counted counted (slot_bytes 0 0) now place refl (omega (arith, second.long)),
        )
