-- What a file withstands while it is cut, change by change.
use Rattle.std.proofs.Common.{◌≡◌, ◌⊎◌, ℕ, ◌+◌, ◌*◌, ◌<◌, ◌≤◌, Bool, true, List, [], ◌∷◌, length, sym, ◌∙◌, ap}
use Rattle.std.proofs.Common.{inl, inr, ⊎_elim, refl, subst, arith}
use Rattle.std.proofs.lemmas.Bool.{cases_lt, eqb-true}
use Rattle.std.proofs.Math.Nat.{mul-le-mul_right}
use Rattle.paged_format.specs.declared.footer.Slot.{Slot}
use Rattle.paged_format.specs.declared.footer.Slot.TheVariants.{First, Second}
use Rattle.paged_format.specs.Footers.{content_size, slot_start, slot_len, slot_crc}
use Rattle.paged_format.specs.Pages.{verifies, recovered}
use Rattle.paged_format.specs.Laws.Pages.{vouched}
use Rattle.paged_blob_parts.specs.Calls.{Change, write, resize, changed, whole, with_bytes, File}
use Rattle.paged_blob_parts.specs.Images.{least_length, greatest_length}
use Rattle.paged_blob_parts.specs.Chance.{page_at, IsBeginning}
use Rattle.paged_blob_parts.specs.Writers.{ShowsContent, EachBeginning, IsDurablePage, share}
use Rattle.paged_blob_parts.specs.Shrinks.{HoldsPrefix, Withstands, other_slot}
use Rattle.paged_blob_parts.specs.Laws.Writers.{each_weaker}
use Rattle.paged_blob_parts.proofs.Bytes.{length-resized, length-with_bytes}
use Rattle.paged_blob_parts.proofs.Live.{whole_long}
use Rattle.paged_blob_parts.proofs.Shown.{counts, holds_shown}
use Rattle.paged_blob_parts.proofs.Regions.{IsSure, sure_still, Avoids, resize_avoids, write_avoids_page, write_avoids_slot, avoided_same, turned}
use Rattle.paged_blob_parts.proofs.Regions.{absent, verifies_same, says_same, shows_same, silent}

newest : (base : List ℕ) (changes : List Change) → IsBeginning base changes (whole base changes)
newest base [] = refl
newest base (change ∷ earlier) = inl refl

-- one slot, or the other
pub which : (slot there : Slot) → (slot ≡ there) ⊎ (there ≡ other_slot slot)
which First First = inl refl
which First Second = inr refl
which Second First = inr refl
which Second Second = inl refl

module _ (sum : List ℕ → ℕ) (size : ℕ) (footer : 12 < size) where
  -- a slot verifies, and says so many bytes or more; each image has it as it is, and the content of the page
  pub record SureSlot (len : ℕ) (file : File) (page : ℕ) (slot : Slot) : Type 0 where
    pub verified : verifies sum size slot (page_at size page (whole file.base file.changes)) ≡ true
    pub says : len ≤ slot_len size slot (page_at size page (whole file.base file.changes))
    pub reach : (page + 1) * size ≤ least_length file.base file.changes
    pub content : (i : ℕ) → i < content_size size → IsSure file (page * size + i)
    pub slot_bytes : (i : ℕ) → i < 6 → IsSure file (page * size + (slot_start size slot + i))

  pub sure_durable : (len less : ℕ) (file : File) (page : ℕ) (slot : Slot) → less ≤ len → SureSlot len file page slot
      → IsDurablePage sum size less file page
  sure_durable len less file page slot fewer s =
      let here = page_at size page (whole file.base file.changes) in
      let v = vouched sum size here (slot_len size slot here) (slot_crc size slot here) s.verified in
      record {
        shown = whole file.base file.changes;
        beginning = newest file.base file.changes;
        slot = slot;
        verified = s.verified;
        says = omega (arith, fewer, s.says);
        reach = s.reach;
        bytes = λ i below. s.content i (omega (arith, below, v.fits));
        slot_bytes = s.slot_bytes;
      }

  pub sure_base : (len : ℕ) (live : List ℕ) (failed : Bool) (page : ℕ) (slot : Slot) → verifies sum size slot (page_at size page live) ≡ true
      → len ≤ slot_len size slot (page_at size page live) → (page + 1) * size ≤ length live
      → SureSlot len (record { base = live; changes = []; failed = failed }) page slot
  sure_base len live failed page slot ok says reach = record {
    verified = ok;
    says = says;
    reach = reach;
    content = λ i below held is. eqb-true _ _ is;
    slot_bytes = λ i below held is. eqb-true _ _ is;
  }

  pub sure_change : (len : ℕ) (file : File) (change : Change) (failed : Bool) (page : ℕ) (slot : Slot) → SureSlot len file page slot
      → Avoids size footer change page slot → (page + 1) * size ≤ length (changed change (whole file.base file.changes))
      → SureSlot len (record { base = file.base; changes = change ∷ file.changes; failed = failed }) page slot
  sure_change len file change failed page slot s spared long =
      let live = whole file.base file.changes in
      let same = avoided_same size footer change page slot live spared (omega (arith, s.reach, (whole_long file.base file.changes).0)) long in
      record {
        verified = verifies_same sum size footer page slot live (changed change live) same s.verified;
        says = omega (arith, s.says, says_same sum size footer page slot live (changed change live) same);
        reach = omega (arith, s.reach, long);
        content = λ i below. sure_still file change true (page * size + i) (s.content i below) (spared.content i below);
        slot_bytes = λ i below. sure_still file change true (page * size + (slot_start size slot + i)) (s.slot_bytes i below) (spared.slot_bytes i below);
      }

  -- the pages before one are whole, and each beginning holds what was recovered at first, of so many bytes at most
  pub record Stage (old : List ℕ) (most page : ℕ) (file : File) : Type 0 where
    pub beginnings : EachBeginning (HoldsPrefix sum size old most) file.base file.changes
    pub greatest : greatest_length file.base file.changes ≤ most
    pub before : (k : ℕ) → k < page → (slot : Slot) × SureSlot (content_size size) file k slot

  newest_holds : (old : List ℕ) (most : ℕ) (first : List ℕ) (changes : List Change) → EachBeginning (HoldsPrefix sum size old most) first changes
      → HoldsPrefix sum size old most (whole first changes)
  newest_holds old most first [] each = each
  newest_holds old most first (change ∷ earlier) each = each.0

  -- the file holds it
  pub stage_holds : (old : List ℕ) (most page : ℕ) (file : File) → Stage old most page file
      → HoldsPrefix sum size old most (whole file.base file.changes)
  stage_holds old most page file s = newest_holds old most file.base file.changes s.beginnings

  pub first_stage : (live : List ℕ) (failed : Bool) (page : ℕ) → page * content_size size ≤ length (recovered sum size live)
      → Stage (recovered sum size live) (length live) page (record { base = live; changes = []; failed = failed })
  first_stage live failed page within = record {
    beginnings = holds_shown sum size footer live;
    greatest = omega arith;
    before = λ k below.
        let next : (k + 1) * content_size size ≤ page * content_size size = mul-le-mul_right (content_size size) (omega (arith, below)) in
        let c = counts sum size footer k live (omega (arith, next, within, footer)) in
        (c.slot, sure_base (content_size size) live failed k c.slot c.verified (omega (arith, c.shares, c.says, next, within)) c.reach);
  }

  pub stage_change : (old : List ℕ) (most page : ℕ) (file : File) (change : Change) (failed : Bool) → Stage old most page file
      → HoldsPrefix sum size old most (changed change (whole file.base file.changes))
      → length (changed change (whole file.base file.changes)) ≤ most → page * size ≤ length (changed change (whole file.base file.changes))
      → ((k : ℕ) → k < page → (slot : Slot) → Avoids size footer change k slot)
      → Stage old most page (record { base = file.base; changes = change ∷ file.changes; failed = failed })
  stage_change old most page file change failed s holds short long spared = record {
    beginnings = (holds, s.beginnings);
    greatest = omega (arith, s.greatest, short);
    before = λ k below.
        let b = s.before k below in
        let next : (k + 1) * size ≤ page * size = mul-le-mul_right size (omega (arith, below)) in
        (b.0, sure_change (content_size size) file change failed k b.0 b.1 (spared k below b.0) (omega (arith, next, long)));
  }

  fewer_whole : (old : List ℕ) (most fewer : ℕ) (file : List ℕ) → fewer ≤ most → HoldsPrefix sum size old most file
      → HoldsPrefix sum size old fewer file
  fewer_whole old most fewer file le holds = λ page slot within there. holds page slot within (omega (arith, there, le))

  -- so many bytes withstand where a slot vouches for those of the last page
  pub stage_withstands : (old : List ℕ) (most page part : ℕ) (file : File) → Stage old most page file → part < content_size size
      → page * content_size size + part ≤ length old → (0 < part → (slot : Slot) × SureSlot part file page slot)
      → Withstands sum size old (page * content_size size + part) file
  stage_withstands old most page part file s short within last =
      let room = content_size size in
      let count = page * room + part in
      record {
        within = within;
        beginnings = each_weaker (HoldsPrefix sum size old most) (HoldsPrefix sum size old (greatest_length file.base file.changes)) file.base file.changes
            (λ bytes holds. fewer_whole old most (greatest_length file.base file.changes) bytes s.greatest holds) s.beginnings;
        durable = λ k below.
            ⊎_elim
            (λ before. let b = s.before k before in sure_durable room (share size k count) file k b.0 (omega arith) b.1)
            (λ from. ⊎_elim
            (λ further.
            let next : (page + 1) * room ≤ k * room = mul-le-mul_right room (omega (arith, further)) in
            absurd (omega (arith, next, below, short)))
            (λ at.
            let is : page ≡ k = omega (arith, at, from) in
            let same : page * room ≡ k * room = ap (λ n. n * room) is in
            let l = last (omega (arith, below, same)) in
            let P : ℕ → Type 0 = λ n. IsDurablePage sum size (share size k count) file n in
            subst P is (sure_durable part (share size k count) file page l.0 (omega (arith, same)) l.1))
            (cases_lt page k))
            (cases_lt k page);
      }

  -- once all is durable
  pub settled_withstands : (old : List ℕ) (most page part : ℕ) (file : File) (live : List ℕ) (failed : Bool) → Stage old most page file
      → live ≡ whole file.base file.changes → part < content_size size → page * content_size size + part ≤ length old
      → (0 < part → (slot : Slot) × SureSlot part file page slot)
      → Withstands sum size old (page * content_size size + part) (record { base = live; changes = []; failed = failed })
  settled_withstands old most page part file live failed s is short within last =
      let now = whole file.base file.changes in
      let long = whole_long file.base file.changes in
      let base : List ℕ → File = λ bytes. record { base = bytes; changes = []; failed = failed } in
      let again : (len k : ℕ) (slot : Slot) → SureSlot len file k slot → SureSlot len (base now) k slot =
      λ len k slot b. sure_base len now failed k slot b.verified b.says (omega (arith, b.reach, long.0)) in
      let stage : Stage old most page (base now) = record {
        beginnings = stage_holds old most page file s;
        greatest = omega (arith, long.1, s.greatest);
        before = λ k below. let b = s.before k below in (b.0, again (content_size size) k b.0 b.1);
      } in
      let P : List ℕ → Type 0 = λ bytes. Withstands sum size old (page * content_size size + part) (base bytes) in
      subst P (sym is)
      (stage_withstands old most page part (base now) stage short within (λ some. let l = last some in (l.0, again part page l.0 l.1)))

  -- a file that is cut behind a page holds what it held
  pub holds_resized : (old : List ℕ) (most : ℕ) (file : List ℕ) (count : ℕ) → count * size ≤ length file → HoldsPrefix sum size old most file
      → HoldsPrefix sum size old most (changed (resize (count * size)) file)
  holds_resized old most file count there holds = λ page slot within whole ok.
      let new = changed (resize (count * size)) file in
      let long = length-resized (count * size) file in
      ⊎_elim
      (λ before.
      let next : (page + 1) * size ≤ count * size = mul-le-mul_right size (omega (arith, before)) in
      let same = avoided_same size footer (resize (count * size)) page slot file (resize_avoids size footer (count * size) page slot next)
      (omega (arith, next, there)) (omega (arith, next, long)) in
      let was = verifies_same sum size footer page slot new file (turned size footer page slot file new same) ok in
      shows_same sum size footer old page slot file new same was (holds page slot within whole was))
      (λ behind.
      let past : count * size ≤ page * size = mul-le-mul_right size behind in
      absurd (silent sum size footer slot (page_at size page new) (absent size footer page slot new (omega (arith, long, past))) ok))
      (cases_lt page count)

  -- and so does one whose last page gets another slot
  pub holds_written : (old : List ℕ) (most : ℕ) (file : List ℕ) (at : ℕ) (bytes : List ℕ) (kept : Bool) (page : ℕ) (slot : Slot)
      → length file ≡ (page + 1) * size → at ≡ page * size + slot_start size slot → length bytes ≤ 6 → HoldsPrefix sum size old most file
      → (verifies sum size slot (page_at size page (with_bytes at bytes file)) ≡ true → ShowsContent size old (with_bytes at bytes file) page slot)
      → HoldsPrefix sum size old most (changed (write at bytes kept) file)
  holds_written old most file at bytes kept page slot long is short holds shows = λ k there within whole ok.
      let new = changed (write at bytes kept) file in
      let same_long : length new ≡ (page + 1) * size = omega (arith, length-with_bytes at bytes file, long, is, short, ends slot) in
      let kept_page : (j : ℕ) → j ≤ page → Avoids size footer (write at bytes kept) j there → verifies sum size there (page_at size j new) ≡ true
      → j * content_size size ≤ length old → (j + 1) * size ≤ most → ShowsContent size old new j there = λ j le spared now in_old in_most.
      let next : (j + 1) * size ≤ (page + 1) * size = mul-le-mul_right size (omega (arith, le)) in
      let same = avoided_same size footer (write at bytes kept) j there file spared (omega (arith, next, long)) (omega (arith, next, same_long)) in
      let was = verifies_same sum size footer j there new file (turned size footer j there file new same) now in
      shows_same sum size footer old j there file new same was (holds j there in_old in_most was) in
      ⊎_elim
      (λ before.
      kept_page k (omega (arith, before)) (write_avoids_page size footer at bytes kept page k there (omega (arith, is)) before) ok within whole)
      (λ from. ⊎_elim
      (λ further.
      let past : (page + 1) * size ≤ k * size = mul-le-mul_right size (omega (arith, further)) in
      absurd (silent sum size footer there (page_at size k new) (absent size footer k there new (omega (arith, same_long, past))) ok))
      (λ at_last.
      let k_is : page ≡ k = omega (arith, at_last, from) in
      let P : ℕ → Type 0 = λ j. verifies sum size there (page_at size j new) ≡ true → j * content_size size ≤ length old → (j + 1) * size ≤ most
      → ShowsContent size old new j there in
      let here : P page = λ now in_old in_most.
      ⊎_elim
      (λ written.
      let Q : Slot → Type 0 = λ w. verifies sum size w (page_at size page new) ≡ true → ShowsContent size old new page w in
      let shows_it : Q there = subst Q (sym written) shows in
      shows_it now)
      (λ other.
      let place : at ≡ page * size + slot_start size (other_slot there) = is ∙ ap (λ w. page * size + slot_start size w) other in
      kept_page page (omega arith) (write_avoids_slot size footer at bytes kept page there place short) now in_old in_most)
      (which there slot) in
      let found : P k = subst P k_is here in
      found ok within whole)
      (cases_lt page k))
      (cases_lt k page)
    where
      ends : (w : Slot) → slot_start size w + 6 ≤ size
      ends First = omega (arith, footer)
      ends Second = omega (arith, footer)
