-- A writer's list, lent and sealed.
use Rattle.std.proofs.Common.{◌≡◌, ℕ, ◌+◌, ◌-◌, ◌*◌, ◌/◌, ◌<◌, ◌≤◌, List, length, take, sym, ap, subst, refl, arith}
use Rattle.std.proofs.lemmas.List.{length-take-le}
use Rattle.std.proofs.lemmas.Nat.{mul-le, div-add-mod', le-div}
use Rattle.paged_format.specs.Footers.{content_size}
use Rattle.paged_format.specs.Pages.{recovered}
use Rattle.paged_blob_parts.specs.Calls.{Call, content}
use Rattle.paged_blob_parts.specs.Caches.{Cache}
use Rattle.paged_blob_parts.specs.CachedContent.{HoldsPagesOf}
use Rattle.paged_blob_parts.specs.Flushes.{page_count, physical_size}
use Rattle.paged_blob_parts.specs.Reads.{StaysKept}
use Rattle.paged_blob_parts.specs.Writers.{WriterState, written, IsWriter}
use Rattle.paged_blob_parts.specs.Stands.{Stand, on_blob, listed, IsSealed, pages_of}
use Rattle.paged_blob_parts.specs.Served.{Serves}
use Rattle.paged_blob_parts.specs.declared.read.FlushedPages.{FlushedPages}
use Rattle.paged_blob_parts.proofs.WriterReads.{tip_shown}

-- the place of a page among content that has a number has one
pub pages_number : (size less more : ℕ) → 12 < size → less ≤ more → less / content_size size * size ≤ physical_size size more
pages_number size less more some le =
    let room = content_size size in
    let q = less / room in
    let count : q ≤ page_count size more = le-div q (more + (room - 1)) room (omega (arith, some)) (omega (arith, div-add-mod' less room, le)) in
    mul-le q size (page_count size more) size count (omega arith)

module _ (sum : List ℕ → ℕ) (calls : List Call) (w : WriterState) where
  pub listed_is : listed sum calls (pages_of w) w.tip.bytes ≡ written sum calls w
  unfolding written
  listed_is = refl

  module _ (some_room : 12 < w.page_size) (is : IsWriter sum calls w) where
    -- nothing has failed: the pages of a writer stand
    pub writer_stands : Stand sum calls (pages_of w)
    writer_stands = record {
      whole = is.tip_begins;
      shown = tip_shown sum calls w some_room is;
      found = λ live found. ap (λ (l : List ℕ). take w.tip.offset (recovered sum w.page_size l)) (found.content is.sound);
      numbers =
          let place = pages_number w.page_size w.tip.offset (length (written sum calls w)) some_room is.tip_within in
          omega (arith, place, is.numbers);
    }

    pub writer_sealed : (pages : FlushedPages) (tail : List ℕ) → pages ≡ pages_of w → tail ≡ w.tip.bytes
        → IsSealed sum calls (written sum calls w) pages tail
    writer_sealed pages tail made tail_is =
        subst (λ (p : FlushedPages). IsSealed sum calls (written sum calls w) p tail) (sym made)
        (subst (λ (l : List ℕ). IsSealed sum calls (written sum calls w) (pages_of w) l) (sym tail_is)
        (record { stand = writer_stands; is = listed_is }))

    -- those that are kept of a writer's list serve the content of its pages
    pub writer_serves : (cache : Cache) → cache.page_size ≡ content_size w.page_size → HoldsPagesOf (written sum calls w) cache w.blob_id
        → Serves (on_blob sum calls (pages_of w)) cache (pages_of w)
    writer_serves cache sizes holds = record {
      whole = is.tip_begins;
      long = length-take-le w.tip.offset (recovered sum w.page_size (content calls)) (tip_shown sum calls w some_room is);
      sizes = sizes;
      kept = (w.tip.bytes, subst (λ l. HoldsPagesOf l cache w.blob_id) (sym listed_is) holds);
    }

    -- and stay kept with it
    pub writer_kept : (old new : Cache) → HoldsPagesOf (written sum calls w) old w.blob_id
        → StaysKept (on_blob sum calls (pages_of w)) old new w.blob_id → HoldsPagesOf (written sum calls w) new w.blob_id
    writer_kept old new holds stays =
        subst (λ l. HoldsPagesOf l new w.blob_id) listed_is (stays w.tip.bytes (subst (λ l. HoldsPagesOf l old w.blob_id) (sym listed_is) holds))
