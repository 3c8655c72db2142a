-- What a writer takes into memory and flushes, told of the writer as its call was given it.
use Rattle.std.proofs.Common.{◌≡◌, ℕ, ◌+◌, ◌*◌, ◌/◌, ◌<◌, ◌≤◌, ◌^◌, None, false}
use Rattle.std.proofs.Common.{true, Result, List, ◌∷◌, ◌++◌, length, take, drop, sym, ◌∙◌, ap, subst, arith}
use Rattle.std.proofs.lemmas.List.{length-take}
use Rattle.paged_format.specs.Footers.{content_size}
use Rattle.paged_format.specs.Tips.{Tip}
use Rattle.paged_blob_parts.specs.Calls.{Call, wrote}
use Rattle.paged_blob_parts.specs.Moments.{Through}
use Rattle.paged_blob_parts.specs.Answers.{Records}
use Rattle.paged_blob_parts.specs.Caches.{Cache, AreGiven}
use Rattle.paged_blob_parts.specs.CachedContent.{HoldsPagesOf}
use Rattle.paged_blob_parts.specs.Flushes.{physical_size, page_count, flushed_bytes, SumsFit}
use Rattle.paged_blob_parts.specs.declared.error.Error.{Error}
use Rattle.paged_blob_parts.specs.Writers.{WriterState, IsWriter, Keeps, written}
use Rattle.paged_blob_parts.proofs.CachedLaws.{holds_pages_more}
use Rattle.paged_blob_parts.proofs.WriterLaws.{physical_mono, more_written, more_writer, moments_before, moments_taken}
use Rattle.paged_blob_parts.proofs.WriterLaws.{pages_moments, pages_after, pages_cached, written_is, is_writer}

module _ (sum : List ℕ → ℕ) (calls : List Call) (w given : WriterState) (seen : w ≡ given)
    (writer : IsWriter sum calls given) (some_room : 12 < w.page_size) where
  is : IsWriter sum calls w
  is = subst (IsWriter sum calls) (sym seen) writer

  -- before anything is taken
  pub still_there : (bytes : List ℕ) → Through (Keeps sum given.page_size (written sum calls given ++ bytes) given.synced) calls calls
  still_there bytes =
      subst (λ (v : WriterState). Through (Keeps sum v.page_size (written sum calls v ++ bytes) v.synced) calls calls) seen
      (moments_before sum calls w some_room is bytes)

  -- so many of the bytes were taken
  module _ (bytes : List ℕ) (n : ℕ) (tip : Tip) (tip_is : tip ≡ record w.tip { bytes = w.tip.bytes ++ take n bytes })
      (fits_all : physical_size given.page_size (given.tip.offset + length given.tip.bytes + length bytes) + 4096 < 2 ^ 64) where
    fits : physical_size w.page_size (w.tip.offset + length w.tip.bytes + length (take n bytes)) + 4096 < 2 ^ 64
    fits =
        let start = w.tip.offset + length w.tip.bytes in
        let all : physical_size w.page_size (start + length bytes) + 4096 < 2 ^ 64 =
        subst (λ (v : WriterState). physical_size v.page_size (v.tip.offset + length v.tip.bytes + length bytes) + 4096 < 2 ^ 64) (sym seen) fits_all in
        omega (arith, all, physical_mono w.page_size (start + length (take n bytes)) (start + length bytes) some_room (omega (arith, length-take n bytes)))

    more : written sum calls (record w { tip = tip }) ≡ written sum calls w ++ take n bytes
    more = ap (λ (t : Tip). written sum calls (record w { tip = t })) tip_is ∙ more_written sum calls w some_room is (take n bytes) fits

    pub taken_writer : IsWriter sum calls (record w { tip = tip })
    taken_writer = subst (λ (t : Tip). IsWriter sum calls (record w { tip = t })) (sym tip_is) (more_writer sum calls w some_room is (take n bytes) fits)

    pub taken_content : written sum calls (record w { tip = tip }) ≡ written sum calls given ++ take n bytes
    taken_content = more ∙ ap (λ v. written sum calls v ++ take n bytes) seen

    pub taken_moments : (new : List Call) → Through (Keeps sum w.page_size (written sum calls (record w { tip = tip })) w.synced) calls new
        → Through (Keeps sum given.page_size (written sum calls given ++ bytes) given.synced) calls new
    taken_moments new so_far =
        subst (λ (v : WriterState). Through (Keeps sum v.page_size (written sum calls v ++ bytes) v.synced) calls new) seen
        (moments_taken sum calls w some_room is bytes n fits tip tip_is new so_far)

    pub taken_cached : (before after : Cache) (now : List ℕ) → (HoldsPagesOf (written sum calls (record w { tip = tip })) before w.blob_id
        → HoldsPagesOf now after w.blob_id) → HoldsPagesOf (written sum calls given) before given.blob_id → HoldsPagesOf now after given.blob_id
    taken_cached before after now then_on =
        let P : WriterState → Type 0 = λ v. HoldsPagesOf (written sum calls v) before v.blob_id → HoldsPagesOf now after v.blob_id in
        subst P seen (λ holds. then_on (subst (λ l. HoldsPagesOf l before w.blob_id) (sym more)
        (holds_pages_more (written sum calls w) (take n bytes) before w.blob_id holds)))

  -- its whole pages are flushed
  module _ (small : w.page_size ≤ 65536) (full : content_size given.page_size ≤ length given.tip.bytes) (part : List ℕ) (first : ℕ)
      (whole : part ≡ take (length w.tip.bytes / content_size w.page_size * content_size w.page_size) w.tip.bytes)
      (first_is : first ≡ w.tip.offset / content_size w.page_size) where
    a_page : content_size w.page_size ≤ length w.tip.bytes
    a_page = subst (λ (v : WriterState). content_size v.page_size ≤ length v.tip.bytes) (sym seen) full

    pub flushed_moments : {T : Type 0} (result : Result T Error) (new : List Call)
        → Records result (wrote (first * w.page_size) (flushed_bytes sum w.page_size w.slot part) false) calls new
        → Through (Keeps sum given.page_size (written sum calls given) given.synced) calls new
    flushed_moments result new records =
        subst (λ (v : WriterState). Through (Keeps sum v.page_size (written sum calls v) v.synced) calls new) seen
        (pages_moments sum calls w some_room small is a_page part first whole first_is result new records)

    module _ (new : List Call) (now : new ≡ wrote (first * w.page_size) (flushed_bytes sum w.page_size w.slot part) false true ∷ calls)
        (fit : SumsFit sum w.page_size (page_count w.page_size (length part)) part) (tip : Tip)
        (tip_is : tip ≡ record w.tip { offset = w.tip.offset + length part; bytes = drop (length part) w.tip.bytes }) where
      abbrev next : WriterState
      next = record w { slot = None; tip = tip }

      pub flushed_writer : IsWriter sum new next
      flushed_writer =
          is_writer sum new next some_room (written sum calls w)
          (pages_after sum calls w some_room small is a_page part first whole first_is new now fit tip tip_is)

      pub flushed_content : written sum new next ≡ written sum calls given
      flushed_content =
          written_is sum new next some_room (written sum calls w)
          (pages_after sum calls w some_room small is a_page part first whole first_is new now fit tip tip_is) ∙ ap (written sum calls) seen

      pub flushed_cached : (before after : Cache) (given_first : ℕ) → before.page_size ≡ content_size given.page_size
          → after.page_size ≡ before.page_size
          → given_first ≡ first → AreGiven before.pages after.pages w.blob_id given_first before.page_size part (length part / before.page_size)
          → HoldsPagesOf (written sum calls given) before given.blob_id → HoldsPagesOf (written sum new next) after given.blob_id
      flushed_cached before after given_first sizes same given_is pages holds =
          let room : before.page_size ≡ content_size w.page_size = sizes ∙ ap (λ (v : WriterState). content_size v.page_size) (sym seen) in
          let P : WriterState → Type 0 = λ v. HoldsPagesOf (written sum calls v) before v.blob_id → HoldsPagesOf (written sum calls v) after v.blob_id in
          let kept : P given = subst P seen
          (pages_cached sum calls w some_room small is a_page part first whole first_is before after room same given_first (given_is ∙ first_is) pages) in
          subst (λ l. HoldsPagesOf l after given.blob_id) (sym flushed_content) (kept holds)
