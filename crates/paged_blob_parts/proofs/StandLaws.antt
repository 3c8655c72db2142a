-- Pages that stand: what each read finds of them, and why one may be refused.
use Rattle.std.proofs.Common.{◌≡◌, ℕ, ◌+◌, ◌*◌, ◌/◌, ◌%◌, ◌<◌, ◌≤◌}
use Rattle.std.proofs.Common.{◌^◌, List, ◌++◌, length, take, sym, ◌∙◌, ap, inl, inr, arith}
use Rattle.std.proofs.lemmas.List.{length-append, length-take, length-take-le, take-take, take_at, take-append-le}
use Rattle.paged_format.specs.Footers.{content_size}
use Rattle.paged_format.specs.Pages.{recovered}
use Rattle.paged_blob_parts.specs.Calls.{Call, content, file_of}
use Rattle.paged_blob_parts.specs.Chance.{page_at}
use Rattle.paged_blob_parts.specs.Images.{IsImage, IsLive}
use Rattle.paged_blob_parts.specs.Answers.{Failures, IsCause, IsReadCause}
use Rattle.paged_blob_parts.specs.Moments.{Through}
use Rattle.paged_blob_parts.specs.Laws.Moments.{at_end}
use Rattle.paged_blob_parts.specs.Writers.{Keeps}
use Rattle.paged_blob_parts.specs.Stands.{Stand, on_blob, IsSealed}
use Rattle.paged_blob_parts.specs.declared.read.FlushedPages.{FlushedPages}
use Rattle.paged_blob_parts.specs.declared.error.CallKind.TheVariants.{Read}
use Rattle.paged_blob_parts.specs.declared.error.Error.{Error}
use Rattle.paged_blob_parts.specs.declared.error.Error.TheVariants.{Injected, BlobMissing, BlobInsufficientLength}
use Rattle.paged_blob_parts.specs.declared.error.Error.TheVariants.{NumberEnded, Memory, PowerCut, ChecksumMismatch}
use Rattle.paged_blob_parts.proofs.Live.{reached_image, whole_live}
use Rattle.paged_blob_parts.proofs.ReadPages.{whole_there, page_of_front}

module _ (sum : List ℕ → ℕ) (calls : List Call) (pages : FlushedPages) (stand : Stand sum calls pages) where
  -- the content on the blob has as many bytes as its pages
  pub long : length (on_blob sum calls pages) ≡ pages.len
  long = length-take-le pages.len (recovered sum pages.physical_page_size (content calls)) stand.shown

  live_long : (live : List ℕ) → IsLive (file_of calls) live → pages.len ≤ length (recovered sum pages.physical_page_size live)
  live_long live found =
      let same = ap length (stand.found live found) in
      omega (arith, same, long, length-take pages.len (recovered sum pages.physical_page_size live))

  module _ (footer : 12 < pages.physical_page_size) (page : ℕ) (whole : (page + 1) * content_size pages.physical_page_size ≤ pages.len) where
    pub live_whole : (live : List ℕ) → IsLive (file_of calls) live
        → (page + 1) * content_size pages.physical_page_size ≤ length (recovered sum pages.physical_page_size live)
    live_whole live found = omega (arith, whole, live_long live found)

    -- a page of it is there, whatever a read finds
    pub live_there : (live : List ℕ) → IsLive (file_of calls) live → (page + 1) * pages.physical_page_size ≤ length live
    live_there live found = whole_there sum pages.physical_page_size footer live page (live_whole live found)

    -- and has its content
    pub live_page : (live : List ℕ) → IsLive (file_of calls) live
        → page_at (content_size pages.physical_page_size) page (recovered sum pages.physical_page_size live)
        ≡ page_at (content_size pages.physical_page_size) page (on_blob sum calls pages)
    live_page live found =
        let room = content_size pages.physical_page_size in
        sym (page_of_front room page pages.len (recovered sum pages.physical_page_size live) whole) ∙ ap (page_at room page) (stand.found live found)

    -- why a read of it may be refused
    pub standing_cause : (failures : Failures) (error : Error)
        → IsReadCause failures (file_of calls) (page * pages.physical_page_size) pages.physical_page_size error
        → IsCause failures Read ((page + 1) * pages.physical_page_size) error
    standing_cause failures (Injected injected) cause = cause
    standing_cause failures BlobMissing cause = cause
    standing_cause failures BlobInsufficientLength cause =
        let there = live_there cause.live cause.found in
        omega (arith, cause.short, there)
    standing_cause failures NumberEnded (inl past) = inl (omega (arith, past))
    standing_cause failures NumberEnded (inr ended) = inr ended
    standing_cause failures Memory cause = tt
    standing_cause failures PowerCut cause = tt
    standing_cause failures ChecksumMismatch cause = absurd cause

-- What each image keeps stands: so many first bytes of a list, of which more are durable.
module _ (sum : List ℕ → ℕ) (calls : List Call) (list : List ℕ) (synced : ℕ) (pages : FlushedPages)
    (keeps : Keeps sum pages.physical_page_size list synced calls) (durable : pages.len ≤ synced) (within : pages.len ≤ length list) where
  image_front : (image : List ℕ) → IsImage (file_of calls) image
      → take pages.len (recovered sum pages.physical_page_size image) ≡ take pages.len list
  image_front image is =
      let shown = recovered sum pages.physical_page_size image in
      sym (take-take pages.len synced shown durable) ∙ ap (take pages.len) (keeps image is).keeps ∙ take-take pages.len synced list durable

  live_front : (live : List ℕ) → IsLive (file_of calls) live
      → take pages.len (recovered sum pages.physical_page_size live) ≡ take pages.len list
  live_front live found = image_front live (reached_image (file_of calls) live found.reached)

  pub front_is : on_blob sum calls pages ≡ take pages.len list
  front_is = live_front (content calls) (whole_live (file_of calls))

  pub stands : pages.len % content_size pages.physical_page_size ≡ 0
      → pages.len / content_size pages.physical_page_size * pages.physical_page_size < 2 ^ 64 → Stand sum calls pages
  stands whole numbers =
      let here = ap length front_is in
      let most = length-take-le pages.len list within in
      record {
        whole = whole;
        shown = omega (arith, here, most, length-take pages.len (recovered sum pages.physical_page_size (content calls)));
        found = λ live found. live_front live found ∙ sym front_is;
        numbers = numbers;
      }

-- A sealed list stays through the calls of a writer that leave as much durable.
pub sealed_stays : (sum : List ℕ → ℕ) (old new : List Call) (list more : List ℕ) (synced : ℕ) (pages : FlushedPages) (tail : List ℕ)
    → IsSealed sum old list pages tail → pages.len ≤ synced
    → Through (Keeps sum pages.physical_page_size (list ++ more) synced) old new → IsSealed sum new list pages tail
sealed_stays sum old new list more synced pages tail sealed durable moments =
    let before = long sum old pages sealed.stand in
    let all = ap length sealed.is in
    let reach : pages.len ≤ length list = omega (arith, before, all, length-append (on_blob sum old pages) tail) in
    let later : pages.len ≤ length (list ++ more) = omega (arith, reach, length-append list more) in
    let keeps = at_end moments in
    let front : take pages.len list ≡ on_blob sum old pages =
    ap (take pages.len) (sym sealed.is) ∙ take_at (on_blob sum old pages) tail pages.len before in
    let same : on_blob sum new pages ≡ on_blob sum old pages =
    front_is sum new (list ++ more) synced pages keeps durable later ∙ take-append-le pages.len list more reach ∙ front in
    record {
      stand = stands sum new (list ++ more) synced pages keeps durable later sealed.stand.whole sealed.stand.numbers;
      is = ap (λ l. l ++ tail) same ∙ sealed.is;
    }
