-- What a writer's reads ask for.
use Rattle.std.proofs.Common.{◌≡◌, ℕ, ◌<◌, ◌≤◌, List, refl, length, sym, ◌∙◌, ap, subst, arith}
use Rattle.std.proofs.lemmas.List.{length-take, length-take-le}
use Rattle.paged_format.specs.Pages.{recovered}
use Rattle.paged_blob_parts.specs.Calls.{Call, content}
use Rattle.paged_blob_parts.specs.Caches.{Cache}
use Rattle.paged_blob_parts.specs.CachedContent.{HoldsPagesOf}
use Rattle.paged_blob_parts.specs.Writers.{WriterState, written, IsWriter}
use Rattle.paged_blob_parts.specs.Reads.{readable}
use Rattle.paged_blob_parts.specs.declared.read.FlushedPages.{FlushedPages}
use Rattle.paged_blob_parts.proofs.WriterLaws.{on_disk}

module _ (sum : List ℕ → ℕ) (calls : List Call) (w : WriterState) where
  pub readable_is : readable sum w.page_size calls w.tip.offset w.tip.bytes ≡ written sum calls w
  unfolding written
  readable_is = refl

  module _ (some_room : 12 < w.page_size) (is : IsWriter sum calls w) where
    -- the content before the tip is on the blob
    pub tip_shown : w.tip.offset ≤ length (recovered sum w.page_size (content calls))
    tip_shown =
        let same = ap length (on_disk sum calls w some_room (written sum calls w) is) in
        let all = length-take-le w.tip.offset (written sum calls w) is.tip_within in
        omega (arith, same, all, length-take w.tip.offset (recovered sum w.page_size (content calls)))

  -- what a read asks of its pages and of the tip
  pub readable_of : (pages : FlushedPages) (tip : List ℕ) → pages ≡ record { physical_page_size = w.page_size; blob_id = w.blob_id; len = w.tip.offset }
      → tip ≡ w.tip.bytes → readable sum pages.physical_page_size calls pages.len tip ≡ written sum calls w
  readable_of pages tip made tip_is =
      ap (λ (p : FlushedPages). readable sum p.physical_page_size calls p.len tip) made
      ∙ ap (readable sum w.page_size calls w.tip.offset) tip_is ∙ readable_is

  -- the pages that are kept are those that it asks for
  pub kept_asked : (pages : FlushedPages) (tip : List ℕ) (cache : Cache)
      → pages ≡ record { physical_page_size = w.page_size; blob_id = w.blob_id; len = w.tip.offset }
      → tip ≡ w.tip.bytes → HoldsPagesOf (written sum calls w) cache w.blob_id
      → HoldsPagesOf (readable sum pages.physical_page_size calls pages.len tip) cache pages.blob_id
  kept_asked pages tip cache made tip_is holds =
      subst (λ id. HoldsPagesOf (readable sum pages.physical_page_size calls pages.len tip) cache id) (sym (ap (λ (p : FlushedPages). p.blob_id) made))
      (subst (λ l. HoldsPagesOf l cache w.blob_id) (sym (readable_of pages tip made tip_is)) holds)

  -- and those that it leaves
  pub kept_left : (pages : FlushedPages) (tip : List ℕ) (cache : Cache)
      → pages ≡ record { physical_page_size = w.page_size; blob_id = w.blob_id; len = w.tip.offset }
      → tip ≡ w.tip.bytes → HoldsPagesOf (readable sum pages.physical_page_size calls pages.len tip) cache pages.blob_id
      → HoldsPagesOf (written sum calls w) cache w.blob_id
  kept_left pages tip cache made tip_is holds =
      subst (λ l. HoldsPagesOf l cache w.blob_id) (readable_of pages tip made tip_is)
      (subst (λ id. HoldsPagesOf (readable sum pages.physical_page_size calls pages.len tip) cache id) (ap (λ (p : FlushedPages). p.blob_id) made) holds)
