use Rattle.std.proofs.Common.{rules, ◌≡◌, ◌≤◌, ◌<◌, ℕ, List, OnOk, length, take, drop, sym, subst}
use Rattle.paged_format.specs.Pages.{recovered}
use Rattle.paged_blob_parts.specs.Calls.{content}
use Rattle.paged_blob_parts.specs.CachedContent.{KeepsOthers}
use Rattle.paged_blob_parts.specs.declared.read.FlushedPages.{FlushedPages}
use Rattle.paged_blob_parts.proofs.WriterReads.{tip_shown, readable_of, kept_asked, kept_left}
use Rattle.paged_blob.proofs.writer.Writer.read_into.Goals as goal

pub read_into-requires-clause-shown : goal.read_into-requires-clause-shown
read_into-requires-clause-shown g c =
    let sum = g.C.Checksum.checksum_of in
    let calls = g.B.Blob.calls c.args.blob.now in
    let w = c.args.self.now in
    let some_room : 12 < w.page_size = search rules in
    let P : FlushedPages → Type 0 = λ p. p.len ≤ length (recovered sum p.physical_page_size (content calls)) in
    subst P (sym c.flushed_pages-pages.ensures) (tip_shown sum calls w some_room c.requires.writer)

pub read_into-requires-clause-kept : goal.read_into-requires-clause-kept
read_into-requires-clause-kept g c =
    let w = c.args.self.now in
    let tip_is : c.as_bytes.result.now ≡ w.tip.bytes = search rules in
    kept_asked g.C.Checksum.checksum_of (g.B.Blob.calls c.args.blob.now) w c.flushed_pages-pages.result c.as_bytes.result.now c.args.cache.now
    c.flushed_pages-pages.ensures tip_is c.requires.cached

pub returns-clause-bytes : goal.returns-clause-bytes
returns-clause-bytes g c =
    let w = c.args.self.now in
    let tip_is : c.as_bytes.result.now ≡ w.tip.bytes = search rules in
    let all = readable_of g.C.Checksum.checksum_of (g.B.Blob.calls c.args.blob.now) w c.flushed_pages-pages.result c.as_bytes.result.now
    c.flushed_pages-pages.ensures tip_is in
    subst (λ (l : List ℕ). OnOk c.read_into.result (c.read_into.new.out ≡ take (length c.args.out.now) (drop c.args.offset l))) all
    c.read_into.ensures.bytes

pub returns-clause-cached : goal.returns-clause-cached
returns-clause-cached g c =
    let w = c.args.self.now in
    let tip_is : c.as_bytes.result.now ≡ w.tip.bytes = search rules in
    kept_left g.C.Checksum.checksum_of (g.B.Blob.calls c.args.blob.now) w c.flushed_pages-pages.result c.as_bytes.result.now c.read_into.new.cache
    c.flushed_pages-pages.ensures tip_is c.read_into.ensures.kept

pub returns-clause-others : goal.returns-clause-others
returns-clause-others g c =
    subst (λ (p : FlushedPages). KeepsOthers c.args.cache.now c.read_into.new.cache p.blob_id) c.flushed_pages-pages.ensures c.read_into.ensures.others
