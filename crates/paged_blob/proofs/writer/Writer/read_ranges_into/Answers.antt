use Rattle.std.proofs.Common.{rules, ◌≡◌, ◌<◌, ℕ, List, OnOk, sym, subst}
use Rattle.paged_blob_parts.specs.Stands.{Stand, on_blob, listed, pages_of}
use Rattle.paged_blob_parts.specs.Served.{slices}
use Rattle.paged_blob_parts.specs.Reads.{ServesPages, StaysKept}
use Rattle.paged_blob_parts.specs.CachedContent.{KeepsOthers}
use Rattle.paged_blob_parts.specs.declared.read.FlushedPages.{FlushedPages}
use Rattle.paged_blob_parts.proofs.WriterViews.{writer_stands, writer_serves, writer_kept, listed_is}
use Rattle.paged_blob.proofs.writer.Writer.read_ranges_into.Goals as goal

pub read_ranges_into-requires-clause-stand : goal.read_ranges_into-requires-clause-stand
read_ranges_into-requires-clause-stand g c =
    let sum = g.C.Checksum.checksum_of in
    let calls = g.B.Blob.calls c.args.blob.now in
    let w = c.args.self.now in
    let some_room : 12 < w.page_size = search rules in
    subst (λ (p : FlushedPages). Stand sum calls p) (sym c.view.ensures.pages) (writer_stands sum calls w some_room c.requires.writer)

pub read_ranges_into-requires-clause-cached : goal.read_ranges_into-requires-clause-cached
read_ranges_into-requires-clause-cached g c =
    let sum = g.C.Checksum.checksum_of in
    let calls = g.B.Blob.calls c.args.blob.now in
    let w = c.args.self.now in
    let some_room : 12 < w.page_size = search rules in
    let serves = writer_serves sum calls w some_room c.requires.writer c.args.cache.now c.requires.pages c.requires.cached in
    subst (λ (p : FlushedPages). ServesPages (on_blob sum calls p) c.args.cache.now p.blob_id) (sym c.view.ensures.pages) serves.kept

pub returns-clause-bytes : goal.returns-clause-bytes
returns-clause-bytes g c =
    let sum = g.C.Checksum.checksum_of in
    let calls = g.B.Blob.calls c.args.blob.now in
    let w = c.args.self.now in
    let P : FlushedPages → List ℕ → Type 0 = λ p tail. OnOk c.read_ranges_into.result
    (c.read_ranges_into.new.out ≡ slices (listed sum calls p tail) c.args.ranges.now) in
    let made : P (pages_of w) c.view.result.tail.now = subst (λ (p : FlushedPages). P p c.view.result.tail.now)
    c.view.ensures.pages c.read_ranges_into.ensures.bytes in
    let whole : P (pages_of w) w.tip.bytes = subst (λ (l : List ℕ). P (pages_of w) l) c.view.ensures.tail made in
    subst (λ (l : List ℕ). OnOk c.read_ranges_into.result (c.read_ranges_into.new.out ≡ slices l c.args.ranges.now)) (listed_is sum calls w) whole

pub returns-clause-cached : goal.returns-clause-cached
returns-clause-cached g c =
    let sum = g.C.Checksum.checksum_of in
    let calls = g.B.Blob.calls c.args.blob.now in
    let w = c.args.self.now in
    let some_room : 12 < w.page_size = search rules in
    let stays = subst (λ (p : FlushedPages). StaysKept (on_blob sum calls p) c.args.cache.now c.read_ranges_into.new.cache p.blob_id) c.view.ensures.pages
    c.read_ranges_into.ensures.cached in
    writer_kept sum calls w some_room c.requires.writer c.args.cache.now c.read_ranges_into.new.cache c.requires.cached stays

pub returns-clause-others : goal.returns-clause-others
returns-clause-others g c =
    subst (λ (p : FlushedPages). KeepsOthers c.args.cache.now c.read_ranges_into.new.cache p.blob_id) c.view.ensures.pages c.read_ranges_into.ensures.others
