use Rattle.std.proofs.Common.{rules, ◌<◌, ◌+◌, ◌++◌, ◌↔◌, ℕ, List, IsTrue, length, take, drop, ap, sym, subst, ◌∙◌}
use Rattle.paged_blob_parts.specs.Stands.{on_blob, pages_of}
use Rattle.paged_blob_parts.specs.Served.{Serves, IsServed}
use Rattle.paged_blob_parts.specs.declared.read.FlushedPages.{FlushedPages}
use Rattle.paged_blob_parts.proofs.WriterViews.{writer_serves, listed_is}
use Rattle.paged_blob.proofs.writer.Writer.try_read_sync_into.Goals as goal

pub returns-clause-served : goal.returns-clause-served
returns-clause-served g c = λ calls writer sizes holds.
    let sum = g.C.Checksum.checksum_of in
    let w = c.args.self.now in
    let some_room : 12 < w.page_size = search rules in
    let front = on_blob sum calls (pages_of w) in
    let serves = writer_serves sum calls w some_room writer c.args.cache.now sizes holds in
    let P : FlushedPages → List ℕ → Type 0 = λ p tail. Serves front c.args.cache.now p → (IsTrue c.try_read_sync_into.result
    ↔ IsServed c.args.cache.now p (p.len + length tail) c.args.offset (length c.args.out.now)) in
    let made : P (pages_of w) c.view.result.tail.now =
    subst (λ (p : FlushedPages). P p c.view.result.tail.now) c.view.ensures.pages (c.try_read_sync_into.ensures.served front) in
    subst (λ (l : List ℕ). P (pages_of w) l) c.view.ensures.tail made serves

pub returns-clause-bytes : goal.returns-clause-bytes
returns-clause-bytes g c = λ calls writer sizes holds yes.
    let sum = g.C.Checksum.checksum_of in
    let w = c.args.self.now in
    let some_room : 12 < w.page_size = search rules in
    let front = on_blob sum calls (pages_of w) in
    let serves = writer_serves sum calls w some_room writer c.args.cache.now sizes holds in
    let there = subst (λ (p : FlushedPages). Serves front c.args.cache.now p) (sym c.view.ensures.pages) serves in
    let n = length c.args.out.now in
    c.try_read_sync_into.ensures.bytes front there yes ∙ ap (λ l. take n (drop c.args.offset (front ++ l))) c.view.ensures.tail
    ∙ ap (λ l. take n (drop c.args.offset l)) (listed_is sum calls w)
