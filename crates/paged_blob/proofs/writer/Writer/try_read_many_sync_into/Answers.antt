use Rattle.std.proofs.Common.{rules, ◌<◌, ◌++◌, ℕ, List, IfOk, subst}
use Rattle.paged_blob_parts.specs.Stands.{on_blob, pages_of}
use Rattle.paged_blob_parts.specs.Served.{Serves, AreServed, items_of}
use Rattle.paged_blob_parts.specs.declared.read.FlushedPages.{FlushedPages}
use Rattle.paged_blob_parts.proofs.WriterViews.{writer_serves, listed_is}
use Rattle.paged_blob.proofs.writer.Writer.try_read_many_sync_into.Goals as goal

pub returns-clause-served : goal.returns-clause-served
returns-clause-served g c = λ calls writer sizes holds.
    let sum = g.C.Checksum.checksum_of in
    let w = c.args.self.now in
    let some_room : 12 < w.page_size = search rules in
    let front = on_blob sum calls (pages_of w) in
    let serves = writer_serves sum calls w some_room writer c.args.cache.now sizes holds in
    let P : FlushedPages → List ℕ → Type 0 = λ p tail. Serves front c.args.cache.now p → IfOk c.try_read_many_sync_into.result
    (λ missing. AreServed c.args.cache.now p (front ++ tail) 0 (items_of c.args.item_size c.args.offsets.now)
    c.try_read_many_sync_into.new.out missing.items) in
    let made : P (pages_of w) c.view.result.tail.now =
    subst (λ (p : FlushedPages). P p c.view.result.tail.now) c.view.ensures.pages (c.try_read_many_sync_into.ensures.served front) in
    let whole = subst (λ (l : List ℕ). P (pages_of w) l) c.view.ensures.tail made serves in
    subst (λ (l : List ℕ). IfOk c.try_read_many_sync_into.result
    (λ missing. AreServed c.args.cache.now (pages_of w) l 0 (items_of c.args.item_size c.args.offsets.now)
    c.try_read_many_sync_into.new.out missing.items)) (listed_is sum calls w) whole
