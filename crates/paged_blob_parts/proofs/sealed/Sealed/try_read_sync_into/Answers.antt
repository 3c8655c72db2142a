use Rattle.std.proofs.Common.{◌+◌, ◌↔◌, ℕ, List, IsTrue, length, subst}
use Rattle.paged_blob_parts.specs.Served.{Serves, IsServed}
use Rattle.paged_blob_parts.specs.declared.read.FlushedPages.{FlushedPages}
use Rattle.paged_blob_parts.proofs.sealed.Sealed.try_read_sync_into.Goals as goal

pub returns-clause-served : goal.returns-clause-served
returns-clause-served g c = λ front.
    let s = c.args.self.now in
    let P : FlushedPages → List ℕ → Type 0 = λ p tail. Serves front c.args.cache.now p → (IsTrue c.try_read_sync_into.result
    ↔ IsServed c.args.cache.now p (p.len + length tail) c.args.offset (length c.args.out.now)) in
    let made : P s.pages c.view.result.tail.now =
    subst (λ (p : FlushedPages). P p c.view.result.tail.now) c.view.ensures.pages (c.try_read_sync_into.ensures.served front) in
    subst (λ (l : List ℕ). P s.pages l) c.view.ensures.tail made
