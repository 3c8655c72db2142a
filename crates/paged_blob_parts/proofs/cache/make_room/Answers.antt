use Rattle.std.proofs.Common.{List, subst, sym, ap}
use Rattle.paged_blob_parts.specs.Caches.{Page, Loses}
use Rattle.paged_blob_parts.specs.CachesCode.{pages_of}
use Rattle.paged_blob_parts.proofs.Kept.{without_first}
use Rattle.paged_blob_parts.proofs.cache.make_room.Goals as goal

pub returns-then-len-capacity-clause-fewer : goal.returns-then-len-capacity-clause-fewer
returns-then-len-capacity-clause-fewer c =
    let old = c.args.pages.now.items in
    let P : List Page → Type 0 = λ pages. Loses (pages_of old) pages in
    subst P (ap pages_of (sym c.remove.ensures.items)) (without_first old)
