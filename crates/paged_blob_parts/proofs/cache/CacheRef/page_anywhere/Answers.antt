use Rattle.std.proofs.Common.{rules, ◌≡◌, ◌<◌, ℕ, List, false, length, get_or, Contains, subst, ap, arith}
use Rattle.paged_blob_parts.specs.Caches.{Page}
use Rattle.paged_blob_parts.specs.CachesCode.{is_at, pages_of}
use Rattle.paged_blob_parts.specs.declared.cache.CachedPage.{CachedPage}
use Rattle.paged_blob_parts.proofs.Kept.{none_at}
use Rattle.paged_blob_parts.proofs.cache.CacheRef.page_anywhere.Goals as goal

pub returns-clause-none : goal.returns-clause-none
returns-clause-none c = λ nothing.
    let items = c.self.inside.pages.items in
    let shown = c.deref-kept-items.result.now in
    let long : length shown ≡ length items = ap length c.deref-kept-items.ensures.value in
    let off : (k : ℕ) (d : CachedPage) → k < length items → is_at c.args.blob_id c.args.number (get_or items k d) ≡ false = λ k d below.
    let P : List CachedPage → Type 0 = λ l. is_at c.args.blob_id c.args.number (get_or l k d) ≡ false in
    subst P c.deref-kept-items.ensures.value (c.loop-kept.invariant k d (omega (arith, below, long, c.loop-kept-test.false))) in
    let is : c.args.self.now.pages ≡ pages_of items = search rules in
    λ page within.
    let P : List Page → Type 0 = λ l. Contains l page in
    none_at c.args.blob_id c.args.number items off page (subst P is within)
