use Rattle.std.proofs.Common.{◌≡◌, ◌<◌, ℕ, false, get_or}
use Rattle.paged_blob_parts.specs.CachesCode.{is_at}
use Rattle.paged_blob_parts.specs.declared.cache.CachedPage.{CachedPage}
use Rattle.paged_blob_parts.proofs.cache.CacheRef.page_anywhere.Given as goal

abbrev pub invariant-loop-kept : goal.invariant-loop-kept
invariant-loop-kept l = (k : ℕ) (d : CachedPage) → k < l.kept-index → is_at l.blob_id l.number (get_or l.kept-items k d) ≡ false
