-- How the code keeps them.
use Rattle.std.specs.Prelude.{ℕ, Bool, ◌==◌, ◌&&◌, List, map}
use Rattle.paged_blob_parts.specs.Caches.{Page}
use Rattle.paged_blob_parts.specs.declared.cache.CachedPage.{CachedPage}

abbrev pub page_of : CachedPage → Page
page_of kept = record { blob_id = kept.blob_id; number = kept.number; bytes = kept.bytes.items }

abbrev pub pages_of : List CachedPage → List Page
pages_of kept = map page_of kept

-- whether a page that is kept is the one of this blob and number
abbrev pub is_at : ℕ → ℕ → CachedPage → Bool
is_at blob_id number kept = (kept.blob_id == blob_id) && (kept.number == number)
