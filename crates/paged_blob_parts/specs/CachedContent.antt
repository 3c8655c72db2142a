-- Pages that are kept in memory against the content of their blob.
use Rattle.std.specs.Prelude.{◌≡◌, ℕ, ◌+◌, ◌*◌, ◌≤◌, List, length, Contains}
use Rattle.paged_blob_parts.specs.Caches.{Cache, Page}
use Rattle.paged_blob_parts.specs.Chance.{page_at}

-- each page that is kept under a blob's name is that page of the content, whole
pub record HoldsPagesOf (content : List ℕ) (cache : Cache) (blob_id : ℕ) : Type 0 where
  pub each : (page : Page) → Contains cache.pages page → page.blob_id ≡ blob_id
      → ((page.number + 1) * cache.page_size ≤ length content)
      × (page.bytes ≡ page_at cache.page_size page.number content)

-- each page that is kept under another name was kept before
pub record KeepsOthers (old new : Cache) (blob_id : ℕ) : Type 0 where
  pub each : (page : Page) → Contains new.pages page → (page.blob_id ≡ blob_id → ⊥) → Contains old.pages page
