-- Pages that are kept in memory.
use Rattle.std.specs.Prelude.{◌≡◌, ◌⊎◌, ℕ, ◌+◌, ◌<◌, List, Contains}
use Rattle.paged_blob_parts.specs.Chance.{page_at}

-- the content of a page, with the blob that it is of and its number there
pub record Page : Type 0 where
  pub blob_id : ℕ
  pub number : ℕ
  pub bytes : List ℕ

-- the pages that are kept, of so many bytes each and at most so many, and the name that is given next
pub record Cache : Type 0 where
  pub page_size : ℕ
  pub capacity : ℕ
  pub next_id : ℕ
  pub pages : List Page

-- a page of another blob or of another number
abbrev pub IsElsewhere : ℕ → ℕ → Page → Type 0
IsElsewhere blob_id number page = (page.blob_id ≡ blob_id) × (page.number ≡ number) → ⊥

-- every page that is kept was there before
pub record Loses (old new : List Page) : Type 0 where
  pub each : (page : Page) → Contains new page → Contains old page

-- every page that is kept was there before, elsewhere
pub record Forgets (old new : List Page) (blob_id number : ℕ) : Type 0 where
  pub each : (page : Page) → Contains new page → Contains old page × IsElsewhere blob_id number page

-- every page that is kept was there before, or is this one
pub record Adds (old new : List Page) (given : Page) : Type 0 where
  pub each : (page : Page) → Contains new page → (page ≡ given) ⊎ Contains old page

-- every page that is kept is this one, or was there before, elsewhere
pub record IsGivenOne (old new : List Page) (given : Page) : Type 0 where
  pub each : (page : Page) → Contains new page → (page ≡ given)
      ⊎ (Contains old page × IsElsewhere given.blob_id given.number page)

-- a page of these bytes, of which the first is given this number
abbrev pub page_given : ℕ → ℕ → ℕ → List ℕ → ℕ → Page
page_given blob_id first size bytes k = record { blob_id = blob_id; number = first + k; bytes = page_at size k bytes }

-- every page that is kept is one of the first so many of these bytes, or was there before, elsewhere
pub record AreGiven (old new : List Page) (blob_id first size : ℕ) (bytes : List ℕ) (count : ℕ) : Type 0 where
  pub each : (page : Page) → Contains new page
      → ((k : ℕ) × (k < count) × (page ≡ page_given blob_id first size bytes k))
      ⊎ (Contains old page × ((k : ℕ) → k < count
      → IsElsewhere blob_id (first + k) page))
