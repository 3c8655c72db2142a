-- The pages of a file over which pages are laid.
use Rattle.std.proofs.Common.{◌≡◌, ℕ, ◌+◌, ◌-◌, ◌*◌, ◌<◌, ◌≤◌, min, max, List, length, get_or, drop, sym, ◌∙◌, ap, arith}
use Rattle.std.proofs.lemmas.List.{length-take, length-drop, get_or-take, get_or-drop, ext_get_or}
use Rattle.std.proofs.lemmas.Nat.{mul-le}
use Rattle.paged_blob_parts.specs.Calls.{with_bytes}
use Rattle.paged_blob_parts.specs.Chance.{page_at}
use Rattle.paged_blob_parts.proofs.Bytes.{length-with_bytes, with_bytes_in, with_bytes_before, with_bytes_behind}

pub page_byte : (size page : ℕ) (file : List ℕ) (i : ℕ) → i < size → get_or (page_at size page file) i 0 ≡ get_or file (page * size + i) 0
page_byte size page file i below = get_or-take size (drop (page * size) file) i 0 below ∙ get_or-drop (page * size) file i 0

pub length-page_at : (size page : ℕ) (file : List ℕ) → length (page_at size page file) ≡ min size (length file - page * size)
length-page_at size page file = length-take size (drop (page * size) file) ∙ ap (min size) (length-drop (page * size) file)

-- pages as long with the same bytes are the same
same_page : (size page there : ℕ) (file shown : List ℕ) → min size (length file - page * size) ≡ min size (length shown - there * size)
    → ((i : ℕ) → i < size → i < length file - page * size → get_or file (page * size + i) 0 ≡ get_or shown (there * size + i) 0)
    → page_at size page file ≡ page_at size there shown
same_page size page there file shown long same =
    let here = length-page_at size page file in
    ext_get_or 0 (page_at size page file) (page_at size there shown) (here ∙ long ∙ sym (length-page_at size there shown))
    (λ i below.
    let short : i < size = omega (arith, below, here) in
    page_byte size page file i short ∙ same i short (omega (arith, below, here)) ∙ sym (page_byte size there shown i short))

-- a page before another ends where that begins, or before
pub pages_apart : (size page later : ℕ) → page < later → (page + 1) * size ≤ later * size
pages_apart size page later before = mul-le (page + 1) size later size (omega (arith, before)) (omega arith)

module _ (size first : ℕ) (pages file : List ℕ) (reach : first * size ≤ length file) where
  pub new_length : length (with_bytes (first * size) pages file) ≡ max (length file) (first * size + length pages)
  new_length = length-with_bytes (first * size) pages file

  -- pages before those that are laid stay
  pub page_before : (page : ℕ) → page < first → page_at size page (with_bytes (first * size) pages file) ≡ page_at size page file
  page_before page before =
      let apart = pages_apart size page first before in
      same_page size page page (with_bytes (first * size) pages file) file (omega (arith, new_length, apart, reach))
      (λ i short below. with_bytes_before (first * size) pages file (page * size + i) (omega (arith, short, apart)))

  -- these are laid
  pub page_laid : (page : ℕ) → (page + 1) * size ≤ length pages
      → page_at size (first + page) (with_bytes (first * size) pages file) ≡ page_at size page pages
  page_laid page within =
      let place : (first + page) * size ≡ first * size + page * size = omega arith in
      same_page size (first + page) page (with_bytes (first * size) pages file) pages (omega (arith, new_length, place, within))
      (λ i short below.
      with_bytes_in (first * size) pages file ((first + page) * size + i) (omega (arith, place)) (omega (arith, place, short, within))
      ∙ ap (λ n. get_or pages n 0) (omega (arith, place)))

  -- and those behind stay
  pub page_behind : (page : ℕ) → first * size + length pages ≤ page * size
      → page_at size page (with_bytes (first * size) pages file) ≡ page_at size page file
  page_behind page past =
      same_page size page page (with_bytes (first * size) pages file) file (omega (arith, new_length, past))
      (λ i short below. with_bytes_behind (first * size) pages file (page * size + i) (omega (arith, past)))
