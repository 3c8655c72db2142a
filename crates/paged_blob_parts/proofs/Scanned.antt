-- What is recovered of a file, some pages at a time.
use Rattle.std.proofs.Common.{◌≡◌, ◌⊎◌, ℕ, zero, suc, ◌+◌, ◌-◌, ◌*◌, ◌/◌, ◌<◌}
use Rattle.std.proofs.Common.{◌≤◌, IsFalse, List, length, take, drop, sym, ◌∙◌, ap, inl, inr, ⊎_elim, arith}
use Rattle.std.proofs.lemmas.Bool.{cases_lt}
use Rattle.std.proofs.lemmas.List.{take-take, drop-take, drop-drop, length-take, length-take-le, length-drop}
use Rattle.std.proofs.Math.Nat.{le-div_iff_mul-le}
use Rattle.paged_format.specs.Footers.{content_size}
use Rattle.paged_format.specs.Pages.{shown_len, recovered}
use Rattle.paged_format.specs.Laws.Pages.{shown_within, length_recovered-whole, length_recovered-partial, length_recovered-none}
use Rattle.paged_blob_parts.specs.Calls.{Call, content, file_of}
use Rattle.paged_blob_parts.specs.Answers.{IsSlice}

module _ (sum : List ℕ → ℕ) (size : ℕ) (footer : 12 < size) where
  abbrev len_of : List ℕ → ℕ
  len_of bytes = length (recovered sum size bytes)

  -- the first page is whole, and it goes on; or not, and what is recovered is within it
  pub first_page : (bytes : List ℕ) → size ≤ length bytes
      → ((shown_len sum size (take size bytes) ≡ content_size size)
      × (length (recovered sum size bytes) ≡ content_size size + length (recovered sum size (drop size bytes))))
      ⊎ ((shown_len sum size (take size bytes) < content_size size) × (length (recovered sum size bytes) ≡ shown_len sum size (take size bytes)))
  first_page bytes long =
      let v = shown_len sum size (take size bytes) in
      let most = shown_within sum size (take size bytes) in
      ⊎_elim
      (λ less. inr (less, length_recovered-partial sum size bytes (omega (arith, footer)) long less))
      (λ more. let is : v ≡ content_size size = omega (arith, most, more) in inl (is, length_recovered-whole sum size bytes (omega (arith, footer)) long is))
      (cases_lt v (content_size size))

  -- so many pages are whole, and it goes on behind them
  pub record GoesOn (count : ℕ) (bytes : List ℕ) : Type 0 where
    pub there : count * size ≤ length bytes
    pub front : length (recovered sum size (take (count * size) bytes)) ≡ count * content_size size
    pub whole : length (recovered sum size bytes) ≡ count * content_size size + length (recovered sum size (drop (count * size) bytes))

  -- or what is recovered ends among them
  pub record EndsIn (count : ℕ) (bytes : List ℕ) : Type 0 where
    pub front : length (recovered sum size (take (count * size) bytes)) < count * content_size size
    pub whole : length (recovered sum size bytes) ≡ length (recovered sum size (take (count * size) bytes))

  none : (bytes : List ℕ) → GoesOn 0 bytes
  none bytes =
      let zero_size : 0 * size ≡ 0 = omega arith in
      let no_content : 0 * content_size size ≡ 0 = omega arith in
      let empty : length (take (0 * size) bytes) ≤ 0 * size = omega (arith, length-take (0 * size) bytes) in
      record {
        there = omega (arith, zero_size);
        front = length_recovered-none sum size (take (0 * size) bytes) (omega (arith, empty, zero_size, footer)) ∙ sym no_content;
        whole = omega (arith, no_content, ap (λ n. length (recovered sum size (drop n bytes))) zero_size);
      }

  next_drop : (count : ℕ) (bytes : List ℕ) → drop (count * size) (drop size bytes) ≡ drop (suc count * size) bytes
  next_drop count bytes = drop-drop (count * size) size bytes ∙ ap (λ n. drop n bytes) (omega arith)

  next_take : (count : ℕ) (bytes : List ℕ) → drop size (take (suc count * size) bytes) ≡ take (count * size) (drop size bytes)
  next_take count bytes =
      let is : suc count * size ≡ size + count * size = omega arith in
      ap (λ n. drop size (take n bytes)) is ∙ drop-take size (count * size) bytes

  same_first : (count : ℕ) (bytes : List ℕ) → take size (take (suc count * size) bytes) ≡ take size bytes
  same_first count bytes = take-take size (suc count * size) bytes (omega arith)

  front_first : (count : ℕ) (bytes : List ℕ) → suc count * size ≤ length bytes → length (take (suc count * size) bytes) ≡ suc count * size
  front_first count bytes there = length-take-le (suc count * size) bytes there

  -- of so many pages that are there, all are whole, or it ends among them
  pub batch : (count : ℕ) (bytes : List ℕ) → count * size ≤ length bytes → GoesOn count bytes ⊎ EndsIn count bytes
  batch zero bytes there = inl (none bytes)
  batch (suc count) bytes there =
      let front = take (suc count * size) bytes in
      let long : length front ≡ suc count * size = front_first count bytes there in
      let same = ap (shown_len sum size) (same_first count bytes) in
      let rest : length (recovered sum size (drop size front)) ≡ length (recovered sum size (take (count * size) (drop size bytes))) =
      ap len_of (next_take count bytes) in
      let behind : length (recovered sum size (drop (count * size) (drop size bytes))) ≡ length (recovered sum size (drop (suc count * size) bytes)) =
      ap len_of (next_drop count bytes) in
      ⊎_elim
      (λ (full, goes). ⊎_elim
      (λ (_, more). ⊎_elim
      (λ g. inl (record { there = there; front = omega (arith, more, rest, g.front); whole = omega (arith, goes, g.whole, behind) }))
      (λ e. inr (record { front = omega (arith, more, rest, e.front); whole = omega (arith, goes, e.whole, more, rest) }))
      (batch count (drop size bytes) (omega (arith, there, length-drop size bytes))))
      (λ (less, _). absurd (omega (arith, less, same, full)))
      (first_page front (omega (arith, long))))
      (λ (less, ends). ⊎_elim
      (λ (full, _). absurd (omega (arith, less, same, full)))
      (λ (_, few). inr (record { front = omega (arith, few, same, less); whole = omega (arith, ends, few, same) }))
      (first_page front (omega (arith, long))))
      (first_page bytes (omega (arith, there)))

  -- where so many pages of content are recovered, they are there, each whole
  pub proven_pages : (count : ℕ) (bytes : List ℕ) → count * content_size size ≤ length (recovered sum size bytes) → GoesOn count bytes
  proven_pages zero bytes some = none bytes
  proven_pages (suc count) bytes some =
      ⊎_elim
      (λ short. absurd (omega (arith, length_recovered-none sum size bytes short, some, footer)))
      (λ long. ⊎_elim
      (λ (full, goes).
      let g = proven_pages count (drop size bytes) (omega (arith, goes, some)) in
      let there : suc count * size ≤ length bytes = omega (arith, g.there, length-drop size bytes, long) in
      ⊎_elim
      (λ on. on)
      (λ ends. absurd (omega (arith, ends.front, ends.whole, some)))
      (batch (suc count) bytes there))
      (λ (less, ends). absurd (omega (arith, less, ends, some)))
      (first_page bytes long))
      (cases_lt (length bytes) size)

  short_within : (fuel : ℕ) (bytes : List ℕ) → length bytes ≤ fuel → length (recovered sum size bytes) ≤ length bytes
  short_within zero bytes few = omega (arith, length_recovered-none sum size bytes (omega (arith, few, footer)))
  short_within (suc fuel) bytes few =
      ⊎_elim
      (λ short. omega (arith, length_recovered-none sum size bytes short))
      (λ long. ⊎_elim
      (λ (full, goes).
      let cut = length-drop size bytes in
      let rest = short_within fuel (drop size bytes) (omega (arith, cut, few, long, footer)) in
      omega (arith, goes, rest, cut, long))
      (λ (less, ends). omega (arith, less, ends, long))
      (first_page bytes long))
      (cases_lt (length bytes) size)

  -- no more is recovered than there is
  pub recovered_short : (bytes : List ℕ) → length (recovered sum size bytes) ≤ length bytes
  recovered_short bytes = short_within (length bytes) bytes (omega arith)

-- so many pages, each no longer than the physical one, end within the blob
pub pages_end : (page count pages size blob_size : ℕ) → 0 < size → page + count ≤ pages → pages ≡ blob_size / size
    → (page + count) * size ≤ blob_size
pages_end page count pages size blob_size some within is =
    (le-div_iff_mul-le {k = size} {x = page + count} {y = blob_size} some).0 (omega (arith, within, is))

-- where nothing has failed, what is read is a slice of the content
pub sliced : (calls : List Call) (offset count : ℕ) (bytes : List ℕ) → IsFalse (file_of calls).failed → IsSlice (file_of calls) offset count bytes
    → (offset + count ≤ length (content calls)) × (bytes ≡ take count (drop offset (content calls)))
sliced calls offset count bytes sound s =
    let is : s.live ≡ content calls = s.found.content sound in
    (omega (arith, s.within, ap length is), s.slice ∙ ap (λ live. take count (drop offset live)) is)

module _ (sum : List ℕ → ℕ) (size : ℕ) (footer : 12 < size) (live : List ℕ) (blob_size : ℕ) where
  abbrev from : ℕ → List ℕ
  from page = drop (page * size) (take blob_size live)

  from_more : (page count : ℕ) → drop (count * size) (from page) ≡ from (page + count)
  from_more page count = drop-drop (count * size) (page * size) (take blob_size live) ∙ ap (λ n. drop n (take blob_size live)) (omega arith)

  -- what is read next
  front_read : (page count : ℕ) → (page + count) * size ≤ blob_size → take (count * size) (from page) ≡ take (count * size) (drop (page * size) live)
  front_read page count within =
      let rest = blob_size - page * size in
      let is : blob_size ≡ page * size + rest = omega (arith, within) in
      ap (λ n. take (count * size) (drop (page * size) (take n live))) is ∙ ap (take (count * size)) (drop-take (page * size) rest live)
      ∙ take-take (count * size) rest (drop (page * size) live) (omega (arith, within))

  read_long : (page count : ℕ) → (page + count) * size ≤ blob_size → page * size + count * size ≤ length live → count * size ≤ length (from page)
  read_long page count within long = omega (arith, within, long, length-drop (page * size) (take blob_size live), length-take blob_size live)

  read_next : (page count shown : ℕ) (bytes : List ℕ) → (page + count) * size ≤ blob_size → page * size + count * size ≤ length live
      → bytes ≡ take (count * size) (drop (page * size) live) → shown ≡ length (recovered sum size bytes)
      → shown ≡ length (recovered sum size (take (count * size) (from page)))
  read_next page count shown bytes within long is shows = shows ∙ ap (λ b. length (recovered sum size b)) (is ∙ sym (front_read page count within))

  -- where the pages that were read are not all whole, what is recovered ends among them
  pub ends_here : (page count shown : ℕ) (bytes : List ℕ) → (page + count) * size ≤ blob_size → page * size + count * size ≤ length live
      → bytes ≡ take (count * size) (drop (page * size) live) → shown ≡ length (recovered sum size bytes) → shown < count * content_size size
      → length (recovered sum size (take blob_size live)) ≡ page * content_size size + length (recovered sum size (from page))
      → length (recovered sum size (take blob_size live)) ≡ page * content_size size + shown
  ends_here page count shown bytes within long is shows less known =
      let e = read_next page count shown bytes within long is shows in
      ⊎_elim
      (λ g. absurd (omega (arith, g.front, e, less)))
      (λ ends. omega (arith, known, ends.whole, e))
      (batch sum size footer count (from page) (read_long page count within long))

  -- else it goes on
  pub goes_further : (page count shown : ℕ) (bytes : List ℕ) → (page + count) * size ≤ blob_size → page * size + count * size ≤ length live
      → bytes ≡ take (count * size) (drop (page * size) live) → shown ≡ length (recovered sum size bytes) → count * content_size size ≤ shown
      → length (recovered sum size (take blob_size live)) ≡ page * content_size size + length (recovered sum size (from page))
      → length (recovered sum size (take blob_size live)) ≡ (page + count) * content_size size + length (recovered sum size (from (page + count)))
  goes_further page count shown bytes within long is shows more known =
      let e = read_next page count shown bytes within long is shows in
      ⊎_elim
      (λ g. omega (arith, known, g.whole, ap (λ b. length (recovered sum size b)) (from_more page count)))
      (λ ends. absurd (omega (arith, ends.front, e, more)))
      (batch sum size footer count (from page) (read_long page count within long))

  -- the whole pages of what is proven are passed
  pub start_known : (page proven : ℕ) → page * content_size size ≤ proven → proven ≤ length (recovered sum size (take blob_size live))
      → length (recovered sum size (take blob_size live)) ≡ page * content_size size + length (recovered sum size (from page))
  start_known page proven few some = (proven_pages sum size footer page (take blob_size live) (omega (arith, few, some))).whole

  -- where no page is left, all is known
  pub all_known : (page : ℕ) → blob_size / size ≤ page
      → length (recovered sum size (take blob_size live)) ≡ page * content_size size + length (recovered sum size (from page))
      → length (recovered sum size (take blob_size live)) ≡ page * content_size size
  all_known page last known =
      let over : blob_size < (page + 1) * size = ⊎_elim
      (λ less. less)
      (λ more. let in_it = (le-div_iff_mul-le {k = size} {x = page + 1} {y = blob_size} (omega (arith, footer))).1 more in absurd (omega (arith, in_it, last)))
      (cases_lt blob_size ((page + 1) * size)) in
      let short : length (from page) < size = omega (arith, over, length-drop (page * size) (take blob_size live), length-take blob_size live, footer) in
      omega (arith, known, length_recovered-none sum size (from page) short)
