-- Pages that are read with no writer.
use Rattle.std.proofs.Common.{◌≡◌, ℕ, ◌+◌, ◌-◌, ◌*◌, ◌/◌, ◌<◌}
use Rattle.std.proofs.Common.{◌≤◌, List, length, take, drop, sym, ◌∙◌, ap, ⊎_elim, arith}
use Rattle.std.proofs.lemmas.Bool.{cases_lt}
use Rattle.std.proofs.lemmas.List.{take_all, length-take-le, length-drop}
use Rattle.std.proofs.lemmas.Nat.{mul-le, div-add-mod', div_below, le-div, mod_below}
use Rattle.paged_format.specs.Footers.{content_size}
use Rattle.paged_format.specs.Pages.{shown_len, recovered}
use Rattle.paged_format.specs.Laws.Pages.{shown_within, length_recovered-none}
use Rattle.paged_blob_parts.specs.Chance.{page_at}
use Rattle.paged_blob_parts.specs.Flushes.{page_count, physical_size}
use Rattle.paged_blob_parts.specs.Writers.{from_page}
use Rattle.paged_blob_parts.proofs.Scanned.{first_page}
use Rattle.paged_blob_parts.proofs.Shown.{page_shown, counts}

-- one page alone
one_page : (sum : List ℕ → ℕ) (size : ℕ) → 12 < size → (bytes : List ℕ) → length bytes ≡ size
    → length (recovered sum size bytes) ≡ shown_len sum size bytes
one_page sum size footer bytes long =
    let all : take size bytes ≡ bytes = take_all size bytes (omega (arith, long)) in
    let same = ap (shown_len sum size) all in
    ⊎_elim
    (λ (whole, is).
    let none = length_recovered-none sum size (drop size bytes) (omega (arith, length-drop size bytes, long, footer)) in
    omega (arith, is, none, whole, same))
    (λ (less, is). is ∙ same)
    (first_page sum size footer bytes (omega (arith, long)))

module _ (sum : List ℕ → ℕ) (size : ℕ) (footer : 12 < size) (live : List ℕ) (page : ℕ)
    (reached : page * content_size size < length (recovered sum size live)) where
  pub direct_there : (page + 1) * size ≤ length live
  direct_there = (counts sum size footer page live reached).reach

  -- what a page shows into which what is recovered reaches
  pub direct_shown : (bytes : List ℕ) → bytes ≡ page_at size page live
      → take (length (recovered sum size bytes)) bytes ≡ page_at (content_size size) page (recovered sum size live)
  direct_shown bytes is =
      let room = content_size size in
      let rest = from_page size page (recovered sum size live) in
      let here = page_at size page live in
      let v = shown_len sum size here in
      let long : length bytes ≡ size = ap length is ∙ length-take-le size (drop (page * size) live)
      (omega (arith, direct_there, length-drop (page * size) live)) in
      let count : length (recovered sum size bytes) ≡ v = one_page sum size footer bytes long ∙ ap (shown_len sum size) is in
      let s = page_shown sum size footer page live (omega (arith, reached)) direct_there in
      let most = shown_within sum size here in
      let front : take v rest ≡ take room rest =
      ⊎_elim
      (λ less. take_all v rest (omega (arith, s.ends less)) ∙ sym (take_all room rest (omega (arith, s.ends less, less))))
      (λ more. ap (λ n. take n rest) (omega (arith, more, most)))
      (cases_lt v room) in
      ap (λ n. take n bytes) count ∙ ap (take v) is ∙ s.same ∙ front

-- a page into which so much content reaches is among those that it fills
pub page_physical : (size at end : ℕ) → 12 < size → at < end → (at / content_size size + 1) * size ≤ physical_size size end
page_physical size at end some below =
    let room = content_size size in
    let q = at / room + 1 in
    let count : q ≤ page_count size end = le-div q (end + (room - 1)) room (omega (arith, some)) (omega (arith, div-add-mod' at room, below, some)) in
    mul-le q size (page_count size end) size count (omega arith)

-- content that ends within so many pages fills no more
pub physical_within : (size pages len : ℕ) → 12 < size → len ≤ pages * content_size size → physical_size size len ≤ pages * size
physical_within size pages len some fits =
    let room = content_size size in
    let spread : (pages + 1) * room ≡ pages * room + room = omega arith in
    let few = div_below (len + (room - 1)) room (pages + 1) (omega (arith, some)) (omega (arith, spread, fits, some)) in
    mul-le (page_count size len) size pages size (omega (arith, few)) (omega arith)

-- what is recovered ends among the pages of a file
pub recovered_within : (sum : List ℕ → ℕ) (size : ℕ) → 12 < size → (live : List ℕ)
    → length (recovered sum size live) ≤ length live / size * content_size size
recovered_within sum size footer live =
    let room = content_size size in
    let pages = length live / size in
    ⊎_elim
    (λ past.
    let there = direct_there sum size footer live pages past in
    let all = div-add-mod' (length live) size in
    absurd (omega (arith, there, all, mod_below (length live) size (omega (arith, footer)))))
    (λ within. within)
    (cases_lt (pages * room) (length (recovered sum size live)))
