-- What a slot vouches for, and what is recovered, page by page.
use Rattle.std.proofs.Common.{◌≡◌, ◌⊎◌, ℕ, suc, ◌+◌, ◌-◌, ◌/◌, ◌^◌, ◌<◌, ◌≤◌, true, cond, ◌==◌}
use Rattle.std.proofs.Common.{List, [], ◌∷◌, ◌++◌, length, take, drop, sym, ◌∙◌, ap, inl, inr, ⊎_elim, refl, arith}
use Rattle.std.proofs.lemmas.Bool.{cases_Bool, and_parts, and_from, leb-true, ltb-true, eqb-true, le-leb, lt-ltb}
use Rattle.std.proofs.lemmas.Bool.{eq-eqb, ne_eqb, cond-true, cond-false}
use Rattle.std.proofs.lemmas.List.{length-drop, length-append, length-take-le, append-nil}
use Rattle.std.proofs.Math.Nat.{div-eq-sub-div, div-eq_of_lt}
use Rattle.paged_format.specs.declared.footer.Slot.{Slot}
use Rattle.paged_format.specs.declared.footer.Slot.TheVariants.{First, Second}
use Rattle.paged_format.specs.Footers.{content_size, footer_bytes, slot_len, slot_crc}
use Rattle.paged_format.specs.Laws.Footers.{first_len, first_crc, second_len, second_crc}
use Rattle.paged_format.specs.Pages.{vouches, verifies, vouched_len, greater_slot, counted_slot, shown_len, content_of}
use Rattle.paged_format.specs.Pages.{first_pages, pages_of, recovered}

-- what the test of a length and a checksum says
pub record IsVouched (sum : List ℕ → ℕ) (size : ℕ) (page : List ℕ) (len crc : ℕ) : Type 0 where
  pub some : 0 < len
  pub fits : len ≤ content_size size
  pub sums : crc ≡ sum (take len page)

module _ (sum : List ℕ → ℕ) (size : ℕ) where
  pub vouched : (page : List ℕ) (len crc : ℕ) → vouches sum size page len crc ≡ true → IsVouched sum size page len crc
  unfolding vouches
  vouched page len crc ok =
      let a = and_parts _ _ ok in
      let b = and_parts _ _ a.1 in
      record { some = ltb-true _ _ a.0; fits = leb-true _ _ b.0; sums = eqb-true _ _ b.1 }

  pub vouching : (page : List ℕ) (len crc : ℕ) → IsVouched sum size page len crc → vouches sum size page len crc ≡ true
  unfolding vouches
  vouching page len crc v = and_from _ _ (lt-ltb _ _ v.some) (and_from _ _ (le-leb _ _ v.fits) (eq-eqb _ _ v.sums))

  -- a slot that verifies vouches for its length
  pub vouched_len-true : (slot : Slot) (page : List ℕ) → verifies sum size slot page ≡ true
      → vouched_len sum size slot page ≡ slot_len size slot page
  unfolding vouched_len
  vouched_len-true slot page ok = cond-true _ _ _ ok

  -- a slot vouches for nothing, or verifies
  pub vouched_cases : (slot : Slot) (page : List ℕ)
      → (vouched_len sum size slot page ≡ 0)
      ⊎ ((verifies sum size slot page ≡ true) × (vouched_len sum size slot page ≡ slot_len size slot page))
  unfolding vouched_len
  vouched_cases slot page =
      ⊎_elim (λ ok. inr (ok, cond-true _ _ _ ok)) (λ ko. inl (cond-false _ _ _ ko))
      (cases_Bool (verifies sum size slot page))

  pub vouched_within : (slot : Slot) (page : List ℕ) → vouched_len sum size slot page ≤ content_size size
  vouched_within slot page =
      ⊎_elim
      (λ none. omega (arith, none))
      (λ (ok, is). let v = vouched page (slot_len size slot page) (slot_crc size slot page) ok in
      omega (arith, is, v.fits))
      (vouched_cases slot page)

  -- a page whose last twelve bytes are a footer: what its two slots vouch for decides
  pub counted_slot-footer : (page : List ℕ) (len1 crc1 len2 crc2 : ℕ) → 12 ≤ size
      → drop (size - 12) page ≡ footer_bytes len1 crc1 len2 crc2
      → len1 < 2 ^ 16 → crc1 < 2 ^ 32 → len2 < 2 ^ 16 → crc2 < 2 ^ 32
      → counted_slot sum size page
      ≡ greater_slot (cond (vouches sum size page len1 crc1) len1 0) (cond (vouches sum size page len2 crc2) len2 0)
  unfolding counted_slot vouched_len
  counted_slot-footer page len1 crc1 len2 crc2 room is l1 c1 l2 c2 =
      let a = first_len size page len1 crc1 len2 crc2 is l1 in
      let b = first_crc size page len1 crc1 len2 crc2 is c1 in
      let c = second_len size page len1 crc1 len2 crc2 is room l2 in
      let d = second_crc size page len1 crc1 len2 crc2 is room c2 in
      rw (a, b, c, d) refl

  -- a page shows no more than its content
  pub shown_within : (page : List ℕ) → shown_len sum size page ≤ content_size size
  unfolding shown_len
  shown_within page = omega (arith, vouched_within First page, vouched_within Second page)

  first_more : (n count : ℕ) (bytes : List ℕ) → n ≡ suc count → first_pages size n bytes ≡ take size bytes
      ∷ first_pages size count (drop size bytes)
  unfolding first_pages
  first_more n count bytes is = ap (λ m. first_pages size m bytes) is

  first_none : (n : ℕ) (bytes : List ℕ) → n ≡ 0 → first_pages size n bytes ≡ []
  unfolding first_pages
  first_none n bytes is = ap (λ m. first_pages size m bytes) is

  -- where there are bytes for a page, it is the first
  pub pages-more : (bytes : List ℕ) → 0 < size → size ≤ length bytes
      → pages_of size bytes ≡ take size bytes ∷ pages_of size (drop size bytes)
  pages-more bytes some long =
      let left : (length bytes - size) / size
      ≡ length (drop size bytes) / size = ap (λ n. n / size) (sym (length-drop size bytes)) in
      let is : length bytes / size ≡ (length bytes - size) / size + 1 = div-eq-sub-div some long in
      first_more (length bytes / size) (length (drop size bytes) / size) bytes (omega (arith, is, left))

  -- else there is none
  pub pages-none : (bytes : List ℕ) → length bytes < size → pages_of size bytes ≡ []
  pages-none bytes short = first_none (length bytes / size) bytes (div-eq_of_lt short)

  behind : List ℕ → List (List ℕ) → List ℕ
  behind page pages = cond (shown_len sum size page == content_size size) (content_of sum size pages) []

  content-cons : (page : List ℕ) (pages : List (List ℕ))
      → content_of sum size (page ∷ pages) ≡ take (shown_len sum size page) page ++ behind page pages
  unfolding content_of behind
  content-cons page pages = refl

  -- behind a whole page it goes on
  pub recovered-whole : (bytes : List ℕ) → 0 < size → size ≤ length bytes
      → shown_len sum size (take size bytes) ≡ content_size size
      → recovered sum size bytes ≡ take (content_size size) (take size bytes) ++ recovered sum size (drop size bytes)
  unfolding behind
  recovered-whole bytes some long is =
      let page = take size bytes in
      let pages = pages_of size (drop size bytes) in
      ap (content_of sum size) (pages-more bytes some long)
      ∙ content-cons page pages
      ∙ ap (λ rest. take (shown_len sum size page) page ++ rest) (cond-true _ _ _ (eq-eqb _ _ is))
      ∙ ap (λ n. take n page ++ content_of sum size pages) is

  -- behind another it ends
  pub recovered-partial : (bytes : List ℕ) → 0 < size → size ≤ length bytes
      → shown_len sum size (take size bytes) < content_size size
      → recovered sum size bytes ≡ take (shown_len sum size (take size bytes)) (take size bytes)
  unfolding behind
  recovered-partial bytes some long less =
      let page = take size bytes in
      let pages = pages_of size (drop size bytes) in
      let v = shown_len sum size page in
      let other : v ≡ content_size size → ⊥ = λ is. omega (arith, is, less) in
      ap (content_of sum size) (pages-more bytes some long)
      ∙ content-cons page pages
      ∙ ap (λ rest. take v page ++ rest) (cond-false _ _ _ (ne_eqb _ _ other))
      ∙ append-nil (take v page)

  pub recovered-none : (bytes : List ℕ) → length bytes < size → recovered sum size bytes ≡ []
  unfolding content_of
  recovered-none bytes short = ap (content_of sum size) (pages-none bytes short)

  page_long : (bytes : List ℕ) → size ≤ length bytes → length (take size bytes) ≡ size
  page_long bytes long = length-take-le size bytes long

  -- how many bytes these are
  pub length_recovered-whole : (bytes : List ℕ) → 0 < size → size ≤ length bytes
      → shown_len sum size (take size bytes) ≡ content_size size
      → length (recovered sum size bytes) ≡ content_size size + length (recovered sum size (drop size bytes))
  length_recovered-whole bytes some long is =
      let page = take size bytes in
      let fits : content_size size ≤ length page = omega (arith, page_long bytes long) in
      let joined = length-append (take (content_size size) page) (recovered sum size (drop size bytes)) in
      let front = length-take-le (content_size size) page fits in
      ap length (recovered-whole bytes some long is) ∙ omega (arith, joined, front)

  pub length_recovered-partial : (bytes : List ℕ) → 0 < size → size ≤ length bytes
      → shown_len sum size (take size bytes) < content_size size
      → length (recovered sum size bytes) ≡ shown_len sum size (take size bytes)
  length_recovered-partial bytes some long less =
      let page = take size bytes in
      let fits : shown_len sum size page ≤ length page = omega (arith, page_long bytes long, less) in
      ap length (recovered-partial bytes some long less) ∙ length-take-le (shown_len sum size page) page fits

  pub length_recovered-none : (bytes : List ℕ) → length bytes < size → length (recovered sum size bytes) ≡ 0
  length_recovered-none bytes short = ap length (recovered-none bytes short)
