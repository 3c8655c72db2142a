-- What is recovered of an image that is not by chance is a beginning of the content.
use Rattle.std.proofs.Common.{◌≡◌, ℕ, zero, suc, ◌+◌, ◌*◌, ◌/◌, ◌<◌, ◌≤◌, max, true, false, cond, ◌==◌}
use Rattle.std.proofs.Common.{List, [], ◌∷◌, ◌++◌, length, take, drop, sym, ◌∙◌, ap, subst, inl, inr, ⊎_elim, refl}
use Rattle.std.proofs.Common.{arith}
use Rattle.std.specs.Int.{w16, w32, from_be_bytes}
use Rattle.std.proofs.lemmas.Bool.{cases_lt, cases_Bool, or_parts, eqb-true, cond-true, cond-false}
use Rattle.std.proofs.lemmas.List.{append-nil, take-append-drop, take-take, drop-take, drop-drop, length-drop}
use Rattle.std.proofs.lemmas.List.{length-take-le}
use Rattle.std.proofs.Math.Nat.{le-div_iff_mul-le}
use Rattle.std.proofs.Math.Seq.{take-append-add}
use Rattle.paged_format.specs.declared.footer.Slot.{Slot}
use Rattle.paged_format.specs.declared.footer.Slot.TheVariants.{First, Second}
use Rattle.paged_format.specs.Footers.{content_size, slot_start, slot_len, slot_crc}
use Rattle.paged_format.specs.Pages.{verifies, vouched_len, shown_len, content_of, first_pages, recovered}
use Rattle.paged_format.specs.Laws.Pages.{vouched, vouching, vouched_cases}
use Rattle.paged_blob_parts.specs.Calls.{Change, whole, File}
use Rattle.paged_blob_parts.specs.Chance.{page_at, slot_in, IsBeginning, is_chance_slot, has_chance_slot, is_by_chance}
use Rattle.paged_blob_parts.specs.Writers.{from_page, ShowsContent, HoldsContent, EachBeginning}
use Rattle.paged_blob_parts.specs.Shrinks.{HoldsPrefix}
use Rattle.paged_blob_parts.specs.Laws.Chance.{HasSlot, not_chance}

-- a beginning has what each of them has
pub of_beginning : (P : List ℕ → Type 0) (base : List ℕ) (changes : List Change) (file : List ℕ)
    → EachBeginning P base changes
    → IsBeginning base changes file → P file
of_beginning P base [] file each is = subst P (sym is) each
of_beginning P base (change ∷ earlier) file each (inl is) = subst P (sym is) each.0
of_beginning P base (change ∷ earlier) file each (inr before) = of_beginning P base earlier file each.1 before

pub each_weaker : (P Q : List ℕ → Type 0) (base : List ℕ) (changes : List Change) → ((file : List ℕ) → P file → Q file)
    → EachBeginning P base changes
    → EachBeginning Q base changes
each_weaker P Q base [] f each = f base each
each_weaker P Q base (change ∷ earlier) f each =
    (f (whole base (change ∷ earlier)) each.0, each_weaker P Q base earlier f each.1)

module _ (size : ℕ) where
  -- what a slot says hangs on its six bytes alone
  pub len_in : (slot : Slot) (page : List ℕ)
      → slot_len size slot page ≡ from_be_bytes w16 (take 2 (slot_in size slot page))
  unfolding slot_len slot_in
  len_in slot page = ap (from_be_bytes w16) (sym (take-take 2 6 (drop (slot_start size slot) page) (omega arith)))

  pub crc_in : (slot : Slot) (page : List ℕ)
      → slot_crc size slot page ≡ from_be_bytes w32 (take 4 (drop 2 (slot_in size slot page)))
  unfolding slot_crc slot_in
  crc_in slot page =
      let start = slot_start size slot in
      ap (λ bytes. from_be_bytes w32 (take 4 bytes)) (sym (drop-drop 2 start page))
      ∙ ap (from_be_bytes w32) (sym (take-take 4 4 (drop 2 (drop start page)) (omega arith))
      ∙ ap (take 4) (sym (drop-take 2 4 (drop start page))))

  pub same_len : (slot : Slot) (shown page : List ℕ) → slot_in size slot page ≡ slot_in size slot shown
      → slot_len size slot page ≡ slot_len size slot shown
  same_len slot shown page same =
      len_in slot page ∙ ap (λ bytes. from_be_bytes w16 (take 2 bytes)) same ∙ sym (len_in slot shown)

  pub same_crc : (slot : Slot) (shown page : List ℕ) → slot_in size slot page ≡ slot_in size slot shown
      → slot_crc size slot page ≡ slot_crc size slot shown
  same_crc slot shown page same =
      crc_in slot page ∙ ap (λ bytes. from_be_bytes w32 (take 4 (drop 2 bytes))) same ∙ sym (crc_in slot shown)

module _ (sum : List ℕ → ℕ) (size : ℕ) where
  -- a page that has a slot that verifies has it verifying
  pub verifies_there : (slot : Slot) (shown page : List ℕ) → verifies sum size slot shown ≡ true
      → HasSlot size slot shown page
      → verifies sum size slot page ≡ true
  verifies_there slot shown page ok has =
      let v = vouched sum size shown (slot_len size slot shown) (slot_crc size slot shown) ok in
      let len = same_len size slot shown page has.slot_same in
      let crc = same_crc size slot shown page has.slot_same in
      vouching sum size page (slot_len size slot page) (slot_crc size slot page) (record {
        some = omega (arith, len, v.some);
        fits = omega (arith, len, v.fits);
        sums = crc ∙ v.sums ∙ ap sum (sym has.bytes_same) ∙ ap (λ n. sum (take n page)) (sym len);
      })

  -- where each page holds the content, those do that it reaches
  pub holds_prefix : (content : List ℕ) (most : ℕ) (base : List ℕ) (changes : List Change)
      → EachBeginning (HoldsContent sum size content) base changes
      → EachBeginning (HoldsPrefix sum size content most) base changes
  holds_prefix content most base changes each =
      each_weaker (HoldsContent sum size content) (HoldsPrefix sum size content most) base changes
      (λ file holds page slot within whole. holds page slot) each

  -- a slot that verifies, not by chance, shows the content
  pub shows_slot : (content : List ℕ) (most : ℕ) (file : File) (image : List ℕ) (page : ℕ) (slot : Slot)
      → EachBeginning (HoldsPrefix sum size content most) file.base file.changes
      → page * content_size size ≤ length content → (page + 1) * size ≤ most
      → is_chance_slot sum size file image page slot ≡ false → verifies sum size slot (page_at size page image) ≡ true
      → ShowsContent size content image page slot
  shows_slot content most file image page slot each within whole none ok =
      let shown = page_at size page image in
      let r = not_chance sum size file image page slot none ok in
      let there = page_at size page r.0 in
      let holds = of_beginning (HoldsPrefix sum size content most) file.base file.changes r.0 each r.1 in
      let s = holds page slot within whole (verifies_there slot shown there ok r.2) in
      let len = same_len size slot shown there r.2.slot_same in
      record {
        within = omega (arith, len, s.within);
        bytes =
            sym r.2.bytes_same ∙ ap (λ n. take n there) (sym len) ∙ s.bytes
            ∙ ap (λ n. take n (from_page size page content)) len;
      }

  -- where no slot of the first pages is there by chance, none of one of them is
  none_of : (file : File) (image : List ℕ) (count : ℕ) → has_chance_slot sum size file image count ≡ false → (page : ℕ)
      → page < count → (slot : Slot)
      → is_chance_slot sum size file image page slot ≡ false
  none_of file image zero none page below slot = absurd (omega (arith, below))
  none_of file image (suc count) none page below slot =
      let a = or_parts _ _ none in
      let b = or_parts _ _ a.1 in
      ⊎_elim
      (λ before. none_of file image count b.1 page before slot)
      (λ from.
      let is : count ≡ page = omega (arith, below, from) in
      let P : ℕ → Type 0 = λ n. is_chance_slot sum size file image n slot ≡ false in
      subst P is (at_slot slot a.0 b.0))
      (cases_lt page count)
    where
      at_slot : (slot : Slot) → is_chance_slot sum size file image count First ≡ false
          → is_chance_slot sum size file image count Second ≡ false
          → is_chance_slot sum size file image count slot ≡ false
      at_slot First first second = first
      at_slot Second first second = second

  -- so many first bytes of a page are those of the content
  abbrev IsFront : List ℕ → List ℕ → ℕ → Type 0
  IsFront page content len = (len ≤ length content) × (take len page ≡ take len content)

  vouched_front : (content image : List ℕ) (page : ℕ) (slot : Slot)
      → (verifies sum size slot (page_at size page image) ≡ true → ShowsContent size content image page slot)
      → IsFront (page_at size page image) (from_page size page content)
      (vouched_len sum size slot (page_at size page image))
  vouched_front content image page slot shows =
      let shown = page_at size page image in
      let rest = from_page size page content in
      ⊎_elim
      (λ none. (omega (arith, none), ap (λ n. take n shown) none ∙ sym (ap (λ n. take n rest) none)))
      (λ (ok, is). let s = shows ok in subst (IsFront shown rest) (sym is) (s.within, s.bytes))
      (vouched_cases sum size slot shown)

  shown_front : (content image : List ℕ) (page : ℕ)
      → ((slot : Slot) → verifies sum size slot (page_at size page image) ≡ true
      → ShowsContent size content image page slot)
      → IsFront (page_at size page image) (from_page size page content) (shown_len sum size (page_at size page image))
  unfolding shown_len
  shown_front content image page shows =
      let shown = page_at size page image in
      let rest = from_page size page content in
      let first = vouched_len sum size First shown in
      let second = vouched_len sum size Second shown in
      ⊎_elim
      (λ less. let is : second ≡ max first second = omega (arith, less) in
      subst (IsFront shown rest) is (vouched_front content image page Second (shows Second)))
      (λ more. let is : first ≡ max first second = omega (arith, more) in
      subst (IsFront shown rest) is (vouched_front content image page First (shows First)))
      (cases_lt first second)

  further : (m k : ℕ) (rest : List ℕ) → m ≤ length rest → take m rest ++ take k (drop m rest) ≡ take (m + k) rest
  further m k rest le =
      let e = take-append-add (take m rest) (drop m rest) k in
      let front : length (take m rest) ≡ m = length-take-le m rest le in
      sym e ∙ ap (λ l. take (length (take m rest) + k) l) (take-append-drop m rest) ∙ ap (λ j. take (j + k) rest) front

  behind : List ℕ → List (List ℕ) → List ℕ
  behind page pages = cond (shown_len sum size page == content_size size) (content_of sum size pages) []

  step : (count : ℕ) (bytes : List ℕ) → content_of sum size (first_pages size (suc count) bytes)
      ≡ take (shown_len sum size (take size bytes)) (take size bytes)
      ++ behind (take size bytes) (first_pages size count (drop size bytes))
  unfolding content_of first_pages behind
  step count bytes = refl

  -- from a page on, what is recovered is a beginning of the content from there on
  recovered_from : (content image bytes : List ℕ) (count page : ℕ) → bytes ≡ drop (page * size) image
      → page * content_size size ≤ length content
      → ((k : ℕ) → page ≤ k → k < page + count → k * content_size size ≤ length content → (slot : Slot)
      → verifies sum size slot (page_at size k image) ≡ true
      → ShowsContent size content image k slot)
      → (len : ℕ) × (len ≤ length (from_page size page content))
      × (content_of sum size (first_pages size count bytes) ≡ take len (from_page size page content))
  unfolding content_of first_pages behind
  recovered_from content image bytes zero page is within shows = (0, omega arith, refl)
  recovered_from content image bytes (suc count) page is within shows =
      let room = content_size size in
      let here = take size bytes in
      let v = shown_len sum size here in
      let rest = from_page size page content in
      let there : here ≡ page_at size page image = ap (take size) is in
      let front : IsFront here rest v =
      subst (λ l. IsFront l rest (shown_len sum size l)) (sym there)
      (shown_front content image page (shows page (omega arith) (omega arith) within)) in
      let next : drop size bytes ≡ drop ((page + 1) * size) image = ap (drop size) is
      ∙ drop-drop size (page * size) image
      ∙ ap (λ n. drop n image) (omega arith) in
      let later : from_page size (page + 1) content ≡ drop room rest = ap (λ n. drop n content) (omega arith)
      ∙ sym (drop-drop room (page * room) content) in
      ⊎_elim
      (λ whole.
      let full : v ≡ room = eqb-true _ _ whole in
      let reached : (page + 1) * room ≤ length content = omega (
        arith,
        front.0,
        full,
        length-drop (page * room) content,
        within,
      ) in
      let r = recovered_from content image (drop size bytes) count (page + 1) next reached
      (λ k from below. shows k (omega (arith, from)) (omega (arith, below))) in (
        room + r.0,
        omega (arith, r.1, ap length later, length-drop room rest, front.0, full),
        step count bytes ∙ ap (λ l. take v here ++ l) (cond-true _ _ _ whole ∙ r.2 ∙ ap (take r.0) later)
            ∙ ap (λ l. l ++ take r.0 (drop room rest)) (front.1 ∙ ap (λ n. take n rest) full)
            ∙ further room r.0 rest (omega (arith, front.0, full)),
      ))
      (λ partial. (
        v,
        front.0,
        step count bytes ∙ ap (λ l. take v here ++ l) (cond-false _ _ _ partial) ∙ append-nil (take v here) ∙ front.1,
      ))
      (cases_Bool (v == room))

  -- what is recovered of an image that is not by chance is a beginning of the content that each beginning of the
  -- changes holds
  pub recovered_prefix : (content : List ℕ) (most : ℕ) (file : File) (image : List ℕ) → 0 < size → length image ≤ most
      → EachBeginning (HoldsPrefix sum size content most) file.base file.changes
      → is_by_chance sum size file image ≡ false
      → (len : ℕ) × (len ≤ length content) × (recovered sum size image ≡ take len content)
  recovered_prefix content most file image some long each none =
      let count = length image / size in
      let none_before : 0 ≡ 0 * size = omega arith in
      let no_content : 0 * content_size size ≡ 0 = omega arith in
      let start : image ≡ drop (0 * size) image = ap (λ n. drop n image) none_before in
      let all : from_page size 0 content ≡ content = ap (λ n. drop n content) no_content in
      let whole : (k : ℕ) → k < 0 + count → (k + 1) * size ≤ most = λ k below.
      let there = (le-div_iff_mul-le {k = size} {x = k + 1} {y = length image} some).0 (omega (arith, below)) in
      omega (arith, there, long) in
      let r = recovered_from content image image count 0 start (omega (arith, no_content))
      (λ k from below within slot ok. shows_slot content most file image k slot each within (whole k below)
      (none_of file image count none k (omega (arith, below)) slot) ok) in
      (r.0, omega (arith, r.1, ap length all), r.2 ∙ ap (take r.0) all)
