-- What is recovered of an image keeps what is durable, by chance or not.
use Rattle.std.proofs.Common.{◌≡◌, ℕ, zero, suc, ◌+◌, ◌-◌, ◌*◌, ◌/◌, ◌<◌, ◌≤◌, min, true, cond, ◌==◌}
use Rattle.std.proofs.Common.{List, [], ◌∷◌, ◌++◌, length, get_or, take, drop, sym, ◌∙◌, ap, inl, inr, ⊎_elim, refl}
use Rattle.std.proofs.Common.{arith}
use Rattle.std.proofs.lemmas.Bool.{cases_lt, cond-true, eq-eqb}
use Rattle.std.proofs.lemmas.List.{take-append-le, take-append-drop, take-take, drop-drop, length-drop}
use Rattle.std.proofs.lemmas.List.{length-take, length-take-le, get_or-take, get_or-drop, ext_get_or}
use Rattle.std.proofs.Math.Nat.{le-div_iff_mul-le}
use Rattle.std.proofs.Math.Seq.{take-append-add}
use Rattle.paged_format.specs.declared.footer.Slot.{Slot}
use Rattle.paged_format.specs.declared.footer.Slot.TheVariants.{First, Second}
use Rattle.paged_format.specs.Footers.{content_size, slot_start, slot_len, slot_crc}
use Rattle.paged_format.specs.Pages.{verifies, shown_len, content_of, first_pages, recovered}
use Rattle.paged_format.specs.Laws.Pages.{vouched, vouched_len-true, shown_within}
use Rattle.paged_blob_parts.specs.Calls.{Call, Change, File, file_of}
use Rattle.paged_blob_parts.specs.Images.{least_length, greatest_length, IsImage}
use Rattle.paged_blob_parts.specs.Chance.{page_at, slot_in, IsBeginning}
use Rattle.paged_blob_parts.specs.Writers.{from_page, EachBeginning, OnlyAt, IsDurablePage, share, IsKeptIn, Keeps}
use Rattle.paged_blob_parts.specs.Shrinks.{HoldsPrefix, Withstands}
use Rattle.paged_blob_parts.specs.Laws.Chance.{HasSlot}
use Rattle.paged_blob_parts.specs.Laws.Writers.{of_beginning, verifies_there, same_len, holds_prefix, recovered_prefix}

-- the same first bytes
pub same_front : (n : ℕ) (s t : List ℕ) → n ≤ length s → n ≤ length t
    → ((i : ℕ) → i < n → get_or s i 0 ≡ get_or t i 0) → take n s ≡ take n t
same_front n s t in_s in_t same =
    ext_get_or 0 (take n s) (take n t) (length-take-le n s in_s ∙ sym (length-take-le n t in_t))
    (λ i below.
    let short : i < n = omega (arith, below, length-take-le n s in_s) in
    get_or-take n s i 0 short ∙ same i short ∙ sym (get_or-take n t i 0 short))

pub further : (m k : ℕ) (rest : List ℕ) → m ≤ length rest → take m rest ++ take k (drop m rest) ≡ take (m + k) rest
further m k rest le =
    let e = take-append-add (take m rest) (drop m rest) k in
    let front : length (take m rest) ≡ m = length-take-le m rest le in
    sym e ∙ ap (λ l. take (length (take m rest) + k) l) (take-append-drop m rest) ∙ ap (λ j. take (j + k) rest) front

-- as much as a first part has of what is asked
front_case : (n v : ℕ) (here more rest : List ℕ) → n ≤ v → v ≤ length here → take n here ≡ take n rest
    → take n (take v here ++ more) ≡ take n rest
front_case n v here more rest le long same =
    take-append-le n (take v here) more (omega (arith, le, length-take-le v here long)) ∙ take-take n v here le ∙ same

-- a first part and some of the second
whole_case : (n room : ℕ) (here more rest : List ℕ) → room ≤ n → room ≤ length here → room ≤ length rest
    → take room here ≡ take room rest
    → take (n - room) more ≡ take (n - room) (drop room rest) → take n (take room here ++ more) ≡ take n rest
whole_case n room here more rest le long rest_long same next =
    let part : length (take room here) ≡ room = length-take-le room here long in
    let split : n ≡ length (take room here) + (n - room) = omega (arith, part, le) in
    let whole : room + (n - room) ≡ n = omega (arith, le) in
    ap (λ k. take k (take room here ++ more)) split ∙ take-append-add (take room here) more (n - room)
    ∙ ap (λ l. l ++ take (n - room) more) same ∙ ap (λ l. take room rest ++ l) next
    ∙ further room (n - room) rest rest_long ∙ ap (λ k. take k rest) whole

-- no beginning is shorter than the least length
pub least_beginning : (base : List ℕ) (changes : List Change) (file : List ℕ) → IsBeginning base changes file
    → least_length base changes ≤ length file
least_beginning base [] file is = omega (arith, ap length is)
least_beginning base (change ∷ earlier) file (inl is) = omega (arith, ap length is)
least_beginning base (change ∷ earlier) file (inr before) = omega (arith, least_beginning base earlier file before)

module _ (sum : List ℕ → ℕ) (size : ℕ) (room_for_footer : 12 ≤ size) where
  pub page_long : (page : ℕ) (file : List ℕ) → (page + 1) * size ≤ length file → length (page_at size page file) ≡ size
  page_long page file reach =
      length-take-le size (drop (page * size) file) (omega (arith, length-drop (page * size) file, reach))

  pub page_byte : (page : ℕ) (file : List ℕ) (i : ℕ) → i < size
      → get_or (page_at size page file) i 0 ≡ get_or file (page * size + i) 0
  page_byte page file i below =
      get_or-take size (drop (page * size) file) i 0 below ∙ get_or-drop (page * size) file i 0

  pub slot_ends : (slot : Slot) → slot_start size slot + 6 ≤ size
  slot_ends First = omega arith
  slot_ends Second = omega arith

  -- the durable slot, and the bytes that it vouches for, stand in the image
  durable_slot : (len : ℕ) (file : File) (image : List ℕ) (page : ℕ) (d : IsDurablePage sum size len file page)
      → IsImage file image
      → HasSlot size d.slot (page_at size page d.shown) (page_at size page image)
  unfolding slot_in
  durable_slot len file image page d is =
      let old = page_at size page d.shown in
      let new = page_at size page image in
      let says = slot_len size d.slot old in
      let fits : says ≤ content_size size = (vouched sum size old says (slot_crc size d.slot old) d.verified).fits in
      let old_long : length old
      ≡ size = page_long page d.shown (omega (
        arith,
        d.reach,
        least_beginning file.base file.changes d.shown d.beginning,
      )) in
      let new_reach : (page + 1) * size ≤ length image = omega (arith, d.reach, is.no_shorter) in
      let new_long : length new ≡ size = page_long page image new_reach in
      let ends = slot_ends d.slot in
      let byte : (i : ℕ) → i < size → OnlyAt file (page * size + i) (get_or d.shown (page * size + i) 0)
      → get_or new i 0 ≡ get_or old i 0 = λ i below only.
      page_byte page image i below
      ∙ only (get_or image (page * size + i) 0) (is.each (page * size + i) (omega (arith, below, new_reach)))
      ∙ sym (page_byte page d.shown i below) in
      record {
        slot_same = same_front 6 (drop (slot_start size d.slot) new) (drop (slot_start size d.slot) old)
            (omega (arith, length-drop (slot_start size d.slot) new, new_long, ends)) (omega (
              arith,
              length-drop (slot_start size d.slot) old,
              old_long,
              ends,
            ))
            (λ i below. get_or-drop (slot_start size d.slot) new i 0
            ∙ byte (slot_start size d.slot + i) (omega (arith, below, ends)) (d.slot_bytes i below)
            ∙ sym (get_or-drop (slot_start size d.slot) old i 0));
        bytes_same = same_front says new old (omega (arith, new_long, fits)) (omega (arith, old_long, fits))
            (λ i below. byte i (omega (arith, below, fits)) (d.bytes i below));
      }

  -- a page shows at least what a slot of it vouches for
  pub shows_slot_len : (slot : Slot) (page : List ℕ) → verifies sum size slot page ≡ true
      → slot_len size slot page ≤ shown_len sum size page
  unfolding shown_len
  shows_slot_len First page ok = omega (arith, vouched_len-true sum size First page ok)
  shows_slot_len Second page ok = omega (arith, vouched_len-true sum size Second page ok)

  -- a durable page of an image shows its share of the content
  record ShowsShare (len : ℕ) (content image : List ℕ) (page : ℕ) : Type 0 where
    pub reach : (page + 1) * size ≤ length image
    pub shown : len ≤ shown_len sum size (page_at size page image)
    pub same : take len (page_at size page image) ≡ take len (from_page size page content)

  durable_shows : (len : ℕ) (content : List ℕ) (file : File) (image : List ℕ) (page : ℕ)
      → IsDurablePage sum size len file page
      → page * content_size size ≤ length content
      → EachBeginning (HoldsPrefix sum size content (greatest_length file.base file.changes)) file.base file.changes
      → IsImage file image
      → ShowsShare len content image page
  durable_shows len content file image page d within each is =
      let old = page_at size page d.shown in
      let new = page_at size page image in
      let rest = from_page size page content in
      let m = slot_len size d.slot old in
      let has = durable_slot len file image page d is in
      let ok : verifies sum size d.slot new ≡ true = verifies_there sum size d.slot old new d.verified has in
      let says : slot_len size d.slot new ≡ m = same_len size d.slot old new has.slot_same in
      let shown = shows_slot_len d.slot new ok in
      let most = greatest_length file.base file.changes in
      let holds = of_beginning (HoldsPrefix sum size content most) file.base file.changes d.shown each d.beginning in
      let s = holds page d.slot within (omega (arith, d.reach, is.no_shorter, is.no_longer)) d.verified in
      record {
        reach = omega (arith, d.reach, is.no_shorter);
        shown = omega (arith, shown, says, d.says);
        same =
            sym (take-take len m new d.says) ∙ ap (take len) (has.bytes_same ∙ s.bytes) ∙ take-take len m rest d.says;
      }

  behind : List ℕ → List (List ℕ) → List ℕ
  behind page pages = cond (shown_len sum size page == content_size size) (content_of sum size pages) []

  step : (count : ℕ) (bytes : List ℕ) → content_of sum size (first_pages size (suc count) bytes)
      ≡ take (shown_len sum size (take size bytes)) (take size bytes)
      ++ behind (take size bytes) (first_pages size count (drop size bytes))
  unfolding content_of first_pages behind
  step count bytes = refl

  whole_behind : (page : List ℕ) (pages : List (List ℕ)) → shown_len sum size page ≡ content_size size
      → behind page pages ≡ content_of sum size pages
  unfolding behind
  whole_behind page pages is = cond-true _ _ _ (eq-eqb _ _ is)

  -- from a page on, what is recovered keeps the durable bytes of the content from there on
  kept_from : (content image bytes : List ℕ) (synced count page : ℕ) → bytes ≡ drop (page * size) image
      → synced ≤ length content
      → page + count ≡ length image / size
      → ((k : ℕ) → k * content_size size < synced → ShowsShare (share size k synced) content image k)
      → take (synced - page * content_size size) (content_of sum size (first_pages size count bytes))
      ≡ take (synced - page * content_size size)
      (from_page size page content)
  kept_from content image bytes synced zero page is within pages shows =
      let n = synced - page * content_size size in
      ⊎_elim
      (λ some.
      let there : page + 1 ≤ length image / size = (le-div_iff_mul-le {k = size} {x = page
      + 1} {y = length image} (omega arith)).1 (shows page some).reach in
      absurd (omega (arith, there, pages)))
      (λ none.
      let e : n ≡ 0 = omega (arith, none) in
      ap (λ k. take k (content_of sum size (first_pages size 0 bytes))) e
      ∙ sym (ap (λ k. take k (from_page size page content)) e))
      (cases_lt (page * content_size size) synced)
  kept_from content image bytes synced (suc count) page is within pages shows =
      let room = content_size size in
      let n = synced - page * room in
      let here = take size bytes in
      let rest = from_page size page content in
      let more = behind here (first_pages size count (drop size bytes)) in
      let v = shown_len sum size here in
      let there : here ≡ page_at size page image = ap (take size) is in
      let next : drop size bytes ≡ drop ((page + 1) * size) image = ap (drop size) is
      ∙ drop-drop size (page * size) image
      ∙ ap (λ m. drop m image) (omega arith) in
      let later : from_page size (page + 1) content ≡ drop room rest = ap (λ m. drop m content) (omega arith)
      ∙ sym (drop-drop room (page * room) content) in
      let rec = kept_from content image (drop size bytes) synced count (page
      + 1) next within (omega (arith, pages)) shows in
      ⊎_elim
      (λ some.
      let s = shows page some in
      let len = min room n in
      let long : length here ≡ size = ap length there ∙ page_long page image s.reach in
      let shown : len ≤ v = omega (arith, s.shown, ap (shown_len sum size) there) in
      let most = shown_within sum size here in
      let same : take len here ≡ take len rest = ap (take len) there ∙ s.same in
      ap (take n) (step count bytes)
      ∙ ⊎_elim
      (λ beyond.
      let e : len ≡ room = omega (arith, beyond) in
      let full : v ≡ room = omega (arith, shown, e, most) in
      let goes_on : more ≡ content_of sum size (first_pages size count (drop size bytes)) = whole_behind here
      (first_pages size count (drop size bytes)) full in
      let m : synced - (page + 1) * room ≡ n - room = omega arith in
      ap (λ k. take n (take k here ++ more)) full ∙ ap (λ l. take n (take room here ++ l)) goes_on
      ∙ whole_case n room here (content_of sum size (first_pages size count (drop size bytes))) rest (omega (
        arith,
        beyond,
      )) (omega (arith, long))
      (omega (arith, beyond, within, length-drop (page * room) content)) (ap (λ k. take k here) (sym e) ∙ same
      ∙ ap (λ k. take k rest) e)
      (ap (λ k. take k (content_of sum size (first_pages size count (drop size bytes)))) (sym m) ∙ rec
      ∙ ap (take (synced - (page + 1) * room)) later
      ∙ ap (λ k. take k (drop room rest)) m))
      (λ fits.
      let e : len ≡ n = omega (arith, fits) in
      front_case n v here more rest (omega (arith, shown, e)) (omega (arith, long, most)) (ap (λ k. take k here) (sym e)
      ∙ same ∙ ap (λ k. take k rest) e))
      (cases_lt room n))
      (λ none.
      let e : n ≡ 0 = omega (arith, none) in
      ap (λ k. take k (content_of sum size (first_pages size (suc count) bytes))) e ∙ sym (ap (λ k. take k rest) e))
      (cases_lt (page * room) synced)

  -- by chance or not, what is recovered of an image keeps the bytes of the content that are durable
  pub recovered_keeps : (content : List ℕ) (synced : ℕ) (file : File) (image : List ℕ)
      → Withstands sum size content synced file → IsImage file image
      → take synced (recovered sum size image) ≡ take synced content
  recovered_keeps content synced file image w is =
      let none_before : 0 ≡ 0 * size = omega arith in
      let no_content : 0 * content_size size ≡ 0 = omega arith in
      let start : image ≡ drop (0 * size) image = ap (λ n. drop n image) none_before in
      let all : from_page size 0 content ≡ content = ap (λ n. drop n content) no_content in
      let count : 0 + length image / size ≡ length image / size = omega arith in
      let most : synced - 0 * content_size size ≡ synced = omega arith in
      let r = kept_from content image image synced (length image / size) 0 start w.within count
      (λ k below. durable_shows (share size k synced) content file image k (w.durable k below) (omega (
        arith,
        below,
        w.within,
      )) w.beginnings is) in
      ap (λ n. take n (recovered sum size image)) (sym most) ∙ r ∙ ap (take (synced - 0 * content_size size)) all
      ∙ ap (λ n. take n content) most

  -- a file that keeps a content withstands
  pub kept_withstands : (content : List ℕ) (synced : ℕ) (file : File) → IsKeptIn sum size content synced file
      → Withstands sum size content synced file
  kept_withstands content synced file w = record {
    within = w.within;
    beginnings =
        holds_prefix sum size content (greatest_length file.base file.changes) file.base file.changes w.beginnings;
    durable = w.durable;
  }

  -- what is recovered of each image keeps the durable bytes of the content, and is a beginning of the content unless by
  -- chance
  pub withstands_keeps : (content : List ℕ) (synced : ℕ) (calls : List Call)
      → Withstands sum size content synced (file_of calls)
      → Keeps sum size content synced calls
  withstands_keeps content synced calls w = λ image is.
      let file = file_of calls in
      let keeps = recovered_keeps content synced file image w is in
      record {
        keeps = keeps;
        prefix = λ none.
            let most = greatest_length file.base file.changes in
            let r = recovered_prefix sum size content most file image (omega (
              arith,
              room_for_footer,
            )) is.no_longer w.beginnings none in
            let front : length (take synced content) ≡ synced = length-take-le synced content w.within in
            let same : length (take synced (recovered sum size image))
            ≡ length (take synced content) = ap length keeps in
            let short : length (take synced (recovered sum size image)) ≤ length (recovered sum size image) = omega (
              arith,
              length-take synced
                  (recovered sum size image),
            ) in
            let all : length (recovered sum size image) ≡ r.0 = ap length r.2 ∙ length-take-le r.0 content r.1 in
            (r.0, omega (arith, front, same, short, all), r.1, r.2);
      }

  -- What holds of the file of a writer at each moment is enough: each image of the calls keeps the durable bytes of the
  -- content, and what is recovered of it is a beginning of the content unless by chance.
  pub file_keeps : (calls : List Call) (content : List ℕ) (synced : ℕ)
      → IsKeptIn sum size content synced (file_of calls)
      → Keeps sum size content synced calls
  file_keeps calls content synced w =
      withstands_keeps content synced calls (kept_withstands content synced (file_of calls) w)
