-- Bytes of a page that a change leaves, and a slot that it writes.
use Rattle.std.proofs.Common.{◌≡◌, ◌⊎◌, ℕ, ◌+◌, ◌-◌, ◌*◌, ◌<◌, ◌≤◌, ◌^◌}
use Rattle.std.proofs.Common.{Bool, true, false, not, ◌&&◌, ◌==◌, List, [], ◌++◌, length, get_or, take, drop}
use Rattle.std.proofs.Common.{sym, ◌∙◌, ap}
use Rattle.std.proofs.Common.{inl, inr, ⊎_elim, refl, arith}
use Rattle.std.specs.Int.{w16, w32, from_be_bytes}
use Rattle.std.proofs.lemmas.Bool.{and_parts, or_cases, leb-true, ltb-true, eqb-true, both_ways, not-true, and_from, le-leb, lt-ltb}
use Rattle.std.proofs.lemmas.List.{take_at, take_all, drop_at, drop_all, take-take, drop-take, drop-drop, length-drop, length-take-le, get_or-drop}
use Rattle.std.proofs.lemmas.Nat.{from_be_bytes-to_be_bytes_2, from_be_bytes-to_be_bytes_4}
use Rattle.std.proofs.Math.Nat.{mul-le-mul_right}
use Rattle.std.proofs.Math.Seq.{take-append-add}
use Rattle.paged_format.specs.declared.footer.Slot.{Slot}
use Rattle.paged_format.specs.declared.footer.Slot.TheVariants.{First, Second}
use Rattle.paged_format.specs.Footers.{content_size, slot_bytes, slot_start, slot_len, slot_crc}
use Rattle.paged_format.specs.Pages.{verifies}
use Rattle.paged_format.specs.Laws.Pages.{vouched}
use Rattle.paged_blob_parts.specs.Calls.{Change, write, resize, changed, whole, with_bytes, File, after_change}
use Rattle.paged_blob_parts.specs.Images.{is_within, may_give, may_leave, may_hold}
use Rattle.paged_blob_parts.specs.Chance.{page_at, slot_in}
use Rattle.paged_blob_parts.specs.Writers.{ShowsContent, from_page, OnlyAt}
use Rattle.paged_blob_parts.specs.Shrinks.{other_slot}
use Rattle.paged_blob_parts.specs.Laws.Chance.{HasSlot}
use Rattle.paged_blob_parts.specs.Laws.Writers.{len_in, crc_in, same_len, verifies_there}
use Rattle.paged_blob_parts.specs.Laws.Durable.{same_front, page_long, page_byte, slot_ends}
use Rattle.paged_blob_parts.proofs.Bytes.{with_bytes-long, with_bytes_in}
use Rattle.paged_blob_parts.proofs.Live.{one_live}

-- the change gives the byte no value
abbrev pub Untouched : Change → ℕ → Type 0
Untouched change i = (value : ℕ) → may_give change i value ≡ true → ⊥

pub untouched_same : (change : Change) (file : List ℕ) (i : ℕ) → Untouched change i → get_or (changed change file) i 0 ≡ get_or file i 0
untouched_same change file i spared =
    ⊎_elim (λ gives. absurd (spared (get_or (changed change file) i 0) gives)) (λ (_, same). same) (one_live change file i)

pub untouched_write : (at : ℕ) (bytes : List ℕ) (kept : Bool) (i : ℕ) → (i < at) ⊎ (at + length bytes ≤ i) → Untouched (write at bytes kept) i
untouched_write at bytes kept i outside = λ value gives.
    let inside = and_parts _ _ (and_parts _ _ gives).0 in
    let from : at ≤ i = leb-true at i inside.0 in
    let below : i < at + length bytes = ltb-true i (at + length bytes) inside.1 in
    ⊎_elim (λ before. omega (arith, before, from)) (λ behind. omega (arith, behind, below)) outside

pub untouched_resize : (size i : ℕ) → i < size → Untouched (resize size) i
untouched_resize size i before = λ value gives. let from : size ≤ i = leb-true size i (and_parts _ _ gives).0 in omega (arith, before, from)

-- each image has the byte as it is now
abbrev pub IsSure : File → ℕ → Type 0
IsSure file i = OnlyAt file i (get_or (whole file.base file.changes) i 0)

pub sure_still : (file : File) (change : Change) (ok : Bool) (i : ℕ) → IsSure file i → Untouched change i → IsSure (after_change change ok file) i
sure_still file change ok i sure spared = λ held holds.
    ⊎_elim
    (λ gives. absurd (spared held gives))
    (λ left. sure held (and_parts _ _ left).1 ∙ sym (untouched_same change (whole file.base file.changes) i spared))
    (or_cases _ _ holds)

-- a write that is durable at once leaves no other value
pub sure_written : (file : File) (at : ℕ) (bytes : List ℕ) (ok : Bool) (i : ℕ) → at ≤ i → i < at + length bytes
    → IsSure (after_change (write at bytes true) ok file) i
sure_written file at bytes ok i from below = λ held holds.
    let now = with_bytes_in at bytes (whole file.base file.changes) i from below in
    let inside = is_within at (length bytes) i in
    let before = may_hold file.base file.changes i held in
    ⊎_elim
    (λ gives. eqb-true held (get_or bytes (i - at) 0) (and_parts inside (held == get_or bytes (i - at) 0) gives).1 ∙ sym now)
    (λ left. ⊎_elim
    (λ never. absurd (both_ways false refl never))
    (λ outside. absurd (both_ways inside (not-true inside outside) (and_from _ _ (le-leb at i from) (lt-ltb i (at + length bytes) below))))
    (or_cases false (not inside) (and_parts (may_leave (write at bytes true) i) before left).0))
    (or_cases (may_give (write at bytes true) i held) (may_leave (write at bytes true) i && before) holds)

module _ (size : ℕ) (footer : 12 < size) where
  -- the change gives no value to a byte of the page's content, nor of this slot of it
  pub record Avoids (change : Change) (page : ℕ) (slot : Slot) : Type 0 where
    pub content : (i : ℕ) → i < content_size size → Untouched change (page * size + i)
    pub slot_bytes : (i : ℕ) → i < 6 → Untouched change (page * size + (slot_start size slot + i))

  starts : (slot : Slot) → content_size size ≤ slot_start size slot
  starts First = omega arith
  starts Second = omega arith

  ends : (slot : Slot) → slot_start size slot + 6 ≤ size
  ends First = omega (arith, footer)
  ends Second = omega (arith, footer)

  pub resize_avoids : (count page : ℕ) (slot : Slot) → (page + 1) * size ≤ count → Avoids (resize count) page slot
  resize_avoids count page slot within = record {
    content = λ i below. untouched_resize count (page * size + i) (omega (arith, within, below));
    slot_bytes = λ i below. untouched_resize count (page * size + (slot_start size slot + i)) (omega (arith, within, below, ends slot));
  }

  -- so does a write in another page
  pub write_avoids_page : (at : ℕ) (bytes : List ℕ) (kept : Bool) (there page : ℕ) (slot : Slot) → there * size ≤ at → page < there
      → Avoids (write at bytes kept) page slot
  write_avoids_page at bytes kept there page slot begins before =
      let whole : (page + 1) * size ≤ there * size = mul-le-mul_right size (omega (arith, before)) in
      record {
        content = λ i below. untouched_write at bytes kept (page * size + i) (inl (omega (arith, begins, whole, below)));
        slot_bytes = λ i below. untouched_write at bytes kept (page * size + (slot_start size slot + i))
            (inl (omega (arith, begins, whole, below, ends slot)));
      }

  apart : (slot : Slot) (i : ℕ) → i < 6 → (slot_start size slot + i < slot_start size (other_slot slot))
      ⊎ (slot_start size (other_slot slot) + 6 ≤ slot_start size slot + i)
  apart First i below = inl (omega (arith, below, footer))
  apart Second i below = inr (omega (arith, footer))

  -- and one to the other slot
  pub write_avoids_slot : (at : ℕ) (bytes : List ℕ) (kept : Bool) (page : ℕ) (slot : Slot) → at ≡ page * size + slot_start size (other_slot slot)
      → length bytes ≤ 6 → Avoids (write at bytes kept) page slot
  write_avoids_slot at bytes kept page slot is short = record {
    content = λ i below. untouched_write at bytes kept (page * size + i) (inl (omega (arith, is, below, starts (other_slot slot))));
    slot_bytes = λ i below. untouched_write at bytes kept (page * size + (slot_start size slot + i))
        (⊎_elim (λ before. inl (omega (arith, is, before))) (λ behind. inr (omega (arith, is, behind, short))) (apart slot i below));
  }

  -- two files with the same content in a page, and the same slot
  pub record SameSlot (page : ℕ) (slot : Slot) (old new : List ℕ) : Type 0 where
    pub in_old : (page + 1) * size ≤ length old
    pub in_new : (page + 1) * size ≤ length new
    pub content : (i : ℕ) → i < content_size size → get_or new (page * size + i) 0 ≡ get_or old (page * size + i) 0
    pub slot_bytes : (i : ℕ) → i < 6 → get_or new (page * size + (slot_start size slot + i)) 0 ≡ get_or old (page * size + (slot_start size slot + i)) 0

  pub avoided_same : (change : Change) (page : ℕ) (slot : Slot) (file : List ℕ) → Avoids change page slot → (page + 1) * size ≤ length file
      → (page + 1) * size ≤ length (changed change file) → SameSlot page slot file (changed change file)
  avoided_same change page slot file spared in_old in_new = record {
    in_old = in_old;
    in_new = in_new;
    content = λ i below. untouched_same change file (page * size + i) (spared.content i below);
    slot_bytes = λ i below. untouched_same change file (page * size + (slot_start size slot + i)) (spared.slot_bytes i below);
  }

  pub turned : (page : ℕ) (slot : Slot) (old new : List ℕ) → SameSlot page slot old new → SameSlot page slot new old
  turned page slot old new s = record {
    in_old = s.in_new;
    in_new = s.in_old;
    content = λ i below. sym (s.content i below);
    slot_bytes = λ i below. sym (s.slot_bytes i below);
  }

  -- what no file has verifies nowhere
  pub absent : (page : ℕ) (slot : Slot) (file : List ℕ) → length file ≤ page * size → slot_len size slot (page_at size page file) ≡ 0
  unfolding slot_len
  absent page slot file short =
      let none : page_at size page file ≡ [] = ap (take size) (drop_all (page * size) file short) ∙ take_all size [] (omega arith) in
      ap (λ p. from_be_bytes w16 (take 2 (drop (slot_start size slot) p))) none
      ∙ ap (λ p. from_be_bytes w16 (take 2 p)) (drop_all (slot_start size slot) [] (omega arith))

  -- a slot of a file, and in the page
  pub slot_region : (page : ℕ) (slot : Slot) (file : List ℕ)
      → slot_in size slot (page_at size page file) ≡ take 6 (drop (page * size + slot_start size slot) file)
  unfolding slot_in
  slot_region page slot file =
      let start = slot_start size slot in
      let rest = size - start in
      let is : size ≡ start + rest = omega (arith, ends slot) in
      let from = drop (page * size) file in
      ap (λ n. take 6 (drop start (take n from))) is ∙ ap (take 6) (drop-take start rest from)
      ∙ take-take 6 rest (drop start from) (omega (arith, ends slot)) ∙ ap (take 6) (drop-drop start (page * size) file)

  written_behind : (at : ℕ) (bytes file : List ℕ) → at ≤ length file → drop at (with_bytes at bytes file) ≡ bytes ++ drop (at + length bytes) file
  written_behind at bytes file long =
      ap (drop at) (with_bytes-long at bytes file long)
      ∙ drop_at (take at file) (bytes ++ drop (at + length bytes) file) at (length-take-le at file long)

  -- a slot that is written
  pub slot_written : (page at : ℕ) (slot : Slot) (bytes file : List ℕ) → at ≡ page * size + slot_start size slot → length bytes ≡ 6
      → (page + 1) * size ≤ length file → slot_in size slot (page_at size page (with_bytes at bytes file)) ≡ bytes
  slot_written page at slot bytes file is long there =
      slot_region page slot (with_bytes at bytes file) ∙ ap (λ n. take 6 (drop n (with_bytes at bytes file))) (sym is)
      ∙ ap (take 6) (written_behind at bytes file (omega (arith, is, there, ends slot)))
      ∙ take_at bytes (drop (at + length bytes) file) 6 long

  -- one whose length is written
  pub length_written : (page at : ℕ) (slot : Slot) (bytes file : List ℕ) → at ≡ page * size + slot_start size slot → length bytes ≡ 2
      → (page + 1) * size ≤ length file
      → slot_in size slot (page_at size page (with_bytes at bytes file)) ≡ bytes ++ drop 2 (slot_in size slot (page_at size page file))
  length_written page at slot bytes file is long there =
      let behind = drop (at + length bytes) file in
      let place : page * size + slot_start size slot + 2 ≡ at + length bytes = omega (arith, is, long) in
      let six : 6 ≡ length bytes + 4 = omega (arith, long) in
      slot_region page slot (with_bytes at bytes file) ∙ ap (λ n. take 6 (drop n (with_bytes at bytes file))) (sym is)
      ∙ ap (take 6) (written_behind at bytes file (omega (arith, is, there, ends slot)))
      ∙ ap (λ n. take n (bytes ++ behind)) six ∙ take-append-add bytes behind 4
      ∙ ap (λ l. bytes ++ l)
      (ap (λ n. take 4 (drop n file)) (sym place) ∙ ap (take 4) (sym (drop-drop 2 (page * size + slot_start size slot) file))
      ∙ sym (drop-take 2 4 (drop (page * size + slot_start size slot) file)) ∙ ap (drop 2) (sym (slot_region page slot file)))

  -- what a slot says
  pub says_len : (slot : Slot) (page : List ℕ) (len crc : ℕ) → len < 2 ^ 16 → slot_in size slot page ≡ slot_bytes len crc
      → slot_len size slot page ≡ len
  says_len slot page len crc fits is =
      len_in size slot page ∙ ap (λ bytes. from_be_bytes w16 (take 2 bytes)) is ∙ from_be_bytes-to_be_bytes_2 len fits

  pub says_crc : (slot : Slot) (page : List ℕ) (len crc : ℕ) → crc < 2 ^ 32 → slot_in size slot page ≡ slot_bytes len crc
      → slot_crc size slot page ≡ crc
  says_crc slot page len crc fits is =
      crc_in size slot page ∙ ap (λ bytes. from_be_bytes w32 (take 4 (drop 2 bytes))) is ∙ from_be_bytes-to_be_bytes_4 crc fits

module _ (sum : List ℕ → ℕ) (size : ℕ) (footer : 12 < size) where
  -- so many first bytes of the page's content are the same
  pub same_content : (page : ℕ) (slot : Slot) (old new : List ℕ) (n : ℕ) → SameSlot size footer page slot old new → n ≤ content_size size
      → take n (page_at size page new) ≡ take n (page_at size page old)
  same_content page slot old new n s fits =
      let some : 12 ≤ size = omega (arith, footer) in
      let a = page_long sum size some page new s.in_new in
      let b = page_long sum size some page old s.in_old in
      same_front n (page_at size page new) (page_at size page old) (omega (arith, a, fits)) (omega (arith, b, fits))
      (λ i below. page_byte sum size some page new i (omega (arith, below, fits)) ∙ s.content i (omega (arith, below, fits))
      ∙ sym (page_byte sum size some page old i (omega (arith, below, fits))))

  pub same_slot : (page : ℕ) (slot : Slot) (old new : List ℕ) → SameSlot size footer page slot old new
      → slot_in size slot (page_at size page new) ≡ slot_in size slot (page_at size page old)
  unfolding slot_in
  same_slot page slot old new s =
      let some : 12 ≤ size = omega (arith, footer) in
      let start = slot_start size slot in
      let last = slot_ends sum size some slot in
      let a = page_long sum size some page new s.in_new in
      let b = page_long sum size some page old s.in_old in
      same_front 6 (drop start (page_at size page new)) (drop start (page_at size page old))
      (omega (arith, a, last, length-drop start (page_at size page new))) (omega (arith, b, last, length-drop start (page_at size page old)))
      (λ i below. get_or-drop start (page_at size page new) i 0 ∙ page_byte sum size some page new (start + i) (omega (arith, below, last))
      ∙ s.slot_bytes i below
      ∙ sym (get_or-drop start (page_at size page old) i 0 ∙ page_byte sum size some page old (start + i) (omega (arith, below, last))))

  fits_page : (slot : Slot) (page : List ℕ) → verifies sum size slot page ≡ true → slot_len size slot page ≤ content_size size
  fits_page slot page ok = (vouched sum size page (slot_len size slot page) (slot_crc size slot page) ok).fits

  has_same : (page : ℕ) (slot : Slot) (old new : List ℕ) → SameSlot size footer page slot old new
      → slot_len size slot (page_at size page old) ≤ content_size size → HasSlot size slot (page_at size page old) (page_at size page new)
  has_same page slot old new s fits = record {
    slot_same = same_slot page slot old new s;
    bytes_same = same_content page slot old new (slot_len size slot (page_at size page old)) s fits;
  }

  -- it says the same
  pub says_same : (page : ℕ) (slot : Slot) (old new : List ℕ) → SameSlot size footer page slot old new
      → slot_len size slot (page_at size page new) ≡ slot_len size slot (page_at size page old)
  says_same page slot old new s = same_len size slot (page_at size page old) (page_at size page new) (same_slot page slot old new s)

  -- it verifies as well
  pub verifies_same : (page : ℕ) (slot : Slot) (old new : List ℕ) → SameSlot size footer page slot old new
      → verifies sum size slot (page_at size page old) ≡ true → verifies sum size slot (page_at size page new) ≡ true
  verifies_same page slot old new s ok =
      let there = page_at size page old in
      verifies_there sum size slot there (page_at size page new) ok (has_same page slot old new s (fits_page slot there ok))

  -- and shows the same content
  pub shows_same : (content : List ℕ) (page : ℕ) (slot : Slot) (old new : List ℕ) → SameSlot size footer page slot old new
      → verifies sum size slot (page_at size page old) ≡ true → ShowsContent size content old page slot → ShowsContent size content new page slot
  shows_same content page slot old new s ok shows =
      let there = page_at size page old in
      let m = slot_len size slot there in
      let says = says_same page slot old new s in
      record {
        within = omega (arith, says, shows.within);
        bytes = ap (λ n. take n (page_at size page new)) says ∙ same_content page slot old new m s (fits_page slot there ok) ∙ shows.bytes
            ∙ sym (ap (λ n. take n (from_page size page content)) says);
      }

  -- a slot that says nothing does not verify
  pub silent : (slot : Slot) (page : List ℕ) → slot_len size slot page ≡ 0 → verifies sum size slot page ≡ true → ⊥
  silent slot page none ok = omega (arith, none, (vouched sum size page (slot_len size slot page) (slot_crc size slot page) ok).some)
