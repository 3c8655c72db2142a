-- What a file shows, page by page, and that what it shows withstands.
use Rattle.std.proofs.Common.{◌≡◌, ℕ, zero, suc, ◌+◌, ◌-◌, ◌*◌, ◌<◌, ◌≤◌}
use Rattle.std.proofs.Common.{Bool, true, min, max, List, [], ◌++◌, length, take, drop, sym, ◌∙◌, ap}
use Rattle.std.proofs.Common.{⊎_elim, refl, arith}
use Rattle.std.proofs.lemmas.Bool.{cases_lt, eqb-true}
use Rattle.std.proofs.lemmas.List.{take_at, drop_at, take-take, drop-drop, length-append, length-take-le, length-drop}
use Rattle.paged_format.specs.declared.footer.Slot.{Slot}
use Rattle.paged_format.specs.declared.footer.Slot.TheVariants.{First, Second}
use Rattle.paged_format.specs.Footers.{content_size, slot_len}
use Rattle.paged_format.specs.Pages.{verifies, vouched_len, shown_len, recovered}
use Rattle.paged_format.specs.Laws.Pages.{vouched_cases, shown_within, recovered-whole, recovered-partial, recovered-none}
use Rattle.paged_blob_parts.specs.Chance.{page_at}
use Rattle.paged_blob_parts.specs.Writers.{from_page, IsDurablePage, share}
use Rattle.paged_blob_parts.specs.Shrinks.{HoldsPrefix, Withstands}
use Rattle.paged_blob_parts.specs.Laws.Durable.{shows_slot_len}

-- the same first bytes of a list and of one that goes on
front_of : (n : ℕ) (s more : List ℕ) → n ≤ length s → take n (take n s ++ more) ≡ take n s
front_of n s more fits = take_at (take n s) more n (length-take-le n s fits)

module _ (sum : List ℕ → ℕ) (size : ℕ) (footer : 12 < size) where
  none_zero : (live : List ℕ) → from_page size 0 (recovered sum size live) ≡ recovered sum size (drop (0 * size) live)
  none_zero live =
      let no_content : 0 * content_size size ≡ 0 = omega arith in
      let no_size : 0 * size ≡ 0 = omega arith in
      ap (λ n. drop n (recovered sum size live)) no_content ∙ sym (ap (λ n. recovered sum size (drop n live)) no_size)

  -- from a page on that it reaches, what is recovered is what is recovered of the pages from there on
  pub recovered_at : (page : ℕ) (live : List ℕ) → page * content_size size ≤ length (recovered sum size live)
      → from_page size page (recovered sum size live) ≡ recovered sum size (drop (page * size) live)
  recovered_at zero live within = none_zero live
  recovered_at (suc k) live within =
      let room = content_size size in
      let here = take size live in
      let v = shown_len sum size here in
      let most = shown_within sum size here in
      let some : 0 < size = omega (arith, footer) in
      ⊎_elim
      (λ short. absurd (omega (arith, within, ap length (recovered-none sum size live short), footer)))
      (λ long. ⊎_elim
      (λ less.
      let part = ap length (recovered-partial sum size live some long less) in
      let fits = length-take-le v here (omega (arith, less, length-take-le size live long)) in
      absurd (omega (arith, within, part, fits, less)))
      (λ more.
      let full : v ≡ room = omega (arith, most, more) in
      let rest = recovered sum size (drop size live) in
      let is : recovered sum size live ≡ take room here ++ rest = recovered-whole sum size live some long full in
      let front : length (take room here) ≡ room = length-take-le room here (omega (arith, length-take-le size live long)) in
      let split : suc k * room ≡ room + k * room = omega arith in
      let pages : size + k * size ≡ suc k * size = omega arith in
      let total = ap length is in
      let joined = length-append (take room here) rest in
      let further = recovered_at k (drop size live) (omega (arith, within, total, joined, front)) in
      ap (λ n. drop n (recovered sum size live)) split ∙ sym (drop-drop (k * room) room (recovered sum size live))
      ∙ ap (λ l. drop (k * room) (drop room l)) is ∙ ap (drop (k * room)) (drop_at (take room here) rest room front)
      ∙ further ∙ ap (recovered sum size) (drop-drop (k * size) size live ∙ ap (λ n. drop n live) pages))
      (cases_lt v room))
      (cases_lt (length live) size)

  -- a page that what is recovered reaches is there
  pub reached : (page : ℕ) (live : List ℕ) → page * content_size size < length (recovered sum size live) → (page + 1) * size ≤ length live
  reached page live within =
      let rest = drop (page * size) live in
      let at = ap length (recovered_at page live (omega (arith, within))) in
      let left = length-drop (page * content_size size) (recovered sum size live) in
      ⊎_elim
      (λ short. absurd (omega (arith, ap length (recovered-none sum size rest short), at, left, within)))
      (λ long. omega (arith, long, length-drop (page * size) live, footer))
      (cases_lt (length rest) size)

  -- so many first bytes of a page are those of the content, and all of it where the page is not whole
  pub record PageShown (live : List ℕ) (page : ℕ) : Type 0 where
    pub fits : shown_len sum size (page_at size page live) ≤ length (from_page size page (recovered sum size live))
    pub same : take (shown_len sum size (page_at size page live)) (page_at size page live)
        ≡ take (shown_len sum size (page_at size page live)) (from_page size page (recovered sum size live))
    pub ends : shown_len sum size (page_at size page live) < content_size size
        → length (from_page size page (recovered sum size live)) ≡ shown_len sum size (page_at size page live)

  pub page_shown : (page : ℕ) (live : List ℕ) → page * content_size size ≤ length (recovered sum size live) → (page + 1) * size ≤ length live
      → PageShown live page
  page_shown page live within whole =
      let room = content_size size in
      let rest = drop (page * size) live in
      let here = page_at size page live in
      let v = shown_len sum size here in
      let most = shown_within sum size here in
      let some : 0 < size = omega (arith, footer) in
      let at = recovered_at page live within in
      let long : size ≤ length rest = omega (arith, whole, length-drop (page * size) live) in
      let here_long : length here ≡ size = length-take-le size rest long in
      ⊎_elim
      (λ less.
      let is : from_page size page (recovered sum size live) ≡ take v here = at ∙ recovered-partial sum size rest some long less in
      let count : length (take v here) ≡ v = length-take-le v here (omega (arith, less, here_long)) in
      record {
        fits = omega (arith, ap length is, count);
        same = sym (ap (take v) is ∙ take-take v v here (omega arith));
        ends = λ _. ap length is ∙ count;
      })
      (λ more.
      let full : v ≡ room = omega (arith, most, more) in
      let behind = recovered sum size (drop size rest) in
      let is : from_page size page (recovered sum size live) ≡ take room here ++ behind = at ∙ recovered-whole sum size rest some long full in
      let is_v : from_page size page (recovered sum size live) ≡ take v here ++ behind = is ∙ ap (λ n. take n here ++ behind) (sym full) in
      let count : length (take v here) ≡ v = length-take-le v here (omega (arith, most, here_long)) in
      record {
        fits = omega (arith, ap length is_v, count, length-append (take v here) behind);
        same = sym (ap (take v) is_v ∙ front_of v here behind (omega (arith, most, here_long)));
        ends = λ less. absurd (omega (arith, less, more));
      })
      (cases_lt v room)

  -- each slot that verifies vouches for it
  pub holds_shown : (live : List ℕ) → HoldsPrefix sum size (recovered sum size live) (length live) live
  holds_shown live = λ page slot within whole ok.
      let here = page_at size page live in
      let rest = from_page size page (recovered sum size live) in
      let v = shown_len sum size here in
      let m = slot_len size slot here in
      let s = page_shown page live within whole in
      let le : m ≤ v = shows_slot_len sum size (omega (arith, footer)) slot here ok in
      record {
        within = omega (arith, le, s.fits);
        bytes = sym (take-take m v here le) ∙ ap (take m) s.same ∙ take-take m v rest le;
      }

  -- a slot that counts, and its page is there
  pub record Counts (live : List ℕ) (page : ℕ) : Type 0 where
    pub slot : Slot
    pub verified : verifies sum size slot (page_at size page live) ≡ true
    pub says : slot_len size slot (page_at size page live) ≡ shown_len sum size (page_at size page live)
    pub reach : (page + 1) * size ≤ length live
    pub shares : share size page (length (recovered sum size live)) ≤ shown_len sum size (page_at size page live)

  abbrev Verifying : List ℕ → ℕ → Slot → Type 0
  Verifying here v slot = (verifies sum size slot here ≡ true) × (slot_len size slot here ≡ v)

  verifying : (here : List ℕ) (v : ℕ) (slot : Slot) → 0 < v → vouched_len sum size slot here ≡ v → Verifying here v slot
  verifying here v slot some is =
      ⊎_elim
      (λ none. absurd (omega (arith, none, some, is)))
      (λ (ok, same). (ok, sym same ∙ is))
      (vouched_cases sum size slot here)

  greater : (here : List ℕ) → 0 < shown_len sum size here → (slot : Slot) × Verifying here (shown_len sum size here) slot
  unfolding shown_len
  greater here some =
      let first = vouched_len sum size First here in
      let second = vouched_len sum size Second here in
      ⊎_elim
      (λ less. (Second, verifying here (max first second) Second some (omega (arith, less))))
      (λ more. (First, verifying here (max first second) First some (omega (arith, more))))
      (cases_lt first second)

  pub counts : (page : ℕ) (live : List ℕ) → page * content_size size < length (recovered sum size live) → Counts live page
  counts page live within =
      let room = content_size size in
      let here = page_at size page live in
      let v = shown_len sum size here in
      let most = shown_within sum size here in
      let whole = reached page live within in
      let s = page_shown page live (omega (arith, within)) whole in
      let left : length (from_page size page (recovered sum size live)) ≡ length (recovered sum size live) - page * room =
      length-drop (page * room) (recovered sum size live) in
      let enough : min room (length (recovered sum size live) - page * room) ≤ v =
      ⊎_elim (λ less. omega (arith, s.ends less, left)) (λ more. omega (arith, more)) (cases_lt v room) in
      let g = greater here (omega (arith, enough, within, footer)) in
      record { slot = g.0; verified = g.1.0; says = g.1.1; reach = whole; shares = enough }

  pub base_durable : (page len : ℕ) (live : List ℕ) (failed : Bool) (slot : Slot) → verifies sum size slot (page_at size page live) ≡ true
      → len ≤ slot_len size slot (page_at size page live) → (page + 1) * size ≤ length live
      → IsDurablePage sum size len (record { base = live; changes = []; failed = failed }) page
  base_durable page len live failed slot ok says reach = record {
    shown = live;
    beginning = refl;
    slot = slot;
    verified = ok;
    says = says;
    reach = reach;
    bytes = λ i below held is. eqb-true _ _ is;
    slot_bytes = λ i below held is. eqb-true _ _ is;
  }

  -- what a file shows withstands while nothing is changed
  pub shown_withstands : (live : List ℕ) (failed : Bool)
      → Withstands sum size (recovered sum size live) (length (recovered sum size live)) (record { base = live; changes = []; failed = failed })
  shown_withstands live failed = record {
    within = omega arith;
    beginnings = holds_shown live;
    durable = λ page below.
        let k = counts page live below in
        base_durable page (share size page (length (recovered sum size live))) live failed k.slot k.verified (omega (arith, k.shares, k.says)) k.reach;
  }
