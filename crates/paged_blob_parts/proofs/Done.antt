-- A file that was cut and made durable is exactly the pages of its content.
use Rattle.std.proofs.Common.{◌≡◌, ◌⊎◌, ℕ, ◌+◌, ◌-◌, ◌*◌, ◌/◌, ◌<◌}
use Rattle.std.proofs.Common.{◌≤◌, Bool, true, false, List, [], ◌∷◌, length, take, drop, sym, ◌∙◌, ap}
use Rattle.std.proofs.Common.{inl, inr, ⊎_elim, refl, subst, arith}
use Rattle.std.proofs.lemmas.Bool.{cases_lt, false_from_ne_true}
use Rattle.std.proofs.lemmas.List.{take-take, take_all, drop-take, length-take, length-take-le, length-drop}
use Rattle.std.proofs.lemmas.Nat.{div-mul-add}
use Rattle.std.proofs.Math.Nat.{mul-le-mul_right}
use Rattle.paged_format.specs.declared.footer.Slot.{Slot}
use Rattle.paged_format.specs.Footers.{content_size, slot_len, slot_crc}
use Rattle.paged_format.specs.Pages.{verifies, recovered}
use Rattle.paged_format.specs.Laws.Pages.{vouched}
use Rattle.paged_blob_parts.specs.Calls.{Call, synced, File, file_of, content}
use Rattle.paged_blob_parts.specs.Chance.{page_at, is_by_chance}
use Rattle.paged_blob_parts.specs.Writers.{from_page, ShowsContent, HoldsContent, AreDurable, Keeps}
use Rattle.paged_blob_parts.specs.Shrinks.{HoldsPrefix, Withstands, cut_length, IsCut}
use Rattle.paged_blob_parts.specs.Laws.Chance.{by_chance_decided}
use Rattle.paged_blob_parts.specs.Laws.Writers.{holds_prefix, recovered_prefix}
use Rattle.paged_blob_parts.specs.Laws.Durable.{recovered_keeps, withstands_keeps}
use Rattle.paged_blob_parts.proofs.Live.{whole_long, whole_image}
use Rattle.paged_blob_parts.proofs.Regions.{absent, silent}
use Rattle.paged_blob_parts.proofs.Stages.{SureSlot, Stage, stage_holds, stage_withstands, settled_withstands}

-- nothing that a file shows is there by chance where the file was durable
pub shown_itself : (sum : List ℕ → ℕ) (size : ℕ) (live : List ℕ) (failed : Bool)
    → is_by_chance sum size (record { base = live; changes = []; failed = failed }) live ≡ false
shown_itself sum size live failed =
    false_from_ne_true _
    (λ ok.
    let c = (by_chance_decided sum size (record { base = live; changes = []; failed = failed }) live).0 ok in
    c.chance.unwritten live refl (record { slot_same = refl; bytes_same = refl }))

-- how many pages so much content has
pub count_full : (room page : ℕ) → 0 < room → (page * room + 0 + (room - 1)) / room ≡ page
count_full room page some = ap (λ n. n / room) (omega arith) ∙ div-mul-add page room (room - 1) (omega (arith, some))

pub count_part : (room page part : ℕ) → 0 < part → part < room → (page * room + part + (room - 1)) / room ≡ page + 1
count_part room page part some short =
    let is : page * room + part + (room - 1) ≡ (page + 1) * room + (part - 1) = omega (arith, some, short) in
    ap (λ n. n / room) is ∙ div-mul-add (page + 1) room (part - 1) (omega (arith, short))

module _ (sum : List ℕ → ℕ) (size : ℕ) (footer : 12 < size) (old : List ℕ) (most page part : ℕ) where
  -- the whole pages stand, and a slot vouches for the part of the next
  pub record Done (calls : List Call) : Type 0 where
    pub stage : Stage sum size footer old most page (file_of calls)
    pub last : 0 < part → (slot : Slot) × SureSlot sum size footer part (file_of calls) page slot

  -- so many pages there are, and no slot of the last says more
  pub record Exact (live : List ℕ) (count : ℕ) : Type 0 where
    pub long : length live ≡ count * size
    pub full : part ≡ 0 → count ≡ page
    pub more : 0 < part → count ≡ page + 1
    pub only : 0 < part → (slot : Slot) → verifies sum size slot (page_at size page live) ≡ true → slot_len size slot (page_at size page live) ≤ part

  module _ (short : part < content_size size) (within : page * content_size size + part ≤ length old) where
    abbrev kept : ℕ
    kept = page * content_size size + part

    pub done_keeps : (calls : List Call) → Done calls → Keeps sum size old (page * content_size size + part) calls
    done_keeps calls d =
        withstands_keeps sum size (omega (arith, footer)) old (page * content_size size + part) calls
        (stage_withstands sum size footer old most page part (file_of calls) d.stage short within d.last)

    pub done_synced : (calls : List Call) (bytes : List ℕ) → Done calls → bytes ≡ content calls
        → Keeps sum size old (page * content_size size + part) (synced bytes true ∷ calls)
    done_synced calls bytes d is =
        withstands_keeps sum size (omega (arith, footer)) old (page * content_size size + part) (synced bytes true ∷ calls)
        (settled_withstands sum size footer old most page part (file_of calls) bytes false d.stage is short within d.last)

    cut_long : length (take (page * content_size size + part) old) ≡ page * content_size size + part
    cut_long = length-take-le (page * content_size size + part) old within

    -- a slot that shows the old content shows what is left of it
    shows_cut : (live : List ℕ) (k : ℕ) (slot : Slot) → ShowsContent size old live k slot → k * content_size size ≤ page * content_size size + part
        → slot_len size slot (page_at size k live) ≤ page * content_size size + part - k * content_size size
        → ShowsContent size (take (page * content_size size + part) old) live k slot
    shows_cut live k slot s reached fits =
        let room = content_size size in
        let left = kept - k * room in
        let m = slot_len size slot (page_at size k live) in
        let split : kept ≡ k * room + left = omega (arith, reached) in
        let is : from_page size k (take kept old) ≡ take left (from_page size k old) =
        ap (λ n. drop (k * room) (take n old)) split ∙ drop-take (k * room) left old in
        let long = length-drop (k * room) old in
        record {
          within = omega (arith, ap length is, length-take left (from_page size k old), s.within, fits);
          bytes = s.bytes ∙ sym (take-take m left (from_page size k old) fits) ∙ ap (take m) (sym is);
        }

    -- each slot that verifies vouches for what is left of the content
    holds_cut : (live : List ℕ) (count : ℕ) → HoldsPrefix sum size old most live → length live ≤ most → Exact live count
        → HoldsContent sum size (take (page * content_size size + part) old) live
    holds_cut live count holds fits e = λ k slot ok.
        let room = content_size size in
        let nowhere : count ≤ k → ShowsContent size (take kept old) live k slot = λ le.
        absurd (silent sum size footer slot (page_at size k live) (absent size footer k slot live (omega (arith, e.long, mul-le-mul_right size le))) ok) in
        let in_content : k * room ≤ page * room → k * room ≤ length old = λ le. omega (arith, le, within) in
        let some_page : part ≡ 0 ⊎ 0 < part = ⊎_elim (λ p. inr p) (λ z. inl (omega (arith, z))) (cases_lt 0 part) in
        ⊎_elim
        (λ before.
        let here : (k + 1) * room ≤ page * room = mul-le-mul_right room (omega (arith, before)) in
        let least : page ≤ count = ⊎_elim (λ z. omega (arith, e.full z)) (λ p. omega (arith, e.more p)) some_page in
        let there : (k + 1) * size ≤ count * size = mul-le-mul_right size (omega (arith, before, least)) in
        let s = holds k slot (omega (arith, here, within)) (omega (arith, there, e.long, fits)) ok in
        shows_cut live k slot s (omega (arith, here)) (omega (arith, here, fits_room slot (page_at size k live) ok)))
        (λ from. ⊎_elim
        (λ z. nowhere (omega (arith, e.full z, from)))
        (λ some. ⊎_elim
        (λ further. nowhere (omega (arith, e.more some, further)))
        (λ at.
        let is : page ≡ k = omega (arith, at, from) in
        let P : ℕ → Type 0 = λ j. verifies sum size slot (page_at size j live) ≡ true → ShowsContent size (take kept old) live j slot in
        let here : P page = λ now.
        let there : (page + 1) * size ≤ most = omega (arith, e.long, ap (λ n. n * size) (e.more some), fits) in
        shows_cut live page slot (holds page slot (omega (arith, within)) there now) (omega arith) (omega (arith, e.only some slot now)) in
        let found : P k = subst P is here in
        found ok)
        (cases_lt page k))
        some_page)
        (cases_lt k page)
      where
        fits_room : (slot : Slot) (here : List ℕ) → verifies sum size slot here ≡ true → slot_len size slot here ≤ content_size size
        fits_room slot here ok = (vouched sum size here (slot_len size slot here) (slot_crc size slot here) ok).fits

    -- and the sync that makes it durable leaves exactly that
    pub done_cut : (calls : List Call) (bytes : List ℕ) (count : ℕ) → Done calls → bytes ≡ content calls → Exact (content calls) count
        → IsCut sum size (take (page * content_size size + part) old) (synced bytes true ∷ calls)
    done_cut calls bytes count d is exact =
        let room = content_size size in
        let cut = take kept old in
        let file = file_of calls in
        let fresh : File = record { base = bytes; changes = []; failed = false } in
        let some : 12 ≤ size = omega (arith, footer) in
        let w = settled_withstands sum size footer old most page part file bytes false d.stage is short within d.last in
        let P : List ℕ → Type 0 = λ live. HoldsContent sum size cut live in
        let fits : length (content calls) ≤ most = omega (arith, (whole_long file.base file.changes).1, d.stage.greatest) in
        let holds : P bytes = subst P (sym is)
        (holds_cut (content calls) count (stage_holds sum size footer old most page file d.stage) fits exact) in
        let durable : AreDurable sum size (length cut) fresh =
        subst (λ n. AreDurable sum size n fresh) (sym cut_long) w.durable in
        let again : Withstands sum size cut (length cut) fresh = record {
          within = omega arith;
          beginnings = holds_prefix sum size cut (length bytes) bytes [] holds;
          durable = durable;
        } in
        let keeps = recovered_keeps sum size some cut (length cut) fresh bytes again (whole_image fresh) in
        let prefix = recovered_prefix sum size cut (length bytes) fresh bytes (omega (arith, footer)) (omega arith) again.beginnings
        (shown_itself sum size bytes false) in
        let less : length (recovered sum size bytes) ≤ length cut = omega (arith, ap length prefix.2, length-take prefix.0 cut) in
        record {
          sound = refl;
          settled = refl;
          long = ap length is ∙ exact.long ∙ ap (λ n. n * size) (pages_are count exact) ∙ ap (cut_length size) (sym cut_long);
          holds = holds;
          durable = durable;
          shown = sym (take_all (length cut) (recovered sum size bytes) less) ∙ keeps ∙ take_all (length cut) cut (omega arith);
        }
      where
        pages_are : (count : ℕ) → Exact (content calls) count → count ≡ (page * content_size size + part + (content_size size - 1)) / content_size size
        pages_are count e =
            let room = content_size size in
            ⊎_elim
            (λ some. e.more some ∙ sym (count_part room page part some short))
            (λ none.
            let z : part ≡ 0 = omega (arith, none) in
            e.full z ∙ sym (ap (λ p. (page * room + p + (room - 1)) / room) z ∙ count_full room page (omega (arith, footer))))
            (cases_lt 0 part)
