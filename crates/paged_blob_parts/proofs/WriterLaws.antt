-- What becomes of a writer and its blob by a flush, by a sync, and by bytes that are only in memory.
use Rattle.std.proofs.Common.{◌≡◌, ℕ, zero, suc, ◌+◌, ◌-◌, ◌*◌, ◌/◌, ◌%◌, ◌<◌}
use Rattle.std.proofs.Common.{◌≤◌, ◌^◌, ◌==◌, Bool, true, false, Option, Some, None, Result, Ok, Err, OnOk}
use Rattle.std.proofs.Common.{List, [], ◌∷◌, ◌++◌, length, take, drop, sym, ◌∙◌, ap, subst, ⊎_elim, refl, arith}
use Rattle.std.proofs.lemmas.Bool.{cases_lt, cases_Bool, or_from, eqb-true, eqb-false, eq-eqb, cond-true, cond-false}
use Rattle.std.proofs.lemmas.List.{length-append, length-drop, length-take-le, take-take, take_all}
use Rattle.std.proofs.lemmas.List.{take-append-le, drop-append-le, drop-drop, take-append-drop, drop_all, append_assoc}
use Rattle.std.proofs.lemmas.Nat.{mul-le, div-add-mod', mod_below, mod-mul-add, div-mul-add, le-div}
use Rattle.std.proofs.Math.Nat.{div-eq_of_lt, zero-mod, zero-div}
use Rattle.std.specs.Int.{w16, from_be_bytes}
use Rattle.paged_format.specs.declared.footer.Slot.{Slot}
use Rattle.paged_format.specs.Footers.{content_size, slot_start, slot_len, slot_crc}
use Rattle.paged_format.specs.Pages.{verifies, recovered}
use Rattle.paged_format.specs.Laws.Pages.{vouched}
use Rattle.paged_format.specs.Tips.{Tip}
use Rattle.paged_blob_parts.specs.Calls.{Call, wrote, synced, Change, whole, File, file_of, content}
use Rattle.paged_blob_parts.specs.Moments.{Through, here}
use Rattle.paged_blob_parts.specs.Answers.{Records, RecordsSync, MakesDurable}
use Rattle.paged_blob_parts.specs.Laws.Moments.{goes_on, goes_on_sync, weaker}
use Rattle.paged_blob_parts.specs.Laws.Durable.{file_keeps, recovered_keeps, kept_withstands}
use Rattle.paged_blob_parts.specs.Chance.{page_at}
use Rattle.paged_blob_parts.specs.Writers.{from_page, HoldsContent, EachBeginning, share, IsKeptIn, ShowsLength, AreShown}
use Rattle.paged_blob_parts.specs.Writers.{IsBegun, pages_begun, EndsBy, IsWriterOf, WriterState, written, IsWriter, IsFlushed, Keeps}
use Rattle.paged_blob_parts.specs.Flushes.{page_count, flushed_bytes, last_slot, physical_size, SumsFit}
use Rattle.paged_blob_parts.specs.Laws.Flushes.{StaysWithin}
use Rattle.paged_blob_parts.specs.declared.flush.DurableSlot.{DurableSlot}
use Rattle.paged_blob_parts.specs.declared.error.Error.{Error}
use Rattle.paged_blob_parts.specs.Caches.{Cache, AreGiven}
use Rattle.paged_blob_parts.specs.CachedContent.{HoldsPagesOf}
use Rattle.paged_blob_parts.proofs.CachedLaws.{holds_pages_given}
use Rattle.paged_blob_parts.proofs.FlushLaws.{count_below, whole_has, stays_min, durable_len, flush_kept, shown_next, last_next, next_ends}

-- more content to come
each_weaker : (P Q : List ℕ → Type 0) (base : List ℕ) (changes : List Change) → ((file : List ℕ) → P file → Q file)
    → EachBeginning P base changes
    → EachBeginning Q base changes
each_weaker P Q base [] f p = f base p
each_weaker P Q base (change ∷ earlier) f p = (f (whole base (change ∷ earlier)) p.0, each_weaker P Q base earlier f p.1)

holds_more : (sum : List ℕ → ℕ) (size : ℕ) (bytes more file : List ℕ) → HoldsContent sum size bytes file
    → HoldsContent sum size (bytes ++ more) file
holds_more sum size bytes more file holds = λ page slot ok.
    let s = holds page slot ok in
    let start = page * content_size size in
    let said = slot_len size slot (page_at size page file) in
    ⊎_elim
    (λ past.
    let none : said ≡ 0 = omega (arith, s.within, length-drop start bytes, past) in
    let P : ℕ → Type 0 = λ n. (n ≤ length (drop start (bytes ++ more))) × (take n (page_at size page file) ≡ take n (drop start (bytes ++ more))) in
    let there : P said = subst P (sym none) (omega arith, refl) in
    record { within = there.0; bytes = there.1 })
    (λ before.
    let split : drop start (bytes ++ more) ≡ drop start bytes ++ more = drop-append-le start bytes more before in
    record {
      within = omega (arith, s.within, ap length split, length-append (drop start bytes) more);
      bytes = s.bytes ∙ sym (take-append-le said (drop start bytes) more s.within) ∙ ap (take said) (sym split);
    })
    (cases_lt (length bytes) start)

pub kept_more : (sum : List ℕ → ℕ) (size : ℕ) (bytes more : List ℕ) (durable : ℕ) (file : File) → IsKeptIn sum size bytes durable file
    → IsKeptIn sum size (bytes ++ more) durable file
kept_more sum size bytes more durable file k = record {
  within = omega (arith, k.within, length-append bytes more);
  beginnings = each_weaker (HoldsContent sum size bytes) (HoldsContent sum size (bytes ++ more)) file.base file.changes
      (holds_more sum size bytes more) k.beginnings;
  durable = k.durable;
}

-- bytes that are only in memory
pub writer_more : (sum : List ℕ → ℕ) (size : ℕ) (calls : List Call) (bytes more : List ℕ) (durable : ℕ) (tip : Tip) (slot : Option DurableSlot)
    → IsWriterOf sum size calls bytes durable tip slot → physical_size size (length bytes + length more) + 4096 < 2 ^ 64
    → IsWriterOf sum size calls (bytes ++ more) durable (record tip { bytes = tip.bytes ++ more }) slot
writer_more sum size calls bytes more durable tip slot w fits = record {
  sound = w.sound;
  kept = kept_more sum size bytes more durable (file_of calls) w.kept;
  tip_begins = w.tip_begins;
  tip_within = omega (arith, w.tip_within, length-append bytes more);
  tip_bytes = ap (λ l. l ++ more) w.tip_bytes ∙ sym (drop-append-le tip.offset bytes more w.tip_within);
  shown = w.shown;
  begun = w.begun;
  ends = w.ends;
  numbers = subst (λ n. physical_size size n + 4096 < 2 ^ 64) (sym (length-append bytes more)) fits;
}

-- less that is durable
pub keeps_less : (sum : List ℕ → ℕ) (size : ℕ) (bytes : List ℕ) (less more : ℕ) (calls : List Call) → less ≤ more
    → Keeps sum size bytes more calls
    → Keeps sum size bytes less calls
keeps_less sum size bytes less more calls le keeps = λ image is.
    let r = keeps image is in
    record {
      keeps = sym (take-take less more (recovered sum size image) le) ∙ ap (take less) r.keeps ∙ take-take less more bytes le;
      prefix = λ none. let p = r.prefix none in (p.0, omega (arith, p.1, le), p.2, p.3);
    }

-- where the tip begins
module _ (sum : List ℕ → ℕ) (size : ℕ) (some_room : 12 < size) (small : size ≤ 65536) (calls : List Call) (bytes : List ℕ)
    (durable : ℕ) (tip : Tip)
    (slot : Option DurableSlot) (w : IsWriterOf sum size calls bytes durable tip slot) where
  abbrev first : ℕ
  first = tip.offset / content_size size

  abbrev live : List ℕ
  live = whole (file_of calls).base (file_of calls).changes

  pub offset_is : first * content_size size ≡ tip.offset
  offset_is = omega (arith, div-add-mod' tip.offset (content_size size), w.tip_begins)

  tip_from : tip.bytes ≡ from_page size first bytes
  tip_from = w.tip_bytes ∙ ap (λ n. drop n bytes) (sym offset_is)

  pub tip_long : tip.offset + length tip.bytes ≡ length bytes
  tip_long = omega (arith, ap length w.tip_bytes, length-drop tip.offset bytes, w.tip_within)

  reach : first * size ≤ length live
  reach = omega (arith, w.ends)

  pub part_is : (n : ℕ) → take n tip.bytes ≡ take n (from_page size first bytes)
  part_is n = ap (take n) tip_from

  pub part_within : (n : ℕ) → n ≤ length tip.bytes → n ≤ length (from_page size first bytes)
  part_within n le = omega (arith, le, ap length tip_from)

  begun_within : (s : Option DurableSlot) → IsBegun sum size (file_of calls) durable first s → durable ≤ (first + 1) * content_size size
  begun_within None begun = omega (arith, begun)
  begun_within (Some kept) begun = omega (arith, begun.0, durable_len sum size kept.len (file_of calls) first begun.1.durable)

  ends_within : (s : Option DurableSlot) → length live ≡ (first + pages_begun s) * size → length live ≤ first * size + size
  ends_within None ends = omega (arith, ends)
  ends_within (Some kept) ends = omega (arith, ends)

  -- what is durable of the tip is less than a page, and less than the tip
  pub stays_page : (s : Option DurableSlot) → IsBegun sum size (file_of calls) durable first s → (n : ℕ) → content_size size ≤ n → StaysWithin s n
  stays_page None begun n full = tt
  stays_page (Some kept) begun n full = omega (arith, full, durable_len sum size kept.len (file_of calls) first begun.1.durable)

  pub stays_all : (s : Option DurableSlot) → IsBegun sum size (file_of calls) durable first s → StaysWithin s (length tip.bytes)
  stays_all None begun = tt
  stays_all (Some kept) begun = omega (arith, begun.0, w.kept.within, tip_long, offset_is)

  -- at each moment of a flush of some first bytes of the tip, whole pages or all of them
  pub flushed_keeps : (n : ℕ) (ok : Bool) → n ≤ length tip.bytes → 0 < n → StaysWithin slot n
      → IsKeptIn sum size bytes durable (file_of (wrote (first * size) (flushed_bytes sum size slot (take n tip.bytes)) false ok ∷ calls))
  flushed_keeps n ok le some stays =
      flush_kept sum size some_room small bytes (file_of calls) durable first n slot (take n tip.bytes) ok w.kept reach (part_is n)
      (part_within n le) some w.begun stays

  pub flush_moments : {T : Type 0} (result : Result T Error) (n : ℕ) (new : List Call) → n ≤ length tip.bytes → 0 < n → StaysWithin slot n
      → Records result (wrote (first * size) (flushed_bytes sum size slot (take n tip.bytes)) false) calls new
      → Through (Keeps sum size bytes durable) calls new
  flush_moments result n new le some stays records =
      goes_on (Keeps sum size bytes durable) calls calls new result (wrote (first * size) (flushed_bytes sum size slot (take n tip.bytes)) false)
      (here (file_keeps sum size (omega (arith, some_room)) calls bytes durable w.kept)) records
      (λ ok. file_keeps sum size (omega (arith, some_room)) (wrote (first * size) (flushed_bytes sum size slot
      (take n tip.bytes)) false ok ∷ calls) bytes durable
      (flushed_keeps n ok le some stays))

  sound_next : (n : ℕ) → (file_of (wrote (first * size) (flushed_bytes sum size slot (take n tip.bytes)) false true ∷ calls)).failed ≡ false
  sound_next n = or_from (file_of calls).failed false w.sound refl

  count_whole : (count : ℕ) → page_count size (count * content_size size) ≡ count
  count_whole count = div-mul-add count (content_size size) (content_size size - 1) (omega (arith, some_room))

  -- whole pages of the tip are flushed: the tip begins behind them
  pub pages_flushed : (count : ℕ) → 0 < count → count * content_size size ≤ length tip.bytes
      → SumsFit sum size (page_count size (length (take (count * content_size size) tip.bytes))) (take (count * content_size size) tip.bytes)
      → IsWriterOf sum size
      (wrote (first * size) (flushed_bytes sum size slot (take (count * content_size size) tip.bytes)) false true ∷ calls) bytes durable
      (record tip { offset = tip.offset + count * content_size size; bytes = drop (count * content_size size) tip.bytes }) None
  pages_flushed count some le fit =
      let room = content_size size in
      let n = count * room in
      let part = take n tip.bytes in
      let stays = stays_page slot w.begun n (omega (arith, mul-le 1 room count room some (omega arith))) in
      let some_bytes : 0 < n = omega (arith, mul-le 1 room count room some (omega arith), some_room) in
      let place : tip.offset + n ≡ (first + count) * room = omega (arith, offset_is) in
      let begins : (first + count) * room ≡ (first + count) * room + 0 = omega arith in
      let page : (tip.offset + n) / room ≡ first + count = ap (λ m. m / room) (place ∙ begins)
      ∙ div-mul-add (first + count) room 0 (omega (arith, some_room)) in
      let least = stays_min sum size (file_of calls) durable first n slot w.begun stays in
      let long : length part ≡ n = length-take-le n tip.bytes le in
      let pages : page_count size (length part) ≡ count = ap (page_count size) long ∙ count_whole count in
      let next = whole (file_of calls).base (file_of (wrote (first * size) (flushed_bytes sum size slot part) false true ∷ calls)).changes in
      let shown : AreShown sum size (first * room + n) next =
      shown_next sum size some_room small bytes live first n slot part reach (part_is n) (part_within n le) least fit (λ p below. shown_before p below) in
      let more = mul-le 1 size (page_count size (length part)) size (omega (arith, pages, some)) (omega arith) in
      let end = next_ends sum size some_room small bytes live first n slot part reach (part_is n) (part_within n le) least
      (omega (arith, ends_within slot w.ends, more)) in
      record {
        sound = sound_next n;
        kept = flushed_keeps n true le some_bytes stays;
        tip_begins = ap (λ m. m % room) (place ∙ begins) ∙ mod-mul-add (first + count) room 0 (omega (arith, some_room));
        tip_within = omega (arith, tip_long, le);
        tip_bytes = ap (drop n) w.tip_bytes ∙ drop-drop n tip.offset bytes;
        shown = subst (λ m. AreShown sum size m next) (omega (arith, offset_is)) shown;
        begun = omega (
          arith,
          begun_within slot w.begun,
          ap (λ m. m * room) page,
          mul-le (first + 1) room (first + count) room (omega (arith, some))
              (omega arith),
        );
        ends = end ∙ omega (arith, ap (λ m. m * size) pages) ∙ ap (λ m. (m + 0) * size) (sym page);
        numbers = w.numbers;
      }
    where
      shown_before : (p : ℕ) → p * content_size size < first * content_size size → ShowsLength sum size (share size p (first * content_size size)) live p
      shown_before p below =
          subst (λ m. ShowsLength sum size (share size p m) live p) (sym offset_is) (w.shown p (omega (arith, below, offset_is)))

  shown_tip : AreShown sum size (first * content_size size) live
  shown_tip = λ p below. subst (λ m. ShowsLength sum size (share size p m) live p) (sym offset_is) (w.shown p (omega (arith, below, offset_is)))

  all_tip : take (length tip.bytes) tip.bytes ≡ tip.bytes
  all_tip = take_all (length tip.bytes) tip.bytes (omega arith)

  -- how many pages some content takes: the whole ones, and one more for what is left
  pages_taken : (part : List ℕ) → page_count size (length part) ≡ length part / content_size size + pages_begun (last_slot sum size slot part)
  pages_taken part =
      let room = content_size size in
      let n = length part in
      let split : n / room * room + n % room ≡ n = div-add-mod' n room in
      let less : n % room < room = mod_below n room (omega (arith, some_room)) in
      let q = n / room in
      let B : Option DurableSlot → Type 0 = λ s. page_count size n ≡ q + pages_begun s in
      ⊎_elim
      (λ whole.
      let none = eqb-true _ _ whole in
      let place : n + (room - 1) ≡ q * room + (room - 1) = omega (arith, split, none) in
      subst B (sym (cond-true _ _ _ whole)) (ap (λ m. m / room) place ∙ div-mul-add q room (room - 1) (omega (arith, some_room)) ∙ omega arith))
      (λ part_left.
      let some = some_part (n % room) part_left in
      let place : n + (room - 1) ≡ (q + 1) * room + (n % room - 1) = omega (arith, split, some, some_room) in
      subst B (sym (cond-false _ _ _ part_left)) (ap (λ m. m / room) place ∙ div-mul-add (q + 1) room (n % room - 1) (omega (arith, less))))
      (cases_Bool (n % room == 0))
    where
      some_part : (k : ℕ) → (k == 0) ≡ false → 0 < k
      some_part zero is = absurd (eqb-false 0 0 is refl)
      some_part (suc k) is = omega arith

  abbrev TipFlushed : List Call → Type 0
  TipFlushed new = IsFlushed sum size new bytes durable (first + length tip.bytes / content_size size) (last_slot sum size slot tip.bytes)

  -- all of the tip is flushed
  pub tip_flushed : 0 < length tip.bytes → SumsFit sum size (page_count size (length tip.bytes)) tip.bytes
      → TipFlushed (wrote (first * size) (flushed_bytes sum size slot tip.bytes) false true ∷ calls)
  tip_flushed some fit =
      let room = content_size size in
      let n = length tip.bytes in
      let is : tip.bytes ≡ take n (from_page size first bytes) = sym all_tip ∙ part_is n in
      let inside = part_within n (omega arith) in
      let stays = stays_all slot w.begun in
      let least = stays_min sum size (file_of calls) durable first n slot w.begun stays in
      let next = whole (file_of calls).base (file_of (wrote (first * size) (flushed_bytes sum size slot tip.bytes) false true ∷ calls)).changes in
      let all : first * room + n ≡ length bytes = omega (arith, offset_is, tip_long) in
      let some_page : 0 < page_count size n = omega (arith, count_above' n some) in
      let more = mul-le 1 size (page_count size n) size some_page (omega arith) in
      let end = next_ends sum size some_room small bytes live first n slot tip.bytes reach is inside least (omega (arith, ends_within slot w.ends, more)) in
      let taken = pages_taken tip.bytes in
      record {
        sound = or_from (file_of calls).failed false w.sound refl;
        kept = flush_kept sum size some_room small bytes (file_of calls) durable first n slot tip.bytes true w.kept reach is inside some w.begun stays;
        shown = subst (λ m. AreShown sum size m next) all
            (shown_next sum size some_room small bytes live first n slot tip.bytes reach is inside least fit shown_tip);
        last = subst (λ m. EndsBy sum size next m (first + n / room) (last_slot sum size slot tip.bytes)) all
            (last_next sum size some_room small bytes live first n slot tip.bytes reach is inside least fit);
        ends = end ∙ omega (arith, ap (λ m. m * size) taken);
      }
    where
      count_above' : (n : ℕ) → 0 < n → 0 < page_count size n
      count_above' n some = le-div 1 (n + (content_size size - 1)) (content_size size) (omega (arith, some_room)) (omega (arith, some))

  -- an empty tip is on the disk
  pub tip_there : length tip.bytes ≡ 0 → TipFlushed calls
  tip_there none =
      let room = content_size size in
      let zero_of : length tip.bytes / room ≡ 0 = div-eq_of_lt (omega (arith, none, some_room)) in
      let rest : length tip.bytes % room ≡ 0 = ap (λ m. m % room) none ∙ zero-mod room in
      let no_slot : last_slot sum size slot tip.bytes ≡ None = cond-true _ _ _ (eq-eqb _ _ rest) in
      let F : Option DurableSlot → Type 0 = λ s. IsFlushed sum size calls bytes durable (first + length tip.bytes / room) s in
      subst F (sym no_slot) (record {
        sound = w.sound;
        kept = w.kept;
        shown = subst (λ m. AreShown sum size m live) (omega (arith, tip_long, none)) w.shown;
        last = omega (arith, tip_long, none, offset_is, ap (λ m. m * room) zero_of);
        ends = ends_empty slot w.begun w.ends ∙ ap (λ m. (first + m + 0) * size) (sym zero_of);
      })
    where
      ends_empty : (s : Option DurableSlot) → IsBegun sum size (file_of calls) durable first s → length live ≡ (first + pages_begun s) * size
          → length live ≡ (first + 0 + 0) * size
      ends_empty None begun ends = ends ∙ omega arith
      ends_empty (Some kept) begun ends =
          let d = begun.1.durable in
          let v = vouched sum size (page_at size first d.shown) (slot_len size d.slot (page_at size first d.shown))
          (slot_crc size d.slot (page_at size first d.shown)) d.verified in
          absurd (omega (arith, begun.0, w.kept.within, tip_long, none, offset_is, v.some, begun.1.says))

-- what is all on the disk is durable after a sync
module _ (sum : List ℕ → ℕ) (size : ℕ) (some_room : 12 < size) (calls : List Call) (bytes : List ℕ) (durable pages : ℕ) (slot : Option DurableSlot)
    (f : IsFlushed sum size calls bytes durable pages slot) where
  abbrev settled : File
  settled = record { base = content calls; changes = []; failed = false }

  pages_within : (s : Option DurableSlot) → EndsBy sum size (content calls) (length bytes) pages s → pages * content_size size ≤ length bytes
  pages_within None ends = omega (arith, ends)
  pages_within (Some last) ends = omega (arith, ends.0)

  settled_kept : IsKeptIn sum size bytes (length bytes) settled
  settled_kept = record {
    within = omega arith;
    beginnings = whole_has (HoldsContent sum size bytes) (file_of calls).base (file_of calls).changes f.kept.beginnings;
    durable = λ page below.
        let s = f.shown page below in
        record {
          shown = content calls;
          beginning = refl;
          slot = s.slot;
          verified = s.verified;
          says = omega (arith, s.says);
          reach = s.reach;
          bytes = λ i short held may. eqb-true _ _ may;
          slot_bytes = λ i short held may. eqb-true _ _ may;
        };
  }

  settled_begun : (s : Option DurableSlot) → EndsBy sum size (content calls) (length bytes) pages s
      → length (content calls) ≡ (pages + pages_begun s) * size
      → IsBegun sum size settled (length bytes) pages s
  settled_begun None ends long = omega (arith, ends)
  settled_begun (Some last) ends long = (
    ends.0,
    record {
      durable = record {
        shown = content calls;
        beginning = refl;
        slot = last.slot;
        verified = ends.1.verified;
        says = omega (arith, ends.1.says);
        reach = omega (arith, long);
        bytes = λ i short held may. eqb-true _ _ may;
        slot_bytes = λ i short held may. eqb-true _ _ may;
      };
      slot_is = refl;
      says = ends.1.says;
      bytes = ends.1.bytes;
    },
  )

  settled_writer : (tip : Tip) → tip.offset ≡ pages * content_size size → tip.bytes ≡ drop tip.offset bytes
      → physical_size size (length bytes) + 4096 < 2 ^ 64
      → IsWriterOf sum size (synced (content calls) true ∷ calls) bytes (length bytes) tip slot
  settled_writer tip begins tip_is numbers =
      let room = content_size size in
      let place : tip.offset ≡ pages * room + 0 = omega (arith, begins) in
      let page : tip.offset / room ≡ pages = ap (λ m. m / room) place ∙ div-mul-add pages room 0 (omega (arith, some_room)) in
      let within = pages_within slot f.last in
      record {
        sound = refl;
        kept = settled_kept;
        tip_begins = ap (λ m. m % room) place ∙ mod-mul-add pages room 0 (omega (arith, some_room));
        tip_within = omega (arith, begins, within);
        tip_bytes = tip_is;
        shown = λ p below.
            let before : p < pages = ⊎_elim (λ lt. lt) (λ past. absurd (omega (arith, mul-le pages room p room past (omega arith), begins, below)))
            (cases_lt p pages) in
            let apart = mul-le (p + 1) room pages room (omega (arith, before)) (omega arith) in
            let s = f.shown p (omega (arith, apart, within, some_room)) in
            subst (λ len. ShowsLength sum size len (content calls) p) (omega (arith, apart, within, begins)) s;
        begun = subst (λ p. IsBegun sum size settled (length bytes) p slot) (sym page) (settled_begun slot f.last f.ends);
        ends = f.ends ∙ ap (λ p. (p + pages_begun slot) * size) (sym page);
        numbers = numbers;
      }

  -- a sync that succeeds settles the content
  pub sync_writer : (made : List ℕ) → MakesDurable calls made → (tip : Tip) → tip.offset ≡ pages * content_size size
      → tip.bytes ≡ drop tip.offset bytes
      → physical_size size (length bytes) + 4096 < 2 ^ 64 → IsWriterOf sum size (synced made true ∷ calls) bytes (length bytes) tip slot
  sync_writer made durable_made tip begins tip_is numbers =
      subst (λ m. IsWriterOf sum size (synced m true ∷ calls) bytes (length bytes) tip slot) (sym (durable_made.content f.sound))
      (settled_writer tip begins tip_is numbers)

  -- at each moment of it
  pub sync_moments : {T : Type 0} (result : Result T Error) (old new : List Call) → Through (Keeps sum size bytes durable) old calls
      → RecordsSync result calls new
      → Through (Keeps sum size bytes durable) old new
  sync_moments result old new so_far records =
      let room : 12 ≤ size = omega (arith, some_room) in
      goes_on_sync (Keeps sum size bytes durable) old calls new result so_far records
      (λ made durable_made.
      subst (λ m. Keeps sum size bytes durable (synced m true ∷ calls)) (sym (durable_made.content f.sound))
      (keeps_less sum size bytes durable (length bytes) (synced (content calls) true ∷ calls) f.kept.within
      (file_keeps sum size room (synced (content calls) true ∷ calls) bytes (length bytes) settled_kept)))
      (file_keeps sum size room (synced [] false ∷ calls) bytes durable f.kept)

  -- and what is recovered of it begins with all of the content
  pub flushed_recovered : take (length bytes) (recovered sum size (content calls)) ≡ bytes
  flushed_recovered =
      let room : 12 ≤ size = omega (arith, some_room) in
      recovered_keeps sum size room bytes (length bytes) settled (content calls) (kept_withstands sum size room bytes (length bytes) settled settled_kept)
      (record { no_shorter = omega arith; no_longer = omega arith; each = λ i below. eq-eqb _ _ refl }) ∙ take_all (length bytes) bytes (omega arith)

-- what a writer has written is its content
module _ (sum : List ℕ → ℕ) (calls : List Call) (w : WriterState) (some_room : 12 < w.page_size) (bytes : List ℕ)
    (is : IsWriterOf sum w.page_size calls bytes w.synced w.tip w.slot) where
  pub on_disk : take w.tip.offset (recovered sum w.page_size (content calls)) ≡ take w.tip.offset bytes
  on_disk =
      let file : File = record { base = content calls; changes = []; failed = false } in
      let kept : IsKeptIn sum w.page_size bytes w.tip.offset file = record {
        within = is.tip_within;
        beginnings = whole_has (HoldsContent sum w.page_size bytes) (file_of calls).base (file_of calls).changes is.kept.beginnings;
        durable = λ page below.
            let s = is.shown page below in
            record {
              shown = content calls;
              beginning = refl;
              slot = s.slot;
              verified = s.verified;
              says = omega (arith, s.says);
              reach = s.reach;
              bytes = λ i short held may. eqb-true _ _ may;
              slot_bytes = λ i short held may. eqb-true _ _ may;
            };
      } in
      let room : 12 ≤ w.page_size = omega (arith, some_room) in
      recovered_keeps sum w.page_size room bytes w.tip.offset file (content calls) (kept_withstands sum w.page_size room bytes w.tip.offset file kept)
      (record { no_shorter = omega arith; no_longer = omega arith; each = λ i below. eq-eqb _ _ refl })

  pub written_is : written sum calls w ≡ bytes
  unfolding written
  written_is = ap (λ l. l ++ w.tip.bytes) on_disk ∙ ap (λ l. take w.tip.offset bytes ++ l) is.tip_bytes ∙ take-append-drop w.tip.offset bytes

  pub is_writer : IsWriter sum calls w
  is_writer = subst (λ b. IsWriterOf sum w.page_size calls b w.synced w.tip w.slot) (sym written_is) is

-- no bytes say no length
said_nothing : (size : ℕ) (slot : Slot) → slot_len size slot [] ≡ 0
unfolding slot_len
said_nothing size slot = ap (λ p. from_be_bytes w16 (take 2 p)) (drop_all (slot_start size slot) [] (omega arith))

-- a writer of nothing stands over a file that is empty
pub new_writer : (sum : List ℕ → ℕ) (size : ℕ) → 12 < size → (calls : List Call)
    → file_of calls ≡ record { base = []; changes = []; failed = false } → (tip : Tip) → tip.offset ≡ 0 → tip.bytes ≡ []
    → IsWriterOf sum size calls [] 0 tip None
new_writer sum size some calls empty tip at none =
    let room = content_size size in
    let base : (file_of calls).base ≡ [] = ap (λ (f : File). f.base) empty in
    let page : tip.offset / room ≡ 0 = ap (λ n. n / room) at ∙ zero-div room in
    let live : content calls ≡ [] = ap (λ (f : File). whole f.base f.changes) empty in
    let count : (0 + (room - 1)) / room ≡ 0 = div-eq_of_lt (omega (arith, some)) in
    let K : File → Type 0 = IsKeptIn sum size [] 0 in
    let kept : K (record { base = []; changes = []; failed = false }) = record {
      within = omega arith;
      beginnings = λ p slot ok. absurd (nothing_verifies sum size p slot ok);
      durable = λ p below. absurd (omega (arith, below));
    } in
    record {
      sound = ap (λ (f : File). f.failed) empty;
      kept = subst K (sym empty) kept;
      tip_begins = ap (λ n. n % room) at ∙ zero-mod room;
      tip_within = omega (arith, at);
      tip_bytes = none ∙ sym (drop_all tip.offset [] (omega arith));
      shown = λ p below. absurd (omega (arith, below, at));
      begun = omega arith;
      ends = ap length live ∙ omega (arith, ap (λ n. n * size) page);
      numbers = omega (arith, ap (λ n. n * size) count);
    }
  where
    nothing_verifies : (sum : List ℕ → ℕ) (size p : ℕ) (slot : Slot) → verifies sum size slot (page_at size p []) ≡ true → ⊥
    nothing_verifies sum size p slot ok =
        let empty_page : page_at size p [] ≡ [] = ap (take size) (drop_all (p * size) [] (omega arith)) ∙ take_all size [] (omega arith) in
        let v = vouched sum size (page_at size p []) (slot_len size slot (page_at size p [])) (slot_crc size slot (page_at size p [])) ok in
        omega (arith, v.some, ap (slot_len size slot) empty_page ∙ said_nothing size slot)

-- the calls of a writer's flush of its whole pages
module _ (sum : List ℕ → ℕ) (calls : List Call) (w : WriterState) (some_room : 12 < w.page_size) (small : w.page_size ≤ 65536)
    (is : IsWriter sum calls w)
    (full : content_size w.page_size ≤ length w.tip.bytes) (part : List ℕ) (first : ℕ)
    (part_is_whole : part ≡ take (length w.tip.bytes / content_size w.page_size * content_size w.page_size) w.tip.bytes)
    (first_is : first ≡ w.tip.offset / content_size w.page_size) where
  abbrev count : ℕ
  count = length w.tip.bytes / content_size w.page_size

  some_pages : 0 < count
  some_pages = le-div 1 (length w.tip.bytes) (content_size w.page_size) (omega (arith, some_room)) (omega (arith, full))

  pub pages_within_tip : count * content_size w.page_size ≤ length w.tip.bytes
  pages_within_tip = omega (arith, div-add-mod' (length w.tip.bytes) (content_size w.page_size))

  a_page : content_size w.page_size ≤ count * content_size w.page_size
  a_page = omega (arith, mul-le 1 (content_size w.page_size) count (content_size w.page_size) some_pages (omega arith))

  pub part_long : length part ≡ count * content_size w.page_size
  part_long = ap length part_is_whole ∙ length-take-le (count * content_size w.page_size) w.tip.bytes pages_within_tip

  pub pages_moments : {T : Type 0} (result : Result T Error) (new : List Call)
      → Records result (wrote (first * w.page_size) (flushed_bytes sum w.page_size w.slot part) false) calls new
      → Through (Keeps sum w.page_size (written sum calls w) w.synced) calls new
  pages_moments result new records =
      let n = count * content_size w.page_size in
      flush_moments sum w.page_size some_room small calls (written sum calls w) w.synced w.tip w.slot is result n new pages_within_tip
      (omega (arith, a_page, some_room))
      (stays_page sum w.page_size some_room small calls (written sum calls w) w.synced w.tip w.slot is w.slot is.begun n a_page)
      (subst (λ l. Records result (wrote (w.tip.offset / content_size w.page_size * w.page_size)
      (flushed_bytes sum w.page_size w.slot l) false) calls new) part_is_whole
      (subst (λ f. Records result (wrote (f * w.page_size) (flushed_bytes sum w.page_size w.slot part) false) calls new) first_is records))

  -- they are kept in memory too
  pub pages_cached : (old new : Cache) → old.page_size ≡ content_size w.page_size → new.page_size ≡ old.page_size → (given_first : ℕ)
      → given_first ≡ w.tip.offset / content_size w.page_size
      → AreGiven old.pages new.pages w.blob_id given_first old.page_size part (length part / old.page_size)
      → HoldsPagesOf (written sum calls w) old w.blob_id → HoldsPagesOf (written sum calls w) new w.blob_id
  pages_cached old new room_is same given_first given_is given =
      let n = count * content_size w.page_size in
      let page = w.tip.offset / content_size w.page_size in
      holds_pages_given w.page_size page n some_room (written sum calls w) part old new w.blob_id given_first room_is same given_is
      (part_is_whole ∙ part_is sum w.page_size some_room small calls (written sum calls w) w.synced w.tip w.slot is n)
      (part_within sum w.page_size some_room small calls (written sum calls w) w.synced w.tip w.slot is n pages_within_tip) given

  pub pages_after : (new : List Call) → new ≡ wrote (first * w.page_size) (flushed_bytes sum w.page_size w.slot part) false true ∷ calls
      → SumsFit sum w.page_size (page_count w.page_size (length part)) part → (tip : Tip)
      → tip ≡ record w.tip { offset = w.tip.offset + length part; bytes = drop (length part) w.tip.bytes }
      → IsWriterOf sum w.page_size new (written sum calls w) w.synced tip None
  pages_after new now fit tip tip_is =
      let size = w.page_size in
      let n = count * content_size size in
      let bytes = written sum calls w in
      let first_page = w.tip.offset / content_size size in
      let there : List Call = wrote (first_page * size) (flushed_bytes sum size w.slot (take n w.tip.bytes)) false true ∷ calls in
      let calls_are : new ≡ there = now ∙ ap (λ f. wrote (f * size) (flushed_bytes sum size w.slot part) false true ∷ calls) first_is
      ∙ ap (λ l. wrote (first_page * size) (flushed_bytes sum size w.slot l) false true ∷ calls) part_is_whole in
      let next : Tip = record w.tip { offset = w.tip.offset + n; bytes = drop n w.tip.bytes } in
      let tip_next : tip ≡ next = tip_is ∙ ap (λ m. record w.tip { offset = w.tip.offset + m; bytes = drop m w.tip.bytes }) part_long in
      let fits = subst (λ l. SumsFit sum size (page_count size (length l)) l) part_is_whole fit in
      let after = pages_flushed sum size some_room small calls bytes w.synced w.tip w.slot is count some_pages pages_within_tip fits in
      subst (λ t. IsWriterOf sum size new bytes w.synced t None) (sym tip_next)
      (subst (λ c. IsWriterOf sum size c bytes w.synced next None) (sym calls_are) after)

-- more content to come, at each moment
pub keeps_more : (sum : List ℕ → ℕ) (size : ℕ) (bytes more : List ℕ) (durable : ℕ) → durable ≤ length bytes → (calls : List Call)
    → Keeps sum size bytes durable calls
    → Keeps sum size (bytes ++ more) durable calls
keeps_more sum size bytes more durable within calls keeps = λ image is.
    let r = keeps image is in
    record {
      keeps = r.keeps ∙ sym (take-append-le durable bytes more within);
      prefix = λ none.
          let p = r.prefix none in
          (p.0, p.1, omega (arith, p.2, length-append bytes more), p.3 ∙ sym (take-append-le p.0 bytes more p.2));
    }

pub moments_more : (sum : List ℕ → ℕ) (size : ℕ) (bytes more : List ℕ) (durable : ℕ) → durable ≤ length bytes → (old new : List Call)
    → Through (Keeps sum size bytes durable) old new → Through (Keeps sum size (bytes ++ more) durable) old new
moments_more sum size bytes more durable within old new so_far = weaker (keeps_more sum size bytes more durable within) so_far

-- the more content, the more bytes on the disk
pub physical_mono : (size less more : ℕ) → 12 < size → less ≤ more → physical_size size less ≤ physical_size size more
physical_mono size less more some le =
    let room = content_size size in
    let q = (less + (room - 1)) / room in
    let pages : q ≤ page_count size more = le-div q (more + (room - 1)) room (omega (arith, some)) (omega (
      arith,
      div-add-mod' (less +
          (room - 1)) room,
      le,
    )) in
    mul-le q size (page_count size more) size pages (omega arith)

-- content has at least as many bytes on the disk
pub physical_above : (size len : ℕ) → 12 < size → len ≤ physical_size size len
physical_above size len some =
    let count = page_count size len in
    let all = count_below size some len count (omega arith) in
    omega (arith, all, mul-le count (content_size size) count size (omega arith) (omega arith))

-- a writer with more bytes in memory
module _ (sum : List ℕ → ℕ) (calls : List Call) (w : WriterState) (some_room : 12 < w.page_size) (is : IsWriter sum calls w) where
  pub size_is : w.tip.offset + length w.tip.bytes ≡ length (written sum calls w)
  size_is = omega (arith, ap length is.tip_bytes, length-drop w.tip.offset (written sum calls w), is.tip_within)

  more_is : (more : List ℕ) → physical_size w.page_size (w.tip.offset + length w.tip.bytes + length more) + 4096 < 2 ^ 64
      → IsWriterOf sum w.page_size calls (written sum calls w ++ more) w.synced (record w.tip { bytes = w.tip.bytes ++ more }) w.slot
  more_is more fits =
      writer_more sum w.page_size calls (written sum calls w) more w.synced w.tip w.slot is
      (subst (λ n. physical_size w.page_size (n + length more) + 4096 < 2 ^ 64) size_is fits)

  pub more_written : (more : List ℕ) → physical_size w.page_size (w.tip.offset + length w.tip.bytes + length more) + 4096 < 2 ^ 64
      → written sum calls (record w { tip = record w.tip { bytes = w.tip.bytes ++ more } }) ≡ written sum calls w ++ more
  more_written more fits =
      written_is sum calls (record w { tip = record w.tip { bytes = w.tip.bytes ++ more } }) some_room (written sum calls w ++ more) (more_is more fits)

  pub more_writer : (more : List ℕ) → physical_size w.page_size (w.tip.offset + length w.tip.bytes + length more) + 4096 < 2 ^ 64
      → IsWriter sum calls (record w { tip = record w.tip { bytes = w.tip.bytes ++ more } })
  more_writer more fits =
      is_writer sum calls (record w { tip = record w.tip { bytes = w.tip.bytes ++ more } }) some_room (written sum calls w ++ more) (more_is more fits)

  -- nothing was called yet
  pub moments_before : (more : List ℕ) → Through (Keeps sum w.page_size (written sum calls w ++ more) w.synced) calls calls
  moments_before more =
      here (keeps_more sum w.page_size (written sum calls w) more w.synced is.kept.within calls
      (file_keeps sum w.page_size (omega (arith, some_room)) calls (written sum calls w) w.synced is.kept))

  -- the moments after some of it was taken into memory
  pub moments_taken : (bytes : List ℕ) (n : ℕ) → physical_size w.page_size (w.tip.offset + length w.tip.bytes + length (take n bytes)) + 4096 < 2 ^ 64
      → (tip : Tip) → tip ≡ record w.tip { bytes = w.tip.bytes ++ take n bytes } → (new : List Call)
      → Through (Keeps sum w.page_size (written sum calls (record w { tip = tip })) w.synced) calls new
      → Through (Keeps sum w.page_size (written sum calls w ++ bytes) w.synced) calls new
  moments_taken bytes n fits tip tip_is new so_far =
      let old = written sum calls w in
      let is_more : written sum calls (record w { tip = tip }) ≡ old ++ take n bytes =
      ap (λ (t : Tip). written sum calls (record w { tip = t })) tip_is ∙ more_written (take n bytes) fits in
      let P : List ℕ → Type 0 = λ l. Through (Keeps sum w.page_size l w.synced) calls new in
      let all : (old ++ take n bytes) ++ drop n bytes ≡ old ++ bytes = append_assoc old (take n bytes) (drop n bytes)
      ∙ ap (λ l. old ++ l) (take-append-drop n bytes) in
      subst P all
      (moments_more sum w.page_size (old ++ take n bytes) (drop n bytes) w.synced (omega (arith, is.kept.within, length-append old (take n bytes))) calls new
      (subst P is_more so_far))

pub records_ok : {T : Type 0} (result : Result T Error) (call : Bool → Call) (old new : List Call) → Records result call old new
    → OnOk result (new ≡ call true ∷ old)
records_ok (Ok _) call old new is = is
records_ok (Err _) call old new is = tt

pub on_both : {T : Type 0} (result : Result T Error) (A B P : Type 0) → OnOk result A → OnOk result B → (A → B → P) → OnOk result P
on_both (Ok _) A B P a b f = f a b
on_both (Err _) A B P a b f = tt

-- the calls of a writer's flush of all of its tip
module _ (sum : List ℕ → ℕ) (calls : List Call) (w : WriterState) (some_room : 12 < w.page_size) (small : w.page_size ≤ 65536)
    (is : IsWriter sum calls w) where
  abbrev IsAllThere : List Call → Type 0
  IsAllThere new = IsFlushed sum w.page_size new (written sum calls w) w.synced
      (w.tip.offset / content_size w.page_size + length w.tip.bytes / content_size w.page_size) (last_slot sum w.page_size w.slot w.tip.bytes)

  pub nothing_flushed : length w.tip.bytes ≡ 0 → IsAllThere calls
  nothing_flushed none = tip_there sum w.page_size some_room small calls (written sum calls w) w.synced w.tip w.slot is none

  pub nothing_moments : Through (Keeps sum w.page_size (written sum calls w) w.synced) calls calls
  nothing_moments = here (file_keeps sum w.page_size (omega (arith, some_room)) calls (written sum calls w) w.synced is.kept)

  -- its whole pages are kept in memory too
  pub tip_cached : (old new : Cache) → old.page_size ≡ content_size w.page_size → new.page_size ≡ old.page_size → (given_first : ℕ)
      → given_first ≡ w.tip.offset / content_size w.page_size
      → AreGiven old.pages new.pages w.blob_id given_first old.page_size w.tip.bytes (length w.tip.bytes / old.page_size)
      → HoldsPagesOf (written sum calls w) old w.blob_id → HoldsPagesOf (written sum calls w) new w.blob_id
  tip_cached old new room_is same given_first given_is given =
      let n = length w.tip.bytes in
      let page = w.tip.offset / content_size w.page_size in
      holds_pages_given w.page_size page n some_room (written sum calls w) w.tip.bytes old new w.blob_id given_first room_is same given_is
      (sym (take_all n w.tip.bytes (omega arith)) ∙ part_is sum w.page_size some_room small calls (written sum calls w) w.synced w.tip w.slot is n)
      (part_within sum w.page_size some_room small calls (written sum calls w) w.synced w.tip w.slot is n (omega arith)) given

  -- after a sync, the tip begins behind its whole pages
  pub settled_after : (mid new : List Call) → IsAllThere mid → (made : List ℕ) → MakesDurable mid made → new ≡ synced made true ∷ mid
      → (next : WriterState)
      → next.page_size ≡ w.page_size → next.synced ≡ w.tip.offset + length w.tip.bytes → next.slot ≡ last_slot sum w.page_size w.slot w.tip.bytes
      → next.tip ≡ record w.tip {
        offset = w.tip.offset + length w.tip.bytes / content_size w.page_size * content_size w.page_size;
        bytes = drop (length w.tip.bytes / content_size w.page_size * content_size w.page_size) w.tip.bytes;
      }
      → IsWriterOf sum next.page_size new (written sum calls w) next.synced next.tip next.slot
  settled_after mid new f made durable_made now next size_same synced_is slot_is tip_is =
      let size = w.page_size in
      let room = content_size size in
      let bytes = written sum calls w in
      let whole = length w.tip.bytes / room * room in
      let slot = last_slot sum size w.slot w.tip.bytes in
      let tip : Tip = record w.tip { offset = w.tip.offset + whole; bytes = drop whole w.tip.bytes } in
      let begins : tip.offset ≡ (w.tip.offset / room + length w.tip.bytes / room) * room =
      omega (arith, offset_is sum size some_room small calls bytes w.synced w.tip w.slot is) in
      let rest : tip.bytes ≡ drop tip.offset bytes = ap (drop whole) is.tip_bytes ∙ drop-drop whole w.tip.offset bytes in
      let all : next.synced ≡ length bytes = synced_is ∙ tip_long sum size some_room small calls bytes w.synced w.tip w.slot is in
      let after = sync_writer sum size some_room mid bytes w.synced
      (w.tip.offset / room + length w.tip.bytes / room) slot f made durable_made tip begins rest is.numbers in
      subst (λ n. IsWriterOf sum n new bytes next.synced next.tip next.slot) (sym size_same)
      (subst (λ s. IsWriterOf sum size new bytes next.synced next.tip s) (sym slot_is)
      (subst (λ t. IsWriterOf sum size new bytes next.synced t slot) (sym tip_is)
      (subst (λ n. IsWriterOf sum size new bytes n tip slot) (sym all) (subst (λ c. IsWriterOf sum size c bytes (length bytes) tip slot) (sym now) after))))

  module _ (some : 0 < length w.tip.bytes) (part : List ℕ) (first : ℕ) (part_is_tip : part ≡ w.tip.bytes)
      (first_is : first ≡ w.tip.offset / content_size w.page_size) where
    abbrev Writes : Bool → Call
    Writes = wrote (first * w.page_size) (flushed_bytes sum w.page_size w.slot part) false

    pub all_flushed : (new : List Call) → new ≡ wrote (first * w.page_size) (flushed_bytes sum w.page_size w.slot part) false true ∷ calls
        → SumsFit sum w.page_size (page_count w.page_size (length part)) part → IsAllThere new
    all_flushed new now fit =
        let size = w.page_size in
        let first_page = w.tip.offset / content_size size in
        let there : List Call = wrote (first_page * size) (flushed_bytes sum size w.slot w.tip.bytes) false true ∷ calls in
        let calls_are : new ≡ there = now ∙ ap (λ f. wrote (f * size) (flushed_bytes sum size w.slot part) false true ∷ calls) first_is
        ∙ ap (λ l. wrote (first_page * size) (flushed_bytes sum size w.slot l) false true ∷ calls) part_is_tip in
        let fits = subst (λ l. SumsFit sum size (page_count size (length l)) l) part_is_tip fit in
        subst IsAllThere (sym calls_are) (tip_flushed sum size some_room small calls (written sum calls w) w.synced w.tip w.slot is some fits)

    pub all_moments : {T : Type 0} (result : Result T Error) (new : List Call)
        → Records result (wrote (first * w.page_size) (flushed_bytes sum w.page_size w.slot part) false) calls new
        → Through (Keeps sum w.page_size (written sum calls w) w.synced) calls new
    all_moments result new records =
        let size = w.page_size in
        let n = length w.tip.bytes in
        let first_page = w.tip.offset / content_size size in
        let whole : part ≡ take n w.tip.bytes = part_is_tip ∙ sym (take_all n w.tip.bytes (omega arith)) in
        flush_moments sum size some_room small calls (written sum calls w) w.synced w.tip w.slot is result n new (omega arith) some
        (stays_all sum size some_room small calls (written sum calls w) w.synced w.tip w.slot is w.slot is.begun)
        (subst (λ l. Records result (wrote (first_page * size) (flushed_bytes sum size w.slot l) false) calls new) whole
        (subst (λ f. Records result (wrote (f * size) (flushed_bytes sum size w.slot part) false) calls new) first_is records))
