-- A writer's sync that was started.
use Rattle.std.proofs.Common.{◌≡◌, ℕ, ◌+◌, ◌-◌, ◌*◌, ◌/◌, ◌%◌, ◌<◌}
use Rattle.std.proofs.Common.{◌≤◌, ◌^◌, true, false, Result, Ok, Err, OnOk, IsTrue, IsFalse}
use Rattle.std.proofs.lemmas.Bool.{eqb-true}
use Rattle.paged_blob_parts.specs.Images.{IsImage, may_hold}
use Rattle.std.proofs.Common.{List, [], ◌∷◌, ◌++◌, length, take, drop, sym, ◌∙◌, ap, subst, refl, arith}
use Rattle.std.proofs.lemmas.List.{length-append, length-take, length-take-le, take-take, take_all, drop_at}
use Rattle.std.proofs.lemmas.List.{take-append-le, drop-append-le, take-append-drop, append_assoc}
use Rattle.std.proofs.lemmas.Nat.{div-add-mod'}
use Rattle.paged_format.specs.Footers.{content_size}
use Rattle.paged_format.specs.Pages.{recovered}
use Rattle.paged_format.specs.Tips.{Tip}
use Rattle.paged_blob_parts.specs.Calls.{Call, synced, file_of, content}
use Rattle.paged_blob_parts.specs.Moments.{Through}
use Rattle.paged_blob_parts.specs.Answers.{RecordsSync}
use Rattle.paged_blob_parts.specs.Caches.{Cache, AreGiven}
use Rattle.paged_blob_parts.specs.CachedContent.{HoldsPagesOf}
use Rattle.paged_blob_parts.specs.Flushes.{last_slot, physical_size}
use Rattle.paged_blob_parts.specs.Laws.Durable.{file_keeps}
use Rattle.paged_blob_parts.specs.Laws.Moments.{at_end}
use Rattle.paged_blob_parts.specs.Writers.{from_page, WriterState, written, IsWriterOf, IsWriter, IsFlushed, Keeps}
use Rattle.paged_blob_parts.specs.Stands.{Stand, pages_of}
use Rattle.paged_blob.specs.Syncs.{IsUnderWay, settled_tip, settled_slot}
use Rattle.paged_blob_parts.specs.declared.flush.DurableSlot.{DurableSlot}
use Rattle.paged_blob_parts.specs.declared.error.Error.{Error}
use Rattle.paged_blob_parts.specs.declared.error.Error.TheVariants.{Injected, BlobMissing, BlobInsufficientLength}
use Rattle.paged_blob_parts.specs.declared.error.Error.TheVariants.{NumberEnded, Memory, PowerCut, ChecksumMismatch}
use Rattle.paged_blob.specs.declared.writer.syncing.WriterSync.{WriterSync}
use Rattle.paged_blob_parts.proofs.CachedLaws.{holds_pages_given}
use Rattle.paged_blob_parts.proofs.WriterLaws.{size_is, more_writer, writer_more, keeps_more, sync_moments}
use Rattle.paged_blob_parts.proofs.WriterLaws.{settled_after, flushed_recovered, written_is, is_writer}
use Rattle.paged_blob_parts.proofs.WriterViews.{writer_stands, pages_number}

-- a sync, answered as it may be, leaves the content of what did not fail
abbrev Stays : List Call → List Call → Type 0
Stays old new = (content new ≡ content old) × IsFalse (file_of new).failed

same_stays : (old new : List Call) → IsFalse (file_of old).failed → new ≡ old → Stays old new
same_stays old new sound is = subst (Stays old) (sym is) (refl, sound)

sync_stays : (answer : Result Unit Error) (old new : List Call) → IsFalse (file_of old).failed → RecordsSync answer old new → Stays old new
sync_stays (Ok _) old new sound (made, durable, is) = subst (Stays old) (sym is) (durable.content sound, refl)
sync_stays (Err (Injected kind)) old new sound is = subst (Stays old) (sym is) (refl, sound)
sync_stays (Err BlobMissing) old new sound is = same_stays old new sound is
sync_stays (Err BlobInsufficientLength) old new sound is = same_stays old new sound is
sync_stays (Err NumberEnded) old new sound is = same_stays old new sound is
sync_stays (Err Memory) old new sound is = same_stays old new sound is
sync_stays (Err PowerCut) old new sound is = same_stays old new sound is
sync_stays (Err ChecksumMismatch) old new sound is = same_stays old new sound is

-- what a crash may leave after it, one might have left before it
same_leaves : (old new : List Call) → new ≡ old → (image : List ℕ) → IsImage (file_of new) image → IsImage (file_of old) image
same_leaves old new is image found = subst (λ c. IsImage (file_of c) image) is found

pub sync_leaves : (answer : Result Unit Error) (old new : List Call) → RecordsSync answer old new
    → (image : List ℕ) → IsImage (file_of new) image → IsImage (file_of old) image
sync_leaves (Ok _) old new (made, durable, is) image found =
    let there : IsImage (file_of (synced made true ∷ old)) image = subst (λ c. IsImage (file_of c) image) is found in
    record {
      no_shorter = omega (arith, there.no_shorter, there.no_longer, durable.image.no_shorter);
      no_longer = omega (arith, there.no_shorter, there.no_longer, durable.image.no_longer);
      each = λ i below.
          subst (λ v. IsTrue (may_hold (file_of old).base (file_of old).changes i v)) (sym (eqb-true _ _ (there.each i below)))
          (durable.image.each i (omega (arith, below, there.no_longer)));
    }
sync_leaves (Err (Injected kind)) old new is image found =
    let there : IsImage (file_of (synced [] false ∷ old)) image = subst (λ c. IsImage (file_of c) image) is found in
    there
sync_leaves (Err BlobMissing) old new is image found = same_leaves old new is image found
sync_leaves (Err BlobInsufficientLength) old new is image found = same_leaves old new is image found
sync_leaves (Err NumberEnded) old new is image found = same_leaves old new is image found
sync_leaves (Err Memory) old new is image found = same_leaves old new is image found
sync_leaves (Err PowerCut) old new is image found = same_leaves old new is image found
sync_leaves (Err ChecksumMismatch) old new is image found = same_leaves old new is image found

on_ok : {T P : Type 0} (answer : Result T Error) (value : T) → answer ≡ Ok value → OnOk answer P → P
on_ok {T} {P} answer value is given = subst (λ a. OnOk a P) is given

on_ok_map : {T P Q : Type 0} (answer : Result T Error) → (P → Q) → OnOk answer P → OnOk answer Q
on_ok_map (Ok _) f given = f given
on_ok_map (Err _) f given = tt

module _ (sum : List ℕ → ℕ) (old : List Call) (w : WriterState) (some_room : 12 < w.page_size) (small : w.page_size ≤ 65536)
    (is : IsWriter sum old w) (started : WriterSync) (size_is_all : started.size ≡ w.tip.offset + length w.tip.bytes) where
  -- where all is durable
  pub nothing_started : w.tip.offset + length w.tip.bytes ≤ w.synced → started.sync.answer ≡ Ok tt → IsUnderWay sum old w started
  nothing_started all answered =
      let long = size_is sum old w some_room is in
      record {
        begins = omega (arith, size_is_all);
        within = omega (arith, size_is_all);
        more = omega (arith, size_is_all, long, is.kept.within);
        stand = writer_stands sum old w some_room is;
        keeps = file_keeps sum w.page_size (omega (arith, some_room)) old (written sum old w) w.synced is.kept;
        numbers = is.numbers;
        idle = λ le. (is, answered);
        done = λ lt. absurd (omega (arith, lt, size_is_all, all));
      }

  module _ (mid new : List Call) (f : IsFlushed sum w.page_size mid (written sum old w) w.synced
      (w.tip.offset / content_size w.page_size + length w.tip.bytes / content_size w.page_size) (last_slot sum w.page_size w.slot w.tip.bytes))
      (records : RecordsSync started.sync.answer mid new) where
    stays : Stays mid new
    stays = sync_stays started.sync.answer mid new f.sound records

    all_found : take (length (written sum old w)) (recovered sum w.page_size (content new)) ≡ written sum old w
    all_found =
        ap (λ l. take (length (written sum old w)) (recovered sum w.page_size l)) stays.0
        ∙ flushed_recovered sum w.page_size some_room mid (written sum old w) w.synced
        (w.tip.offset / content_size w.page_size + length w.tip.bytes / content_size w.page_size) (last_slot sum w.page_size w.slot w.tip.bytes) f

    front : take w.tip.offset (recovered sum w.page_size (content new)) ≡ take w.tip.offset (written sum old w)
    front =
        sym (take-take w.tip.offset (length (written sum old w)) (recovered sum w.page_size (content new)) is.tip_within) ∙ ap (take w.tip.offset) all_found

    long_found : w.tip.offset ≤ length (recovered sum w.page_size (content new))
    long_found =
        let all = ap length all_found in
        omega (arith, all, is.tip_within, length-take (length (written sum old w)) (recovered sum w.page_size (content new)))

    pub started_content : written sum new w ≡ written sum old w
    unfolding written
    started_content =
        ap (λ l. l ++ w.tip.bytes) front ∙ ap (λ l. take w.tip.offset (written sum old w) ++ l) is.tip_bytes
        ∙ take-append-drop w.tip.offset (written sum old w)

    started_stands : Stand sum new (pages_of w)
    started_stands = record {
      whole = is.tip_begins;
      shown = long_found;
      found = λ live it. ap (λ (l : List ℕ). take w.tip.offset (recovered sum w.page_size l)) (it.content stays.1);
      numbers =
          let place = pages_number w.page_size w.tip.offset (length (written sum old w)) some_room is.tip_within in
          omega (arith, place, is.numbers);
    }

    abbrev Done : List ℕ → ℕ → ℕ → Type 0
    Done bytes durable count = IsWriterOf sum w.page_size new bytes durable (settled_tip w.page_size count w.tip) (settled_slot sum w count)

    done_all : (answer : Result Unit Error) → RecordsSync answer mid new
        → OnOk answer (Done (written sum old w) (w.tip.offset + length w.tip.bytes) (length w.tip.bytes))
    done_all (Ok _) (made, durable, now) =
        let n = length w.tip.bytes in
        let next : WriterState = record {
          page_size = w.page_size;
          blob_id = w.blob_id;
          synced = w.tip.offset + n;
          slot = settled_slot sum w n;
          tip = settled_tip w.page_size n w.tip;
        } in
        settled_after sum old w some_room small is mid new f made durable now next refl refl
        (ap (last_slot sum w.page_size w.slot) (take_all n w.tip.bytes (omega arith))) refl
    done_all (Err _) now = tt

    pub sync_started : Through (Keeps sum w.page_size (written sum old w) w.synced) old new → w.synced < w.tip.offset + length w.tip.bytes
        → IsUnderWay sum new w started
    sync_started moments needed =
        let same = started_content in
        let count : length w.tip.bytes ≡ started.size - w.tip.offset = omega (arith, size_is_all) in
        let answer = started.sync.answer in
        record {
          begins = omega (arith, size_is_all);
          within = omega (arith, size_is_all);
          more = omega (arith, size_is_all, needed);
          stand = started_stands;
          keeps = subst (λ l. Keeps sum w.page_size l w.synced new) (sym same) (at_end moments);
          numbers = subst (λ (l : List ℕ). physical_size w.page_size (length l) + 4096 < 2 ^ 64) (sym same) is.numbers;
          idle = λ le. absurd (omega (arith, le, size_is_all, needed));
          done = λ lt.
              subst (λ l. OnOk answer (Done l started.size (started.size - w.tip.offset))) (sym same)
              (subst (λ m. OnOk answer (Done (written sum old w) started.size m)) count
              (subst (λ m. OnOk answer (Done (written sum old w) m (length w.tip.bytes))) (sym size_is_all) (done_all answer records)));
        }

-- the list of a writer that takes more bytes into memory, over whatever calls
pub more_list : (sum : List ℕ → ℕ) (calls : List Call) (w : WriterState) (more : List ℕ)
    → written sum calls (record w { tip = record w.tip { bytes = w.tip.bytes ++ more } }) ≡ written sum calls w ++ more
unfolding written
more_list sum calls w more = sym (append_assoc (take w.tip.offset (recovered sum w.page_size (content calls))) w.tip.bytes more)

-- A sync is under way.
module _ (sum : List ℕ → ℕ) (calls : List Call) (w : WriterState) (some_room : 12 < w.page_size) (started : WriterSync)
    (way : IsUnderWay sum calls w started) where
  front_long : length (take w.tip.offset (recovered sum w.page_size (content calls))) ≡ w.tip.offset
  front_long = length-take-le w.tip.offset (recovered sum w.page_size (content calls)) way.stand.shown

  tip_drop : w.tip.bytes ≡ drop w.tip.offset (written sum calls w)
  unfolding written
  tip_drop = sym (drop_at (take w.tip.offset (recovered sum w.page_size (content calls))) w.tip.bytes w.tip.offset front_long)

  list_long : length (written sum calls w) ≡ w.tip.offset + length w.tip.bytes
  unfolding written
  list_long = length-append (take w.tip.offset (recovered sum w.page_size (content calls))) w.tip.bytes ∙ ap (λ n. n + length w.tip.bytes) front_long

  page_is : w.tip.offset / content_size w.page_size * content_size w.page_size ≡ w.tip.offset
  page_is = omega (arith, div-add-mod' w.tip.offset (content_size w.page_size), way.stand.whole)

  -- it is waited for
  pub waited : started.sync.answer ≡ Ok tt → w.synced < started.size → (next : WriterState) → next.page_size ≡ w.page_size
      → next.synced ≡ started.size → next.slot ≡ settled_slot sum w (started.size - w.tip.offset)
      → next.tip ≡ settled_tip w.page_size (started.size - w.tip.offset) w.tip
      → IsWriterOf sum next.page_size calls (written sum calls w) next.synced next.tip next.slot
  waited answered lt next size_same synced_is slot_is tip_is =
      let bytes = written sum calls w in
      let n = started.size - w.tip.offset in
      let size = w.page_size in
      let after = on_ok started.sync.answer tt answered (way.done lt) in
      subst (λ k. IsWriterOf sum k calls bytes next.synced next.tip next.slot) (sym size_same)
      (subst (λ s. IsWriterOf sum size calls bytes next.synced next.tip s) (sym slot_is)
      (subst (λ t. IsWriterOf sum size calls bytes next.synced t (settled_slot sum w n)) (sym tip_is)
      (subst (λ k. IsWriterOf sum size calls bytes k (settled_tip size n w.tip) (settled_slot sum w n)) (sym synced_is) after)))

  -- the whole pages of what it covers are kept in memory
  pub waited_cached : (count : ℕ) (before after : Cache) → count ≤ length w.tip.bytes → before.page_size ≡ content_size w.page_size
      → after.page_size ≡ before.page_size → (given_first : ℕ) → given_first ≡ w.tip.offset / content_size w.page_size
      → AreGiven before.pages after.pages w.blob_id given_first before.page_size (take count w.tip.bytes)
      (length (take count w.tip.bytes) / before.page_size)
      → HoldsPagesOf (written sum calls w) before w.blob_id → HoldsPagesOf (written sum calls w) after w.blob_id
  waited_cached count before after within room_is same given_first given_is given =
      let page = w.tip.offset / content_size w.page_size in
      let from : w.tip.bytes ≡ from_page w.page_size page (written sum calls w) = tip_drop ∙ ap (λ n. drop n (written sum calls w)) (sym page_is) in
      holds_pages_given w.page_size page count some_room (written sum calls w) (take count w.tip.bytes) before after w.blob_id given_first room_is same
      given_is (ap (take count) from) (omega (arith, within, ap length from)) given

  -- the list takes more bytes into memory
  module _ (more : List ℕ) (fits : physical_size w.page_size (w.tip.offset + length w.tip.bytes + length more) + 4096 < 2 ^ 64) where
    abbrev next : WriterState
    next = record w { tip = record w.tip { bytes = w.tip.bytes ++ more } }

    pub more_under_way : IsUnderWay sum calls next started
    more_under_way =
        let bytes = written sum calls w in
        let all = list_long in
        let n = started.size - w.tip.offset in
        let room = content_size w.page_size in
        let whole = n / room * room in
        let fits_list : physical_size w.page_size (length bytes + length more) + 4096 < 2 ^ 64 =
        subst (λ m. physical_size w.page_size (m + length more) + 4096 < 2 ^ 64) (sym all) fits in
        let count_within : n ≤ length w.tip.bytes = omega (arith, way.within, way.begins) in
        let whole_within : whole ≤ length w.tip.bytes = omega (arith, count_within, div-add-mod' n room) in
        let taken : take n (w.tip.bytes ++ more) ≡ take n w.tip.bytes = take-append-le n w.tip.bytes more count_within in
        let dropped : drop whole (w.tip.bytes ++ more) ≡ drop whole w.tip.bytes ++ more = drop-append-le whole w.tip.bytes more whole_within in
        record {
          begins = way.begins;
          within = omega (arith, way.within, length-append w.tip.bytes more);
          more = way.more;
          stand = way.stand;
          keeps = subst (λ l. Keeps sum w.page_size l w.synced calls) (sym (more_list sum calls w more))
              (keeps_more sum w.page_size bytes more w.synced (omega (arith, way.more, way.within, all)) calls way.keeps);
          numbers = subst (λ (l : List ℕ). physical_size w.page_size (length l) + 4096 < 2 ^ 64) (sym (more_list sum calls w more))
              (subst (λ m. physical_size w.page_size m + 4096 < 2 ^ 64) (sym (length-append bytes more)) fits_list);
          idle = λ le. (more_writer sum calls w some_room (way.idle le).0 more fits, (way.idle le).1);
          done = λ lt.
              on_ok_map started.sync.answer
              (λ after.
              let tip : Tip = settled_tip w.page_size n w.tip in
              let slot = settled_slot sum w n in
              let gone = writer_more sum w.page_size calls bytes more started.size tip slot after fits_list in
              subst (λ l. IsWriterOf sum w.page_size calls l started.size (settled_tip w.page_size n next.tip)
              (settled_slot sum next n)) (sym (more_list sum calls w more))
              (subst (λ l. IsWriterOf sum w.page_size calls (bytes ++ more) started.size
              (settled_tip w.page_size n next.tip) (last_slot sum w.page_size w.slot l)) (sym taken)
              (subst (λ l. IsWriterOf sum w.page_size calls (bytes ++ more) started.size (record tip { bytes = l }) slot) (sym dropped) gone)))
              (way.done lt);
        }
