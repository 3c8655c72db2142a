-- A blob of which all is durable is cut.
use Rattle.std.proofs.Common.{◌≡◌, ℕ, ◌+◌, ◌-◌, ◌*◌, ◌/◌, ◌<◌, ◌≤◌}
use Rattle.std.proofs.Common.{◌^◌, Bool, true, false, not, ◌||◌, min, List, [], ◌∷◌, length, take, drop}
use Rattle.std.proofs.Common.{Result, Option, None, Some, Ok, Err, OnOk, sym, ◌∙◌, ap}
use Rattle.std.proofs.Common.{inl, inr, ⊎_elim, refl, subst, arith}
use Rattle.std.proofs.lemmas.Bool.{cases_lt, cond-true, cond-false, lt-ltb, le-ltb}
use Rattle.std.proofs.lemmas.List.{take-take, drop-take, length-take-le, length-drop}
use Rattle.std.proofs.lemmas.Nat.{div-mul-add}
use Rattle.std.proofs.Math.Nat.{mul-le-mul_right}
use Rattle.paged_format.specs.declared.footer.Slot.{Slot}
use Rattle.paged_format.specs.declared.footer.Slot.TheVariants.{First, Second}
use Rattle.paged_format.specs.Footers.{content_size, slot_len}
use Rattle.paged_format.specs.Pages.{verifies, vouched_len, shown_len, counted_slot, recovered}
use Rattle.paged_format.specs.Laws.Pages.{vouched_cases}
use Rattle.paged_blob_parts.specs.Calls.{Call, resized_to, synced, Change, resize, changed, whole, File, file_of, content}
use Rattle.paged_blob_parts.specs.Chance.{page_at, slot_in}
use Rattle.paged_blob_parts.specs.Moments.{Through, here}
use Rattle.paged_blob_parts.specs.Answers.{Failures, Records, RecordsSync, MakesDurable, IsSlice, IsCause, IsReadCause}
use Rattle.paged_blob_parts.specs.Writers.{from_page, Keeps}
use Rattle.paged_blob_parts.specs.Shrinks.{other_slot, slot_at, handed_over, IsLastPage, IsTrimmed, IsCut, IsCutCause, EndsWithSync}
use Rattle.paged_blob.specs.ShrinksCode.{StandsAlone, IsLeftAlone, IsLast}
use Rattle.paged_blob.specs.declared.shrink.LastPage.{LastPage}
use Rattle.paged_blob_parts.specs.declared.error.CallKind.{CallKind}
use Rattle.paged_blob_parts.specs.declared.error.Error.{Error}
use Rattle.paged_blob_parts.specs.declared.error.Error.TheVariants.{Injected, BlobMissing, BlobInsufficientLength}
use Rattle.paged_blob_parts.specs.declared.error.Error.TheVariants.{NumberEnded, Memory, PowerCut, ChecksumMismatch}
use Rattle.paged_blob_parts.specs.Laws.Moments.{goes_on, goes_on_sync}
use Rattle.paged_blob_parts.proofs.Bytes.{length-resized}
use Rattle.paged_blob_parts.proofs.Scanned.{sliced, proven_pages}
use Rattle.paged_blob_parts.proofs.Shown.{reached, counts, page_shown}
use Rattle.paged_blob_parts.proofs.Regions.{resize_avoids, avoided_same, same_slot, says_len, SameSlot}
use Rattle.paged_blob_parts.proofs.Stages.{SureSlot, sure_base, sure_change, Stage, stage_holds, first_stage, stage_change, holds_resized, which}
use Rattle.paged_blob_parts.proofs.Cut.{twice_other, third_says}
use Rattle.paged_blob_parts.proofs.Handed.{trimmed_here, third_here}
use Rattle.paged_blob_parts.proofs.Done.{Done, Exact, done_keeps, done_synced, done_cut}

abbrev slot_or : Slot → Option (Slot × ℕ) → Slot
slot_or slot None = slot
slot_or slot (Some found) = found.0

module _ (sum : List ℕ → ℕ) (size : ℕ) where
  abbrev IsVerified : List ℕ → Slot → Type 0
  IsVerified shown slot = (verifies sum size slot shown ≡ true) × (slot_len size slot shown ≡ shown_len sum size shown)

  verified_with : (shown : List ℕ) (slot : Slot) → 0 < shown_len sum size shown → vouched_len sum size slot shown ≡ shown_len sum size shown
      → IsVerified shown slot
  verified_with shown slot some is =
      ⊎_elim (λ none. absurd (omega (arith, none, is, some))) (λ (ok, says). (ok, sym says ∙ is)) (vouched_cases sum size slot shown)

  -- the slot that counts, as the code finds it
  pub counted_found : (shown : List ℕ) → 0 < shown_len sum size shown
      → (slot : Slot) × (len : ℕ) × IsVerified shown slot × (counted_slot sum size shown ≡ Some (slot, len))
  unfolding shown_len counted_slot
  counted_found shown some =
      let first = vouched_len sum size First shown in
      let second = vouched_len sum size Second shown in
      ⊎_elim
      (λ less. (Second, second, verified_with shown Second some (omega (arith, less)), cond-true _ _ _ (lt-ltb first second less)))
      (λ more. (
        First,
        first,
        verified_with shown First some (omega (arith, more)),
        cond-false _ _ _ (le-ltb first second more) ∙ cond-true _ _ _ (lt-ltb 0 first (omega (arith, more, some))),
      ))
      (cases_lt first second)

  -- so where the code finds one, it is that, and it does find one
  pub found_one : (shown : List ℕ) (slot : Slot) (len : ℕ) → 0 < shown_len sum size shown → counted_slot sum size shown ≡ Some (slot, len)
      → IsVerified shown slot
  found_one shown slot len some is =
      let f = counted_found shown some in
      let slot_is : f.0 ≡ slot = ap (slot_or slot) (sym f.3 ∙ is) in
      subst (IsVerified shown) slot_is f.2

  pub found_none : (shown : List ℕ) → 0 < shown_len sum size shown → counted_slot sum size shown ≡ None → ⊥
  found_none shown some is =
      let f = counted_found shown some in
      let same = sym f.3 ∙ is in
      cc

-- what a call that succeeds leaves of the flag
pub still_sound : (failed : Bool) → failed ≡ false → (failed || not true) ≡ false
still_sound failed is = ap (λ b. b || false) is

module _ (sum : List ℕ → ℕ) (size : ℕ) (footer : 12 < size) (calls : List Call) (settled : (file_of calls).changes ≡ []) (page part : ℕ)
    (short : part < content_size size) (within : page * content_size size + part ≤ length (recovered sum size (file_of calls).base)) where
  abbrev live : List ℕ
  live = (file_of calls).base

  abbrev old : List ℕ
  old = recovered sum size live

  abbrev IsDone : List Call → Type 0
  IsDone now = Done sum size footer old (length live) page part now

  abbrev KeepsOld : List Call → Type 0
  KeepsOld now = Keeps sum size old (page * content_size size + part) now

  pub live_is : content calls ≡ live
  live_is = ap (whole live) settled

  -- the whole pages are there
  pub pages_there : page * size ≤ length live
  pages_there = (proven_pages sum size footer page live (omega (arith, within))).there

  pub last_there : 0 < part → (page + 1) * size ≤ length live
  last_there some = reached sum size footer page live (omega (arith, within, some))

  pub start_done : IsDone calls
  start_done =
      let f = file_of calls in
      let fresh : List Change → File = λ changes. record { base = f.base; changes = changes; failed = f.failed } in
      let P : List Change → Type 0 = λ changes. Stage sum size footer old (length live) page (fresh changes) in
      let Q : List Change → Type 0 = λ changes. 0 < part → (slot : Slot) × SureSlot sum size footer part (fresh changes) page slot in
      let last : Q [] = λ some.
      let c = counts sum size footer page live (omega (arith, within, some)) in
      let room : min (content_size size) (length old - page * content_size size) ≤ slot_len size c.slot (page_at size page live) =
      omega (arith, c.shares, c.says) in
      (c.slot, sure_base sum size footer part live f.failed page c.slot c.verified (omega (arith, room, short, within)) c.reach) in
      record {
        stage = subst P (sym settled) (first_stage sum size footer live f.failed page (omega (arith, within)));
        last = subst Q (sym settled) last;
      }

  pub start_moments : Through KeepsOld calls calls
  start_moments = here (done_keeps sum size footer old (length live) page part short within calls start_done)

  -- cut behind so many pages
  pub resized_done : (count : ℕ) (ok : Bool) → page ≤ count → (0 < part → page + 1 ≤ count) → count * size ≤ length live
      → IsDone (resized_to (count * size) ok ∷ calls)
  resized_done count ok enough more there =
      let f = file_of calls in
      let now = whole f.base f.changes in
      let end = count * size in
      let long = length-resized end now in
      let in_now : end ≤ length now = omega (arith, there, ap length live_is) in
      let failed = (file_of (resized_to end ok ∷ calls)).failed in
      let pages : page * size ≤ count * size = mul-le-mul_right size enough in
      record {
        stage = stage_change sum size footer old (length live) page f (resize end) failed start_done.stage
            (holds_resized sum size footer old (length live) now count in_now (stage_holds sum size footer old (length live) page f start_done.stage))
            (omega (arith, long, there)) (omega (arith, long, pages))
            (λ k below slot.
            let next : (k + 1) * size ≤ count * size = mul-le-mul_right size (omega (arith, below, enough)) in
            resize_avoids size footer end k slot next);
        last = λ some.
            let s = start_done.last some in
            let next : (page + 1) * size ≤ count * size = mul-le-mul_right size (more some) in (
              s.0,
              sure_change sum size footer part f (resize end) failed page s.0 s.1 (resize_avoids size footer end page s.0 next)
                  (omega (arith, long, next)),
            );
      }

  pub resized_moments : {T : Type 0} (result : Result T Error) (place count : ℕ) (new : List Call) → place ≡ count * size → page ≤ count
      → (0 < part → page + 1 ≤ count) → count * size ≤ length live → Records result (resized_to place) calls new → Through KeepsOld calls new
  resized_moments result place count new is enough more there records =
      goes_on KeepsOld calls calls new result (resized_to place) start_moments records
      (λ ok.
      let P : ℕ → Type 0 = λ n. KeepsOld (resized_to n ok ∷ calls) in
      subst P (sym is)
      (done_keeps sum size footer old (length live) page part short within (resized_to (count * size) ok ∷ calls) (resized_done count ok enough more there)))

  -- the last sync
  pub sync_moments : {T : Type 0} (result : Result T Error) (mid new : List Call) → IsDone mid → (file_of mid).failed ≡ false
      → Through KeepsOld calls mid
      → RecordsSync result mid new → Through KeepsOld calls new
  sync_moments result mid new d sound so_far records =
      goes_on_sync KeepsOld calls mid new result so_far records
      (λ bytes durable. done_synced sum size footer old (length live) page part short within mid bytes d (durable.content sound))
      (done_keeps sum size footer old (length live) page part short within mid d)

  -- a sync that succeeds leaves exactly the pages of what is left
  pub synced_cut : (mid new : List Call) (count : ℕ) → IsDone mid → (file_of mid).failed ≡ false
      → Exact sum size footer old (length live) page part (content mid) count
      → (bytes : List ℕ) × MakesDurable mid bytes × (new ≡ synced bytes true ∷ mid)
      → IsCut sum size (take (page * content_size size + part) old) new
  synced_cut mid new count d sound exact (bytes, durable, is) =
      subst (IsCut sum size (take (page * content_size size + part) old)) (sym is)
      (done_cut sum size footer old (length live) page part short within mid bytes count d (durable.content sound) exact)

  pub synced_cut_if : {T : Type 0} (result : Result T Error) (mid new : List Call) (count : ℕ) → IsDone mid → (file_of mid).failed ≡ false
      → Exact sum size footer old (length live) page part (content mid) count → RecordsSync result mid new
      → OnOk result (IsCut sum size (take (page * content_size size + part) old) new)
  synced_cut_if (Ok t) mid new count d sound exact records = synced_cut mid new count d sound exact records
  synced_cut_if (Err e) mid new count d sound exact records = tt

  -- what is there once it is cut behind the whole pages
  pub behind_exact : (ok : Bool) → part ≡ 0 → Exact sum size footer old (length live) page part (content (resized_to (page * size) ok ∷ calls)) page
  behind_exact ok none = record {
    long = length-resized (page * size) (content calls);
    full = λ _. refl;
    more = λ some. absurd (omega (arith, some, none));
    only = λ some. absurd (omega (arith, some, none));
  }

  -- some of the page is content
  pub some_shown : 0 < part → 0 < shown_len sum size (page_at size page live)
  some_shown some =
      let c = counts sum size footer page live (omega (arith, within, some)) in
      omega (arith, c.shares, within, some, footer)

  -- the slot that counts vouches for as much
  pub last_page : (counted : Slot) (len crc : ℕ) → 0 < part → counted_slot sum size (page_at size page live) ≡ Some (counted, len)
      → crc ≡ sum (take part (page_at size page live)) → IsLastPage sum size live page counted part crc
  last_page counted len crc some found sums =
      let f = found_one sum size (page_at size page live) counted len (some_shown some) found in
      let c = counts sum size footer page live (omega (arith, within, some)) in
      record {
        some = some;
        part = short;
        there = last_there some;
        reached = within;
        counts = f.0;
        says = omega (arith, f.1, c.shares, within, short);
        sums = sums;
      }

  -- cut behind the page
  pub trimmed : (counted : Slot) (crc : ℕ) → IsLastPage sum size live page counted part crc → (file_of calls).failed ≡ false
      → IsTrimmed sum size (resized_to ((page + 1) * size) true ∷ calls) page counted part crc
  trimmed counted crc last sound = record {
    sound = still_sound (file_of calls).failed sound;
    trimmed = ap (λ changes. resize ((page + 1) * size) ∷ changes) settled;
    last = last;
  }

  -- where one slot stands alone no other says more
  pub alone_exact : (now : List ℕ) (slot : Slot) (crc : ℕ) → 0 < part → part < 2 ^ 16 → length now ≡ (page + 1) * size
      → StandsAlone size (page_at size page now) slot part crc → Exact sum size footer old (length live) page part now (page + 1)
  alone_exact now slot crc some small long alone = record {
    long = long;
    full = λ none. absurd (omega (arith, none, some));
    more = λ _. refl;
    only = λ _ there ok. ⊎_elim
        (λ same.
        let P : Slot → Type 0 = λ w. slot_len size w (page_at size page now) ≤ part in
        let says = says_len size footer slot (page_at size page now) part crc small alone.says in
        let said : P slot = omega (arith, says) in
        subst P (sym same) said)
        (λ other.
        let P : Slot → Type 0 = λ w. slot_len size w (page_at size page now) ≤ part in
        let none = says_len size footer (other_slot slot) (page_at size page now) 0 0 (omega arith) alone.cleared in
        let said : P (other_slot slot) = omega (arith, none) in
        subst P (ap other_slot other ∙ twice_other there) said)
        (which there slot);
  }

  -- what is left once one slot stands alone
  pub record Left (now : List Call) (slot : Slot) (crc : ℕ) : Type 0 where
    pub done : IsDone now
    pub sound : (file_of now).failed ≡ false
    pub long : length (content now) ≡ (page + 1) * size
    pub alone : StandsAlone size (page_at size page (content now)) slot part crc

  left_as_it_was : (counted : Slot) (crc : ℕ) → 0 < part → (file_of calls).failed ≡ false
      → StandsAlone size (page_at size page live) counted part crc → Left (resized_to ((page + 1) * size) true ∷ calls) counted crc
  left_as_it_was counted crc some sound alone =
      let end = (page + 1) * size in
      let now = content calls in
      let P : List ℕ → Type 0 = λ bytes. StandsAlone size (page_at size page bytes) counted part crc in
      let here_too : P now = subst P (sym live_is) alone in
      let there : end ≤ length now = omega (arith, last_there some, ap length live_is) in
      let long = length-resized end now in
      let same : (slot : Slot) → SameSlot size footer page slot now (changed (resize end) now) = λ slot.
      avoided_same size footer (resize end) page slot now (resize_avoids size footer end page slot (omega arith)) there (omega (arith, long)) in
      record {
        done = resized_done (page + 1) true (omega arith) (λ _. omega arith) (last_there some);
        sound = still_sound (file_of calls).failed sound;
        long = long;
        alone = record {
          says = same_slot sum size footer page counted now (changed (resize end) now) (same counted) ∙ here_too.says;
          cleared = same_slot sum size footer page (other_slot counted) now (changed (resize end) now) (same (other_slot counted)) ∙ here_too.cleared;
        };
      }

  left_by_other : (counted : Slot) (crc : ℕ) → IsLastPage sum size live page counted part crc → part < 2 ^ 16 → crc < 2 ^ 32
      → (file_of calls).failed ≡ false
      → Left (handed_over size page counted part crc (resized_to ((page + 1) * size) true ∷ calls)) (other_slot counted) crc
  left_by_other counted crc last small fits sound =
      let cut = resized_to ((page + 1) * size) true ∷ calls in
      let t = trimmed counted crc last sound in
      let p = third_here sum size footer cut page counted part crc t small fits true in
      let says = third_says sum size footer live page counted part crc last (slot_at size page (other_slot counted)) refl small fits (file_of cut)
      (slot_at size page counted) true refl (trimmed_here sum size footer cut page counted part crc t small fits) in
      let first = still_sound (file_of calls).failed sound in
      let second = still_sound (file_of cut).failed first in
      let b = (file_of cut).failed || false in
      let third = still_sound b second in
      let after = page_at size page (content (handed_over size page counted part crc cut)) in
      record {
        done = record { stage = p.stage; last = λ _. (other_slot counted, p.sure) };
        sound = still_sound (b || false) third;
        long = p.long;
        alone = record { says = says.0; cleared = ap (λ slot. slot_in size slot after) (twice_other counted) ∙ says.1 };
      }

  pub left_alone : (counted slot : Slot) (crc : ℕ) (mid new : List Call) → IsLastPage sum size live page counted part crc → part < 2 ^ 16 → crc < 2 ^ 32
      → (file_of calls).failed ≡ false → mid ≡ resized_to ((page + 1) * size) true ∷ calls → IsLeftAlone size page counted part crc mid new slot
      → Left new slot crc
  left_alone counted slot crc mid new last small fits sound mid_is left =
      let cut = resized_to ((page + 1) * size) true ∷ calls in
      let P : List Call → Type 0 = λ l. IsLeftAlone size page counted part crc l new slot in
      ⊎_elim
      (λ (slot_is, same, alone).
      let l = left_as_it_was counted crc last.some sound alone in
      let Q : List Call → Type 0 = λ now. Left now slot crc in
      let R : Slot → Type 0 = λ w. Left cut w crc in
      subst Q (sym same) (subst R (sym slot_is) l))
      (λ (slot_is, handed).
      let l = left_by_other counted crc last small fits sound in
      let Q : List Call → Type 0 = λ now. Left now slot crc in
      let R : Slot → Type 0 = λ w. Left (handed_over size page counted part crc cut) w crc in
      subst Q (sym handed) (subst R (sym slot_is) l))
      (subst P mid_is left)

  -- the page that is handed back
  pub is_last : (now : List ℕ) (slot : Slot) (crc : ℕ) (last : LastPage) → 0 < part → last.slot ≡ slot → last.crc ≡ crc
      → last.bytes.items ≡ take part (page_at size page live) → StandsAlone size (page_at size page now) slot part crc
      → IsLast size (take (page * content_size size + part) old) now last
  is_last now slot crc last some slot_is crc_is bytes_are alone =
      let room = content_size size in
      let kept = page * room + part in
      let cut_long : length (take kept old) ≡ kept = length-take-le kept old within in
      let at : length (take kept old) / room ≡ page = ap (λ n. n / room) cut_long ∙ div-mul-add page room part short in
      let s = page_shown sum size footer page live (omega (arith, within)) (last_there some) in
      let v = shown_len sum size (page_at size page live) in
      let c = counts sum size footer page live (omega (arith, within, some)) in
      let enough : part ≤ v = omega (arith, c.shares, within, short) in
      let front : take part (page_at size page live) ≡ take part (from_page size page old) =
      sym (take-take part v (page_at size page live) enough) ∙ ap (take part) s.same ∙ take-take part v (from_page size page old) enough in
      let rest : from_page size page (take kept old) ≡ take part (from_page size page old) = drop-take (page * room) part old in
      let bytes_is = bytes_are ∙ front ∙ sym rest in
      let long : length last.bytes.items ≡ part = omega (arith, ap length bytes_is, length-drop (page * room) (take kept old), cut_long) in
      let P : ℕ → Type 0 = λ k. StandsAlone size (page_at size k now) last.slot (length last.bytes.items) last.crc in
      let Q : Slot → Type 0 = λ w. StandsAlone size (page_at size page now) w (length last.bytes.items) last.crc in
      let R : ℕ → Type 0 = λ n. StandsAlone size (page_at size page now) slot n last.crc in
      let S : ℕ → Type 0 = λ n. StandsAlone size (page_at size page now) slot part n in
      record {
        some = omega (arith, long, some);
        bytes = bytes_is ∙ sym (ap (λ k. from_page size k (take kept old)) at);
        alone = subst P (sym at) (subst Q (sym slot_is) (subst R (sym long) (subst S (sym crc_is) alone)));
      }

  -- the page as it is read
  pub read_page : (at : ℕ) (bytes : List ℕ) → at ≡ page * size → (file_of calls).failed ≡ false → IsSlice (file_of calls) at size bytes
      → bytes ≡ page_at size page live
  read_page at bytes is sound slice =
      (sliced calls at size bytes sound slice).1 ∙ ap (λ n. take size (drop n (content calls))) is ∙ ap (λ l. take size (drop (page * size) l)) live_is

  pub read_long : 0 < part → length (page_at size page live) ≡ size
  read_long some = length-take-le size (drop (page * size) live) (omega (arith, length-drop (page * size) live, last_there some))

  -- and what counts in it
  pub counted_here : (bytes : List ℕ) (found : Option (Slot × ℕ)) → 0 < part → bytes ≡ page_at size page live
      → found ≡ counted_slot sum (length bytes) bytes → counted_slot sum size (page_at size page live) ≡ found
  counted_here bytes found some is counts_is =
      let long : length bytes ≡ size = ap length is ∙ read_long some in
      sym (counts_is ∙ ap (λ n. counted_slot sum n bytes) long ∙ ap (counted_slot sum size) is)

  -- why that read may be refused, the cut may: the page is there
  pub read_cause : (failures : Failures) (error : Error) → 0 < part → (file_of calls).failed ≡ false
      → IsReadCause failures (file_of calls) (page * size) size error → IsCutCause failures (length live) error
  read_cause failures (Injected injected) some sound cause = tt
  read_cause failures BlobMissing some sound cause = cause
  read_cause failures BlobInsufficientLength some sound cause =
      let is : cause.live ≡ content calls = cause.found.content sound in
      omega (arith, cause.short, ap length is, ap length live_is, last_there some)
  read_cause failures NumberEnded some sound (inl past) = inl (omega (arith, past, last_there some))
  read_cause failures NumberEnded some sound (inr ended) = inr ended
  read_cause failures Memory some sound cause = tt
  read_cause failures PowerCut some sound cause = tt
  read_cause failures ChecksumMismatch some sound cause = absurd cause

-- why one of its calls may be refused, the cut may
pub call_cause : (failures : Failures) (kind : CallKind) (reach most : ℕ) (error : Error) → reach ≤ most → IsCause failures kind reach error
    → IsCutCause failures most error
call_cause failures kind reach most (Injected injected) fits cause = tt
call_cause failures kind reach most BlobMissing fits cause = cause
call_cause failures kind reach most BlobInsufficientLength fits cause = absurd cause
call_cause failures kind reach most NumberEnded fits (inl past) = inl (omega (arith, fits, past))
call_cause failures kind reach most NumberEnded fits (inr ended) = inr ended
call_cause failures kind reach most Memory fits cause = tt
call_cause failures kind reach most PowerCut fits cause = tt
call_cause failures kind reach most ChecksumMismatch fits cause = absurd cause

pub fewer_cause : (failures : Failures) (reach most : ℕ) (error : Error) → reach ≤ most → IsCutCause failures reach error
    → IsCutCause failures most error
fewer_cause failures reach most (Injected injected) fits cause = tt
fewer_cause failures reach most BlobMissing fits cause = cause
fewer_cause failures reach most BlobInsufficientLength fits cause = absurd cause
fewer_cause failures reach most NumberEnded fits (inl past) = inl (omega (arith, fits, past))
fewer_cause failures reach most NumberEnded fits (inr ended) = inr ended
fewer_cause failures reach most Memory fits cause = tt
fewer_cause failures reach most PowerCut fits cause = tt
fewer_cause failures reach most ChecksumMismatch fits cause = absurd cause

-- a sync that succeeds is the last call
pub ends_by : {T : Type 0} (result : Result T Error) (old new : List Call) → RecordsSync result old new → OnOk result (EndsWithSync new)
ends_by (Ok _) old new (bytes, made, is) = (bytes, old, is)
ends_by (Err _) old new records = tt
