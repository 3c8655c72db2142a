-- Whole pages that are read, and kept.
use Rattle.std.proofs.Common.{◌≡◌, ℕ, ◌+◌, ◌-◌, ◌*◌, ◌/◌, ◌%◌, ◌<◌}
use Rattle.std.proofs.Common.{◌≤◌, false, min, List, [], ◌++◌, length, take, drop, sym, ◌∙◌, ap}
use Rattle.std.proofs.Common.{Contains, inl, inr, refl, ⊎_elim, arith}
use Rattle.std.proofs.lemmas.Bool.{cases_lt}
use Rattle.std.proofs.Math.Seq.{take-append-add, drop-append-add}
use Rattle.std.proofs.lemmas.List.{append-nil, take_at, drop_all, take-append-le, drop-append-le, length-append}
use Rattle.std.proofs.lemmas.List.{take-take, take_all, drop-take, drop-drop, length-take, length-take-le, length-drop}
use borrow.Rule.Slice.PartMut.{put_mid}
use Rattle.std.proofs.lemmas.Slice.{take-put_mid}
use Rattle.std.proofs.Math.Nat.{le-div_iff_mul-le, mul-le-mul_right}
use Rattle.paged_format.specs.Footers.{content_size}
use Rattle.paged_format.specs.Pages.{shown_len, recovered}
use Rattle.paged_format.specs.Laws.Pages.{shown_within, length_recovered-whole}
use Rattle.paged_blob_parts.specs.Calls.{Call, file_of, content}
use Rattle.paged_blob_parts.specs.Chance.{page_at}
use Rattle.paged_blob_parts.specs.Caches.{Cache, Page, AreGiven}
use Rattle.paged_blob_parts.specs.Answers.{Failures, IsCause, IsReadCause}
use Rattle.paged_blob_parts.specs.Writers.{from_page}
use Rattle.paged_blob_parts.specs.Reads.{ServesPages, StaysKept}
use Rattle.paged_blob_parts.specs.Laws.Durable.{further}
use Rattle.paged_blob_parts.specs.declared.error.CallKind.TheVariants.{Read}
use Rattle.paged_blob_parts.specs.declared.error.Error.{Error}
use Rattle.paged_blob_parts.specs.declared.error.Error.TheVariants.{Injected, BlobMissing, BlobInsufficientLength}
use Rattle.paged_blob_parts.specs.declared.error.Error.TheVariants.{NumberEnded, Memory, PowerCut, ChecksumMismatch}
use Rattle.paged_blob_parts.proofs.CachedLaws.{holds_pages_given}
use Rattle.paged_blob_parts.proofs.Scanned.{proven_pages}
use Rattle.paged_blob_parts.proofs.Shown.{page_shown}

module _ (sum : List ℕ → ℕ) (size : ℕ) (footer : 12 < size) (live : List ℕ) (page : ℕ)
    (whole : (page + 1) * content_size size ≤ length (recovered sum size live)) where
  pub whole_there : (page + 1) * size ≤ length live
  whole_there = (proven_pages sum size footer (page + 1) live whole).there

  -- a page that what is recovered passes is whole
  pub whole_shown : shown_len sum size (page_at size page live) ≡ content_size size
  whole_shown =
      let v = shown_len sum size (page_at size page live) in
      let most = shown_within sum size (page_at size page live) in
      let s = page_shown sum size footer page live (omega (arith, whole)) whole_there in
      let left = length-drop (page * content_size size) (recovered sum size live) in
      ⊎_elim
      (λ less. absurd (omega (arith, s.ends less, left, whole, less)))
      (λ more. omega (arith, most, more))
      (cases_lt v (content_size size))

  -- and begins with its content
  pub whole_content : take (content_size size) (page_at size page live) ≡ page_at (content_size size) page (recovered sum size live)
  whole_content =
      let s = page_shown sum size footer page live (omega (arith, whole)) whole_there in
      ap (λ n. take n (page_at size page live)) (sym whole_shown) ∙ s.same ∙ ap (λ n. take n (from_page size page (recovered sum size live))) whole_shown

  -- alone, it shows all of it
  pub whole_alone : (bytes : List ℕ) → bytes ≡ page_at size page live → content_size size ≤ length (recovered sum size bytes)
  whole_alone bytes is =
      let long : length bytes ≡ size = ap length is ∙ length-take-le size (drop (page * size) live)
      (omega (arith, whole_there, length-drop (page * size) live)) in
      let first : take size bytes ≡ page_at size page live = take_all size bytes (omega (arith, long)) ∙ is in
      let full : shown_len sum size (take size bytes) ≡ content_size size = ap (shown_len sum size) first ∙ whole_shown in
      omega (arith, length_recovered-whole sum size bytes (omega (arith, footer)) (omega (arith, long)) full)

-- why a read of a page that is there may be refused
pub page_cause : (failures : Failures) (calls : List Call) (page size : ℕ) (error : Error) → (file_of calls).failed ≡ false
    → (page + 1) * size ≤ length (content calls)
    → IsReadCause failures (file_of calls) (page * size) size error → IsCause failures Read ((page + 1) * size) error
page_cause failures calls page size (Injected injected) sound there cause = cause
page_cause failures calls page size BlobMissing sound there cause = cause
page_cause failures calls page size BlobInsufficientLength sound there cause =
    omega (arith, cause.short, ap length (cause.found.content sound), there)
page_cause failures calls page size NumberEnded sound there (inl past) = inl (omega (arith, past))
page_cause failures calls page size NumberEnded sound there (inr ended) = inr ended
page_cause failures calls page size Memory sound there cause = tt
page_cause failures calls page size PowerCut sound there cause = tt
page_cause failures calls page size ChecksumMismatch sound there cause = absurd cause

pub further_cause : (failures : Failures) (reach most : ℕ) (error : Error) → reach ≤ most → IsCause failures Read reach error
    → IsCause failures Read most error
further_cause failures reach most (Injected injected) fits cause = cause
further_cause failures reach most BlobMissing fits cause = cause
further_cause failures reach most BlobInsufficientLength fits cause = absurd cause
further_cause failures reach most NumberEnded fits (inl past) = inl (omega (arith, fits, past))
further_cause failures reach most NumberEnded fits (inr ended) = inr ended
further_cause failures reach most Memory fits cause = tt
further_cause failures reach most PowerCut fits cause = tt
further_cause failures reach most ChecksumMismatch fits cause = absurd cause

-- where a whole page ends on the blob
pub page_ends : (page count room size : ℕ) → 0 < room → (page + 1) * room ≤ count → (page + 1) * size ≤ count / room * size
page_ends page count room size some whole =
    mul-le-mul_right size ((le-div_iff_mul-le {k = room} {x = page + 1} {y = count} some).1 whole)

-- a page of a beginning
pub page_of_front : (room page count : ℕ) (bytes : List ℕ) → (page + 1) * room ≤ count
    → page_at room page (take count bytes) ≡ page_at room page bytes
page_of_front room page count bytes whole =
    let rest = count - page * room in
    let split : count ≡ page * room + rest = omega (arith, whole) in
    ap (λ n. take room (drop (page * room) (take n bytes))) split ∙ ap (take room) (drop-take (page * room) rest bytes)
    ∙ take-take room rest (drop (page * room) bytes) (omega (arith, whole))

-- a piece of a page
pub piece_of : (room page from count : ℕ) (bytes : List ℕ) → from + count ≤ room
    → take count (drop from (page_at room page bytes)) ≡ take count (drop (page * room + from) bytes)
piece_of room page from count bytes within =
    let rest = room - from in
    let split : room ≡ from + rest = omega (arith, within) in
    let start = drop (page * room) bytes in
    ap (λ n. take count (drop from (take n start))) split ∙ ap (take count) (drop-take from rest start)
    ∙ take-take count rest (drop from start) (omega (arith, within)) ∙ ap (take count) (drop-drop from (page * room) bytes)

-- so many whole pages, and a part of the next
pub parts : (n from size : ℕ) → from ≡ size → 12 < size → n / (from - 12) * content_size size + n % (from - 12) ≡ n
parts n from size is footer =
    let room : 0 < from - 12 = omega (arith, is, footer) in
    let same : n / (from - 12) * (size - 12) ≡ n / (from - 12) * (from - 12) = ap (λ s. n / (from - 12) * (s - 12)) (sym is) in
    omega (arith, same, room)

-- a slice with one piece more
pub one_more : (all out piece : List ℕ) (offset done count span at : ℕ) → span ≡ done + count - done → done + count ≤ length out
    → offset + length out ≤ length all → at ≡ offset + done → piece ≡ take (length (take span (drop done out))) (drop at all)
    → take done out ≡ take done (drop offset all) → take (done + count) (put_mid done span out piece) ≡ take (done + count) (drop offset all)
one_more all out piece offset done count span at span_is within there at_is is before =
    let rest = drop offset all in
    let count_is : length (take span (drop done out)) ≡ count =
    length-take-le span (drop done out) (omega (arith, span_is, within, length-drop done out)) ∙ omega (arith, span_is) in
    let next : drop at all ≡ drop done rest = ap (λ n. drop n all) at_is ∙ sym (drop-drop done offset all) in
    let piece_is : piece ≡ take count (drop done rest) = is ∙ ap (λ n. take n (drop at all)) count_is ∙ ap (take count) next in
    let left : length rest ≡ length all - offset = length-drop offset all in
    let long : length piece ≡ count = ap length piece_is
    ∙ length-take-le count (drop done rest) (omega (arith, left, there, within, length-drop done rest)) in
    take-put_mid done span out piece (done + count) (omega (arith, long)) (omega (arith, within))
    ∙ ap (λ l. l ++ piece) before ∙ ap (λ l. take done rest ++ l) piece_is ∙ further done count rest (omega (arith, left, there, within))

pub longer : (n : ℕ) (now is : List ℕ) → take n now ≡ is → length is ≡ n → n ≤ length now
longer n now is same long = omega (arith, ap length same, length-take n now, long)

-- a slice of the content: what of it is on the blob, then what of it is in memory
pub slice_of_both : (all tip front back : List ℕ) (count offset n k from start : ℕ) → length all ≡ count → k ≡ min (count - offset) n
    → from ≡ offset - count
    → start ≡ min offset count → offset + n ≤ count + length tip → front ≡ take k (drop start all) → back ≡ take (n - k) (drop from tip)
    → front ++ back ≡ take n (drop offset (all ++ tip))
slice_of_both all tip front back count offset n k from start long k_is from_is start_is fits front_is back_is =
    ⊎_elim
    (λ past.
    let none : k ≡ 0 = omega (arith, k_is, past) in
    let nothing : front ≡ [] = front_is ∙ ap (λ m. take m (drop start all)) none in
    let split : offset ≡ length all + (offset - count) = omega (arith, long, past) in
    let rest : drop offset (all ++ tip) ≡ drop (offset - count) tip =
    ap (λ m. drop m (all ++ tip)) split ∙ drop-append-add all tip (offset - count) in
    let all_of : n - k ≡ n = omega (arith, none) in
    ap (λ l. l ++ back) nothing ∙ back_is ∙ ap (λ m. take m (drop from tip)) all_of ∙ ap (λ m. take n (drop m tip)) from_is ∙ sym (ap (take n) rest))
    (λ within.
    let left = drop offset all in
    let left_long : length left ≡ count - offset = length-drop offset all ∙ ap (λ m. m - offset) long in
    let rest : drop offset (all ++ tip) ≡ left ++ tip = drop-append-le offset all tip (omega (arith, long, within)) in
    let start_at : start ≡ offset = omega (arith, start_is, within) in
    let from_zero : from ≡ 0 = omega (arith, from_is, within) in
    let first : front ≡ take k left = front_is ∙ ap (λ m. take k (drop m all)) start_at in
    let second : back ≡ take (n - k) tip = back_is ∙ ap (λ m. take (n - k) (drop m tip)) from_zero in
    ⊎_elim
    (λ beyond.
    let k_all : k ≡ length left = omega (arith, k_is, left_long, beyond) in
    let split : n ≡ length left + (n - k) = omega (arith, k_all, beyond, left_long) in
    let whole : front ≡ left = first ∙ ap (λ m. take m left) k_all ∙ take_all (length left) left (omega arith) in
    ap (λ l. l ++ back) whole ∙ ap (λ l. left ++ l) second ∙ sym (take-append-add left tip (n - k)) ∙ sym (ap (λ m. take m (left ++ tip)) split)
    ∙ sym (ap (take n) rest))
    (λ inside.
    let k_n : k ≡ n = omega (arith, k_is, left_long, inside) in
    let no_more : n - k ≡ 0 = omega (arith, k_n) in
    let nothing : back ≡ [] = second ∙ ap (λ m. take m tip) no_more in
    ap (λ l. front ++ l) nothing ∙ append-nil front ∙ first ∙ ap (λ m. take m left) k_n
    ∙ sym (take-append-le n left tip (omega (arith, inside, left_long)))
    ∙ sym (ap (take n) rest))
    (cases_lt (count - offset) n))
    (cases_lt count offset)

-- the two pieces as they are laid into a buffer
pub laid_both : (out front back : List ℕ) (k : ℕ) → length front ≡ k → k ≤ length out → length back ≡ length out - k
    → put_mid k (length (front ++ drop k out) - k) (front ++ drop k out) back ≡ front ++ back
laid_both out front back k long fits back_long =
    let now = front ++ drop k out in
    let now_long : length now ≡ length out = length-append front (drop k out) ∙ omega (arith, long, fits, length-drop k out) in
    let rest = length now - k in
    let none : drop rest (drop k now) ≡ [] = drop_all rest (drop k now) (omega (arith, length-drop k now)) in
    ap (λ l. l ++ (back ++ drop rest (drop k now))) (take_at front (drop k out) k long) ∙ ap (λ l. front ++ (back ++ l)) none
    ∙ ap (λ l. front ++ l) (append-nil back)

-- of a content that goes on from these bytes, the pages that they reach are theirs
pub page_of_joined : (room page : ℕ) (all more : List ℕ) → (page + 1) * room ≤ length all → page_at room page (all ++ more) ≡ page_at room page all
page_of_joined room page all more whole =
    sym (page_of_front room page (length all) (all ++ more) whole) ∙ ap (page_at room page) (take_at all more (length all) refl)

-- a page that is kept of a content that goes on from these bytes is theirs, where they reach it
pub kept_page : (room : ℕ) (all : List ℕ) (cache : Cache) (blob_id : ℕ) (page : Page) → cache.page_size ≡ room → ServesPages all cache blob_id
    → Contains cache.pages page → page.blob_id ≡ blob_id → (page.number + 1) * room ≤ length all → page.bytes ≡ page_at room page.number all
kept_page room all cache blob_id page sizes (more, holds) there named whole =
    (holds.each page there named).1 ∙ ap (λ s. page_at s page.number (all ++ more)) sizes ∙ page_of_joined room page.number all more whole

-- it is whole
pub kept_long : (room : ℕ) (all : List ℕ) (page : Page) → page.bytes ≡ page_at room page.number all → (page.number + 1) * room ≤ length all
    → length page.bytes ≡ room
kept_long room all page is whole =
    ap length is ∙ length-take-le room (drop (page.number * room) all) (omega (arith, whole, length-drop (page.number * room) all))

-- where a whole page of these bytes is given, the pages of whatever goes on from them stay kept
pub stays_given : (size page : ℕ) (all bytes : List ℕ) (old new : Cache) (blob_id given_first : ℕ) → 12 < size → old.page_size ≡ content_size size
    → new.page_size ≡ old.page_size → given_first ≡ page → (page + 1) * content_size size ≤ length all
    → bytes ≡ page_at (content_size size) page all
    → AreGiven old.pages new.pages blob_id given_first old.page_size bytes (length bytes / old.page_size) → StaysKept all old new blob_id
stays_given size page all bytes old new blob_id given_first footer sizes same first whole is given = λ more holds.
    let room = content_size size in
    let long = length-append all more in
    holds_pages_given size page room footer (all ++ more) bytes old new blob_id given_first sizes same first
    (is ∙ sym (page_of_joined room page all more whole)) (omega (arith, long, whole, length-drop (page * room) (all ++ more))) given holds
