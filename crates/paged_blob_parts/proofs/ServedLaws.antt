-- Slices that are served from memory, and many slices at once.
use Rattle.std.proofs.Common.{◌≡◌, ◌⊎◌, ℕ, ◌+◌, ◌-◌, ◌*◌, ◌/◌, ◌%◌, ◌<◌, ◌≤◌, true, List, [], ◌∷◌, ◌++◌}
use Rattle.std.proofs.Common.{length, get_or, take, drop, sym, ◌∙◌, ap, subst, inl, inr, refl, ⊎_elim, add-one, arith}
use Rattle.std.proofs.lemmas.Bool.{cases_lt, leb-true}
use Rattle.std.proofs.lemmas.List.{append-nil, nil_from_length, take_all, take-append-le, drop-append-le, length-drop, length-take-le}
use Rattle.std.proofs.lemmas.List.Sums.{sum_by-cons, sum_by_more, sum_by_more_le, AllPass-from_list_all}
use Rattle.std.proofs.lemmas.Grind.{flat_map-append}
use Rattle.std.proofs.lemmas.Nat.{mul-le, div-add-mod', div-mul-add, div_below}
use Rattle.std.proofs.lemmas.Slice.{take-put_mid}
use Rattle.std.proofs.Math.Seq.{take-suc}
use borrow.Rule.Slice.PartMut.{put_mid}
use Rattle.paged_format.specs.Footers.{content_size}
use Rattle.paged_blob_parts.specs.Answers.{Failures}
use Rattle.paged_blob_parts.specs.Caches.{Cache}
use Rattle.paged_blob_parts.specs.Reads.{IsReadingCause, ServesPages, StaysKept}
use Rattle.paged_blob_parts.specs.Calls.{Call}
use Rattle.paged_blob_parts.specs.Stands.{Stand, on_blob}
use Rattle.paged_blob_parts.specs.Served.{slice_at, slices, total, items_of, are_within, IsRangesCause, IsServed, Serves, AreServed}
use Rattle.paged_blob_parts.specs.declared.read.FlushedPages.{FlushedPages}
use Rattle.paged_blob_parts.specs.declared.error.Error.{Error}
use Rattle.paged_blob_parts.specs.declared.error.Error.TheVariants.{Injected, BlobMissing, BlobInsufficientLength}
use Rattle.paged_blob_parts.specs.declared.error.Error.TheVariants.{NumberEnded, Memory, PowerCut, ChecksumMismatch}
use Rattle.paged_blob_parts.proofs.StandLaws.{long}

-- in a list that fills its pages the page of a byte is whole
pub page_whole : (n len room : ℕ) → 0 < room → n < len → len % room ≡ 0 → (n / room + 1) * room ≤ len
page_whole n len room some below whole =
    let all = div-add-mod' len room in
    let page = div_below n room (len / room) some (omega (arith, all, whole, below)) in
    let most = mul-le (n / room + 1) room (len / room) room (omega (arith, page)) (omega arith) in
    omega (arith, most, all, whole)

-- what holds of the pages of some bytes, and of the page behind them, holds of those of some bytes more of it
pub further_kept : (P : ℕ → Type 0) (room offset done count : ℕ) → 0 < room → count + (offset + done) % room ≤ room
    → ((i : ℕ) → offset ≤ i → i < offset + done → P (i / room)) → P ((offset + done) / room)
    → (i : ℕ) → offset ≤ i → i < offset + (done + count) → P (i / room)
further_kept P room offset done count some fits before here i from below =
    let at = offset + done in
    let start = at / room * room in
    let split = div-add-mod' at room in
    ⊎_elim
    (λ less. before i from less)
    (λ more.
    let rest : i ≡ start + (i - start) = omega (arith, split, more) in
    let inside : i - start < room = omega (arith, split, below, fits, more) in
    let same : i / room ≡ at / room = ap (λ n. n / room) rest ∙ div-mul-add (at / room) room (i - start) inside in
    subst P (sym same) here)
    (cases_lt i at)

-- as many bytes from each offset on
pub total_items : (count : ℕ) (offsets : List ℕ) → total (items_of count offsets) ≡ length offsets * count
total_items count [] = omega arith
total_items count (offset ∷ offsets) =
    let more : (ℕ × ℕ) = (offset, count) in
    let so_far = total_items count offsets in
    let next = sum_by-cons (λ (range : ℕ × ℕ). range.1) more (items_of count offsets) in
    omega (arith, so_far, next)

-- the next of some ranges
module _ (ranges : List (ℕ × ℕ)) (k : ℕ) (below : k < length ranges) where
  abbrev pub next : ℕ × ℕ
  next = get_or ranges k (0, 0)

  pub one_more_total : total (take (k + 1) ranges) ≡ total (take k ranges) + next.1
  one_more_total = sum_by_more (λ (range : ℕ × ℕ). range.1) ranges k (0, 0) below

  pub within_total : total (take k ranges) + next.1 ≤ total ranges
  within_total = sum_by_more_le (λ (range : ℕ × ℕ). range.1) ranges k (0, 0) below

  next_taken : take (k + 1) ranges ≡ take k ranges ++ next ∷ []
  next_taken = rw add-one (take-suc ranges k (0, 0) below)

  -- it ends within the list, where all do
  pub next_within : (size : ℕ) → are_within size ranges ≡ true → next.0 + next.1 ≤ size
  next_within size all = leb-true _ _ (AllPass-from_list_all _ ranges all k (0, 0) below)

  -- why a read of it is refused is why the reads of all are
  pub ranges_cause : (failures : Failures) (page_size count size : ℕ) (error : Error) → are_within size ranges ≡ true
      → IsReadingCause failures page_size count size (next.0 + next.1) error → IsRangesCause failures page_size count size ranges error
  ranges_cause failures page_size count size (Injected kind) all cause = cause
  ranges_cause failures page_size count size BlobMissing all cause = cause
  ranges_cause failures page_size count size BlobInsufficientLength all cause = absurd (omega (arith, cause, next_within size all))
  ranges_cause failures page_size count size NumberEnded all cause = cause
  ranges_cause failures page_size count size Memory all cause = cause
  ranges_cause failures page_size count size PowerCut all cause = cause
  ranges_cause failures page_size count size ChecksumMismatch all cause = cause

  module _ (out piece : List ℕ) (done span : ℕ) (so_far : done ≡ total (take k ranges)) (fits : length out ≡ total ranges)
      (long : length piece ≡ next.1) where
    laid : take (done + next.1) (put_mid done span out piece) ≡ take done out ++ piece
    laid = take-put_mid done span out piece (done + next.1) (omega (arith, long)) (omega (arith, so_far, fits, within_total))

    -- its slice behind those of the ranges before it
    pub slices_more : (list : List ℕ) → piece ≡ slice_at list next → take done out ≡ slices list (take k ranges)
        → take (done + next.1) (put_mid done span out piece) ≡ slices list (take (k + 1) ranges)
    slices_more list is before =
        laid ∙ ap (λ l. l ++ piece) before ∙ ap (λ l. slices list (take k ranges) ++ l) (is ∙ sym (append-nil (slice_at list next)))
        ∙ sym (flat_map-append (slice_at list) (take k ranges) (next ∷ [])) ∙ ap (slices list) (sym next_taken)

-- ranges of which some are in memory, with one range more
module _ (cache : Cache) (pages : FlushedPages) (list : List ℕ) where
  -- it is in memory, or named
  abbrev pub IsNext : ℕ × ℕ → ℕ → List ℕ → List ℕ → Type 0
  IsNext range index piece named =
      (IsServed cache pages (length list) range.0 range.1 × (piece ≡ slice_at list range) × (named ≡ []))
      ⊎ ((IsServed cache pages (length list) range.0 range.1 → ⊥) × (named ≡ index ∷ []))

  served-append : (index : ℕ) (ranges : List (ℕ × ℕ)) (out missing : List ℕ) (range : ℕ × ℕ) (piece named : List ℕ)
      → length out ≡ total ranges
      → length piece ≡ range.1 → AreServed cache pages list index ranges out missing → IsNext range (index + length ranges) piece named
      → AreServed cache pages list index (ranges ++ range ∷ []) (out ++ piece) (missing ++ named)
  served-append index [] out missing range piece named long piece_long none here =
      let nothing : out ≡ [] = nil_from_length out (omega (arith, long)) in
      let all : take range.1 (out ++ piece) ≡ piece = ap (λ l. take range.1 (l ++ piece)) nothing ∙ take_all range.1 piece (omega (arith, piece_long)) in
      let names : missing ++ named ≡ named = ap (λ l. l ++ named) none in
      let at : index + 0 ≡ index = omega arith in
      ⊎_elim
      (λ (served, is, no_name). inl (served, all ∙ is, names ∙ no_name))
      (λ (apart, name). inr (apart, ([], names ∙ name ∙ ap (λ n. n ∷ []) at, refl)))
      here
  served-append index (first ∷ ranges) out missing range piece named long piece_long so here =
      let sum = sum_by-cons (λ (r : ℕ × ℕ). r.1) first ranges in
      let fits : first.1 ≤ length out = omega (arith, long, sum) in
      let rest_long : length (drop first.1 out) ≡ total ranges = omega (arith, length-drop first.1 out, long, sum) in
      let front : take first.1 (out ++ piece) ≡ take first.1 out = take-append-le first.1 out piece fits in
      let rest : drop first.1 (out ++ piece) ≡ drop first.1 out ++ piece = drop-append-le first.1 out piece fits in
      let at : index + length (first ∷ ranges) ≡ index + 1 + length ranges = omega arith in
      let later : IsNext range (index + 1 + length ranges) piece named = subst (λ n. IsNext range n piece named) at here in
      ⊎_elim
      (λ (served, is, before).
      inl (
        served,
        front ∙ is,
        subst (λ l. AreServed cache pages list (index + 1) (ranges ++ range ∷ []) l (missing ++ named)) (sym rest)
            (served-append (index + 1) ranges (drop first.1 out) missing range piece named rest_long piece_long before later),
      ))
      (λ (apart, (others, is, before)).
      inr (
        apart,
        (
          others ++ named,
          ap (λ l. l ++ named) is,
          subst (λ l. AreServed cache pages list (index + 1) (ranges ++ range ∷ []) l (others ++ named)) (sym rest)
              (served-append (index + 1) ranges (drop first.1 out) others range piece named rest_long piece_long before later),
        ),
      ))
      so

  -- so in a loop
  module _ (ranges : List (ℕ × ℕ)) (k : ℕ) (below : k < length ranges) (out piece : List ℕ) (done span : ℕ) (so_far : done ≡ total (take k ranges))
      (fits : length out ≡ total ranges) (long : length piece ≡ (next ranges k below).1) where
    pub served_more : (missing named : List ℕ) → AreServed cache pages list 0 (take k ranges) (take done out) missing
        → IsNext (next ranges k below) k piece named
        → AreServed cache pages list 0 (take (k + 1) ranges) (take (done + (next ranges k below).1) (put_mid done span out piece)) (missing ++ named)
    served_more missing named before here =
        let count : length (take k ranges) ≡ k = length-take-le k ranges (omega (arith, below)) in
        let reach = within_total ranges k below in
        let part : length (take done out) ≡ total (take k ranges) = length-take-le done out (omega (arith, so_far, fits, reach)) ∙ so_far in
        let at : k ≡ 0 + length (take k ranges) = omega (arith, count) in
        let taken : take k ranges ++ next ranges k below ∷ [] ≡ take (k + 1) ranges = sym (next_taken ranges k below) in
        let placed = laid ranges k below out piece done span so_far fits long in
        let all = served-append 0 (take k ranges) (take done out) missing (next ranges k below) piece named part long before
        (subst (λ n. IsNext (next ranges k below) n piece named) at here) in
        subst (λ l. AreServed cache pages list 0 (take (k + 1) ranges) l (missing ++ named)) (sym placed)
        (subst (λ rs. AreServed cache pages list 0 rs (take done out ++ piece) (missing ++ named)) taken all)

-- what is kept of a content still serves it
pub still_serves : (front : List ℕ) (old new : Cache) (blob_id : ℕ) → ServesPages front old blob_id → StaysKept front old new blob_id
    → ServesPages front new blob_id
still_serves front old new blob_id (more, holds) stays = (more, stays more holds)

-- the pages that are kept of content that stands serve it
pub stand_serves : (sum : List ℕ → ℕ) (calls : List Call) (pages : FlushedPages) (cache : Cache) → Stand sum calls pages
    → cache.page_size ≡ content_size pages.physical_page_size → ServesPages (on_blob sum calls pages) cache pages.blob_id
    → Serves (on_blob sum calls pages) cache pages
stand_serves sum calls pages cache stand sizes kept = record {
  whole = stand.whole;
  long = long sum calls pages stand;
  sizes = sizes;
  kept = kept;
}
