-- Why a log is refused, from why its parts are.
use Rattle.std.proofs.Common.{◌≡◌, ℕ, ◌+◌, ◌-◌, ◌*◌, ◌/◌, ◌<◌, ◌≤◌, ◌^◌}
use Rattle.std.proofs.Common.{zero, suc, Bool, true, false, cond, List, [], ◌∷◌, ◌++◌, length, take, drop}
use Rattle.std.proofs.Common.{refl, sym, ap, subst, ◌⊎◌, inl, inr, ⊎_elim, arith}
use Rattle.std.specs.Prelude.{Contains, ◌==◌}
use Rattle.std.proofs.lemmas.Bool.{cases_lt}
use Rattle.std.proofs.lemmas.List.{length-append, length-take}
use Rattle.std.proofs.lemmas.Nat.{div_below, mul-le}
use Rattle.std.proofs.Math.Nat.{div-mul-le_self}
use Rattle.paged_format.specs.Footers.{content_size}
use Rattle.paged_format.specs.Pages.{shown_len, content_of, first_pages, recovered}
use Rattle.paged_format.specs.Laws.Pages.{shown_within}
use Rattle.paged_blob_parts.specs.Calls.{content}
use Rattle.paged_blob_parts.specs.Answers.{Failures, IsCause}
use Rattle.paged_blob_parts.specs.Caches.{Cache}
use Rattle.paged_blob_parts.specs.CachedContent.{HoldsPagesOf, KeepsOthers}
use Rattle.paged_blob_parts.specs.Flushes.{physical_size}
use Rattle.paged_blob_parts.specs.Shrinks.{IsCutCause}
use Rattle.paged_blob_parts.specs.declared.error.CallKind.{CallKind}
use Rattle.paged_blob_parts.specs.declared.error.Error.{Error}
use Rattle.paged_blob_parts.specs.declared.error.Error.TheVariants.{BlobMissing, Injected, BlobInsufficientLength}
use Rattle.paged_blob_parts.specs.declared.error.Error.TheVariants.{NumberEnded, Memory, PowerCut, ChecksumMismatch}
use Rattle.auth_store_log.specs.Causes.{IsLogCause, AreNamed}

module _ (failures : Failures) where
  -- whoever reaches further, and takes more names, may be refused for the same
  pub further : (last_id later_id reach wider : ℕ) (e : Error) → last_id ≤ later_id → reach ≤ wider → IsLogCause failures last_id reach e
      → IsLogCause failures later_id wider e
  further last_id later_id reach wider BlobMissing more far is = is
  further last_id later_id reach wider (Injected kind) more far is = tt
  further last_id later_id reach wider BlobInsufficientLength more far is = is
  further last_id later_id reach wider NumberEnded more far is =
      ⊎_elim (λ past. inl (omega (arith, past, far))) (λ rest. inr (⊎_elim (λ ended. inl ended) (λ names. inr (omega (arith, names, more))) rest)) is
  further last_id later_id reach wider Memory more far is = tt
  further last_id later_id reach wider PowerCut more far is = tt
  further last_id later_id reach wider ChecksumMismatch more far is = is

  pub call_cause : (last_id reach : ℕ) (kind : CallKind) (e : Error) → IsCause failures kind reach e → IsLogCause failures last_id reach e
  call_cause last_id reach kind BlobMissing is = is
  call_cause last_id reach kind (Injected injected) is = tt
  call_cause last_id reach kind BlobInsufficientLength is = is
  call_cause last_id reach kind NumberEnded is = ⊎_elim (λ past. inl past) (λ ended. inr (inl ended)) is
  call_cause last_id reach kind Memory is = tt
  call_cause last_id reach kind PowerCut is = tt
  call_cause last_id reach kind ChecksumMismatch is = is

  pub cut_cause : (last_id reach : ℕ) (e : Error) → IsCutCause failures reach e → IsLogCause failures last_id reach e
  cut_cause last_id reach BlobMissing is = is
  cut_cause last_id reach (Injected injected) is = tt
  cut_cause last_id reach BlobInsufficientLength is = is
  cut_cause last_id reach NumberEnded is = ⊎_elim (λ past. inl past) (λ ended. inr (inl ended)) is
  cut_cause last_id reach Memory is = tt
  cut_cause last_id reach PowerCut is = tt
  cut_cause last_id reach ChecksumMismatch is = is

  -- a cut that leaves so many bytes, whose pages are there, and takes one name
  pub truncation_cause : (next_id reach size kept : ℕ) (e : Error) → physical_size size kept ≤ reach
      → IsCutCause failures reach e ⊎ ((e ≡ NumberEnded) × ((next_id + 1 ≡ 2 ^ 64) ⊎ (2 ^ 64 ≤ physical_size size kept + 4096)))
      → IsLogCause failures (next_id + 1) reach e
  truncation_cause next_id reach size kept e within why =
      ⊎_elim (λ cut. cut_cause (next_id + 1) reach e cut)
      (λ (is, number). subst (IsLogCause failures (next_id + 1) reach) (sym is)
      (⊎_elim (λ names. inr (inr (omega (arith, names)))) (λ past. inl (omega (arith, past, within))) number))
      why

-- as much content as pages have, reaches no further than they do
pub physical_within : (size len pages : ℕ) → 12 < size → len ≤ pages * content_size size → physical_size size len ≤ pages * size
physical_within size len pages some within =
    let room = content_size size in
    let fewer : (len + (room - 1)) / room < pages + 1 = div_below (len + (room - 1)) room (pages + 1) (omega (arith, some)) (omega (arith, within, some)) in
    mul-le ((len + (room - 1)) / room) size pages size (omega (arith, fewer)) (omega arith)

module _ (sum : List ℕ → ℕ) (size : ℕ) where
  content_len : (pages : List (List ℕ)) → length (content_of sum size pages) ≤ length pages * content_size size
  unfolding content_of
  content_len [] = omega arith
  content_len (page ∷ pages) =
      let shown = shown_len sum size page in
      let front = take shown page in
      by (shown == content_size size) front (omega (arith, length-take shown page, shown_within sum size page)) (content_len pages)
    where
      by : (b : Bool) (front : List ℕ) → length front ≤ content_size size → length (content_of sum size pages) ≤ length pages * content_size size
          → length (front ++ cond b (content_of sum size pages) []) ≤ suc (length pages) * content_size size
      by true front first later = omega (arith, first, later, length-append front (content_of sum size pages))
      by false front first later = omega (arith, first, length-append front [])

  length-first_pages : (count : ℕ) (bytes : List ℕ) → length (first_pages size count bytes) ≡ count
  unfolding first_pages
  length-first_pages zero bytes = refl
  length-first_pages (suc count) bytes = ap suc (length-first_pages count (drop size bytes))

  -- what is recovered of a file, or less, has its pages there
  pub reach_within : (file : List ℕ) (len : ℕ) → 12 < size → len ≤ length (recovered sum size file) → physical_size size len ≤ length file
  reach_within file len some within =
      let pages : ℕ = length file / size in
      let long = content_len (first_pages size pages file) in
      let count = length-first_pages pages file in
      let least : len ≤ pages * content_size size = omega (arith, within, long, ap (λ n. n * content_size size) count) in
      omega (arith, physical_within size len pages some least, div-mul-le_self (length file) size)

-- names stay given where pages of one given name alone come in
pub names_kept : (old new : Cache) (blob_id : ℕ) → KeepsOthers old new blob_id → old.next_id ≤ new.next_id → blob_id < old.next_id → AreNamed old
    → AreNamed new
names_kept old new blob_id others more given named = record {
  each = λ page there.
      ⊎_elim
      (λ below. omega (arith, named.each page (others.each page there (λ is. omega (arith, below, is))), more))
      (λ above. ⊎_elim
      (λ behind. omega (arith, named.each page (others.each page there (λ is. omega (arith, behind, is))), more))
      (λ same. omega (arith, same, given, more))
      (cases_lt blob_id page.blob_id))
      (cases_lt page.blob_id blob_id);
}

-- and where the pages stay
pub names_stay : (old new : Cache) → new.pages ≡ old.pages → old.next_id ≤ new.next_id → AreNamed old → AreNamed new
names_stay old new same more named = record {
  each = λ page there. omega (arith, named.each page (subst (λ pages. Contains pages page) same there), more);
}

-- no page is kept under a name that is not given yet
pub none_named : (content : List ℕ) (old new : Cache) (blob_id : ℕ) → new.pages ≡ old.pages → old.next_id ≤ blob_id → AreNamed old
    → HoldsPagesOf content new blob_id
none_named content old new blob_id same fresh named = record {
  each = λ page there is. absurd (omega (arith, named.each page (subst (λ pages. Contains pages page) same there), is, fresh));
}
