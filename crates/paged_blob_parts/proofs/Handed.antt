-- Each moment of the three writes.
use Rattle.std.proofs.Common.{◌≡◌, ℕ, ◌+◌, ◌*◌, ◌<◌, ◌^◌, Bool, true, List, ◌∷◌, length, Result, refl, sym, subst}
use Rattle.std.specs.Int.{w16, to_be_bytes}
use Rattle.paged_format.specs.declared.footer.Slot.{Slot}
use Rattle.paged_format.specs.Footers.{content_size, slot_bytes}
use Rattle.paged_format.specs.Pages.{recovered}
use Rattle.paged_blob_parts.specs.Calls.{Call, wrote, Change, file_of}
use Rattle.paged_blob_parts.specs.Moments.{Through, here}
use Rattle.paged_blob_parts.specs.Answers.{Records}
use Rattle.paged_blob_parts.specs.Writers.{Keeps}
use Rattle.paged_blob_parts.specs.Shrinks.{other_slot, slot_at, IsTrimmed}
use Rattle.paged_blob_parts.specs.Laws.Moments.{goes_on}
use Rattle.paged_blob_parts.specs.declared.error.Error.{Error}
use Rattle.paged_blob_parts.proofs.Cut.{Point, point_keeps, trimmed_point, first_point, second_point, handed_point, third_point}

module _ (sum : List ℕ → ℕ) (size : ℕ) (footer : 12 < size) (calls : List Call) (page : ℕ) (counted : Slot) (len crc : ℕ)
    (t : IsTrimmed sum size calls page counted len crc) (small : len < 2 ^ 16) (fits : crc < 2 ^ 32) where
  abbrev live : List ℕ
  live = (file_of calls).base

  abbrev old : List ℕ
  old = recovered sum size live

  abbrev PointOf : List Call → Slot → Type 0
  PointOf now slot = Point sum size footer old (length live) page len (file_of now) slot

  abbrev KeepsOld : List Call → Type 0
  KeepsOld now = Keeps sum size old (page * content_size size + len) now

  pub trimmed_here : PointOf calls counted
  trimmed_here =
      let f = file_of calls in
      let P : List Change → Type 0 = λ changes.
      Point sum size footer old (length live) page len (record { base = f.base; changes = changes; failed = f.failed }) counted in
      subst P (sym t.trimmed) (trimmed_point sum size footer live page counted len crc t.last f.failed)

  kept : (now : List Call) (slot : Slot) → PointOf now slot → KeepsOld now
  kept now slot p = point_keeps sum size footer old (length live) page len now slot p t.last.part t.last.reached

  -- nothing is written yet
  pub no_moments : Through KeepsOld calls calls
  no_moments = here (kept calls counted trimmed_here)

  abbrev First : Bool → List Call
  First ok = wrote (slot_at size page (other_slot counted)) (slot_bytes 0 crc) true ok ∷ calls

  abbrev Second : Bool → List Call
  Second ok = wrote (slot_at size page (other_slot counted)) (to_be_bytes w16 len) true ok ∷ First true

  abbrev Third : Bool → List Call
  Third ok = wrote (slot_at size page counted) (slot_bytes 0 0) true ok ∷ Second true

  first_kept : (ok : Bool) → KeepsOld (First ok)
  first_kept ok = kept (First ok) counted
      (first_point sum size footer live page counted len crc t.last (slot_at size page (other_slot counted)) refl small fits (file_of calls) ok
      (file_of (First ok)).failed trimmed_here)

  second_kept : (ok : Bool) → KeepsOld (Second ok)
  second_kept ok = kept (Second ok) counted
      (second_point sum size footer live page counted len crc t.last (slot_at size page (other_slot counted)) refl small fits (file_of calls) ok
      (file_of (First true)).failed (file_of (Second ok)).failed trimmed_here)

  pub third_here : (ok : Bool) → PointOf (Third ok) (other_slot counted)
  third_here ok =
      third_point sum size footer live page counted len crc t.last (slot_at size page (other_slot counted)) refl small fits (file_of (Second true))
      (slot_at size page counted) ok (file_of (Third ok)).failed refl
      (handed_point sum size footer live page counted len crc t.last (slot_at size page (other_slot counted)) refl small fits (file_of calls)
      (file_of (First true)).failed (file_of (Second true)).failed trimmed_here)

  -- the calls as they were made
  pub first_moments : {T : Type 0} (result : Result T Error) (place : ℕ) (bytes : List ℕ) (new : List Call)
      → place ≡ slot_at size page (other_slot counted) → bytes ≡ slot_bytes 0 crc → Records result (wrote place bytes true) calls new
      → Through KeepsOld calls new
  first_moments result place bytes new place_is is records =
      goes_on KeepsOld calls calls new result (wrote place bytes true) (here (kept calls counted trimmed_here)) records
      (λ ok.
      let P : ℕ → List ℕ → Type 0 = λ k b. KeepsOld (wrote k b true ok ∷ calls) in
      subst (λ k. P k bytes) (sym place_is) (subst (P (slot_at size page (other_slot counted))) (sym is) (first_kept ok)))

  pub second_moments : {T : Type 0} (result : Result T Error) (place : ℕ) (bytes : List ℕ) (mid new : List Call)
      → place ≡ slot_at size page (other_slot counted) → bytes ≡ to_be_bytes w16 len → mid ≡ First true → Through KeepsOld calls mid
      → Records result (wrote place bytes true) mid new → Through KeepsOld calls new
  second_moments result place bytes mid new place_is is mid_is so_far records =
      goes_on KeepsOld calls mid new result (wrote place bytes true) so_far records
      (λ ok.
      let P : ℕ → List ℕ → List Call → Type 0 = λ k b before. KeepsOld (wrote k b true ok ∷ before) in
      let there = slot_at size page (other_slot counted) in
      subst (λ k. P k bytes mid) (sym place_is) (subst (λ b. P there b mid) (sym is) (subst (P there (to_be_bytes w16 len)) (sym mid_is) (second_kept ok))))

  pub third_moments : {T : Type 0} (result : Result T Error) (place : ℕ) (bytes : List ℕ) (mid new : List Call)
      → place ≡ slot_at size page counted → bytes ≡ slot_bytes 0 0 → mid ≡ Second true → Through KeepsOld calls mid
      → Records result (wrote place bytes true) mid new → Through KeepsOld calls new
  third_moments result place bytes mid new place_is is mid_is so_far records =
      goes_on KeepsOld calls mid new result (wrote place bytes true) so_far records
      (λ ok.
      let P : ℕ → List ℕ → List Call → Type 0 = λ k b before. KeepsOld (wrote k b true ok ∷ before) in
      let there = slot_at size page counted in
      subst (λ k. P k bytes mid) (sym place_is)
      (subst (λ b. P there b mid) (sym is) (subst (P there (slot_bytes 0 0)) (sym mid_is) (kept (Third ok) (other_slot counted) (third_here ok)))))

-- the same write
pub same_write : (place there : ℕ) (bytes is : List ℕ) (mid before : List Call) → place ≡ there → bytes ≡ is → mid ≡ before
    → wrote place bytes true true ∷ mid ≡ wrote there is true true ∷ before
same_write place there bytes is mid before place_is bytes_is mid_is = cc
