-- A cut within a page, from what its calls gave.
use Rattle.std.proofs.Common.{◌≡◌, ℕ, ◌+◌, ◌*◌, ◌<◌, ◌≤◌, ◌^◌}
use Rattle.std.proofs.Common.{true, false, List, [], ◌∷◌, length, take, Result, Option, Some}
use Rattle.std.proofs.Common.{sym, ◌∙◌, ap, subst, refl, arith}
use Rattle.paged_format.specs.declared.footer.Slot.{Slot}
use Rattle.paged_format.specs.Footers.{content_size}
use Rattle.paged_format.specs.Pages.{counted_slot, recovered}
use Rattle.paged_blob_parts.specs.Calls.{Call, resized_to, file_of}
use Rattle.paged_blob_parts.specs.Chance.{page_at}
use Rattle.paged_blob_parts.specs.Moments.{Through}
use Rattle.paged_blob_parts.specs.Answers.{Records, IsSlice}
use Rattle.paged_blob_parts.specs.Writers.{Keeps}
use Rattle.paged_blob_parts.specs.Shrinks.{IsLastPage, IsTrimmed}
use Rattle.paged_blob.specs.ShrinksCode.{IsLeftAlone}
use Rattle.paged_blob_parts.specs.declared.error.Error.{Error}
use Rattle.paged_blob_parts.specs.Laws.Moments.{joined}
use Rattle.paged_blob.proofs.Settled.{last_there, start_moments, resized_moments, last_page, trimmed, Left, left_alone, read_page, read_long, counted_here}

module _ (sum : List ℕ → ℕ) (size : ℕ) (footer : 12 < size) (calls : List Call) (settled : (file_of calls).changes ≡ []) (page part : ℕ)
    (short : part < content_size size) (within : page * content_size size + part ≤ length (recovered sum size (file_of calls).base))
    (some : 0 < part) (sound : (file_of calls).failed ≡ false) (from : ℕ) (is : from ≡ size) where
  abbrev live : List ℕ
  live = (file_of calls).base

  abbrev KeepsOld : List Call → Type 0
  KeepsOld now = Keeps sum size (recovered sum size live) (page * content_size size + part) now

  -- reading changes nothing
  pub unchanged : (now : List Call) → now ≡ calls → Through KeepsOld calls now
  unchanged now same = subst (Through KeepsOld calls) (sym same) (start_moments sum size footer calls settled page part short within)

  -- what is read is the page
  pub page_read : (bytes shown : List ℕ) → IsSlice (file_of calls) (page * from) size bytes → shown ≡ bytes → shown ≡ page_at size page live
  page_read bytes shown slice same =
      let Q : ℕ → Type 0 = λ s. IsSlice (file_of calls) (page * s) size bytes in
      same ∙ read_page sum size footer calls settled page part short within (page * size) bytes refl sound (subst Q is slice)

  -- and the slot that is found counts in it
  pub slot_found : (bytes shown : List ℕ) (found : Option (Slot × ℕ)) → IsSlice (file_of calls) (page * from) size bytes → shown ≡ bytes
      → found ≡ counted_slot sum (length shown) shown → counted_slot sum size (page_at size page live) ≡ found
  slot_found bytes shown found slice same found_is =
      counted_here sum size footer calls settled page part short within shown found some (page_read bytes shown slice same) found_is

  -- cutting off what is behind it
  pub cut_off : {T : Type 0} (result : Result T Error) (before mid : List Call) → before ≡ calls
      → Records result (resized_to ((page + 1) * from)) before mid → Through KeepsOld calls mid
  cut_off result before mid same records =
      let at = (page + 1) * from in
      let at_is : at ≡ (page + 1) * size = ap (λ s. (page + 1) * s) is in
      let R : List Call → Type 0 = λ l. Records result (resized_to at) l mid in
      resized_moments sum size footer calls settled page part short within result at (page + 1) mid at_is (omega arith) (λ _. omega arith)
      (last_there sum size footer calls settled page part short within some) (subst R same records)

  module _ (bytes shown again third : List ℕ) (slice : IsSlice (file_of calls) (page * from) size bytes) (shown_is : shown ≡ bytes)
      (again_is : again ≡ bytes)
      (third_is : third ≡ bytes) (counted : Slot) (len crc : ℕ) (found : Option (Slot × ℕ)) (found_is : found ≡ counted_slot sum (length shown) shown)
      (counts : found ≡ Some (counted, len)) (crc_is : crc ≡ sum (take part again)) (before mid : List Call) (same : before ≡ calls)
      (mid_is : mid ≡ resized_to ((page + 1) * from) true ∷ before) where
    -- the file then ends behind the page
    ends : mid ≡ resized_to ((page + 1) * size) true ∷ calls
    ends = mid_is ∙ ap (λ l. resized_to ((page + 1) * from) true ∷ l) same ∙ ap (λ s. resized_to ((page + 1) * s) true ∷ calls) is

    last : IsLastPage sum size live page counted part crc
    last =
        last_page sum size footer calls settled page part short within counted len crc some (slot_found bytes shown found slice shown_is found_is ∙ counts)
        (crc_is ∙ ap (λ l. sum (take part l)) (page_read bytes again slice again_is))

    long : length third ≡ size
    long = ap length (page_read bytes third slice third_is) ∙ read_long sum size footer calls settled page part short within some

    -- as leaving one slot of the page asks
    pub is_trimmed : IsTrimmed sum (length third) mid page counted part crc
    is_trimmed =
        let P : List Call → Type 0 = λ l. IsTrimmed sum size l page counted part crc in
        let Z : ℕ → Type 0 = λ n. IsTrimmed sum n mid page counted part crc in
        subst Z (sym long) (subst P (sym ends) (trimmed sum size footer calls settled page part short within counted crc last sound))

    -- each moment of that
    pub told : {T : Type 0} (result : Result T Error) (next : List Call) → Records result (resized_to ((page + 1) * from)) before mid
        → Through (Keeps sum (length third) (recovered sum (length third) (file_of mid).base) (page * content_size (length third) + part)) mid next
        → Through KeepsOld calls next
    told result next records moments =
        let T : ℕ → Type 0 = λ n. Through (Keeps sum n (recovered sum n (file_of mid).base) (page * content_size n + part)) mid next in
        let U : List Call → Type 0 = λ l. Through (Keeps sum size (recovered sum size (file_of l).base) (page * content_size size + part)) l next in
        let V : List Call → Type 0 = λ l. Through KeepsOld l next in
        joined (cut_off result before mid same records) (subst V (sym ends) (subst U ends (subst T long moments)))

    -- and what it leaves
    pub left : (slot : Slot) (next : List Call) → part < 2 ^ 16 → crc < 2 ^ 32 → IsLeftAlone (length third) page counted part crc mid next slot
        → Left sum size footer calls settled page part short within next slot crc
    left slot next small fits alone =
        let L : ℕ → Type 0 = λ n. IsLeftAlone n page counted part crc mid next slot in
        left_alone sum size footer calls settled page part short within counted slot crc mid next last small fits sound ends (subst L long alone)
