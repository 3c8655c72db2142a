-- Pages that are kept in memory stay those of the content.
use Rattle.std.proofs.Common.{◌≡◌, ℕ, ◌+◌, ◌-◌, ◌*◌, ◌/◌, ◌<◌, ◌≤◌, min, List, ◌++◌, length, take, drop}
use Rattle.std.proofs.Common.{sym, ◌∙◌, ap, subst, ⊎_elim, arith}
use Rattle.std.proofs.lemmas.List.{length-append, length-drop, length-take-le, take-append-le, drop-append-le}
use Rattle.std.proofs.lemmas.Nat.{mul-le, div-add-mod'}
use Rattle.paged_format.specs.Footers.{content_size}
use Rattle.paged_blob_parts.specs.Caches.{Cache, Page, AreGiven}
use Rattle.paged_blob_parts.specs.CachedContent.{HoldsPagesOf, KeepsOthers}
use Rattle.paged_blob_parts.specs.Chance.{page_at}
use Rattle.paged_blob_parts.specs.Writers.{from_page}
use Rattle.paged_blob_parts.proofs.FlushLaws.{piece_is}

-- more content to come
pub holds_pages_more : (content more : List ℕ) (cache : Cache) (blob_id : ℕ) → HoldsPagesOf content cache blob_id
    → HoldsPagesOf (content ++ more) cache blob_id
holds_pages_more content more cache blob_id holds = record {
  each = λ page within named.
      let h = holds.each page within named in
      let size = cache.page_size in
      let start = page.number * size in
      let reach : start + size ≤ length content = omega (arith, h.0) in
      let split : drop start (content ++ more) ≡ drop start content ++ more = drop-append-le start content more (omega (arith, reach)) in (
        omega (arith, h.0, length-append content more),
        h.1 ∙ sym (ap (take size) split ∙ take-append-le size (drop start content) more (omega (arith, length-drop start content, reach))),
      );
}

-- the pages that a flush gives
pub holds_pages_given : (size first n : ℕ) → 12 < size → (content part : List ℕ) (old new : Cache) (blob_id given_first : ℕ)
    → old.page_size ≡ content_size size
    → new.page_size ≡ old.page_size → given_first ≡ first → part ≡ take n (from_page size first content)
    → n ≤ length (from_page size first content)
    → AreGiven old.pages new.pages blob_id given_first old.page_size part (length part / old.page_size)
    → HoldsPagesOf content old blob_id → HoldsPagesOf content new blob_id
holds_pages_given size first n some_room content part old new blob_id given_first room_is same first_is part_is inside given holds = record {
  each = λ page within named.
      let room = content_size size in
      let long : length part ≡ n = ap length part_is ∙ length-take-le n (from_page size first content) inside in
      let P : ℕ → Type 0 = λ s. ((page.number + 1) * s ≤ length content) × (page.bytes ≡ page_at s page.number content) in
      subst P (sym same)
      (⊎_elim
      (λ (k, below, is).
      let number : page.number ≡ first + k = ap (λ (p : Page). p.number) is ∙ ap (λ f. f + k) first_is in
      let bytes : page.bytes ≡ page_at room k part = ap (λ (p : Page). p.bytes) is ∙ ap (λ s. page_at s k part) room_is in
      let count : k < n / room = omega (arith, below, ap (λ s. length part / s) room_is, ap (λ m. m / room) long) in
      let full = mul-le (k + 1) room (n / room) room (omega (arith, count)) (omega arith) in
      let enough : k * room + room ≤ n = omega (arith, full, div-add-mod' n room) in
      let spread : (first + k + 1) * room ≡ first * room + (k * room + room) = omega arith in
      let reach : (first + k + 1) * room ≤ length content = omega (arith, spread, enough, inside, length-drop (first * room) content, some_room) in
      let least : min room (n - k * room) ≡ room = omega (arith, enough) in
      let there : P room = (
        omega (arith, reach, ap (λ m. (m + 1) * room) number),
        bytes ∙ ap (page_at room k) part_is ∙ piece_is size some_room content first n k (omega (arith, enough))
            ∙ ap (λ m. take m (from_page size (first + k) content)) least ∙ ap (λ m. page_at room m content) (sym number),
      ) in
      subst P (sym room_is) there)
      (λ (before, elsewhere). holds.each page before named)
      (given.each page within));
}

-- pages of other blobs are none of them
pub others_given : (old new : Cache) (blob_id first size : ℕ) (bytes : List ℕ) (count : ℕ) → AreGiven old.pages new.pages blob_id first size bytes count
    → KeepsOthers old new blob_id
others_given old new blob_id first size bytes count given = record {
  each = λ page within other.
      ⊎_elim (λ (k, below, is). absurd (other (ap (λ (p : Page). p.blob_id) is))) (λ (before, elsewhere). before) (given.each page within);
}

pub others_same : (cache : Cache) (blob_id : ℕ) → KeepsOthers cache cache blob_id
others_same cache blob_id = record { each = λ page within other. within }

pub others_joined : (old mid new : Cache) (blob_id : ℕ) → KeepsOthers old mid blob_id → KeepsOthers mid new blob_id → KeepsOthers old new blob_id
others_joined old mid new blob_id first later = record { each = λ page within other. first.each page (later.each page within other) other }
