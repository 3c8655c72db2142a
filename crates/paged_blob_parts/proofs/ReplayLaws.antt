-- Lists that are read on.
use Rattle.std.proofs.Common.{◌≡◌, ℕ, ◌+◌, ◌-◌, ◌*◌, ◌/◌, ◌%◌, ◌<◌}
use Rattle.std.proofs.Common.{◌≤◌, min, List, ◌++◌, length, take, drop, sym, ◌∙◌, ap, arith}
use Rattle.std.proofs.lemmas.List.{append-nil, append_assoc, length-append, take-append-le, drop-append-le, drop-take, drop-drop, length-drop, length-take-le}
use Rattle.std.proofs.lemmas.Nat.{mul-le, div-add-mod', div_below, mod_below}
use Rattle.std.proofs.Math.Seq.{drop-append-add}
use Rattle.paged_blob_parts.specs.Laws.Durable.{further}
use Rattle.paged_blob_parts.specs.Replays.{ReadsOn}

-- nothing is read
pub reads_none : (list : List ℕ) (next : ℕ) (queue : List ℕ) → ReadsOn list next queue next queue
reads_none list next queue = record {
  on = omega arith;
  bytes =
      let none : next - next ≡ 0 = omega arith in
      sym (append-nil queue) ∙ ap (λ n. queue ++ take n (drop next list)) (sym none);
}

-- twice
pub reads_twice : (list : List ℕ) (first : ℕ) (a : List ℕ) (mid : ℕ) (b : List ℕ) (last : ℕ) (c : List ℕ) → mid ≤ length list
    → ReadsOn list first a mid b → ReadsOn list mid b last c → ReadsOn list first a last c
reads_twice list first a mid b last c within one two = record {
  on = omega (arith, one.on, two.on);
  bytes =
      let m = mid - first in
      let k = last - mid in
      let rest = drop first list in
      let there : m ≤ length rest = omega (arith, length-drop first list, within) in
      let at : drop mid list ≡ drop m rest = ap (λ n. drop n list) (omega (arith, one.on)) ∙ sym (drop-drop m first list) in
      let all : m + k ≡ last - first = omega (arith, one.on, two.on) in
      two.bytes ∙ ap (λ l. l ++ take k (drop mid list)) one.bytes ∙ append_assoc a (take m rest) (take k (drop mid list))
      ∙ ap (λ l. a ++ (take m rest ++ take k l)) at ∙ ap (λ l. a ++ l) (further m k rest there) ∙ ap (λ n. a ++ take n rest) all;
}

-- how many bytes are there then
pub reads_long : (list : List ℕ) (first : ℕ) (a : List ℕ) (last : ℕ) (b : List ℕ) → last ≤ length list → ReadsOn list first a last b
    → length b ≡ length a + (last - first)
reads_long list first a last b within reads =
    let piece = take (last - first) (drop first list) in
    let long : length piece ≡ last - first = length-take-le (last - first) (drop first list) (omega (arith, length-drop first list, within)) in
    omega (arith, ap length reads.bytes, length-append a piece, long)

-- pages that were read, but for what stands before the place
pub reads_pages : (front tail bytes : List ℕ) (page count room skipped next : ℕ) → next ≡ page * room + skipped → skipped ≤ count * room
    → (page + count) * room ≤ length front → bytes ≡ take (count * room) (drop (page * room) front)
    → drop skipped bytes ≡ take ((page + count) * room - next) (drop next (front ++ tail))
reads_pages front tail bytes page count room skipped next at fits within is =
    let left = count * room - skipped in
    let split : count * room ≡ skipped + left = omega (arith, fits) in
    let spread : (page + count) * room ≡ page * room + count * room = omega arith in
    let rest : (page + count) * room - next ≡ left = omega (arith, spread, at, fits) in
    let there : next ≤ length front = omega (arith, at, spread, fits, within) in
    let more : left ≤ length (drop next front) = omega (arith, length-drop next front, at, spread, fits, within) in
    ap (drop skipped) is ∙ ap (λ n. drop skipped (take n (drop (page * room) front))) split
    ∙ drop-take skipped left (drop (page * room) front) ∙ ap (take left) (drop-drop skipped (page * room) front)
    ∙ ap (λ n. take left (drop n front)) (sym at) ∙ sym (take-append-le left (drop next front) tail more)
    ∙ ap (take left) (sym (drop-append-le next front tail there)) ∙ ap (λ n. take n (drop next (front ++ tail))) (sym rest)

-- what stands behind all pages
pub reads_tail : (front tail : List ℕ) (count next : ℕ) → length front ≤ next
    → take count (drop (next - length front) tail) ≡ take (next + count - next) (drop next (front ++ tail))
reads_tail front tail count next behind =
    let split : next ≡ length front + (next - length front) = omega (arith, behind) in
    let same : next + count - next ≡ count = omega arith in
    ap (take count) (sym (drop-append-add front tail (next - length front))) ∙ ap (λ n. take count (drop n (front ++ tail))) (sym split)
    ∙ ap (λ n. take n (drop next (front ++ tail))) (sym same)

-- bytes that are laid behind those that are there
pub reads_more : (list : List ℕ) (old new : ℕ) (held piece : List ℕ) (taken : ℕ) → old ≤ new → taken ≤ length held
    → piece ≡ take (new - old) (drop old list) → ReadsOn list old (drop taken held) new (drop taken (held ++ piece))
reads_more list old new held piece taken on within is = record {
  on = on;
  bytes = drop-append-le taken held piece within ∙ ap (λ l. drop taken held ++ l) is;
}

-- pages of a list that reaches further
pub pages_within : (page count room len : ℕ) → 0 < room → len % room ≡ 0 → count ≤ len / room - page → page ≤ len / room
    → (page + count) * room ≤ len
pages_within page count room len some whole fits there =
    let all = div-add-mod' len room in
    let up = mul-le (page + count) room (len / room) room (omega (arith, fits, there)) (omega arith) in
    omega (arith, up, all, whole)

-- the pages that are read next: as many as are read at once, or are left
module _ (next len batch room : ℕ) (some : 0 < room) (whole : len % room ≡ 0) (below : next < len) (several : 1 ≤ batch) where
  abbrev pub read_next : ℕ
  read_next = min batch (len / room - next / room)

  page_there : next / room < len / room
  page_there = div_below next room (len / room) some (omega (arith, div-add-mod' len room, whole, below))

  pub next_reach : (next / room + read_next) * room ≤ len
  next_reach = pages_within (next / room) read_next room len some whole (omega arith) (omega (arith, page_there))

  pub next_some : room ≤ read_next * room
  next_some =
      let one : 1 ≤ read_next = omega (arith, page_there, several) in
      let up = mul-le 1 room read_next room one (omega arith) in
      omega (arith, up)

  pub next_split : next ≡ next / room * room + next % room
  next_split = sym (div-add-mod' next room)

  pub next_within : next % room < read_next * room
  next_within = omega (arith, mod_below next room some, next_some)

  pub next_further : next < (next / room + read_next) * room
  next_further =
      let spread : (next / room + read_next) * room ≡ next / room * room + read_next * room = omega arith in
      omega (arith, spread, next_split, next_within)

  pub next_most : (next / room + read_next) * room ≤ next + batch * room
  next_most =
      let spread : (next / room + read_next) * room ≡ next / room * room + read_next * room = omega arith in
      let up = mul-le read_next room batch room (omega arith) (omega arith) in
      omega (arith, spread, next_split, up)
