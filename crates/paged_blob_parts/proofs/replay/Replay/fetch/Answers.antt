use Rattle.std.proofs.Common.{rules, ◌≡◌, ◌≤◌, ◌<◌, ◌+◌, ◌-◌, ◌*◌, ◌/◌, ◌%◌}
use Rattle.std.proofs.Common.{◌++◌, ℕ, List, min, length, take, drop, ap, sym, refl, subst, ◌∙◌, arith}
use Rattle.std.proofs.lemmas.List.{length-append, length-drop, length-take-le}
use Rattle.paged_format.specs.Footers.{content_size}
use Rattle.paged_blob_parts.specs.Stands.{on_blob, listed}
use Rattle.paged_blob_parts.specs.Replays.{ReadsOn}
use Rattle.paged_blob_parts.proofs.StandLaws.{long}
use Rattle.paged_blob_parts.proofs.ReplayLaws.{reads_pages, reads_tail, reads_more, next_reach, next_split, next_within}
use Rattle.paged_blob_parts.proofs.replay.Replay.fetch.Goals.{After-min-count-2}
use Rattle.paged_blob_parts.proofs.replay.Replay.fetch.Goals as goal

-- the pages that are read next
module _ (g : _) (c : After-min-count-2 g) where
  abbrev front : List ℕ
  front = on_blob g.C.Checksum.checksum_of (g.B.Blob.calls c.args.blob.now) c.args.self.now.sealed.pages

  abbrev len : ℕ
  len = c.args.self.now.sealed.pages.len

  abbrev room : ℕ
  room = c.from-room.result - 12

  abbrev next : ℕ
  next = c.args.self.now.next

  abbrev page : ℕ
  page = next / room

  abbrev skipped : ℕ
  skipped = next % room

  abbrev count : ℕ
  count = c.min-count-2.result

  is : c.from-room.result ≡ c.args.self.now.sealed.pages.physical_page_size
  is = search rules

  footer : 12 < c.args.self.now.sealed.pages.physical_page_size
  footer = search rules

  count_is : count ≡ min c.args.self.now.batch (len / room - page)
  count_is = search rules

  some : 0 < room
  some = omega (arith, is, footer)

  rooms : room ≡ content_size c.args.self.now.sealed.pages.physical_page_size
  rooms = omega (arith, is)

  whole : len % room ≡ 0
  whole = ap (λ r. len % r) rooms ∙ c.requires.stand.whole

  fronts : length front ≡ len
  fronts = long g.C.Checksum.checksum_of (g.B.Blob.calls c.args.blob.now) c.args.self.now.sealed.pages c.requires.stand

  reach : (page + count) * room ≤ len
  reach =
      subst (λ (k : ℕ). (page + k) * room ≤ len) (sym count_is)
      (next_reach next len c.args.self.now.batch room some whole c.if-self-pages.false c.args.self.now.some)

  inside : skipped < count * room
  inside =
      subst (λ (k : ℕ). skipped < k * room) (sym count_is)
      (next_within next len c.args.self.now.batch room some whole c.if-self-pages.false c.args.self.now.some)

  split : next ≡ page * room + skipped
  split = next_split next len c.args.self.now.batch room some whole c.if-self-pages.false c.args.self.now.some

  spread : (page + count) * room ≡ page * room + count * room
  spread = omega arith

  abbrev bytes : List ℕ
  bytes = take (count * room) (drop (page * room) front)

  -- what is laid behind what is held
  laid : (held : List ℕ) → let size = content_size c.args.self.now.sealed.pages.physical_page_size in
      held ++ drop skipped (take (count * size) (drop (page * size) front)) ≡ held ++ drop skipped bytes
  laid held = ap (λ r. held ++ drop skipped (take (count * r) (drop (page * r) front))) (sym rooms)

pub returns-then-self-pages-clause-reads : goal.returns-then-self-pages-clause-reads
returns-then-self-pages-clause-reads g c =
    let sum = g.C.Checksum.checksum_of in
    let calls = g.B.Blob.calls c.args.blob.now in
    let self = c.args.self.now in
    let pages = self.sealed.pages in
    let tail = self.sealed.tail.items in
    let front = on_blob sum calls pages in
    let list = listed sum calls pages tail in
    let count = c.min-count.result in
    let from = self.next - pages.len in
    let fronts : length front ≡ pages.len = long sum calls pages c.requires.stand in
    let behind : length front ≤ self.next = omega (arith, fronts, c.if-self-pages.true) in
    let raw : c.extend_from_slice.new.self.items ≡ self.held.items ++ take (from + count - from) (drop from c.deref.result.now) =
    c.in_ok-extend_from_slice.ensures.items in
    let same : from + count - from ≡ count = omega arith in
    let at : from ≡ self.next - length front = omega (arith, fronts) in
    let laid : c.extend_from_slice.new.self.items ≡ self.held.items ++ take count (drop (self.next - length front) tail) =
    raw ∙ ap (λ n. self.held.items ++ take n (drop from c.deref.result.now)) same
    ∙ ap (λ l. self.held.items ++ take count (drop from l)) c.deref.ensures.value ∙ ap (λ n. self.held.items ++ take count (drop n tail)) at in
    subst (λ (l : List ℕ). ReadsOn list self.next (drop self.taken self.held.items) (self.next + count) (drop self.taken l)) (sym laid)
    (reads_more list self.next (self.next + count) self.held.items (take count (drop (self.next - length front) tail)) self.taken (omega arith)
    self.within (reads_tail front tail count self.next behind))

pub append_behind-requires-clause-skipped : goal.append_behind-requires-clause-skipped
append_behind-requires-clause-skipped g c =
    let at = (goal.at.append_behind-requires-clause-skipped g c).After-min-count-2 in
    omega (arith, inside g at, ap (λ r. count g at * r) (rooms g at))

pub returns-clause-reads : goal.returns-clause-reads
returns-clause-reads g c =
    let at = (goal.at.returns-clause-reads g c).After-min-count-2 in
    let self = c.args.self.now in
    let tail = self.sealed.tail.items in
    let list = listed g.C.Checksum.checksum_of (g.B.Blob.calls c.args.blob.now) self.sealed.pages tail in
    let piece = drop (skipped g at) (bytes g at) in
    let end = (page g at + count g at) * room g at in
    let read : piece ≡ take (end - self.next) (drop self.next list) =
    reads_pages (front g at) tail (bytes g at) (page g at) (count g at) (room g at) (skipped g at) self.next (split g at)
    (omega (arith, inside g at)) (omega (arith, fronts g at, reach g at)) refl in
    subst (λ (l : List ℕ). ReadsOn list self.next (drop self.taken self.held.items) end (drop self.taken l))
    (sym (c.in_ok-append_behind.ensures.bytes ∙ laid g at self.held.items))
    (reads_more list self.next end self.held.items piece self.taken (omega (arith, split g at, spread g at, inside g at)) self.within read)

pub invariant_of-self-2-clause-behind : goal.invariant_of-self-2-clause-behind
invariant_of-self-2-clause-behind g c =
    let at = (goal.at.invariant_of-self-2-clause-behind g c).After-min-count-2 in
    let self = c.args.self.now in
    let from = page g at * room g at in
    let held = ap length (c.in_ok-append_behind.ensures.bytes ∙ laid g at self.held.items)
    ∙ length-append self.held.items (drop (skipped g at) (bytes g at)) in
    let bytes_long = length-take-le (count g at * room g at) (drop from (front g at))
    (omega (arith, length-drop from (front g at), fronts g at, reach g at, spread g at)) in
    omega (
      arith,
      held,
      length-drop (skipped g at) (bytes g at),
      bytes_long,
      split g at,
      spread g at,
      inside g at,
      self.behind,
      self.within,
    )

pub invariant_of-self-2-clause-within : goal.invariant_of-self-2-clause-within
invariant_of-self-2-clause-within g c =
    let self = c.args.self.now in
    let laid = ap length c.in_ok-append_behind.ensures.bytes ∙ length-append self.held.items _ in
    omega (arith, laid, self.within)

pub invariant_of-self-2-clause-ends : goal.invariant_of-self-2-clause-ends
invariant_of-self-2-clause-ends g c = omega (arith, reach g (goal.at.invariant_of-self-2-clause-ends g c).After-min-count-2)

pub overflow_mul-self : goal.overflow_mul-self
overflow_mul-self g c = omega (arith, reach g (goal.at.overflow_mul-self g c).After-min-count-2, c.args.self.now.sealed.ends)
