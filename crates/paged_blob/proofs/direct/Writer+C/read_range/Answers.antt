use Rattle.std.proofs.Common.{rules, ◌≡◌, ◌≤◌, ◌<◌, ◌+◌, ◌-◌, ◌*◌, ◌/◌}
use Rattle.std.proofs.Common.{◌%◌, ◌++◌, List, false, min, length, take, drop, ap, subst, sym, ◌∙◌, arith}
use Rattle.std.proofs.lemmas.List.{length-drop, drop-drop}
use Rattle.std.proofs.lemmas.Nat.{div-add-mod', mod_below}
use Rattle.paged_format.specs.Footers.{content_size}
use Rattle.paged_format.specs.Pages.{recovered}
use Rattle.paged_blob_parts.specs.Calls.{Call, file_of, content}
use Rattle.paged_blob_parts.specs.Chance.{page_at}
use Rattle.paged_blob_parts.specs.Laws.Durable.{further}
use Rattle.paged_blob_parts.proofs.ReadPages.{piece_of}
use Rattle.paged_blob.proofs.direct.Writer+C.read_range.Goals as goal

pub shown_page-requires-clause-sound : goal.shown_page-requires-clause-sound
shown_page-requires-clause-sound g c =
    subst (λ (l : List Call). (file_of l).failed ≡ false) (sym c.loop-at.invariant.calls) c.requires.sound

pub shown_page-requires-clause-reached : goal.shown_page-requires-clause-reached
shown_page-requires-clause-reached g c =
    let sum = g.C.Checksum.checksum_of in
    let size = c.args.physical_page_size in
    let footer : 12 < size = search rules in
    let room = c.from-room.result - 12 in
    let at = c.loop-at.at in
    let rooms : room ≡ content_size size = omega (arith, c.from-room.ensures) in
    let all : c.in-Some.end ≡ c.args.offset + c.args.len = search rules in
    let same = ap (λ (l : List Call). length (recovered sum size (content l))) c.loop-at.invariant.calls in
    omega (arith, same, div-add-mod' at room, ap (λ r. at / room * r) rooms, c.loop-at-test.true, all, c.requires.within)

pub loop-at-preserved : goal.loop-at-preserved
loop-at-preserved g c =
    let sum = g.C.Checksum.checksum_of in
    let size = c.args.physical_page_size in
    let footer : 12 < size = search rules in
    let room = c.from-room.result - 12 in
    let at = c.loop-at.at in
    let i = c.loop-at.invariant in
    let offset = c.args.offset in
    let count = c.min-count.result in
    let from = at % room in
    let page = at / room in
    let live = recovered sum size (content (g.B.Blob.calls c.args.blob.now)) in
    let rest = drop offset live in
    let rooms : room ≡ content_size size = omega (arith, c.from-room.ensures) in
    let some : 0 < room = omega (arith, footer, c.from-room.ensures) in
    let all : c.in-Some.end ≡ offset + c.args.len = search rules in
    let least : count ≡ min (room - from) (c.in-Some.end - at) = search rules in
    let within : from + count ≤ room = omega (arith, least, mod_below at room some) in
    let P : List Call → Type 0 = λ l. c.in_ok-page.page.items ≡ page_at (content_size size) page (recovered sum size (content l)) in
    let found : P (g.B.Blob.calls c.args.blob.now) = subst P i.calls c.in_ok-page.ensures.bytes in
    let shown : c.in_ok-page.page.items ≡ page_at room page live = found ∙ ap (λ r. page_at r page live) (sym rooms) in
    let split : page * room + from ≡ at = div-add-mod' at room in
    let part : take count (drop from (page_at room page live)) ≡ take count (drop at live) =
    piece_of room page from count live within ∙ ap (λ n. take count (drop n live)) split in
    let done = at - offset in
    let next : drop at live ≡ drop done rest =
    ap (λ n. drop n live) (omega (arith, i.from)) ∙ sym (drop-drop done offset live) in
    let there : done ≤ length rest = omega (arith, length-drop offset live, i.from, c.loop-at-test.true, all, c.requires.within) in
    let raw : c.extend_from_slice.new.self.items ≡ c.loop-at.bytes.items ++ take (from + count - from) (drop from c.deref.result.now) =
    c.in_ok-extend_from_slice.ensures.items in
    let same : from + count - from ≡ count = omega arith in
    let more : done + count ≡ at + count - offset = omega (arith, i.from) in
    record {
      from = omega (arith, i.from);
      within = omega (arith, least, c.loop-at-test.true);
      bytes = raw ∙ ap (λ n. c.loop-at.bytes.items ++ take n (drop from c.deref.result.now)) same
          ∙ ap (λ l. c.loop-at.bytes.items ++ take count (drop from l)) (c.deref.ensures.value ∙ shown)
          ∙ ap (λ l. c.loop-at.bytes.items ++ l) (part ∙ ap (take count) next) ∙ ap (λ l. l ++ take count (drop done rest)) i.bytes
          ∙ further done count rest there ∙ ap (λ n. take n rest) more;
      calls = c.in_ok-page.ensures.calls ∙ i.calls;
      failures = c.in_ok-page.ensures.failures ∙ i.failures;
      left = omega (arith, c.in_ok-page.ensures.left, i.left);
    }
