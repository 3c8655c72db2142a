use Rattle.std.proofs.Common.{rules, ◌≡◌, ◌≤◌, ◌<◌, ◌+◌, ◌-◌, ◌*◌, ◌/◌}
use Rattle.std.proofs.Common.{◌%◌, ℕ, length, take, drop, ap, sym, subst, refl, ◌∙◌, ⊎_elim, arith}
use Rattle.std.proofs.lemmas.List.{take_all, length-take-le, length-drop}
use Rattle.paged_format.specs.Footers.{content_size}
use Rattle.paged_blob_parts.specs.Caches.{Page}
use Rattle.paged_blob_parts.specs.Served.{IsKept, AreKept}
use Rattle.paged_blob_parts.proofs.ReadPages.{parts, one_more, kept_page, kept_long, piece_of}
use Rattle.paged_blob_parts.proofs.ServedLaws.{page_whole, further_kept}
use Rattle.paged_blob_parts.proofs.view.copy_flushed.Goals as goal

pub loop-done-preserved : goal.loop-done-preserved
loop-done-preserved c =
    let pages = c.args.pages in
    let size = pages.physical_page_size in
    let footer : 12 < size = search rules in
    let is : c.from-room.result ≡ size = search rules in
    let i = c.loop-done.invariant in
    let done = c.loop-done.done in
    let count = c.min-count.result in
    let out = c.loop-done.out in
    let span = done + count - done in
    let offset = c.args.offset in
    let room = c.from-room.result - 12 in
    let number = (offset + done) / room in
    let from = (offset + done) % room in
    let same_long : length out ≡ length c.args.out.now = search rules in
    let within : done + count ≤ length out = omega (arith, c.min-count.ensures, c.loop-done-test.true) in
    let some : 0 < room = omega (arith, is, footer) in
    let count_is : length (take span (drop done out)) ≡ count =
    length-take-le span (drop done out) (omega (arith, within, length-drop done out)) ∙ omega arith in
    let fits : count + from ≤ room = omega (arith, c.min-count.ensures) in
    let found = c.copy_page.ensures.some c.if-not-copy_page.false in
    let rooms : room ≡ content_size size = omega (arith, is) in
    record {
      within = omega (arith, within, same_long);
      bytes = λ front serves.
          let p : Page = record { blob_id = pages.blob_id; number = number; bytes = found.0 } in
          let whole : (number + 1) * room ≤ length front =
          page_whole (offset + done) (length front) room some
          (omega (arith, serves.long, c.requires.within, same_long, c.loop-done-test.true))
          (ap (λ n. length front % n) rooms ∙ ap (λ n. n % content_size size) serves.long ∙ serves.whole) in
          let piece = kept_page room front c.args.cache.now pages.blob_id p (serves.sizes ∙ sym rooms) serves.kept found.1 refl whole in
          let placed = found.2 ∙ ap (λ b. take (length (take span (drop done out))) (drop from b)) piece
          ∙ piece_of room number from (length (take span (drop done out))) front (omega (arith, count_is, fits)) in
          one_more front out c.copy_page.new.out offset done count span (number * room + from) refl within
          (omega (arith, serves.long, c.requires.within, same_long))
          (ap (λ r. number * r + from) rooms ∙ parts (offset + done) c.from-room.result size is footer) placed (i.bytes front serves);
      kept = λ k after below.
          let here : IsKept c.args.cache.now pages.blob_id number = (found.0, found.1) in
          let before : (j : ℕ) → offset ≤ j → j < offset + done → IsKept c.args.cache.now pages.blob_id (j / room) =
          λ j reached less. subst (λ r. IsKept c.args.cache.now pages.blob_id (j / r)) (sym rooms) (i.kept j reached less) in
          subst (λ r. IsKept c.args.cache.now pages.blob_id (k / r)) rooms
          (further_kept (IsKept c.args.cache.now pages.blob_id) room offset done count some fits before here k after below);
    }

pub returns-then-not-copy_page-clause-served : goal.returns-then-not-copy_page-clause-served
returns-then-not-copy_page-clause-served c = λ front serves.
    let pages = c.args.pages in
    let size = pages.physical_page_size in
    let footer : 12 < size = search rules in
    let is : c.from-room.result ≡ size = search rules in
    let done = c.loop-done.done in
    let count = c.min-count.result in
    let out = c.loop-done.out in
    let span = done + count - done in
    let offset = c.args.offset in
    let room = c.from-room.result - 12 in
    let number = (offset + done) / room in
    let from = (offset + done) % room in
    let same_long : length out ≡ length c.args.out.now = search rules in
    let within : done + count ≤ length out = omega (arith, c.min-count.ensures, c.loop-done-test.true) in
    let some : 0 < room = omega (arith, is, footer) in
    let count_is : length (take span (drop done out)) ≡ count =
    length-take-le span (drop done out) (omega (arith, within, length-drop done out)) ∙ omega arith in
    let fits : count + from ≤ room = omega (arith, c.min-count.ensures) in
    let rooms : room ≡ content_size size = omega (arith, is) in (
      λ yes. cc,
      λ kept.
          let here = subst (λ r. IsKept c.args.cache.now pages.blob_id ((offset + done) / r)) (sym rooms)
          (kept (offset + done) (omega arith) (omega (arith, same_long, c.loop-done-test.true))) in
          ⊎_elim
          (λ elsewhere. absurd (elsewhere (record { blob_id = pages.blob_id; number = number; bytes = here.0 }) here.1 (refl, refl)))
          (λ (bytes, there, short).
          let p : Page = record { blob_id = pages.blob_id; number = number; bytes = bytes } in
          let whole : (number + 1) * room ≤ length front =
          page_whole (offset + done) (length front) room some
          (omega (arith, serves.long, c.requires.within, same_long, c.loop-done-test.true))
          (ap (λ n. length front % n) rooms ∙ ap (λ n. n % content_size size) serves.long ∙ serves.whole) in
          let piece = kept_page room front c.args.cache.now pages.blob_id p (serves.sizes ∙ sym rooms) serves.kept there refl whole in
          absurd (omega (arith, kept_long room front p piece whole, short, count_is, fits)))
          (c.copy_page.ensures.none c.if-not-copy_page.true),
    )

pub returns-clause-served : goal.returns-clause-served
returns-clause-served c = λ front serves.
    let i = c.loop-done.invariant in
    let same_long : length c.loop-done.out ≡ length c.args.out.now = search rules in
    let all : c.loop-done.done ≡ length c.args.out.now = omega (arith, i.within, c.loop-done-test.false, same_long) in
    (λ yes. subst (λ n. AreKept c.args.cache.now c.args.pages c.args.offset n) all i.kept, λ kept. refl)

pub returns-clause-bytes : goal.returns-clause-bytes
returns-clause-bytes c = λ front serves yes.
    let i = c.loop-done.invariant in
    let same_long : length c.loop-done.out ≡ length c.args.out.now = search rules in
    let all : c.loop-done.done ≡ length c.args.out.now = omega (arith, i.within, c.loop-done-test.false, same_long) in
    sym (take_all c.loop-done.done c.loop-done.out (omega (arith, all, same_long))) ∙ i.bytes front serves
    ∙ ap (λ n. take n (drop c.args.offset front)) all
