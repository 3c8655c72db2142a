use Rattle.std.proofs.Common.{rules, ◌≡◌, ◌≤◌, ◌<◌, ◌+◌, ◌*◌, ◌++◌, List, length, take, drop, ap, sym, subst, ◌∙◌, arith}
use Rattle.std.proofs.lemmas.List.{append_assoc, drop-drop, length-drop}
use Rattle.std.proofs.lemmas.Nat.{mul-le}
use Rattle.paged_format.specs.Footers.{content_size}
use Rattle.paged_blob_parts.specs.Calls.{Call}
use Rattle.paged_blob_parts.specs.Chance.{page_at}
use Rattle.paged_blob_parts.specs.Stands.{Stand, on_blob}
use Rattle.paged_blob_parts.specs.Laws.Durable.{further}
use Rattle.paged_blob_parts.proofs.StandLaws.{long}
use Rattle.paged_blob_parts.proofs.replay.append_pages.Goals as goal

pub read_page-requires-clause-stand : goal.read_page-requires-clause-stand
read_page-requires-clause-stand g c =
    subst (λ (l : List Call). Stand g.C.Checksum.checksum_of l c.args.pages) (sym c.loop-k.invariant.calls) c.requires.stand

pub read_page-requires-clause-whole : goal.read_page-requires-clause-whole
read_page-requires-clause-whole g c =
    let room = content_size c.args.pages.physical_page_size in
    let below : c.loop-k.k < c.args.count = search rules in
    let up = mul-le (c.args.page + c.loop-k.k + 1) room (c.args.page + c.args.count) room (omega (arith, below)) (omega arith) in
    omega (arith, up, c.requires.whole)

pub loop-k-preserved : goal.loop-k-preserved
loop-k-preserved g c =
    let sum = g.C.Checksum.checksum_of in
    let pages = c.args.pages in
    let room = content_size pages.physical_page_size in
    let old = g.B.Blob.calls c.args.blob.now in
    let k = c.loop-k.k in
    let page = c.args.page in
    let held = c.args.held.now.items in
    let i = c.loop-k.invariant in
    let below : k < c.args.count = search rules in
    let rest = drop (page * room) (on_blob sum old pages) in
    let up = mul-le (page + k + 1) room (page + c.args.count) room (omega (arith, below)) (omega arith) in
    let there : k * room ≤ length rest =
    omega (arith, length-drop (page * room) (on_blob sum old pages), long sum old pages c.requires.stand, up, c.requires.whole) in
    let P : List Call → Type 0 = λ l. c.in_ok-piece.piece.items ≡ page_at room (page + k) (on_blob sum l pages) in
    let found : P old = subst P i.calls c.in_ok-piece.ensures.bytes in
    let at : (page + k) * room ≡ page * room + k * room = omega arith in
    let next : drop ((page + k) * room) (on_blob sum old pages) ≡ drop (k * room) rest =
    ap (λ n. drop n (on_blob sum old pages)) at ∙ sym (drop-drop (k * room) (page * room) (on_blob sum old pages)) in
    let more : k * room + room ≡ (k + 1) * room = omega arith in
    record {
      bytes = c.in_ok-extend_from_slice.ensures.items ∙ ap (λ l. l ++ c.deref.result.now) i.bytes
          ∙ append_assoc held (take (k * room) rest) c.deref.result.now
          ∙ ap (λ l. held ++ (take (k * room) rest ++ l)) (c.deref.ensures.value ∙ found ∙ ap (take room) next)
          ∙ ap (λ l. held ++ l) (further (k * room) room rest there ∙ ap (λ n. take n rest) more);
      calls = c.in_ok-piece.ensures.calls ∙ i.calls;
      failures = c.in_ok-piece.ensures.failures ∙ i.failures;
      left = omega (arith, c.in_ok-piece.ensures.left, i.left);
    }
