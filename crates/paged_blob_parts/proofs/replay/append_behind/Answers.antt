use Rattle.std.proofs.Common.{◌≡◌, ◌+◌, ◌*◌, ◌++◌, length, take, drop, ap, ◌∙◌, arith}
use Rattle.std.proofs.Math.Seq.{take-append_seam, drop-append-add}
use Rattle.paged_format.specs.Footers.{content_size}
use Rattle.paged_blob_parts.specs.Stands.{on_blob}
use Rattle.paged_blob_parts.proofs.replay.append_behind.Goals as goal

pub returns-in-Ok-clause-bytes : goal.returns-in-Ok-clause-bytes
returns-in-Ok-clause-bytes g c =
    let held = c.args.held.now.items in
    let skipped = c.args.skipped in
    let room = content_size c.args.pages.physical_page_size in
    let front = on_blob g.C.Checksum.checksum_of (g.B.Blob.calls c.args.blob.now) c.args.pages in
    let more = take (c.args.count * room) (drop (c.args.page * room) front) in
    let before : c.len-before.result ≡ length held = omega (arith, c.len-before.ensures, c.args.held.now.ok.0) in
    c.take_out.ensures ∙ ap (λ n. take n c.append_pages.new.held.items ++ drop (n + skipped) c.append_pages.new.held.items) before
    ∙ ap (λ l. take (length held) l ++ drop (length held + skipped) l) c.in-Ok.ensures.bytes
    ∙ ap (λ l. l ++ drop (length held + skipped) (held ++ more)) (take-append_seam held more) ∙ ap (λ l. held ++ l) (drop-append-add held more skipped)
