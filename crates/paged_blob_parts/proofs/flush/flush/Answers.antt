use Rattle.std.proofs.Common.{rules, ◌≡◌, ◌≤◌, ◌+◌, ◌*◌, length, IfErr, subst, ◌∙◌, ap}
use Rattle.paged_blob_parts.specs.Flushes.{page_count, physical_size}
use Rattle.paged_blob_parts.specs.Answers.{IsCause}
use Rattle.paged_blob_parts.specs.declared.error.CallKind.TheVariants.{Write}
use Rattle.paged_blob_parts.specs.Laws.Flushes.{length-pages_bytes}
use Rattle.paged_blob_parts.proofs.flush.flush.Goals as goal

pub returns-clause-cause : goal.returns-clause-cause
returns-clause-cause g c =
    let size = c.args.page_size in
    let content = c.args.content.now in
    let room : 12 ≤ size = search rules in
    let long : length c.deref.result.now ≡ physical_size size (length content) =
    ap length (c.deref.ensures.value ∙ c.in_ok-pages.ensures.bytes)
    ∙ length-pages_bytes g.C.Checksum.checksum_of size room (page_count size (length content)) c.args.kept content in
    subst (λ len. IfErr c.write_at.result (IsCause (g.B.Blob.failures c.args.blob.now) Write (c.args.first * size + len))) long c.write_at.ensures.cause
