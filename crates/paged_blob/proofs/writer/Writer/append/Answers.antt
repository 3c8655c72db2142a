use Rattle.std.proofs.Common.{rules, ◌<◌}
use Rattle.paged_blob_parts.proofs.WriterLaws.{moments_before}
use Rattle.paged_blob.proofs.writer.Writer.append.Goals as goal

pub returns-then-not-is_within_numbers-clause-any_moment : goal.returns-then-not-is_within_numbers-clause-any_moment
returns-then-not-is_within_numbers-clause-any_moment g c =
    let some_room : 12 < c.args.self.page_size = search rules in
    moments_before g.C.Checksum.checksum_of (g.B.Blob.calls c.args.blob.now) c.args.self some_room c.requires.writer c.args.bytes.now
