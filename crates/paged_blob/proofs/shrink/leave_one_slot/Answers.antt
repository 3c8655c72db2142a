use Rattle.std.proofs.Common.{rules, ◌<◌, ◌^◌, length}
use Rattle.paged_blob_parts.proofs.Handed.{no_moments}
use Rattle.paged_blob.proofs.shrink.leave_one_slot.Goals as goal

pub returns-then-stands_alone-clause-any_moment : goal.returns-then-stands_alone-clause-any_moment
returns-then-stands_alone-clause-any_moment g c =
    let size = length c.args.bytes.now in
    let footer : 12 < size = search rules in
    let small : c.args.len < 2 ^ 16 = search rules in
    let fits : c.args.crc < 2 ^ 32 = search rules in
    no_moments g.C.Checksum.checksum_of size footer (g.B.Blob.calls c.args.blob.now) c.args.page c.args.counted c.args.len c.args.crc c.requires.trimmed
    small fits
