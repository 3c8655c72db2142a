use Rattle.std.proofs.Common.{rules, ◌+◌, ◌<◌, ◌∙◌}
use Rattle.paged_blob.proofs.Recovered.{settled_still, cut_to_all}
use Rattle.paged_blob.proofs.writer.recovery.Writer+C.new.Goals as goal

pub returns-in_err-recovery-clause-any_moment : goal.returns-in_err-recovery-clause-any_moment
returns-in_err-recovery-clause-any_moment g c =
    let size = c.args.cache.now.page_size + 12 in
    let some_room : 12 < size = search rules in
    settled_still g.C.Checksum.checksum_of size (g.B.Blob.calls c.args.blob.now) (g.B.Blob.calls c.open.new.blob) some_room c.requires.settled
    c.in_err-recovery.ensures.calls

pub returns-in_err-cut-clause-any_moment : goal.returns-in_err-cut-clause-any_moment
returns-in_err-cut-clause-any_moment g c =
    let size = c.args.cache.now.page_size + 12 in
    let some_room : 12 < size = search rules in
    let found = c.in_ok-recovery.ensures in
    cut_to_all g.C.Checksum.checksum_of size (g.B.Blob.calls c.args.blob.now) (g.B.Blob.calls c.open.new.blob) (g.B.Blob.calls c.truncate.new.blob)
    some_room c.requires.settled found.calls c.in_ok-recovery.recovery.page_size c.size-size.result found.page_size
    (c.size-size.ensures ∙ found.known c.requires.sound c.requires.whole) c.truncate.ensures.any_moment

pub returns-clause-any_moment : goal.returns-clause-any_moment
returns-clause-any_moment g c =
    let size = c.args.cache.now.page_size + 12 in
    let some_room : 12 < size = search rules in
    let found = c.in_ok-recovery.ensures in
    cut_to_all g.C.Checksum.checksum_of size (g.B.Blob.calls c.args.blob.now) (g.B.Blob.calls c.open.new.blob) (g.B.Blob.calls c.truncate.new.blob)
    some_room c.requires.settled found.calls c.in_ok-recovery.recovery.page_size c.size-size.result found.page_size
    (c.size-size.ensures ∙ found.known c.requires.sound c.requires.whole) c.truncate.ensures.any_moment
