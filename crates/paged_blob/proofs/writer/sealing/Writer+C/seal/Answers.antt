use Rattle.std.proofs.Common.{rules, ◌<◌, ℕ, List, subst, arith}
use Rattle.paged_blob_parts.specs.Laws.Durable.{file_keeps}
use Rattle.paged_blob_parts.specs.Writers.{Keeps, written}
use Rattle.paged_blob.proofs.writer.sealing.Writer+C.seal.Goals as goal

pub returns-clause-durable : goal.returns-clause-durable
returns-clause-durable g c =
    let sum = g.C.Checksum.checksum_of in
    let old = g.B.Blob.calls c.args.blob.now in
    let new = g.B.Blob.calls c.snapshot.new.blob in
    let list = written sum old c.args.self in
    let w = c.in_ok-_writer._writer in
    let e = c.in_ok-_writer.ensures in
    let footer : 12 < w.page_size = search rules in
    let kept = file_keeps sum w.page_size (omega (arith, footer)) new (written sum new w) w.synced e.writer.kept in
    let P : ℕ → List ℕ → ℕ → Type 0 = λ size content synced. Keeps sum size content synced new in
    let one : P c.args.self.page_size (written sum new w) w.synced = subst (λ (n : ℕ). P n (written sum new w) w.synced) e.same.0 kept in
    let two : P c.args.self.page_size list w.synced = subst (λ (l : List ℕ). P c.args.self.page_size l w.synced) e.content one in
    subst (λ (n : ℕ). P c.args.self.page_size list n) e.synced two
