use Rattle.std.proofs.Common.{◌∙◌, sym, ap}
use Rattle.state_ops.specs.Operation.{meaning_of}
use Rattle.auth_store_log.specs.Records.{format_of, operation_in}
use Rattle.auth_store_log.proofs.Found.{commit_found, none_found, refused_for}
use Rattle.auth_store_log.proofs.records.is_commit.Goals as goal

pub returns-in-Ok-clause-exact : goal.returns-in-Ok-clause-exact
returns-in-Ok-clause-exact g c =
    let format = format_of (g.K.Read.after tt) (g.V.Read.after tt) g.K.FixedSize.SIZE g.V.FixedSize.SIZE in
    c.ends_batch.ensures
    ∙ sym (commit_found format c.args.bytes.now (meaning_of g.K.Write.encoding g.V.Write.encoding c.in-Ok.operation) c.read.new.cursor
    (ap (operation_in format) (sym c.new-cursor.ensures) ∙ c.in-Ok.ensures.read.0))

pub returns-else-lacks_memory-clause-exact : goal.returns-else-lacks_memory-clause-exact
returns-else-lacks_memory-clause-exact g c =
    let format = format_of (g.K.Read.after tt) (g.V.Read.after tt) g.K.FixedSize.SIZE g.V.FixedSize.SIZE in
    sym (none_found format c.args.bytes.now c.in-Err.fault (ap (operation_in format) (sym c.new-cursor.ensures)
    ∙ refused_for _ c.in-Err.fault (operation_in format c.new-cursor.result) c.in-Err.ensures.read (c.lacks_memory.ensures c.if-lacks_memory.false)))
