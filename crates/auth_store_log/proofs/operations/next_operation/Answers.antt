use Rattle.state_ops.specs.Operation.{meaning_of}
use Rattle.auth_store_log.specs.Records.{format_of}
use Rattle.auth_store_log.specs.Laws.Recorded.{read_is_recorded}
use Rattle.auth_store_log.proofs.operations.next_operation.Goals as goal

pub returns-in-Ok-clause-recorded : goal.returns-in-Ok-clause-recorded
returns-in-Ok-clause-recorded g c =
    let format = format_of (g.K.Read.after tt) (g.V.Read.after tt) g.K.FixedSize.SIZE g.V.FixedSize.SIZE in
    read_is_recorded format (meaning_of g.K.Write.encoding g.V.Write.encoding c.in-Ok.operation) c.args.cursor.now c.read.new.cursor
    c.in-Ok.ensures.read.0 c.in-Ok.ensures.read.1 c.in-Ok.ensures.fields
