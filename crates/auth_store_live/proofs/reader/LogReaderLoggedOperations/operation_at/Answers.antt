use Rattle.std.proofs.Common.{refl, arith}
use Rattle.std.proofs.lemmas.Result.{IfOk-weaker}
use Rattle.auth_store_log.specs.Records.{Format, format_of}
use Rattle.auth_store_machine.specs.Reads.{Over, log_in, over}
use Rattle.auth_store_machine.proofs.Reading.{read_leads, read_refuses}
use Rattle.auth_store_live.proofs.reader.LogReaderLoggedOperations.operation_at.Goals as goal

pub read_operation-requires-clause-pages : goal.read_operation-requires-clause-pages
read_operation-requires-clause-pages g c = omega (arith, c.requires.may.sized)

pub returns-clause-operation : goal.returns-clause-operation
returns-clause-operation g c =
    let format : Format = format_of (g.K.Read.after tt) (g.V.Read.after tt) g.K.FixedSize.SIZE g.V.FixedSize.SIZE in
    IfOk-weaker c.read_operation.result _ _
    (λ o all. all (log_in format (g.B.Blob.calls c.args.self.now.blob.now) c.args.self.now.writer.now) c.requires.may.recorded c.requires.may.bytes)
    c.read_operation.ensures.operation

pub returns-clause-leads : goal.returns-clause-leads
returns-clause-leads g c =
    let format : Format = format_of (g.K.Read.after tt) (g.V.Read.after tt) g.K.FixedSize.SIZE g.V.FixedSize.SIZE in
    let now = c.args.self.now in
    let one : Over = over (g.B.Blob.calls now.blob.now) (g.B.Blob.failures now.blob.now) (g.B.Blob.left now.blob.now) now.cache.now in
    let other : Over = over (g.B.Blob.calls c.read_operation.new.blob) (g.B.Blob.failures c.read_operation.new.blob)
    (g.B.Blob.left c.read_operation.new.blob) c.read_operation.new.cache in
    read_leads format now.writer.now one other c.read_operation.ensures.calls c.read_operation.ensures.left c.read_operation.ensures.same
    c.read_operation.ensures.named (λ is. c.read_operation.ensures.cached) refl refl refl c.read_operation.result
    c.read_operation.ensures.failures

pub returns-clause-refused : goal.returns-clause-refused
returns-clause-refused g c =
    let format : Format = format_of (g.K.Read.after tt) (g.V.Read.after tt) g.K.FixedSize.SIZE g.V.FixedSize.SIZE in
    let now = c.args.self.now in
    let one : Over = over (g.B.Blob.calls now.blob.now) (g.B.Blob.failures now.blob.now) (g.B.Blob.left now.blob.now) now.cache.now in
    let other : Over = over (g.B.Blob.calls c.read_operation.new.blob) (g.B.Blob.failures c.read_operation.new.blob)
    (g.B.Blob.left c.read_operation.new.blob) c.read_operation.new.cache in
    read_refuses format now.writer.now one other c.read_operation.ensures.calls c.read_operation.ensures.left c.read_operation.ensures.same
    c.read_operation.ensures.named (λ is. c.read_operation.ensures.cached) refl refl refl c.args.location c.read_operation.result
    c.read_operation.ensures.failures c.requires.within c.read_operation.ensures.cause
