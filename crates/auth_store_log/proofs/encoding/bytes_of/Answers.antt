use Rattle.std.proofs.Common.{◌++◌, List, take, subst, sym, ap, ◌∙◌}
use Rattle.state_ops.specs.Operation.{Operation, meaning_of}
use Rattle.auth_store_parts.specs.History.{meanings}
use Rattle.auth_store_log.specs.Records.{format_of, log_bytes, FloorsFit, AreRecorded}
use Rattle.auth_store_log.proofs.Reading.{meaning_more, bytes_more, fits_more}
use Rattle.auth_store_log.proofs.encoding.bytes_of.Goals as goal

pub loop-operation-preserved : goal.loop-operation-preserved
loop-operation-preserved g c =
    let key = g.K.Write.encoding in
    let value = g.V.Write.encoding in
    let ks = g.K.FixedSize.SIZE in
    let vs = g.V.FixedSize.SIZE in
    let format = format_of (g.K.Read.after tt) (g.V.Read.after tt) ks vs in
    let operation : Operation = meaning_of key value c.operation-item.result in
    let log : List Operation = meanings key value (take c.loop-operation.operation-index c.args.operations.now) in
    let more = meaning_more (meaning_of key value) c.args.operations.now c.loop-operation.operation-index c.operation-item.result
    c.loop-operation-test.true c.operation-item.is in
    record {
      bytes = c.in_ok-extend_from_slice.ensures.items ∙ ap (λ l. l ++ c.deref.result.now) c.loop-operation.invariant.bytes
          ∙ ap (λ l. log_bytes ks vs log ++ l) (c.deref.ensures.value ∙ c.in_ok-record.ensures.bytes)
          ∙ sym (ap (log_bytes ks vs) more ∙ bytes_more format log operation);
      recorded = subst (λ l. FloorsFit l → AreRecorded format l) (sym more)
          (fits_more format log operation c.loop-operation.invariant.recorded c.in_ok-record.ensures.recorded);
    }
