use Rattle.state_ops.specs.Operation.{meaning_of}
use Rattle.auth_store_log.specs.Records.{format_of}
use Rattle.auth_store_log.specs.Laws.Recorded.{encoded_is_recorded, value_is_encoded}
use Rattle.auth_store_log.proofs.encoding.record_bytes.Goals as goal

pub returns-clause-recorded : goal.returns-clause-recorded
returns-clause-recorded g c = λ fits.
    let key_of = g.K.Write.encoding in
    let value_of = g.V.Write.encoding in
    let key = g.K.Read.after tt in
    let value = g.V.Read.after tt in
    let ks = g.K.FixedSize.SIZE in
    let vs = g.V.FixedSize.SIZE in
    encoded_is_recorded (format_of key value ks vs) (meaning_of key_of value_of c.args.operation.now)
    (value_is_encoded key_of value_of key value ks vs g.K.Write.is_value g.V.Write.is_value
    (λ k is. (g.met.K.FixedSize.sized k is, λ rest. g.met.K.Read.read_again tt k rest is (g.met.K.FixedKey.within k)))
    (λ v is. (g.met.V.FixedSize.sized v is, λ rest. g.met.V.Read.read_again tt v rest is (g.met.V.FixedValue.within v)))
    c.args.operation.now c.in_ok-write_operation.ensures.value fits)
