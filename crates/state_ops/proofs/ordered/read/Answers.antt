use Rattle.state_ops.specs.Reading.{IsField}
use Rattle.state_ops.proofs.Fields.{all_of_fields}
use Rattle.state_ops.proofs.Told.{reads}
use Rattle.state_ops.proofs.ordered.read.Goals as goal

pub returns-clause-read : goal.returns-clause-read
returns-clause-read g c =
    reads g.K.Write.encoding g.V.Write.encoding (g.K.Read.after tt) (g.V.Read.after tt) g.K.FixedSize.SIZE g.V.FixedSize.SIZE
    g.K.Write.is_value g.V.Write.is_value
    (λ k value. (g.met.K.FixedSize.sized k value, λ rest. g.met.K.Read.read_again tt k rest value (g.met.K.FixedKey.within k)))
    (λ v value. (g.met.V.FixedSize.sized v value, λ rest. g.met.V.Read.read_again tt v rest value (g.met.V.FixedValue.within v)))
    c.args.cursor.now c.read_operation.new.cursor _ c.read_operation.result c.read_operation.ensures.read c.read_operation.ensures.value

pub returns-clause-fields : goal.returns-clause-fields
returns-clause-fields g c =
    all_of_fields g.K.Write.encoding g.V.Write.encoding g.K.Write.is_value g.V.Write.is_value
    (IsField (g.K.Read.after tt) g.K.FixedSize.SIZE) (IsField (g.V.Read.after tt) g.V.FixedSize.SIZE)
    (λ k value. (g.met.K.FixedSize.sized k value, λ rest. g.met.K.Read.read_again tt k rest value (g.met.K.FixedKey.within k)))
    (λ v value. (g.met.V.FixedSize.sized v value, λ rest. g.met.V.Read.read_again tt v rest value (g.met.V.FixedValue.within v)))
    c.read_operation.result c.read_operation.ensures.value
