use Rattle.std.proofs.Common.{◌∙◌}
use Rattle.state_ops_parts.proofs.Zeros.{absent_reads}
use Rattle.state_ops_parts.proofs.fixed.reading.read_absent.Goals as goal

pub returns : goal.returns
returns g c = absent_reads g.V.FixedSize.SIZE c.args.cursor.now c.in_ok-bytes.bytes.now c.take.new.self
    c.check_zeros.result c.in_ok-bytes.ensures.ok.0 (c.in_ok-bytes.ensures.ok.1 ∙ c.SIZE.ensures) c.check_zeros.ensures
