use Rattle.state_ops_parts.proofs.Items.{option_reads}
use Rattle.state_ops_parts.proofs.variable.reading.read_metadata.Goals as goal

pub returns-clause-read : goal.returns-clause-read
returns-clause-read g c =
    option_reads g.V.Write.encoding (g.V.Read.after c.args.cfg.now)
    (g.V.Read.may_lack c.args.cfg.now) c.args.cursor.now c.read_cfg.new.cursor c.read_cfg.result c.read_cfg.ensures.read
