use Rattle.state_ops_parts.proofs.Items.{floor_reads, floor_within}
use Rattle.state_ops_parts.proofs.variable.reading.read_floor.Goals as goal

pub returns-clause-read : goal.returns-clause-read
returns-clause-read g c = floor_reads c.args.cursor.now c.read_cfg.new.cursor c.read_cfg.result c.read_cfg.ensures.read c.read_cfg.ensures.value

pub returns-clause-value : goal.returns-clause-value
returns-clause-value g c = floor_within c.args.cursor.now c.read_cfg.new.cursor c.read_cfg.result c.read_cfg.ensures.read c.read_cfg.ensures.value
