use Rattle.std.proofs.Common.{rules}
use Rattle.state_ops_parts.specs.Text.{floor_text}
use Rattle.state_ops_parts.proofs.display.write_floor.Goals as goal

pub returns : goal.returns
unfolding floor_text
returns g c = search rules
