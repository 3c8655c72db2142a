use Rattle.std.proofs.Common.{rules}
use Rattle.std.proofs.Output.{has_written_append}
use Rattle.state_ops_parts.specs.Text.{field_text}
use Rattle.state_ops_parts.proofs.display.write_field.Goals as goal

pub returns : goal.returns
unfolding field_text
returns g c = λ plain done.
    let name = c.write_str.ensures.writes plain (search rules) in
    has_written_append _ _ _ _ _ _ name (c.write_hex.ensures name.plain done)
