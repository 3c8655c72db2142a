use Rattle.std.proofs.Common.{rules}
use Rattle.std.proofs.Output.{has_written_append}
use Rattle.state_ops_parts.specs.Text.{value_text}
use Rattle.state_ops_parts.proofs.display.write_value.Goals as goal

pub returns : goal.returns
unfolding value_text
returns g c = λ plain done.
    let name = c.write_str.ensures.writes plain (search rules) in
    let value = c.fmt_hex.ensures name.plain (search rules) in
    has_written_append _ _ _ _ _ _ name
    (has_written_append _ _ _ _ _ _ value (c.write_str-2.ensures.writes value.plain done))
