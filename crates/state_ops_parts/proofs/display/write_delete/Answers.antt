use Rattle.std.proofs.Common.{rules}
use Rattle.std.proofs.Output.{has_written_append}
use Rattle.state_ops_parts.specs.Text.{delete_text}
use Rattle.state_ops_parts.proofs.display.write_delete.Goals as goal

pub returns : goal.returns
unfolding delete_text
returns g c = λ plain done.
    let key = c.write_field.ensures plain (search rules) in
    has_written_append _ _ _ _ _ _ key (c.write_str.ensures.writes key.plain done)
