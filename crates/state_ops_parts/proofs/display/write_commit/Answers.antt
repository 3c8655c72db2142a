use Rattle.std.proofs.Common.{rules}
use Rattle.std.proofs.Output.{has_written_append}
use Rattle.state_ops_parts.specs.Text.{commit_text}
use Rattle.state_ops_parts.proofs.display.write_commit.Goals as goal

pub returns : goal.returns
unfolding commit_text
returns g c = λ plain done.
    let metadata = c.write_metadata.ensures plain (search rules) in
    has_written_append _ _ _ _ _ _ metadata (c.write_floor.ensures metadata.plain done)
