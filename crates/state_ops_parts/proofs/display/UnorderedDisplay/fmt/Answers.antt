use Rattle.std.proofs.Common.{ap, rules}
use Rattle.std.proofs.Output.{has_written_append, has_written_of_eq}
use Rattle.state_ops_parts.specs.Text.{unordered_text}
use Rattle.state_ops_parts.proofs.display.UnorderedDisplay.fmt.Goals as goal

pub returns-clause-writes : goal.returns-clause-writes
unfolding unordered_text
returns-clause-writes g c = λ plain done.
    let key = c.write_field.ensures plain (search rules) in
    has_written_of_eq _ _ _ _ _
    (ap (λ k. unordered_text k (g.E.Value.Write.encoding c.args.self.now.1)) c.as_bytes.ensures)
    (has_written_append _ _ _ _ _ _ key (c.write_value.ensures key.plain done))
