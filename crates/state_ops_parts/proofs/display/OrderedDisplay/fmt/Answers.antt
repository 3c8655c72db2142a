use Rattle.std.proofs.Common.{◌∙◌, ap, rules}
use Rattle.std.proofs.Output.{has_written_append, has_written_of_eq}
use Rattle.state_ops_parts.specs.Text.{ordered_text}
use Rattle.state_ops_parts.proofs.display.OrderedDisplay.fmt.Goals as goal

pub returns-clause-writes : goal.returns-clause-writes
unfolding ordered_text
returns-clause-writes g c = λ plain done.
    let value = g.E.Value.Write.encoding c.args.self.now.value in
    let key = c.write_field.ensures plain (search rules) in
    let next_key = c.write_field-2.ensures key.plain (search rules) in
    has_written_of_eq _ _ _ _ _
    (ap (λ k. ordered_text k c.as_bytes-2.result.now value) c.as_bytes.ensures
    ∙ ap (λ n. ordered_text (g.K.Key.bytes c.args.self.now.key) n value) c.as_bytes-2.ensures)
    (has_written_append _ _ _ _ _ _ key
    (has_written_append _ _ _ _ _ _ next_key (c.write_value.ensures next_key.plain done)))
