use Rattle.std.proofs.Common.{option_map, ap, sym, rules}
use Rattle.std.proofs.Output.{has_written_append, has_written_of_eq}
use Rattle.state_ops_parts.specs.Text.{field_text, metadata_text}
use Rattle.state_ops_parts.proofs.display.write_metadata.Goals as goal

pub returns-in-None : goal.returns-in-None
unfolding metadata_text
returns-in-None g c = search rules

pub returns-in_ok-write_str-in-Some : goal.returns-in_ok-write_str-in-Some
unfolding metadata_text field_text
returns-in_ok-write_str-in-Some g c = λ plain done.
    let name = c.write_str-in-Some.ensures.writes plain (search rules) in
    has_written_of_eq _ _ _ _ _ (ap (λ m. metadata_text (option_map g.V.Write.encoding m)) (sym c.in-Some.is))
    (has_written_append _ _ _ _ _ _ name (c.fmt_hex.ensures name.plain done))
