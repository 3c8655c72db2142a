use Rattle.std.proofs.Common.{◌∙◌}
use Rattle.state_proofs_parts.proofs.ToldWidths.{size-told}
use Rattle.state_proofs_parts.proofs.chunk_form.BytesChunkForm.is_allowed.Goals as goal

pub returns : goal.returns
returns c = c.is_some.ensures ∙ size-told c.new.result c.args.limits.now.0 c.new.ensures.some c.new.ensures.none
