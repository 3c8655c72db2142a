use Rattle.std.proofs.Common.{[], length, ap, sym, ◌∙◌}
use Rattle.auth_store_device.specs.Records.{Recording}
use Rattle.auth_store_device.proofs.KeptCalls.{length-in}
use Rattle.auth_store_device.proofs.record.Record.len.Goals as goal

pub returns : goal.returns
returns c =
    c.len.ensures ∙ sym (length-in c.self.inside.blocks [] c.self.inside.calls.items) ∙ ap (λ (r : Recording). length r.in_order) c.self.view_is
