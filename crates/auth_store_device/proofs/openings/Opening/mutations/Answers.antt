use Rattle.std.proofs.Common.{ap, reverse, ◌∙◌}
use Rattle.paged_blob_parts.specs.Calls.{file_of}
use Rattle.auth_store_device.specs.Openings.{mutations_of}
use Rattle.auth_store_device.proofs.Replays.{mutations-since}
use Rattle.auth_store_device.proofs.openings.Opening.mutations.Goals as goal

pub returns : goal.returns
returns c =
    mutations-since (file_of (reverse c.self.inside.earlier)) c.calls_since.result c.calls_since.ensures.file c.calls_since.ensures.calls
    ∙ ap mutations_of c.self.view_is
