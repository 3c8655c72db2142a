use Rattle.std.proofs.Common.{rules}
use Rattle.paged_blob_parts.specs.Calls.{resized}
use Rattle.auth_store_device.proofs.file.set_length.Goals as goal

pub returns : goal.returns
unfolding resized
returns c = search rules
