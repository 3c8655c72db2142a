use Rattle.paged_blob.proofs.Syncing.{sync_leaves}
use Rattle.paged_blob.proofs.laws.a_sync_leaves_what_stood_before_it.Goals as goal

pub returns : goal.returns
returns c answer old new = sync_leaves answer old new
