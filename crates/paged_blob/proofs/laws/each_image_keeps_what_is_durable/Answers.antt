use Rattle.paged_blob_parts.specs.Laws.Durable.{file_keeps}
use Rattle.paged_blob.proofs.laws.each_image_keeps_what_is_durable.Goals as goal

pub returns : goal.returns
returns c sum size calls content synced tip slot room w = file_keeps sum size room calls content synced w.kept
