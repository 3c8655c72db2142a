-- How many syncs of a blob were completed.
use Rattle.std.specs.Prelude.{ℕ, ◌+◌, if◌then◌else◌, List, [], ◌∷◌}
use Rattle.paged_blob_parts.specs.Calls.{Call, opened, wrote, resized_to, synced}

abbrev pub completed_syncs : List Call → ℕ
completed_syncs [] = 0
completed_syncs (opened shown ∷ earlier) = completed_syncs earlier
completed_syncs (wrote offset bytes is_sync ok ∷ earlier) = completed_syncs earlier
completed_syncs (resized_to size ok ∷ earlier) = completed_syncs earlier
completed_syncs (synced bytes ok ∷ earlier) = if ok then completed_syncs earlier + 1 else completed_syncs earlier
