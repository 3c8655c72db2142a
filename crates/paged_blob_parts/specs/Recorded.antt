-- A record of calls that is kept as data.
use Rattle.std.specs.Prelude.{List, map, reverse}
use Rattle.paged_blob_parts.specs.Calls.{Call, opened, wrote, resized_to, synced}
use Rattle.paged_blob_parts.specs.declared.record.Recorded.{Recorded}
use Rattle.paged_blob_parts.specs.declared.record.Recorded.TheVariants.{Opened, Wrote, ResizedTo, Synced}

-- the call that is recorded
abbrev pub call_of : Recorded → Call
call_of (Opened shown) = opened shown.items
call_of (Wrote offset bytes is_sync ok) = wrote offset bytes.items is_sync ok
call_of (ResizedTo size ok) = resized_to size ok
call_of (Synced bytes ok) = synced bytes.items ok

-- the calls of a record that has the oldest first: the newest comes first
abbrev pub calls_of : List Recorded → List Call
calls_of record_kept = reverse (map call_of record_kept)
