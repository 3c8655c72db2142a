-- The openings of calls of which the oldest comes first.
use Rattle.std.specs.Prelude.{Bool, true, false, ◌&&◌, List, [], ◌∷◌, ◌++◌, reverse}
use Rattle.paged_blob_parts.specs.Calls.{Call, opened, wrote, resized_to, synced, Change, write, resize, File}
use Rattle.paged_blob_parts.specs.Calls.{after_change, after_sync}
use Rattle.auth_store_device.specs.Openings.{Showing}

-- the opening that a call is, where it is one
abbrev pub opening_in : List Call → Call → List Showing
opening_in before (opened shown) = record { before = reverse before; shown = shown } ∷ []
opening_in before (wrote offset bytes is_sync ok) = []
opening_in before (resized_to size ok) = []
opening_in before (synced bytes ok) = []

-- the openings of later calls that have these before them
abbrev pub openings_from : List Call → List Call → List Showing
openings_from before [] = []
openings_from before (call ∷ later) = opening_in before call ++ openings_from (before ++ call ∷ []) later

-- whether the file begins anew with the call
abbrev pub is_base : Call → Bool
is_base (opened shown) = true
is_base (wrote offset bytes is_sync ok) = false
is_base (resized_to size ok) = false
is_base (synced bytes ok) = ok

-- what a call makes of the file
abbrev pub file_after : Call → File → File
file_after (opened shown) file = record { base = shown; changes = []; failed = false }
file_after (wrote offset bytes is_sync ok) file = after_change (write offset bytes (is_sync && ok)) ok file
file_after (resized_to size ok) file = after_change (resize size) ok file
file_after (synced bytes ok) file = after_sync bytes ok file

-- and what calls make of it
abbrev pub file_from : File → List Call → File
file_from file [] = file
file_from file (call ∷ later) = file_from (file_after call file) later

-- the change that a call is, where it is one
abbrev pub change_in : Call → List Change
change_in (opened shown) = []
change_in (wrote offset bytes is_sync ok) = write offset bytes (is_sync && ok) ∷ []
change_in (resized_to size ok) = resize size ∷ []
change_in (synced bytes ok) = []

-- the changes of calls, the oldest first
abbrev pub changes_in : List Call → List Change
changes_in [] = []
changes_in (call ∷ later) = change_in call ++ changes_in later
