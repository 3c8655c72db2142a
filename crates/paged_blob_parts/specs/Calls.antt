-- A blob's past: the calls that were made of it, and the file that they make.
use Rattle.std.specs.Prelude.{ℕ, ◌+◌, ◌-◌, Bool, false, not, ◌&&◌, ◌||◌, if◌then◌else◌, List, [], ◌∷◌, ◌++◌, length}
use Rattle.std.specs.Prelude.{take, drop, replicate}

-- A call, as it was asked for, and whether it succeeded: an opening with the bytes that it showed; a write at an
-- offset, and whether it was to be durable at once; a resize; a sync with the bytes that it made durable.
pub data Call : Type 0 where
  opened : List ℕ → Call
  wrote : ℕ → List ℕ → Bool → Bool → Call
  resized_to : ℕ → Bool → Call
  synced : List ℕ → Bool → Call

-- a write, and whether it was durable at once; or a change of the length
pub data Change : Type 0 where
  write : ℕ → List ℕ → Bool → Change
  resize : ℕ → Change

-- so many bytes: those of the file, and zeros behind them
unfoldable pub resized : ℕ → List ℕ → List ℕ
resized size file = take size file ++ replicate (size - length file) 0

-- the file with these bytes at an offset, and zeros in a gap before them
unfoldable pub with_bytes : ℕ → List ℕ → List ℕ → List ℕ
with_bytes offset bytes file = resized offset file ++ (bytes ++ drop (offset + length bytes) file)

-- what a change makes of a file, whole
abbrev pub changed : Change → List ℕ → List ℕ
changed (write offset bytes kept) file = with_bytes offset bytes file
changed (resize size) file = resized size file

-- the base after the changes, each whole; the newest comes first
abbrev pub whole : List ℕ → List Change → List ℕ
whole base [] = base
whole base (change ∷ earlier) = changed change (whole base earlier)

-- What an opening showed or a sync made durable last, the writes and resizes since, the newest first, and whether one
-- of them failed. One that failed stands among them whole.
pub record File : Type 0 where
  pub base : List ℕ
  pub changes : List Change
  pub failed : Bool

abbrev pub after_change : Change → Bool → File → File
after_change change ok file = record {
  base = file.base;
  changes = change ∷ file.changes;
  failed = file.failed || not ok;
}

-- a sync that succeeds begins anew
abbrev pub after_sync : List ℕ → Bool → File → File
after_sync bytes ok file = if ok then record { base = bytes; changes = []; failed = false } else file

-- the file that these calls make, of which the newest comes first; before the first one it is empty
abbrev pub file_of : List Call → File
file_of [] = record { base = []; changes = []; failed = false }
file_of (opened shown ∷ earlier) = record { base = shown; changes = []; failed = false }
file_of (wrote offset bytes is_sync ok ∷ earlier) =
    after_change (write offset bytes (is_sync && ok)) ok (file_of earlier)
file_of (resized_to size ok ∷ earlier) = after_change (resize size) ok (file_of earlier)
file_of (synced bytes ok ∷ earlier) = after_sync bytes ok (file_of earlier)

-- the bytes that a read gives a slice of, while no write or resize has failed since the last opening or completed sync
abbrev pub content : List Call → List ℕ
content calls = whole (file_of calls).base (file_of calls).changes
