-- The calls that made a file, read off the file and what it takes to go back before each.
use Rattle.std.specs.Prelude.{ℕ, ◌+◌, true, List, [], ◌∷◌, ◌++◌, take, drop}
use Rattle.paged_blob_parts.specs.Calls.{Call, wrote, resized_to, synced}
use Rattle.undo_disk.specs.declared.step.Step.{Step}
use Rattle.undo_disk.specs.declared.step.Step.TheVariants.{Wrote, Resized, Synced}

-- the file before a write at an offset of so many bytes, when it had so many and these stood there
unfoldable pub before_write : ℕ → ℕ → ℕ → List ℕ → List ℕ → List ℕ
before_write offset len size lost file = take size (take offset file ++ (lost ++ drop (offset + len) file))

-- the file before a resize, when it had so many bytes and these were cut off
unfoldable pub before_resize : ℕ → List ℕ → List ℕ → List ℕ
before_resize size lost file = take size (file ++ lost)

-- the calls of these steps, of which the newest comes first, after which the file is this: all of them succeeded
abbrev pub calls_from : List Step → List ℕ → List Call
calls_from [] file = []
calls_from (Wrote offset len is_sync size lost ∷ earlier) file =
    wrote offset (take len (drop offset file)) is_sync true
    ∷ calls_from earlier (before_write offset len size lost.items file)
calls_from (Resized to size lost ∷ earlier) file =
    resized_to to true ∷ calls_from earlier (before_resize size lost.items file)
calls_from (Synced ∷ earlier) file = synced file true ∷ calls_from earlier file
