-- A store of files. Its files stand in the order of their names; each has a number of its own, so that a value of a
-- blob that is gone finds no file. The order of issue is kept over all files: a number for each mutation that is not
-- settled.
use Rattle.std.specs.Prelude.{◌≡◌, ⊤, ℕ, ◌+◌, ◌<◌, ◌==◌, nat_le, Bool, true, not, if◌then◌else◌, List, [], ◌∷◌, ◌++◌}
use Rattle.std.specs.Prelude.{length, take, drop, replicate, filter, slice_index_or, slice_set}
use Rattle.std.specs.List.{list_any}
use Rattle.rand_core.specs.Stream.{Stream}
use Rattle.fault_storage.specs.declared.stored.StoredFile.{StoredFile}
use Rattle.fault_storage.specs.declared.storage.WriteMode.{WriteMode}
use Rattle.fault_storage.specs.declared.storage.WriteMode.TheVariants.{Plain, Sync}
use Rattle.fault_storage_parts.specs.Draws.{Mode, Rate, prefix, never}
use Rattle.fault_storage_parts.specs.Revisions.{file_recast, file_without_last, without_last}
use Rattle.fault_storage_parts.specs.Files.{Mutation, written, fixed, resized_to, File, IsLeftOf, with_bytes, with_kept}
use Rattle.fault_storage_parts.specs.Files.{resized, settled}

-- a store: the names of its partitions, its files, the numbers of the files whose mutations were issued, and the next
-- number
pub record Store : Type 0 where
  pub partitions : List (List ℕ)
  pub files : List StoredFile
  pub order : List ℕ
  pub next : ℕ

-- a blob that is open: the number of its file, where its data begin, and its live bytes, those of the header first
pub record Handle : Type 0 where
  pub number : ℕ
  pub offset : ℕ
  pub live : List ℕ

abbrev pub has_number : ℕ → StoredFile → Bool
has_number number stored = stored.number == number

-- the first file that passes
abbrev pub file_with : (StoredFile → Bool) → List StoredFile → File
file_with test [] = record { base = []; log = [] }
file_with test (stored ∷ later) = if test stored then stored.file else file_with test later

-- its number
abbrev pub number_with : (StoredFile → Bool) → List StoredFile → ℕ
number_with test [] = 0
number_with test (stored ∷ later) = if test stored then stored.number else number_with test later

-- the files with the first that passes changed
abbrev pub changed : (StoredFile → Bool) → (File → File) → List StoredFile → List StoredFile
changed test change [] = []
changed test change (stored ∷ later) =
    if test stored then record stored { file = change stored.file } ∷ later else stored ∷ changed test change later

-- the place of the first file that passes
pub record IsPlace (test : StoredFile → Bool) (files : List StoredFile) (place : ℕ) : Type 0 where
  pub within : place < length files
  pub some : list_any test files ≡ true
  pub is : (d : StoredFile) → file_with test files ≡ (slice_index_or files place d).file
  pub number : (d : StoredFile) → number_with test files ≡ (slice_index_or files place d).number
  pub change : (change : File → File) (d : StoredFile)
      → changed test change files
      ≡ slice_set files place
      (record (slice_index_or files place d) { file = change (slice_index_or files place d).file })

abbrev pub is_there : ℕ → Store → Bool
is_there number store = list_any (has_number number) store.files

-- a file with one more mutation in its log
abbrev pub with_issued : Mutation → File → File
with_issued mutation file = record { base = file.base; log = file.log ++ mutation ∷ [] }

-- a file with this base and an empty log
abbrev pub settled_at : List ℕ → File
settled_at bytes = record { base = bytes; log = [] }

-- a mutation that is issued ends the log of its file, where that is there, and its turn comes last
abbrev pub issued : ℕ → Mutation → Store → Store
issued number mutation store =
    if is_there number store
    then record store {
      files = changed (has_number number) (with_issued mutation) store.files;
      order = store.order ++ number ∷ [];
    }
    else store

-- the mutation that was issued last of a file, put otherwise
abbrev pub revised : ℕ → (Mutation → Mutation) → Store → Store
revised number change store = record store { files = changed (has_number number) (file_recast change) store.files }

-- the mutation that was issued last of all, taken back, where its file is there
abbrev pub withdrawn : ℕ → Store → Store
withdrawn number store =
    if is_there number store
    then record store {
      files = changed (has_number number) file_without_last store.files;
      order = without_last store.order;
    }
    else store

-- without the turns of a file
abbrev pub without : ℕ → List ℕ → List ℕ
without number order = filter (λ other. not (other == number)) order

-- without the turns of files that are gone
abbrev pub without_retired : Store → Store
without_retired store = record store { order = filter (λ number. is_there number store) store.order }

-- bytes that are published are the base of their file, whose log is empty
abbrev pub published : ℕ → List ℕ → Store → Store
published number bytes store = record store {
  files = changed (has_number number) (λ _. settled_at bytes) store.files;
  order = without number store.order;
}

-- the first mutation of a file that is there by a choice that is drawn, and the words left
abbrev pub settled_in : ℕ → List StoredFile → Stream → List StoredFile × Stream
settled_in number files words =
    if list_any (has_number number) files
    then (
      changed (has_number number) (λ file. (settled file words).0) files,
      (settled (file_with (has_number number) files) words).1,
    )
    else (files, words)

-- what a crash leaves of the files by choices drawn in the order of issue, and the words left
unfoldable pub crashed_files : List StoredFile → List ℕ → Stream → List StoredFile × Stream
crashed_files files [] words = (files, words)
crashed_files files (number ∷ later) words =
    let next = settled_in number files words in crashed_files next.0 later next.1

abbrev pub crashed_store : Store → Stream → Store × Stream
crashed_store store words =
    let left = crashed_files store.files store.order words in (record store { files = left.0; order = [] }, left.1)

-- each file of a store is what choices left of one of another's, under its name and number
abbrev pub AreLeftOf : List StoredFile → List StoredFile → Type 0
AreLeftOf [] [] = ⊤
AreLeftOf [] (left ∷ others) = ⊥
AreLeftOf (stored ∷ later) [] = ⊥
AreLeftOf (stored ∷ later) (left ∷ others) =
    (left.name ≡ stored.name) × (left.number ≡ stored.number)
    × IsLeftOf stored.file.base stored.file.log left.file.base left.file.log × AreLeftOf later others

-- the handle with other live bytes
abbrev pub showing : List ℕ → Handle → Handle
showing live handle = record handle { live = live }

-- the bytes of a blob from an offset on are there, so many of them
abbrev pub has_bytes : Handle → ℕ → ℕ → Bool
has_bytes handle offset count = nat_le (handle.offset + offset + count) (length handle.live)

abbrev pub bytes_at : Handle → ℕ → ℕ → List ℕ
bytes_at handle offset count = take count (drop (handle.offset + offset) handle.live)

-- a plain write: the bytes are live at once, and a crash chooses of them
abbrev pub plain_write : ℕ → List ℕ → Mode → Rate → Handle → Store → Handle × Store
plain_write offset bytes mode rate handle store = let at = handle.offset + offset in
    (showing (with_bytes at bytes handle.live) handle, issued handle.number (written at bytes mode rate) store)

-- a write of which these bytes are durable at once, and live
abbrev pub fixed_write : ℕ → List ℕ → List Bool → Handle → Store → Handle × Store
fixed_write offset bytes kept handle store = let at = handle.offset + offset in
    (showing (with_kept at bytes kept handle.live) handle, issued handle.number (fixed at bytes kept) store)

-- a write that is synced: all of its bytes
abbrev pub synced_write : ℕ → List ℕ → Handle → Store → Handle × Store
synced_write offset bytes handle store = fixed_write offset bytes (replicate (length bytes) true) handle store

-- a resize: live at once, and a crash chooses whether it is kept
abbrev pub resizing : ℕ → Rate → Handle → Store → Handle × Store
resizing size rate handle store = let all = handle.offset + size in
    (showing (resized all handle.live) handle, issued handle.number (resized_to all rate) store)

-- a write to a store in memory: of a plain one a crash keeps a beginning
abbrev pub memory_write : WriteMode → ℕ → List ℕ → Handle → Store → Handle × Store
memory_write Plain offset bytes handle store = plain_write offset bytes prefix never handle store
memory_write Sync offset bytes handle store = synced_write offset bytes handle store
