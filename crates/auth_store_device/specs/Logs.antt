-- The device's log: one file of the store, whose bytes behind the header are those of a blob.
use Rattle.std.specs.Prelude.{◌≡◌, ◌⊎◌, ⊤, ℕ, ◌≤◌, Bool, true, false, not, ◌&&◌, nat_lt, Option, Some, List, [], ◌∷◌}
use Rattle.std.specs.Prelude.{length, take, drop}
use Rattle.std.specs.List.{list_any}
use Rattle.fault_storage.specs.declared.stored.StoredFile.{StoredFile}
use Rattle.fault_storage_parts.specs.declared.header.Layout.TheVariants.{V0}
use Rattle.fault_storage_parts.specs.Files.{Mutation, ArePast, IsLeftOf, durable_bytes}
use Rattle.fault_storage_parts.specs.Files as files
use Rattle.fault_storage_parts.specs.Headers.{magic_of, created, IsUnmade, first_fault, file_checks}
use Rattle.fault_storage_parts.specs.declared.error.HeaderError.{HeaderError}
use Rattle.fault_storage_parts.specs.declared.header.Versions.{Versions}
use Rattle.fault_storage.specs.Stores.{Store, Handle, file_with, has_number}
use Rattle.fault_storage.specs.Directory.{has_name, has_partition, both_layouts, front_of}
use Rattle.paged_blob_parts.specs.Calls.{File}
use Rattle.paged_blob_parts.specs.Images.{IsReached, IsLive}

-- the partition `store`, and in it the name `log`
abbrev pub log_partition : List ℕ
log_partition = 115 ∷ 116 ∷ 111 ∷ 114 ∷ 101 ∷ []

abbrev pub log_name : List ℕ
log_name = 108 ∷ 111 ∷ 103 ∷ []

abbrev pub is_log : StoredFile → Bool
is_log = has_name log_partition log_name

abbrev pub has_log : Store → Bool
has_log store = list_any is_log store.files

-- the file, or an empty one where there is none
abbrev pub log_of : Store → files.File
log_of store = file_with is_log store.files

-- what is durable of it, the header first
abbrev pub durable_log : Store → List ℕ
durable_log store = durable_bytes (log_of store).base (log_of store).log

-- bytes behind a header of eight
abbrev pub behind_header : List ℕ → List ℕ
behind_header bytes = drop 8 bytes

-- the bytes begin with a header of the layout that has eight bytes
pub record HasHeader (bytes : List ℕ) : Type 0 where
  pub long : 8 ≤ length bytes
  pub magic : take 4 bytes ≡ magic_of V0

-- the bytes begin with the header of a log that the device makes: of that layout, and of version 0
abbrev pub BeginsAsMade : List ℕ → Type 0
BeginsAsMade bytes = take 8 bytes ≡ created V0 0

-- the one version in which the log is opened
abbrev pub log_versions : Versions
log_versions = record { least = 0; greatest = 0 }

-- the first fault of a file's header, where it is opened in that version
abbrev pub fault_of : List ℕ → Option HeaderError
fault_of bytes = first_fault (file_checks both_layouts log_versions (front_of bytes) (length bytes))

-- Nothing of the file is pending, its making was not interrupted, and an opening refuses its header.
pub record IsForeign (log : files.File) : Type 0 where
  pub settled : log.log ≡ []
  pub made : IsUnmade (front_of log.base) (length log.base) → ⊥
  pub fault : HeaderError
  pub refused : fault_of log.base ≡ Some fault

-- the log, where there is one, begins so
abbrev pub HasOwnHeader : Store → Type 0
HasOwnHeader store = has_log store ≡ true → BeginsAsMade (log_of store).base

-- none of the numbers stands twice, and all are below the next one
abbrev pub are_numbered : ℕ → List StoredFile → Bool
are_numbered next [] = true
are_numbered next (stored ∷ later) =
    nat_lt stored.number next && (not (list_any (has_number stored.number) later) && are_numbered next later)

-- the first file that passes one test is the first that passes the other
abbrev pub IsFirst : (StoredFile → Bool) → (StoredFile → Bool) → List StoredFile → Type 0
IsFirst test other [] = ⊤
IsFirst test other (stored ∷ later) = (test stored ≡ other stored) × (other stored ≡ false → IsFirst test other later)

-- Its numbers are those of one file each, and the log, where it is there, is in its partition and has a header of eight
-- bytes that no mutation reaches, or one that each opening refuses.
pub record IsOrderly (store : Store) : Type 0 where
  pub numbered : are_numbered store.next store.files ≡ true
  pub listed : has_log store ≡ true → has_partition log_partition store.partitions ≡ true
  pub headed : has_log store ≡ true → HasHeader (log_of store).base ⊎ IsForeign (log_of store)
  pub past : ArePast 8 (log_of store).log

-- each outcome of a crash of the log is, behind the header, an image of the blob that a crash may leave
pub record Stands (file : File) (log : files.File) : Type 0 where
  pub each : (left : List ℕ) → IsLeftOf log.base log.log left [] → IsReached file (behind_header left)

-- the handle is one of the log, begins as that does, as a log that the device makes, and shows bytes that a read of the
-- blob may find
pub record IsHandleOf (store : Store) (file : File) (handle : Handle) : Type 0 where
  pub there : has_log store ≡ true
  pub first : IsFirst (has_number handle.number) is_log store.files
  pub offset : handle.offset ≡ 8
  pub own : HasOwnHeader store
  pub headed : BeginsAsMade handle.live
  pub live : IsLive file (behind_header handle.live)

-- the log is open by this handle, in a store that stands to the blob's file
pub record IsOpenLog (store : Store) (file : File) (handle : Handle) : Type 0 where
  pub orderly : IsOrderly store
  pub stands : Stands file (log_of store)
  pub opened : IsHandleOf store file handle
