-- The files of a store by their names, in byte order: partitions first, then names, shorter ones before their
-- continuations.
use Rattle.std.specs.Prelude.{◌≡◌, ℕ, ◌+◌, ◌-◌, ◌^◌, ◌<◌, ◌≤◌, ◌⊎◌, nat_le, Bool, true, false, not, if◌then◌else◌}
use Rattle.std.specs.Prelude.{Option, Some, None, Result, MatchResult, List, [], ◌∷◌, ◌++◌, length, take, filter, map}
use Rattle.std.specs.List.{list_any}
use Rattle.std.specs.Str.{bytes_eq}
use Rattle.std.specs.declared.vec.Vec.{Vec}
use Rattle.std.specs.declared.alloc.Global.{Global}
use Rattle.fault_storage.specs.declared.stored.StoredFile.{StoredFile}
use Rattle.fault_storage_parts.specs.declared.header.Layouts.{Layouts}
use Rattle.fault_storage_parts.specs.declared.header.Resolved.{Resolved}
use Rattle.fault_storage_parts.specs.declared.header.Versions.{Versions}
use Rattle.fault_storage_parts.specs.declared.error.HeaderError.{HeaderError}
use Rattle.fault_storage_parts.specs.declared.header.Layout.TheVariants.{V0, V1}
use Rattle.fault_storage_parts.specs.declared.error.Error.{Error}
use Rattle.fault_storage_parts.specs.declared.error.Error.TheVariants.{BlobInsufficientLength, BlobMissing}
use Rattle.fault_storage_parts.specs.declared.error.Error.TheVariants.{PartitionMissing, PartitionNameInvalid, Header}
use Rattle.fault_storage_parts.specs.declared.error.Error.TheVariants.{NumberEnded, Memory}
use Rattle.fault_storage.specs.declared.storage.Opened.{Opened}
use Rattle.fault_storage.specs.declared.storage.WriteMode.{WriteMode}
use Rattle.fault_storage_parts.specs.Draws.{never}
use Rattle.fault_storage_parts.specs.Names.{is_partition_name}
use Rattle.fault_storage_parts.specs.Files.{durable_bytes}
use Rattle.fault_storage_parts.specs.Headers.{created, IsUnmade, first_fault, file_checks, resolved_of}
use Rattle.fault_storage.specs.Opens.{is_before, is_name}
use Rattle.fault_storage.specs.Stores.{Store, Handle, file_with, number_with, changed, without, settled_at, has_bytes}
use Rattle.fault_storage.specs.Stores.{bytes_at, is_there, published, memory_write, resizing}

abbrev pub has_name : List ℕ → List ℕ → StoredFile → Bool
has_name partition name stored = is_name partition name stored.name

abbrev pub is_in : List ℕ → StoredFile → Bool
is_in partition stored = bytes_eq stored.name.0 partition

abbrev pub has_partition : List ℕ → List (List ℕ) → Bool
has_partition partition partitions = list_any (λ other. bytes_eq other partition) partitions

-- a file put in its place in order
abbrev pub in_order : StoredFile → List StoredFile → List StoredFile
in_order added [] = added ∷ []
in_order added (stored ∷ later) =
    if is_before added.name stored.name then added ∷ stored ∷ later else stored ∷ in_order added later

-- the partitions with this one, where it is not among them
abbrev pub with_partition : List ℕ → List (List ℕ) → List (List ℕ)
with_partition partition partitions =
    if has_partition partition partitions then partitions else partitions ++ partition ∷ []

-- a file made anew under a name, with the next number: a file that had the name is gone
abbrev pub placed : List ℕ → List ℕ → List ℕ → Store → Store
placed partition name bytes store = record store {
  partitions = with_partition partition store.partitions;
  files = in_order (record { name = (partition, name); number = store.next; file = settled_at bytes })
      (filter (λ stored. not (has_name partition name stored)) store.files);
  next = store.next + 1;
}

-- what is durable of the file of a name
abbrev pub durable_in : List ℕ → List ℕ → List StoredFile → List ℕ
durable_in partition name files =
    let file = file_with (has_name partition name) files in durable_bytes file.base file.log

-- a file of which what is durable is the base, and no mutation is left
abbrev pub admitted : List ℕ → List ℕ → Store → Store
admitted partition name store = record store {
  files = changed (has_name partition name) (λ _. settled_at (durable_in partition name store.files)) store.files;
  order = without (number_with (has_name partition name) store.files) store.order;
}

-- without the file of a name
abbrev pub removed : List ℕ → List ℕ → Store → Store
removed partition name store = record store {
  files = filter
      (λ stored. not (has_name partition name stored)) store.files;
}

-- without a partition and its files
abbrev pub removed_partition : List ℕ → Store → Store
removed_partition partition store = record store {
  partitions = filter (λ other. not (bytes_eq other partition)) store.partitions;
  files = filter (λ stored. not (is_in partition stored)) store.files;
}

-- the names of a partition
abbrev pub names_in : List ℕ → List StoredFile → List (List ℕ)
names_in partition files = map (λ stored. stored.name.1) (filter (is_in partition) files)

-- the partition is there, under a valid name
abbrev pub HasPartition : List ℕ → Store → Type 0
HasPartition partition store = (is_partition_name partition ≡ true) × (has_partition partition store.partitions ≡ true)

-- and in it a file of the name
abbrev pub HasFile : List ℕ → List ℕ → Store → Type 0
HasFile partition name store = HasPartition partition store × (list_any (has_name partition name) store.files ≡ true)

-- the partition is refused: its name is invalid, or there is none
abbrev pub LacksPartition : List ℕ → Store → Error → Type 0
LacksPartition partition store e =
    ((e ≡ PartitionNameInvalid) × (is_partition_name partition ≡ false))
    ⊎ ((e ≡ PartitionMissing) × (is_partition_name partition ≡ true)
    × (has_partition partition store.partitions ≡ false))

-- the name is refused: its partition is, or there is no file of the name
abbrev pub LacksName : List ℕ → List ℕ → Store → Error → Type 0
LacksName partition name store e =
    LacksPartition partition store e
    ⊎ ((e ≡ BlobMissing) × HasPartition partition store × (list_any (has_name partition name) store.files ≡ false))

-- both layouts are accepted, and files are created in the first
abbrev pub both_layouts : Layouts
both_layouts = record { least = V0; greatest = V1 }

-- the first bytes of a file, by which its header is told
abbrev pub front_of : List ℕ → List ℕ
front_of bytes = take (if nat_le (length bytes) 4096 then length bytes else 12) bytes

-- there is no file of a name, or none with a header
abbrev pub IsMissing : List ℕ → List ℕ → List StoredFile → Type 0
IsMissing partition name files =
    (list_any (has_name partition name) files ≡ false)
    ⊎ ((list_any (has_name partition name) files ≡ true)
    × IsUnmade (front_of (durable_in partition name files)) (length (durable_in partition name files)))

-- there is a file of a name, which is neither under eight bytes nor what a crash in its creation left
abbrev pub IsMade : List ℕ → List ℕ → List StoredFile → Type 0
IsMade partition name files =
    (list_any (has_name partition name) files ≡ true)
    × (IsUnmade (front_of (durable_in partition name files)) (length (durable_in partition name files)) → ⊥)

-- the handle of a blob that is created
abbrev pub new_handle : ℕ → Versions → Handle
new_handle number versions = record { number = number; offset = 8; live = created V0 versions.greatest }

-- the handle of a blob that is there, and what its header says
abbrev pub shown_in : List ℕ → List ℕ → List StoredFile → Resolved
shown_in partition name files =
    let bytes = durable_in partition name files in resolved_of (front_of bytes) (length bytes)

abbrev pub handle_in : List ℕ → List ℕ → List StoredFile → Handle
handle_in partition name files = record {
  number = number_with (has_name partition name) files;
  offset = (shown_in partition name files).data_offset;
  live = durable_in partition name files;
}

abbrev pub fault_in : List ℕ → List ℕ → Versions → List StoredFile → Option HeaderError
fault_in partition name versions files = let bytes = durable_in partition name files in first_fault
    (file_checks both_layouts versions (front_of bytes) (length bytes))

-- why an opening under a valid name is refused: the header of a file that is there, the end of numbers where one would
-- be given, or memory
abbrev pub RefusesOpening : Store → List ℕ → List ℕ → Versions → Error → Type 0
RefusesOpening store partition name versions e =
    ((fault : HeaderError) × IsMade partition name store.files × (e ≡ Header fault)
    × (fault_in partition name versions store.files ≡ Some fault))
    ⊎ ((e ≡ NumberEnded) × IsMissing partition name store.files × (store.next ≡ 2 ^ 64 - 1))
    ⊎ (e ≡ Memory)

-- what an opening gives of a blob that is there, or that it creates, and why it is refused
abbrev pub MemoryOpens : Store → List ℕ → List ℕ → Versions → Result (Opened Handle) Error → Store → Type 0
MemoryOpens old partition name versions result new = MatchResult result
    (λ opened. (is_partition_name partition ≡ true)
    × ((IsMade partition name old.files × (fault_in partition name versions old.files ≡ None)
    × (opened ≡ record {
      blob = handle_in partition name old.files;
      size = (shown_in partition name old.files).size;
      version = (shown_in partition name old.files).version;
    })
    × (new ≡ old))
    ⊎ (IsMissing partition name old.files
    × (opened ≡ record { blob = new_handle old.next versions; size = 0; version = versions.greatest })
    × (new ≡ placed partition name (created V0 versions.greatest) old))))
    (λ e. (new ≡ old)
    × (((e ≡ PartitionNameInvalid) × (is_partition_name partition ≡ false))
    ⊎ ((is_partition_name partition ≡ true) × RefusesOpening old partition name versions e)))

-- what the making of a file anew gives: its number
abbrev pub MemoryPlaces : List ℕ → List ℕ → List ℕ → Store → Result ℕ Error → Store → Type 0
MemoryPlaces partition name bytes old result new = MatchResult result
    (λ number. (number ≡ old.next) × (new ≡ placed partition name bytes old))
    (λ e. (new ≡ old) × (((e ≡ NumberEnded) × (old.next ≡ 2 ^ 64 - 1)) ⊎ (e ≡ Memory)))

-- what a listing gives, and why it is refused
abbrev pub MemoryScans : List ℕ → Store → Result (Vec (Vec ℕ Global) Global) Error → Store → Type 0
MemoryScans partition old result new = (new ≡ old) × MatchResult result
    (λ names. HasPartition partition old × (map (λ name. name.items) names.items ≡ names_in partition old.files))
    (λ e. LacksPartition partition old e ⊎ ((e ≡ Memory) × HasPartition partition old))

-- what a read gives
abbrev pub MemoryReads : Handle → ℕ → ℕ → Store → Result (Vec ℕ Global) Error → Store → Type 0
MemoryReads handle offset count old result new = (new ≡ old) × MatchResult result
    (λ bytes. (has_bytes handle offset count ≡ true) × (bytes.items ≡ bytes_at handle offset count))
    (λ e. ((e ≡ BlobInsufficientLength) × (has_bytes handle offset count ≡ false))
    ⊎ ((e ≡ Memory) × (has_bytes handle offset count ≡ true)))

-- what a read into a buffer makes of it
abbrev pub Fills : Handle → ℕ → List ℕ → List ℕ → Result Unit Error → Type 0
Fills handle offset buffer filled result = MatchResult result
    (λ _. (has_bytes handle offset (length buffer) ≡ true) × (filled ≡ bytes_at handle offset (length buffer)))
    (λ e. (e ≡ BlobInsufficientLength) × (has_bytes handle offset (length buffer) ≡ false) × (filled ≡ buffer))

abbrev pub MemoryFills : Handle → ℕ → List ℕ → List ℕ → Store → Result Unit Error → Store → Type 0
MemoryFills handle offset buffer filled old result new = (new ≡ old) × Fills handle offset buffer filled result

-- what a write gives
abbrev pub MemoryWrites : Handle → ℕ → List ℕ → WriteMode → Store → Result Unit Error → Handle → Store → Type 0
MemoryWrites handle offset bytes mode old result changed new =
    let end = handle.offset + offset + length bytes in MatchResult result
    (λ _. (end < 2 ^ 64) × ((changed, new) ≡ memory_write mode offset bytes handle old))
    (λ e. (changed ≡ handle) × (new ≡ old) × (((e ≡ NumberEnded) × (2 ^ 64 ≤ end)) ⊎ ((e ≡ Memory) × (end < 2 ^ 64))))

-- what a resize gives
abbrev pub MemoryResizes : Handle → ℕ → Store → Result Unit Error → Handle → Store → Type 0
MemoryResizes handle size old result changed new = let end = handle.offset + size in MatchResult result
    (λ _. (end < 2 ^ 64) × ((changed, new) ≡ resizing size never handle old))
    (λ e. (changed ≡ handle) × (new ≡ old) × (((e ≡ NumberEnded) × (2 ^ 64 ≤ end)) ⊎ ((e ≡ Memory) × (end < 2 ^ 64))))

-- what a sync makes durable: the live bytes
abbrev pub MemorySyncs : Handle → Store → Result Unit Error → Store → Type 0
MemorySyncs handle old result new = MatchResult result
    (λ _. (is_there handle.number old ≡ true) × (new ≡ published handle.number handle.live old))
    (λ e. (new ≡ old) × (((e ≡ BlobMissing) × (is_there handle.number old ≡ false))
    ⊎ ((e ≡ Memory) × (is_there handle.number old ≡ true))))

-- what a removal gives
abbrev pub MemoryRemoves : Store → List ℕ → Option (List ℕ) → Result Unit Error → Store → Type 0
MemoryRemoves old partition None result new =
    MatchResult result (λ _. (new ≡ removed_partition partition old) × HasPartition partition old)
    (λ e. (new ≡ old) × LacksPartition partition old e)
MemoryRemoves old partition (Some name) result new =
    MatchResult result (λ _. (new ≡ removed partition name old) × HasFile partition name old)
    (λ e. (new ≡ old) × LacksName partition name old e)
