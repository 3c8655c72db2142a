-- What follows the header of a file.
use Rattle.std.specs.Prelude.{◌≡◌, ℕ, ◌-◌, ◌^◌, ◌⊎◌, true, None, Some, Result, MatchResult, List, drop}
use Rattle.std.specs.List.{list_any}
use Rattle.std.specs.declared.alloc.Global.{Global}
use Rattle.std.specs.declared.vec.Vec.{Vec}
use Rattle.fault_storage_parts.specs.declared.error.Error.{Error}
use Rattle.fault_storage_parts.specs.declared.error.Error.TheVariants.{BlobMissing, Header, Memory}
use Rattle.fault_storage_parts.specs.declared.error.HeaderError.{HeaderError}
use Rattle.fault_storage_parts.specs.declared.header.Versions.{Versions}
use Rattle.fault_storage.specs.declared.stored.StoredFile.{StoredFile}
use Rattle.fault_storage.specs.Directory.{HasPartition, LacksPartition, IsMade, IsMissing, has_name, fault_in, shown_in}
use Rattle.fault_storage.specs.Directory.{durable_in}
use Rattle.fault_storage.specs.Stores.{Store}

-- whatever version a blob has
abbrev pub any_version : Versions
any_version = record { least = 0; greatest = 2 ^ 16 - 1 }

-- what is durable of the file of a name, behind its header
abbrev pub behind_header : List ℕ → List ℕ → List StoredFile → List ℕ
behind_header partition name files = drop (shown_in partition name files).data_offset (durable_in partition name files)

-- what is told of the blob of a name, and why it is refused: its partition is, there is none, or none with a header, or
-- its header is refused in every version
abbrev pub ShowsContent : List ℕ → List ℕ → Store → Result (Vec ℕ Global) Error → Type 0
ShowsContent partition name store result = MatchResult result
    (λ bytes. HasPartition partition store × IsMade partition name store.files
    × (fault_in partition name any_version store.files ≡ None)
    × (bytes.items ≡ behind_header partition name store.files))
    (λ e. LacksPartition partition store e
    ⊎ ((e ≡ BlobMissing) × HasPartition partition store × IsMissing partition name store.files)
    ⊎ ((fault : HeaderError) × HasPartition partition store × IsMade partition name store.files × (e ≡ Header fault)
    × (fault_in partition name any_version store.files ≡ Some fault))
    ⊎ ((e ≡ Memory) × HasPartition partition store × (list_any (has_name partition name) store.files ≡ true)))
