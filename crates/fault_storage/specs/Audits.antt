-- The audit of a store: a checksum of what is durable of its files.
use Rattle.std.specs.Prelude.{ℕ, List, ◌++◌, length}
use Rattle.std.specs.List.{flat_map}
use Rattle.std.specs.Int.{w32, w64, to_be_bytes}
use Rattle.fault_storage_parts.specs.Crc32.{crc32}
use Rattle.fault_storage_parts.specs.Files.{durable_bytes}
use Rattle.fault_storage.specs.declared.stored.StoredFile.{StoredFile}
use Rattle.fault_storage.specs.Stores.{Store}

-- bytes behind their length in eight bytes
unfoldable pub framed : List ℕ → List ℕ
framed bytes = to_be_bytes w64 (length bytes) ++ bytes

-- what is told of a file: its partition, its name, and what is durable of it, its header first
unfoldable pub file_told : StoredFile → List ℕ
file_told stored =
    framed stored.name.0 ++ framed stored.name.1 ++ framed (durable_bytes stored.file.base stored.file.log)

-- what is told of all files, which stand in the order of their names
abbrev pub files_told : List StoredFile → List ℕ
files_told files = flat_map file_told files

-- the checksum of that, in four bytes
abbrev pub audit_of : Store → List ℕ
audit_of store = to_be_bytes w32 (crc32 (files_told store.files))
