-- The headers of files. A created file begins with a region of its layout; what a crash leaves of a region that was
-- being written is a beginning of it, followed by zeros. A header that is read has to pass its checks, in their order.
use Rattle.std.specs.Prelude.{◌≡◌, ℕ, ◌-◌, ◌<◌, ◌≤◌, ◌^◌, ◌==◌}
use Rattle.std.specs.Prelude.{◌&&◌, ◌⊎◌, nat_le, Bool, true, if◌then◌else◌, Option}
use Rattle.std.specs.Prelude.{Some, None, is_some, unwrap_or, List, [], ◌∷◌, ◌++◌, length, take, drop, replicate}
use Rattle.std.specs.Prelude.{slice_index}
use Rattle.std.specs.Int.{w16, w32, to_be_bytes, from_be_bytes}
use Rattle.std.specs.Str.{bytes_eq}
use Rattle.fault_storage_parts.specs.declared.header.Layout.{Layout}
use Rattle.fault_storage_parts.specs.declared.header.Layout.TheVariants.{V0, V1}
use Rattle.fault_storage_parts.specs.declared.header.Layouts.{Layouts}
use Rattle.fault_storage_parts.specs.declared.header.Versions.{Versions}
use Rattle.fault_storage_parts.specs.declared.header.Header.{Header}
use Rattle.fault_storage_parts.specs.declared.header.Resolved.{Resolved}
use Rattle.fault_storage_parts.specs.declared.error.HeaderError.{HeaderError}
use Rattle.fault_storage_parts.specs.declared.error.HeaderError.TheVariants.{Magic, LayoutNotAllowed, Short}
use Rattle.fault_storage_parts.specs.declared.error.HeaderError.TheVariants.{LayoutVersion, Checksum, BlobVersion}
use Rattle.fault_storage_parts.specs.Crc32.{crc32}

-- the first four bytes
abbrev pub magic_of : Layout → List ℕ
magic_of V0 = 0x43 ∷ 0x57 ∷ 0x49 ∷ 0x43 ∷ []
magic_of V1 = 0x43 ∷ 0x57 ∷ 0x49 ∷ 0x31 ∷ []

abbrev pub layout_number : Layout → ℕ
layout_number V0 = 0
layout_number V1 = 1

-- where the data begin
abbrev pub data_offset_of : Layout → ℕ
data_offset_of V0 = 8
data_offset_of V1 = 4096

-- the first eight bytes: magic, layout version, blob version
abbrev pub prelude : Layout → ℕ → List ℕ
prelude layout version = magic_of layout ++ (to_be_bytes w16 (layout_number layout) ++ to_be_bytes w16 version)

-- the region of a created file: a V1 region has a checksum of its first eight bytes, and zeros up to the data
unfoldable pub created : Layout → ℕ → List ℕ
created V0 version = prelude V0 version
created V1 version = prelude V1 version ++ (to_be_bytes w32 (crc32 (prelude V1 version)) ++ replicate 4084 0)

-- a beginning of a created V1 region, of one byte or more, followed by zeros, and no whole one
pub record IsTornCreation (bytes : List ℕ) : Type 0 where
  pub version : ℕ
  pub small : version < 2 ^ 16
  pub count : ℕ
  pub some : 0 < count
  pub within : count ≤ length bytes
  pub few : length bytes ≤ 4096
  pub is : bytes ≡ take count (created V1 version) ++ replicate (length bytes - count) 0
  pub unfinished : (other : ℕ) → other < 2 ^ 16 → bytes ≡ created V1 other → ⊥

-- what a crash in the creation of a file may leave of it: of a V0 header, which is written at once, all or nothing
abbrev pub IsInterrupted : Layout → List ℕ → Type 0
IsInterrupted V0 bytes = ⊥
IsInterrupted V1 bytes = IsTornCreation bytes

-- a file of this size has no header yet: it is under 8 bytes, or what a crash in the creation of a V1 file left
abbrev pub IsUnmade : List ℕ → ℕ → Type 0
IsUnmade bytes size = (size < 8) ⊎ ((size ≤ 4096) × IsTornCreation bytes)

-- the first twelve bytes of a V1 region
abbrev pub front : ℕ → List ℕ
front version = prelude V1 version ++ to_be_bytes w32 (crc32 (prelude V1 version))

-- the blob version that a beginning of a header says, with zeros for what is missing
abbrev pub version_in : List ℕ → ℕ
version_in bytes = from_be_bytes w16 (slice_index bytes 6 ∷ slice_index bytes 7 ∷ [])

-- the layout whose headers begin with these four bytes
abbrev pub layout_with : List ℕ → Option Layout
layout_with magic =
    if bytes_eq magic (magic_of V0) then Some V0 else (if bytes_eq magic (magic_of V1) then Some V1 else None)

abbrev pub layout_of : Header → Layout
layout_of header = unwrap_or (layout_with header.magic) V0

-- the header that the first eight bytes say
abbrev pub header_of : List ℕ → Header
header_of bytes = record {
  magic = take 4 bytes;
  layout_version = from_be_bytes w16 (take 2 (drop 4 bytes));
  blob_version = from_be_bytes w16 (take 2 (drop 6 bytes));
}

-- within the layouts, or the versions, that are accepted
abbrev pub is_among : Layouts → Layout → Bool
is_among layouts layout =
    nat_le (layout_number layouts.least) (layout_number layout)
    && nat_le (layout_number layout) (layout_number layouts.greatest)

abbrev pub is_version : Versions → ℕ → Bool
is_version versions version = nat_le versions.least version && nat_le version versions.greatest

-- the file is long enough for the region of its layout
abbrev pub has_region : Layout → ℕ → Bool
has_region V0 size = nat_le 8 size
has_region V1 size = nat_le 4096 size

-- the checksum behind the first eight bytes is theirs, where the layout has one
abbrev pub has_checksum : Layout → List ℕ → Bool
has_checksum V0 bytes = true
has_checksum V1 bytes = bytes_eq (to_be_bytes w32 (crc32 (take 8 bytes))) (take 4 (drop 8 bytes))

-- of checks, each with what it refuses, the first that does not hold
abbrev pub first_fault : List (Bool × HeaderError) → Option HeaderError
first_fault [] = None
first_fault (check ∷ later) = if check.0 then first_fault later else Some check.1

-- the checks of a header alone, in their order
abbrev pub header_checks : Layouts → Versions → Header → List (Bool × HeaderError)
header_checks layouts versions header =
    (is_some (layout_with header.magic), Magic)
    ∷ (is_among layouts (layout_of header), LayoutNotAllowed)
    ∷ (header.layout_version == layout_number (layout_of header), LayoutVersion)
    ∷ (is_version versions header.blob_version, BlobVersion)
    ∷ []

-- the checks of a file of this size, by its first bytes, in their order
abbrev pub file_checks : Layouts → Versions → List ℕ → ℕ → List (Bool × HeaderError)
file_checks layouts versions bytes size = let header = header_of bytes in
    (is_some (layout_with header.magic), Magic)
    ∷ (is_among layouts (layout_of header), LayoutNotAllowed)
    ∷ (has_region (layout_of header) size, Short)
    ∷ (header.layout_version == layout_number (layout_of header), LayoutVersion)
    ∷ (has_checksum (layout_of header) bytes, Checksum)
    ∷ (is_version versions header.blob_version, BlobVersion)
    ∷ []

-- what a file of this size shows, where its header passes: the size after the header, the blob version, and where the
-- data begin
abbrev pub resolved_of : List ℕ → ℕ → Resolved
resolved_of bytes size = let header = header_of bytes in record {
  size = size - data_offset_of (layout_of header);
  version = header.blob_version;
  data_offset = data_offset_of (layout_of header);
}
