-- What is written for a new file passes the checks.
use Rattle.std.proofs.Common.{◌≡◌, ◌∙◌, ◌<◌, ◌^◌, ℕ, Bool, true, cond, List, [], ◌∷◌, Some, None, ap, refl}
use Rattle.std.proofs.lemmas.Nat.{from_be_bytes-to_be_bytes_2}
use Rattle.std.proofs.lemmas.Slice.Eq.{bytes_eq-Decides}
use Rattle.std.specs.Int.{w16, w32, to_be_bytes, from_be_bytes}
use Rattle.std.specs.Str.{bytes_eq}
use Rattle.fault_storage_parts.specs.declared.header.Layout.{Layout}
use Rattle.fault_storage_parts.specs.declared.header.Layout.TheVariants.{V0, V1}
use Rattle.fault_storage_parts.specs.declared.header.Layouts.{Layouts}
use Rattle.fault_storage_parts.specs.declared.header.Versions.{Versions}
use Rattle.fault_storage_parts.specs.declared.error.HeaderError.{HeaderError}
use Rattle.fault_storage_parts.specs.declared.error.HeaderError.TheVariants.{LayoutNotAllowed, Checksum, BlobVersion}
use Rattle.fault_storage_parts.specs.Crc32.{crc32}
use Rattle.fault_storage_parts.specs.Headers.{created, prelude, data_offset_of, is_among, is_version, first_fault, file_checks, resolved_of}

skip : (holds : Bool) (fault : HeaderError) (later : List (Bool × HeaderError)) → holds ≡ true → first_fault later ≡ None
    → first_fault ((holds, fault) ∷ later) ≡ None
skip holds fault later passed rest = ap (λ b. cond b (first_fault later) (Some fault)) passed ∙ rest

pub passes : (layouts : Layouts) (versions : Versions) (layout : Layout) (version : ℕ) → version < 2 ^ 16 → is_among layouts layout ≡ true
    → is_version versions version ≡ true
    → first_fault (file_checks layouts versions (created layout version) (data_offset_of layout)) ≡ None
unfolding created
passes layouts versions V0 version small among accepted =
    let version_check : Bool = is_version versions (from_be_bytes w16 (to_be_bytes w16 version)) in
    let said : is_version versions (from_be_bytes w16 (to_be_bytes w16 version)) ≡ true = ap (is_version versions)
    (from_be_bytes-to_be_bytes_2 version small) ∙ accepted in
    skip (is_among layouts V0) LayoutNotAllowed ((version_check, BlobVersion) ∷ []) among (skip version_check BlobVersion [] said refl)
passes layouts versions V1 version small among accepted =
    let version_check : Bool = is_version versions (from_be_bytes w16 (to_be_bytes w16 version)) in
    let said : is_version versions (from_be_bytes w16 (to_be_bytes w16 version)) ≡ true = ap (is_version versions)
    (from_be_bytes-to_be_bytes_2 version small) ∙ accepted in
    let sum = to_be_bytes w32 (crc32 (prelude V1 version)) in
    let checked : bytes_eq sum sum ≡ true = (bytes_eq-Decides sum sum).1 refl in
    skip (is_among layouts V1) LayoutNotAllowed ((bytes_eq sum sum, Checksum) ∷ (version_check, BlobVersion) ∷ []) among
    (skip (bytes_eq sum sum) Checksum ((version_check, BlobVersion) ∷ []) checked (skip version_check BlobVersion [] said refl))

pub shows : (layout : Layout) (version : ℕ) → version < 2 ^ 16
    → resolved_of (created layout version) (data_offset_of layout) ≡ record { size = 0; version = version; data_offset = data_offset_of layout }
unfolding created
shows V0 version small = ap (λ v. record { size = 0; version = v; data_offset = 8 }) (from_be_bytes-to_be_bytes_2 version small)
shows V1 version small = ap (λ v. record { size = 0; version = v; data_offset = 4096 }) (from_be_bytes-to_be_bytes_2 version small)
