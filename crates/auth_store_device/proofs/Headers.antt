-- The header of a log that the device makes: it is what an opening in version 0 lets pass.
use Rattle.std.proofs.Common.{◌≡◌, ℕ, ◌+◌, ◌≤◌, ◌==◌, nat_le, Bool, true}
use Rattle.std.proofs.Common.{false, cond, Option, None, List, [], ◌∷◌, ◌++◌, length, take, drop}
use Rattle.std.proofs.Common.{sym, ◌∙◌, ap, refl, arith}
use Rattle.std.specs.Prelude.{is_some, unwrap_or}
use Rattle.std.specs.Int.{w16, from_be_bytes}
use Rattle.std.proofs.lemmas.Bool.{and_parts, eqb-true, leb-true, le-leb}
use Rattle.std.proofs.lemmas.List.{drop-drop, drop-take, length-drop, length-take, length-take-le, take-append-drop, take-take}
use Rattle.fault_storage_parts.specs.declared.error.HeaderError.{HeaderError}
use Rattle.fault_storage_parts.specs.declared.error.HeaderError.TheVariants.{Magic, LayoutNotAllowed, Short, LayoutVersion, Checksum, BlobVersion}
use Rattle.fault_storage_parts.specs.declared.header.Header.{Header}
use Rattle.fault_storage_parts.specs.declared.header.Layout.TheVariants.{V0}
use Rattle.fault_storage_parts.specs.Headers.{magic_of, created, layout_number, layout_with, layout_of, header_of, is_among, is_version}
use Rattle.fault_storage_parts.specs.Headers.{has_region, has_checksum, first_fault}
use Rattle.fault_storage.specs.Directory.{both_layouts, front_of}
use Rattle.auth_store_device.specs.Logs.{HasHeader, BeginsAsMade, log_versions, fault_of}
use Rattle.auth_store_device.proofs.Outcomes.{made-headed}

-- the first bytes of a file are those of its front
pub front_first : (count : ℕ) (bytes : List ℕ) → count ≤ 12 → count ≤ length bytes → take count (front_of bytes) ≡ take count bytes
front_first count bytes few long = at (nat_le (length bytes) 4096)
  where
    at : (b : Bool) → take count (take (cond b (length bytes) 12) bytes) ≡ take count bytes
    at true = take-take count (length bytes) bytes long
    at false = take-take count 12 bytes few

pub front_magic : (bytes : List ℕ) → HasHeader bytes → take 4 (front_of bytes) ≡ magic_of V0
front_magic bytes headed = let long = headed.long in front_first 4 bytes (omega arith) (omega (arith, long)) ∙ headed.magic

-- of checks that all hold the first one does, and the others do
passed : (holds : Bool) (fault : HeaderError) (later : List (Bool × HeaderError)) → first_fault ((holds, fault) ∷ later) ≡ None
    → (holds ≡ true) × (first_fault later ≡ None)
passed true fault later none = (refl, none)
passed false fault later none = cc

fourth_and_sixth : (a b c d e f : Bool)
    → first_fault ((a, Magic) ∷ (b, LayoutNotAllowed) ∷ (c, Short) ∷ (d, LayoutVersion) ∷ (e, Checksum) ∷ (f, BlobVersion) ∷ []) ≡ None
    → (d ≡ true) × (f ≡ true)
fourth_and_sixth a b c d e f none =
    let one = passed a Magic ((b, LayoutNotAllowed) ∷ (c, Short) ∷ (d, LayoutVersion) ∷ (e, Checksum) ∷ (f, BlobVersion) ∷ []) none in
    let two = passed b LayoutNotAllowed ((c, Short) ∷ (d, LayoutVersion) ∷ (e, Checksum) ∷ (f, BlobVersion) ∷ []) one.1 in
    let three = passed c Short ((d, LayoutVersion) ∷ (e, Checksum) ∷ (f, BlobVersion) ∷ []) two.1 in
    let four = passed d LayoutVersion ((e, Checksum) ∷ (f, BlobVersion) ∷ []) three.1 in
    let five = passed e Checksum ((f, BlobVersion) ∷ []) four.1 in
    (four.0, (passed f BlobVersion [] five.1).0)

-- two bytes that say 0
zeros : (bytes : List ℕ) → length bytes ≡ 2 → from_be_bytes w16 bytes ≡ 0 → bytes ≡ 0 ∷ 0 ∷ []
zeros [] long is = absurd (omega (arith, long))
zeros (a ∷ []) long is = absurd (omega (arith, long))
zeros (a ∷ b ∷ []) long is =
    let first : a ≡ 0 = omega (arith, is) in
    let second : b ≡ 0 = omega (arith, is) in
    ap (λ n. n ∷ b ∷ []) first ∙ ap (λ n. 0 ∷ n ∷ []) second
zeros (a ∷ b ∷ c ∷ rest) long is = absurd (omega (arith, long))

two_at : (count : ℕ) (bytes : List ℕ) → count + 2 ≤ length bytes → length (take 2 (drop count bytes)) ≡ 2
two_at count bytes long = length-take-le 2 (drop count bytes) (omega (arith, long, length-drop count bytes))

-- eight bytes in three parts
eight : (bytes magic layout version : List ℕ) → take 4 bytes ≡ magic → take 2 (drop 4 bytes) ≡ layout → take 2 (drop 6 bytes) ≡ version
    → take 8 bytes ≡ magic ++ (layout ++ version)
eight bytes magic layout version first second third =
    let behind = take 4 (drop 4 bytes) in
    let split : behind ≡ layout ++ version =
    sym (take-append-drop 2 behind)
    ∙ ap (λ l. l ++ drop 2 behind) (take-take 2 4 (drop 4 bytes) (omega arith) ∙ second)
    ∙ ap (λ l. layout ++ l) (drop-take 2 2 (drop 4 bytes) ∙ ap (take 2) (drop-drop 2 4 bytes) ∙ third) in
    sym (take-append-drop 4 (take 8 bytes))
    ∙ ap (λ l. l ++ drop 4 (take 8 bytes)) (take-take 4 8 bytes (omega arith) ∙ first)
    ∙ ap (λ l. magic ++ l) (drop-take 4 4 bytes ∙ split)

-- a header that passes all checks is that of a log that the device makes
pub fine_made : (bytes : List ℕ) → HasHeader bytes → fault_of bytes ≡ None → BeginsAsMade bytes
unfolding created
fine_made bytes headed none =
    let front = front_of bytes in
    let header : Header = header_of front in
    let long = headed.long in
    let same = front_first 8 bytes (omega arith) (omega (arith, long)) in
    let lengths = ap length same in
    let size : 8 ≤ length front = omega (arith, long, lengths, length-take 8 front, length-take 8 bytes) in
    let holds = fourth_and_sixth (is_some (layout_with header.magic)) (is_among both_layouts (layout_of header)) (has_region (layout_of header) (length bytes))
    (header.layout_version == layout_number (layout_of header)) (has_checksum (layout_of header) front) (is_version log_versions header.blob_version) none in
    let magic = front_magic bytes headed in
    let layout : header.layout_version ≡ 0 =
    eqb-true _ _ holds.0 ∙ ap (λ m. layout_number (unwrap_or (layout_with m) V0)) magic in
    let version : header.blob_version ≡ 0 = let low = leb-true header.blob_version 0 (and_parts _ _ holds.1).1 in omega (arith, low) in
    sym same
    ∙ eight front (magic_of V0) (0 ∷ 0 ∷ []) (0 ∷ 0 ∷ []) magic (zeros (take 2 (drop 4 front)) (two_at 4 front (omega (arith, size))) layout)
    (zeros (take 2 (drop 6 front)) (two_at 6 front (omega (arith, size))) version)

-- and such a one passes them
pub made_fine : (bytes : List ℕ) → BeginsAsMade bytes → fault_of bytes ≡ None
unfolding created
made_fine bytes made =
    let front = front_of bytes in
    let long : 8 ≤ length bytes = (made-headed bytes made).long in
    let same : take 8 front ≡ created V0 0 = front_first 8 bytes (omega arith) long ∙ made in
    let begins : header_of front ≡ header_of (created V0 0) =
    sym (whole front) ∙ ap header_of same ∙ whole (created V0 0) in
    let fault : Header → Option HeaderError = λ header. first_fault
    ((is_some (layout_with header.magic), Magic)
    ∷ (is_among both_layouts (layout_of header), LayoutNotAllowed)
    ∷ (has_region (layout_of header) (length bytes), Short)
    ∷ (header.layout_version == layout_number (layout_of header), LayoutVersion)
    ∷ (has_checksum (layout_of header) front, Checksum)
    ∷ (is_version log_versions header.blob_version, BlobVersion)
    ∷ []) in
    ap fault begins ∙ ap (λ b. first_fault ((b, Short) ∷ [])) (le-leb 8 (length bytes) long)
  where
    -- a header is said by the first eight bytes
    whole : (b : List ℕ) → header_of (take 8 b) ≡ header_of b
    whole b =
        let magic : take 4 (take 8 b) ≡ take 4 b = take-take 4 8 b (omega arith) in
        let layout : take 2 (drop 4 (take 8 b)) ≡ take 2 (drop 4 b) =
        ap (take 2) (drop-take 4 4 b) ∙ take-take 2 4 (drop 4 b) (omega arith) in
        let version : take 2 (drop 6 (take 8 b)) ≡ take 2 (drop 6 b) =
        ap (take 2) (drop-take 6 2 b) ∙ take-take 2 2 (drop 6 b) (omega arith) in
        ap (λ m. record {
          magic = m;
          layout_version = from_be_bytes w16 (take 2 (drop 4 (take 8 b)));
          blob_version = from_be_bytes w16 (take 2 (drop 6 (take 8 b)));
        }) magic
        ∙ ap (λ l. record { magic = take 4 b; layout_version = from_be_bytes w16 l; blob_version = from_be_bytes w16 (take 2 (drop 6 (take 8 b))) }) layout
        ∙ ap (λ v. record { magic = take 4 b; layout_version = from_be_bytes w16 (take 2 (drop 4 b)); blob_version = from_be_bytes w16 v }) version
