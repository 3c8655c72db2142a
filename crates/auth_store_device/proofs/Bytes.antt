-- The bytes of the log's file behind its header, of which a mutation resizes them or lays some.
use Rattle.std.proofs.Common.{◌≡◌, ◌⊎◌, ℕ, suc, ◌+◌, ◌-◌, ◌<◌, ◌≤◌, max, Bool}
use Rattle.std.proofs.Common.{true, false, List, [], ◌∷◌, ◌++◌, length, get_or, take, drop, replicate}
use Rattle.std.proofs.Common.{sym, ◌∙◌, ap, inl, inr, ⊎_elim, refl, arith}
use Rattle.std.proofs.lemmas.Bool.{cases_lt}
use Rattle.std.proofs.lemmas.List.{length-append, length-drop, length-replicate, take_all, append-nil, get_or-drop, ext_get_or}
use Rattle.fault_storage_parts.specs.Files as files
use Rattle.fault_storage_parts.specs.Files.{with_kept}
use Rattle.paged_blob_parts.specs.Calls.{resized, with_bytes}
use Rattle.paged_blob_parts.proofs.Bytes.{length-resized, resized_in, length-with_bytes, with_bytes_in, with_bytes_before, with_bytes_behind}

-- the store of files resizes and lays bytes as a blob does
pub resized-same : (size : ℕ) (file : List ℕ) → files.resized size file ≡ resized size file
unfolding resized
resized-same size file =
    ⊎_elim
    (λ longer.
    let none : size - length file ≡ 0 = omega (arith, longer) in
    ap (λ n. take size (file ++ replicate n 0)) none ∙ ap (take size) (append-nil file) ∙ sym (append-nil (take size file))
    ∙ ap (λ n. take size file ++ replicate n 0) (sym none))
    (λ shorter.
    let zeros = length-replicate {A = ℕ} (size - length file) 0 in
    take_all size (file ++ replicate (size - length file) 0) (omega (arith, shorter, zeros, length-append file (replicate (size - length file) 0)))
    ∙ ap (λ l. l ++ replicate (size - length file) 0) (sym (take_all size file shorter)))
    (cases_lt size (length file))

pub with_bytes-same : (offset : ℕ) (bytes file : List ℕ) → files.with_bytes offset bytes file ≡ with_bytes offset bytes file
unfolding with_bytes
with_bytes-same offset bytes file = ap (λ l. l ++ (bytes ++ drop (offset + length bytes) file)) (resized-same offset file)

-- a byte behind the header
pub behind-at : (file : List ℕ) (i : ℕ) → get_or (drop 8 file) i 0 ≡ get_or file (8 + i) 0
behind-at file i = get_or-drop 8 file i 0

pub resized-behind : (size : ℕ) (file : List ℕ) → drop 8 (files.resized (8 + size) file) ≡ resized size (drop 8 file)
resized-behind size file =
    let all = resized (8 + size) file in
    let long = length-resized (8 + size) file in
    let some = length-resized size (drop 8 file) in
    ap (drop 8) (resized-same (8 + size) file)
    ∙ ext_get_or 0 (drop 8 all) (resized size (drop 8 file)) (omega (arith, length-drop 8 all, long, some))
    (λ i below.
    let inside : i < size = omega (arith, below, length-drop 8 all, long) in
    behind-at all i ∙ resized_in (8 + size) file (8 + i) (omega (arith, inside)) ∙ sym (behind-at file i) ∙ sym (resized_in size (drop 8 file) i inside))

pub with_bytes-behind : (offset : ℕ) (bytes file : List ℕ) → drop 8 (files.with_bytes (8 + offset) bytes file) ≡ with_bytes offset bytes (drop 8 file)
with_bytes-behind offset bytes file =
    let all = with_bytes (8 + offset) bytes file in
    let long = length-with_bytes (8 + offset) bytes file in
    let some = length-with_bytes offset bytes (drop 8 file) in
    ap (drop 8) (with_bytes-same (8 + offset) bytes file)
    ∙ ext_get_or 0 (drop 8 all) (with_bytes offset bytes (drop 8 file)) (omega (arith, length-drop 8 all, length-drop 8 file, long, some))
    (λ i below. behind-at all i ∙ ⊎_elim
    (λ before. with_bytes_before (8 + offset) bytes file (8 + i) (omega (arith, before)) ∙ sym (behind-at file i)
    ∙ sym (with_bytes_before offset bytes (drop 8 file) i before))
    (λ from. ⊎_elim
    (λ inside.
    let same : 8 + i - (8 + offset) ≡ i - offset = omega arith in
    with_bytes_in (8 + offset) bytes file (8 + i) (omega (arith, from)) (omega (arith, inside)) ∙ ap (λ k. get_or bytes k 0) same
    ∙ sym (with_bytes_in offset bytes (drop 8 file) i from inside))
    (λ past. with_bytes_behind (8 + offset) bytes file (8 + i) (omega (arith, past)) ∙ sym (behind-at file i)
    ∙ sym (with_bytes_behind offset bytes (drop 8 file) i past))
    (cases_lt i (offset + length bytes)))
    (cases_lt i offset))

-- a byte of a torn write is as it was, or as it was written
abbrev pub OneOf : List ℕ → ℕ → List ℕ → List ℕ → ℕ → Type 0
OneOf file offset bytes new i =
    (get_or new i 0 ≡ get_or file i 0)
    ⊎ ((offset ≤ i) × (i < offset + length bytes) × (get_or new i 0 ≡ get_or bytes (i - offset) 0))

one_byte : (file : List ℕ) (offset byte : ℕ) (i : ℕ)
    → (get_or (files.with_bytes offset (byte ∷ []) file) i 0 ≡ get_or file i 0)
    ⊎ ((i ≡ offset) × (get_or (files.with_bytes offset (byte ∷ []) file) i 0 ≡ byte))
one_byte file offset byte i =
    let same : get_or (files.with_bytes offset (byte ∷ []) file) i 0 ≡ get_or (with_bytes offset (byte ∷ []) file) i 0 =
    ap (λ l. get_or l i 0) (with_bytes-same offset (byte ∷ []) file) in
    ⊎_elim
    (λ before. inl (same ∙ with_bytes_before offset (byte ∷ []) file i before))
    (λ from. ⊎_elim
    (λ below.
    let is : i ≡ offset = omega (arith, from, below) in
    let none : i - offset ≡ 0 = omega arith in
    inr (is, same ∙ with_bytes_in offset (byte ∷ []) file i from below ∙ ap (λ k. get_or (byte ∷ []) k 0) none))
    (λ past. inl (same ∙ with_bytes_behind offset (byte ∷ []) file i past))
    (cases_lt i (offset + 1)))
    (cases_lt i offset)

first : (byte : ℕ) (bytes : List ℕ) (i offset : ℕ) → i ≡ offset → byte ≡ get_or (byte ∷ bytes) (i - offset) 0
first byte bytes i offset is = let none : i - offset ≡ 0 = omega (arith, is) in sym (ap (λ k. get_or (byte ∷ bytes) k 0) none)

next : (byte : ℕ) (bytes : List ℕ) (i offset : ℕ) → offset + 1 ≤ i → get_or bytes (i - (offset + 1)) 0 ≡ get_or (byte ∷ bytes) (i - offset) 0
next byte bytes i offset le =
    let one : i - offset ≡ suc (i - (offset + 1)) = omega (arith, le) in sym (ap (λ k. get_or (byte ∷ bytes) k 0) one)

pub torn_byte : (bytes : List ℕ) (kept : List Bool) (file : List ℕ) (offset i : ℕ) → OneOf file offset bytes (with_kept offset bytes kept file) i
torn_byte [] kept file offset i = inl refl
torn_byte (byte ∷ bytes) [] file offset i = inl refl
torn_byte (byte ∷ bytes) (true ∷ kept) file offset i =
    ⊎_elim
    (λ same. ⊎_elim
    (λ old. inl (same ∙ old))
    (λ (is, new). inr (omega (arith, is), omega (arith, is), same ∙ new ∙ first byte bytes i offset is))
    (one_byte file offset byte i))
    (λ (from, below, is). inr (omega (arith, from), omega (arith, below), is ∙ next byte bytes i offset from))
    (torn_byte bytes kept (files.with_bytes offset (byte ∷ []) file) (offset + 1) i)
torn_byte (byte ∷ bytes) (false ∷ kept) file offset i =
    ⊎_elim
    (λ same. inl same)
    (λ (from, below, is). inr (omega (arith, from), omega (arith, below), is ∙ next byte bytes i offset from))
    (torn_byte bytes kept file (offset + 1) i)

pub torn_long : (bytes : List ℕ) (kept : List Bool) (file : List ℕ) (offset : ℕ)
    → (length file ≤ length (with_kept offset bytes kept file)) × (length (with_kept offset bytes kept file) ≤ max (length file) (offset + length bytes))
torn_long [] kept file offset = (omega arith, omega arith)
torn_long (byte ∷ bytes) [] file offset = (omega arith, omega arith)
torn_long (byte ∷ bytes) (true ∷ kept) file offset =
    let rest = torn_long bytes kept (files.with_bytes offset (byte ∷ []) file) (offset + 1) in
    let one : length (files.with_bytes offset (byte ∷ []) file) ≡ max (length file) (offset + 1) =
    ap length (with_bytes-same offset (byte ∷ []) file) ∙ length-with_bytes offset (byte ∷ []) file in
    (omega (arith, rest.0, one), omega (arith, rest.1, one))
torn_long (byte ∷ bytes) (false ∷ kept) file offset =
    let rest = torn_long bytes kept file (offset + 1) in (omega (arith, rest.0), omega (arith, rest.1))

-- a write of which all is kept, and not empty
two : (byte : ℕ) (bytes file : List ℕ) (offset : ℕ)
    → with_bytes (offset + 1) bytes (with_bytes offset (byte ∷ []) file) ≡ with_bytes offset (byte ∷ bytes) file
two byte bytes file offset =
    let one = with_bytes offset (byte ∷ []) file in
    let a = length-with_bytes offset (byte ∷ []) file in
    let b = length-with_bytes (offset + 1) bytes one in
    let c = length-with_bytes offset (byte ∷ bytes) file in
    ext_get_or 0 (with_bytes (offset + 1) bytes one) (with_bytes offset (byte ∷ bytes) file) (omega (arith, a, b, c))
    (λ i below. ⊎_elim
    (λ before. with_bytes_before (offset + 1) bytes one i (omega (arith, before)) ∙ with_bytes_before offset (byte ∷ []) file i before
    ∙ sym (with_bytes_before offset (byte ∷ bytes) file i before))
    (λ from. ⊎_elim
    (λ here.
    let is : i ≡ offset = omega (arith, from, here) in
    let none : i - offset ≡ 0 = omega arith in
    with_bytes_before (offset + 1) bytes one i here ∙ with_bytes_in offset (byte ∷ []) file i from here ∙ ap (λ k. get_or (byte ∷ []) k 0) none
    ∙ first byte bytes i offset is ∙ sym (with_bytes_in offset (byte ∷ bytes) file i from (omega (arith, is))))
    (λ later. ⊎_elim
    (λ inside. with_bytes_in (offset + 1) bytes one i later inside ∙ next byte bytes i offset later
    ∙ sym (with_bytes_in offset (byte ∷ bytes) file i from (omega (arith, inside))))
    (λ past. with_bytes_behind (offset + 1) bytes one i past ∙ with_bytes_behind offset (byte ∷ []) file i later
    ∙ sym (with_bytes_behind offset (byte ∷ bytes) file i (omega (arith, past))))
    (cases_lt i (offset + 1 + length bytes)))
    (cases_lt i (offset + 1)))
    (cases_lt i offset))

pub all_kept : (byte : ℕ) (bytes file : List ℕ) (offset : ℕ)
    → with_kept offset (byte ∷ bytes) (replicate (suc (length bytes)) true) file ≡ files.with_bytes offset (byte ∷ bytes) file
all_kept byte [] file offset = refl
all_kept byte (another ∷ bytes) file offset =
    all_kept another bytes (files.with_bytes offset (byte ∷ []) file) (offset + 1)
    ∙ with_bytes-same (offset + 1) (another ∷ bytes) (files.with_bytes offset (byte ∷ []) file)
    ∙ ap (with_bytes (offset + 1) (another ∷ bytes)) (with_bytes-same offset (byte ∷ []) file)
    ∙ two byte (another ∷ bytes) file offset ∙ sym (with_bytes-same offset (byte ∷ another ∷ bytes) file)
