-- An opening of the log, and its admission.
use Rattle.std.proofs.Common.{◌≡◌, ◌⊎◌, ℕ, ◌+◌, ◌-◌, ◌^◌, ◌<◌, ◌≤◌, Bool, true}
use Rattle.std.proofs.Common.{false, cond, ◌||◌, List, [], ◌∷◌, ◌++◌, length, take, drop, get_or, replicate}
use Rattle.std.proofs.Common.{sym, ◌∙◌, ap, subst, inl, inr, ⊎_elim, refl, arith}
use Rattle.std.specs.Prelude.{unwrap_or, None, Some, Err}
use Rattle.fault_storage_parts.specs.declared.error.HeaderError.{HeaderError}
use Rattle.fault_storage_parts.specs.declared.error.Error.{Error as StorageError}
use Rattle.fault_storage_parts.specs.declared.error.Error.TheVariants as errors
use Rattle.std.specs.List.{list_any}
use Rattle.std.specs.Str.{bytes_eq}
use Rattle.std.proofs.lemmas.Bool.{cases_lt, both_ways, or_right}
use Rattle.std.proofs.lemmas.List.{get_or-take, length-take-le, get_or_append_left, get_or-append_right}
use Rattle.fault_storage_parts.specs.Files as files
use Rattle.fault_storage_parts.specs.Headers.{created, IsTornCreation, IsUnmade, layout_with, data_offset_of, resolved_of}
use Rattle.fault_storage_parts.specs.declared.header.Layout.TheVariants.{V0, V1}
use Rattle.fault_storage_parts.proofs.Torn.{length-created, region-at, zeros-at}
use Rattle.fault_storage.specs.Stores.{Store, Handle, settled_at}
use Rattle.fault_storage.specs.Directory.{front_of, has_partition, with_partition}
use Rattle.std.proofs.Common.{filter, not}
use Rattle.fault_storage.specs.declared.stored.StoredFile.{StoredFile}
use Rattle.fault_storage_parts.specs.declared.header.Versions.{Versions}
use Rattle.fault_storage_parts.specs.Files.{ArePast, durable_bytes}
use Rattle.fault_storage.specs.Stores.{number_with, published, without}
use Rattle.fault_storage.specs.Directory.{in_order, placed, admitted, new_handle, handle_in}
use Rattle.std.specs.Prelude.{Ok}
use Rattle.rand_core.specs.Stream.{Stream}
use Rattle.fault_storage_parts.specs.declared.error.Call.TheVariants.{Open}
use Rattle.fault_storage_parts.specs.declared.probability.Probability.{Probability}
use Rattle.fault_storage.specs.declared.faulty.Blob.{Blob}
use Rattle.fault_storage.specs.declared.faulty.Storage.{Storage}
use Rattle.fault_storage.specs.declared.storage.Opened.{Opened}
use Rattle.fault_storage.specs.Stores.{has_number, file_with}
use Rattle.fault_storage.specs.Directory.{MemoryOpens}
use Rattle.fault_storage.specs.Faults.{IsFaultyCall, FaultyOpens, unwrapped}
use Rattle.auth_store_device.specs.Devices.{log_fault, shown_file, after_admission, HasNoNumber}
use Rattle.auth_store_device.specs.Logs.{IsFirst}
use Rattle.auth_store_device.proofs.Places.{changed-first, file-changed}
use Rattle.auth_store_device.proofs.Steps.{nothing_behind}
use Rattle.paged_blob_parts.specs.Images.{IsLive}
use Rattle.auth_store_device.specs.Logs.{is_log, log_partition, log_name, has_log, log_of, durable_log, behind_header, HasHeader, IsOrderly}
use Rattle.auth_store_device.specs.Logs.{log_versions, fault_of, IsForeign, BeginsAsMade, Stands, IsOpenLog}
use Rattle.auth_store_device.proofs.Headers.{front_magic, fine_made}
use Rattle.auth_store_device.proofs.Carried.{published_open, stands_settled}
use Rattle.auth_store_device.proofs.Opened.{filter-none, file-added, has-added, numbered-added, first-added, first-found}
use Rattle.auth_store_device.proofs.Outcomes.{left-headed, durable-left, made-headed}
use Rattle.auth_store_device.proofs.Reached.{live_base}

-- the data begin at 8
pub begins : (bytes : List ℕ) → HasHeader bytes → (resolved_of (front_of bytes) (length bytes)).data_offset ≡ 8
begins bytes headed = ap (λ magic. data_offset_of (unwrap_or (layout_with magic) V0)) (front_magic bytes headed)

torn_fourth : (bytes : List ℕ) (t : IsTornCreation bytes) → (get_or bytes 3 0 ≡ 49) ⊎ (get_or bytes 3 0 ≡ 0)
torn_fourth bytes t =
    let within : t.count ≤ length bytes = t.within in
    let few : length bytes ≤ 4096 = t.few in
    let region = created V1 t.version in
    let kept : length (take t.count region) ≡ t.count = length-take-le t.count region (omega (arith, length-created t.version, within, few)) in
    let zeros = replicate (length bytes - t.count) 0 in
    ⊎_elim
    (λ lt. inl (ap (λ l. get_or l 3 0) t.is ∙ get_or_append_left (take t.count region) zeros 0 3 (omega (arith, kept, lt))
    ∙ get_or-take t.count region 3 0 lt ∙ region-at t.version 3 (omega arith)))
    (λ le. inr (ap (λ l. get_or l 3 0) t.is ∙ get_or-append_right (take t.count region) zeros t.count 3 0 kept le
    ∙ zeros-at (length bytes - t.count) (3 - t.count)))
    (cases_lt 3 t.count)

-- a file with a header was not left half made
pub made : (bytes : List ℕ) → HasHeader bytes → IsUnmade (front_of bytes) (length bytes) → ⊥
made bytes headed (inl short) = let long = headed.long in omega (arith, short, long)
made bytes headed (inr (few, torn)) =
    let fourth : get_or (front_of bytes) 3 0 ≡ 67 =
    sym (get_or-take 4 (front_of bytes) 3 0 (omega arith)) ∙ ap (λ l. get_or l 3 0) (front_magic bytes headed) in
    ⊎_elim (λ is. omega (arith, fourth, is)) (λ is. omega (arith, fourth, is)) (torn_fourth (front_of bytes) torn)

-- a file that is made anew
pub created_made : BeginsAsMade (created V0 0)
unfolding created
created_made = refl

pub created_behind : drop 8 (created V0 0) ≡ []
unfolding created
created_behind = refl

pub listed_added : (partition : List ℕ) (partitions : List (List ℕ)) → bytes_eq partition partition ≡ true
    → has_partition partition (with_partition partition partitions) ≡ true
listed_added partition partitions same = at (has_partition partition partitions) refl
  where
    snoc : (others : List (List ℕ)) → list_any (λ other. bytes_eq other partition) (others ++ partition ∷ []) ≡ true
    snoc [] = ap (λ b. b || false) same
    snoc (first ∷ others) = or_right (bytes_eq first partition) _ (snoc others)

    at : (b : Bool) → has_partition partition partitions ≡ b → has_partition partition (cond b partitions (partitions ++ partition ∷ [])) ≡ true
    at true is = is
    at false is = snoc partitions

-- of a foreign file the durable bytes are the base
foreign_durable : (log : files.File) → IsForeign log → durable_bytes log.base log.log ≡ log.base
foreign_durable log foreign = ap (durable_bytes log.base) foreign.settled

-- the header of the durable bytes, where an opening finds no fault
pub durable_headed : (store : Store) → IsOrderly store → has_log store ≡ true → fault_of (durable_log store) ≡ None → HasHeader (durable_log store)
durable_headed store o there fine = at (o.headed there)
  where
    at : HasHeader (log_of store).base ⊎ IsForeign (log_of store) → HasHeader (durable_log store)
    at (inl headed) =
        left-headed (log_of store).base (durable_log store) (log_of store).log [] (durable-left (log_of store).base (log_of store).log) o.past headed
    at (inr foreign) =
        let found : fault_of (durable_log store) ≡ Some foreign.fault =
        ap fault_of (foreign_durable (log_of store) foreign) ∙ foreign.refused in
        let clash : None ≡ Some foreign.fault = sym fine ∙ found in
        cc

-- what is durable of a log was not left half made
durable_made : (store : Store) → IsOrderly store → has_log store ≡ true → IsUnmade (front_of (durable_log store)) (length (durable_log store)) → ⊥
durable_made store o there unmade = at (o.headed there)
  where
    at : HasHeader (log_of store).base ⊎ IsForeign (log_of store) → ⊥
    at (inl headed) =
        made (durable_log store)
        (left-headed (log_of store).base (durable_log store) (log_of store).log [] (durable-left (log_of store).base (log_of store).log) o.past headed)
        unmade
    at (inr foreign) =
        foreign.made (subst (λ (b : List ℕ). IsUnmade (front_of b) (length b)) (foreign_durable (log_of store) foreign) unmade)

-- the log that was there is open, and admitted
pub found_open : (store : Store) → IsOrderly store → has_log store ≡ true → fault_of (durable_log store) ≡ None
    → IsOpenLog (published (number_with is_log store.files) (durable_log store) store)
    (record { base = behind_header (durable_log store); changes = []; failed = false }) (handle_in log_partition log_name store.files)
found_open store o there fine =
    let durable = durable_log store in
    let headed : HasHeader durable = durable_headed store o there fine in
    published_open store (handle_in log_partition log_name store.files) o there (first-found store.next store.files o.numbered there)
    (begins durable headed) (fine_made durable headed fine)

-- a log was made anew
abbrev added : Store → StoredFile
added store = record { name = (log_partition, log_name); number = store.next; file = settled_at (created V0 0) }

pub made_open : (store : Store) (versions : Versions) → versions.greatest ≡ 0 → IsOrderly store → has_log store ≡ false
    → IsOpenLog (placed log_partition log_name (created V0 versions.greatest) store) (record { base = []; changes = []; failed = false })
    (new_handle store.next versions)
made_open store versions zero o none =
    let new = added store in
    let all = in_order new store.files in
    let same : filter (λ stored. not (is_log stored)) store.files ≡ store.files = filter-none store.files none in
    let now : Store = record store { partitions = with_partition log_partition store.partitions; files = all; next = store.next + 1 } in
    let is : now ≡ placed log_partition log_name (created V0 0) store =
    ap (λ l. record store { partitions = with_partition log_partition store.partitions; files = in_order new l; next = store.next + 1 }) (sym same) in
    let handle : Handle = record { number = store.next; offset = 8; live = created V0 0 } in
    let file : settled_at (created V0 0) ≡ log_of now = sym (file-added new store.files refl none) in
    let open_now : IsOpenLog now (record { base = []; changes = []; failed = false }) handle = record {
      orderly = record {
        numbered = numbered-added store.next new store.files refl o.numbered;
        listed = λ _. listed_added log_partition store.partitions refl;
        headed = λ _. inl (subst (λ (l : files.File). HasHeader l.base) file (made-headed (created V0 0) created_made));
        past = subst (λ (l : files.File). ArePast 8 l.log) file tt;
      };
      stands = subst (Stands (record { base = []; changes = []; failed = false })) file
          (subst (λ b. Stands (record { base = b; changes = []; failed = false }) (settled_at (created V0 0))) created_behind (stands_settled (created V0 0)));
      opened = record {
        there = has-added new store.files refl;
        first = first-added store.next new store.files refl refl o.numbered none;
        offset = refl;
        own = λ _. subst (λ (l : files.File). BeginsAsMade l.base) file created_made;
        headed = created_made;
        live = subst (IsLive (record { base = []; changes = []; failed = false })) (sym created_behind) (live_base []);
      };
    } in
    subst (λ v. IsOpenLog (placed log_partition log_name (created V0 v) store) (record { base = []; changes = []; failed = false })
    (record { number = store.next; offset = 8; live = created V0 v })) (sym zero)
    (subst (λ s. IsOpenLog s (record { base = []; changes = []; failed = false }) handle) is open_now)

-- what is published is the log's base
pub published_log : (number : ℕ) (bytes : List ℕ) (store : Store) → IsFirst (has_number number) is_log store.files → has_log store ≡ true
    → log_of (published number bytes store) ≡ settled_at bytes
published_log number bytes store first there =
    ap (λ l. file_with is_log l) (changed-first (has_number number) is_log (λ _. settled_at bytes) store.files first)
    ∙ file-changed (λ _. settled_at bytes) store.files there

pub placed_log : (bytes : List ℕ) (store : Store) → has_log store ≡ false → log_of (placed log_partition log_name bytes store) ≡ settled_at bytes
placed_log bytes store none =
    let new : StoredFile = record { name = (log_partition, log_name); number = store.next; file = settled_at bytes } in
    ap (λ l. file_with is_log (in_order new l)) (filter-none store.files none) ∙ file-added new store.files refl none

-- which blob was opened, where the store answered Ok
module _ {R : Type 0} (stream : R → Stream) (rate : Probability) (old mid : Storage Store R) (opened : Opened (Blob Handle))
  where
    pub answered : IsFaultyCall stream Open rate (FaultyOpens log_partition log_name log_versions) old (Ok opened) mid
        → MemoryOpens old.inner log_partition log_name log_versions (Ok (unwrapped opened)) mid.inner
    answered (inl (full, is, same)) = cc
    answered (inr (inl (room, inl is, answers, same))) = cc
    answered (inr (inl (room, inr is, answers, same))) = cc
    answered (inr (inr (inl (room, drawn, is, same, words)))) = cc
    answered (inr (inr (inr (room, drawn, made, answers, same, words)))) = answers

    pub found_handle : MemoryOpens old.inner log_partition log_name log_versions (Ok (unwrapped opened)) mid.inner → IsOrderly old.inner
        → has_log old.inner ≡ true
        → (opened.blob.inner ≡ handle_in log_partition log_name old.inner.files) × (mid.inner ≡ old.inner) × (fault_of (durable_log old.inner) ≡ None)
    found_handle (valid, inl (there, fine, is, same)) o has = (ap (λ (x : Opened Handle). x.blob) is, same, fine)
    found_handle (valid, inr (inl none, is, same)) o has = absurd (both_ways _ none has)
    found_handle (valid, inr (inr (there, unmade), is, same)) o has = absurd (durable_made old.inner o has unmade)

    pub made_handle : MemoryOpens old.inner log_partition log_name log_versions (Ok (unwrapped opened)) mid.inner → has_log old.inner ≡ false
        → (opened.blob.inner ≡ new_handle old.inner.next log_versions) × (mid.inner ≡ placed log_partition log_name (created V0 0) old.inner)
    made_handle (valid, inl (there, fine, is, same)) none = absurd (both_ways _ none there.0)
    made_handle (valid, inr (missing, is, same)) none = (ap (λ (x : Opened Handle). x.blob) is, same)

    pub found_shows : (new : Store) (bytes : List ℕ) → IsFaultyCall stream Open rate (FaultyOpens log_partition log_name log_versions) old (Ok opened) mid
        → IsOrderly old.inner → has_log old.inner ≡ true → bytes ≡ durable_log old.inner
        → new ≡ published opened.blob.inner.number bytes mid.inner
        → IsOpenLog new (shown_file (behind_header (durable_log old.inner))) opened.blob.inner × ((log_of new).log ≡ [])
    found_shows new bytes call o has copied is =
        let r = found_handle (answered call) o has in
        let store = old.inner in
        let number = number_with is_log store.files in
        let now : new ≡ published number (durable_log store) store =
        is ∙ ap (λ (h : Handle). published h.number bytes mid.inner) r.0 ∙ ap (λ b. published number b mid.inner) copied
        ∙ ap (published number (durable_log store)) r.1 in (
          subst (λ s. IsOpenLog s (shown_file (behind_header (durable_log store))) opened.blob.inner) (sym now)
              (subst (IsOpenLog (published number (durable_log store) store) (shown_file (behind_header (durable_log store)))) (sym r.0)
              (found_open store o has r.2)),
          ap (λ (s : Store). (log_of s).log) now
              ∙ ap (λ (f : files.File). f.log) (published_log number (durable_log store) store (first-found store.next store.files o.numbered has) has),
        )

    -- which admits the log that was there, and nothing else
    pub found_admitted : (new : Store) (bytes : List ℕ)
        → IsFaultyCall stream Open rate (FaultyOpens log_partition log_name log_versions) old (Ok opened) mid
        → IsOrderly old.inner → has_log old.inner ≡ true → bytes ≡ durable_log old.inner
        → new ≡ published opened.blob.inner.number bytes mid.inner
        → new ≡ after_admission old.inner (Ok opened) mid.inner
    found_admitted new bytes call o has copied is =
        let r = found_handle (answered call) o has in
        let store = old.inner in
        let number = number_with is_log store.files in
        is ∙ ap (λ (h : Handle). published h.number bytes mid.inner) r.0 ∙ ap (λ b. published number b mid.inner) copied
        ∙ ap (published number (durable_log store)) r.1
        ∙ ap (λ l. record store { files = l; order = without number store.order })
        (changed-first (has_number number) is_log (λ _. settled_at (durable_log store)) store.files (first-found store.next store.files o.numbered has))
        ∙ ap (admitted log_partition log_name) (sym r.1)
        ∙ sym (ap (λ b. cond b (admitted log_partition log_name mid.inner) mid.inner) has)

    pub made_shows : IsFaultyCall stream Open rate (FaultyOpens log_partition log_name log_versions) old (Ok opened) mid
        → IsOrderly old.inner → has_log old.inner ≡ false
        → IsOpenLog mid.inner (shown_file (behind_header (durable_log old.inner))) opened.blob.inner × ((log_of mid.inner).log ≡ [])
    made_shows call o none =
        let r = made_handle (answered call) none in
        let store = old.inner in (
          subst (λ s. IsOpenLog s (shown_file (behind_header (durable_log store))) opened.blob.inner) (sym r.1)
              (subst (λ h. IsOpenLog (placed log_partition log_name (created V0 0) store) (shown_file (behind_header (durable_log store))) h) (sym r.0)
              (subst (λ b. IsOpenLog (placed log_partition log_name (created V0 0) store) (shown_file b) (new_handle store.next log_versions))
              (nothing_behind store none) (made_open store log_versions refl o none))),
          ap (λ (s : Store). (log_of s).log) r.1 ∙ ap (λ (f : files.File). f.log) (placed_log (created V0 0) store none),
        )

    pub found_fine : IsFaultyCall stream Open rate (FaultyOpens log_partition log_name log_versions) old (Ok opened) mid → IsOrderly old.inner
        → has_log old.inner ≡ true → log_fault old.inner ≡ None
    found_fine call o has = (found_handle (answered call) o has).2

-- why the header was refused, where it was
module _ {R : Type 0} (stream : R → Stream) (rate : Probability) (old mid : Storage Store R) (e : StorageError) (fault : HeaderError)
  where
    pub refused_header : IsFaultyCall stream Open rate (FaultyOpens log_partition log_name log_versions) old (Err e) mid → e ≡ errors.Header fault
        → (has_log old.inner ≡ true) × (log_fault old.inner ≡ Some fault)
    refused_header (inl (full, is, same)) why = cc
    refused_header (inr (inl (room, inl is, answers, same))) why = cc
    refused_header (inr (inl (room, inr is, answers, same))) why = cc
    refused_header (inr (inr (inl (room, drawn, is, same, words)))) why = cc
    refused_header (inr (inr (inr (room, drawn, made, (kept, inl (is, valid)), same, words)))) why = cc
    refused_header (inr (inr (inr (room, drawn, made, (kept, inr (name, inl (other, there, is, found))), same, words)))) why =
        let one : other ≡ fault = cc in (there.0, found ∙ ap Some one)
    refused_header (inr (inr (inr (room, drawn, made, (kept, inr (name, inr (inl (is, missing, ended)))), same, words)))) why = cc
    refused_header (inr (inr (inr (room, drawn, made, (kept, inr (name, inr (inr is))), same, words)))) why = cc

-- why an opening was refused for a number that has ended, while faults can be counted
module _ {R : Type 0} (stream : R → Stream) (rate : Probability) (old mid : Storage Store R) (e : StorageError)
  where
    pub refused_number : IsFaultyCall stream Open rate (FaultyOpens log_partition log_name log_versions) old (Err e) mid → e ≡ errors.NumberEnded
        → old.injections < 2 ^ 64 - 1 → HasNoNumber old.inner
    refused_number (inl (full, is, same)) why fine = absurd (omega (arith, full, fine))
    refused_number (inr (inl (room, made, (kept, inl (is, valid)), same))) why fine = cc
    refused_number (inr (inl (room, made, (kept, inr (name, inl (other, there, is, found))), same))) why fine = cc
    refused_number (inr (inl (room, made, (kept, inr (name, inr (inl (is, missing, ended)))), same))) why fine = (missing, ended)
    refused_number (inr (inl (room, made, (kept, inr (name, inr (inr is))), same))) why fine = cc
    refused_number (inr (inr (inl (room, drawn, is, same, words)))) why fine = cc
    refused_number (inr (inr (inr (room, drawn, made, answers, same, words)))) why fine = absurd (made (inl (ap Err why)))
