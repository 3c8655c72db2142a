-- How the open log is carried on by a change of it.
use Rattle.std.proofs.Common.{◌≡◌, ℕ, ◌+◌, ◌-◌, ◌≤◌, Bool, true, false, ◌||◌}
use Rattle.std.proofs.Common.{IsFalse, List, [], ◌∷◌, ◌++◌, length, take, drop, replicate, cond}
use Rattle.std.proofs.Common.{sym, ◌∙◌, ap, subst, inl, inr, ⊎_elim, arith}
use Rattle.std.proofs.lemmas.Bool.{true≢false, cond-true}
use Rattle.std.proofs.lemmas.List.{length-drop}
use Rattle.fault_storage_parts.specs.Files as files
use Rattle.fault_storage_parts.specs.Files.{Mutation, written, fixed, resized_to, ArePast, IsPast, IsLeftOf, applied, with_kept}
use Rattle.fault_storage_parts.specs.Draws.{Rate, Mode}
use Rattle.fault_storage_parts.proofs.Fronts.{applied-keeps}
use Rattle.fault_storage.specs.Stores.{Store, Handle, has_number, changed, is_there, issued, published, showing, with_issued, settled_at, without}
use Rattle.paged_blob_parts.specs.Calls.{Change, write, resize, resized, with_bytes, whole, File, after_change}
use Rattle.paged_blob_parts.specs.Calls as calls
use Rattle.paged_blob_parts.specs.Images.{IsReached, IsLive}
use Rattle.paged_blob_parts.specs.Laws.Durable.{same_front}
use Rattle.paged_blob_parts.proofs.Bytes.{length-with_bytes, with_bytes_before}
use Rattle.auth_store_device.specs.Logs.{is_log, has_log, log_of, behind_header, HasHeader, BeginsAsMade, IsOrderly, Stands, IsFirst, IsOpenLog}
use Rattle.auth_store_device.proofs.Bytes.{with_bytes-same, with_bytes-behind, resized-behind, all_kept}
use Rattle.auth_store_device.proofs.Outcomes.{left-issued, past-snoc, made-headed}
use Rattle.auth_store_device.proofs.Places.{changed-first, any-first, file-changed, has-changed, numbered-changed, first-changed}
use Rattle.auth_store_device.proofs.Reached.{reached_whole, reached_same, reached_empty, reached_torn, reached_between, IsBetween, live_base, reached_base}

no_failure : (b : Bool) → IsFalse (b || false) → IsFalse b
no_failure false is = is
no_failure true is = is

failure : {X : Type 0} (b : Bool) → IsFalse (b || true) → X
failure false is = absurd (true≢false is)
failure true is = absurd (true≢false is)

pub live_whole : (file : File) (live : List ℕ) (change : Change) → IsLive file live → IsLive (after_change change true file) (calls.changed change live)
live_whole file live change l = record {
  reached = reached_whole file live change true l.reached;
  content = λ none. ap (calls.changed change) (l.content (no_failure file.failed none));
}

pub live_failed : (file : File) (live : List ℕ) (change : Change) → IsReached (after_change change false file) live
    → IsLive (after_change change false file) live
live_failed file live change r = record { reached = r; content = λ none. failure file.failed none }

-- one mutation more, whatever is chosen of it
pub stands_issued : (file file_now : File) (log : files.File) (mutation : Mutation) → Stands file log
    → ((choice : List Bool) (left : List ℕ) → IsReached file (behind_header left) → IsReached file_now (behind_header (applied choice mutation left)))
    → Stands file_now (with_issued mutation log)
stands_issued file file_now log mutation s step = record {
  each = λ left is.
      let r = left-issued is.choices log.base left log.log mutation is.is is.rest in
      subst (λ (l : List ℕ). IsReached file_now (behind_header l)) (sym r.2.1) (step r.2.0 r.0 (s.each r.0 r.1));
}

-- the log changed among the files, found by the number of a handle
pub changed_open : (store : Store) (file_now : File) (handle : Handle) (live : List ℕ) (change : files.File → files.File) (order : List ℕ)
    → IsOrderly store → has_log store ≡ true → IsFirst (has_number handle.number) is_log store.files → handle.offset ≡ 8
    → BeginsAsMade (change (log_of store)).base → ArePast 8 (change (log_of store)).log → Stands file_now (change (log_of store))
    → BeginsAsMade live → IsLive file_now (behind_header live)
    → IsOpenLog (record store { files = changed (has_number handle.number) change store.files; order = order }) file_now (showing live handle)
changed_open store file_now handle live change order orderly there first offset headed past stands live_headed shows =
    let found = changed-first (has_number handle.number) is_log change store.files first in
    let is : change (log_of store) ≡ log_of (record store { files = changed is_log change store.files; order = order }) =
    sym (file-changed change store.files there) in
    subst (λ l. IsOpenLog (record store { files = l; order = order }) file_now (showing live handle)) (sym found) (record {
      orderly = record {
        numbered = numbered-changed change store.files store.next ∙ orderly.numbered;
        listed = λ _. orderly.listed there;
        headed = λ _. inl (subst (λ (l : files.File). HasHeader l.base) is (made-headed (change (log_of store)).base headed));
        past = subst (λ (l : files.File). ArePast 8 l.log) is past;
      };
      stands = subst (Stands file_now) is stands;
      opened = record {
        there = has-changed change store.files ∙ there;
        first = first-changed change handle.number store.files first;
        offset = offset;
        own = λ _. subst (λ (l : files.File). BeginsAsMade l.base) is headed;
        headed = live_headed;
        live = shows;
      };
    })

-- the open log changed
pub carried : (store : Store) (file file_now : File) (handle : Handle) (live : List ℕ) (change : files.File → files.File) (order : List ℕ)
    → IsOpenLog store file handle → BeginsAsMade (change (log_of store)).base → ArePast 8 (change (log_of store)).log
    → Stands file_now (change (log_of store)) → BeginsAsMade live → IsLive file_now (behind_header live)
    → IsOpenLog (record store { files = changed (has_number handle.number) change store.files; order = order }) file_now (showing live handle)
carried store file file_now handle live change order o headed past stands live_headed shows =
    changed_open store file_now handle live change order o.orderly o.opened.there o.opened.first o.opened.offset headed past stands live_headed shows

-- a file of these bytes, of which nothing is pending
pub stands_settled : (bytes : List ℕ) → Stands (record { base = behind_header bytes; changes = []; failed = false }) (settled_at bytes)
stands_settled bytes = record {
  each = λ left is. subst (λ (l : List ℕ). IsReached (record { base = behind_header bytes; changes = []; failed = false }) (behind_header l))
      (sym is.is) (reached_base (behind_header bytes) false);
}

-- bytes are published that are those of the handle
pub published_open : (store : Store) (handle : Handle) → IsOrderly store → has_log store ≡ true
    → IsFirst (has_number handle.number) is_log store.files → handle.offset ≡ 8 → BeginsAsMade handle.live
    → IsOpenLog (published handle.number handle.live store) (record { base = behind_header handle.live; changes = []; failed = false }) handle
published_open store handle orderly there first offset headed =
    changed_open store (record { base = behind_header handle.live; changes = []; failed = false }) handle handle.live (λ _. settled_at handle.live)
    (without handle.number store.order) orderly there first offset headed tt (stands_settled handle.live) headed (live_base (behind_header handle.live))

-- a mutation is issued
pub carried_issued : (store : Store) (file file_now : File) (handle : Handle) (live : List ℕ) (mutation : Mutation)
    → IsOpenLog store file handle → IsPast 8 mutation
    → ((choice : List Bool) (left : List ℕ) → IsReached file (behind_header left) → IsReached file_now (behind_header (applied choice mutation left)))
    → BeginsAsMade live → IsLive file_now (behind_header live)
    → IsOpenLog (issued handle.number mutation store) file_now (showing live handle)
carried_issued store file file_now handle live mutation o past step live_headed shows =
    let there : is_there handle.number store ≡ true = any-first (has_number handle.number) is_log store.files o.opened.first ∙ o.opened.there in
    subst (λ s. IsOpenLog s file_now (showing live handle)) (sym (cond-true _ _ _ there))
    (carried store file file_now handle live (with_issued mutation) (store.order ++ handle.number ∷ []) o (o.opened.own o.opened.there)
    (past-snoc 8 (log_of store).log mutation o.orderly.past past) (stands_issued file file_now (log_of store) mutation o.stands step) live_headed shows)

-- the live bytes are published
pub carried_published : (store : Store) (file : File) (handle : Handle) → IsOpenLog store file handle
    → IsOpenLog (published handle.number handle.live store) (record { base = behind_header handle.live; changes = []; failed = false }) handle
carried_published store file handle o = published_open store handle o.orderly o.opened.there o.opened.first o.opened.offset o.opened.headed

-- bytes that are laid behind the header leave it
pub laid_headed : (offset : ℕ) (bytes live : List ℕ) → BeginsAsMade live → BeginsAsMade (files.with_bytes (8 + offset) bytes live)
laid_headed offset bytes live headed =
    let same = with_bytes-same (8 + offset) bytes live in
    let long = length-with_bytes (8 + offset) bytes live in
    ap (take 8) same
    ∙ same_front 8 (with_bytes (8 + offset) bytes live) live (omega (arith, long)) (made-headed live headed).long
    (λ i below. with_bytes_before (8 + offset) bytes live i (omega (arith, below)))
    ∙ headed

-- so does a mutation that is past it
pub applied_headed : (choice : List Bool) (mutation : Mutation) (live : List ℕ) → IsPast 8 mutation → BeginsAsMade live
    → BeginsAsMade (applied choice mutation live)
applied_headed choice mutation live past headed = (applied-keeps 8 choice mutation live past (made-headed live headed).long).1 ∙ headed

-- a plain write
pub plain_carried : (store : Store) (file : File) (handle : Handle) (offset : ℕ) (bytes : List ℕ) (mode : Mode) (rate : Rate)
    → IsOpenLog store file handle
    → IsOpenLog (issued handle.number (written (8 + offset) bytes mode rate) store) (after_change (write offset bytes false) true file)
    (showing (files.with_bytes (8 + offset) bytes handle.live) handle)
plain_carried store file handle offset bytes mode rate o =
    carried_issued store file (after_change (write offset bytes false) true file) handle (files.with_bytes (8 + offset) bytes handle.live)
    (written (8 + offset) bytes mode rate) o (omega arith) (λ choice left r. reached_torn file left offset bytes choice true r)
    (laid_headed offset bytes handle.live o.opened.headed)
    (subst (IsLive (after_change (write offset bytes false) true file)) (sym (with_bytes-behind offset bytes handle.live))
    (live_whole file (behind_header handle.live) (write offset bytes false) o.opened.live))

-- a write of no bytes that is to be durable at once, which leaves the live bytes
empty_issued : (store : Store) (file : File) (handle : Handle) (offset : ℕ) (kept : List Bool) (durable ok : Bool)
    → IsLive (after_change (write 0 [] durable) ok file) (behind_header handle.live) → IsOpenLog store file handle
    → IsOpenLog (issued handle.number (fixed (8 + offset) [] kept) store) (after_change (write 0 [] durable) ok file) (showing handle.live handle)
empty_issued store file handle offset kept durable ok live o =
    carried_issued store file (after_change (write 0 [] durable) ok file) handle handle.live (fixed (8 + offset) [] kept) o (omega arith)
    (λ choice left r. reached_empty file (behind_header left) 0 durable ok r) o.opened.headed live

none_laid : (bytes : List ℕ) → with_bytes 0 [] bytes ≡ bytes
unfolding with_bytes resized
none_laid bytes =
    let none : 0 - length bytes ≡ 0 = omega arith in ap (λ n. (take 0 bytes ++ replicate n 0) ++ ([] ++ drop 0 bytes)) none

pub empty_carried : (store : Store) (file : File) (handle : Handle) (offset : ℕ) → IsOpenLog store file handle
    → IsOpenLog (issued handle.number (fixed (8 + offset) [] []) store) (after_change (write 0 [] true) true file) (showing handle.live handle)
empty_carried store file handle offset o =
    empty_issued store file handle offset [] true true
    (subst (IsLive (after_change (write 0 [] true) true file)) (none_laid (behind_header handle.live))
    (live_whole file (behind_header handle.live) (write 0 [] true) o.opened.live)) o

pub empty_failed : (store : Store) (file : File) (handle : Handle) (offset : ℕ) (kept : List Bool) → IsOpenLog store file handle
    → IsOpenLog (issued handle.number (fixed (8 + offset) [] kept) store) (after_change (write 0 [] false) false file) (showing handle.live handle)
empty_failed store file handle offset kept o =
    empty_issued store file handle offset kept false false
    (live_failed file (behind_header handle.live) (write 0 [] false)
    (reached_empty file (behind_header handle.live) 0 false false o.opened.live.reached)) o

-- a write that is durable at once
pub synced_carried : (store : Store) (file : File) (handle : Handle) (offset byte : ℕ) (bytes : List ℕ) → IsOpenLog store file handle
    → IsOpenLog (issued handle.number (fixed (8 + offset) (byte ∷ bytes) (replicate (length (byte ∷ bytes)) true)) store)
    (after_change (write offset (byte ∷ bytes) true) true file)
    (showing (with_kept (8 + offset) (byte ∷ bytes) (replicate (length (byte ∷ bytes)) true) handle.live) handle)
synced_carried store file handle offset byte bytes o =
    let change = write offset (byte ∷ bytes) true in
    let now = after_change change true file in
    let is : (left : List ℕ) → calls.changed change (behind_header left)
    ≡ behind_header (with_kept (8 + offset) (byte ∷ bytes) (replicate (length (byte ∷ bytes)) true) left) =
    λ left. sym (with_bytes-behind offset (byte ∷ bytes) left) ∙ ap (drop 8) (sym (all_kept byte bytes left (8 + offset))) in
    carried_issued store file now handle (with_kept (8 + offset) (byte ∷ bytes) (replicate (length (byte ∷ bytes)) true) handle.live)
    (fixed (8 + offset) (byte ∷ bytes) (replicate (length (byte ∷ bytes)) true)) o (omega arith)
    (λ choice left r. subst (IsReached now) (is left) (reached_whole file (behind_header left) change true r))
    (applied_headed [] (fixed (8 + offset) (byte ∷ bytes) (replicate (length (byte ∷ bytes)) true)) handle.live (omega arith) o.opened.headed)
    (subst (IsLive now) (is handle.live) (live_whole file (behind_header handle.live) change o.opened.live))

-- a write that failed
pub torn_carried : (store : Store) (file : File) (handle : Handle) (offset : ℕ) (bytes : List ℕ) (kept : List Bool) → IsOpenLog store file handle
    → IsOpenLog (issued handle.number (fixed (8 + offset) bytes kept) store) (after_change (write offset bytes false) false file)
    (showing (with_kept (8 + offset) bytes kept handle.live) handle)
torn_carried store file handle offset bytes kept o =
    let now = after_change (write offset bytes false) false file in
    carried_issued store file now handle (with_kept (8 + offset) bytes kept handle.live) (fixed (8 + offset) bytes kept) o (omega arith)
    (λ choice left r. reached_torn file left offset bytes kept false r)
    (applied_headed [] (fixed (8 + offset) bytes kept) handle.live (omega arith) o.opened.headed)
    (live_failed file (behind_header (with_kept (8 + offset) bytes kept handle.live)) (write offset bytes false)
    (reached_torn file handle.live offset bytes kept false o.opened.live.reached))

choose : (P : List ℕ → Type 0) (b : Bool) (c d : List ℕ) → P c → P d → P (cond b c d)
choose P true c d p q = p
choose P false c d p q = q

-- a resize
pub resized_carried : (store : Store) (file : File) (handle : Handle) (size : ℕ) (rate : Rate) → IsOpenLog store file handle
    → IsOpenLog (issued handle.number (resized_to (8 + size) rate) store) (after_change (resize size) true file)
    (showing (files.resized (8 + size) handle.live) handle)
resized_carried store file handle size rate o =
    let now = after_change (resize size) true file in
    let is : (left : List ℕ) → calls.changed (resize size) (behind_header left) ≡ behind_header (files.resized (8 + size) left) =
    λ left. sym (resized-behind size left) in
    carried_issued store file now handle (files.resized (8 + size) handle.live) (resized_to (8 + size) rate) o (omega arith)
    (λ choice left r. choose (λ l. IsReached now (behind_header l)) (files.is_kept choice) (files.resized (8 + size) left) left
    (subst (IsReached now) (is left) (reached_whole file (behind_header left) (resize size) true r))
    (reached_same file (behind_header left) size true r))
    (applied_headed (true ∷ []) (resized_to (8 + size) rate) handle.live (omega arith) o.opened.headed)
    (subst (IsLive now) (is handle.live) (live_whole file (behind_header handle.live) (resize size) o.opened.live))

-- a resize that failed, and went a part of the way
pub part_carried : (store : Store) (file : File) (handle : Handle) (size reached : ℕ) (rate : Rate) → IsBetween (length handle.live) (8 + size) reached
    → IsOpenLog store file handle
    → IsOpenLog (issued handle.number (resized_to reached rate) store) (after_change (resize size) false file)
    (showing (files.resized reached handle.live) handle)
part_carried store file handle size reached rate between o =
    let now = after_change (resize size) false file in
    let long = (made-headed handle.live o.opened.headed).long in
    let some : 8 ≤ reached = ⊎_elim (λ shrunk. omega (arith, shrunk.0)) (λ grown. omega (arith, grown.0, long)) between in
    let all : reached ≡ 8 + (reached - 8) = omega (arith, some) in
    let within : IsBetween (length (behind_header handle.live)) size (reached - 8) =
    ⊎_elim (λ shrunk. inl (omega (arith, shrunk.0), omega (arith, shrunk.1, length-drop 8 handle.live)))
    (λ grown. inr (omega (arith, grown.0, length-drop 8 handle.live, long), omega (arith, grown.1, long))) between in
    let is : (left : List ℕ) → resized (reached - 8) (behind_header left) ≡ behind_header (files.resized reached left) =
    λ left. sym (resized-behind (reached - 8) left) ∙ ap (λ n. behind_header (files.resized n left)) (sym all) in
    let step : (left : List ℕ) → IsReached file (behind_header left) → IsReached now (behind_header (files.resized reached left)) =
    λ left r. subst (IsReached now) (is left)
    (reached_between file (behind_header handle.live) (behind_header left) size (reached - 8) false o.opened.live.reached r within) in
    carried_issued store file now handle (files.resized reached handle.live) (resized_to reached rate) o (omega (arith, some))
    (λ choice left r. choose (λ l. IsReached now (behind_header l)) (files.is_kept choice) (files.resized reached left) left
    (step left r) (reached_same file (behind_header left) size false r))
    (applied_headed (true ∷ []) (resized_to reached rate) handle.live (omega (arith, some)) o.opened.headed)
    (live_failed file (behind_header (files.resized reached handle.live)) (resize size) (step handle.live o.opened.live.reached))

-- a resize that failed, and went nowhere
pub nowhere_carried : (store : Store) (file : File) (handle : Handle) (size : ℕ) → IsOpenLog store file handle
    → IsOpenLog store (after_change (resize size) false file) handle
nowhere_carried store file handle size o = record {
  orderly = o.orderly;
  stands = record { each = λ left is. reached_same file (behind_header left) size false (o.stands.each left is) };
  opened = record {
    there = o.opened.there;
    first = o.opened.first;
    offset = o.opened.offset;
    own = o.opened.own;
    headed = o.opened.headed;
    live = live_failed file (behind_header handle.live) (resize size) (reached_same file (behind_header handle.live) size false o.opened.live.reached);
  };
}
