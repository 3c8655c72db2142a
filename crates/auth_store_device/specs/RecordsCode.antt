-- How a record keeps its calls: their bytes lie in blocks, and what was durable in images.
use Rattle.std.specs.Prelude.{◌≡◌, ⊤, ℕ, ◌<◌, ◌≤◌, Bool, true, false, ◌&&◌, List, [], ◌∷◌, length, take, get_or}
use Rattle.std.specs.Prelude.{reverse}
use Rattle.paged_blob_parts.specs.Calls.{Call, opened, wrote, resized_to, synced, Change, write, resize, content}
use Rattle.paged_blob_parts.specs.Calls.{file_of}
use Rattle.auth_store_device.specs.declared.base.Base.{Base}
use Rattle.auth_store_device.specs.declared.kept.Kept.{Kept}
use Rattle.auth_store_device.specs.declared.kept.Kept.TheVariants.{Opened, Wrote, ResizedTo, SyncedWhole, SyncedAs}
use Rattle.auth_store_device.specs.declared.kept.Kept.TheVariants.{SyncFailed}
use Rattle.auth_store_device.specs.declared.kept.Entry.{Entry}
use Rattle.auth_store_device.specs.declared.kept.Entry.TheVariants as entries
use Rattle.auth_store_device.specs.Touches.{IsOutside, AllLeave}
use Rattle.auth_store_device.specs.BlocksCode.{bytes_in, IsPartWithin, Held}

-- the bytes of a call lie in a block, and its images are there
abbrev pub HasItsBytes : Held → Kept → Type 0
HasItsBytes held (Opened base shown) = (base < length held.images) × (shown < length held.images)
HasItsBytes held (Wrote offset part is_sync ok) = IsPartWithin held.blocks part
HasItsBytes held (ResizedTo size ok) = ⊤
HasItsBytes held SyncedWhole = ⊤
HasItsBytes held (SyncedAs image) = image < length held.images
HasItsBytes held SyncFailed = ⊤

-- the call that is kept, where these came before it, the newest first
abbrev pub call_in : Held → List Call → Kept → Call
call_in held past (Opened base shown) = opened (get_or held.images shown [])
call_in held past (Wrote offset part is_sync ok) = wrote offset (bytes_in held.blocks part) is_sync ok
call_in held past (ResizedTo size ok) = resized_to size ok
call_in held past SyncedWhole = synced (content past) true
call_in held past (SyncedAs image) = synced (get_or held.images image []) true
call_in held past SyncFailed = synced [] false

-- an opening has the bytes with which the file of the calls before it began
abbrev pub KnowsBase : Held → List Call → Kept → Type 0
KnowsBase held past (Opened base shown) = get_or held.images base [] ≡ (file_of past).base
KnowsBase held past (Wrote offset part is_sync ok) = ⊤
KnowsBase held past (ResizedTo size ok) = ⊤
KnowsBase held past SyncedWhole = ⊤
KnowsBase held past (SyncedAs image) = ⊤
KnowsBase held past SyncFailed = ⊤

-- the calls that are kept, the oldest first, where these came before them, the newest first
abbrev pub calls_in : Held → List Call → List Kept → List Call
calls_in held past [] = []
calls_in held past (kept ∷ later) = call_in held past kept ∷ calls_in held (call_in held past kept ∷ past) later

abbrev pub AreWithin : Held → List Call → List Kept → Type 0
AreWithin held past [] = ⊤
AreWithin held past (kept ∷ later) =
    HasItsBytes held kept × KnowsBase held past kept × AreWithin held (call_in held past kept ∷ past) later

-- what so many of the first calls make of the file, whole
abbrev pub content_after : ℕ → List Call → List ℕ
content_after count calls = content (reverse (take count calls))

-- what is known of the base of calls, of which the oldest comes first, is true
pub record IsBase (held : Held) (calls : List Call) (base : Base) : Type 0 where
  pub within : base.image < length held.images
  pub image_there : base.image_at ≤ base.base_at
  pub file_there : base.file_at ≤ base.base_at
  pub base_there : base.base_at ≤ length calls
  pub image_is : get_or held.images base.image [] ≡ content_after base.image_at calls
  pub file_is : base.file.items ≡ content_after base.file_at calls
  pub begun : (file_of (reverse (take base.base_at calls))).changes ≡ []
  pub base_is : content_after base.base_at calls ≡ (file_of (reverse calls)).base
  pub failed : base.has_failed ≡ (file_of (reverse calls)).failed
  pub touched : (i : ℕ) → IsOutside base.touched i → AllLeave i (file_of (reverse calls)).changes
      × (get_or (file_of (reverse calls)).base i 0 ≡ get_or (get_or held.images base.image []) i 0)

-- the call that is read, where a sync made these bytes durable
abbrev pub call_of : List ℕ → Entry → Call
call_of bytes (entries.Opened base shown) = opened shown
call_of bytes (entries.Wrote offset written is_sync ok) = wrote offset written.now is_sync ok
call_of bytes (entries.ResizedTo size ok) = resized_to size ok
call_of bytes (entries.Synced ok) = synced bytes ok

-- an opening is read with the bytes with which the file of the calls before it began
abbrev pub HasBase : List Call → Entry → Type 0
HasBase past (entries.Opened base shown) = base ≡ (file_of past).base
HasBase past (entries.Wrote offset written is_sync ok) = ⊤
HasBase past (entries.ResizedTo size ok) = ⊤
HasBase past (entries.Synced ok) = ⊤

-- the change that is read, where it is one
abbrev pub changes_of : Entry → List Change
changes_of (entries.Opened base shown) = []
changes_of (entries.Wrote offset written is_sync ok) = write offset written.now (is_sync && ok) ∷ []
changes_of (entries.ResizedTo size ok) = resize size ∷ []
changes_of (entries.Synced ok) = []

-- whether the file begins anew with what is read
abbrev pub begins : Entry → Bool
begins (entries.Opened base shown) = true
begins (entries.Wrote offset written is_sync ok) = false
begins (entries.ResizedTo size ok) = false
begins (entries.Synced ok) = ok
