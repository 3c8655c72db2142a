-- What a call's answer says of the calls that are recorded, of the failures, and of the bytes that were read.
use Rattle.std.specs.Prelude.{◌≡◌, ◌⊎◌, ℕ, ◌+◌, ◌-◌, ◌<◌, ◌≤◌, ◌^◌, ⊤, Bool, true, false, IsFalse}
use Rattle.std.specs.Prelude.{List, [], ◌∷◌, length, take, drop, Option, Result, Ok, Err, Contains}
use Rattle.fault_storage_parts.specs.declared.config.Config.{Config}
use Rattle.paged_blob_parts.specs.Calls.{Call, opened, synced, content, File, file_of}
use Rattle.paged_blob_parts.specs.Images.{IsImage, IsLive}
use Rattle.paged_blob_parts.specs.declared.error.CallKind.{CallKind}
use Rattle.paged_blob_parts.specs.declared.error.CallKind.TheVariants.{Read}
use Rattle.paged_blob_parts.specs.declared.error.Error.{Error}
use Rattle.paged_blob_parts.specs.declared.error.Error.TheVariants.{Injected, BlobMissing, BlobInsufficientLength}
use Rattle.paged_blob_parts.specs.declared.error.Error.TheVariants.{NumberEnded, Memory, PowerCut}

-- A call that succeeds or fails is recorded, with that. One that a cut refuses, or that counts as not made, is not.
abbrev pub Records : {T : Type 0} → Result T Error → (Bool → Call) → List Call → List Call → Type 0
Records (Ok _) call old new = new ≡ call true ∷ old
Records (Err (Injected _)) call old new = new ≡ call false ∷ old
Records (Err _) call old new = new ≡ old

-- a sync makes durable what a crash might have left, and the content where nothing has failed
pub record MakesDurable (old : List Call) (bytes : List ℕ) : Type 0 where
  pub image : IsImage (file_of old) bytes
  pub content : IsFalse (file_of old).failed → bytes ≡ content old

-- a sync that succeeds is recorded with these bytes
abbrev pub RecordsSync : {T : Type 0} → Result T Error → List Call → List Call → Type 0
RecordsSync (Ok _) old new = (bytes : List ℕ) × MakesDurable old bytes × (new ≡ synced bytes true ∷ old)
RecordsSync (Err (Injected _)) old new = new ≡ synced [] false ∷ old
RecordsSync (Err _) old new = new ≡ old

-- an opening is recorded with what it shows, which a crash may have left
abbrev pub RecordsOpening : List Call → List Call → Type 0
RecordsOpening old new = (shown : List ℕ) × IsImage (file_of old) shown × (new ≡ opened shown ∷ old)

-- what has refused calls of a blob so far: how many faults were injected, how many calls a cut of the power refused,
-- and whether an opening stands, without which none is taken; whether a cut was asked for, without which none comes;
-- the settings by which faults are drawn, where any are; and which number the next file of its store has
pub record Failures : Type 0 where
  pub injected : ℕ
  pub refused : ℕ
  pub is_open : Bool
  pub is_asked : Bool
  pub settings : Option Config
  pub files : ℕ

-- this after a call: an injected fault and a call that a cut refuses are counted; no call asks for a cut, changes the
-- settings or makes a file
abbrev pub failures_after : {T : Type 0} → Result T Error → Failures → Failures
failures_after (Ok _) failures = failures
failures_after (Err (Injected _)) failures = record failures { injected = failures.injected + 1 }
failures_after (Err PowerCut) failures = record failures { refused = failures.refused + 1 }
failures_after (Err _) failures = failures

-- a cut of the power stands: one was asked for, and no more calls are let through
abbrev pub IsPowerOff : Failures → ℕ → Type 0
IsPowerOff failures left = (failures.is_asked ≡ true) × (left ≡ 0)

-- a count stands at its last number
abbrev pub HaveEnded : Failures → Type 0
HaveEnded failures = (2 ^ 64 ≤ failures.injected + 1) ⊎ (2 ^ 64 ≤ failures.refused + 1)

-- how many of the calls that are let through a call uses up: one, unless it counts as not made
abbrev pub used_up : {T : Type 0} → Result T Error → ℕ
used_up (Err PowerCut) = 0
used_up (Err NumberEnded) = 0
used_up (Err Memory) = 0
used_up (Err BlobMissing) = 0
used_up result = 1

-- Under a cut of the power a call is refused for that, unless a count has ended, and without one it is not.
abbrev pub MeetsCut : {T : Type 0} → Result T Error → Failures → ℕ → Type 0
MeetsCut (Err PowerCut) failures left = IsPowerOff failures left
MeetsCut (Err NumberEnded) failures left = IsPowerOff failures left → HaveEnded failures
MeetsCut result failures left = IsPowerOff failures left → ⊥

-- a blob's numbers end at 2^64, of which its header may take 4096
abbrev pub IsPastNumbers : ℕ → Type 0
IsPastNumbers reach = 2 ^ 64 ≤ reach + 4096

-- why a call of this kind that reaches so far may be refused, after such failures
abbrev pub IsCause : Failures → CallKind → ℕ → Error → Type 0
IsCause failures kind reach (Injected injected) = injected ≡ kind
IsCause failures kind reach NumberEnded = IsPastNumbers reach ⊎ HaveEnded failures
IsCause failures kind reach Memory = ⊤
IsCause failures kind reach PowerCut = ⊤
IsCause failures kind reach BlobMissing = IsFalse failures.is_open
IsCause failures kind reach _ = ⊥

-- so many bytes at an offset of what a read may find
pub record IsSlice (file : File) (offset count : ℕ) (bytes : List ℕ) : Type 0 where
  pub live : List ℕ
  pub found : IsLive file live
  pub within : offset + count ≤ length live
  pub slice : bytes ≡ take count (drop offset live)

-- what a read may find ends before so many bytes
pub record EndsBefore (file : File) (reach : ℕ) : Type 0 where
  pub live : List ℕ
  pub found : IsLive file live
  pub short : length live < reach

-- why a read of so many bytes at an offset may be refused
abbrev pub IsReadCause : Failures → File → ℕ → ℕ → Error → Type 0
IsReadCause failures file offset count BlobInsufficientLength = EndsBefore file (offset + count)
IsReadCause failures file offset count error = IsCause failures Read (offset + count) error

-- slices one after the other, of each range an offset and a count
abbrev pub AreSlices : File → List (ℕ × ℕ) → List (List ℕ) → Type 0
AreSlices file [] [] = ⊤
AreSlices file (range ∷ ranges) (bytes ∷ rest) = IsSlice file range.0 range.1 bytes × AreSlices file ranges rest
AreSlices file _ _ = ⊥

-- why reads of these ranges may be refused: one of them may, or there is no memory for their answers
abbrev pub IsManyCause : Failures → File → List (ℕ × ℕ) → Error → Type 0
IsManyCause failures file ranges Memory = ⊤
IsManyCause failures file ranges error =
    (range : ℕ × ℕ) × Contains ranges range × IsReadCause failures file range.0 range.1 error

-- What calls in turn, so many at most, use up of those that are let through: one each where all are made; refused for a
-- cut, all that were left; else at most one each, and one at least, unless the refused one counts as not made.
abbrev pub UsesUpInTurn : {T : Type 0} → Result T Error → ℕ → ℕ → ℕ → Type 0
UsesUpInTurn (Ok _) count old new = new ≡ old - count
UsesUpInTurn (Err PowerCut) count old new = new ≡ 0
UsesUpInTurn result count old new = (old - count ≤ new) × (new ≤ old - used_up result)

-- So many calls in turn are all made only where the power lasts for them, and are refused for a cut only where it does
-- not. Under a cut that stands they are refused for that, unless a count has ended.
abbrev pub MeetsCutInTurn : {T : Type 0} → Result T Error → Failures → ℕ → ℕ → Type 0
MeetsCutInTurn (Ok _) failures left count = failures.is_asked ≡ true → count ≤ left
MeetsCutInTurn (Err PowerCut) failures left count = (failures.is_asked ≡ true) × (left < count)
MeetsCutInTurn (Err NumberEnded) failures left count = IsPowerOff failures left → HaveEnded failures
MeetsCutInTurn result failures left count = IsPowerOff failures left → ⊥
