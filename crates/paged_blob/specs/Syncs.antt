-- A sync of a writer that was started and is not waited for yet.
use Rattle.std.specs.Prelude.{◌≡◌, ℕ, ◌+◌, ◌-◌, ◌*◌, ◌/◌, ◌<◌, ◌≤◌, ◌^◌, Option, Result, Ok, Err, OnOk, List, length}
use Rattle.std.specs.Prelude.{take, drop}
use Rattle.paged_format.specs.Footers.{content_size}
use Rattle.paged_format.specs.Tips.{Tip}
use Rattle.paged_blob_parts.specs.Calls.{Call}
use Rattle.paged_blob_parts.specs.Flushes.{physical_size, last_slot}
use Rattle.paged_blob_parts.specs.Writers.{WriterState, IsWriterOf, IsWriter, Keeps, written}
use Rattle.paged_blob_parts.specs.Stands.{Stand, pages_of}
use Rattle.paged_blob_parts.specs.declared.flush.DurableSlot.{DurableSlot}
use Rattle.paged_blob_parts.specs.declared.error.Error.{Error}
use Rattle.paged_blob.specs.declared.writer.syncing.WriterSync.{WriterSync}

-- A tip of which so many bytes were made durable: it begins behind the whole pages of these.
abbrev pub settled_tip : ℕ → ℕ → Tip → Tip
settled_tip size count tip = record tip {
  offset = tip.offset + count / content_size size * content_size size;
  bytes = drop (count / content_size size * content_size size) tip.bytes;
}

-- the slot that then vouches for what they have of a page that is not whole
abbrev pub settled_slot : (List ℕ → ℕ) → WriterState → ℕ → Option DurableSlot
settled_slot sum w count = last_slot sum w.page_size w.slot (take count w.tip.bytes)

-- A sync of the first bytes of a writer's list was started, and these are the blob's calls since. The list has taken
-- bytes into memory since, perhaps; no other call was made.
pub record IsUnderWay (sum : List ℕ → ℕ) (calls : List Call) (w : WriterState) (started : WriterSync) : Type 0 where
  -- it covers the pages, and of the tip what was there when it was started
  pub begins : w.tip.offset ≤ started.size
  pub within : started.size ≤ w.tip.offset + length w.tip.bytes
  pub more : w.synced ≤ started.size
  -- what is in pages can be read, and what a crash leaves keeps what was durable before
  pub stand : Stand sum calls (pages_of w)
  pub keeps : Keeps sum w.page_size (written sum calls w) w.synced calls
  pub numbers : physical_size w.page_size (length (written sum calls w)) + 4096 < 2 ^ 64
  -- where all was durable it is done
  pub idle : started.size ≤ w.synced → IsWriter sum calls w × (started.sync.answer ≡ Ok tt)
  -- else, unless it was refused, all that it covers is durable
  pub done : w.synced < started.size
      → OnOk started.sync.answer (IsWriterOf sum w.page_size calls (written sum calls w) started.size
      (settled_tip w.page_size (started.size - w.tip.offset) w.tip) (settled_slot sum w (started.size - w.tip.offset)))

-- what the blob answered to the calls of a start: the refusal of a write, or the answer of the sync
abbrev pub outcome : {T : Type 0} → Result (T × WriterSync) Error → Result Unit Error
outcome (Ok (_, started)) = started.sync.answer
outcome (Err error) = Err error
