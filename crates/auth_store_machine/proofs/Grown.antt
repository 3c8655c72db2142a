-- What stands where a batch was refused after the history had grown by it.
use Rattle.std.proofs.Common.{◌+◌, ◌≤◌, ℕ, List, subst, length}
use Rattle.std.specs.Prelude.{Option}
use Rattle.fault_storage_parts.specs.Crc32.{crc32}
use Rattle.paged_blob_parts.specs.Caches.{Cache}
use Rattle.paged_blob_parts.specs.Calls.{Call}
use Rattle.paged_blob_parts.specs.Writers.{Keeps, written, IsWriterOf}
use Rattle.paged_format.specs.Tips.{Tip}
use Rattle.paged_blob_parts.specs.declared.flush.DurableSlot.{DurableSlot}
use Rattle.auth_store_log.specs.Records.{Format, history_bytes}
use Rattle.auth_store_machine.specs.Stores.{LiveState, IsLive}

-- what a writer keeps of a live store
pub keeps_live : (format : Format) (calls : List Call) (cache : Cache) (now : LiveState)
    → ((sum : List ℕ → ℕ) (size : ℕ) (calls : List Call) (content : List ℕ) (synced : ℕ) (tip : Tip) (slot : Option DurableSlot)
    → 12 ≤ size → IsWriterOf sum size calls content synced tip slot → Keeps sum size content synced calls)
    → 12 ≤ now.writer.page_size → IsLive format calls cache now
    → Keeps crc32 (cache.page_size + 12) (history_bytes format now.history) (length (history_bytes format now.history)) calls
keeps_live format calls cache now keeps some is =
    let w = now.writer in
    let all = keeps crc32 w.page_size calls (written crc32 calls w) w.synced w.tip w.slot some is.writer in
    subst (λ size. Keeps crc32 size (history_bytes format now.history) (length (history_bytes format now.history)) calls) is.sized
    (subst (λ synced. Keeps crc32 w.page_size (history_bytes format now.history) synced calls) is.synced
    (subst (λ content. Keeps crc32 w.page_size content w.synced calls) is.content all))
