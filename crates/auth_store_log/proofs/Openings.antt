-- What holds at each moment of an opening.
use Rattle.std.proofs.Common.{◌≡◌, ℕ, ◌+◌, ◌≤◌, List, [], length, take, drop, sym, ◌∙◌, ap, subst, arith}
use Rattle.std.proofs.lemmas.List.{length-take, length-drop}
use Rattle.std.proofs.Math.Seq.{take-length}
use Rattle.paged_blob_parts.specs.Calls.{Call}
use Rattle.paged_blob_parts.specs.Moments.{Through}
use Rattle.paged_blob_parts.specs.Laws.Moments.{weaker}
use Rattle.paged_blob_parts.specs.Writers.{Keeps, WriterState, IsWriter, written}
use Rattle.auth_store_log.specs.Records.{Format, committed, history_bytes}
use Rattle.auth_store_log.specs.Shown.{IsKeptThrough}
use Rattle.auth_store_log.specs.Laws.Shown.{keeps_reopens, keeps_committed, keeps_begun, keeps_bytes}
use Rattle.auth_store_log.specs.Laws.First.{empty_recorded}

-- how many bytes a writer has
pub written_len : (sum : List ℕ → ℕ) (calls : List Call) (w : WriterState) → IsWriter sum calls w
    → length (written sum calls w) ≡ w.tip.offset + length w.tip.bytes
written_len sum calls w is = omega (arith, is.tip_within, ap length is.tip_bytes, length-drop w.tip.offset (written sum calls w))

-- all of them were read
pub all_read : (sum : List ℕ → ℕ) (calls : List Call) (w : WriterState) (size : ℕ) → IsWriter sum calls w
    → size ≡ w.tip.offset + length w.tip.bytes → take size (drop 0 (written sum calls w)) ≡ written sum calls w
all_read sum calls w size is sized =
    ap (λ n. take n (written sum calls w)) (sized ∙ sym (written_len sum calls w is)) ∙ take-length (written sum calls w)

-- so many bytes of a list were found to be committed
pub found_len : (format : Format) (bytes list : List ℕ) (count : ℕ) → take count bytes ≡ committed format bytes → bytes ≡ list
    → length (committed format list) ≤ count
found_len format bytes list count found same =
    omega (arith, ap (λ l. length (committed format l)) same, ap length found, length-take count bytes)

-- while what is committed of a list is durable, and nothing else is written, the log stands
pub stands : (format : Format) (sum : List ℕ → ℕ) (size : ℕ) (list : List ℕ) (count : ℕ) (old new : List Call)
    → length (committed format list) ≤ count → Through (Keeps sum size list count) old new
    → Through (IsKeptThrough format sum size (committed format list)) old new
stands format sum size list count old new durable moments =
    weaker
    (λ calls keeps. (keeps_reopens format sum size calls list count durable keeps, keeps_committed format sum size calls list count durable keeps))
    moments

-- the same is kept where size and list are the same
pub kept_as : (sum : List ℕ → ℕ) (old new : List Call) (size other_size count : ℕ) (list other : List ℕ) → size ≡ other_size → list ≡ other
    → Through (Keeps sum size list count) old new → Through (Keeps sum other_size other count) old new
kept_as sum old new size other_size count list other sizes lists moments =
    subst (λ l. Through (Keeps sum other_size l count) old new) lists (subst (λ n. Through (Keeps sum n list count) old new) sizes moments)

-- while the first commit is on the way, the log stands that has none
pub begins : (format : Format) (sum : List ℕ → ℕ) (mid new : List Call) (size page_size synced : ℕ) (content log : List ℕ) → page_size ≡ size
    → content ≡ history_bytes format [] → synced ≡ 0 → log ≡ [] → Through (Keeps sum page_size content synced) mid new
    → Through (IsKeptThrough format sum size log) mid new
begins format sum mid new size page_size synced content log sizes contents none empty moments =
    let first : List ℕ = history_bytes format [] in
    let kept : Through (Keeps sum size first 0) mid new =
    subst (λ n. Through (Keeps sum size first n) mid new) none (kept_as sum mid new page_size size synced content first sizes contents moments) in
    subst (λ l. Through (IsKeptThrough format sum size l) mid new) (sym empty)
    (weaker (λ calls keeps. (keeps_begun format sum size calls (empty_recorded format) keeps, keeps_bytes sum size calls [] first keeps)) kept)
