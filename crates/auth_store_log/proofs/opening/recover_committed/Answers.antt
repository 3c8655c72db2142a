use Rattle.std.proofs.Common.{◌≡◌, ℕ, ◌+◌, List, length, take, sym, subst, ap, ◌∙◌, arith}
use Rattle.std.specs.Prelude.{Contains}
use Rattle.paged_format.specs.Pages.{recovered}
use Rattle.paged_blob_parts.specs.Calls.{Call, content}
use Rattle.paged_blob_parts.specs.Caches.{Cache}
use Rattle.paged_blob_parts.specs.Moments.{Through}
use Rattle.paged_blob_parts.specs.Laws.Moments.{joined}
use Rattle.paged_blob_parts.specs.Writers.{written}
use Rattle.auth_store_log.specs.Records.{Format, format_of, committed}
use Rattle.auth_store_log.specs.Shown.{IsKeptThrough}
use Rattle.auth_store_log.specs.Laws.Records.{committed-le}
use Rattle.auth_store_log.proofs.Openings.{all_read, found_len, stands, kept_as}
use Rattle.auth_store_log.proofs.Causes.{names_stay, names_kept}
use Rattle.auth_store_log.proofs.opening.recover_committed.Goals as goal

pub returns-in_err-recovery-clause-any_moment : goal.returns-in_err-recovery-clause-any_moment
returns-in_err-recovery-clause-any_moment g c =
    let format : Format = format_of (g.K.Read.after tt) (g.V.Read.after tt) g.K.FixedSize.SIZE g.V.FixedSize.SIZE in
    let sum = g.C.Checksum.checksum_of in
    let calls : List Call = g.B.Blob.calls c.args.blob.now in
    let size : ℕ = c.args.cache.now.page_size + 12 in
    let list : List ℕ = recovered sum size (content calls) in
    stands format sum size list (length list) calls (g.B.Blob.calls c.settle.new.blob) (committed-le format list) c.settle.ensures.any_moment

pub read_at-requires-clause-cached : goal.read_at-requires-clause-cached
read_at-requires-clause-cached g c = record {
  each = λ page there is.
      let kept = subst (λ pages. Contains pages page) c.settle.ensures.pages there in
      let old = c.requires.named.each page kept in
      let name = c.in_ok-recovery.ensures.name in
      let next = ap (λ (k : Cache). k.next_id) c.in_ok-recovery.ensures.cache in
      absurd (omega (arith, old, is, name, next));
}

pub returns-in_err-bytes-clause-any_moment : goal.returns-in_err-bytes-clause-any_moment
returns-in_err-bytes-clause-any_moment g c =
    let format : Format = format_of (g.K.Read.after tt) (g.V.Read.after tt) g.K.FixedSize.SIZE g.V.FixedSize.SIZE in
    let sum = g.C.Checksum.checksum_of in
    let calls : List Call = g.B.Blob.calls c.args.blob.now in
    let size : ℕ = c.args.cache.now.page_size + 12 in
    let list : List ℕ = recovered sum size (content calls) in
    subst (Through (IsKeptThrough format sum size (committed format list)) calls) (sym c.read_at.ensures.calls)
    (stands format sum size list (length list) calls (g.B.Blob.calls c.settle.new.blob) (committed-le format list) c.settle.ensures.any_moment)

pub returns-in_err-count-clause-any_moment : goal.returns-in_err-count-clause-any_moment
returns-in_err-count-clause-any_moment g c =
    let format : Format = format_of (g.K.Read.after tt) (g.V.Read.after tt) g.K.FixedSize.SIZE g.V.FixedSize.SIZE in
    let sum = g.C.Checksum.checksum_of in
    let calls : List Call = g.B.Blob.calls c.args.blob.now in
    let size : ℕ = c.args.cache.now.page_size + 12 in
    let list : List ℕ = recovered sum size (content calls) in
    subst (Through (IsKeptThrough format sum size (committed format list)) calls) (sym c.read_at.ensures.calls)
    (stands format sum size list (length list) calls (g.B.Blob.calls c.settle.new.blob) (committed-le format list) c.settle.ensures.any_moment)

pub returns-in_err-kept-clause-any_moment : goal.returns-in_err-kept-clause-any_moment
returns-in_err-kept-clause-any_moment g c =
    let format : Format = format_of (g.K.Read.after tt) (g.V.Read.after tt) g.K.FixedSize.SIZE g.V.FixedSize.SIZE in
    let sum = g.C.Checksum.checksum_of in
    let calls : List Call = g.B.Blob.calls c.args.blob.now in
    let mid : List Call = g.B.Blob.calls c.settle.new.blob in
    let read : List Call = g.B.Blob.calls c.read_at.new.blob in
    let new : List Call = g.B.Blob.calls c.keep_front.new.blob in
    let size : ℕ = c.args.cache.now.page_size + 12 in
    let list : List ℕ = recovered sum size (content calls) in
    let w = c.in_ok-recovery.recovery in
    let there = c.in_ok-recovery.ensures in
    let first = subst (Through (IsKeptThrough format sum size (committed format list)) calls) (sym c.read_at.ensures.calls)
    (stands format sum size list (length list) calls mid (committed-le format list) c.settle.ensures.any_moment) in
    let same : c.in_ok-bytes.bytes.items ≡ list = c.in_ok-bytes.ensures.bytes ∙ all_read sum mid w c.size-size.result there.writer c.size-size.ensures
    ∙ there.content in
    let durable = found_len format c.in_ok-bytes.bytes.items list c.in_ok-count.count
    (ap (λ l. take c.in_ok-count.count l) (sym c.deref.ensures.value) ∙ c.in_ok-count.ensures.found ∙ ap (committed format) c.deref.ensures.value) same in
    let left : written sum read w ≡ list = ap (λ k. written sum k w) c.read_at.ensures.calls ∙ there.content in
    joined {P = IsKeptThrough format sum size (committed format list)} first
    (stands format sum size list c.in_ok-count.count read new durable
    (kept_as sum read new w.page_size size c.in_ok-count.count (written sum read w) list there.page_size left c.keep_front.ensures.any_moment))

pub returns-clause-any_moment : goal.returns-clause-any_moment
returns-clause-any_moment g c =
    let format : Format = format_of (g.K.Read.after tt) (g.V.Read.after tt) g.K.FixedSize.SIZE g.V.FixedSize.SIZE in
    let sum = g.C.Checksum.checksum_of in
    let calls : List Call = g.B.Blob.calls c.args.blob.now in
    let mid : List Call = g.B.Blob.calls c.settle.new.blob in
    let read : List Call = g.B.Blob.calls c.read_at.new.blob in
    let new : List Call = g.B.Blob.calls c.keep_front.new.blob in
    let size : ℕ = c.args.cache.now.page_size + 12 in
    let list : List ℕ = recovered sum size (content calls) in
    let w = c.in_ok-recovery.recovery in
    let there = c.in_ok-recovery.ensures in
    let first = subst (Through (IsKeptThrough format sum size (committed format list)) calls) (sym c.read_at.ensures.calls)
    (stands format sum size list (length list) calls mid (committed-le format list) c.settle.ensures.any_moment) in
    let same : c.in_ok-bytes.bytes.items ≡ list = c.in_ok-bytes.ensures.bytes ∙ all_read sum mid w c.size-size.result there.writer c.size-size.ensures
    ∙ there.content in
    let durable = found_len format c.in_ok-bytes.bytes.items list c.in_ok-count.count
    (ap (λ l. take c.in_ok-count.count l) (sym c.deref.ensures.value) ∙ c.in_ok-count.ensures.found ∙ ap (committed format) c.deref.ensures.value) same in
    let left : written sum read w ≡ list = ap (λ k. written sum k w) c.read_at.ensures.calls ∙ there.content in
    joined {P = IsKeptThrough format sum size (committed format list)} first
    (stands format sum size list c.in_ok-count.count read new durable
    (kept_as sum read new w.page_size size c.in_ok-count.count (written sum read w) list there.page_size left c.keep_front.ensures.any_moment))

pub returns-in_err-recovery-clause-named : goal.returns-in_err-recovery-clause-named
returns-in_err-recovery-clause-named g c =
    names_stay c.args.cache.now c.settle.new.cache c.settle.ensures.pages c.settle.ensures.given.1 c.requires.named

pub returns-in_err-bytes-clause-named : goal.returns-in_err-bytes-clause-named
returns-in_err-bytes-clause-named g c =
    let settled = names_stay c.args.cache.now c.settle.new.cache c.settle.ensures.pages c.settle.ensures.given.1 c.requires.named in
    let same : c.read_at.new.cache.next_id ≡ c.settle.new.cache.next_id = ap (λ (k : Cache). k.next_id) c.read_at.ensures.same in
    names_kept c.settle.new.cache c.read_at.new.cache c.in_ok-recovery.recovery.blob_id c.read_at.ensures.others (omega (arith, same))
    (omega (arith, c.in_ok-recovery.ensures.name)) settled

pub returns-in_err-count-clause-named : goal.returns-in_err-count-clause-named
returns-in_err-count-clause-named g c =
    let settled = names_stay c.args.cache.now c.settle.new.cache c.settle.ensures.pages c.settle.ensures.given.1 c.requires.named in
    let same : c.read_at.new.cache.next_id ≡ c.settle.new.cache.next_id = ap (λ (k : Cache). k.next_id) c.read_at.ensures.same in
    names_kept c.settle.new.cache c.read_at.new.cache c.in_ok-recovery.recovery.blob_id c.read_at.ensures.others (omega (arith, same))
    (omega (arith, c.in_ok-recovery.ensures.name)) settled

pub keep_front-requires-clause-named : goal.keep_front-requires-clause-named
keep_front-requires-clause-named g c =
    let settled = names_stay c.args.cache.now c.settle.new.cache c.settle.ensures.pages c.settle.ensures.given.1 c.requires.named in
    let same : c.read_at.new.cache.next_id ≡ c.settle.new.cache.next_id = ap (λ (k : Cache). k.next_id) c.read_at.ensures.same in
    names_kept c.settle.new.cache c.read_at.new.cache c.in_ok-recovery.recovery.blob_id c.read_at.ensures.others (omega (arith, same))
    (omega (arith, c.in_ok-recovery.ensures.name)) settled
