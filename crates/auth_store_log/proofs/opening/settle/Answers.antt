use Rattle.std.proofs.Common.{rules, ◌≡◌, ℕ, ◌+◌, ◌<◌, ◌≤◌, List, length, ap, subst, sym, ◌∙◌, min, arith}
use Rattle.paged_format.specs.Pages.{recovered}
use Rattle.paged_blob_parts.specs.Calls.{Call, content, file_of}
use Rattle.paged_blob_parts.specs.Moments.{Through, here}
use Rattle.paged_blob_parts.specs.Shrinks.{Withstands}
use Rattle.paged_blob_parts.specs.Writers.{Keeps}
use Rattle.paged_blob_parts.specs.Answers.{Failures}
use Rattle.paged_blob_parts.specs.Caches.{Cache}
use Rattle.paged_blob_parts.specs.Flushes.{physical_size}
use Rattle.std.proofs.lemmas.Result.{IfErr-weaker}
use Rattle.paged_blob_parts.specs.Laws.Durable.{withstands_keeps}
use Rattle.auth_store_log.specs.Causes.{IsLogCause}
use Rattle.auth_store_log.proofs.Causes.{further, truncation_cause, reach_within}
use Rattle.auth_store_log.proofs.opening.settle.Goals as goal

-- a cut to the whole of the list keeps all of it
cut_to_all : (sum : List ℕ → ℕ) (old mid new : List Call) (size page_size count : ℕ) → mid ≡ old → page_size ≡ size
    → count ≡ length (recovered sum page_size (content old))
    → Withstands sum size (recovered sum size (content old)) (length (recovered sum size (content old))) (file_of old)
    → ((synced : ℕ) → Withstands sum page_size (recovered sum page_size (content mid)) synced (file_of mid)
    → Through (Keeps sum page_size (recovered sum page_size (content mid)) (min count synced)) mid new)
    → Through (Keeps sum size (recovered sum size (content old)) (length (recovered sum size (content old)))) old new
cut_to_all sum old mid new size page_size count still sized counted w moments =
    let list = recovered sum size (content old) in
    let Q : List Call → ℕ → Type 0 = λ m p. count ≡ length (recovered sum p (content old))
    → ((synced : ℕ) → Withstands sum p (recovered sum p (content m)) synced (file_of m)
    → Through (Keeps sum p (recovered sum p (content m)) (min count synced)) m new)
    → Through (Keeps sum size list (length list)) old new in
    let here_it_is : Q old size = λ counts f.
    let most : min count (length list) ≡ length list = omega (arith, counts) in
    subst (λ n. Through (Keeps sum size list n) old new) most (f (length list) w) in
    subst (λ m. Q m page_size) (sym still) (subst (λ p. Q old p) (sym sized) here_it_is) counted moments

pub returns-in_err-recovery-clause-any_moment : goal.returns-in_err-recovery-clause-any_moment
returns-in_err-recovery-clause-any_moment g c =
    let sum = g.C.Checksum.checksum_of in
    let calls : List Call = g.B.Blob.calls c.args.blob.now in
    let size : ℕ = c.args.cache.now.page_size + 12 in
    let list = recovered sum size (content calls) in
    let room : 12 < size = search rules in
    let w = c.what_is_shown_withstands.ensures sum size calls room c.requires.settled in
    let keeps : Keeps sum size list (length list) calls = withstands_keeps sum size (omega (arith, room)) list (length list) calls w in
    subst (Through (Keeps sum size list (length list)) calls) (sym c.open.ensures.calls) (here keeps)

pub returns-clause-any_moment : goal.returns-clause-any_moment
returns-clause-any_moment g c =
    let sum = g.C.Checksum.checksum_of in
    let calls : List Call = g.B.Blob.calls c.args.blob.now in
    let size : ℕ = c.args.cache.now.page_size + 12 in
    let room : 12 < size = search rules in
    let w = c.what_is_shown_withstands.ensures sum size calls room c.requires.settled in
    let there = c.in_ok-recovery.ensures in
    cut_to_all sum calls (g.B.Blob.calls c.open.new.blob) (g.B.Blob.calls c.truncate.new.blob) size c.in_ok-recovery.recovery.page_size c.size-size.result
    c.open.ensures.calls there.page_size (c.size-size.ensures ∙ there.known c.requires.sound c.requires.known) w c.truncate.ensures.any_moment

pub returns-clause-cause : goal.returns-clause-cause
returns-clause-cause g c =
    let sum = g.C.Checksum.checksum_of in
    let failures : Failures = g.B.Blob.failures c.args.blob.now in
    let calls : List Call = g.B.Blob.calls c.args.blob.now in
    let mid : List Call = g.B.Blob.calls c.open.new.blob in
    let next : ℕ = c.args.cache.now.next_id in
    let mid_next : ℕ = c.open.new.cache.next_id in
    let w = c.in_ok-recovery.recovery in
    let there = c.in_ok-recovery.ensures in
    let kept : ℕ = min c.size-size.result (w.tip.offset + length w.tip.bytes) in
    let room : 12 < w.page_size = search rules in
    let all = there.known c.requires.sound c.requires.known in
    let same : length (content mid) ≡ length (content calls) = ap (λ l. length (content l)) c.open.ensures.calls in
    let within : physical_size w.page_size kept ≤ length (content mid) =
    omega (arith, same, reach_within sum w.page_size (content calls) kept room (omega (arith, all))) in
    let one_more : mid_next ≡ next + 1 = ap (λ (k : Cache). k.next_id) there.cache in
    IfErr-weaker c.truncate.result _ (λ e. IsLogCause failures (next + 2) (length (content calls)) e)
    (λ e is. subst (λ f. IsLogCause f (next + 2) (length (content calls)) e) there.failures
    (further (g.B.Blob.failures c.open.new.blob) (mid_next + 1) (next + 2) (length (content mid)) (length (content calls)) e (omega (arith, one_more))
    (omega (arith, same)) (truncation_cause (g.B.Blob.failures c.open.new.blob) mid_next (length (content mid)) w.page_size kept e within is)))
    c.truncate.ensures.cause
