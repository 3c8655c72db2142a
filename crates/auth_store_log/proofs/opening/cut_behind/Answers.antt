use Rattle.std.proofs.Common.{rules, ◌≡◌, ℕ, ◌+◌, ◌<◌, ◌≤◌, List, length, subst, ap, ◌∙◌, min, arith}
use Rattle.paged_format.specs.Pages.{recovered}
use Rattle.paged_blob_parts.specs.Calls.{Call, content, file_of, whole}
use Rattle.paged_blob_parts.specs.Moments.{Through}
use Rattle.paged_blob_parts.specs.Writers.{Keeps, written}
use Rattle.paged_blob_parts.specs.Answers.{Failures}
use Rattle.paged_blob_parts.specs.Flushes.{physical_size}
use Rattle.std.proofs.lemmas.Result.{IfErr-weaker}
use Rattle.auth_store_log.specs.Causes.{IsLogCause}
use Rattle.auth_store_log.proofs.Causes.{truncation_cause, reach_within}
use Rattle.auth_store_log.proofs.opening.cut_behind.Goals as goal

pub returns-clause-any_moment : goal.returns-clause-any_moment
returns-clause-any_moment g c =
    let sum = g.C.Checksum.checksum_of in
    let calls : List Call = g.B.Blob.calls c.args.blob.now in
    let new : List Call = g.B.Blob.calls c.truncate.new.blob in
    let size : ℕ = c.args.recovery.page_size in
    let list : List ℕ = recovered sum size (content calls) in
    let old : List ℕ = written sum calls c.args.recovery in
    let room : 12 < size = search rules in
    let w = c.what_is_shown_withstands.ensures sum size calls room c.requires.cut.settled in
    let same : list ≡ old = ap (λ changes. recovered sum size (whole (file_of calls).base changes)) c.requires.cut.settled ∙ c.requires.cut.shown in
    let most : min c.args.count (length list) ≡ c.args.count = omega (arith, ap length same, c.requires.within) in
    subst (λ n. Through (Keeps sum size old n) calls new) most
    (subst (λ l. Through (Keeps sum size l (min c.args.count (length list))) calls new) same (c.truncate.ensures.any_moment (length list) w))

pub returns-clause-cause : goal.returns-clause-cause
returns-clause-cause g c =
    let sum = g.C.Checksum.checksum_of in
    let failures : Failures = g.B.Blob.failures c.args.blob.now in
    let calls : List Call = g.B.Blob.calls c.args.blob.now in
    let next : ℕ = c.args.cache.now.next_id in
    let w = c.args.recovery in
    let kept : ℕ = min c.args.count (w.tip.offset + length w.tip.bytes) in
    let list : List ℕ = recovered sum w.page_size (content calls) in
    let old : List ℕ = written sum calls w in
    let room : 12 < w.page_size = search rules in
    let same : list ≡ old = ap (λ changes. recovered sum w.page_size (whole (file_of calls).base changes)) c.requires.cut.settled ∙ c.requires.cut.shown in
    let within : physical_size w.page_size kept ≤ length (content calls) =
    reach_within sum w.page_size (content calls) kept room (omega (arith, ap length same, c.requires.within)) in
    IfErr-weaker c.truncate.result _ (λ e. IsLogCause failures (next + 1) (length (content calls)) e)
    (λ e is. truncation_cause failures next (length (content calls)) w.page_size kept e within is) c.truncate.ensures.cause
