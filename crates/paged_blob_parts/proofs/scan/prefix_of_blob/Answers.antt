use Rattle.std.proofs.Common.{rules, ◌≡◌, min, ℕ, ◌^◌, ◌<◌, ◌≤◌, Result, Ok, Err, IfOk, take, arith}
use Rattle.std.proofs.lemmas.List.{length-take}
use Rattle.paged_blob_parts.specs.Calls.{content}
use Rattle.paged_blob_parts.specs.Scans.{recoverable}
use Rattle.paged_blob_parts.proofs.Scanned.{recovered_short}
use Rattle.paged_blob_parts.proofs.scan.prefix_of_blob.Goals as goal

-- at most the greatest number is all
unbounded : {E : Type 0} (result : Result ℕ E) (most len : ℕ) → len ≤ most → IfOk result (λ n. n ≡ min most len) → IfOk result (λ n. n ≡ len)
unbounded (Ok n) most len fits is = omega (arith, is, fits)
unbounded (Err e) most len fits is = is

pub returns-clause-exact : goal.returns-clause-exact
returns-clause-exact g c = λ sound.
    let sum = g.C.Checksum.checksum_of in
    let size = c.args.physical_page_size in
    let calls = g.B.Blob.calls c.args.blob.now in
    let footer : 12 < size = search rules in
    let bytes = take c.args.blob_size (content calls) in
    let blob : c.args.blob_size < 2 ^ 64 = search rules in
    let fits : recoverable sum size calls c.args.blob_size ≤ 18446744073709551615 =
    omega (arith, recovered_short sum size footer bytes, length-take c.args.blob_size (content calls), blob) in
    unbounded c.prefix_of_blob_at_most.result 18446744073709551615 (recoverable sum size calls c.args.blob_size) fits
    (c.prefix_of_blob_at_most.ensures.exact sound)
