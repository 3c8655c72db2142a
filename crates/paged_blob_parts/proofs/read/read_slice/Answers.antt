use Rattle.std.proofs.Common.{rules, ◌≡◌, ◌≤◌, ◌+◌, ◌-◌, min, ◌++◌, length, take, drop, ap, ◌∙◌, arith}
use Rattle.std.proofs.lemmas.List.{length-append, length-take-le, length-drop}
use Rattle.paged_format.specs.Pages.{recovered}
use Rattle.paged_blob_parts.specs.Calls.{content}
use Rattle.paged_blob_parts.specs.Reads.{flushed}
use Rattle.paged_blob_parts.proofs.ReadPages.{slice_of_both, laid_both}
use Rattle.paged_blob_parts.proofs.read.read_slice.Goals as goal

pub read_flushed-requires-clause-within : goal.read_flushed-requires-clause-within
read_flushed-requires-clause-within g c =
    let out = c.args.out.now in
    let k = c.min-on_blob.result in
    let fits : k ≤ length out = search rules in
    omega (arith, length-take-le k out fits, c.min-on_blob.ensures, c.saturating_sub.ensures, c.min-start.ensures)

pub returns-clause-bytes : goal.returns-clause-bytes
returns-clause-bytes g c =
    let sum = g.C.Checksum.checksum_of in
    let size = c.args.pages.physical_page_size in
    let calls = g.B.Blob.calls c.args.blob.now in
    let count = c.args.pages.len in
    let all = flushed sum size calls count in
    let long : length all ≡ count = length-take-le count (recovered sum size (content calls)) c.requires.stand.shown in
    let out = c.args.out.now in
    let tip = c.args.tip.now in
    let k = c.min-on_blob.result in
    let n = length out in
    let from = c.saturating_sub-from.result in
    let front = c.read_flushed.new.out in
    let back = c.copy_from_slice.new.self in
    let fits : k ≤ n = search rules in
    let k_is : k ≡ min (count - c.args.offset) n = search rules in
    let from_is : from ≡ c.args.offset - count = search rules in
    let start_is : c.min-start.result ≡ min c.args.offset count = search rules in
    let within : c.args.offset + n ≤ count + length tip = search rules in
    let taken : length (take k out) ≡ k = length-take-le k out fits in
    let front_is = c.in_ok-read_flushed.ensures.bytes ∙ ap (λ m. take m (drop c.min-start.result all)) taken in
    let front_long : length front ≡ k = ap length front_is ∙ length-take-le k (drop c.min-start.result all)
    (omega (arith, length-drop c.min-start.result all, long, k_is, start_is)) in
    let now = front ++ drop k out in
    let now_long : length now ≡ n = omega (arith, length-append front (drop k out), front_long, length-drop k out, fits) in
    let rest = length (take (length now - k) (drop k now)) in
    let rest_long : rest ≡ n - k = omega (arith, length-take-le (length now - k) (drop k now) (omega (arith, length-drop k now)), now_long) in
    let raw : back ≡ take (from + rest - from) (drop from tip) = c.copy_from_slice.ensures.after in
    let back_is : back ≡ take (n - k) (drop from tip) = raw ∙ ap (λ m. take m (drop from tip)) (omega (arith, rest_long)) in
    let back_long : length back ≡ n - k = ap length back_is
    ∙ length-take-le (n - k) (drop from tip) (omega (arith, length-drop from tip, within, k_is, from_is)) in
    laid_both out front back k front_long fits back_long
    ∙ slice_of_both all tip front back count c.args.offset n k from c.min-start.result long k_is from_is start_is within front_is back_is
