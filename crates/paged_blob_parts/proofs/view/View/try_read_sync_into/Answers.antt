use Rattle.std.proofs.Common.{rules, ◌≡◌, ◌≤◌, ◌+◌, ◌-◌, ◌++◌, min, length, take, drop, ap, refl, ◌∙◌, arith}
use Rattle.std.proofs.lemmas.List.{length-append, length-take-le, length-drop}
use Rattle.paged_blob_parts.specs.Served.{AreKept}
use Rattle.paged_blob_parts.proofs.ReadPages.{slice_of_both, laid_both}
use Rattle.paged_blob_parts.proofs.view.View.try_read_sync_into.Goals as goal

pub returns-then-not-ends_within-clause-served : goal.returns-then-not-ends_within-clause-served
returns-then-not-ends_within-clause-served g c = λ front serves.
    (λ yes. cc, λ served. let fits = c.ends_within.ensures.fits.1 (omega (arith, served.within, c.size.ensures)) in cc)

pub returns-then-not-copy_flushed-clause-served : goal.returns-then-not-copy_flushed-clause-served
returns-then-not-copy_flushed-clause-served g c = λ front serves.
    let out = c.args.out.now in
    let pages = c.args.self.now.pages in
    let k = c.min-on_blob.result in
    let fits : k ≤ length out = search rules in
    let k_is : k ≡ min (pages.len - c.args.offset) (length out) = search rules in
    let start_is : c.min-start.result ≡ min c.args.offset pages.len = search rules in
    let taken : length (take k out) ≡ k = length-take-le k out fits in (
      λ yes. cc,
      λ served.
          let kept : AreKept c.args.cache.now pages c.min-start.result (length (take k out)) = λ i from below.
          served.kept i (omega (arith, from, below, taken, k_is, start_is)) (omega (arith, from, below, taken, k_is, start_is))
          (omega (arith, from, below, taken, k_is, start_is)) in
          let yes = (c.copy_flushed.ensures.served front serves).1 kept in
          cc,
    )

pub returns-clause-served : goal.returns-clause-served
returns-clause-served g c = λ front serves.
    let out = c.args.out.now in
    let pages = c.args.self.now.pages in
    let k = c.min-on_blob.result in
    let fits : k ≤ length out = search rules in
    let k_is : k ≡ min (pages.len - c.args.offset) (length out) = search rules in
    let start_is : c.min-start.result ≡ min c.args.offset pages.len = search rules in
    let taken : length (take k out) ≡ k = length-take-le k out fits in
    let kept = (c.copy_flushed.ensures.served front serves).0 c.if-not-copy_flushed.false in
    let within = c.ends_within.ensures.fits.0 c.if-not-ends_within.false in (
      λ yes. record {
        within = omega (arith, within, c.size.ensures);
        kept = λ i from below flushed.
            kept i (omega (arith, from, below, flushed, taken, k_is, start_is)) (omega (arith, from, below, flushed, taken, k_is, start_is));
      },
      λ served. refl,
    )

pub returns-clause-bytes : goal.returns-clause-bytes
returns-clause-bytes g c = λ front serves yes.
    let pages = c.args.self.now.pages in
    let count = pages.len in
    let long = serves.long in
    let out = c.args.out.now in
    let tip = c.args.self.now.tail.now in
    let k = c.min-on_blob.result in
    let n = length out in
    let from = c.saturating_sub-from.result in
    let head = c.copy_flushed.new.out in
    let back = c.copy_from_slice.new.self in
    let fits : k ≤ n = search rules in
    let k_is : k ≡ min (count - c.args.offset) n = search rules in
    let from_is : from ≡ c.args.offset - count = search rules in
    let start_is : c.min-start.result ≡ min c.args.offset count = search rules in
    let ends = c.ends_within.ensures.fits.0 c.if-not-ends_within.false in
    let within : c.args.offset + n ≤ count + length tip = omega (arith, ends, c.size.ensures) in
    let taken : length (take k out) ≡ k = length-take-le k out fits in
    let head_is = c.copy_flushed.ensures.bytes front serves c.if-not-copy_flushed.false ∙ ap (λ m. take m (drop c.min-start.result front)) taken in
    let head_long : length head ≡ k = ap length head_is ∙ length-take-le k (drop c.min-start.result front)
    (omega (arith, length-drop c.min-start.result front, long, k_is, start_is)) in
    let now = head ++ drop k out in
    let now_long : length now ≡ n = omega (arith, length-append head (drop k out), head_long, length-drop k out, fits) in
    let rest = length (take (length now - k) (drop k now)) in
    let rest_long : rest ≡ n - k = omega (arith, length-take-le (length now - k) (drop k now) (omega (arith, length-drop k now)), now_long) in
    let raw : back ≡ take (from + rest - from) (drop from tip) = c.copy_from_slice.ensures.after in
    let back_is : back ≡ take (n - k) (drop from tip) = raw ∙ ap (λ m. take m (drop from tip)) (omega (arith, rest_long)) in
    let back_long : length back ≡ n - k = ap length back_is
    ∙ length-take-le (n - k) (drop from tip) (omega (arith, length-drop from tip, within, k_is, from_is)) in
    laid_both out head back k head_long fits back_long
    ∙ slice_of_both front tip head back count c.args.offset n k from c.min-start.result long k_is from_is start_is within head_is back_is
