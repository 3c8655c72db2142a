use Rattle.std.proofs.Common.{rules, ◌≡◌, ◌<◌, ◌+◌, ◌-◌, ℕ, List, true, length, take, drop, ap, sym, subst, ◌∙◌, arith}
use Rattle.std.proofs.lemmas.List.{length-take-le, length-drop}
use Rattle.std.proofs.lemmas.Result.{err_from_is_err_and}
use Rattle.paged_blob_parts.specs.Calls.{Call}
use Rattle.paged_blob_parts.specs.Caches.{Cache}
use Rattle.paged_blob_parts.specs.Answers.{Failures}
use Rattle.paged_blob_parts.specs.Reads.{IsReadingCause, ServesPages, StaysKept}
use Rattle.paged_blob_parts.specs.Stands.{Stand, on_blob, listed}
use Rattle.paged_blob_parts.specs.Served.{total, are_within}
use Rattle.paged_blob_parts.proofs.CachedLaws.{others_joined}
use Rattle.paged_blob_parts.proofs.ServedLaws.{next, one_more_total, within_total, ranges_cause, slices_more, still_serves}
use Rattle.paged_blob_parts.proofs.view.View.read_ranges_into.Goals as goal

pub serve-requires-clause-stand : goal.serve-requires-clause-stand
serve-requires-clause-stand g c =
    subst (λ (l : List Call). Stand g.C.Checksum.checksum_of l c.args.self.now.pages) (sym c.loop-offset.invariant.calls) c.requires.stand

pub serve-requires-clause-cached : goal.serve-requires-clause-cached
serve-requires-clause-cached g c =
    let sum = g.C.Checksum.checksum_of in
    let pages = c.args.self.now.pages in
    let old = g.B.Blob.calls c.args.blob.now in
    let i = c.loop-offset.invariant in
    subst (λ (l : List Call). ServesPages (on_blob sum l pages) c.loop-offset.cache pages.blob_id) (sym i.calls)
    (still_serves (on_blob sum old pages) c.args.cache.now c.loop-offset.cache pages.blob_id c.requires.cached i.kept)

pub slice_bounds-piece-end : goal.slice_bounds-piece-end
slice_bounds-piece-end g c =
    let ranges = c.args.ranges.now in
    let index = c.loop-offset.offset-index in
    let below : index < length ranges = search rules in
    let same_long : length c.loop-offset.out ≡ length c.args.out.now = search rules in
    let fits : length c.loop-offset.out ≡ total ranges = same_long ∙ c.requires.room in
    omega (arith, c.loop-offset.invariant.done, within_total ranges index below, fits)

pub loop-offset-preserved : goal.loop-offset-preserved
loop-offset-preserved g c =
    let sum = g.C.Checksum.checksum_of in
    let pages = c.args.self.now.pages in
    let tail = c.args.self.now.tail.now in
    let old = g.B.Blob.calls c.args.blob.now in
    let ranges = c.args.ranges.now in
    let index = c.loop-offset.offset-index in
    let below : index < length ranges = search rules in
    let i = c.loop-offset.invariant in
    let done = c.loop-offset.done in
    let out = c.loop-offset.out in
    let range = next ranges index below in
    let span = done + range.1 - done in
    let list = listed sum old pages tail in
    let same_long : length out ≡ length c.args.out.now = search rules in
    let fits : length out ≡ total ranges = same_long ∙ c.requires.room in
    let piece = c.serve.new.out in
    let reach = within_total ranges index below in
    let asked : length (take span (drop done out)) ≡ range.1 =
    length-take-le span (drop done out) (omega (arith, length-drop done out, fits, reach, i.done)) ∙ omega arith in
    let kept_long : length piece ≡ length (take span (drop done out)) = search rules in
    let P : List Call → Type 0 = λ l. piece ≡ take (length (take span (drop done out))) (drop range.0 (listed sum l pages tail)) in
    let found : P old = subst P i.calls c.in_ok-is_served.ensures.bytes in
    let Q : List Call → Type 0 = λ l. StaysKept (on_blob sum l pages) c.loop-offset.cache c.serve.new.cache pages.blob_id in
    let still : Q old = subst Q i.calls c.in_ok-is_served.ensures.cached in
    let put : Cache → Cache = λ s. record s { pages = c.serve.new.cache.pages } in
    record {
      done = omega (arith, i.done, one_more_total ranges index below);
      bytes = slices_more ranges index below out piece done span i.done fits (kept_long ∙ asked) list
          (found ∙ ap (λ n. take n (drop range.0 list)) asked) i.bytes;
      served = omega (arith, i.served, c.counted-served.ensures);
      kept = λ more holds. still more (i.kept more holds);
      others = others_joined c.args.cache.now c.loop-offset.cache c.serve.new.cache pages.blob_id i.others c.in_ok-is_served.ensures.others;
      same = c.in_ok-is_served.ensures.same ∙ ap put i.same;
      calls = c.in_ok-is_served.ensures.calls ∙ i.calls;
      failures = c.in_ok-is_served.ensures.failures ∙ i.failures;
      left = omega (arith, c.in_ok-is_served.ensures.left, i.left);
    }

pub returns-in_err-is_served-clause-cause : goal.returns-in_err-is_served-clause-cause
returns-in_err-is_served-clause-cause g c =
    let pages = c.args.self.now.pages in
    let tail = c.args.self.now.tail.now in
    let ranges = c.args.ranges.now in
    let index = c.loop-offset.offset-index in
    let below : index < length ranges = search rules in
    let i = c.loop-offset.invariant in
    let done = c.loop-offset.done in
    let out = c.loop-offset.out in
    let range = next ranges index below in
    let span = done + range.1 - done in
    let size = pages.len + length tail in
    let same_long : length out ≡ length c.args.out.now = search rules in
    let fits : length out ≡ total ranges = same_long ∙ c.requires.room in
    let reach = within_total ranges index below in
    let asked : length (take span (drop done out)) ≡ range.1 =
    length-take-le span (drop done out) (omega (arith, length-drop done out, fits, reach, i.done)) ∙ omega arith in
    let all : are_within size ranges ≡ true =
    ap (λ n. are_within n ranges) (sym c.size.ensures) ∙ sym c.are_within.ensures ∙ c.if-not-are_within.false in
    let p = err_from_is_err_and c.from_residual.result c.from_residual.ensures.1 in
    let error = c.in_err-is_served.field-0.0 in
    let past = g.B.Blob.failures c.args.blob.now in
    let P : Failures → Type 0 = λ f. IsReadingCause f pages.physical_page_size pages.len size (range.0 + length (take span (drop done out))) error in
    let cause : P past = subst P i.failures c.in_err-is_served.ensures.cause in
    let Q : ℕ → Type 0 = λ n. IsReadingCause past pages.physical_page_size pages.len size (range.0 + n) error in
    rw (p.1, p.2) (ranges_cause ranges index below past pages.physical_page_size pages.len size error all (subst Q asked cause))

pub returns-in_err-is_served-clause-cached : goal.returns-in_err-is_served-clause-cached
returns-in_err-is_served-clause-cached g c =
    let sum = g.C.Checksum.checksum_of in
    let pages = c.args.self.now.pages in
    let old = g.B.Blob.calls c.args.blob.now in
    let i = c.loop-offset.invariant in
    let Q : List Call → Type 0 = λ l. StaysKept (on_blob sum l pages) c.loop-offset.cache c.serve.new.cache pages.blob_id in
    let still : Q old = subst Q i.calls c.in_err-is_served.ensures.cached in
    λ more holds. still more (i.kept more holds)

pub returns-in_err-is_served-clause-others : goal.returns-in_err-is_served-clause-others
returns-in_err-is_served-clause-others g c =
    others_joined c.args.cache.now c.loop-offset.cache c.serve.new.cache c.args.self.now.pages.blob_id c.loop-offset.invariant.others
    c.in_err-is_served.ensures.others

pub returns-clause-serves : goal.returns-clause-serves
returns-clause-serves g c =
    let sum = g.C.Checksum.checksum_of in
    let pages = c.args.self.now.pages in
    let old = g.B.Blob.calls c.args.blob.now in
    let i = c.loop-offset.invariant in
    subst (λ (l : List Call). ServesPages (on_blob sum l pages) c.loop-offset.cache pages.blob_id) (sym i.calls)
    (still_serves (on_blob sum old pages) c.args.cache.now c.loop-offset.cache pages.blob_id c.requires.cached i.kept)
