use Rattle.std.proofs.Common.{rules, ◌≡◌, ◌+◌, ◌^◌, ◌<◌, ◌≤◌, min, length, take, sym, ◌∙◌, ap, subst, arith}
use Rattle.std.proofs.lemmas.List.{length-take}
use Rattle.paged_format.specs.Pages.{recovered}
use Rattle.paged_blob_parts.specs.Calls.{content}
use Rattle.paged_blob_parts.specs.Flushes.{physical_size}
use Rattle.paged_blob_parts.specs.Writers.{WriterState}
use Rattle.paged_blob.proofs.Recovered.{still, goes_on}
use Rattle.paged_blob_parts.proofs.WriterLaws.{written_is, is_writer}
use Rattle.paged_blob.proofs.writer.recovery.Writer+C+Recovering.truncate.Goals as goal

pub returns-then-not-is_within_numbers-clause-any_moment : goal.returns-then-not-is_within_numbers-clause-any_moment
returns-then-not-is_within_numbers-clause-any_moment g c synced w =
    let sum = g.C.Checksum.checksum_of in
    let calls = g.B.Blob.calls c.args.blob.now in
    let size = c.args.self.page_size in
    let old = recovered sum size (content calls) in
    let some_room : 12 < size = search rules in
    still sum size some_room old calls c.args.size synced w

pub returns-in_err-name-clause-any_moment : goal.returns-in_err-name-clause-any_moment
returns-in_err-name-clause-any_moment g c synced w =
    let sum = g.C.Checksum.checksum_of in
    let calls = g.B.Blob.calls c.args.blob.now in
    let size = c.args.self.page_size in
    let old = recovered sum size (content calls) in
    let some_room : 12 < size = search rules in
    still sum size some_room old calls c.args.size synced w

pub returns-clause-writer : goal.returns-clause-writer
returns-clause-writer g c =
    let sum = g.C.Checksum.checksum_of in
    let calls = g.B.Blob.calls c.args.blob.now in
    let size = c.self.inside.page_size in
    let seen : size ≡ c.args.self.page_size = ap (λ (s : WriterState). s.page_size) c.self.view_is in
    let room : 12 < c.args.self.page_size = search rules in
    let most : c.args.self.page_size ≤ 65536 = search rules in
    let some_room : 12 < size = omega (arith, seen, room) in
    let small : size ≤ 65536 = omega (arith, seen, most) in
    let old = recovered sum size (content calls) in
    let new = g.B.Blob.calls c.cut_blob.new.blob in
    let kept = take c.args.size old in
    let w = c.go_on_at.new.self in
    let s = c.in_ok-go_on_at.ensures in
    let count : length kept ≡ min c.args.size (length old) = length-take c.args.size old in
    let same_old : recovered sum c.args.self.page_size (content calls) ≡ old = ap (λ n. recovered sum n (content calls)) (sym seen) in
    let known : c.size-len.result ≡ length old = search rules in
    let least : c.min-kept.result ≡ min c.args.size c.size-len.result = search rules in
    let at : c.min-kept.result + 0 ≡ length kept = omega (arith, count, known, least) in
    let fits = c.is_within_numbers.ensures.0 c.if-not-is_within_numbers.false in
    let numbers : physical_size size (length kept) + 4096 < 2 ^ 64 = subst (λ n. physical_size size n + 4096 < 2 ^ 64) at fits in
    let after = goes_on sum size some_room small kept new c.in_ok-last.ensures.cut c.in_ok-last.last c.in_ok-last.ensures.last
    numbers w c.self.inside.tip.capacity c.min-kept.result (omega (arith, at)) s.same.0 s.synced s.slot s.tip in
    is_writer sum new w (omega (arith, some_room, s.same.0)) kept after

pub returns-clause-content : goal.returns-clause-content
returns-clause-content g c =
    let sum = g.C.Checksum.checksum_of in
    let calls = g.B.Blob.calls c.args.blob.now in
    let size = c.self.inside.page_size in
    let seen : size ≡ c.args.self.page_size = ap (λ (s : WriterState). s.page_size) c.self.view_is in
    let room : 12 < c.args.self.page_size = search rules in
    let most : c.args.self.page_size ≤ 65536 = search rules in
    let some_room : 12 < size = omega (arith, seen, room) in
    let small : size ≤ 65536 = omega (arith, seen, most) in
    let old = recovered sum size (content calls) in
    let new = g.B.Blob.calls c.cut_blob.new.blob in
    let kept = take c.args.size old in
    let w = c.go_on_at.new.self in
    let s = c.in_ok-go_on_at.ensures in
    let count : length kept ≡ min c.args.size (length old) = length-take c.args.size old in
    let same_old : recovered sum c.args.self.page_size (content calls) ≡ old = ap (λ n. recovered sum n (content calls)) (sym seen) in
    let known : c.size-len.result ≡ length old = search rules in
    let least : c.min-kept.result ≡ min c.args.size c.size-len.result = search rules in
    let at : c.min-kept.result + 0 ≡ length kept = omega (arith, count, known, least) in
    let fits = c.is_within_numbers.ensures.0 c.if-not-is_within_numbers.false in
    let numbers : physical_size size (length kept) + 4096 < 2 ^ 64 = subst (λ n. physical_size size n + 4096 < 2 ^ 64) at fits in
    let after = goes_on sum size some_room small kept new c.in_ok-last.ensures.cut c.in_ok-last.last c.in_ok-last.ensures.last
    numbers w c.self.inside.tip.capacity c.min-kept.result (omega (arith, at)) s.same.0 s.synced s.slot s.tip in
    written_is sum new w (omega (arith, some_room, s.same.0)) kept after ∙ ap (take c.args.size) (sym same_old)
