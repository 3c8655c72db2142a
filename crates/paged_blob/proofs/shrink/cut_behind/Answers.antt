use Rattle.std.proofs.Common.{rules, ◌≡◌, ◌≤◌, ◌<◌, ◌+◌, ◌*◌, ℕ, List, true}
use Rattle.std.proofs.Common.{OnOk, length, take, ap, subst, refl, ◌∷◌, ◌∙◌, false, sym, arith}
use Rattle.std.proofs.lemmas.Result.{err_from_is_err_and}
use Rattle.paged_format.specs.Footers.{content_size}
use Rattle.paged_format.specs.Pages.{recovered}
use Rattle.paged_blob_parts.specs.Calls.{Call, resized_to, file_of, content}
use Rattle.paged_blob_parts.specs.Moments.{Through}
use Rattle.paged_blob_parts.specs.Writers.{Keeps}
use Rattle.paged_blob_parts.specs.Shrinks.{IsCut}
use Rattle.paged_blob_parts.specs.declared.error.CallKind.TheVariants.{Resize}
use Rattle.paged_blob.proofs.Settled.{pages_there, resized_moments, sync_moments, resized_done, still_sound, call_cause, synced_cut_if, ends_by, behind_exact}
use Rattle.paged_blob_parts.proofs.Done.{Done, Exact}
use Rattle.paged_blob.proofs.shrink.cut_behind.Goals as goal

-- a cut behind the last page leaves no part of one
no_part : (room pages : ℕ) (len : ℕ) → pages * room ≤ len → pages * room + 0 ≤ len
no_part room pages len within = omega (arith, within)

pub overflow_mul-pages : goal.overflow_mul-pages
overflow_mul-pages g c =
    let sum = g.C.Checksum.checksum_of in
    let size = c.args.physical_page_size in
    let calls = g.B.Blob.calls c.args.blob.now in
    let footer : 12 < size = search rules in
    let is : c.from.result ≡ size = search rules in
    let short : 0 < content_size size = omega (arith, footer) in
    let within = no_part (content_size size) c.args.pages (length (recovered sum size (file_of calls).base)) c.requires.within in
    let there = pages_there sum size footer calls c.requires.settled c.args.pages 0 short within in
    omega (arith, there, c.requires.numbers, ap (λ s. c.args.pages * s) is)

pub returns-in_err-resize-clause-any_moment : goal.returns-in_err-resize-clause-any_moment
returns-in_err-resize-clause-any_moment g c =
    let sum = g.C.Checksum.checksum_of in
    let size = c.args.physical_page_size in
    let calls = g.B.Blob.calls c.args.blob.now in
    let pages = c.args.pages in
    let footer : 12 < size = search rules in
    let is : c.from.result ≡ size = search rules in
    let short : 0 < content_size size = omega (arith, footer) in
    let old = recovered sum size (file_of calls).base in
    let within = no_part (content_size size) pages (length old) c.requires.within in
    let there = pages_there sum size footer calls c.requires.settled pages 0 short within in
    let P : ℕ → Type 0 = λ n. Through (Keeps sum size old n) calls (g.B.Blob.calls c.resize.new.self) in
    let count : pages * content_size size + 0 ≡ pages * content_size size = omega arith in
    subst P count
    (resized_moments sum size footer calls c.requires.settled pages 0 short within c.resize.result (pages * c.from.result) pages
    (g.B.Blob.calls c.resize.new.self) (ap (λ s. pages * s) is) (omega arith) (λ none. absurd (omega (arith, none))) there c.resize.ensures.calls)

pub returns-in_err-resize-clause-cause : goal.returns-in_err-resize-clause-cause
returns-in_err-resize-clause-cause g c =
    let sum = g.C.Checksum.checksum_of in
    let size = c.args.physical_page_size in
    let calls = g.B.Blob.calls c.args.blob.now in
    let footer : 12 < size = search rules in
    let is : c.from.result ≡ size = search rules in
    let short : 0 < content_size size = omega (arith, footer) in
    let within = no_part (content_size size) c.args.pages (length (recovered sum size (file_of calls).base)) c.requires.within in
    let there = pages_there sum size footer calls c.requires.settled c.args.pages 0 short within in
    let p = err_from_is_err_and c.from_residual.result c.from_residual.ensures.1 in
    let reach : c.args.pages * c.from.result ≤ length (file_of calls).base = omega (arith, there, ap (λ s. c.args.pages * s) is) in
    rw (p.1, p.2) (call_cause (g.B.Blob.failures c.args.blob.now) Resize (c.args.pages * c.from.result) (length (file_of calls).base)
    c.in_err-resize.field-0.0 reach c.in_err-resize.ensures.cause)

pub returns-clause-any_moment : goal.returns-clause-any_moment
returns-clause-any_moment g c =
    let sum = g.C.Checksum.checksum_of in
    let size = c.args.physical_page_size in
    let calls = g.B.Blob.calls c.args.blob.now in
    let pages = c.args.pages in
    let footer : 12 < size = search rules in
    let is : c.from.result ≡ size = search rules in
    let short : 0 < content_size size = omega (arith, footer) in
    let old = recovered sum size (file_of calls).base in
    let within = no_part (content_size size) pages (length old) c.requires.within in
    let there = pages_there sum size footer calls c.requires.settled pages 0 short within in
    let count : pages * content_size size + 0 ≡ pages * content_size size = omega arith in
    let now = resized_to (pages * size) true ∷ calls in
    let mid = g.B.Blob.calls c.resize.new.self in
    let mid_is : mid ≡ now = c.in_ok-resize.ensures.calls ∙ ap (λ s. resized_to (pages * s) true ∷ calls) is in
    let D : List Call → Type 0 = λ l. Done sum size footer old (length (file_of calls).base) pages 0 l in
    let done : D mid = subst D (sym mid_is)
    (resized_done sum size footer calls c.requires.settled pages 0 short within pages true (omega arith) (λ none. absurd (omega (arith, none))) there) in
    let sound : (file_of mid).failed ≡ false = ap (λ l. (file_of l).failed) mid_is ∙ still_sound (file_of calls).failed c.requires.sound in
    let so_far = resized_moments sum size footer calls c.requires.settled pages 0 short within c.resize.result (pages * c.from.result) pages mid
    (ap (λ s. pages * s) is) (omega arith) (λ none. absurd (omega (arith, none))) there c.resize.ensures.calls in
    let P : ℕ → Type 0 = λ n. Through (Keeps sum size old n) calls (g.B.Blob.calls c.sync.new.self) in
    subst P count
    (sync_moments sum size footer calls c.requires.settled pages 0 short within c.sync.result mid (g.B.Blob.calls c.sync.new.self) done sound so_far
    c.sync.ensures.calls)

pub returns-clause-cut : goal.returns-clause-cut
returns-clause-cut g c =
    let sum = g.C.Checksum.checksum_of in
    let size = c.args.physical_page_size in
    let calls = g.B.Blob.calls c.args.blob.now in
    let pages = c.args.pages in
    let footer : 12 < size = search rules in
    let is : c.from.result ≡ size = search rules in
    let short : 0 < content_size size = omega (arith, footer) in
    let old = recovered sum size (file_of calls).base in
    let within = no_part (content_size size) pages (length old) c.requires.within in
    let there = pages_there sum size footer calls c.requires.settled pages 0 short within in
    let count : pages * content_size size + 0 ≡ pages * content_size size = omega arith in
    let now = resized_to (pages * size) true ∷ calls in
    let mid = g.B.Blob.calls c.resize.new.self in
    let mid_is : mid ≡ now = c.in_ok-resize.ensures.calls ∙ ap (λ s. resized_to (pages * s) true ∷ calls) is in
    let D : List Call → Type 0 = λ l. Done sum size footer old (length (file_of calls).base) pages 0 l in
    let done : D mid = subst D (sym mid_is)
    (resized_done sum size footer calls c.requires.settled pages 0 short within pages true (omega arith) (λ none. absurd (omega (arith, none))) there) in
    let sound : (file_of mid).failed ≡ false = ap (λ l. (file_of l).failed) mid_is ∙ still_sound (file_of calls).failed c.requires.sound in
    let E : List Call → Type 0 = λ l. Exact sum size footer old (length (file_of calls).base) pages 0 (content l) pages in
    let exact : E mid = subst E (sym mid_is) (behind_exact sum size footer calls c.requires.settled pages 0 short within true refl) in
    let P : ℕ → Type 0 = λ n. OnOk c.sync.result (IsCut sum size (take n old) (g.B.Blob.calls c.sync.new.self)) in
    subst P count
    (synced_cut_if sum size footer calls c.requires.settled pages 0 short within c.sync.result mid (g.B.Blob.calls c.sync.new.self) pages done sound exact
    c.sync.ensures.calls)

pub returns-clause-ends : goal.returns-clause-ends
returns-clause-ends g c = ends_by c.sync.result (g.B.Blob.calls c.resize.new.self) (g.B.Blob.calls c.sync.new.self) c.sync.ensures.calls
