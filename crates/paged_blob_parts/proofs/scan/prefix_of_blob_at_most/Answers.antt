use Rattle.std.proofs.Common.{rules, ◌≡◌, ℕ, List, ◌+◌, ◌-◌, ◌*◌, ◌/◌, ◌<◌, ◌≤◌, ◌^◌, refl, ◌∙◌, ap, subst, arith}
use Rattle.std.proofs.Math.Nat.{div-mul-le_self, mul-le-mul_left, mul-le-mul_right}
use Rattle.paged_format.specs.Footers.{content_size}
use Rattle.paged_blob_parts.specs.Calls.{Call, content, file_of}
use Rattle.paged_blob_parts.specs.Answers.{IsSlice}
use Rattle.paged_blob_parts.proofs.Scanned.{pages_end, sliced, ends_here, goes_further, start_known, all_known}
use Rattle.paged_blob_parts.proofs.scan.prefix_of_blob_at_most.Goals as goal
use Rattle.paged_blob_parts.proofs.scan.prefix_of_blob_at_most.Goals.{then-loop-page-test+else-page-room, else-loop-page-test}

pub loop-page-init : goal.loop-page-init
loop-page-init g c =
    let size = c.args.physical_page_size in
    let footer : 12 < size = search rules in
    let page = c.min-page.result in
    let is : c.from-size.result ≡ size = search rules in
    let few : page ≤ c.args.proven / (c.from-size.result - 12) = search rules in
    let within : page ≤ c.args.blob_size / c.from-size.result = search rules in
    let first : page * content_size size ≤ c.args.proven =
    let most = div-mul-le_self c.args.proven (c.from-size.result - 12) in
    let more = mul-le-mul_right (c.from-size.result - 12) few in
    omega (arith, most, more, ap (λ s. page * (s - 12)) is) in
    record {
      within = within;
      calls = search rules;
      failures = search rules;
      left = omega arith;
      known = λ sound. start_known g.C.Checksum.checksum_of size footer (content (g.B.Blob.calls c.args.blob.now)) c.args.blob_size page c.args.proven first
          (c.requires.proven sound);
    }

-- the pages that are read end within the blob
pages_read : (page count pages from_size size blob_size : ℕ) → 12 < size → from_size ≡ size → page < pages → pages ≡ blob_size / from_size
    → count ≤ pages - page → (page + count) * size ≤ blob_size
pages_read page count pages from_size size blob_size footer is below pages_is few =
    pages_end page count pages size blob_size (omega (arith, footer)) (omega (arith, few, below)) (pages_is ∙ ap (λ s. blob_size / s) is)

pub overflow_add-page : goal.overflow_add-page
overflow_add-page g c =
    let size = c.args.physical_page_size in
    let footer : 12 < size = search rules in
    let is : c.from-size.result ≡ size = search rules in
    let page = c.loop-page.page in
    let count = c.min-count.result in
    let few : count ≤ c.args.blob_size / c.from-size.result - page = search rules in
    let pages = c.args.blob_size / c.from-size.result in
    let within = pages_read page count pages c.from-size.result size c.args.blob_size footer is c.loop-page-test.true refl few in
    let a = ap (λ s. page * (s - 12)) is in
    let b = ap (λ s. count * (s - 12)) is in
    let c1 : page * (size - 12) ≤ page * size = mul-le-mul_left page (omega arith) in
    let c2 : count * (size - 12) ≤ count * size = mul-le-mul_left count (omega arith) in
    let blob : c.args.blob_size < 2 ^ 64 = search rules in
    omega (arith, within, a, b, c1, c2, c.if-shown-count.true, blob)

pub returns-then-shown-count-clause-exact : goal.returns-then-shown-count-clause-exact
returns-then-shown-count-clause-exact g c = λ sound.
    let sum = g.C.Checksum.checksum_of in
    let size = c.args.physical_page_size in
    let calls = g.B.Blob.calls c.args.blob.now in
    let footer : 12 < size = search rules in
    let is : c.from-size.result ≡ size = search rules in
    let page = c.loop-page.page in
    let count = c.min-count.result in
    let i = c.loop-page.invariant in
    let few : count ≤ c.args.blob_size / c.from-size.result - page = search rules in
    let pages = c.args.blob_size / c.from-size.result in
    let within = pages_read page count pages c.from-size.result size c.args.blob_size footer is c.loop-page-test.true refl few in
    let P : List Call → Type 0 = λ calls. IsSlice (file_of calls) (page * c.from-size.result) (count * c.from-size.result) c.in_ok-bytes.bytes.items in
    let Q : ℕ → Type 0 = λ s. IsSlice (file_of calls) (page * s) (count * s) c.in_ok-bytes.bytes.items in
    let slice : Q size = subst Q is (subst P i.calls c.in_ok-bytes.ensures.slice) in
    let read = sliced calls (page * size) (count * size) c.in_ok-bytes.bytes.items sound slice in
    let b = ap (λ s. count * (s - 12)) is in
    let known = ends_here sum size footer (content calls) c.args.blob_size page count c.prefix_len-shown.result c.deref.result.now within read.0
    (c.deref.ensures.value ∙ read.1) c.prefix_len-shown.ensures (omega (arith, c.if-shown-count.true, b)) (i.known sound) in
    let a = ap (λ s. page * (s - 12)) is in
    omega (arith, known, a, c.min.ensures)

pub loop-page-preserved : goal.loop-page-preserved
loop-page-preserved g c =
    let sum = g.C.Checksum.checksum_of in
    let size = c.args.physical_page_size in
    let calls = g.B.Blob.calls c.args.blob.now in
    let footer : 12 < size = search rules in
    let is : c.from-size.result ≡ size = search rules in
    let page = c.loop-page.page in
    let count = c.min-count.result in
    let i = c.loop-page.invariant in
    let few : count ≤ c.args.blob_size / c.from-size.result - page = search rules in
    let pages = c.args.blob_size / c.from-size.result in
    let within = pages_read page count pages c.from-size.result size c.args.blob_size footer is c.loop-page-test.true refl few in
    let P : List Call → Type 0 = λ calls. IsSlice (file_of calls) (page * c.from-size.result) (count * c.from-size.result) c.in_ok-bytes.bytes.items in
    let Q : ℕ → Type 0 = λ s. IsSlice (file_of calls) (page * s) (count * s) c.in_ok-bytes.bytes.items in
    let slice : Q size = subst Q is (subst P i.calls c.in_ok-bytes.ensures.slice) in
    let b = ap (λ s. count * (s - 12)) is in
    record {
      within = omega (arith, few, c.loop-page-test.true);
      calls = c.in_ok-bytes.ensures.calls ∙ i.calls;
      failures = c.in_ok-bytes.ensures.failures ∙ i.failures;
      left = omega (arith, c.in_ok-bytes.ensures.left, i.left);
      known = λ sound.
          let read = sliced calls (page * size) (count * size) c.in_ok-bytes.bytes.items sound slice in
          goes_further sum size footer (content calls) c.args.blob_size page count c.prefix_len-shown.result c.deref.result.now within read.0
          (c.deref.ensures.value ∙ read.1) c.prefix_len-shown.ensures (omega (arith, c.if-shown-count.false, b)) (i.known sound);
    }

pub returns-clause-exact : goal.returns-clause-exact
returns-clause-exact g c = λ sound.
    let sum = g.C.Checksum.checksum_of in
    let size = c.args.physical_page_size in
    let calls = g.B.Blob.calls c.args.blob.now in
    let footer : 12 < size = search rules in
    let is : c.from-size.result ≡ size = search rules in
    let page = c.loop-page.page in
    let known = c.loop-page.invariant.known sound in
    let a = ap (λ s. page * (s - 12)) is in
    elim c.loop-page-test.branch [
      | then-loop-page-test+else-page-room w ↦ omega (arith, w.if-page-room.false, known, a, c.min-2.ensures)
      | else-loop-page-test w ↦
          let last : c.args.blob_size / size ≤ page = omega (arith, w.loop-page-test.false, ap (λ s. c.args.blob_size / s) is) in
          omega (arith, all_known sum size footer (content calls) c.args.blob_size page last known, a, c.min-2.ensures)
    ]
