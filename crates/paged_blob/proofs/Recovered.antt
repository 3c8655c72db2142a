-- After a cut a writer goes on.
use Rattle.std.proofs.Common.{◌≡◌, ℕ, ◌+◌, ◌*◌, ◌/◌, ◌^◌, ◌<◌, ◌≤◌, min, List, [], length, drop, Option, None, Some}
use Rattle.std.proofs.Common.{sym, ◌∙◌, ap, subst, arith}
use Rattle.std.proofs.lemmas.List.{drop_all}
use Rattle.std.proofs.lemmas.Nat.{div-add-mod'}
use Rattle.paged_format.specs.Footers.{content_size}
use Rattle.paged_format.specs.Pages.{recovered}
use Rattle.paged_blob_parts.specs.Calls.{Call, Change, whole, content, file_of}
use Rattle.paged_blob_parts.specs.Moments.{Through, here}
use Rattle.paged_blob_parts.specs.Flushes.{physical_size}
use Rattle.paged_blob_parts.specs.Shrinks.{Withstands, IsCut}
use Rattle.paged_blob.specs.ShrinksCode.{EndsWith, tip_of, slot_of, bytes_of}
use Rattle.paged_blob_parts.specs.Writers.{IsWriterOf, WriterState, Keeps}
use Rattle.paged_blob_parts.specs.Laws.Durable.{withstands_keeps}
use Rattle.paged_blob.specs.declared.shrink.LastPage.{LastPage}
use Rattle.paged_blob_parts.proofs.CutBlob.{keeps_less}
use Rattle.paged_blob_parts.proofs.Shown.{shown_withstands}
use Rattle.paged_blob.proofs.CutWriter.{cut_writer}

-- the bytes of the last page are those of the content from there on
tip_bytes : (size : ℕ) (content base : List ℕ) (last : Option LastPage) → EndsWith size content base last
    → bytes_of last ≡ drop (length content / content_size size * content_size size) content
tip_bytes size content base None ends =
    let room = content_size size in
    sym (drop_all (length content / room * room) content (omega (arith, div-add-mod' (length content) room, ends)))
tip_bytes size content base (Some last) ends = ends.bytes

-- while nothing was done, what withstands is kept
pub still : (sum : List ℕ → ℕ) (size : ℕ) → 12 < size → (old : List ℕ) (calls : List Call) (most synced : ℕ)
    → Withstands sum size old synced (file_of calls)
    → Through (Keeps sum size old (min most synced)) calls calls
still sum size some_room old calls most synced w =
    here (keeps_less sum size old synced (min most synced) calls (omega arith) (withstands_keeps sum size (omega (arith, some_room)) old synced calls w))

pub goes_on : (sum : List ℕ → ℕ) (size : ℕ) → 12 < size → size ≤ 65536 → (content : List ℕ) (calls : List Call)
    → IsCut sum size content calls
    → (last : Option LastPage) → EndsWith size content (file_of calls).base last → physical_size size (length content) + 4096 < 2 ^ 64
    → (w : WriterState) (capacity count : ℕ) → count ≡ length content → w.page_size ≡ size → w.synced ≡ count → w.slot ≡ slot_of last
    → w.tip ≡ record { offset = count / content_size size * content_size size; bytes = bytes_of last; capacity = capacity }
    → IsWriterOf sum w.page_size calls content w.synced w.tip w.slot
goes_on sum size some_room small content calls cut last ends numbers w capacity count all size_is synced_at slot_is tip_at =
    let Tips : ℕ → Type 0 = λ n. w.tip ≡ record { offset = n / content_size size * content_size size; bytes = bytes_of last; capacity = capacity } in
    let tip_is : Tips (length content) = subst Tips all tip_at in
    let synced_is : w.synced ≡ length content = synced_at ∙ all in
    let offset = length content / content_size size * content_size size in
    let at : w.tip ≡ tip_of size content capacity =
    tip_is ∙ ap (λ bytes. record { offset = offset; bytes = bytes; capacity = capacity }) (tip_bytes size content (file_of calls).base last ends) in
    let start = cut_writer sum size some_room small content calls cut capacity last ends numbers in
    subst (λ n. IsWriterOf sum n calls content w.synced w.tip w.slot) (sym size_is)
    (subst (λ s. IsWriterOf sum size calls content w.synced w.tip s) (sym slot_is)
    (subst (λ t. IsWriterOf sum size calls content w.synced t (slot_of last)) (sym at)
    (subst (λ n. IsWriterOf sum size calls content n (tip_of size content capacity) (slot_of last)) (sym synced_is) start)))

-- where all is durable, what is recovered withstands each crash, to its last byte
pub whole_withstands : (sum : List ℕ → ℕ) (size : ℕ) (calls : List Call) → 12 < size → (file_of calls).changes ≡ []
    → Withstands sum size (recovered sum size (content calls)) (length (recovered sum size (content calls))) (file_of calls)
whole_withstands sum size calls some_room settled =
    let f = file_of calls in
    let P : List Change → Type 0 = λ changes.
    let now = whole f.base changes in
    Withstands sum size (recovered sum size now) (length (recovered sum size now)) (record { base = f.base; changes = changes; failed = f.failed }) in
    subst P (sym settled) (shown_withstands sum size some_room f.base f.failed)

-- and each image of it keeps all of that
pub settled_still : (sum : List ℕ → ℕ) (size : ℕ) (calls later : List Call) → 12 < size → (file_of calls).changes ≡ [] → later ≡ calls
    → Through (Keeps sum size (recovered sum size (content calls)) (length (recovered sum size (content calls)))) calls later
settled_still sum size calls later some_room settled same =
    let old = recovered sum size (content calls) in
    let P = Keeps sum size old (length old) in
    subst (Through P calls) (sym same)
    (here (withstands_keeps sum size (omega (arith, some_room)) old (length old) calls (whole_withstands sum size calls some_room settled)))

-- so does a cut to all of it, at each moment
pub cut_to_all : (sum : List ℕ → ℕ) (size : ℕ) (calls now later : List Call) → 12 < size → (file_of calls).changes ≡ [] → now ≡ calls
    → (page_size most : ℕ) → page_size ≡ size → most ≡ length (recovered sum page_size (content calls))
    → ((synced : ℕ) → Withstands sum page_size (recovered sum page_size (content now)) synced (file_of now)
    → Through (Keeps sum page_size (recovered sum page_size (content now)) (min most synced)) now later)
    → Through (Keeps sum size (recovered sum size (content calls)) (length (recovered sum size (content calls)))) calls later
cut_to_all sum size calls now later some_room settled now_is page_size most size_is most_is moments =
    let old = recovered sum size (content calls) in
    let P : List Call → ℕ → Type 0 = λ l s.
    (synced : ℕ) → Withstands sum s (recovered sum s (content l)) synced (file_of l)
    → Through (Keeps sum s (recovered sum s (content l)) (min most synced)) l later in
    let at : P calls size = subst (P calls) size_is (subst (λ l. P l page_size) now_is moments) in
    let found : most ≡ length old = most_is ∙ ap (λ s. length (recovered sum s (content calls))) size_is in
    let all : min most (length old) ≡ length old = omega (arith, found) in
    subst (λ n. Through (Keeps sum size old n) calls later) all (at (length old) (whole_withstands sum size calls some_room settled))
