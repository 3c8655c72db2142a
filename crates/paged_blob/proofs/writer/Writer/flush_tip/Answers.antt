use Rattle.std.proofs.Common.{rules, arith, ◌≡◌, ◌+◌, ◌*◌, ◌/◌, ◌<◌, ◌≤◌, ℕ}
use Rattle.std.proofs.Common.{Bool, true, false, List, [], ◌∷◌, length, OnOk, subst, sym, ap, ⊎_elim}
use Rattle.std.proofs.lemmas.Bool.{cases_lt, both_ways}
use Rattle.std.proofs.lemmas.List.{nil_from_length}
use Rattle.paged_format.specs.Footers.{content_size}
use Rattle.paged_blob_parts.specs.Calls.{wrote}
use Rattle.paged_blob_parts.specs.Moments.{Through}
use Rattle.paged_blob_parts.specs.Flushes.{last_slot, flushed_bytes, page_count, SumsFit}
use Rattle.paged_blob_parts.specs.Writers.{WriterState, IsWriter, IsFlushed, Keeps, written}
use Rattle.paged_blob_parts.proofs.WriterLaws.{nothing_flushed, nothing_moments, all_flushed, all_moments, records_ok, on_both}
use Rattle.paged_blob.proofs.Completed.{write_completes_none}
use Rattle.paged_blob.proofs.writer.Writer.flush_tip.Goals as goal

some_bytes : (bytes : List ℕ) (empty : Bool) → (bytes ≡ [] → empty ≡ true) → empty ≡ false → 0 < length bytes
some_bytes bytes empty is not =
    ⊎_elim (λ lt. lt) (λ none. absurd (both_ways empty not (is (nil_from_length bytes (omega (arith, none)))))) (cases_lt 0 (length bytes))

pub returns-then-is_empty-clause-flushed : goal.returns-then-is_empty-clause-flushed
returns-then-is_empty-clause-flushed g c =
    let sum = g.C.Checksum.checksum_of in
    let old = g.B.Blob.calls c.args.blob.now in
    let w = c.args.self.now in
    let some_room : 12 < w.page_size = search rules in
    let small : w.page_size ≤ 65536 = search rules in
    let none : length w.tip.bytes ≡ 0 = search rules in
    nothing_flushed sum old w some_room small c.requires none

pub returns-then-is_empty-clause-any_moment : goal.returns-then-is_empty-clause-any_moment
returns-then-is_empty-clause-any_moment g c =
    let sum = g.C.Checksum.checksum_of in
    let old = g.B.Blob.calls c.args.blob.now in
    let w = c.args.self.now in
    let some_room : 12 < w.page_size = search rules in
    let small : w.page_size ≤ 65536 = search rules in
    nothing_moments sum old w some_room small c.requires

pub returns-clause-any_moment : goal.returns-clause-any_moment
returns-clause-any_moment g c =
    let sum = g.C.Checksum.checksum_of in
    let old = g.B.Blob.calls c.args.blob.now in
    let new = g.B.Blob.calls c.flush.new.blob in
    let i = c.self.inside in
    let v : WriterState = record { page_size = i.page_size; blob_id = i.blob_id; synced = i.synced; slot = i.slot; tip = i.tip } in
    let seen : v ≡ c.args.self.now = c.self.view_is in
    let is : IsWriter sum old v = subst (λ s. IsWriter sum old s) (sym seen) c.requires in
    let some_room : 12 < v.page_size = search rules in
    let small : v.page_size ≤ 65536 = search rules in
    let some : 0 < length v.tip.bytes = some_bytes v.tip.bytes c.is_empty.result c.is_empty.ensures.1 c.if-is_empty.false in
    let part = c.as_bytes.result.now in
    let first = c.offset.result / content_size v.page_size in
    let first_is : first ≡ v.tip.offset / content_size v.page_size = ap (λ n. n / content_size v.page_size) c.offset.ensures in
    subst (λ (s : WriterState). Through (Keeps sum s.page_size (written sum old s) s.synced) old new) seen
    (all_moments sum old v some_room small is some part first c.as_bytes.ensures first_is c.flush.result new c.flush.ensures.calls)

pub returns-clause-flushed : goal.returns-clause-flushed
returns-clause-flushed g c =
    let sum = g.C.Checksum.checksum_of in
    let old = g.B.Blob.calls c.args.blob.now in
    let new = g.B.Blob.calls c.flush.new.blob in
    let i = c.self.inside in
    let v : WriterState = record { page_size = i.page_size; blob_id = i.blob_id; synced = i.synced; slot = i.slot; tip = i.tip } in
    let seen : v ≡ c.args.self.now = c.self.view_is in
    let is : IsWriter sum old v = subst (λ s. IsWriter sum old s) (sym seen) c.requires in
    let some_room : 12 < v.page_size = search rules in
    let small : v.page_size ≤ 65536 = search rules in
    let some : 0 < length v.tip.bytes = some_bytes v.tip.bytes c.is_empty.result c.is_empty.ensures.1 c.if-is_empty.false in
    let part = c.as_bytes.result.now in
    let first = c.offset.result / content_size v.page_size in
    let first_is : first ≡ v.tip.offset / content_size v.page_size = ap (λ n. n / content_size v.page_size) c.offset.ensures in
    let F : WriterState → Type 0 = λ s. OnOk c.flush.result (IsFlushed sum s.page_size new (written sum old s) s.synced
    (s.tip.offset / content_size s.page_size + length s.tip.bytes / content_size s.page_size) (last_slot sum s.page_size s.slot s.tip.bytes)) in
    subst F seen
    (on_both c.flush.result (new ≡ wrote (first * v.page_size) (flushed_bytes sum v.page_size v.slot part) false true ∷ old)
    (SumsFit sum v.page_size (page_count v.page_size (length part)) part)
    (IsFlushed sum v.page_size new (written sum old v) v.synced
    (v.tip.offset / content_size v.page_size + length v.tip.bytes / content_size v.page_size) (last_slot sum v.page_size v.slot v.tip.bytes))
    (records_ok c.flush.result (wrote (first * v.page_size) (flushed_bytes sum v.page_size v.slot part) false) old new c.flush.ensures.calls)
    c.flush.ensures.fits (all_flushed sum old v some_room small is some part first c.as_bytes.ensures first_is new))

pub returns-clause-syncs : goal.returns-clause-syncs
returns-clause-syncs g c = write_completes_none c.flush.result _ _ _ _ _ c.flush.ensures.calls
