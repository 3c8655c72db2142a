use Rattle.std.proofs.Common.{rules, arith, ◌≡◌, ◌+◌, ◌<◌, ◌^◌, ◌++◌, length, take, subst, sym, ap, ◌∙◌}
use Rattle.std.proofs.lemmas.List.{take_all}
use Rattle.paged_format.specs.Tips.{Tip}
use Rattle.paged_blob_parts.specs.Flushes.{physical_size}
use Rattle.paged_blob_parts.specs.Writers.{WriterState, IsWriter, written}
use Rattle.paged_blob_parts.specs.CachedContent.{HoldsPagesOf}
use Rattle.paged_blob_parts.proofs.CachedLaws.{holds_pages_more}
use Rattle.paged_blob.specs.Syncs.{IsUnderWay}
use Rattle.paged_blob.proofs.Syncing.{more_under_way, more_list}
use Rattle.paged_blob_parts.proofs.WriterLaws.{more_written, more_writer}
use Rattle.paged_blob.proofs.writer.Writer.try_append.Goals as goal

pub returns-clause-writer : goal.returns-clause-writer
returns-clause-writer g c =
    let sum = g.C.Checksum.checksum_of in
    let i = c.self.inside in
    let bytes = c.args.bytes.now in
    let w : WriterState = record { page_size = i.page_size; blob_id = i.blob_id; synced = i.synced; slot = i.slot; tip = i.tip } in
    let seen : w ≡ c.args.self.now = c.self.view_is in
    let some_room : 12 < w.page_size = search rules in
    let fits : physical_size w.page_size (w.tip.offset + length w.tip.bytes + length bytes) + 4096 < 2 ^ 64 = search rules in
    let all : take c.in_ok-append.field-0 bytes ≡ bytes = take_all c.in_ok-append.field-0 bytes (omega (arith, c.in_ok-append.ensures.count)) in
    let tip = c.append.new.self in
    let tip_is : tip ≡ record w.tip { bytes = w.tip.bytes ++ bytes } = c.in_ok-append.ensures.ok
    ∙ ap (λ l. record w.tip { bytes = w.tip.bytes ++ l }) all in
    λ calls writer.
    let is : IsWriter sum calls w = subst (λ v. IsWriter sum calls v) (sym seen) writer in
    subst (λ (t : Tip). IsWriter sum calls (record w { tip = t })) (sym tip_is) (more_writer sum calls w some_room is bytes fits)

pub returns-clause-content : goal.returns-clause-content
returns-clause-content g c =
    let sum = g.C.Checksum.checksum_of in
    let i = c.self.inside in
    let bytes = c.args.bytes.now in
    let w : WriterState = record { page_size = i.page_size; blob_id = i.blob_id; synced = i.synced; slot = i.slot; tip = i.tip } in
    let seen : w ≡ c.args.self.now = c.self.view_is in
    let some_room : 12 < w.page_size = search rules in
    let fits : physical_size w.page_size (w.tip.offset + length w.tip.bytes + length bytes) + 4096 < 2 ^ 64 = search rules in
    let all : take c.in_ok-append.field-0 bytes ≡ bytes = take_all c.in_ok-append.field-0 bytes (omega (arith, c.in_ok-append.ensures.count)) in
    let tip = c.append.new.self in
    let tip_is : tip ≡ record w.tip { bytes = w.tip.bytes ++ bytes } = c.in_ok-append.ensures.ok
    ∙ ap (λ l. record w.tip { bytes = w.tip.bytes ++ l }) all in
    λ calls writer.
    let is : IsWriter sum calls w = subst (λ v. IsWriter sum calls v) (sym seen) writer in
    ap (λ (t : Tip). written sum calls (record w { tip = t })) tip_is ∙ more_written sum calls w some_room is bytes fits
    ∙ ap (λ v. written sum calls v ++ bytes) seen

pub returns-clause-cached : goal.returns-clause-cached
returns-clause-cached g c =
    let sum = g.C.Checksum.checksum_of in
    let i = c.self.inside in
    let bytes = c.args.bytes.now in
    let w : WriterState = record { page_size = i.page_size; blob_id = i.blob_id; synced = i.synced; slot = i.slot; tip = i.tip } in
    let seen : w ≡ c.args.self.now = c.self.view_is in
    let some_room : 12 < w.page_size = search rules in
    let fits : physical_size w.page_size (w.tip.offset + length w.tip.bytes + length bytes) + 4096 < 2 ^ 64 = search rules in
    let all : take c.in_ok-append.field-0 bytes ≡ bytes = take_all c.in_ok-append.field-0 bytes (omega (arith, c.in_ok-append.ensures.count)) in
    let tip = c.append.new.self in
    let tip_is : tip ≡ record w.tip { bytes = w.tip.bytes ++ bytes } = c.in_ok-append.ensures.ok
    ∙ ap (λ l. record w.tip { bytes = w.tip.bytes ++ l }) all in
    λ calls cache writer holds.
    let is : IsWriter sum calls w = subst (λ v. IsWriter sum calls v) (sym seen) writer in
    let before = subst (λ v. HoldsPagesOf (written sum calls v) cache v.blob_id) (sym seen) holds in
    subst (λ (t : Tip). HoldsPagesOf (written sum calls (record w { tip = t })) cache w.blob_id) (sym tip_is)
    (subst (λ l. HoldsPagesOf l cache w.blob_id) (sym (more_written sum calls w some_room is bytes fits))
    (holds_pages_more (written sum calls w) bytes cache w.blob_id before))

pub returns-clause-under_way : goal.returns-clause-under_way
returns-clause-under_way g c =
    let sum = g.C.Checksum.checksum_of in
    let i = c.self.inside in
    let bytes = c.args.bytes.now in
    let w : WriterState = record { page_size = i.page_size; blob_id = i.blob_id; synced = i.synced; slot = i.slot; tip = i.tip } in
    let seen : w ≡ c.args.self.now = c.self.view_is in
    let some_room : 12 < w.page_size = search rules in
    let fits : physical_size w.page_size (w.tip.offset + length w.tip.bytes + length bytes) + 4096 < 2 ^ 64 = search rules in
    let all : take c.in_ok-append.field-0 bytes ≡ bytes = take_all c.in_ok-append.field-0 bytes (omega (arith, c.in_ok-append.ensures.count)) in
    let tip = c.append.new.self in
    let tip_is : tip ≡ record w.tip { bytes = w.tip.bytes ++ bytes } = c.in_ok-append.ensures.ok
    ∙ ap (λ l. record w.tip { bytes = w.tip.bytes ++ l }) all in
    λ calls started way.
    let is : IsUnderWay sum calls w started = subst (λ v. IsUnderWay sum calls v started) (sym seen) way in
    subst (λ (t : Tip). IsUnderWay sum calls (record w { tip = t }) started) (sym tip_is) (more_under_way sum calls w some_room started is bytes fits)

pub returns-clause-list : goal.returns-clause-list
returns-clause-list g c =
    let sum = g.C.Checksum.checksum_of in
    let i = c.self.inside in
    let bytes = c.args.bytes.now in
    let w : WriterState = record { page_size = i.page_size; blob_id = i.blob_id; synced = i.synced; slot = i.slot; tip = i.tip } in
    let seen : w ≡ c.args.self.now = c.self.view_is in
    let all : take c.in_ok-append.field-0 bytes ≡ bytes = take_all c.in_ok-append.field-0 bytes (omega (arith, c.in_ok-append.ensures.count)) in
    let tip = c.append.new.self in
    let tip_is : tip ≡ record w.tip { bytes = w.tip.bytes ++ bytes } = c.in_ok-append.ensures.ok
    ∙ ap (λ l. record w.tip { bytes = w.tip.bytes ++ l }) all in
    λ calls.
    ap (λ (t : Tip). written sum calls (record w { tip = t })) tip_is ∙ more_list sum calls w bytes ∙ ap (λ v. written sum calls v ++ bytes) seen

pub returns-clause-pages : goal.returns-clause-pages
returns-clause-pages g c =
    let sum = g.C.Checksum.checksum_of in
    let i = c.self.inside in
    let bytes = c.args.bytes.now in
    let w : WriterState = record { page_size = i.page_size; blob_id = i.blob_id; synced = i.synced; slot = i.slot; tip = i.tip } in
    let seen : w ≡ c.args.self.now = c.self.view_is in
    let all : take c.in_ok-append.field-0 bytes ≡ bytes = take_all c.in_ok-append.field-0 bytes (omega (arith, c.in_ok-append.ensures.count)) in
    let tip = c.append.new.self in
    let tip_is : tip ≡ record w.tip { bytes = w.tip.bytes ++ bytes } = c.in_ok-append.ensures.ok
    ∙ ap (λ l. record w.tip { bytes = w.tip.bytes ++ l }) all in
    λ calls cache holds.
    let before = subst (λ v. HoldsPagesOf (written sum calls v) cache v.blob_id) (sym seen) holds in
    subst (λ (t : Tip). HoldsPagesOf (written sum calls (record w { tip = t })) cache w.blob_id) (sym tip_is)
    (subst (λ l. HoldsPagesOf l cache w.blob_id) (sym (more_list sum calls w bytes))
    (holds_pages_more (written sum calls w) bytes cache w.blob_id before))
