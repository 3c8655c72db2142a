use Rattle.std.proofs.Common.{rules, ◌≡◌, ◌+◌, ◌*◌, ◌<◌, ◌^◌, true, ◌∷◌, ◌∙◌, ap, refl}
use Rattle.std.specs.Int.{w16, to_be_bytes}
use Rattle.paged_blob_parts.specs.Calls.{wrote}
use Rattle.paged_blob_parts.specs.WriteModes.{place_of}
use Rattle.paged_blob_parts.specs.declared.blob.WriteMode.TheVariants.{Sync}
use Rattle.paged_format.specs.Footers.{slot_bytes}
use Rattle.paged_blob_parts.specs.Shrinks.{other_slot, slot_at}
use Rattle.paged_blob_parts.proofs.Handed.{same_write, first_moments, second_moments, third_moments}
use Rattle.paged_blob.proofs.shrink.hand_over.Goals as goal

pub returns-in_err-write_at-clause-any_moment : goal.returns-in_err-write_at-clause-any_moment
returns-in_err-write_at-clause-any_moment g c =
    let sum = g.C.Checksum.checksum_of in
    let size = c.args.physical_page_size in
    let calls = g.B.Blob.calls c.args.blob.now in
    let footer : 12 < size = search rules in
    let small : c.args.len < 2 ^ 16 = search rules in
    let fits : c.args.crc < 2 ^ 32 = search rules in
    let t = c.requires.trimmed in
    let at = c.args.page * c.from.result + c.slot_start.result in
    let place : at ≡ slot_at size c.args.page (other_slot c.args.counted) = search rules in
    first_moments sum size footer calls c.args.page c.args.counted c.args.len c.args.crc t small fits c.write_at.result
    (place_of Sync at c.slot_of.result) c.slot_of.result (g.B.Blob.calls c.write_at.new.self) (ap (place_of Sync at) c.slot_of.ensures ∙ place)
    c.slot_of.ensures c.write_at.ensures.calls

pub returns-in_err-write_at-2-clause-any_moment : goal.returns-in_err-write_at-2-clause-any_moment
returns-in_err-write_at-2-clause-any_moment g c =
    let sum = g.C.Checksum.checksum_of in
    let size = c.args.physical_page_size in
    let calls = g.B.Blob.calls c.args.blob.now in
    let footer : 12 < size = search rules in
    let small : c.args.len < 2 ^ 16 = search rules in
    let fits : c.args.crc < 2 ^ 32 = search rules in
    let t = c.requires.trimmed in
    let at = c.args.page * c.from.result + c.slot_start.result in
    let there = slot_at size c.args.page (other_slot c.args.counted) in
    let same : at ≡ there = search rules in
    let one = place_of Sync at c.slot_of.result in
    let place : one ≡ there = ap (place_of Sync at) c.slot_of.ensures ∙ same in
    let mid = g.B.Blob.calls c.write_at.new.self in
    let mid_is = c.in_ok-write_at.ensures.calls ∙ same_write one there c.slot_of.result (slot_bytes 0 c.args.crc) calls calls place c.slot_of.ensures refl in
    let so_far = first_moments sum size footer calls c.args.page c.args.counted c.args.len c.args.crc t small fits c.write_at.result one c.slot_of.result mid
    place c.slot_of.ensures c.write_at.ensures.calls in
    let next = g.B.Blob.calls c.write_at-2.new.self in
    let other = place_of Sync at c.to_be_bytes.result in
    let second : other ≡ there = ap (place_of Sync at) c.to_be_bytes.ensures ∙ same in
    let two = second_moments sum size footer calls c.args.page c.args.counted c.args.len c.args.crc t small fits c.write_at-2.result other
    c.to_be_bytes.result mid next second c.to_be_bytes.ensures mid_is so_far c.write_at-2.ensures.calls in
    two

pub returns-clause-any_moment : goal.returns-clause-any_moment
returns-clause-any_moment g c =
    let sum = g.C.Checksum.checksum_of in
    let size = c.args.physical_page_size in
    let calls = g.B.Blob.calls c.args.blob.now in
    let footer : 12 < size = search rules in
    let small : c.args.len < 2 ^ 16 = search rules in
    let fits : c.args.crc < 2 ^ 32 = search rules in
    let t = c.requires.trimmed in
    let at = c.args.page * c.from.result + c.slot_start.result in
    let there = slot_at size c.args.page (other_slot c.args.counted) in
    let same : at ≡ there = search rules in
    let one = place_of Sync at c.slot_of.result in
    let place : one ≡ there = ap (place_of Sync at) c.slot_of.ensures ∙ same in
    let mid = g.B.Blob.calls c.write_at.new.self in
    let mid_is = c.in_ok-write_at.ensures.calls ∙ same_write one there c.slot_of.result (slot_bytes 0 c.args.crc) calls calls place c.slot_of.ensures refl in
    let so_far = first_moments sum size footer calls c.args.page c.args.counted c.args.len c.args.crc t small fits c.write_at.result one c.slot_of.result mid
    place c.slot_of.ensures c.write_at.ensures.calls in
    let next = g.B.Blob.calls c.write_at-2.new.self in
    let other = place_of Sync at c.to_be_bytes.result in
    let second : other ≡ there = ap (place_of Sync at) c.to_be_bytes.ensures ∙ same in
    let two = second_moments sum size footer calls c.args.page c.args.counted c.args.len c.args.crc t small fits c.write_at-2.result other
    c.to_be_bytes.result mid next second c.to_be_bytes.ensures mid_is so_far c.write_at-2.ensures.calls in
    let next_is = c.in_ok-write_at-2.ensures.calls
    ∙ same_write other there c.to_be_bytes.result (to_be_bytes w16 c.args.len) mid (wrote there (slot_bytes 0 c.args.crc) true true ∷ calls) second
    c.to_be_bytes.ensures mid_is in
    let last = c.args.page * c.from.result + c.slot_start-2.result in
    let back : last ≡ slot_at size c.args.page c.args.counted = search rules in
    third_moments sum size footer calls c.args.page c.args.counted c.args.len c.args.crc t small fits c.write_at-3.result
    (place_of Sync last c.slot_of-2.result) c.slot_of-2.result next (g.B.Blob.calls c.write_at-3.new.self)
    (ap (place_of Sync last) c.slot_of-2.ensures ∙ back) c.slot_of-2.ensures next_is two c.write_at-3.ensures.calls
