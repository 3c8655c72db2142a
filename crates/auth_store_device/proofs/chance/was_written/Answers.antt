use Rattle.std.proofs.Common.{rules, ◌≡◌, ◌+◌, ◌<◌, ◌||◌, false, [], length, take, get_or, ap, sym, ◌∙◌}
use Rattle.paged_blob_parts.specs.Calls.{File, opened, whole}
use Rattle.paged_blob_parts.specs.Chance.{has_slot, page_at, was_written}
use Rattle.auth_store_device.specs.Devices.{shown_file}
use Rattle.auth_store_device.specs.OpeningsCode.{change_in, file_after, file_from, is_base}
use Rattle.auth_store_device.specs.RecordsCode.{call_of, changes_of}
use Rattle.auth_store_device.proofs.Chances.{none-at, so-far, written-step}
use Rattle.auth_store_device.proofs.Replays.{changes-call}
use Rattle.auth_store_device.proofs.chance.was_written.Goals as goal

pub loop-place-preserved : goal.loop-place-preserved
loop-place-preserved c =
    let base = c.args.since.now.base.now in
    let calls = c.args.since.now.calls in
    let shown = c.args.shown.now in
    let size = length shown in
    let place = c.loop-place.place in
    let d = opened [] in
    let at = c.entry.ensures d in
    let call = call_of at.0 c.entry.result in
    let sofar : File = file_from (shown_file base) (take place calls) in
    let below : place < length calls = search rules in
    let is : call ≡ get_or calls place d = at.1 in
    let none : is_base call ≡ false = ap is_base is ∙ none-at calls place d c.requires.calls below in
    let read : c.make_whole.new.file.items ≡ whole c.loop-place.file.items (changes_of c.entry.result) = search rules in
    let made : c.make_whole.new.file.items ≡ whole c.loop-place.file.items (change_in call) =
    read ∙ ap (whole c.loop-place.file.items) (sym (changes-call at.0 c.entry.result)) in
    let step = written-step size c.args.page c.args.slot shown sofar call c.loop-place.file.items c.make_whole.new.file.items c.loop-place.is_found none
    c.loop-place.invariant.0 made c.loop-place.invariant.1 in
    let has : c.has_slot-is_found-in-loop-place.result ≡ has_slot size c.args.slot shown
    (page_at size c.args.page c.make_whole.new.file.items) = search rules in
    let next : file_after call sofar ≡ file_from (shown_file base) (take (place + 1) calls) =
    ap (λ x. file_after x sofar) is ∙ sym (so-far (shown_file base) calls place d below) in (
      step.0 ∙ ap (λ (f : File). whole f.base f.changes) next,
      ap (λ b. c.loop-place.is_found || b) has ∙ step.1 ∙ ap (λ (f : File). was_written size c.args.page c.args.slot shown f.base f.changes) next,
    )
