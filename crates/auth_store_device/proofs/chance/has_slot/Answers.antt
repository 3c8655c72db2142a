use Rattle.std.proofs.Common.{length, take, drop, ap, ◌∙◌}
use Rattle.auth_store_device.proofs.Chances.{slot-other, slot-same}
use Rattle.auth_store_device.proofs.chance.has_slot.Goals as goal

pub returns-then-ne : goal.returns-then-ne
returns-then-ne c =
    let page = c.args.page.now in
    let shown = c.args.shown.now in
    let start = c.slot_start-start.ensures in
    slot-other (length shown) c.args.slot shown page c.part.result.now c.part-2.result.now (c.part.ensures ∙ ap (λ n. take 6 (drop n page)) start)
    (c.part-2.ensures ∙ ap (λ n. take 6 (drop n shown)) start) c.if-ne.ensures

pub returns : goal.returns
returns c =
    let page = c.args.page.now in
    let shown = c.args.shown.now in
    let start = c.slot_start-start.ensures in
    let len = c.slot_len-len.ensures in
    c.eq.ensures
    ∙ slot-same (length shown) c.args.slot shown page c.part.result.now c.part-2.result.now (c.part.ensures ∙ ap (λ n. take 6 (drop n page)) start)
    (c.part-2.ensures ∙ ap (λ n. take 6 (drop n shown)) start) c.if-ne.ensures c.part-3.result.now c.part-4.result.now
    (c.part-3.ensures ∙ ap (λ n. take n page) len) (c.part-4.ensures ∙ ap (λ n. take n shown) len)
