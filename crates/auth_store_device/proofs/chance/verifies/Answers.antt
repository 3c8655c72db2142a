use Rattle.std.proofs.Common.{arith, ◌≡◌, ◌-◌, ◌<◌, ◌≤◌, ◌==◌, length, take, ap, ◌∙◌}
use Rattle.paged_format.specs.Footers.{slot_len, slot_crc}
use Rattle.auth_store_device.proofs.Chances.{vouches-long, vouches-none, vouches-some}
use Rattle.auth_store_device.proofs.chance.verifies.Goals as goal

pub returns-then-len-eq0 : goal.returns-then-len-eq0
returns-then-len-eq0 g c =
    let page = c.args.page.now in
    let size = length page in
    let none : slot_len size c.args.slot page ≡ 0 = omega arith in
    vouches-none g.C.Checksum.checksum_of size page (slot_len size c.args.slot page) (slot_crc size c.args.slot page) none

pub returns-then-len-page : goal.returns-then-len-page
returns-then-len-page g c =
    let page = c.args.page.now in
    let size = length page in
    let past : size - 12 < slot_len size c.args.slot page = omega arith in
    vouches-long g.C.Checksum.checksum_of size page (slot_len size c.args.slot page) (slot_crc size c.args.slot page) past

pub returns : goal.returns
returns g c =
    let page = c.args.page.now in
    let size = length page in
    let some : 0 < slot_len size c.args.slot page = omega arith in
    let within : slot_len size c.args.slot page ≤ size - 12 = omega arith in
    let vouched = vouches-some g.C.Checksum.checksum_of size page (slot_len size c.args.slot page) (slot_crc size c.args.slot page) some within in
    let said : c.slot_crc.result == c.checksum.result ≡ slot_crc size c.args.slot page == g.C.Checksum.checksum_of (take
    (slot_len size c.args.slot page) page) =
    ap (λ n. n == c.checksum.result) c.slot_crc.ensures
    ∙ ap (λ n. slot_crc size c.args.slot page == n)
    (c.checksum.ensures ∙ ap (λ n. g.C.Checksum.checksum_of (take n page)) c.slot_len-len.ensures) in
    said ∙ vouched
