use Rattle.std.proofs.Common.{rules, ◌≡◌, ◌≤◌, ◌<◌, ◌^◌, ◌-◌, length, drop, sym}
use Rattle.paged_format.specs.Footers.{footer_bytes}
use Rattle.paged_format.specs.Laws.Pages.{counted_slot-footer}
use Rattle.paged_format.proofs.footer.Footer.valid_slot.Goals as goal

pub returns : goal.returns
returns g c =
    let f = c.of-footer.result in
    let page = c.args.page.now in
    let size = length page in
    let room : 12 ≤ size = search rules in
    let is : drop (size - 12) page ≡ footer_bytes f.len1 f.crc1 f.len2 f.crc2 = search rules in
    let len1 : f.len1 < 2 ^ 16 = search rules in
    let crc1 : f.crc1 < 2 ^ 32 = search rules in
    let len2 : f.len2 < 2 ^ 16 = search rules in
    let crc2 : f.crc2 < 2 ^ 32 = search rules in
    let counted = counted_slot-footer g.C.Checksum.checksum_of size page f.len1 f.crc1 f.len2 f.crc2 room is len1 crc1 len2 crc2 in
    rw (c.greater_slot.ensures, c.vouched_len-first.ensures, c.vouched_len-second.ensures) (sym counted)
