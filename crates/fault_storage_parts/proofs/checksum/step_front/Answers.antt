use Rattle.std.proofs.Common.{◌∙◌, ◌∷◌, [], ap, get_or}
use Rattle.fault_storage_parts.specs.Crc32.{after_bytes}
use Rattle.fault_storage_parts.proofs.Crc.{four-more, front-eight}
use Rattle.fault_storage_parts.proofs.checksum.step_front.Goals as goal

pub returns : goal.returns
returns c =
    let bytes = c.args.bytes.now in
    four-more c.args.left c.step_four_on-first.result c.step_four-last.result
    (get_or bytes 0 0 ∷ get_or bytes 1 0 ∷ get_or bytes 2 0 ∷ get_or bytes 3 0 ∷ []) (get_or bytes 4 0) (get_or bytes 5 0)
    (get_or bytes 6 0) (get_or bytes 7 0)
    c.step_four_on-first.ensures c.step_four-last.ensures
    ∙ ap (after_bytes c.args.left) (front-eight bytes c.requires)
