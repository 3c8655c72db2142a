use Rattle.std.proofs.Common.{rules, ◌+◌, ◌*◌, ℕ, List, get_or, ap, sym, ◌∙◌}
use Rattle.auth_store_device.specs.declared.blocks.Part.{Part}
use Rattle.auth_store_device.specs.BlocksCode.{piece_bytes}
use Rattle.auth_store_device.proofs.Helds.{piece-is}
use Rattle.auth_store_device.proofs.blocks.Blocks.known_part.Goals as goal

pub returns-then-part-bytes-clause-bytes : goal.returns-then-part-bytes-clause-bytes
returns-then-part-bytes-clause-bytes c =
    let parts = c.parts-parts.result.now in
    let d : Part = record { block = 0; start = 0; count = 0 } in
    piece-is c.args.self.now.blocks parts c.args.bytes.now c.args.place d c.parts-parts.ensures.within c.parts-parts.ensures.cut (search rules)
    (search rules)
    (λ i below. c.requires.known i below ∙ ap (λ (l : List ℕ). get_or l (c.args.place * piece_bytes + i) 0) (sym c.parts-parts.ensures.bytes))
