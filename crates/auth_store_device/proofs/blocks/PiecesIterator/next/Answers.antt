use Rattle.std.proofs.Common.{rules, ◌≡◌, ◌∷◌, sym}
use Rattle.std.proofs.lemmas.List.Elements.{All-tail, All-same}
use Rattle.auth_store_device.specs.BlocksCode.{IsPartWithin}
use Rattle.auth_store_device.proofs.blocks.PiecesIterator.next.Goals as goal

pub invariant_of-self : goal.invariant_of-self
invariant_of-self c =
    let P = IsPartWithin c.self.inside.blocks.now.blocks in
    let is : c.self.inside.parts.now ≡ c.in_ok-part.part.now ∷ c.in_ok-part.later.now = search rules in
    All-tail P c.in_ok-part.part.now c.in_ok-part.later.now
    (All-same P (c.in_ok-part.part.now ∷ c.in_ok-part.later.now) c.self.inside.parts.now (sym is)
    c.self.invariant)
