use Rattle.std.proofs.Common.{map, refl}
use Rattle.merkle_theory.proofs.Pins.{begins_none}
use Rattle.merkle_proofs.proofs.pinned.+begins_with.Goals as goal

pub returns-in_default : goal.returns-in_default
returns-in_default g t c =
    let enc = g.D.Write.encoding in
    (λ yes. begins_none enc c.args.front.now (map enc c.args.digests.now) c.in_default.len_below, λ begins. refl)
