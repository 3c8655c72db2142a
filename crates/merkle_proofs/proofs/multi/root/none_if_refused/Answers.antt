use Rattle.std.proofs.Common.{refl}
use Rattle.merkle_theory.proofs.ShownRefusals.{refused_cannot}
use Rattle.merkle_proofs.proofs.multi.root.none_if_refused.Goals as goal

pub returns-in_default : goal.returns-in_default
returns-in_default g c leaves locations some why =
    (refl, refused_cannot leaves locations c.args.error some why c.in_default.not-Memory)
