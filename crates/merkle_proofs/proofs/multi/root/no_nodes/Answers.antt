use Rattle.std.proofs.Common.{arith}
use Rattle.merkle_theory.proofs.ShownRefusals.{needed_none}
use Rattle.merkle_proofs.proofs.multi.root.no_nodes.Goals as goal

pub returns : goal.returns
returns g c = needed_none g.F.Family.merge_rule c.args.leaves c.new.result.items (omega
    (arith, c.as_u64.ensures, c.if-as_u64-ne0.false)) c.new.ensures.items
