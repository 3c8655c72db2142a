use Rattle.std.proofs.Common.{◌*◌, ◌^◌}
use Rattle.merkle_forest.specs.Laws.NodeGrowth.{node-stays}
use Rattle.state_current.proofs.CurrentLemmas.{settled_none}
use Rattle.state_current.proofs.laws.settled_chunks_stay_settled.Goals as goal

pub returns-clause-stay : goal.returns-clause-stay
returns-clause-stay g c level n m chunks le settled first peak stands =
    let it = settled first peak stands in
    (it.0, node-stays g.F.Family.merge_rule g.met.F.Family.merges_equals n m (first * 2 ^ level) it.0 le it.1, it.2)

pub returns-clause-none : goal.returns-clause-none
returns-clause-none g c level n = settled_none g.F.Family.merge_rule level n
