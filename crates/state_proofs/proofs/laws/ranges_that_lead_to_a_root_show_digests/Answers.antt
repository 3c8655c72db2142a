use Rattle.state_proofs.proofs.RangeNodes.{shows_some}
use Rattle.state_proofs.proofs.laws.ranges_that_lead_to_a_root_show_digests.Goals as goal

pub returns : goal.returns
returns g c hash level root proof shown whole it =
    shows_some g.F.Family.merge_rule g.met.F.Family.merges_equals c.proofs_that_lead_to_a_root_give_digests.ensures hash level root proof shown whole it
