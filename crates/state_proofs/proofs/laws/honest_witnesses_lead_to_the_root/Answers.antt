use Rattle.state_proofs.proofs.WitnessLemmas.{honest_leads}
use Rattle.state_proofs.proofs.laws.honest_witnesses_lead_to_the_root.Goals as goal

pub returns : goal.returns
returns c setting state = honest_leads setting state
