use Rattle.state_proving.proofs.WitnessLemmas.{same_parts}
use Rattle.state_proving.proofs.root_witness.witness.Goals as goal

pub returns : goal.returns
returns g c height state stands =
    same_parts _ _ _ _ _ _ (c.root_of_grafted.ensures height state stands) (c.held_pending.ensures height state stands)
    (c.partial_chunk.ensures height state stands)
