use Rattle.std.proofs.Common.{◌≡◌, ℕ, List, refl}
use Rattle.merkle_forest.specs.Hashing.{Hash}
use Rattle.merkle_forest.specs.Forest.{Rule}
use Rattle.merkle_proofs.specs.declared.extraction.ExtractionError.{ExtractionError}
use Rattle.merkle_proofs.specs.declared.extraction.ExtractionError.TheVariants.{InvalidProof, RootMismatch, Memory}
use Rattle.state_theory.specs.Canonical.{Setting}
use Rattle.state_proofs.specs.RangeExtracted.{IsRefusalToTell}
use Rattle.state_theory.specs.Verified.{Shown, VerifiesRange, RangeParts}
use Rattle.state_proofs.proofs.RangeLed.{one_led, none_led}
use Rattle.state_proofs.proofs.RangeNodes.{honest_shows}
use Rattle.state_proofs.proofs.laws.honest_ranges_tell_the_nodes_of_the_state.Goals as goal

-- what leads to the root that is asked for is refused only for want of memory
only_memory : (rule : Rule) (hash : Hash) (root : List ℕ) (proof : RangeParts) (shown : Shown) (error : ExtractionError)
    → VerifiesRange rule hash root proof shown → IsRefusalToTell rule hash root proof shown error → error ≡ Memory
only_memory rule hash root proof shown InvalidProof it nowhere = absurd (none_led rule hash root proof shown nowhere it)
only_memory rule hash root proof shown RootMismatch it elsewhere =
    absurd (elsewhere.differs (one_led rule hash elsewhere.other root proof shown elsewhere.leads it))
only_memory rule hash root proof shown Memory it lacking = refl

pub returns-clause-nodes : goal.returns-clause-nodes
returns-clause-nodes g c hash width level state shown whole low few wide shaped has =
    let setting : Setting = record { rule = g.F.Family.merge_rule; hash = hash; width = width; grafting_height = level } in
    honest_shows setting state shown g.met.F.Family.merges_equals g.met.F.Graftable.aligned g.met.F.Graftable.chunks_counted whole low few wide shaped
    has c.honest_proofs_tell_the_nodes_of_the_list.ensures.given

pub returns-clause-refused : goal.returns-clause-refused
returns-clause-refused g c hash width level state shown error whole low few wide shaped has =
    only_memory g.F.Family.merge_rule hash _ _ shown error
    (c.honest_ranges_verify.ensures hash width level state shown whole low few wide shaped has)
