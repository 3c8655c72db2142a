use Rattle.std.proofs.Common.{length}
use Rattle.state_theory.specs.Canonical.{Setting}
use Rattle.state_theory.specs.Laws.ChunkCounts.{one_pending}
use Rattle.state_theory.specs.Laws.Heights.{some_height}
use Rattle.state_theory.proofs.RangeAccepted.{range_verifies}
use Rattle.state_proofs.proofs.laws.honest_ranges_verify.Goals as goal

pub returns : goal.returns
returns g c hash width grafting_height state shown whole low few wide shaped has =
    let setting : Setting = record {
      rule = g.F.Family.merge_rule;
      hash = hash;
      width = width;
      grafting_height = grafting_height;
    } in
    range_verifies setting state shown g.met.F.Family.merges_equals g.met.F.Graftable.aligned g.met.F.Graftable.chunks_counted whole low few
    wide shaped has c.honest_ranges_lead_to_the_root.ensures
    (one_pending g.F.Family.merge_rule g.F.Graftable.birth_of (length state.operations) grafting_height
    (g.met.F.Graftable.births_counted (length state.operations) grafting_height few
    (some_height width grafting_height whole) low) (g.met.F.Graftable.births_soon grafting_height))
